use Rattle.gsl_cmd.proofs.PortableModule.{module_portable}
use Rattle.gsl_cmd.proofs.validity.module_is_portable.Goals as goal

pub returns : goal.returns
returns c = module_portable
