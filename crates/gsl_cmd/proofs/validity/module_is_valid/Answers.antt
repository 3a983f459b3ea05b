use Rattle.gsl_cmd.proofs.ValidModule.{module_valid}
use Rattle.gsl_cmd.proofs.validity.module_is_valid.Goals as goal

pub returns : goal.returns
returns c = module_valid
