use Rattle.gsl_cmd.proofs.Sizes.{module_small}
use Rattle.gsl_cmd.proofs.validity.module_is_small.Goals as goal

pub returns : goal.returns
returns c = module_small
