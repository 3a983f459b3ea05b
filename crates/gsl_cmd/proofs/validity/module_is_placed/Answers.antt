use Rattle.gsl_cmd.proofs.Placement.{module_placed}
use Rattle.gsl_cmd.proofs.validity.module_is_placed.Goals as goal

pub returns : goal.returns
returns c = module_placed
