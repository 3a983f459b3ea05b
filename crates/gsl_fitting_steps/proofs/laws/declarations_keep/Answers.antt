use Rattle.gsl_fitting_steps.proofs.Declaring.{intern_keeps}
use Rattle.gsl_fitting_steps.proofs.laws.declarations_keep.Goals as goal

pub returns : goal.returns
returns c = intern_keeps
