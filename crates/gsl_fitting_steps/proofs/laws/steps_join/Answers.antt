use Rattle.gsl_fitting_steps.proofs.Joining.{joined}
use Rattle.gsl_fitting_steps.proofs.laws.steps_join.Goals as goal

pub returns : goal.returns
returns c = λ m rank f given first next between now before. joined m rank f given first next between now before
