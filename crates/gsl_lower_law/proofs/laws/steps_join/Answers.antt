use Rattle.gsl_lower_law.specs.Values.{Stands}
use Rattle.gsl_lower_law.proofs.Joining.{does_then}
use Rattle.gsl_lower_law.proofs.laws.steps_join.Goals as goal

pub returns : goal.returns
returns c = λ m input whole v w choices left state before first next. does_then m input whole (λ id ids. Stands ids id v) (λ id ids. Stands ids id w) choices left state before first next
