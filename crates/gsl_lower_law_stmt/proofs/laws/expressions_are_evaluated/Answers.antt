use Rattle.gsl_lower_law_stmt.proofs.Exits.{eval_does}
use Rattle.gsl_lower_law_stmt.proofs.laws.expressions_are_evaluated.Goals as goal

pub returns : goal.returns
returns c = eval_does
