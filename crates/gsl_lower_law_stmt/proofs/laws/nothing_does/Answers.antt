use Rattle.gsl_lower_law_stmt.proofs.Rows.{nothing_does}
use Rattle.gsl_lower_law_stmt.proofs.laws.nothing_does.Goals as goal

pub returns : goal.returns
returns c = nothing_does
