use Rattle.gsl_lower_law_stmt.proofs.Declared.{declared_does}
use Rattle.gsl_lower_law_stmt.proofs.laws.variables_are_declared.Goals as goal

pub returns : goal.returns
returns c = declared_does
