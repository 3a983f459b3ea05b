use Rattle.gsl_lower_law_inner.proofs.Statements.{row_inner}
use Rattle.gsl_lower_law_inner.proofs.laws.bodies_put_inner_code.Goals as goal

pub returns : goal.returns
returns c = row_inner
