use Rattle.gsl_lower_law_inner.proofs.Statements.{stmt_inner}
use Rattle.gsl_lower_law_inner.proofs.laws.statements_put_inner_code.Goals as goal

pub returns : goal.returns
returns c = stmt_inner
