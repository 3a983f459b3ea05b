use Rattle.gsl_lower_law_stmt.proofs.Rows.{all_do}
use Rattle.gsl_lower_law_stmt.proofs.laws.statements_follow_each_other.Goals as goal

pub returns : goal.returns
returns c = all_do
