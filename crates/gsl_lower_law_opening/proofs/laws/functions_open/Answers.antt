use Rattle.gsl_lower_law_opening.proofs.Opened.{opened}
use Rattle.gsl_lower_law_opening.proofs.laws.functions_open.Goals as goal

pub returns : goal.returns
returns c = opened
