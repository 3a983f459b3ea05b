use Rattle.gsl_lower_law_inner.proofs.Declaring.{no_variables}
use Rattle.gsl_lower_law_inner.proofs.laws.inner_code_declares_no_variables.Goals as goal

pub returns : goal.returns
returns c = no_variables
