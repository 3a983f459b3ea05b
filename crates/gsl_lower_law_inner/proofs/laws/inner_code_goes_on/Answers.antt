use Rattle.gsl_lower_law_inner.proofs.Declaring.{goes_on}
use Rattle.gsl_lower_law_inner.proofs.laws.inner_code_goes_on.Goals as goal

pub returns : goal.returns
returns c = goes_on
