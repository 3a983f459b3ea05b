use Rattle.gsl_lower_law_zeros.proofs.Given.{zeros_given}
use Rattle.gsl_lower_law_zeros.proofs.laws.zeros_give.Goals as goal

pub returns : goal.returns
returns c = zeros_given
