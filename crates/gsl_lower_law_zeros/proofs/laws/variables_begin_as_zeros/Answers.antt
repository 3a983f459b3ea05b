use Rattle.gsl_lower_law_zeros.proofs.Given.{zeros_declared}
use Rattle.gsl_lower_law_zeros.proofs.laws.variables_begin_as_zeros.Goals as goal

pub returns : goal.returns
returns c = zeros_declared
