use Rattle.gsl_region.proofs.Focus.{begun}
use Rattle.gsl_region.proofs.laws.variables_begin.Goals as goal

pub returns : goal.returns
returns c = begun
