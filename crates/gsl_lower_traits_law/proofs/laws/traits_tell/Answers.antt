use Rattle.gsl_lower_traits_law.proofs.Told.{expr_tells}
use Rattle.gsl_lower_traits_law.proofs.laws.traits_tell.Goals as goal

pub returns : goal.returns
returns c = expr_tells
