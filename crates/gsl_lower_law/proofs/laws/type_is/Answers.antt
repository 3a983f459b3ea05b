use Rattle.gsl_lower_law.proofs.Constants.{type_is}
use Rattle.gsl_lower_law.proofs.laws.type_is.Goals as goal

pub returns : goal.returns
returns c = type_is
