use Rattle.gsl_lower_law_outside.proofs.Program.{declared_told}
use Rattle.gsl_lower_law_outside.proofs.laws.what_is_known_is_told.Goals as goal

pub returns : goal.returns
returns c = declared_told
