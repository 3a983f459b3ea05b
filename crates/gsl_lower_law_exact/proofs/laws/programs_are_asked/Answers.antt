use Rattle.gsl_lower_law_exact.proofs.Blocks.{programs_asked}
use Rattle.gsl_lower_law_exact.proofs.laws.programs_are_asked.Goals as goal

pub returns : goal.returns
returns c = programs_asked
