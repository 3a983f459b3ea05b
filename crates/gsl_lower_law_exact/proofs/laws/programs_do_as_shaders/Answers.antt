use Rattle.gsl_lower_law_exact.proofs.Doing.{do_as_shaders}
use Rattle.gsl_lower_law_exact.proofs.laws.programs_do_as_shaders.Goals as goal

pub returns : goal.returns
returns c = do_as_shaders
