use Rattle.gsl_lower_law_shader.proofs.Ended.{ends_as}
use Rattle.gsl_lower_law_shader.proofs.laws.modules_end_as_shaders.Goals as goal

pub returns : goal.returns
returns c = ends_as
