use Rattle.gsl_lower_law_exact.proofs.Exactly.{does_as_shader}
use Rattle.gsl_lower_law_exact.proofs.laws.what_ends_alike_does_so.Goals as goal

pub returns : goal.returns
returns c = does_as_shader
