use Rattle.gsl_lower_law_shader.proofs.Ranked.{ranked_do}
use Rattle.gsl_lower_law_shader.proofs.laws.functions_do_at_each_depth.Goals as goal

pub returns : goal.returns
returns c = ranked_do
