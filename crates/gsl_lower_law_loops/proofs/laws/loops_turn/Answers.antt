use Rattle.gsl_lower_law_loops.proofs.Looped.{loop_does}
use Rattle.gsl_lower_law_loops.proofs.laws.loops_turn.Goals as goal

pub returns : goal.returns
returns c m input sections f p around body x does_body test step y z tests steps last = loop_does m input sections f p around body x does_body step z steps test y tests last
