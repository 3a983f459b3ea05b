use Rattle.gsl_lower_law_main.proofs.Outputs.{output_told}
use Rattle.gsl_lower_law_main.proofs.laws.outputs_are_told.Goals as goal

pub returns : goal.returns
returns c m input whole f p around has same s state holds typed = output_told m input whole f p around same s state holds typed has
