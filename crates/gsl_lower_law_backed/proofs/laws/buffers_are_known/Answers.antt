use Rattle.gsl_lower_law_backed.proofs.Backed.{buffers_known}
use Rattle.gsl_lower_law_backed.proofs.laws.buffers_are_known.Goals as goal

pub returns : goal.returns
returns c = buffers_known
