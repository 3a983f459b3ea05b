use Rattle.gsl_lower_law_buffers.proofs.Staying.{all_stay}
use Rattle.gsl_lower_law_buffers.proofs.laws.buffers_stay.Goals as goal

pub returns : goal.returns
returns c = all_stay
