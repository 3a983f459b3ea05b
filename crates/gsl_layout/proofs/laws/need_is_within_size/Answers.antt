use Rattle.gsl_layout.proofs.Bounds.{need_le_size}
use Rattle.gsl_layout.proofs.laws.need_is_within_size.Goals as goal

pub returns : goal.returns
returns c = need_le_size
