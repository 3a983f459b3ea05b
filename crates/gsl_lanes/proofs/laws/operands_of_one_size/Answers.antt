use Rattle.gsl_lanes.proofs.Each.{one_size}
use Rattle.gsl_lanes.proofs.laws.operands_of_one_size.Goals as goal

pub returns : goal.returns
returns c = one_size
