use Rattle.gsl_spv.proofs.Defining.{one_id}
use Rattle.gsl_spv.proofs.laws.one_id.Goals as goal

pub returns : goal.returns
returns c = one_id
