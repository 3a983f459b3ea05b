use Rattle.gsl_lower_follows.proofs.Stretches.{stretch_then}
use Rattle.gsl_lower_follows.proofs.laws.stretches_compose.Goals as goal

pub returns : goal.returns
returns c = stretch_then
