use Rattle.gsl_values.proofs.Clamps.{clamp_between, clamp_unmoved}
use Rattle.gsl_values.proofs.laws.clamp_within.Goals as goal

pub returns : goal.returns
returns c = record { within = clamp_between; same = clamp_unmoved }
