use Rattle.gsl_slots.proofs.Held.{kept}
use Rattle.gsl_slots.proofs.laws.others_are_kept.Goals as goal

pub returns : goal.returns
returns c words place slots new top at ids holds = kept words place slots top ids holds new at
