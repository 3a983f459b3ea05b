use Rattle.gsl_slots.proofs.Held.{rises}
use Rattle.gsl_slots.proofs.laws.tops_rise.Goals as goal

pub returns : goal.returns
returns c words place slots top later ids holds = rises words place slots top ids holds later
