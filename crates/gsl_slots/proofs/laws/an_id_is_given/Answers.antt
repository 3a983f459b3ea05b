use Rattle.gsl_slots.proofs.Held.{given}
use Rattle.gsl_slots.proofs.laws.an_id_is_given.Goals as goal

pub returns : goal.returns
returns c words place slots top ids id held holds = given words place slots top ids holds id held
