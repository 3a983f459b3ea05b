use Rattle.gsl_chains.proofs.Chained.{room}
use Rattle.gsl_chains.proofs.laws.calls_leave_room.Goals as goal

pub returns : goal.returns
returns c m of body id more called = room m of body id more called
