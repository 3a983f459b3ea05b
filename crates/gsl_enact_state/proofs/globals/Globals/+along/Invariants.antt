use Rattle.std.proofs.Common.{◌+◌, ◌*◌, length}
use Rattle.gsl_enact_state.proofs.globals.Globals.+along.Given as goal

abbrev pub decreases-along : goal.decreases-along
decreases-along l = 2 * length l.indexes.now

abbrev pub decreases-along_one : goal.decreases-along_one
decreases-along_one l = 2 * length l.rest.now + 1
