use Rattle.std.proofs.Common.{◌+◌, ◌*◌, length}
use Rattle.gsl_enact_values.proofs.paths.+putting.Given as goal

abbrev pub decreases-put : goal.decreases-put
decreases-put l = 2 * length l.path.now

abbrev pub decreases-put_part : goal.decreases-put_part
decreases-put_part l = 2 * length l.rest.now + 1
