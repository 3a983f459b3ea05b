use Rattle.std.proofs.Common.{◌+◌, ◌*◌}
use Rattle.gsl_perform_main.proofs.calls.+call.Given as goal

abbrev pub decreases-call : goal.decreases-call
decreases-call l = 2 * l.depth

abbrev pub decreases-performs_at : goal.decreases-performs_at
decreases-performs_at l = 2 * l.depth + 1
