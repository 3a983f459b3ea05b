use Rattle.std.proofs.Common.{length}
use Rattle.gsl_given.proofs.given.+read_buffers.Given as goal

abbrev pub decreases-read_buffers : goal.decreases-read_buffers
decreases-read_buffers g l = length l.lines.now
