use Rattle.std.proofs.Common.{length}
use Rattle.gsl_slow.proofs.shader.+more.Given as goal

abbrev pub decreases-more : goal.decreases-more
decreases-more l = length l.terms.now
