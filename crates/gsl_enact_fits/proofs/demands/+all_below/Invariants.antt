use Rattle.std.proofs.Common.{length}
use Rattle.gsl_enact_fits.proofs.demands.+all_below.Given as goal

abbrev pub decreases-all_below : goal.decreases-all_below
decreases-all_below l = length l.parts.now
