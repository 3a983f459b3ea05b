use Rattle.std.proofs.Common.{◌≡◌, drop}
use Rattle.gsl_enact_fits.specs.Passes.{bounds_missed}
use Rattle.gsl_enact_fits.proofs.blocks.bounds_missed.Given as goal

abbrev pub invariant-loop-at : goal.invariant-loop-at
invariant-loop-at l = l.found ≡ bounds_missed l.decorations l.input (drop l.at l.decorations.instrs)

abbrev pub decreases-loop-at : goal.decreases-loop-at
decreases-loop-at l = l.at
