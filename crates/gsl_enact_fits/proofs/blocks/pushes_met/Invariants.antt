use Rattle.std.proofs.Common.{◌≡◌, drop}
use Rattle.gsl_enact_fits.specs.Passes.{pushes_met}
use Rattle.gsl_enact_fits.proofs.blocks.pushes_met.Given as goal

abbrev pub invariant-loop-at : goal.invariant-loop-at
invariant-loop-at l = l.met ≡ pushes_met l.decorations l.input (drop l.at l.decorations.instrs)

abbrev pub decreases-loop-at : goal.decreases-loop-at
decreases-loop-at l = l.at
