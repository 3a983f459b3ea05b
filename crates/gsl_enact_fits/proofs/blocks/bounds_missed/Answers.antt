use Rattle.std.proofs.Common.{arith, refl}
use Rattle.gsl_enact_fits.specs.Passes.{bounds_missed}
use Rattle.gsl_enact_fits.proofs.Loops.{at_front, from_end}
use Rattle.gsl_enact_fits.proofs.blocks.bounds_missed.Goals as goal

pub returns : goal.returns
returns c = at_front (bounds_missed c.args.decorations.now c.args.input.now) c.args.decorations.now.instrs c.loop-at.at c.loop-at.found (omega (arith, c.loop-at-test.false)) c.loop-at.invariant

pub loop-at-init : goal.loop-at-init
unfolding bounds_missed
loop-at-init c = from_end (bounds_missed c.args.decorations.now c.args.input.now) c.args.decorations.now.instrs c.count-at.result c.count-at.result _ c.count-at.ensures refl refl
