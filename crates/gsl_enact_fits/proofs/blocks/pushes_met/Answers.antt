use Rattle.std.proofs.Common.{arith, refl}
use Rattle.gsl_enact_fits.specs.Passes.{pushes_met}
use Rattle.gsl_enact_fits.proofs.Loops.{at_front, from_end}
use Rattle.gsl_enact_fits.proofs.blocks.pushes_met.Goals as goal

pub returns : goal.returns
returns c = at_front (pushes_met c.args.decorations.now c.args.input.now) c.args.decorations.now.instrs c.loop-at.at c.loop-at.met (omega (arith, c.loop-at-test.false)) c.loop-at.invariant

pub loop-at-init : goal.loop-at-init
unfolding pushes_met
loop-at-init c = from_end (pushes_met c.args.decorations.now c.args.input.now) c.args.decorations.now.instrs c.count-at.result c.count-at.result _ c.count-at.ensures refl refl
