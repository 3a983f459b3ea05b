use Rattle.std.proofs.Common.{◌∙◌, ◌≤◌, ap, arith, length, sym}
use Rattle.gsl_positions.specs.Positions.{left}
use Rattle.gsl_frames.specs.Frames.{taken_told}
use Rattle.gsl_frames.specs.Taken.{nothing_taken}
use Rattle.gsl_frames.proofs.Framed.{over}
use Rattle.gsl_frames.proofs.Told.{nothing_is, taken_is}
use Rattle.gsl_frames.proofs.frames.frame_from.Goals as goal

pub loop-at-init : goal.loop-at-init
loop-at-init c =
    let m = c.args.leaves.now in
    ap (taken_told m (left m c.args.body)) (c.nothing_taken-taken.ensures ∙ nothing_is) ∙ taken_is m (left m c.args.body) nothing_taken

pub returns : goal.returns
returns c =
    let m = c.args.leaves.now in
    let behind : length m.instrs ≤ c.loop-at.at = omega (arith, c.loop-at-test.false, c.requires.count) in
    sym (over m c.loop-at.at c.loop-at.taken behind) ∙ c.loop-at.invariant
