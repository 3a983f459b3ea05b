use Rattle.std.proofs.Common.{ap, ◌∙◌, ◌+◌, arith}
use Rattle.std.specs.Prelude.{min, slice_index}
use Rattle.gsl_step_values.specs.Parts.{part_of}
use Rattle.gsl_step_values.proofs.Inside.{cut_at, offset_ends, offset_more}
use Rattle.gsl_step_values.proofs.parts.offset.Goals as goal

pub loop-k-preserved : goal.loop-k-preserved
loop-k-preserved c =
    offset_more c.args.leaves.now c.args.type_ c.loop-k.part c.part_of-part.result c.args.path.now c.loop-k.at c.loop-k.k (slice_index c.args.path.now c.loop-k.k) c.saturating_add-at.result (cut_at c.args.path.now c.loop-k.k c.loop-k-test.true) c.loop-k.invariant
    (c.saturating_add-at.ensures ∙ ap (λ n. min (c.loop-k.at + n) 18446744073709551615) c.ahead_of.ensures) (c.part_of-part.ensures ∙ ap (λ m. part_of m c.loop-k.part (slice_index c.args.path.now c.loop-k.k)) c.definitions.ensures)

pub returns : goal.returns
returns c low = offset_ends c.args.leaves.now c.args.type_ c.loop-k.part c.args.path.now c.loop-k.at c.loop-k.k (omega (arith, c.loop-k-test.false)) c.loop-k.invariant low
