use Rattle.std.proofs.Common.{arith}
use Rattle.std.specs.Prelude.{slice_index}
use Rattle.gsl_step_values.proofs.Picked.{Rows, pick_begins, pick_ends, pick_more}
use Rattle.gsl_step_values.proofs.shuffling.put_picked.Goals as goal

pub loop-k-init : goal.loop-k-init
loop-k-init c in_a in_b room places =
    pick_begins c.args.slots.now c.args.at (slice_index (Rows c.args.slots.now c.args.first.place c.args.first.count c.args.second.place c.args.second.count))

pub loop-k-preserved : goal.loop-k-preserved
loop-k-preserved c in_a in_b room places =
    pick_more c.args.slots.now c.loop-k.slots c.args.first.place c.args.first.count c.args.second.place c.args.second.count c.args.at c.loop-k.k c.picked-word.result c.saturating_add.result c.args.positions.now c.put_word.new.slots in_a in_b room places
    c.loop-k-test.true (c.loop-k.invariant in_a in_b room places) c.picked-word.ensures c.saturating_add.ensures c.put_word.ensures

pub returns : goal.returns
returns c in_a in_b room places =
    pick_ends c.args.slots.now c.loop-k.slots c.args.at c.loop-k.k (slice_index (Rows c.args.slots.now c.args.first.place c.args.first.count c.args.second.place c.args.second.count)) c.args.positions.now (omega (arith, c.loop-k-test.false))
    (c.loop-k.invariant in_a in_b room places)
