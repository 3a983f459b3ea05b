use Rattle.std.proofs.Common.{◌∙◌, ◌≤◌, length, drop, take, arith}
use Rattle.gsl_step_memory.proofs.Copied.{copied_long, copy_one, none_copied, row_long}
use Rattle.gsl_step_memory.proofs.moving.copy.Goals as goal

pub loop-k-init : goal.loop-k-init
loop-k-init c = none_copied c.args.slots.now c.args.at

pub loop-k-preserved : goal.loop-k-preserved
loop-k-preserved c =
    c.put.ensures ∙ copy_one c.args.slots.now c.loop-k.slots c.args.words.now c.args.from c.args.at c.args.count c.loop-k.k c.word-word.result c.loop-k-test.true c.requires.within c.requires.room c.word-word.ensures c.loop-k.invariant

pub put-requires : goal.put-requires
put-requires c =
    let size = row_long c.args.words.now c.args.from c.args.count c.requires.within in
    let room = c.requires.room in
    let low = c.loop-k-test.true in
    let long = copied_long c.args.slots.now c.loop-k.slots (take c.args.count (drop c.args.from c.args.words.now)) c.args.at c.loop-k.k (omega (arith, size, low)) (omega (arith, size, room)) c.loop-k.invariant in
    omega (arith, long, room, low)
