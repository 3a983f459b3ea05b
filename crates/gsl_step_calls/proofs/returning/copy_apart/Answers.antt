use Rattle.std.proofs.Common.{◌≡◌, ap, ◌∙◌, ◌+◌, ◌≤◌, length, set, take, drop, arith}
use Rattle.gsl_step_memory.proofs.Copied.{copied_long, none_copied, row_long}
use Rattle.gsl_step_calls.proofs.Apart.{copy_apart_one}
use Rattle.gsl_step_calls.proofs.returning.copy_apart.Goals as goal

pub loop-k-init : goal.loop-k-init
loop-k-init c = none_copied c.args.slots.now c.args.at

pub loop-k-preserved : goal.loop-k-preserved
loop-k-preserved c =
    c.put.ensures ∙ ap (set c.loop-k.slots (c.args.at + c.loop-k.k)) c.word-word.ensures
    ∙ copy_apart_one c.args.slots.now c.loop-k.slots c.args.from c.args.at c.args.count c.loop-k.k c.loop-k-test.true c.requires.apart c.requires.there c.requires.room c.loop-k.invariant

pub word-word-requires : goal.word-word-requires
word-word-requires c =
    let size = row_long c.args.slots.now c.args.from c.args.count c.requires.there in
    let room = c.requires.room in
    let there = c.requires.there in
    let low = c.loop-k-test.true in
    let long = copied_long c.args.slots.now c.loop-k.slots (take c.args.count (drop c.args.from c.args.slots.now)) c.args.at c.loop-k.k (omega (arith, size, low)) (omega (arith, size, room)) c.loop-k.invariant in
    omega (arith, long, there, low)

pub put-requires : goal.put-requires
put-requires c =
    let size = row_long c.args.slots.now c.args.from c.args.count c.requires.there in
    let room = c.requires.room in
    let low = c.loop-k-test.true in
    let long = copied_long c.args.slots.now c.loop-k.slots (take c.args.count (drop c.args.from c.args.slots.now)) c.args.at c.loop-k.k (omega (arith, size, low)) (omega (arith, size, room)) c.loop-k.invariant in
    omega (arith, long, room, low)
