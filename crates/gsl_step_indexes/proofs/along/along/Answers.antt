use Rattle.std.proofs.Common.{◌≡◌, refl, sym, ap, ◌∙◌, subst, ◌<◌, ◌≤◌, length, arith}
use Rattle.std.specs.Prelude.{slice_index}
use Rattle.gsl_operands.specs.Operands.{stands}
use Rattle.gsl_leaves.specs.Table.{most}
use Rattle.gsl_step_values.specs.Parts.{part_of}
use Rattle.gsl_step_indexes.specs.Indexes.{further, parts_if, word_of}
use Rattle.gsl_step_indexes.proofs.Followed.{follow_ends, follow_more, follow_strays}
use Rattle.gsl_step_indexes.proofs.along.along.Goals as goal

pub loop-k-init : goal.loop-k-init
loop-k-init c told = (told, refl)

pub loop-k-preserved : goal.loop-k-preserved
loop-k-preserved c told =
    let m = c.args.operands.now in
    let now = c.args.machine.now in
    let same = c.leaves-leaves.ensures ∙ c.frames.ensures in
    let index = slice_index c.args.indexes.now c.loop-k.k in
    let wide = c.from.ensures in
    let below = c.if-from-count.false in
    follow_more m now c.args.type_ c.loop-k.part c.args.from c.loop-k.at c.loop-k.k c.args.indexes.now c.loop-k.invariant told c.word_at-word.result c.parts_if-count.result c.loop-k-test.true
    (λ bound low within. let at = c.stands-spot.ensures bound low in c.word_at-word.ensures (subst (λ n. n < length now.slots) (sym at) within) ∙ ap (slice_index now.slots) at)
    (c.parts_if-count.ensures ∙ ap (λ n. parts_if n c.loop-k.part) same) c.part_of-part.result c.further-at.result (omega (arith, wide, below))
    (c.part_of-part.ensures ∙ ap (λ n. part_of n c.loop-k.part c.word_at-word.result) (c.definitions.ensures ∙ same)) (c.further-at.ensures ∙ ap (λ n. further n c.loop-k.part c.loop-k.at c.word_at-word.result) same)

pub returns-then-from-count : goal.returns-then-from-count
returns-then-from-count c told =
    let m = c.args.operands.now in
    let now = c.args.machine.now in
    let same = c.leaves-leaves.ensures ∙ c.frames.ensures in
    let wide = c.from.ensures in
    let over = c.if-from-count.true in
    follow_strays m now c.args.type_ c.loop-k.part c.args.from c.loop-k.at c.loop-k.k c.args.indexes.now c.loop-k.invariant told c.word_at-word.result c.parts_if-count.result c.loop-k-test.true
    (λ bound low within. let at = c.stands-spot.ensures bound low in c.word_at-word.ensures (subst (λ n. n < length now.slots) (sym at) within) ∙ ap (slice_index now.slots) at)
    (c.parts_if-count.ensures ∙ ap (λ n. parts_if n c.loop-k.part) same) (omega (arith, wide, over))

pub returns : goal.returns
returns c told =
    let over = c.loop-k-test.false in
    follow_ends c.args.operands.now c.args.machine.now c.args.type_ c.loop-k.part c.args.from c.loop-k.at c.loop-k.k c.args.indexes.now c.loop-k.invariant told (omega (arith, over))
