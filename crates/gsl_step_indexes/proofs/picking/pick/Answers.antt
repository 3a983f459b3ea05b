use Rattle.std.proofs.Common.{◌≡◌, refl, sym, ap, ◌∙◌, subst, true, false, ◌<◌, length, arith}
use Rattle.std.specs.Prelude.{slice_index}
use Rattle.gsl_instr.specs.declared.instruction.Instruction.TheVariants as instruction
use Rattle.gsl_valid.specs.Kinds.{type_of}
use Rattle.gsl_valid.specs.Types.{defined_as}
use Rattle.gsl_sound_code.proofs.Looks.{kept}
use Rattle.gsl_step_indexes.specs.Indexes.{parts_if}
use Rattle.gsl_step_indexes.proofs.Picks.{picks}
use Rattle.gsl_step_indexes.proofs.Telling.{next_tells}
use Rattle.gsl_step_indexes.proofs.picking.pick.Goals as goal

pub returns-then-from-count : goal.returns-then-from-count
returns-then-from-count c input state p more valid good typed shown comes reads =
    let m = c.args.operands.now in
    let now = c.args.machine.now in
    let same = c.leaves-leaves.ensures ∙ c.frames.ensures in
    let wide = c.from.ensures in
    let over = c.if-from-count.true in
    next_tells m input state now false p more (instruction.VectorExtractDynamic c.args.type_ c.args.result_id c.args.vector c.args.index) comes reads
    (picks m (kept m valid) input now now false state good typed shown p more comes c.args.type_ c.args.result_id c.args.vector c.args.index c.word_at-word.result c.parts_if-count.result reads
    (λ bound low within. let at = c.stands-at.ensures bound low in c.word_at-word.ensures (subst (λ n. n < length now.slots) (sym at) within) ∙ ap (slice_index now.slots) at)
    (c.parts_if-count.ensures ∙ ap (λ n. parts_if n c.type_of.result) same ∙ ap (parts_if m) (c.type_of.ensures ∙ ap (λ n. type_of (defined_as n c.args.vector)) (c.definitions.ensures ∙ same)))
    (record { below = λ low. absurd (omega (arith, low, over, wide)); over = λ is. (refl, refl) }))

pub returns : goal.returns
returns c input state p more valid good typed shown comes reads =
    let m = c.args.operands.now in
    let now = c.args.machine.now in
    let same = c.leaves-leaves.ensures ∙ c.frames.ensures in
    let wide = c.from.ensures in
    let below = c.if-from-count.false in
    next_tells m input state c.put_picked.new.machine true p more (instruction.VectorExtractDynamic c.args.type_ c.args.result_id c.args.vector c.args.index) comes reads
    (picks m (kept m valid) input now c.put_picked.new.machine true state good typed shown p more comes c.args.type_ c.args.result_id c.args.vector c.args.index c.word_at-word.result c.parts_if-count.result reads
    (λ bound low within. let at = c.stands-at.ensures bound low in c.word_at-word.ensures (subst (λ n. n < length now.slots) (sym at) within) ∙ ap (slice_index now.slots) at)
    (c.parts_if-count.ensures ∙ ap (λ n. parts_if n c.type_of.result) same ∙ ap (parts_if m) (c.type_of.ensures ∙ ap (λ n. type_of (defined_as n c.args.vector)) (c.definitions.ensures ∙ same)))
    (record { below = λ low. (refl, c.put_picked.ensures); over = λ high. absurd (omega (arith, high, below, wide)) }))
