use Rattle.std.proofs.Common.{◌≡◌, ◌+◌, ◌∷◌, Bool, true, false, List, drop, sym, subst, ap, ◌∙◌}
use Rattle.std.specs.Prelude.{slice_get, IsSomeAnd}
use Rattle.std.proofs.lemmas.Bool.{cond-true, cond-false}
use Rattle.gsl_words.specs.declared.module.Module.{Module}
use Rattle.gsl_valid.specs.Instruction.{read}
use Rattle.gsl_valid.specs.Ids.{result}
use Rattle.gsl_valid.specs.Kinds.{shape_in}
use Rattle.gsl_valid.specs.Types.{parts_of, parts_in}
use Rattle.gsl_ids.proofs.Places.{made, here}
use Rattle.gsl_valid_layouts.specs.Marks.{is_reached, marked_all, parts_marked}
use Rattle.gsl_valid_layouts.proofs.marks.mark_below.Goals as goal

pub returns-then-is_reached : goal.returns-then-is_reached
returns-then-is_reached c =
    let m = c.args.definitions.now in
    let p = c.args.pointees.now in
    let i = made c.op-op.result c.args-args.result.now in
    let o = subst (λ (n : Module). IsSomeAnd (slice_get n.instrs c.args.at) (λ j. c.op-op.result ≡ j.op)) c.module.ensures c.op-op.ensures in
    let a = subst (λ (n : Module). IsSomeAnd (slice_get n.instrs c.args.at) (λ j. c.args-args.result.now ≡ j.args)) c.module.ensures c.args-args.ensures in
    let cut = here m.instrs c.args.at c.op-op.result c.args-args.result.now o a in
    let hit =
    sym (c.is_reached.ensures ∙ ap (λ l. is_reached p l c.defined_by.result) (c.deref.ensures.value ∙ c.requires.behind)
    ∙ ap (is_reached p (parts_marked m p (c.args.at + 1) (drop (c.args.at + 1) m.instrs))) c.defined_by.ensures) ∙ c.if-is_reached.true in
    c.mark_parts.ensures ∙ ap (λ s. marked_all m c.args.at c.args.rows.now.items (parts_in s)) (c.shape_in.ensures ∙ ap shape_in c.kind_at.ensures)
    ∙ ap (λ l. marked_all m c.args.at l (parts_of (read i))) c.requires.behind ∙ sym (ap (parts_marked m p c.args.at) cut ∙ cond-true _ _ _ hit)

pub returns-else-is_reached : goal.returns-else-is_reached
returns-else-is_reached c =
    let m = c.args.definitions.now in
    let p = c.args.pointees.now in
    let o = subst (λ (n : Module). IsSomeAnd (slice_get n.instrs c.args.at) (λ j. c.op-op.result ≡ j.op)) c.module.ensures c.op-op.ensures in
    let a = subst (λ (n : Module). IsSomeAnd (slice_get n.instrs c.args.at) (λ j. c.args-args.result.now ≡ j.args)) c.module.ensures c.args-args.ensures in
    let cut = here m.instrs c.args.at c.op-op.result c.args-args.result.now o a in
    let miss =
    sym (c.is_reached.ensures ∙ ap (λ l. is_reached p l c.defined_by.result) (c.deref.ensures.value ∙ c.requires.behind)
    ∙ ap (is_reached p (parts_marked m p (c.args.at + 1) (drop (c.args.at + 1) m.instrs))) c.defined_by.ensures) ∙ c.if-is_reached.false in
    c.requires.behind ∙ sym (ap (parts_marked m p c.args.at) cut ∙ cond-false _ _ _ miss)
