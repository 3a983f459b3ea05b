use Rattle.std.proofs.Common.{◌≡◌, not, ◌||◌, sym, ap, ◌∙◌}
use Rattle.gsl_words.specs.declared.module.Module.{Module}
use Rattle.gsl_valid_layouts.specs.Marks.{is_marked, pointees, bare, parts_marked, Tells}
use Rattle.gsl_valid_layouts.proofs.Marking.{tables}
use Rattle.gsl_valid_layouts.proofs.marks.Reached.new.Goals as goal

pub invariant_of-result : goal.invariant_of-result
invariant_of-result c =
    let m = c.args.decorations.now in
    let p : c.in_ok-pointees.pointees.items ≡ pointees m = c.in_ok-pointees.ensures ∙ ap pointees c.definitions.ensures in
    let b : c.in_ok-bare.bare.items ≡ bare m = c.in_ok-bare.ensures in
    let q : c.in_ok-parts.parts.items ≡ parts_marked m (pointees m) 0 m.instrs =
    c.in_ok-parts.ensures ∙ ap (λ (n : Module). parts_marked n c.deref.result.now 0 n.instrs) c.definitions-2.ensures ∙ ap (λ l. parts_marked m l 0 m.instrs) (c.deref.ensures.value ∙ p) in
    let t = tables m c.requires.once in
    record {
      reached = λ id. t.reached id ∙ ap (λ l. is_marked l id || is_marked (parts_marked m (pointees m) 0 m.instrs) id) (sym p) ∙ ap (λ l. is_marked c.in_ok-pointees.pointees.items id || is_marked l id) (sym q);
      grows = λ id. t.grows id ∙ ap (λ l. not (is_marked l id || is_marked (parts_marked m (pointees m) 0 m.instrs) id)) (sym b) ∙ ap (λ l. not (is_marked c.in_ok-bare.bare.items id || is_marked l id)) (sym q);
    }
