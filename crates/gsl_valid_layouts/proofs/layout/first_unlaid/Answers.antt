use Rattle.std.proofs.Common.{◌≡◌, ◌+◌, ◌<◌, ◌∷◌, drop, length, sym, subst, ap, ◌∙◌, arith}
use Rattle.gsl_ids.proofs.Places.{made}
use Rattle.gsl_words.specs.declared.module.Module.{Module}
use Rattle.gsl_valid.specs.Placed.{header_size}
use Rattle.gsl_ids.specs.Pass.{first_failed}
use Rattle.gsl_kinds.specs.Runtimes.{front}
use Rattle.gsl_valid.specs.LayoutRules.{need, extent}
use Rattle.gsl_valid_layouts.specs.Sizes.{TellSizes}
use Rattle.gsl_valid_layouts.specs.Layouts.{passes, behind, instrs_of}
use Rattle.gsl_valid_layouts.proofs.Laying.{one_less, cut_here, few_words, first_on}
use Rattle.gsl_valid_layouts.proofs.layout.first_unlaid.Goals as goal

pub is_laid-requires-clause-short : goal.is_laid-requires-clause-short
is_laid-requires-clause-short c =
    let m = c.args.reached.now in
    let i = made c.in-Some.op c.in-Some.args.now in
    let e = sym c.loop-place.invariant.rest ∙ ap instrs_of c.in-Some.ensures in
    let few = few_words header_size m.instrs (instrs_of c.next.new.self) c.loop-place.at i e in
    let words = c.requires.words in
    omega (arith, few, words)

pub note-requires-clause-here : goal.note-requires-clause-here
note-requires-clause-here c =
    let m = c.args.reached.now in
    let i = made c.in-Some.op c.in-Some.args.now in
    let e = sym c.loop-place.invariant.rest ∙ ap instrs_of c.in-Some.ensures in
    subst (λ (n : Module). drop c.loop-place.at n.instrs ≡ i ∷ drop (c.loop-place.at + 1) n.instrs) (sym c.decorations-in-Some.ensures)
    (cut_here m.instrs (instrs_of c.next.new.self) c.loop-place.at i e)

pub note-requires-clause-short : goal.note-requires-clause-short
note-requires-clause-short c =
    let m = c.args.reached.now in
    let i = made c.in-Some.op c.in-Some.args.now in
    let e = sym c.loop-place.invariant.rest ∙ ap instrs_of c.in-Some.ensures in
    let few = few_words header_size m.instrs (instrs_of c.next.new.self) c.loop-place.at i e in
    let words = c.requires.words in
    omega (arith, few, words)

pub loop-place-preserved : goal.loop-place-preserved
loop-place-preserved c =
    let m = c.args.reached.now in
    let i = made c.in-Some.op c.in-Some.args.now in
    let at = c.loop-place.at in
    let e = sym c.loop-place.invariant.rest ∙ ap instrs_of c.in-Some.ensures in
    let passed = sym c.is_laid.ensures ∙ c.if-not-is_laid.false in
    record {
      found =
          first_on m at (record { at = c.in-Some.place; instr = i }) c.next.new.self passed ∙ ap (first_failed passes behind m at) (sym c.in-Some.ensures) ∙ c.loop-place.invariant.found;
      rest = sym (one_less m.instrs (instrs_of c.next.new.self) at i e);
      needs_room = c.note.ensures.needs_room ∙ ap (λ (n : Module). n.bound) c.decorations-in-Some.ensures;
      extents_room = c.note.ensures.extents_room ∙ ap (λ (n : Module). n.bound) c.decorations-in-Some.ensures;
      needs = subst (λ (n : Module). TellSizes c.note.new.needs.items (need n (front n (at + 1)))) c.decorations-in-Some.ensures c.note.ensures.needs_behind;
      extents = subst (λ (n : Module). TellSizes c.note.new.extents.items (extent n (front n (at + 1)))) c.decorations-in-Some.ensures c.note.ensures.extents_behind;
    }
