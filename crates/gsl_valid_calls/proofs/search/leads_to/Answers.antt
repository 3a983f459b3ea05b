use Rattle.std.proofs.Common.{◌≡◌, ◌+◌, ◌∷◌, [], length, sym, subst, ap, ◌∙◌, arith, List, ℕ}
use Rattle.std.specs.Prelude.{nat_eq, slice_index}
use Rattle.indexmap.specs.IndexSet.{insert_key, insert_all}
use Rattle.std.proofs.lemmas.Bool.{eq-eqb, ne_eqb}
use Rattle.gsl_valid.specs.CallRules.{called_by}
use Rattle.gsl_valid_calls.proofs.Searched.{Searched, begun, one_on, found, not_found}
use Rattle.gsl_valid_calls.proofs.search.leads_to.Goals as goal

pub loop-at-init : goal.loop-at-init
loop-at-init c =
    let m = c.args.definitions.now in
    subst (λ (l : List ℕ). Searched m c.args.from c.args.id l 0)
    (sym (c.in_ok-insert_full.ensures.keys ∙ ap (λ l. insert_key nat_eq l c.args.from) c.new-found.ensures.empty)) (begun m c.args.from c.args.id)

pub returns-then-next-id : goal.returns-then-next-id
returns-then-next-id c =
    let m = c.args.definitions.now in
    let low = c.loop-at-test.true in
    let len = c.len.ensures.len in
    sym (found m c.args.from c.args.id c.loop-at.found.keys c.loop-at.at c.loop-at.invariant (omega (arith, low, len))
    (eq-eqb _ _ (sym c.numbered-next.ensures ∙ c.if-next-id.true)))

pub loop-at-preserved : goal.loop-at-preserved
loop-at-preserved c =
    let m = c.args.definitions.now in
    let low = c.loop-at-test.true in
    let len = c.len.ensures.len in
    subst (λ (l : List ℕ). Searched m c.args.from c.args.id l (c.loop-at.at + 1)) (sym (c.in_ok-add_all.ensures ∙ ap (insert_all nat_eq c.loop-at.found.keys) (c.called_by.ensures ∙ ap (called_by m.instrs) c.numbered-next.ensures)))
    (one_on m c.args.from c.args.id c.loop-at.found.keys c.loop-at.at c.loop-at.invariant (omega (arith, low, len))
    (ne_eqb _ _ (λ same. c.if-next-id.false (c.numbered-next.ensures ∙ same))))

pub returns : goal.returns
returns c =
    let m = c.args.definitions.now in
    let high = c.loop-at-test.false in
    let len = c.len.ensures.len in
    sym (not_found m c.args.from c.args.id c.loop-at.found.keys c.loop-at.at c.loop-at.invariant (omega (arith, high, len)))
