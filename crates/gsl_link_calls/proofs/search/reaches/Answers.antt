use Rattle.std.proofs.Common.{◌≡◌, ◌+◌, [], sym, subst, ap, ◌∙◌, arith, List, ℕ}
use Rattle.std.specs.Prelude.{nat_eq}
use Rattle.indexmap.specs.IndexSet.{insert_all}
use Rattle.std.proofs.lemmas.Bool.{eq-eqb, ne_eqb}
use Rattle.gsl_link_calls.specs.Calls.{called_by}
use Rattle.gsl_link_calls.proofs.Searched.{Searched, begun, one_on, found, not_found}
use Rattle.gsl_link_calls.proofs.search.reaches.Goals as goal

pub loop-at-init : goal.loop-at-init
loop-at-init c =
    let m = c.args.table.now in
    subst (λ (l : List ℕ). Searched m c.args.from c.args.head l 0)
    (sym (c.in_ok-add_all.ensures ∙ ap (λ l. insert_all nat_eq l c.callees.result.now) c.new-found.ensures.empty ∙ ap (insert_all nat_eq []) c.callees.ensures)) (begun m c.args.from c.args.head)

pub returns-then-next-head : goal.returns-then-next-head
returns-then-next-head c =
    let low = c.loop-at-test.true in
    let len = c.len.ensures.len in
    sym (found c.args.table.now c.args.from c.args.head c.loop-at.found.keys c.loop-at.at c.loop-at.invariant (omega (arith, low, len))
    (eq-eqb _ _ (sym c.numbered-next.ensures ∙ c.if-next-head.true)))

pub loop-at-preserved : goal.loop-at-preserved
loop-at-preserved c =
    let m = c.args.table.now in
    let low = c.loop-at-test.true in
    let len = c.len.ensures.len in
    subst (λ (l : List ℕ). Searched m c.args.from c.args.head l (c.loop-at.at + 1))
    (sym (c.in_ok-add_all-2.ensures ∙ ap (insert_all nat_eq c.loop-at.found.keys) (c.callees-in-loop-at.ensures ∙ ap (called_by m) c.numbered-next.ensures)))
    (one_on m c.args.from c.args.head c.loop-at.found.keys c.loop-at.at c.loop-at.invariant (omega (arith, low, len))
    (ne_eqb _ _ (λ same. c.if-next-head.false (c.numbered-next.ensures ∙ same))))

pub returns : goal.returns
returns c =
    let high = c.loop-at-test.false in
    let len = c.len.ensures.len in
    sym (not_found c.args.table.now c.args.from c.args.head c.loop-at.found.keys c.loop-at.at c.loop-at.invariant (omega (arith, high, len)))
