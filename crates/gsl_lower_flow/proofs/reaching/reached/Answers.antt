use Rattle.std.proofs.Common.{◌+◌, [], sym, subst, ap, ◌∙◌, arith, List, ℕ}
use Rattle.std.specs.Prelude.{nat_eq}
use Rattle.std.proofs.lemmas.Bool.{ne_eqb}
use Rattle.indexmap.specs.IndexSet.{insert_all}
use Rattle.gsl_link_calls.specs.Calls.{called_by}
use Rattle.gsl_link_calls.proofs.Searched.{Searched, begun, one_on}
use Rattle.gsl_lower_flow.proofs.Found.{all_found, none}
use Rattle.gsl_lower_flow.proofs.reaching.reached.Goals as goal

pub loop-at-init : goal.loop-at-init
loop-at-init c =
    let m = c.args.functions.now in
    subst (λ (l : List ℕ). Searched m c.args.main none l 0)
    (sym (c.in_ok-add_all.ensures ∙ ap (λ l. insert_all nat_eq l c.as_slice.result.now) c.new-found.ensures.empty ∙ ap (insert_all nat_eq []) (c.as_slice.ensures ∙ c.in_ok-first.ensures))) (begun m c.args.main none)

pub loop-at-preserved : goal.loop-at-preserved
loop-at-preserved c =
    let m = c.args.functions.now in
    let low = c.loop-at-test.true in
    let len = c.len.ensures.len in
    subst (λ (l : List ℕ). Searched m c.args.main none l (c.loop-at.at + 1))
    (sym (c.in_ok-add_all-2.ensures ∙ ap (insert_all nat_eq c.loop-at.found.keys) (c.as_slice-in-loop-at.ensures ∙ c.in_ok-callees.ensures ∙ ap (called_by m) c.numbered-next.ensures)))
    (one_on m c.args.main none c.loop-at.found.keys c.loop-at.at c.loop-at.invariant (omega (arith, low, len))
    (ne_eqb _ _ (λ same. omega (arith, same, c.numbered-next.ensures))))

pub returns : goal.returns
returns c =
    let high = c.loop-at-test.false in
    let len = c.len.ensures.len in
    all_found c.args.functions.now c.args.main c.loop-at.found.keys c.loop-at.at c.loop-at.invariant (omega (arith, high, len))
