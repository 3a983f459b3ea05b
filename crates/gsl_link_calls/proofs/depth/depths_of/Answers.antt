use Rattle.std.proofs.Common.{◌≡◌, ℕ, ◌-◌, ◌+◌, List, sym, subst, ap, ◌∙◌, arith}
use Rattle.std.proofs.lemmas.Slice.Eq.{bytes_eq-Decides}
use Rattle.gsl_link_calls.specs.Depths.{made_again, TellDepths}
use Rattle.gsl_link_calls.proofs.Deep.{Table, at_start, again, tell, settled}
use Rattle.gsl_link_calls.proofs.depth.depths_of.Goals as goal

pub loop-done-init : goal.loop-done-init
loop-done-init c =
    let rows = c.in_ok-rows.rows in
    let room = c.in_ok-rows.ensures in
    let ok = rows.ok in
    at_start c.args.table.now rows.items (omega (arith, room, ok))

pub loop-done-preserved : goal.loop-done-preserved
loop-done-preserved c =
    let m = c.args.table.now in
    let some = c.loop-done-test.true in
    let next = c.in_ok-next.ensures ∙ ap (made_again m) c.deref.ensures.value in
    subst (λ (l : List ℕ). Table m (c.loop-done.done + 1) l) (sym next) (again m c.loop-done.done c.loop-done.rows.items (omega (arith, some)) c.loop-done.invariant)

pub returns-then-eq : goal.returns-then-eq
returns-then-eq c =
    let m = c.args.table.now in
    let same = (bytes_eq-Decides c.as_slice.result.now c.as_slice-in-loop-done.result.now).0 (sym c.eq.ensures ∙ c.if-eq.true) in
    let next = c.in_ok-next.ensures ∙ ap (made_again m) c.deref.ensures.value in
    let small = c.loop-done.invariant.small in
    tell m c.loop-done.rows.items
    (settled m (65 - c.loop-done.done) c.loop-done.done c.loop-done.rows.items (omega (arith, small)) (sym next ∙ sym c.as_slice.ensures.value ∙ same ∙ c.as_slice-in-loop-done.ensures.value) c.loop-done.invariant)

pub returns : goal.returns
returns c =
    let m = c.args.table.now in
    let over = c.loop-done-test.false in
    let small = c.loop-done.invariant.small in
    let e : c.loop-done.done ≡ 65 = omega (arith, over, small) in
    tell m c.loop-done.rows.items (subst (λ n. Table m n c.loop-done.rows.items) e c.loop-done.invariant)
