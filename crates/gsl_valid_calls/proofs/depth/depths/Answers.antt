use Rattle.std.proofs.Common.{◌≡◌, ℕ, List, sym, subst, ap, ◌∙◌, arith}
use Rattle.std.proofs.lemmas.Slice.Eq.{bytes_eq-Decides}
use Rattle.gsl_valid_calls.specs.Depths.{deepened, swept, TellDepths}
use Rattle.gsl_valid_calls.proofs.Deep.{settled, once_more, finished, deep_is}
use Rattle.gsl_valid_calls.proofs.depth.depths.Goals as goal

pub loop-left-preserved : goal.loop-left-preserved
loop-left-preserved c =
    let code = c.args.of.now.instrs in
    once_more code _ c.loop-left.left c.loop-left.rows.items c.in_ok-next.next.items (let some = c.loop-left-test.true in omega (arith, some)) (c.in_ok-next.ensures ∙ ap (λ l. (swept l code).rows) c.deref.ensures.value) ∙ c.loop-left.invariant

pub returns-then-eq : goal.returns-then-eq
returns-then-eq c =
    let m = c.args.of.now in
    let code = m.instrs in
    let start = c.in_ok-rows.rows in
    let same = (bytes_eq-Decides c.as_slice.result.now c.as_slice-in-loop-left.result.now).0 (sym c.eq.ensures ∙ c.if-eq.true) in
    let next = c.in_ok-next.ensures ∙ ap (λ l. (swept l code).rows) c.deref.ensures.value in
    let last : c.loop-left.rows.items ≡ deepened 65 code start.items =
    sym (settled code c.loop-left.left c.loop-left.rows.items (sym next ∙ sym c.as_slice.ensures.value ∙ same ∙ c.as_slice-in-loop-left.ensures.value)) ∙ c.loop-left.invariant in
    let room = c.in_ok-rows.ensures in
    let ok = start.ok in
    subst (λ (l : List ℕ). TellDepths l m) (sym last) (deep_is m start.items c.requires.once (omega (arith, room, ok)))

pub returns : goal.returns
returns c =
    let m = c.args.of.now in
    let code = m.instrs in
    let start = c.in_ok-rows.rows in
    let over = c.loop-left-test.false in
    let last : c.loop-left.rows.items ≡ deepened 65 code start.items = finished code c.loop-left.left c.loop-left.rows.items (omega (arith, over)) ∙ c.loop-left.invariant in
    let room = c.in_ok-rows.ensures in
    let ok = start.ok in
    subst (λ (l : List ℕ). TellDepths l m) (sym last) (deep_is m start.items c.requires.once (omega (arith, room, ok)))
