use Rattle.std.proofs.Common.{sym, ◌∙◌}
use Rattle.std.proofs.lemmas.Result.{err_from_is_err_and}
use Rattle.gsl_expr.proofs.Turns.{refused, items_bad, items_unclosed, items_end, items_bad_one, items_turn}
use Rattle.gsl_expr.proofs.grammar.Grammar.items.Goals as goal

pub returns-in_err-item : goal.returns-in_err-item
returns-in_err-item g c =
    let p = err_from_is_err_and c.from_residual.result c.from_residual.ensures.1 in
    rw (p.1, p.2) (refused _ _ _ _ _ _ c.in_err-item.ensures c.loop-turn.invariant.1 (λ bad e. items_bad _ _ _ _ _ _ c.loop-turn.invariant.0 bad e))

pub returns-in_err-expect : goal.returns-in_err-expect
returns-in_err-expect g c =
    let p = err_from_is_err_and c.from_residual-in_err-expect.result c.from_residual-in_err-expect.ensures.1 in
    rw (p.1, p.2) (refused _ _ _ _ _ _ c.in_err-expect.ensures (c.in_ok-item.ensures.1 ∙ c.loop-turn.invariant.1) (λ bad e. items_unclosed _ _ _ _ _ _ c.loop-turn.invariant.0 _ bad _ c.in_ok-item.ensures.0 (sym c.sees.ensures ∙ c.if-not-sees.true) e))

pub returns-then-not-sees : goal.returns-then-not-sees
returns-then-not-sees g c = (items_end _ _ _ _ _ _ c.loop-turn.invariant.0 _ _ _ _ _ c.in_ok-item.ensures.0 (sym c.sees.ensures ∙ c.if-not-sees.true) c.in_ok-expect.ensures.0 c.in_ok-push.ensures.ok, c.in_ok-expect.ensures.1 ∙ c.in_ok-item.ensures.1 ∙ c.loop-turn.invariant.1)

pub returns-in_err-take_one : goal.returns-in_err-take_one
returns-in_err-take_one g c =
    let p = err_from_is_err_and c.from_residual-in_err-take_one.result c.from_residual-in_err-take_one.ensures.1 in
    rw (p.1, p.2) (refused _ _ _ _ _ _ c.in_err-take_one.ensures (c.in_ok-item.ensures.1 ∙ c.loop-turn.invariant.1) (λ bad e. items_bad_one _ _ _ _ _ _ c.loop-turn.invariant.0 _ bad _ c.in_ok-item.ensures.0 (sym c.sees.ensures ∙ c.if-not-sees.false) e))

pub loop-turn-preserved : goal.loop-turn-preserved
loop-turn-preserved g c = (
  items_turn _ _ _ _ _ _ c.loop-turn.invariant.0 _ _ _ _ _ c.in_ok-item.ensures.0 (sym c.sees.ensures ∙ c.if-not-sees.false) c.in_ok-take_one.ensures.0 c.in_ok-push.ensures.ok,
  c.in_ok-take_one.ensures.1 ∙ c.in_ok-item.ensures.1 ∙ c.loop-turn.invariant.1,
)
