use Rattle.std.proofs.Common.{sym, ◌∙◌}
use Rattle.std.proofs.lemmas.Result.{err_from_is_err_and}
use Rattle.gsl_expr.proofs.Turns.{refused}
use Rattle.gsl_parse.proofs.Loops.{inits_bad, inits_unclosed, inits_end, inits_bad_one, inits_bad_two, inits_closed, inits_turn}
use Rattle.gsl_parse.proofs.Shrinking.{initialiser_none, initialiser_shrinks}
use Rattle.gsl_parse.proofs.variable.+initialiser.Goals as goal

pub initialisers-returns-in_err-item : goal.initialisers-returns-in_err-item
initialisers-returns-in_err-item t c =
    let p = err_from_is_err_and c.from_residual.result c.from_residual.ensures.1 in
    rw (p.1, p.2) (refused _ _ _ _ _ _ c.in_err-item.ensures c.loop-turn.invariant.1 (λ bad e. inits_bad _ _ _ _ _ _ c.loop-turn.invariant.0 (initialiser_none _ _) bad e))

pub initialisers-returns-in_err-expect : goal.initialisers-returns-in_err-expect
initialisers-returns-in_err-expect t c =
    let p = err_from_is_err_and c.from_residual-in_err-expect.result c.from_residual-in_err-expect.ensures.1 in
    rw (p.1, p.2) (refused _ _ _ _ _ _ c.in_err-expect.ensures (c.in_ok-item.ensures.1 ∙ c.loop-turn.invariant.1) (λ bad e. inits_unclosed _ _ _ _ _ _ c.loop-turn.invariant.0 (initialiser_none _ _) _ bad _ c.in_ok-item.ensures.0 (sym c.sees.ensures ∙ c.if-not-sees.true) e))

pub initialisers-returns-then-not-sees : goal.initialisers-returns-then-not-sees
initialisers-returns-then-not-sees t c = (inits_end _ _ _ _ _ _ c.loop-turn.invariant.0 (initialiser_none _ _) _ _ _ _ _ c.in_ok-item.ensures.0 (sym c.sees.ensures ∙ c.if-not-sees.true) c.in_ok-expect.ensures.0 c.in_ok-push.ensures.ok, c.in_ok-expect.ensures.1 ∙ c.in_ok-item.ensures.1 ∙ c.loop-turn.invariant.1)

pub initialisers-returns-in_err-take_one : goal.initialisers-returns-in_err-take_one
initialisers-returns-in_err-take_one t c =
    let p = err_from_is_err_and c.from_residual-in_err-take_one.result c.from_residual-in_err-take_one.ensures.1 in
    rw (p.1, p.2) (refused _ _ _ _ _ _ c.in_err-take_one.ensures (c.in_ok-item.ensures.1 ∙ c.loop-turn.invariant.1) (λ bad e. inits_bad_one _ _ _ _ _ _ c.loop-turn.invariant.0 (initialiser_none _ _) _ bad _ c.in_ok-item.ensures.0 (sym c.sees.ensures ∙ c.if-not-sees.false) e))

pub initialisers-returns-in_err-take_one-2 : goal.initialisers-returns-in_err-take_one-2
initialisers-returns-in_err-take_one-2 t c =
    let p = err_from_is_err_and c.from_residual-in_err-take_one-2.result c.from_residual-in_err-take_one-2.ensures.1 in
    rw (p.1, p.2) (refused _ _ _ _ _ _ c.in_err-take_one-2.ensures (c.in_ok-take_one.ensures.1 ∙ c.in_ok-item.ensures.1 ∙ c.loop-turn.invariant.1) (λ bad e. inits_bad_two _ _ _ _ _ _ c.loop-turn.invariant.0 (initialiser_none _ _) _ _ bad _ _ c.in_ok-item.ensures.0 (sym c.sees.ensures ∙ c.if-not-sees.false) c.in_ok-take_one.ensures.0 (sym c.sees-in-loop-turn.ensures ∙ c.if-sees.true) e))

pub initialisers-returns-then-sees : goal.initialisers-returns-then-sees
initialisers-returns-then-sees t c = (
  inits_closed _ _ _ _ _ _ c.loop-turn.invariant.0 (initialiser_none _ _) _ _ _ _ _ _ _ c.in_ok-item.ensures.0 (sym c.sees.ensures ∙ c.if-not-sees.false) c.in_ok-take_one.ensures.0 (sym c.sees-in-loop-turn.ensures ∙ c.if-sees.true) c.in_ok-take_one-2.ensures.0 c.in_ok-push.ensures.ok,
  c.in_ok-take_one-2.ensures.1 ∙ c.in_ok-take_one.ensures.1 ∙ c.in_ok-item.ensures.1 ∙ c.loop-turn.invariant.1,
)

pub initialisers-loop-turn-preserved : goal.initialisers-loop-turn-preserved
initialisers-loop-turn-preserved t c = (
  inits_turn _ _ _ _ _ _ c.loop-turn.invariant.0 (initialiser_none _ _) _ _ _ _ _ c.in_ok-item.ensures.0 (initialiser_shrinks _ _ _ _ _ c.in_ok-item.ensures.0) (sym c.sees.ensures ∙ c.if-not-sees.false) c.in_ok-take_one.ensures.0 (sym c.sees-in-loop-turn.ensures ∙ c.if-sees.false) c.in_ok-push.ensures.ok,
  c.in_ok-take_one.ensures.1 ∙ c.in_ok-item.ensures.1 ∙ c.loop-turn.invariant.1,
)
