use Rattle.std.proofs.Common.{sym, ◌∙◌}
use Rattle.std.proofs.lemmas.Result.{err_from_is_err_and}
use Rattle.gsl_expr.proofs.Turns.{refused, brackets_end, brackets_bad_one, brackets_bad, brackets_turn}
use Rattle.gsl_expr.proofs.grammar.Grammar.brackets.Goals as goal

pub returns-then-not-sees : goal.returns-then-not-sees
returns-then-not-sees g c = (brackets_end _ _ _ _ _ _ _ c.loop-turn.invariant.0 (sym c.sees.ensures ∙ c.if-not-sees.true), c.loop-turn.invariant.1)

pub returns-in_err-place : goal.returns-in_err-place
returns-in_err-place g c =
    let p = err_from_is_err_and c.from_residual.result c.from_residual.ensures.1 in
    rw (p.1, p.2) (refused _ _ _ _ _ _ c.in_err-place.ensures c.loop-turn.invariant.1 (λ bad e. brackets_bad_one _ _ _ _ _ _ _ c.loop-turn.invariant.0 bad (sym c.sees.ensures ∙ c.if-not-sees.false) e))

pub returns-in_err-dim : goal.returns-in_err-dim
returns-in_err-dim g c =
    let p = err_from_is_err_and c.from_residual-in_err-dim.result c.from_residual-in_err-dim.ensures.1 in
    rw (p.1, p.2) (refused _ _ _ _ _ _ c.in_err-dim.ensures (c.in_ok-place.ensures.1 ∙ c.loop-turn.invariant.1) (λ bad e. brackets_bad _ _ _ _ _ _ _ c.loop-turn.invariant.0 _ _ bad (sym c.sees.ensures ∙ c.if-not-sees.false) c.in_ok-place.ensures.0 e))

pub loop-turn-preserved : goal.loop-turn-preserved
loop-turn-preserved g c = (
  brackets_turn _ _ _ _ _ _ _ c.loop-turn.invariant.0 _ _ _ (c.in_ok-dim.dim, c.in_ok-dim.next) _ (sym c.sees.ensures ∙ c.if-not-sees.false) c.in_ok-place.ensures.0 c.in_ok-dim.ensures.0 c.in_ok-push.ensures.ok,
  c.in_ok-dim.ensures.1 ∙ c.in_ok-place.ensures.1 ∙ c.loop-turn.invariant.1,
)
