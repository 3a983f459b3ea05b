use Rattle.std.proofs.Common.{sym, ◌∙◌}
use Rattle.std.proofs.lemmas.Result.{err_from_is_err_and}
use Rattle.gsl_expr.proofs.Turns.{refused}
use Rattle.gsl_parse.proofs.Loops.{statements_bad_one, statements_end, statements_bad, statements_turn}
use Rattle.gsl_parse.proofs.Shrinking.{statement_none, statement_takes}
use Rattle.gsl_parse.proofs.statement.Rules.statements.Goals as goal

pub returns-in_err-take_one : goal.returns-in_err-take_one
returns-in_err-take_one g c =
    let p = err_from_is_err_and c.from_residual.result c.from_residual.ensures.1 in
    rw (p.1, p.2) (refused _ _ _ _ _ _ c.in_err-take_one.ensures c.loop-turn.invariant.1 (λ bad e. statements_bad_one _ _ _ _ _ _ c.loop-turn.invariant.0 bad (sym c.sees.ensures ∙ c.if-sees.true) e))

pub returns-then-sees : goal.returns-then-sees
returns-then-sees g c = (statements_end _ _ _ _ _ _ c.loop-turn.invariant.0 _ _ (sym c.sees.ensures ∙ c.if-sees.true) c.in_ok-take_one.ensures.0, c.in_ok-take_one.ensures.1 ∙ c.loop-turn.invariant.1)

pub returns-in_err-item : goal.returns-in_err-item
returns-in_err-item g c =
    let p = err_from_is_err_and c.from_residual-in_err-item.result c.from_residual-in_err-item.ensures.1 in
    rw (p.1, p.2) (refused _ _ _ _ _ _ c.in_err-item.ensures c.loop-turn.invariant.1 (λ bad e. statements_bad _ _ _ _ _ _ c.loop-turn.invariant.0 bad (statement_none _) (sym c.sees.ensures ∙ c.if-sees.false) e))

pub loop-turn-preserved : goal.loop-turn-preserved
loop-turn-preserved g c =
    (statements_turn _ _ _ _ _ _ c.loop-turn.invariant.0 _ _ _ (sym c.sees.ensures ∙ c.if-sees.false) c.in_ok-item.ensures.0 (statement_takes _ _ _ _ c.in_ok-item.ensures.0) c.in_ok-push.ensures.ok, c.in_ok-item.ensures.1 ∙ c.loop-turn.invariant.1)
