use Rattle.std.proofs.Common.{sym, ◌∙◌}
use Rattle.std.proofs.lemmas.Result.{err_from_is_err_and}
use Rattle.gsl_expr.proofs.Turns.{refused, binds_less, binds_enough, climb_end, climb_bad, climb_turn}
use Rattle.gsl_expr.proofs.grammar.Grammar.climb.Goals as goal

pub returns-then-binds-least : goal.returns-then-binds-least
returns-then-binds-least g c = (climb_end _ _ _ _ _ _ _ c.loop-turn.invariant.0 (binds_less _ _ _ _ c.binds.ensures c.next_follow.ensures c.if-binds-least.true), c.loop-turn.invariant.1)

pub returns-in_err-left : goal.returns-in_err-left
returns-in_err-left g c =
    let p = err_from_is_err_and c.from_residual.result c.from_residual.ensures.1 in
    rw (p.1, p.2) (refused _ _ _ _ _ _ c.in_err-left.ensures c.loop-turn.invariant.1 (λ bad e. climb_bad _ _ _ _ _ _ _ c.loop-turn.invariant.0 bad c.requires.some (binds_enough _ _ _ _ c.binds.ensures c.next_follow.ensures c.if-binds-least.false) e))

pub loop-turn-preserved : goal.loop-turn-preserved
loop-turn-preserved g c = (climb_turn _ _ _ _ _ _ _ c.loop-turn.invariant.0 _ _ (binds_enough _ _ _ _ c.binds.ensures c.next_follow.ensures c.if-binds-least.false) c.in_ok-left.ensures.0, c.in_ok-left.ensures.1 ∙ c.loop-turn.invariant.1)
