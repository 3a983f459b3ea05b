use Rattle.std.proofs.Common.{sym, ◌∙◌}
use Rattle.std.proofs.lemmas.Result.{err_from_is_err_and}
use Rattle.gsl_expr.proofs.Turns.{refused}
use Rattle.gsl_parse.proofs.Loops.{row_end, row_bad, row_turn}
use Rattle.gsl_parse.proofs.list.row.Goals as goal

pub returns-then-not-begins : goal.returns-then-not-begins
returns-then-not-begins g c = (row_end _ _ _ _ _ _ _ c.loop-turn.invariant.0 (sym c.begins.ensures ∙ c.if-not-begins.true), c.loop-turn.invariant.1)

pub returns-in_err-item : goal.returns-in_err-item
returns-in_err-item g c =
    let p = err_from_is_err_and c.from_residual.result c.from_residual.ensures.1 in
    rw (p.1, p.2) (refused _ _ _ _ _ _ c.in_err-item.ensures c.loop-turn.invariant.1 (λ bad e. row_bad _ _ _ _ _ _ _ c.loop-turn.invariant.0 bad c.requires.none (sym c.begins.ensures ∙ c.if-not-begins.false) e))

pub loop-turn-preserved : goal.loop-turn-preserved
loop-turn-preserved g c =
    (row_turn _ _ _ _ _ _ _ c.loop-turn.invariant.0 _ _ _ (sym c.begins.ensures ∙ c.if-not-begins.false) c.in_ok-item.ensures.0 (c.requires.takes _ _ _ c.in_ok-item.ensures.0) c.in_ok-push.ensures.ok, c.in_ok-item.ensures.1 ∙ c.loop-turn.invariant.1)
