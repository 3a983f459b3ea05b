use Rattle.std.proofs.Common.{ap, ◌∙◌, arith}
use Rattle.std.proofs.lemmas.Result.{err_from_is_err_and}
use Rattle.gsl_meaning.specs.Running.{Got}
use Rattle.gsl_perform.specs.Framed.{around}
use Rattle.gsl_flow.specs.Flows.{flow_of}
use Rattle.gsl_flow.proofs.Loops.{fall_broke, fall_continued, fall_on, fall_returned, fall_stops, falls_end, row_broke, row_continued, row_end, row_on, row_returned, row_stops, turn_again, turn_over, turn_stops}
use Rattle.gsl_flow.proofs.body.Body.+statements.Goals as goal

pub row-returns-in_err-statement : goal.row-returns-in_err-statement
row-returns-in_err-statement g t c =
    let p = err_from_is_err_and c.from_residual.result c.from_residual.ensures.1 in
    rw (p.1, p.2) (row_stops (around c.args.self.now.around.frame.now c.args.self.now.around.depth) c.args.self.now.locals.now c.args.ss.now c.loop-k.k c.index.result.now _ c.loop-k.w c.statement.new.w _ c.index.ensures c.in_err-statement.ensures c.loop-k.invariant)

pub row-returns-in-Broke : goal.row-returns-in-Broke
row-returns-in-Broke g t c =
    row_broke (around c.args.self.now.around.frame.now c.args.self.now.around.depth) c.args.self.now.locals.now c.args.ss.now c.loop-k.k c.index.result.now c.loop-k.w c.statement.new.w _ c.index.ensures (c.in_ok-statement.ensures ∙ ap (λ l. Got (flow_of l) c.statement.new.w.store c.statement.new.w.units) c.in-Broke.is) c.loop-k.invariant

pub row-returns-in-Continued : goal.row-returns-in-Continued
row-returns-in-Continued g t c =
    row_continued (around c.args.self.now.around.frame.now c.args.self.now.around.depth) c.args.self.now.locals.now c.args.ss.now c.loop-k.k c.index.result.now c.loop-k.w c.statement.new.w _ c.index.ensures (c.in_ok-statement.ensures ∙ ap (λ l. Got (flow_of l) c.statement.new.w.store c.statement.new.w.units) c.in-Continued.is) c.loop-k.invariant

pub row-returns-in-Returned : goal.row-returns-in-Returned
row-returns-in-Returned g t c =
    row_returned (around c.args.self.now.around.frame.now c.args.self.now.around.depth) c.args.self.now.locals.now c.args.ss.now c.loop-k.k c.index.result.now c.in-Returned.v c.loop-k.w c.statement.new.w _ c.index.ensures (c.in_ok-statement.ensures ∙ ap (λ l. Got (flow_of l) c.statement.new.w.store c.statement.new.w.units) c.in-Returned.is) c.loop-k.invariant

pub row-loop-k-preserved : goal.row-loop-k-preserved
row-loop-k-preserved g t c =
    row_on (around c.args.self.now.around.frame.now c.args.self.now.around.depth) c.args.self.now.locals.now c.args.ss.now c.loop-k.k c.index.result.now c.loop-k.w c.statement.new.w _ c.index.ensures (c.in_ok-statement.ensures ∙ ap (λ l. Got (flow_of l) c.statement.new.w.store c.statement.new.w.units) c.in-Normal.is) c.loop-k.invariant

pub row-returns : goal.row-returns
row-returns g t c = row_end (around c.args.self.now.around.frame.now c.args.self.now.around.depth) c.args.self.now.locals.now c.args.ss.now c.loop-k.k c.loop-k.w _ (omega (arith, c.loop-k-test.false, c.len-k-end.ensures)) c.loop-k.invariant

pub arms-returns-in_err-row : goal.arms-returns-in_err-row
arms-returns-in_err-row g t c =
    let p = err_from_is_err_and c.from_residual.result c.from_residual.ensures.1 in
    rw (p.1, p.2) (fall_stops (around c.args.self.now.around.frame.now c.args.self.now.around.depth) c.args.self.now.locals.now c.args.arms.now c.loop-k.k c.index.result.now _ c.loop-k.w c.row.new.w _ c.index.ensures c.in_err-row.ensures c.loop-k.invariant)

pub arms-returns-in-Broke : goal.arms-returns-in-Broke
arms-returns-in-Broke g t c =
    fall_broke (around c.args.self.now.around.frame.now c.args.self.now.around.depth) c.args.self.now.locals.now c.args.arms.now c.loop-k.k c.index.result.now c.loop-k.w c.row.new.w _ c.index.ensures (c.in_ok-row.ensures ∙ ap (λ l. Got (flow_of l) c.row.new.w.store c.row.new.w.units) c.in-Broke.is) c.loop-k.invariant

pub arms-returns-in-Continued : goal.arms-returns-in-Continued
arms-returns-in-Continued g t c =
    fall_continued (around c.args.self.now.around.frame.now c.args.self.now.around.depth) c.args.self.now.locals.now c.args.arms.now c.loop-k.k c.index.result.now c.loop-k.w c.row.new.w _ c.index.ensures (c.in_ok-row.ensures ∙ ap (λ l. Got (flow_of l) c.row.new.w.store c.row.new.w.units) c.in-Continued.is) c.loop-k.invariant

pub arms-returns-in-Returned : goal.arms-returns-in-Returned
arms-returns-in-Returned g t c =
    fall_returned (around c.args.self.now.around.frame.now c.args.self.now.around.depth) c.args.self.now.locals.now c.args.arms.now c.loop-k.k c.index.result.now c.in-Returned.v c.loop-k.w c.row.new.w _ c.index.ensures (c.in_ok-row.ensures ∙ ap (λ l. Got (flow_of l) c.row.new.w.store c.row.new.w.units) c.in-Returned.is) c.loop-k.invariant

pub arms-loop-k-preserved : goal.arms-loop-k-preserved
arms-loop-k-preserved g t c =
    fall_on (around c.args.self.now.around.frame.now c.args.self.now.around.depth) c.args.self.now.locals.now c.args.arms.now c.loop-k.k c.index.result.now c.loop-k.w c.row.new.w _ c.index.ensures (c.in_ok-row.ensures ∙ ap (λ l. Got (flow_of l) c.row.new.w.store c.row.new.w.units) c.in-Normal.is) c.loop-k.invariant

pub arms-returns : goal.arms-returns
arms-returns g t c = falls_end (around c.args.self.now.around.frame.now c.args.self.now.around.depth) c.args.self.now.locals.now c.args.arms.now c.loop-k.k c.loop-k.w _ (omega (arith, c.loop-k-test.false, c.len-k-end.ensures)) c.loop-k.invariant

pub turns-returns-in_err-turn : goal.turns-returns-in_err-turn
turns-returns-in_err-turn g t c =
    let p = err_from_is_err_and c.from_residual.result c.from_residual.ensures.1 in
    rw (p.1, p.2) (turn_stops c.args.self.now.around.frame.now c.args.self.now.around.depth c.args.self.now.locals.now c.args.test.now c.args.step.now c.args.body.now _ c.loop-turn.w c.turn.new.w _ c.in_err-turn.ensures c.loop-turn.invariant)

pub turns-returns-in-Over : goal.turns-returns-in-Over
turns-returns-in-Over g t c =
    turn_over c.args.self.now.around.frame.now c.args.self.now.around.depth c.args.self.now.locals.now c.args.test.now c.args.step.now c.args.body.now c.in-Over.left c.loop-turn.w c.turn.new.w _ (c.in_ok-turn.ensures ∙ ap (λ turn. Got turn c.turn.new.w.store c.turn.new.w.units) c.in-Over.is) c.loop-turn.invariant

pub turns-loop-turn-preserved : goal.turns-loop-turn-preserved
turns-loop-turn-preserved g t c =
    turn_again c.args.self.now.around.frame.now c.args.self.now.around.depth c.args.self.now.locals.now c.args.test.now c.args.step.now c.args.body.now c.loop-turn.w c.turn.new.w _ (c.in_ok-turn.ensures ∙ ap (λ turn. Got turn c.turn.new.w.store c.turn.new.w.units) c.in-Again.is) c.loop-turn.invariant
