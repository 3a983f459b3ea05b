use Rattle.std.proofs.Common.{arith}
use Rattle.gsl_lower_needs.specs.Bodies.{arms, row}
use Rattle.gsl_lower_needs.proofs.Turns.{arms_end, arms_on, row_end, row_left, row_on}
use Rattle.gsl_lower_needs.proofs.asker.Asker.+statements.Goals as goal

pub body-returns-then-left : goal.body-returns-then-left
body-returns-then-left t c =
    row_left c.args.self.now.prototypes.now c.args.ss.now c.loop-k.k c.index.result.now c.in_ok-left.left c.loop-k.needs c.statement.new.needs (row c.args.self.now.prototypes.now c.args.ss.now c.args.needs.now) c.index.ensures c.in_ok-left.ensures c.if-left.true c.loop-k.invariant

pub body-loop-k-preserved : goal.body-loop-k-preserved
body-loop-k-preserved t c =
    row_on c.args.self.now.prototypes.now c.args.ss.now c.loop-k.k c.index.result.now c.in_ok-left.left c.loop-k.needs c.statement.new.needs (row c.args.self.now.prototypes.now c.args.ss.now c.args.needs.now) c.index.ensures c.in_ok-left.ensures c.if-left.false c.loop-k.invariant

pub body-returns : goal.body-returns
body-returns t c = row_end c.args.self.now.prototypes.now c.args.ss.now c.loop-k.k c.loop-k.needs (row c.args.self.now.prototypes.now c.args.ss.now c.args.needs.now) (omega (arith, c.loop-k-test.false, c.len-k-end.ensures)) c.loop-k.invariant

pub arms-loop-k-preserved : goal.arms-loop-k-preserved
arms-loop-k-preserved t c =
    arms_on c.args.self.now.prototypes.now c.args.arms.now c.loop-k.k c.index.result.now _ c.loop-k.needs c.body.new.needs (arms c.args.self.now.prototypes.now c.args.arms.now c.args.needs.now) c.index.ensures c.in_ok-body.ensures c.loop-k.invariant

pub arms-returns : goal.arms-returns
arms-returns t c = arms_end c.args.self.now.prototypes.now c.args.arms.now c.loop-k.k c.loop-k.needs (arms c.args.self.now.prototypes.now c.args.arms.now c.args.needs.now) (omega (arith, c.loop-k-test.false, c.len-k-end.ensures)) c.loop-k.invariant
