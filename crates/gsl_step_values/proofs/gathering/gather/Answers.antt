use Rattle.std.proofs.Common.{refl, arith}
use Rattle.gsl_step_values.proofs.Gathered.{begins, gather_more, gathered_all}
use Rattle.gsl_step_values.proofs.gathering.gather.Goals as goal

pub loop-k-init : goal.loop-k-init
loop-k-init c fits = begins c.args.operands.now c.args.base c.args.at c.args.slots.now c.args.parts.now fits c.args.at refl

pub loop-k-preserved : goal.loop-k-preserved
loop-k-preserved c fits =
    gather_more c.args.operands.now c.args.base c.args.at c.args.slots.now c.args.parts.now fits c.loop-k.k c.loop-k.slots c.loop-k.end (c.loop-k.invariant fits) c.loop-k-test.true c.words_of-count.result c.stands-from.result c.saturating_add-end.result
    c.put_same.new.slots c.words_of-count.ensures.all c.stands-from.ensures c.put_same.ensures c.saturating_add-end.ensures

pub returns : goal.returns
returns c fits = gathered_all c.args.operands.now c.args.base c.args.at c.args.slots.now c.args.parts.now c.loop-k.k c.loop-k.slots c.loop-k.end (c.loop-k.invariant fits) (omega (arith, c.loop-k-test.false))
