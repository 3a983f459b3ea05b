use Rattle.std.proofs.Common.{arith}
use Rattle.gsl_lower_needs.specs.Coming.{keeps_all, passes_all, sequence_of}
use Rattle.gsl_lower_needs.proofs.Turns.{kept_all, kept_on, last_is, next_on, passed_all, passed_on}
use Rattle.gsl_lower_needs.proofs.asker.Asker.+expressions.Goals as goal

pub keeps-loop-k-preserved : goal.keeps-loop-k-preserved
keeps-loop-k-preserved t c =
    kept_on c.args.self.now.prototypes.now c.args.es.now c.loop-k.k c.index-in-loop-k.result.now c.index.result.now c.index-in-loop-k-2.result.now c.loop-k.left c.in_ok-left-2.left _ _ c.loop-k.needs c.value.new.needs c.hold.new.needs (keeps_all c.args.self.now.prototypes.now c.args.es.now c.args.needs.now)
    c.index-in-loop-k.ensures c.index.ensures c.index-in-loop-k-2.ensures c.in_ok-left-2.ensures c.in_ok-value.ensures c.in_ok-hold.ensures c.loop-k.invariant

pub keeps-returns : goal.keeps-returns
keeps-returns t c = kept_all c.args.self.now.prototypes.now c.args.es.now c.loop-k.k c.loop-k.needs (keeps_all c.args.self.now.prototypes.now c.args.es.now c.args.needs.now) (omega (arith, c.loop-k-test.false, c.len-k-end.ensures)) c.loop-k.invariant.1

pub sequence-loop-k-preserved : goal.sequence-loop-k-preserved
sequence-loop-k-preserved t c =
    next_on c.args.self.now.prototypes.now c.args.items.now c.loop-k.k c.index.result.now _ c.loop-k.needs c.value.new.needs (sequence_of c.args.self.now.prototypes.now c.args.items.now c.args.needs.now) c.index.ensures c.in_ok-value.ensures c.loop-k.invariant

pub sequence-returns : goal.sequence-returns
sequence-returns t c = last_is c.args.self.now.prototypes.now c.args.items.now c.loop-k.k c.loop-k.needs (sequence_of c.args.self.now.prototypes.now c.args.items.now c.args.needs.now) (omega (arith, c.loop-k-test.false, c.len-k-end.ensures)) c.loop-k.invariant

pub passes_all-loop-k-preserved : goal.passes_all-loop-k-preserved
passes_all-loop-k-preserved t c =
    passed_on c.args.self.now.prototypes.now c.args.es.now c.args.params.now c.loop-k.k c.index-in-loop-k.result.now c.index.result.now c.param_at-param.result.now c.loop-k.left c.in_ok-left-2.left _ c.loop-k.needs c.passes.new.needs (passes_all c.args.self.now.prototypes.now c.args.es.now c.args.params.now c.args.needs.now)
    c.index-in-loop-k.ensures c.index.ensures c.param_at-param.ensures c.in_ok-left-2.ensures c.in_ok-passes.ensures c.loop-k.invariant

pub passes_all-returns : goal.passes_all-returns
passes_all-returns t c = passed_all c.args.self.now.prototypes.now c.args.es.now c.args.params.now c.loop-k.k c.loop-k.needs (passes_all c.args.self.now.prototypes.now c.args.es.now c.args.params.now c.args.needs.now) (omega (arith, c.loop-k-test.false, c.len-k-end.ensures)) c.loop-k.invariant.1
