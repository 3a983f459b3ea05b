use Rattle.gsl_weights.specs.Weighing as spec
use Rattle.gsl_weights.proofs.Steps.{weigh-Binary}
use Rattle.gsl_weights.proofs.Sums.{turn_step}
use Rattle.gsl_weights.proofs.expressions.+weigh.Goals as goal

pub kind_weighed-returns-in-Binary : goal.kind_weighed-returns-in-Binary
kind_weighed-returns-in-Binary t c = cc (weigh-Binary c.args.structs.now c.args.so_far c.in-Binary.op c.in-Binary.a c.in-Binary.b)

pub all_weighed-loop-k-preserved : goal.all_weighed-loop-k-preserved
all_weighed-loop-k-preserved t c =
    turn_step (spec.read_weighed c.args.structs.now) c.loop-k.total c.read_weighed-total.result c.args.es.now c.loop-k.k c.index.result.now _ c.index.ensures c.read_weighed-total.ensures c.loop-k.invariant
