use Rattle.std.proofs.Common.{arith}
use Rattle.gsl_enact_values.proofs.Lists.{one_more}
use Rattle.gsl_enact_values.proofs.constants.repeated.Goals as goal

pub loop-k-preserved : goal.loop-k-preserved
loop-k-preserved c = one_more c.args.value.now c.in_ok-one.one c.args.count c.loop-k.k c.loop-k.all c.push.new.self _ (omega arith) c.in_ok-push.ensures.ok c.in_ok-one.ensures c.loop-k.invariant
