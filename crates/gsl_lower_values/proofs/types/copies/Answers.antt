use Rattle.gsl_lower_values.proofs.Runs.{copy_on}
use Rattle.gsl_lower_values.proofs.types.copies.Goals as goal

pub loop-k-preserved : goal.loop-k-preserved
loop-k-preserved c = copy_on c.loop-k.ids c.push.new.self c.loop-k.k c.args.count c.args.id _ c.loop-k-test.true c.in_ok-push.ensures.ok c.loop-k.invariant
