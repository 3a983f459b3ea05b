use Rattle.gsl_lower_values.proofs.Runs.{row_on}
use Rattle.gsl_lower_values.proofs.constructors.row.Goals as goal

pub loop-k-preserved : goal.loop-k-preserved
loop-k-preserved c = row_on c.loop-k.numbers c.push.new.self c.loop-k.k c.args.count _ c.loop-k-test.true c.in_ok-push.ensures.ok c.loop-k.invariant
