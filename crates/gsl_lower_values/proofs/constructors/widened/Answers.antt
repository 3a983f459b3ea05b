use Rattle.gsl_lower_values.specs.Constructors as spec
use Rattle.gsl_lower_values.proofs.Runs.{run_on}
use Rattle.gsl_lower_values.proofs.constructors.widened.Goals as goal

pub loop-position-preserved : goal.loop-position-preserved
loop-position-preserved c =
    run_on (spec.own_or_first c.args.few) c.loop-position.all c.push.new.self c.loop-position.position c.args.count c.own_or_first.result _ c.loop-position-test.true c.in_ok-push.ensures.ok c.own_or_first.ensures c.loop-position.invariant
