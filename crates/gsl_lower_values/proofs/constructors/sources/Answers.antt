use Rattle.std.proofs.Common.{◌∙◌, ap}
use Rattle.gsl_lower_values.specs.Constructors as spec
use Rattle.gsl_lower_values.proofs.Runs.{run_on}
use Rattle.gsl_lower_values.proofs.constructors.sources.Goals as goal

pub loop-position-preserved : goal.loop-position-preserved
loop-position-preserved c =
    run_on (spec.source c.args.count c.args.positions.now) c.loop-position.all c.push.new.self c.loop-position.position c.args.count c.in_ok-source.field-0 _ c.loop-position-test.true c.in_ok-push.ensures.ok
    (c.in_ok-source.ensures ∙ ap (spec.source_by c.args.count c.loop-position.position) c.place_among.ensures) c.loop-position.invariant
