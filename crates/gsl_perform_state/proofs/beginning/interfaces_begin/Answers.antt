use Rattle.gsl_compute.proofs.Loops.{pushed}
use Rattle.gsl_meaning.specs.Stages as stages
use Rattle.gsl_perform_state.proofs.beginning.interfaces_begin.Goals as goal

pub loop-k-preserved : goal.loop-k-preserved
loop-k-preserved c =
    pushed (stages.interface_begins c.args.shapes.now c.args.input.now) c.args.interfaces.now c.loop-k.k c.index.result.now c.loop-k.all c.push.new.self c.in_ok-v.v c.in_ok-push.ensures.ok c.in_ok-v.ensures c.index.ensures c.loop-k.invariant
