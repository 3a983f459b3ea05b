use Rattle.gsl_compute.proofs.Loops.{pushed}
use Rattle.gsl_perform_state.specs.Beginning as words
use Rattle.gsl_perform_state.proofs.beginning.globals_begin.Goals as goal

pub loop-k-preserved : goal.loop-k-preserved
loop-k-preserved c = pushed (words.global_begun c.args.shapes.now) c.args.globals.now c.loop-k.k c.index.result.now c.loop-k.all c.push.new.self c.in_ok-v.v c.in_ok-push.ensures.ok c.in_ok-v.ensures c.index.ensures c.loop-k.invariant
