use Rattle.gsl_compute.proofs.Loops.{pushed}
use Rattle.gsl_tree.specs.Values.{zero_value}
use Rattle.gsl_perform_main.proofs.zeros.zeros.Goals as goal

pub loop-k-preserved : goal.loop-k-preserved
loop-k-preserved c = pushed (zero_value c.args.frame.now.program.structs) c.args.types.now c.loop-k.k c.index.result.now c.loop-k.all c.push.new.self c.in_ok-v.v c.in_ok-push.ensures.ok c.in_ok-v.ensures c.index.ensures c.loop-k.invariant
