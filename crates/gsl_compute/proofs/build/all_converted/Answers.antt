use Rattle.gsl_compute.proofs.Loops.{pushed}
use Rattle.gsl_tree.specs.Operations.{converted}
use Rattle.gsl_compute.proofs.build.all_converted.Goals as goal

pub loop-k-preserved : goal.loop-k-preserved
loop-k-preserved c = pushed (converted c.args.scalar) c.args.words.now c.loop-k.k c.index.result.now c.loop-k.given c.push.new.self c.converted.result c.in_ok-push.ensures.ok c.converted.ensures c.index.ensures c.loop-k.invariant
