use Rattle.gsl_compute.proofs.Loops.{pushed}
use Rattle.gsl_tree.specs.Operations.{step_word}
use Rattle.gsl_compute.proofs.operators.step_words.Goals as goal

pub loop-k-preserved : goal.loop-k-preserved
loop-k-preserved c = pushed (step_word c.args.op) c.args.words.now c.loop-k.k c.index.result.now c.loop-k.given c.push.new.self c.step_word.result c.in_ok-push.ensures.ok c.step_word.ensures c.index.ensures c.loop-k.invariant
