use Rattle.gsl_compute.proofs.Loops.{pushed}
use Rattle.gsl_values.specs.Operators.{unary_word}
use Rattle.gsl_compute.proofs.operators.unary_words.Goals as goal

pub loop-k-preserved : goal.loop-k-preserved
loop-k-preserved c = pushed (unary_word c.args.op) c.args.words.now c.loop-k.k c.index.result.now c.loop-k.given c.push.new.self c.unary.result c.in_ok-push.ensures.ok c.unary.ensures c.index.ensures c.loop-k.invariant
