use Rattle.gsl_compute.proofs.Loops.{pushed}
use Rattle.gsl_tree.specs.Values.{components_in}
use Rattle.gsl_compute.proofs.builtins.rows_of.Goals as goal

pub loop-k-preserved : goal.loop-k-preserved
loop-k-preserved c = pushed components_in c.args.args.now c.loop-k.k c.index.result.now c.loop-k.rows c.push.new.self c.in_ok-components.field-0 c.in_ok-push.ensures.ok c.in_ok-components.ensures c.index.ensures c.loop-k.invariant
