use Rattle.gsl_lower_leaves.specs.Leaves.{element_leaves}
use Rattle.gsl_lower_leaves.proofs.Rows.{elements_on}
use Rattle.gsl_lower_leaves.proofs.leaves.elements.Goals as goal

pub loop-k-preserved : goal.loop-k-preserved
loop-k-preserved c = elements_on (element_leaves c.args.element.now) c.loop-k.all c.put_within.new.all c.loop-k.k c.args.count _ c.loop-k-test.true c.in_ok-put_within.ensures c.loop-k.invariant
