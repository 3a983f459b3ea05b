use Rattle.gsl_compute.proofs.Loops.{copied_on}
use Rattle.gsl_compute.proofs.copy.+copy.Goals as goal

pub copy_all-loop-k-preserved : goal.copy_all-loop-k-preserved
copy_all-loop-k-preserved t c = copied_on c.args.values.now c.loop-k.k c.index.result.now c.loop-k.copied c.push.new.self c.in_ok-copy_value.field-0 c.in_ok-push.ensures.ok c.in_ok-copy_value.ensures c.index.ensures c.loop-k.invariant
