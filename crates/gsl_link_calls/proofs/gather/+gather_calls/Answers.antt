use Rattle.gsl_link_calls.specs.Gathering as spec
use Rattle.gsl_link_calls.proofs.Lists.{turn_step}
use Rattle.gsl_link_calls.proofs.gather.+gather_calls.Goals as goal

pub all_gathered-loop-k-preserved : goal.all_gathered-loop-k-preserved
all_gathered-loop-k-preserved t c = turn_step spec.gathered c.loop-k.calls c.gathered.new.calls c.args.es.now c.loop-k.k _ _ c.index.ensures c.in_ok-gathered.ensures c.loop-k.invariant
