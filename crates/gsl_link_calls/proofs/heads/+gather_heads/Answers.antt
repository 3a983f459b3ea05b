use Rattle.gsl_link_calls.specs.Gathering as spec
use Rattle.gsl_link_calls.proofs.Lists.{turn_step}
use Rattle.gsl_link_calls.proofs.heads.+gather_heads.Goals as goal

pub all_heads_gathered-loop-k-preserved : goal.all_heads_gathered-loop-k-preserved
all_heads_gathered-loop-k-preserved t c = turn_step spec.heads_gathered c.loop-k.calls c.heads_gathered.new.calls c.args.es.now c.loop-k.k _ _ c.index.ensures c.in_ok-heads_gathered.ensures c.loop-k.invariant
