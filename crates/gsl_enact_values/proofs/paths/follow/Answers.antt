use Rattle.gsl_enact_values.proofs.Followed.{none_at}
use Rattle.gsl_enact_values.proofs.paths.follow.Goals as goal

pub returns-then-path-k : goal.returns-then-path-k
returns-then-path-k c = none_at c.loop-k.at.now _ c.parts_of-parts.result.now c.args.path.now c.loop-k.k c.parts_of-parts.ensures c.loop-k-test.true c.if-path-k.true c.loop-k.invariant
