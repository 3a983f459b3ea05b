use Rattle.std.proofs.Common.{drop}
use Rattle.gsl_lower_values.proofs.Runs.{none_wanted}
use Rattle.gsl_lower_values.proofs.constructors.shares.Goals as goal

pub returns-then-wanted-eq0 : goal.returns-then-wanted-eq0
returns-then-wanted-eq0 c = none_wanted c.loop-k.wanted (drop c.loop-k.k c.args.args.now) c.loop-k.all _ c.if-wanted-eq0.true c.loop-k.invariant
