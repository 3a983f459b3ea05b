use Rattle.std.proofs.Common.{arith}
use Rattle.gsl_shapes.proofs.Lists.{all_beside}
use Rattle.gsl_shapes.proofs.told.+told.Goals as goal

pub members_told-returns : goal.members_told-returns
members_told-returns t c = all_beside c.args.members.now c.args.parts.now c.loop-k.k c.loop-k.all _ (omega arith) c.loop-k.invariant
