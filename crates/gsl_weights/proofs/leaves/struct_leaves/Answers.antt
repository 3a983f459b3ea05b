use Rattle.std.proofs.Common.{sym, arith}
use Rattle.gsl_weights.proofs.Structs.{none_told}
use Rattle.gsl_weights.proofs.leaves.struct_leaves.Goals as goal

pub returns-then-at-len : goal.returns-then-at-len
returns-then-at-len c = (c.requires.known _ _ c.index.ensures).told

pub returns-else-at-len : goal.returns-else-at-len
returns-else-at-len c = sym (none_told c.args.structs.now c.args.number (omega arith))
