use Rattle.std.proofs.Common.{◌≡◌, ◌+◌, ◌≤◌, drop}
use Rattle.gsl_leaves.specs.Leaves.{offset}
use Rattle.gsl_leaves.specs.Table.{most}
use Rattle.gsl_step_values.proofs.parts.offset.Given as goal

abbrev pub invariant-loop-k : goal.invariant-loop-k
invariant-loop-k l = offset l.leaves l.fn.type_ l.path ≤ most → l.at + offset l.leaves l.part (drop l.k l.path) ≡ offset l.leaves l.fn.type_ l.path
