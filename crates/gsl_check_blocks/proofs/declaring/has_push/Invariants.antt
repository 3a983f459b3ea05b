use Rattle.std.proofs.Common.{◌≡◌, drop}
use Rattle.std.specs.Prelude.{nat_lt}
use Rattle.gsl_tree.specs.WellTyped.{push_blocks}
use Rattle.gsl_check_blocks.proofs.declaring.has_push.Given as goal

-- One of all blocks is one of those from here on.
abbrev pub invariant-loop-k : goal.invariant-loop-k
invariant-loop-k l = nat_lt 0 (push_blocks l.fn.blocks) ≡ nat_lt 0 (push_blocks (drop l.k l.fn.blocks))
