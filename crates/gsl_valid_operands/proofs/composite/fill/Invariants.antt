use Rattle.std.proofs.Common.{◌≡◌, ◌-◌, ◌≤◌, length, drop}
use Rattle.std.specs.Prelude.{◌==◌, map}
use Rattle.std.specs.List.{sum}
use Rattle.gsl_valid.specs.OperandRules.{size_of}
use Rattle.gsl_valid_operands.proofs.composite.fill.Given as goal

abbrev pub invariant-loop-k : goal.invariant-loop-k
invariant-loop-k l =
    ((sum (map (size_of l.definitions) (drop l.k l.parts)) == l.left) ≡ (sum (map (size_of l.definitions) l.parts) == l.fn.count)) × (l.k ≤ length l.parts)

abbrev pub decreases-loop-k : goal.decreases-loop-k
decreases-loop-k l = length l.parts - l.k
