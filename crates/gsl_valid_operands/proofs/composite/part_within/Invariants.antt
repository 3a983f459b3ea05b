use Rattle.std.proofs.Common.{◌≡◌, ◌-◌, ◌≤◌, length, drop}
use Rattle.gsl_valid.specs.OperandRules.{part_within}
use Rattle.gsl_valid_operands.proofs.composite.part_within.Given as goal

abbrev pub invariant-loop-k : goal.invariant-loop-k
invariant-loop-k l = (part_within l.definitions l.reached (drop l.k l.places) ≡ part_within l.definitions l.fn.from l.places) × (l.k ≤ length l.places)

abbrev pub decreases-loop-k : goal.decreases-loop-k
decreases-loop-k l = length l.places - l.k
