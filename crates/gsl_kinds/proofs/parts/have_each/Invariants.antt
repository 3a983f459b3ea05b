use Rattle.std.proofs.Common.{◌≡◌, ◌-◌, ◌≤◌, length, drop}
use Rattle.gsl_kinds.specs.Seen.{has_part}
use Rattle.gsl_valid.specs.ConstantRules.{have_each}
use Rattle.gsl_kinds.proofs.parts.have_each.Given as goal

abbrev pub invariant-loop-k : goal.invariant-loop-k
invariant-loop-k l =
    (have_each (has_part l.parts l.definitions) (drop l.k l.types) (drop l.k l.ids) ≡ have_each (has_part l.parts l.definitions) l.types l.ids)
    × (l.k ≤ length l.types) × (length l.types ≡ length l.ids)

abbrev pub decreases-loop-k : goal.decreases-loop-k
decreases-loop-k l = length l.types - l.k
