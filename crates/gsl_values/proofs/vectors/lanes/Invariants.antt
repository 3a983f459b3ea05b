use Rattle.std.proofs.Common.{◌≡◌, ℕ, ◌≤◌, take, drop, get_or, length}
use Rattle.gsl_values.specs.Vectors.{components, binary_each}
use Rattle.gsl_values.proofs.Components.{with_front}
use Rattle.gsl_values.proofs.vectors.lanes.Given as goal

abbrev pub invariant-loop-i : goal.invariant-loop-i
invariant-loop-i l = record {
  each : with_front (take l.i l.words) (binary_each l.op l.signed (drop l.i (components l.a)) (drop l.i (components l.b)) l.choices)
      ≡ binary_each l.op l.signed (components l.a) (components l.b) l.fn.choices;
  past : (k : ℕ) → l.i ≤ k → get_or l.words k 0 ≡ 0;
  four : length l.words ≡ 4;
}
