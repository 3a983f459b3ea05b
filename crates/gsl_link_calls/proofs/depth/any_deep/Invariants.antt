use Rattle.std.proofs.Common.{◌≡◌, drop}
use Rattle.std.specs.Prelude.{nat_le, slice_index}
use Rattle.std.specs.List.{list_any}
use Rattle.gsl_tree.specs.declared.unit.Function.{Function}
use Rattle.gsl_link_calls.proofs.depth.any_deep.Given as goal

abbrev pub invariant-loop-k : goal.invariant-loop-k
invariant-loop-k l = list_any (λ (f : Function). nat_le 65 (slice_index l.rows f.prototype)) (drop l.k l.functions) ≡ list_any (λ (f : Function). nat_le 65 (slice_index l.rows f.prototype)) l.functions
