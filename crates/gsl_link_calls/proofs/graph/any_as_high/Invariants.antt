use Rattle.std.proofs.Common.{◌≡◌, drop}
use Rattle.std.specs.Prelude.{nat_le, slice_index}
use Rattle.std.specs.List.{list_any}
use Rattle.gsl_link_calls.proofs.graph.any_as_high.Given as goal

abbrev pub invariant-loop-k : goal.invariant-loop-k
invariant-loop-k l = list_any (λ next. nat_le l.least (slice_index l.ranks next)) (drop l.k l.heads) ≡ list_any (λ next. nat_le l.least (slice_index l.ranks next)) l.heads
