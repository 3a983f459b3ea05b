use Rattle.std.proofs.Common.{◌≡◌, drop}
use Rattle.std.specs.Prelude.{nat_le, slice_index}
use Rattle.std.specs.List.{list_all}
use Rattle.gsl_link_calls.proofs.graph.none_higher.Given as goal

abbrev pub invariant-loop-k : goal.invariant-loop-k
invariant-loop-k l = list_all (λ next. nat_le (slice_index l.ranks next) l.most) (drop l.k l.heads) ≡ list_all (λ next. nat_le (slice_index l.ranks next) l.most) l.heads
