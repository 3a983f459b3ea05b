use Rattle.std.proofs.Common.{◌≡◌, length}
use Rattle.std.specs.Prelude.{nat_le, slice_index}
use Rattle.std.specs.List.{list_all}
use Rattle.gsl_valid_calls.proofs.reach.all_within.Given as goal

abbrev pub invariant-loop-callee : goal.invariant-loop-callee
invariant-loop-callee l =
    list_all (λ next. nat_le (slice_index l.ranks next) l.most) l.callees ≡ list_all (λ next. nat_le (slice_index l.ranks next) l.most) l.fn.callees

abbrev pub decreases-loop-callee : goal.decreases-loop-callee
decreases-loop-callee l = length l.callees
