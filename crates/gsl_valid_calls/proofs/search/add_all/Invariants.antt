use Rattle.std.proofs.Common.{◌≡◌, length}
use Rattle.std.specs.Prelude.{nat_eq}
use Rattle.indexmap.specs.IndexSet.{insert_all}
use Rattle.gsl_valid_calls.proofs.search.add_all.Given as goal

abbrev pub invariant-loop-callee : goal.invariant-loop-callee
invariant-loop-callee l = insert_all nat_eq l.ids.keys l.callees ≡ insert_all nat_eq l.initial.ids.keys l.fn.callees

abbrev pub decreases-loop-callee : goal.decreases-loop-callee
decreases-loop-callee l = length l.callees
