use Rattle.std.proofs.Common.{◌≡◌, drop}
use Rattle.std.specs.Prelude.{nat_eq}
use Rattle.indexmap.specs.IndexSet.{insert_all}
use Rattle.gsl_lower_flow.proofs.reaching.add_all.Given as goal

abbrev pub invariant-loop-k : goal.invariant-loop-k
invariant-loop-k l = insert_all nat_eq l.heads.keys (drop l.k l.callees) ≡ insert_all nat_eq l.initial.heads.keys l.callees
