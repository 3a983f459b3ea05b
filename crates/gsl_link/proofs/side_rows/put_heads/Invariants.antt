use Rattle.std.proofs.Common.{◌≡◌, drop}
use Rattle.std.specs.Prelude.{nat_eq}
use Rattle.indexmap.specs.IndexSet.{insert_all}
use Rattle.gsl_link.specs.Sides as spec
use Rattle.gsl_link.proofs.side_rows.put_heads.Given as goal

abbrev pub invariant-loop-k : goal.invariant-loop-k
invariant-loop-k l = insert_all nat_eq l.heads.keys (spec.defined_heads (drop l.k l.functions)) ≡ insert_all nat_eq l.initial.heads.keys (spec.defined_heads l.functions)
