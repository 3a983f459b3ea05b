use Rattle.std.proofs.Common.{◌≡◌, drop}
use Rattle.indexmap.specs.IndexSet.{insert_all}
use Rattle.gsl_link_units.specs.Agreement.{same_function}
use Rattle.gsl_link_numbers.specs.Joining as spec
use Rattle.gsl_link_numbers.proofs.heads.add_heads.Given as goal

abbrev pub invariant-loop-k : goal.invariant-loop-k
invariant-loop-k l = (l.keys.keys ≡ spec.head_keys l.all) × (insert_all same_function l.all (drop l.k l.more) ≡ insert_all same_function l.initial.all l.more)
