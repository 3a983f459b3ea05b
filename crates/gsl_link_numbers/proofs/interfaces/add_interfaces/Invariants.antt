use Rattle.std.proofs.Common.{◌≡◌, drop}
use Rattle.indexmap.specs.IndexSet.{insert_all}
use Rattle.gsl_link_whole.specs.Numbers.{same_interface}
use Rattle.gsl_link_numbers.specs.Joining as spec
use Rattle.gsl_link_numbers.proofs.interfaces.add_interfaces.Given as goal

abbrev pub invariant-loop-k : goal.invariant-loop-k
invariant-loop-k l = (l.names.keys ≡ spec.interface_names l.all) × (insert_all same_interface l.all (drop l.k l.more) ≡ insert_all same_interface l.initial.all l.more)
