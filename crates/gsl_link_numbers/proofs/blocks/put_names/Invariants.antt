use Rattle.std.proofs.Common.{◌≡◌, drop}
use Rattle.std.specs.Prelude.{bytes_eq}
use Rattle.indexmap.specs.IndexSet.{insert_all}
use Rattle.gsl_link_numbers.specs.Joining as spec
use Rattle.gsl_link_numbers.proofs.blocks.put_names.Given as goal

abbrev pub invariant-loop-k : goal.invariant-loop-k
invariant-loop-k l = insert_all bytes_eq l.names.keys (spec.block_names (drop l.k l.blocks)) ≡ insert_all bytes_eq l.initial.names.keys (spec.block_names l.blocks)
