use Rattle.std.proofs.Common.{◌≡◌, drop}
use Rattle.indexmap.specs.IndexSet.{insert_all}
use Rattle.gsl_link_whole.specs.Numbers.{same_block}
use Rattle.gsl_link_numbers.specs.Joining as spec
use Rattle.gsl_link_numbers.proofs.blocks.add_blocks.Given as goal

abbrev pub invariant-loop-k : goal.invariant-loop-k
invariant-loop-k l = (l.names.keys ≡ spec.block_names l.all) × (insert_all same_block l.all (drop l.k l.more) ≡ insert_all same_block l.initial.all l.more)
