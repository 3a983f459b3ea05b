use Rattle.std.proofs.Common.{◌≡◌, take}
use Rattle.gsl_link_numbers.specs.Joining as spec
use Rattle.gsl_link_numbers.proofs.blocks.block_numbers.Given as goal

abbrev pub invariant-loop-k : goal.invariant-loop-k
invariant-loop-k l = l.all ≡ spec.block_places l.names.keys (take l.k l.blocks)
