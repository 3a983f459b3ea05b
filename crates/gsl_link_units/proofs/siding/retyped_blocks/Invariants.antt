use Rattle.std.proofs.Common.{◌≡◌, ◌++◌, drop, map, take}
use Rattle.gsl_link_units.specs.Declarations as spec
use Rattle.gsl_link_units.proofs.siding.retyped_blocks.Given as goal

abbrev pub invariant-loop-k : goal.invariant-loop-k
invariant-loop-k l = l.all.items ≡ map (spec.retyped_block l.fn.numbers) (take l.k l.fn.blocks) ++ drop l.k l.fn.blocks
