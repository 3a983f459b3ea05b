use Rattle.std.proofs.Common.{◌≡◌, Some, drop}
use Rattle.gsl_valid.specs.MemoryRules.{part_at}
use Rattle.gsl_valid_blocks.proofs.chain.part_at.Given as goal

abbrev pub invariant-loop-index : goal.invariant-loop-index
invariant-loop-index l = part_at l.definitions (Some l.part) (drop l.index-index l.indexes) ≡ part_at l.definitions (Some l.type_) l.indexes
