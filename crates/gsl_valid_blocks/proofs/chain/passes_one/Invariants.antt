use Rattle.std.proofs.Common.{◌≡◌, Some, drop}
use Rattle.gsl_valid.specs.MemoryRules.{passes_one}
use Rattle.gsl_valid_blocks.proofs.chain.passes_one.Given as goal

abbrev pub invariant-loop-index : goal.invariant-loop-index
invariant-loop-index l = passes_one l.decorations l.kind (Some l.part) (drop l.index-index l.indexes) ≡ passes_one l.decorations l.kind (Some l.type_) l.indexes
