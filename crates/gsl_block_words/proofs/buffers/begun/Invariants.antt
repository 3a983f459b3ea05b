use Rattle.std.proofs.Common.{◌≡◌, ◌++◌, drop, map}
use Rattle.gsl_meaning.specs.Blocks.{begun}
use Rattle.gsl_block_words.proofs.buffers.begun.Given as goal

abbrev pub invariant-loop-k : goal.invariant-loop-k
invariant-loop-k l = l.all ++ map (begun l.structs l.input) (drop l.k l.blocks) ≡ map (begun l.structs l.input) l.blocks
