use Rattle.std.proofs.Common.{◌≡◌, ◌++◌, drop, map}
use Rattle.gsl_block_words.specs.Blocked.{put_all}
use Rattle.gsl_block_words.proofs.buffers.put_blocks.Given as goal

abbrev pub invariant-loop-k : goal.invariant-loop-k
invariant-loop-k l = l.all ++ map (put_all l.structs l.blocks l.values) (drop l.k l.buffers) ≡ map (put_all l.structs l.blocks l.values) l.buffers
