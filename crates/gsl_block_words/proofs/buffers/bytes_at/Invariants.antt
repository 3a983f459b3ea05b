use Rattle.std.proofs.Common.{◌≡◌, drop}
use Rattle.gsl_views.specs.Buffers as blocks
use Rattle.gsl_block_words.proofs.buffers.bytes_at.Given as goal

abbrev pub invariant-loop-k : goal.invariant-loop-k
invariant-loop-k l = blocks.bytes_at (drop l.k l.buffers) l.set l.binding ≡ blocks.bytes_at l.buffers l.set l.binding
