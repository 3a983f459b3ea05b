use Rattle.std.proofs.Common.{◌≡◌, drop}
use Rattle.gsl_block_words.specs.Writing as spec
use Rattle.gsl_block_words.proofs.putting.put_scalars.Given as goal

abbrev pub invariant-loop-k : goal.invariant-loop-k
invariant-loop-k l = spec.put_scalars l.place (drop l.k l.parts) l.bytes ≡ spec.put_scalars l.fn.at l.parts l.initial.bytes
