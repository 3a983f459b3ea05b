use Rattle.std.proofs.Common.{◌≡◌, drop}
use Rattle.gsl_block_words.specs.Blocked as spec
use Rattle.gsl_block_words.proofs.buffers.put_into.Given as goal

abbrev pub invariant-loop-k : goal.invariant-loop-k
invariant-loop-k l = spec.put_into l.structs (drop l.k l.blocks) (drop l.k l.values) l.set l.binding l.bytes ≡ spec.put_into l.structs l.blocks l.values l.set l.binding l.initial.bytes
