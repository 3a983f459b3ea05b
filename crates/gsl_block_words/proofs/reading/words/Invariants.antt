use Rattle.std.proofs.Common.{◌≡◌}
use Rattle.gsl_block_words.specs.Reading as spec
use Rattle.gsl_block_words.proofs.reading.words.Given as goal

abbrev pub invariant-loop-i : goal.invariant-loop-i
invariant-loop-i l = l.all ≡ spec.words_from l.i l.at l.bytes
