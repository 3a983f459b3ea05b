use Rattle.std.proofs.Common.{◌≡◌, ◌+◌, ◌-◌, ◌*◌, ◌++◌, map}
use Rattle.std.specs.List.{range_with_len}
use Rattle.gsl_words.specs.Words.{word_at}
use Rattle.gsl_enact_memory.proofs.loads.words_at.Given as goal

abbrev pub invariant-loop-k : goal.invariant-loop-k
invariant-loop-k l =
    l.words ++ map (λ k. word_at l.bytes (l.offset + 4 * k)) (range_with_len l.k (l.size - l.k)) ≡ map (λ k. word_at l.bytes (l.offset + 4 * k)) (range_with_len 0 l.size)
