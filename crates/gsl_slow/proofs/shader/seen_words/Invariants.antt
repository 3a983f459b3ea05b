use Rattle.std.proofs.Common.{◌≡◌, length, map}
use Rattle.std.specs.List.{range_with_len}
use Rattle.gsl_words.specs.Words.{word_at}
use Rattle.gsl_cmd.specs.Buffers.{word_offset}
use Rattle.gsl_slow.proofs.shader.seen_words.Given as goal

abbrev pub invariant-loop-i : goal.invariant-loop-i
invariant-loop-i l = record {
  words : l.words ≡ map (λ i. word_at l.bytes (word_offset i)) (range_with_len 0 l.i);
  count : length l.words ≡ l.i;
}
