use Rattle.gsl_values.proofs.Words.{word_of_value, word_of_below}
use Rattle.gsl_values.proofs.Clamps.{congruent, bits_of_word, word_of_own_bits}
use Rattle.gsl_values.proofs.laws.words_and_numbers.Goals as goal

pub returns : goal.returns
returns c = record { stands = word_of_value; below = word_of_below; congruent = congruent; bits = bits_of_word; whole = word_of_own_bits }
