-- Sums of words.
use Rattle.std.proofs.Common.{ℕ, ◌^◌, ◌<◌, arith}
use Rattle.gsl_cmd.specs.Words.{word_sum}

pub sum_small : (a b : ℕ) → word_sum a b < 2 ^ 32
unfolding word_sum
sum_small a b = omega arith
