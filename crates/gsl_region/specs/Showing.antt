-- Words that show variables, and bytes as words.
use Rattle.std.specs.Prelude.{◌≡◌, ℕ, ◌+◌, ◌*◌, ◌/◌, List, ◌++◌, length, map, take, drop}
use Rattle.std.specs.List.{range_with_len}
use Rattle.gsl_values.specs.declared.value.Value.{Value}
use Rattle.gsl_words.specs.Words.{word_at}
use Rattle.gsl_region.specs.Flat.{flat_all}

-- The words of the variables stand in front, in the order of the variables; behind them there may be any others.
pub record Shows (words : List ℕ) (variables : List Value) : Type 0 where
  pub rest : List ℕ
  pub is : words ≡ flat_all variables ++ rest

-- words with others at a place
abbrev pub with_words : List ℕ → ℕ → List ℕ → List ℕ
with_words words place new = take place words ++ (new ++ drop (place + length new) words)

-- bytes as words of four bytes each, the least byte first
unfoldable pub as_words : List ℕ → List ℕ
as_words bytes = map (λ k. word_at bytes (4 * k)) (range_with_len 0 (length bytes / 4))
