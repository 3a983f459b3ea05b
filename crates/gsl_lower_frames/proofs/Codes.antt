-- Code in front of other code, and how long it is.
use Rattle.std.proofs.Common.{ℕ, ◌+◌, ◌≤◌, [], ◌∷◌, ◌++◌, length, arith}
use Rattle.gsl_words.specs.Instructions.{word_count}
use Rattle.gsl_valid.specs.Placed.{Code, words_from}
use Rattle.gsl_valid.specs.Search.{Passes, Test, passed}

-- what passes passes part by part
pub passes_front : (test : Test) (before a b : Code) → Passes test before (a ++ b) → Passes test before a
passes_front test before [] b all = tt
passes_front test before (i ∷ a) b all = (all.0, passes_front test (i ∷ before) a b all.1)

pub passes_behind : (test : Test) (before a b : Code) → Passes test before (a ++ b) → Passes test (passed before a) b
passes_behind test before [] b all = all
passes_behind test before (i ∷ a) b all = passes_behind test (i ∷ before) a b all.1

-- an instruction has a word at least
pub words_many : (at : ℕ) (code : Code) → at + length code ≤ words_from at code
words_many at [] = omega arith
words_many at (i ∷ code) = let later = words_many (at + word_count i) code in omega (arith, later)
