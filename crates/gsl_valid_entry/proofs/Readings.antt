-- What is read from instructions at their places is what the rule reads.
use Rattle.std.proofs.Common.{◌≡◌, ℕ, ◌+◌, Bool, true, false, cond, [], ◌∷◌, refl, ap}
use Rattle.std.specs.List.{filter_map, cons_option}
use Rattle.gsl_words.specs.Instructions.{word_count}
use Rattle.gsl_valid.specs.Instruction.{read}
use Rattle.gsl_valid.specs.Placed.{Code, placed_from}
use Rattle.gsl_valid.specs.Types.{function_begins, before_functions}
use Rattle.gsl_valid.specs.EntryRules.{mode_of, interface_variable, model_or, model_of}
use Rattle.gsl_valid_entry.specs.Reading.{modes_from, interface_from, model_from}

pub modes_are : (at : ℕ) (code : Code) → modes_from (placed_from at code) ≡ filter_map (λ i. mode_of (read i)) code
unfolding modes_from
modes_are at [] = refl
modes_are at (i ∷ code) = ap (cons_option (mode_of (read i))) (modes_are (at + word_count i) code)

pub interface_is : (at : ℕ) (code : Code) → interface_from (placed_from at code) ≡ filter_map (λ i. interface_variable (read i)) (before_functions code)
unfolding interface_from
interface_is at [] = refl
interface_is at (i ∷ code) = by_cases (function_begins (read i)) (interface_is (at + word_count i) code)
  where
    by_cases : (b : Bool) → interface_from (placed_from (at + word_count i) code) ≡ filter_map (λ i. interface_variable (read i)) (before_functions code) →
        cond b [] (cons_option (interface_variable (read i)) (interface_from (placed_from (at + word_count i) code)))
        ≡ filter_map (λ i. interface_variable (read i)) (cond b [] (i ∷ before_functions code))
    by_cases true later = refl
    by_cases false later = ap (cons_option (interface_variable (read i))) later

pub model_is : (at : ℕ) (code : Code) → model_from (placed_from at code) ≡ model_of code
unfolding model_from
model_is at [] = refl
model_is at (i ∷ code) = ap (λ n. model_or n (read i)) (model_is (at + word_count i) code)
