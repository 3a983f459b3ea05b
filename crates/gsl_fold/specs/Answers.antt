-- Calls that answer as something that may draw and may stray.
use Rattle.std.specs.Prelude.{◌≡◌, ℕ, List, ◌++◌, Option, Some, None, Result, Ok, Err}
use Rattle.gsl_fold.specs.declared.stop.Stop.{Stop}
use Rattle.gsl_fold.specs.declared.stop.Stop.TheVariants.{Strays, Memory}

-- the call wanted memory, or strayed as it should
abbrev pub Stops : {A : Type 0} → Stop → List ℕ → Option A × List ℕ → Type 0
Stops Strays left drawn = drawn ≡ (None, left)
Stops Memory left drawn = Unit {0}

-- Unless the call wanted memory, it answered what was given, and left these choices.
abbrev pub Answers : {A : Type 0} → Result A Stop → List ℕ → Option A × List ℕ → Type 0
Answers (Ok v) left drawn = drawn ≡ (Some v, left)
Answers (Err stop) left drawn = Stops stop left drawn

-- what is given behind items that were given before
abbrev pub with_front : {A : Type 0} → List A → Option (List A) × List ℕ → Option (List A) × List ℕ
with_front front (Some items, choices) = (Some (front ++ items), choices)
with_front front (None, choices) = (None, choices)
