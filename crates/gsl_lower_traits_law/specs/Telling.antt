-- What is known of an expression before it is lowered, as it is told of what the expression does (GLSL 4.50, chapter 5).
use Rattle.std.specs.Prelude.{◌≡◌, ℕ, true, false, Some}
use Rattle.gsl_values.specs.declared.value.Value.{Value}
use Rattle.gsl_tree.specs.Values.{word_in}
use Rattle.gsl_meaning.specs.Expressions.{Meant}
use Rattle.gsl_meaning.specs.Running.{Ran, Run, Got, Ends, Strays, Goes}
use Rattle.gsl_meaning.specs.State.{State}
use Rattle.gsl_lower_traits.specs.declared.traits.Traits.{Traits}

-- A part of a shader came to something, or an index in it was out of bounds; the invocation has not ended, and no unit was wanting.
abbrev pub Comes : {A : Type 0} → Ran A → Type 0
Comes (Got a s units) = Unit {0}
Comes (Ends s) = ⊥
Comes Strays = Unit {0}
Comes Goes = ⊥

abbrev pub AlwaysComes : {A : Type 0} → Run A → Type 0
AlwaysComes run = (s : State) (units : ℕ) → Comes (run s units)

-- It gives a number, and does nothing but give it.
abbrev pub IsNumber : ℕ → Run Value → Type 0
IsNumber number run = (s : State) (units : ℕ) → (v : Value) × (run s units ≡ Got v s units) × (word_in v ≡ number)

-- Where it calls no function of the program, it always comes to something or strays; a literal gives its number; and code that may stand where it does not count has no labels.
pub record Tells (known : Traits) (e : Meant) : Type 0 where
  pub comes : known.calls ≡ false → AlwaysComes e.access × AlwaysComes e.value
  pub literal : (number : ℕ) → known.literal ≡ Some number → (known.splits ≡ false) × (known.calls ≡ false) × IsNumber number e.value
  pub quiet : known.quiet ≡ true → known.splits ≡ false
  pub still : known.still ≡ true → known.splits ≡ false
