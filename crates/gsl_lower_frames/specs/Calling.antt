-- A function that is called: what is passed to it, and its names.
use Rattle.std.specs.Prelude.{◌≡◌, ℕ, ◌≤◌, ◌<◌, ◌⊎◌, List, [], slice_get, length, ◌++◌, Some}
use Rattle.gsl_words.specs.declared.module.Module.{Module}
use Rattle.gsl_valid.specs.Placed.{Placed}
use Rattle.gsl_machine.specs.Functions.{parameters_of, variables_of}
use Rattle.gsl_machine.specs.Interfaces.{value_variables}
use Rattle.gsl_machine.specs.State.{Held, InVariable, Points}
use Rattle.gsl_lower_holders.specs.declared.place.FlowPlace.{FlowPlace}
use Rattle.gsl_lower_follows.specs.Frames.{Name, id_of}
use Rattle.gsl_lower_frames.specs.Named.{HasId}

-- the argument at a position points to the variable of a number as a whole
abbrev pub PointsTo : List Held → ℕ → ℕ → Type 0
PointsTo held position number = slice_get held position ≡ Some (Points (InVariable number []))

-- The arguments are pointers, as many as there are parameters: each to a variable that runs, to none of the module's, and no two to the same.
pub record ArePassed (m : Module) (body : List Placed) (held : List Held) (count : ℕ) : Type 0 where
  pub many : length held ≡ length (parameters_of body)
  pub room : length (value_variables m) ≤ count
  pub each : (position : ℕ) (it : Held) → slice_get held position ≡ Some it → (number : ℕ) × (it ≡ Points (InVariable number [])) × (length (value_variables m) ≤ number) × (number < count)
  pub apart : (a b number : ℕ) → PointsTo held a number → PointsTo held b number → a ≡ b

-- an id is that of a parameter
abbrev pub IsParameter : List ℕ → ℕ → Type 0
IsParameter parameters id = (position : ℕ) × (slice_get parameters position ≡ Some id)

-- Each name that is known at a place has an id of its own, which is that of a variable or of a parameter.
pub record AreKnown (m : Module) (body : List Placed) (place : FlowPlace) : Type 0 where
  pub apart : (a b : Name) (id : ℕ) → id_of place a ≡ Some id → id_of place b ≡ Some id → a ≡ b
  pub each : (name : Name) (id : ℕ) → id_of place name ≡ Some id → HasId (value_variables m ++ variables_of body) id ⊎ IsParameter (parameters_of body) id
