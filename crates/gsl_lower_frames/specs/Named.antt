-- Which of the variables that run each name of a function has.
use Rattle.std.specs.Prelude.{◌≡◌, ℕ, [], List, slice_get, Option, Some, None}
use Rattle.gsl_valid.specs.Kinds.{Variable}
use Rattle.gsl_machine.specs.State.{Held, Ids, InVariable, Points}
use Rattle.gsl_lower_holders.specs.declared.place.FlowPlace.{FlowPlace}
use Rattle.gsl_lower_follows.specs.Frames.{Name, id_of}

-- the number of the variable that something points to as a whole
abbrev pub number_in : Option Held → Option ℕ
number_in (Some (Points (InVariable number []))) = Some number
number_in _ = None

abbrev pub number_at : Ids → Option ℕ → Option ℕ
number_at own None = None
number_at own (Some id) = number_in (own id)

-- the number of a name's variable: that to which its id points, where these are the ids that last for the function
abbrev pub seat_in : Ids → FlowPlace → Name → Option ℕ
seat_in own place name = number_at own (id_of place name)

-- Among some variables there is one of an id, at its position.
pub record HasId (variables : List Variable) (id : ℕ) : Type 0 where
  pub position : ℕ
  pub variable : Variable
  pub there : slice_get variables position ≡ Some variable
  pub same : variable.id ≡ id

-- Each name that is known at a place has an id of its own, which is that of one of these variables.
pub record AreNamed (variables : List Variable) (place : FlowPlace) : Type 0 where
  pub apart : (a b : Name) (id : ℕ) → id_of place a ≡ Some id → id_of place b ≡ Some id → a ≡ b
  pub each : (name : Name) (id : ℕ) → id_of place name ≡ Some id → HasId variables id
