-- Words for what a part of a shader does with more units.
use Rattle.std.specs.Prelude.{◌≡◌, ℕ, ◌+◌, ◌≤◌}
use Rattle.gsl_meaning.specs.State.{State}
use Rattle.gsl_meaning.specs.Running.{Ran, Run, Got, Ends, Strays, Goes}

-- What was come to with some units, of which there were at most so many, is come to with more as well, and they are left.
abbrev pub Keeps : {A : Type 0} → Ran A → Ran A → ℕ → ℕ → Type 0
Keeps (Got a state units) later more most = (later ≡ Got a state (units + more)) × (units ≤ most)
Keeps (Ends state) later more most = later ≡ Ends state
Keeps Strays later more most = later ≡ Strays
Keeps Goes later more most = Unit {0}

-- More units change nothing but where one was wanting.
pub record Lasts {A : Type 0} (run : Run A) : Type 0 where
  pub keeps : (state : State) (units more : ℕ) → Keeps (run state units) (run state (units + more)) more units
