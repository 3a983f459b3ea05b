-- Calls that draw choices of a state.
use Rattle.std.specs.Prelude.{◌≡◌, ℕ, List, Result, Ok, Err}
use Rattle.gsl_base.specs.declared.memory.Memory.{Memory}
use Rattle.gsl_values.specs.declared.value.Value.{Value}
use Rattle.gsl_meaning.specs.State.{State}

-- Unless memory was wanting, it gave the value, and the state has the choices that are left.
abbrev pub Draws : Result Value Memory → State → (List ℕ → Value × List ℕ) → State → Type 0
Draws (Ok v) after draw before = (v ≡ (draw before.choices).0) × (after ≡ record before { choices = (draw before.choices).1 })
Draws (Err memory) after draw before = Unit {0}
