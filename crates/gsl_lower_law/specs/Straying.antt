-- Steps whose instructions stray: an index is out of bounds while they run.
use Rattle.std.specs.Prelude.{◌≡◌, ℕ, List, ◌++◌, length}
use Rattle.gsl_base.specs.declared.input.Input.{Input}
use Rattle.gsl_words.specs.declared.module.Module.{Module}
use Rattle.gsl_valid.specs.Placed.{Code, Placed, placed_from}
use Rattle.gsl_machine.specs.Machine.{run}
use Rattle.gsl_machine.specs.State.{State, Strayed}
use Rattle.gsl_spv.specs.Growing.{Extends}
use Rattle.gsl_spv.specs.Sections.{Sections}
use Rattle.gsl_lower_values.specs.Building.{Built, Made, Full, Step}
use Rattle.gsl_lower_law.specs.Computing.{Grows}
use Rattle.gsl_lower_law.specs.Values.{Ready, Text}

-- Wherever these instructions stand, from this state one of them strays.
abbrev pub LeadsOut : Module → Input → Code → State → Type 0
LeadsOut m input code state = (at : ℕ) (rest : List Placed) → (place : ℕ) × (run m input (length code) (record state { rest = placed_from at code ++ rest }) ≡ Strayed place)

-- From one builder to the next instructions were put that stray.
pub record Puts (m : Module) (input : Input) (state : State) (before after : Sections) : Type 0 where
  pub code : Code
  pub puts : after.functions ≡ before.functions ++ code
  pub leads : LeadsOut m input code state

abbrev pub GoesOut : Module → Input → Sections → {A : Type 0} → State → Sections → Built A → Type 0
GoesOut m input whole state before (Made given after) = Extends after whole → Puts m input state before after
GoesOut m input whole state before Full = Unit {0}

-- A step that only adds, and whose instructions stray from a state in which a builder stands for what it holds.
pub record Strays (m : Module) (input : Input) (whole : Sections) {A : Type 0} (state : State) (before : Sections) (step : Step A) : Type 0 where
  pub grows : Grows before (step before)
  pub goes : Text m whole state.own → Ready before.last state.own state.ids → GoesOut m input whole state before (step before)
