-- What a machine puts where a function begins.
use Rattle.std.specs.Prelude.{◌≡◌, ℕ, ◌+◌, ◌≤◌, List}
use Rattle.std.specs.List.{flat_map}
use Rattle.gsl_words.specs.declared.module.Module.{Module}
use Rattle.gsl_machine.specs.Functions.{from_first_label}
use Rattle.gsl_ids.specs.Table.{number_of}
use Rattle.gsl_region.specs.Showing.{with_words}
use Rattle.gsl_leaves.specs.Table.{most}
use Rattle.gsl_frames.specs.Frames.{frame}
use Rattle.gsl_positions.specs.Positions.{left}
use Rattle.gsl_step.specs.declared.machine.Machine.{Machine}
use Rattle.gsl_step_entering.specs.Begun.{HasRoomToBegin, initial_in}
use Rattle.gsl_step_entering.specs.Passed.{HasRoomToPass, argument}

-- where the slots of a function begin that is called, and its variables
abbrev pub base_of : Module → Machine → ℕ
base_of m now = now.standing.slots + (frame m (left m now.standing.body)).most

abbrev pub begin_at : Module → Machine → ℕ
begin_at m now = now.standing.variables + (frame m (left m now.standing.body)).variables

-- the slots with what the function is given
abbrev pub given_slots : Module → Machine → List ℕ → List ℕ
given_slots m now arguments = with_words now.slots (base_of m now) (flat_map (argument m now.standing now.slots) arguments)

-- There is room for what a function is given and for its variables, and places are told.
pub record HasRoomToEnter (m : Module) (now : Machine) (function : ℕ) (arguments : List ℕ) : Type 0 where
  pub base : base_of m now ≤ most
  pub begin : begin_at m now ≤ most
  pub pass : HasRoomToPass m now.standing now.slots arguments (base_of m now)
  pub variables : HasRoomToBegin m (given_slots m now arguments) now.words (begin_at m now) (left m (number_of m function))

-- A machine stands at the first label of a function.
pub record IsEntered (m : Module) (now : Machine) (function : ℕ) (arguments : List ℕ) (next : Machine) : Type 0 where
  pub first : from_first_label (left m (number_of m function)) ≡ left m next.standing.at
  pub standing : next.standing ≡ record { at = next.standing.at; body = number_of m function; slots = base_of m now; variables = begin_at m now }
  pub callers : next.callers ≡ now.callers
  pub slots : next.slots ≡ given_slots m now arguments
  pub words : next.words ≡ with_words now.words (begin_at m now) (initial_in m (given_slots m now arguments) (left m (number_of m function)))
  pub buffers : next.buffers ≡ now.buffers
  pub left : next.choices ≡ now.choices

abbrev pub PutsEntered : Module → ℕ → List ℕ → Machine → Machine → Type 0
PutsEntered m function arguments now next = HasRoomToEnter m now function arguments → IsEntered m now function arguments next
