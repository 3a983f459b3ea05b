-- What a machine keeps as a function begins that another calls.
use Rattle.std.specs.Prelude.{◌≡◌, ℕ, ◌+◌, ◌≤◌, List, ◌∷◌, length}
use Rattle.gsl_words.specs.declared.module.Module.{Module}
use Rattle.gsl_valid.specs.Placed.{Placed}
use Rattle.gsl_region.specs.Showing.{with_words}
use Rattle.gsl_frames.specs.Frames.{frame}
use Rattle.gsl_step.specs.declared.machine.Machine.{Machine}

-- There is room for what a function takes that is called, behind all that its caller takes: by the bodies of both.
pub record HasRoomToCall (m : Module) (now : Machine) (caller body : List Placed) : Type 0 where
  pub slots : now.standing.slots + (frame m caller).most + (frame m body).most ≤ length now.slots
  pub words : now.standing.variables + (frame m caller).variables + (frame m body).variables ≤ length now.words

-- A machine stands at the first label of a function, with the words of what it is given at the beginning of its slots and with those of its variables behind all others; the function that called it
-- waits where it stood.
pub record Enters (m : Module) (now : Machine) (caller : List Placed) (number first : ℕ) (given initial : List ℕ) (next : Machine) : Type 0 where
  pub standing : next.standing ≡ record { at = first; body = number; slots = now.standing.slots + (frame m caller).most; variables = now.standing.variables + (frame m caller).variables }
  pub callers : next.callers ≡ now.standing ∷ now.callers
  pub slots : next.slots ≡ with_words now.slots (now.standing.slots + (frame m caller).most) given
  pub variables : next.words ≡ with_words now.words (now.standing.variables + (frame m caller).variables) initial
  pub buffers : next.buffers ≡ now.buffers
  pub left : next.choices ≡ now.choices
