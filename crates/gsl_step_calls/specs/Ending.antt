-- What a machine tells of an instruction at which a function, or the run, may end.
use Rattle.std.specs.Prelude.{◌≡◌, ℕ, ◌+◌, ◌<◌, ◌≤◌, ◌^◌, ◌⊎◌, Bool, List, ◌∷◌, drop, length, take, Some}
use Rattle.gsl_base.specs.declared.input.Input.{Input}
use Rattle.gsl_base.specs.declared.input.Output.{Output}
use Rattle.gsl_instr.specs.declared.instruction.Instruction.{Instruction}
use Rattle.gsl_words.specs.declared.module.Instr.{Instr}
use Rattle.gsl_words.specs.declared.module.Module.{Module}
use Rattle.gsl_valid.specs.Ids.{result}
use Rattle.gsl_valid.specs.Instruction.{read}
use Rattle.gsl_valid.specs.Kinds.{type_of}
use Rattle.gsl_valid.specs.Placed.{Placed}
use Rattle.gsl_valid.specs.Types.{defined_as}
use Rattle.gsl_valid.specs.Valid.{Valid}
use Rattle.gsl_machine.specs.Interfaces.{output_of}
use Rattle.gsl_machine.specs.Machine.{step}
use Rattle.gsl_machine.specs.State.{Ended, Going, Outcome, State, Strayed, Stuck}
use Rattle.gsl_region.specs.Showing.{with_words}
use Rattle.gsl_leaves.specs.Leaves.{leaves}
use Rattle.gsl_leaves.specs.Table.{most}
use Rattle.gsl_frames.specs.Frames.{place}
use Rattle.gsl_sound.specs.Sound.{Good}
use Rattle.gsl_sound_types.specs.Typed.{Typed}
use Rattle.gsl_operands.specs.Operands.{stands}
use Rattle.gsl_step.specs.Machine.{IsShown}
use Rattle.gsl_step.specs.declared.machine.Machine.{Machine}
use Rattle.gsl_step.specs.declared.standing.Standing.{Standing}
use Rattle.gsl_step_calls.specs.declared.next.Next.{Next}
use Rattle.gsl_step_calls.specs.declared.next.Next.TheVariants.{Ends, Goes}

-- A run has ended, as the machine tells: what comes out is that of a state that the machine shows.
pub record EndsAs (m : Module) (next : Machine) (how : Next) (output : Output) : Type 0 where
  pub killed : Bool
  pub tells : how ≡ Ends killed
  pub state : State
  pub shows : IsShown m next state
  pub is : output ≡ output_of m killed state

-- A machine tells how a run goes on. It shows the state then, where it does.
abbrev pub Comes : Module → Machine → Next → Outcome → Type 0
Comes m next how (Going state) = (how ≡ Goes) × IsShown m next state
Comes m next how (Ended output) = EndsAs m next how output
Comes m next how (Strayed place) = ⊥
Comes m next how Stuck = Unit {0}

-- A machine does what an instruction does, and tells how the run goes on: where it shows a state of a run of a valid module in which the instruction is next, it tells so of the step.
abbrev pub DoesOrEnds : Module → Instruction → Machine → Machine → Next → Type 0
DoesOrEnds m d now next how =
    (input : Input) (state : State) (p : Placed) (more : List Placed) → Valid m → Good m input state → Typed m state → IsShown m now state → state.rest ≡ p ∷ more → read p.instr ≡ Some d → Comes m next how (step m input state)

-- ---- values that are returned

-- A machine goes on behind the call of a function that waits, with words put at a place among its slots. The functions that wait are those that are left to it.
pub record LeavesTo (now : Machine) (caller : Standing) (at : ℕ) (words : List ℕ) (next : Machine) : Type 0 where
  pub standing : next.standing ≡ record caller { at = caller.at + 1 }
  pub callers : next.callers ≡ now.callers
  pub slots : next.slots ≡ with_words now.slots at words
  pub variables : next.words ≡ now.words
  pub buffers : next.buffers ≡ now.buffers
  pub left : next.choices ≡ now.choices

-- There are so many words of an operand, and room for as many where the id of a call is given them, which they do not reach; the call is the instruction at which the function waits, and places and
-- numbers are told.
pub record HasRoomToReturn (m : Module) (now : Machine) (caller : Standing) (value id count : ℕ) : Type 0 where
  pub instr : Instr
  pub here : drop caller.at m.instrs ≡ instr ∷ drop (caller.at + 1) m.instrs
  pub gives : result (read instr) ≡ Some id
  pub low : value < m.bound
  pub there : stands m now.standing.slots value + count ≤ length now.slots
  pub room : caller.slots + place m id + count ≤ length now.slots
  pub apart : (stands m now.standing.slots value + count ≤ caller.slots + place m id) ⊎ (caller.slots + place m id + count ≤ stands m now.standing.slots value)
  pub places : length now.slots ≤ most
  pub number : caller.at + 1 < 2 ^ 32

abbrev pub Returns : Module → (value : ℕ) → Standing → Machine → Machine → Type 0
Returns m value caller now next =
    (id type : ℕ) → type_of (defined_as m value) ≡ Some type → HasRoomToReturn m now caller value id (leaves m type)
    → LeavesTo now caller (caller.slots + place m id) (take (leaves m type) (drop (stands m now.standing.slots value) now.slots)) next
