-- What a machine keeps while a module runs, and which states of the run that shows.
use Rattle.std.specs.Prelude.{◌≡◌, ℕ, ◌+◌, ◌≤◌, ◌<◌, ◌^◌, List, ◌∷◌, length, map, take, Some}
use Rattle.std.specs.List.{AllByRecursion}
use Rattle.gsl_base.specs.declared.input.Input.{Input}
use Rattle.gsl_instr.specs.declared.instruction.Instruction.{Instruction}
use Rattle.gsl_words.specs.declared.module.Module.{Module}
use Rattle.gsl_valid.specs.Instruction.{read}
use Rattle.gsl_valid.specs.Placed.{Placed}
use Rattle.gsl_valid.specs.Valid.{Valid}
use Rattle.gsl_machine.specs.Machine.{step}
use Rattle.gsl_machine.specs.State.{Ended, Going, Outcome, State, Strayed, Stuck}
use Rattle.gsl_region.specs.Showing.{with_words}
use Rattle.gsl_leaves.specs.Table.{most}
use Rattle.gsl_sound.specs.Sound.{Good}
use Rattle.gsl_sound_types.specs.Typed.{Typed}
use Rattle.gsl_shown.specs.Shown.{Shows}
use Rattle.gsl_shown.specs.Shown.{Standing as Stood}
use Rattle.gsl_operands.specs.Operands.{constants}
use Rattle.gsl_step.specs.declared.machine.Machine.{Machine}
use Rattle.gsl_step.specs.declared.standing.Standing.{Standing}

-- ---- what is shown

-- where a function stands, as the words of a run tell it
abbrev pub stood : Standing → Stood
stood f = record { at = f.at; body = f.body; slots = f.slots; variables = f.variables }

-- A machine shows a state: where its functions stand, the one that runs and those that wait, its slots, the words of its variables, its buffers and its choices do.
pub record IsShown (m : Module) (machine : Machine) (state : State) : Type 0 where
  pub shows : Shows m (stood machine.standing) (map stood machine.callers) machine.slots machine.words machine.buffers machine.choices state
  -- the words of all constants stand in front of the slots of functions
  pub constants_are : take (length (constants m)) machine.slots ≡ constants m
  pub behind : AllByRecursion (λ (f : Standing). length (constants m) ≤ f.slots) (machine.standing ∷ machine.callers)
  -- all places among the slots and among the words of variables are told, and all numbers of instructions are words
  pub places : length machine.slots ≤ most
  pub reach : length machine.words ≤ most
  pub numbers : length m.instrs < 2 ^ 32

-- ---- what a machine does

-- A machine goes on behind an instruction with words put at a place among its slots, and with these choices left.
pub record Puts (now : Machine) (at : ℕ) (words choices : List ℕ) (next : Machine) : Type 0 where
  pub standing : next.standing ≡ record now.standing { at = now.standing.at + 1 }
  pub callers : next.callers ≡ now.callers
  pub slots : next.slots ≡ with_words now.slots at words
  pub variables : next.words ≡ now.words
  pub buffers : next.buffers ≡ now.buffers
  pub left : next.choices ≡ choices

-- Where a run goes on, the machine shows the state.
abbrev pub Leads : Module → Machine → Outcome → Type 0
Leads m next (Going state) = IsShown m next state
Leads m next (Ended output) = Unit {0}
Leads m next (Strayed place) = Unit {0}
Leads m next Stuck = Unit {0}

-- A machine does what an instruction does: where it shows a state of a run of a valid module in which the instruction is next, it shows the state behind it then.
abbrev pub Does : Module → Instruction → Machine → Machine → Type 0
Does m d now next =
    (input : Input) (state : State) (p : Placed) (more : List Placed) → Valid m → Good m input state → Typed m state → IsShown m now state → state.rest ≡ p ∷ more → read p.instr ≡ Some d → Leads m next (step m input state)
