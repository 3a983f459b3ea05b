-- What a machine tells of an instruction at which a run may stray.
use Rattle.std.specs.Prelude.{◌≡◌, Bool, true, false, List, ◌∷◌, Some}
use Rattle.gsl_base.specs.declared.input.Input.{Input}
use Rattle.gsl_instr.specs.declared.instruction.Instruction.{Instruction}
use Rattle.gsl_words.specs.declared.module.Module.{Module}
use Rattle.gsl_valid.specs.Instruction.{read}
use Rattle.gsl_valid.specs.Placed.{Placed}
use Rattle.gsl_valid.specs.Valid.{Valid}
use Rattle.gsl_machine.specs.Machine.{step}
use Rattle.gsl_machine.specs.State.{Ended, Going, Outcome, State, Strayed, Stuck}
use Rattle.gsl_positions.specs.Positions.{place_of}
use Rattle.gsl_sound.specs.Sound.{Good}
use Rattle.gsl_sound_types.specs.Typed.{Typed}
use Rattle.gsl_step.specs.Machine.{IsShown}
use Rattle.gsl_step.specs.declared.machine.Machine.{Machine}

-- A machine tells whether a run goes on. It shows the state then, where it does; and where the run strays, that is at the instruction at which the machine stands.
abbrev pub Tells : Module → Machine → Bool → Outcome → Type 0
Tells m next goes (Going state) = (goes ≡ true) × IsShown m next state
Tells m next goes (Ended output) = ⊥
Tells m next goes (Strayed place) = (goes ≡ false) × (place ≡ place_of m next.standing.at)
Tells m next goes Stuck = Unit {0}

-- A machine does what an instruction does, and tells whether the run goes on: where it shows a state of a run of a valid module in which the instruction is next, it tells so of the step.
abbrev pub DoesOrStrays : Module → Instruction → Machine → Machine → Bool → Type 0
DoesOrStrays m d now next goes =
    (input : Input) (state : State) (p : Placed) (more : List Placed) → Valid m → Good m input state → Typed m state → IsShown m now state → state.rest ≡ p ∷ more → read p.instr ≡ Some d → Tells m next goes (step m input state)
