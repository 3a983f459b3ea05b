-- What it is for the code of a function to do what a part of the shader does.
use Rattle.std.specs.Prelude.{◌≡◌, ℕ, ◌≤◌, true}
use Rattle.gsl_base.specs.declared.input.Input.{Input}
use Rattle.gsl_words.specs.declared.module.Module.{Module}
use Rattle.gsl_tree.specs.declared.program.Program.{Program}
use Rattle.gsl_meaning.specs.Running.{Ran, Got, Ends, Strays, Goes}
use Rattle.gsl_meaning.specs.Shader.{output_of}
use Rattle.gsl_meaning.specs.State as shader
use Rattle.gsl_machine.specs.Machine.{run}
use Rattle.gsl_machine.specs.State.{Going, Ended, State, Strayed}
use Rattle.gsl_lower_follows.specs.Stretching.{Stretch}

module _ (m : Module) (input : Input) where
  -- An index is out of bounds.
  pub record Faults (lent units : ℕ) (state : State) : Type 0 where
    pub left : ℕ
    pub place : ℕ
    pub stretch : Stretch m input lent 0 units state left (Strayed place)

  -- It is still going after as many instructions as there are units.
  pub record Lasts (units : ℕ) (state : State) : Type 0 where
    pub later : State
    pub runs : run m input units state ≡ Going later

  -- It comes to a state of which this is so.
  pub record Reaches (lent units : ℕ) (state : State) (Is : State → Type 0) (left : ℕ) : Type 0 where
    pub later : State
    pub is : Is later
    pub less : left ≤ units
    pub stretch : Stretch m input lent 0 units state left (Going later)

  -- An index was out of bounds: the module strays now; or it comes to where this waits, and strays as soon as something is read or stored there.
  pub data Astray (lent units : ℕ) (state : State) (Waits : shader.State → State → Type 0) : Type 0 where
    now : Faults lent units state → Astray lent units state Waits
    later : (s : shader.State) (left : ℕ) → Reaches lent units state (Waits s) left → Astray lent units state Waits

  module _ (p : Program) where
    -- `discard` ended the invocation.
    pub record Kills (lent units : ℕ) (state : State) (s : shader.State) : Type 0 where
      pub left : ℕ
      pub stretch : Stretch m input lent 0 units state left (Ended (output_of p input true s))

    -- What the module does where a part of the shader comes to this: what was given is so of the states that both are in.
    abbrev pub Follows : {A : Type 0} → ℕ → ℕ → State → (A → shader.State → State → Type 0) → (shader.State → State → Type 0) → Ran A → Type 0
    Follows lent units state Is Waits (Got a s left) = Reaches lent units state (Is a s) left
    Follows lent units state Is Waits (Ends s) = Kills lent units state s
    Follows lent units state Is Waits Strays = Astray lent units state Waits
    Follows lent units state Is Waits Goes = Lasts units state
