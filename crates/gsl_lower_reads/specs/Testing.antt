-- Indexes on the way to a place are tested before what may end the invocation or go on for ever.
use Rattle.std.specs.Prelude.{◌≡◌, false}
use Rattle.gsl_base.specs.declared.input.Input.{Input}
use Rattle.gsl_words.specs.declared.module.Module.{Module}
use Rattle.gsl_tree.specs.Around.{Around}
use Rattle.gsl_tree.specs.declared.program.Program.{Program}
use Rattle.gsl_meaning.specs.State as shader
use Rattle.gsl_machine.specs.State.{State}
use Rattle.gsl_spv.specs.Sections.{Sections}
use Rattle.gsl_lower_holders.specs.Flow.{Flow}
use Rattle.gsl_lower_follows.specs.Frames.{Frame}
use Rattle.gsl_lower_follows.specs.Giving.{After}

module _ (m : Module) (input : Input) (whole : Sections) (f : Frame m input whole) (p : Program) (around : Around) where
  -- They are in bounds: nothing has changed, in the shader either.
  pub record IsTested (b : Flow) (s : shader.State) (state : State) (done : Unit {0}) (later : Flow) (one : Unit {0}) (u : shader.State) (last : State) : Type 0 where
    pub after : After m input whole f p around false b state later u last
    pub still : u ≡ s
