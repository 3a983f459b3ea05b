-- What it is for what was reached to be kept, or to be there again.
use Rattle.std.specs.Prelude.{◌≡◌, Bool, false}
use Rattle.gsl_base.specs.declared.input.Input.{Input}
use Rattle.gsl_words.specs.declared.module.Module.{Module}
use Rattle.gsl_tree.specs.Around.{Around}
use Rattle.gsl_tree.specs.declared.program.Program.{Program}
use Rattle.gsl_meaning.specs.State as shader
use Rattle.gsl_machine.specs.State.{State}
use Rattle.gsl_spv.specs.Sections.{Sections}
use Rattle.gsl_lower_places.specs.declared.reached.Reached.{Reached}
use Rattle.gsl_lower_holders.specs.Flow.{Flow}
use Rattle.gsl_lower_follows.specs.Frames.{Frame}
use Rattle.gsl_lower_follows.specs.Giving.{After}
use Rattle.gsl_lower_elements.specs.OfReaching.{IsTrail, Start}
use Rattle.gsl_lower_elements.specs.OfReaching.{Trail}

module _ (m : Module) (input : Input) (sections : Sections) (f : Frame m input sections) (p : Program) (around : Around) where
  -- Ids are of the trail, or wait to be so, in the block where it was; and the shader has done nothing.
  pub record IsKept (waits : Bool) (loose : Start) (l : Trail) (s : shader.State) (b : Flow) (state : State) (r : Reached) (later : Flow) (one : Unit {0}) (u : shader.State) (last : State) : Type 0 where
    pub after : After m input sections f p around false b state later u last
    pub still : u ≡ s
    pub is : IsTrail m input sections f p around waits loose later last r l
