-- What is asked of a module and of a type for structs and arrays of blocks to be read whole.
use Rattle.std.specs.Prelude.{◌≡◌, ℕ, IsTrue, List, Some}
use Rattle.gsl_base.specs.declared.input.Input.{Input}
use Rattle.gsl_types.specs.Known.{is_plain}
use Rattle.gsl_types.specs.declared.ty.StructType.{StructType}
use Rattle.gsl_types.specs.declared.ty.Ty.{Ty}
use Rattle.gsl_words.specs.declared.module.Module.{Module}
use Rattle.gsl_tree.specs.Around.{Around}
use Rattle.gsl_tree.specs.Values.{zero_value}
use Rattle.gsl_tree.specs.declared.program.Program.{Program}
use Rattle.gsl_meaning.specs.State as shader
use Rattle.gsl_machine.specs.Constants.{zeros}
use Rattle.gsl_machine.specs.State.{State}
use Rattle.gsl_spv.specs.Sections.{Sections}
use Rattle.gsl_sound_types.specs.Typed.{Typed}
use Rattle.gsl_lower_holders.specs.Flow.{Flow, find_type}
use Rattle.gsl_lower_holders.specs.declared.place.FlowPlace.{FlowPlace}
use Rattle.gsl_lower_follows.specs.Frames.{Frame, Good}

-- In each state of the module that is one of the shader, variables have the shapes of their types, and ids stand for what is of theirs.
pub record AreShaped (m : Module) (input : Input) (sections : Sections) (f : Frame m input sections) (p : Program) (around : Around) : Type 0 where
  pub typed : (state : State) (b : Flow) (s : shader.State) → Good m input sections f p around b s state → Typed m state

-- A type of a program has values, and what stands for it at a place in the module, if something does, has its zeros.
pub record HasValues (m : Module) (structs : List StructType) (place : FlowPlace) (t : Ty) : Type 0 where
  pub plain : IsTrue (is_plain t)
  pub zeros_are : (id : ℕ) → find_type t place.composites ≡ Some id → zeros m id ≡ zero_value structs t
