-- What is passed to a function that is called, and where control is behind the call (GLSL 4.50, 6.1.1).
use Rattle.std.specs.Prelude.{◌≡◌, ℕ, suc, ◌≤◌, List, [], map, slice_get, Some}
use Rattle.gsl_base.specs.declared.input.Input.{Input}
use Rattle.gsl_types.specs.declared.ty.Ty.{Ty}
use Rattle.gsl_words.specs.declared.module.Module.{Module}
use Rattle.gsl_values.specs.declared.value.Value.{Value}
use Rattle.gsl_tree.specs.Around.{Around}
use Rattle.gsl_tree.specs.declared.program.Program.{Program}
use Rattle.gsl_meaning.specs.Shader.{entered}
use Rattle.gsl_meaning.specs.State as shader
use Rattle.gsl_valid.specs.Placed.{Code, Placed}
use Rattle.gsl_machine.specs.State.{Going, InVariable, Points, State}
use Rattle.gsl_spv.specs.Sections.{Sections}
use Rattle.gsl_lower_holders.specs.Flow.{Flow}
use Rattle.gsl_lower_follows.specs.Frames.{Frame, Good, Holder, Param}
use Rattle.gsl_lower_follows.specs.Stretching.{Stretch}
use Rattle.gsl_lower_law_returns.specs.Calling.{IsCalled}

-- an argument: the id that is passed, the number of the holder that has it and that of its variable, and its value
pub record Argument : Type 0 where
  pub id : ℕ
  pub holder : ℕ
  pub seat : ℕ
  pub value : Value

abbrev pub ids_of : List Argument → List ℕ
ids_of args = map (λ (a : Argument). a.id) args

abbrev pub values_of : List Argument → List Value
values_of args = map (λ (a : Argument). a.value) args

module _ (m : Module) (input : Input) (whole : Sections) (f : Frame m input whole) where
  -- An argument waits in a holder that is behind so many.
  pub record IsHeld (first : ℕ) (state : State) (a : Argument) : Type 0 where
    pub behind : first ≤ a.holder
    pub seat : f.seat (Holder a.holder) ≡ Some a.seat
    pub points : f.own a.id ≡ Some (Points (InVariable a.seat []))
    pub value : slice_get state.variables a.seat ≡ Some a.value

  -- Arguments wait, each in a holder of its own.
  pub record AreHeld (first : ℕ) (state : State) (args : List Argument) : Type 0 where
    pub each : (number : ℕ) (a : Argument) → slice_get args number ≡ Some a → IsHeld first state a
    pub apart : (j k : ℕ) (a b : Argument) → slice_get args j ≡ Some a → slice_get args k ≡ Some b → a.holder ≡ b.holder → j ≡ k

  module _ (p : Program) where
    -- There is a frame of a function that was called on arguments and gives what is of a type, and behind the call and the opening of its code control is where its body begins: the shader is in the state in
    -- which the function's body begins, and a unit is used.
    pub record HasEntered (IsOne : Frame m input whole → Type 0) (inner : Around) (result : Ty) (first id : ℕ) (args : List Argument) (before code : Code) (b : Flow) (s : shader.State) (state : State) (rest : List Placed) : Type 0 where
      pub frame : Frame m input whole
      pub front : frame.before ≡ before
      pub same : frame.code ≡ code
      pub gives : frame.result ≡ result
      pub one : IsOne frame
      pub called : IsCalled m input whole f frame first id state rest
      pub params : (number : ℕ) (a : Argument) → slice_get args number ≡ Some a → frame.seat (Param number) ≡ Some a.seat
      pub passed : (number seat : ℕ) → frame.seat (Param number) ≡ Some seat → (a : Argument) × (slice_get args number ≡ Some a) × (a.seat ≡ seat)
      pub begun : State
      pub good : Good m input whole frame p inner b (entered p.structs inner.locals (values_of args) s) begun
      pub stretch : (units : ℕ) → Stretch m input 0 0 (suc units) state units (Going begun)
