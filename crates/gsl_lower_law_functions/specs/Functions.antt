-- What it is for a function of a module to do what a function of the program does, from a call of it to behind the call (GLSL 4.50, 6.1).
use Rattle.std.specs.Prelude.{◌≡◌, ◌≢◌, ℕ, List, ◌∷◌, ◌++◌, length, slice_get, Option, Some}
use Rattle.gsl_base.specs.declared.input.Input.{Input}
use Rattle.gsl_instr.specs.declared.op.TheConstants as op
use Rattle.gsl_types.specs.declared.ty.Direction.{Direction}
use Rattle.gsl_types.specs.declared.ty.StructType.{StructType}
use Rattle.gsl_types.specs.declared.ty.Ty.{Ty}
use Rattle.gsl_words.specs.declared.module.Module.{Module}
use Rattle.gsl_values.specs.declared.value.Value.{Value}
use Rattle.gsl_tree.specs.Around.{Around}
use Rattle.gsl_tree.specs.declared.program.Program.{Program}
use Rattle.gsl_meaning.specs.Expressions.{Called}
use Rattle.gsl_meaning.specs.Running.{Run, ◌>>=◌}
use Rattle.gsl_meaning.specs.Shader.{entered, left, result_of}
use Rattle.gsl_meaning.specs.State as shader
use Rattle.gsl_meaning.specs.Statements as statement
use Rattle.gsl_valid.specs.Placed.{Code}
use Rattle.gsl_machine.specs.State.{State}
use Rattle.gsl_spv.specs.Growing.{Extends}
use Rattle.gsl_spv.specs.Sections.{Sections}
use Rattle.gsl_lower_law.specs.Values.{Keeps}
use Rattle.gsl_lower_holders.specs.Flow.{Emit, Flow, Gives, giving_here}
use Rattle.gsl_lower_holders.specs.declared.place.FlowPlace.{FlowPlace}
use Rattle.gsl_lower_follows.specs.Following.{Follows}
use Rattle.gsl_lower_follows.specs.Frames.{Frame, Good, HasType, Holder, Inside, Kept, type_of_param}
use Rattle.gsl_lower_follows.specs.Giving.{IsGiven}
use Rattle.gsl_lower_law_entered.specs.OfLawReturns.{AreAlike}
use Rattle.gsl_lower_law_entered.specs.Modules.{AreShared, IsFrame}
use Rattle.gsl_lower_law_entered.specs.Entering.{Argument, AreHeld, ids_of, values_of}

-- a function's body on arguments, and its caller's variables again
abbrev pub running_body : List StructType → List Ty → Ty → Run statement.Flow → List Value → Run Called
running_body structs locals result run args state units = (run >>= (λ flow. left state (result_of structs result flow))) (entered structs locals args state) units

-- What is put where a function's body begins is the rest of its code, up to the end of the function.
pub record IsLowered (whole : Sections) (begin : Flow) (rest : Code) (body : Emit (Unit {0})) : Type 0 where
  pub later : Flow
  pub is : body begin ≡ Gives tt later
  pub put : Code
  pub puts : later.sections.functions ≡ begin.sections.functions ++ put
  pub behind : Code
  pub all : rest ≡ put ++ behind
  pub extends : Extends later.sections whole

module _ (m : Module) (input : Input) (whole : Sections) (p : Program) where
  -- Behind a call that was made in a state: its id stands for what the function gave, unless it gives nothing, and the holders of the arguments have the values of the
  -- parameters at the end, which are of their types; all else of the caller is as it was.
  pub record HasReturned (f : Frame m input whole) (around : Around) (parameters : List (Direction × Ty)) (result : Ty) (first id : ℕ) (args : List Argument) (state : State) (later : Flow) (c : Called) (s : shader.State) (last : State) : Type 0 where
    pub good : Good m input whole f p around later s last
    pub ids : Keeps state.ids last.ids
    pub given : IsGiven m input whole f p around last.ids id result c.value
    pub held : Kept m input whole f first state last
    pub others : (holder number : ℕ) → f.seat (Holder holder) ≡ Some number → ((k : ℕ) (a : Argument) → slice_get args k ≡ Some a → a.seat ≢ number) → slice_get last.variables number ≡ slice_get state.variables number
    pub typed : (number : ℕ) → HasType m input whole f p around (type_of_param (slice_get parameters number)) (slice_get c.params number)
    pub params : (number : ℕ) (a : Argument) (v : Value) → slice_get args number ≡ Some a → slice_get c.params number ≡ Some v → slice_get last.variables a.seat ≡ Some v

  -- Wherever in the module a function is called, on arguments that wait in holders, the call does what one of a function of the program does.
  pub record FunctionDoes (place : FlowPlace) (stages : List (Option Value)) (globals : Around) (function : ℕ) (params : List (Direction × Ty)) (result : Ty) (call : List Value → Run Called) : Type 0 where
    pub does : (f : Frame m input whole) (around : Around) (b later : Flow) (args : List Argument) (type id first units : ℕ) (s : shader.State) (state : State) → IsFrame m input whole place stages f → AreAlike around globals → Good m input whole f p around b s state
        → giving_here op.FUNCTION_CALL (function ∷ ids_of args) type b ≡ Gives id later → Inside m input whole f later.sections → AreHeld m input whole f first state args → length args ≡ length params
        → ((number : ℕ) → HasType m input whole f p around (type_of_param (slice_get params number)) (slice_get (values_of args) number))
        → Follows m input p 0 units state (HasReturned f around params result first id args state later) (λ t last. ⊥) (call (values_of args) s units)
