-- What all functions of a module have in common, and how a function's code opens that is called (SPIR-V 1.0, 2.4 and 3.32.9).
use Rattle.std.specs.Prelude.{◌≡◌, ◌==◌, ℕ, ◌≤◌, true, false, List, [], ◌∷◌, ◌++◌, length, map, slice_get, Option, Some, None}
use Rattle.std.specs.List.{AllByRecursion, Contains}
use Rattle.gsl_base.specs.declared.input.Input.{Input}
use Rattle.gsl_instr.specs.declared.enumerant.storage_class.TheConstants as storage_class
use Rattle.gsl_instr.specs.declared.op.TheConstants as op
use Rattle.gsl_types.specs.declared.ty.StructType.{StructType}
use Rattle.gsl_types.specs.declared.ty.Ty.{Ty}
use Rattle.gsl_words.specs.declared.module.Instr.{Instr}
use Rattle.gsl_words.specs.declared.module.Module.{Module}
use Rattle.gsl_values.specs.declared.value.Value.{Value}
use Rattle.gsl_tree.specs.Values.{is_value_of, zero_value}
use Rattle.gsl_valid.specs.Ids.{result}
use Rattle.gsl_valid.specs.Instruction.{read}
use Rattle.gsl_valid.specs.Kinds.{Calls, Variable, kind}
use Rattle.gsl_valid.specs.Placed.{Code, Placed, placed_from}
use Rattle.gsl_machine.specs.Constants.{constant}
use Rattle.gsl_machine.specs.Functions.{parameters_of, variables_of}
use Rattle.gsl_machine.specs.Interfaces.{globals, value_variables}
use Rattle.gsl_machine.specs.State.{Ids, InVariable, Points}
use Rattle.gsl_spv.specs.Declarations.{instr}
use Rattle.gsl_spv.specs.Growing.{Extends}
use Rattle.gsl_spv.specs.Sections.{Sections}
use Rattle.gsl_lower_law.specs.Values.{Keeps}
use Rattle.gsl_lower_holders.specs.Flow.{Flow}
use Rattle.gsl_lower_holders.specs.declared.place.FlowPlace.{FlowPlace}
use Rattle.gsl_lower_follows.specs.Frames.{Frame, Local, Name, Param, id_of}
use Rattle.gsl_lower_frames.specs.Named.{HasId}
use Rattle.gsl_lower_frames.specs.Standing.{StandsIn, place_in}
use Rattle.gsl_lower_frames.specs.Starting.{local_variables}
use Rattle.gsl_lower_law_returns.specs.Calling.{is_own, is_shared}

-- ---- variables outside functions

-- Two places know the same of the module: its variables and blocks, its functions, and what stands for arrays and structs.
pub record AreShared (place other : FlowPlace) : Type 0 where
  pub globals : other.globals ≡ place.globals
  pub interfaces : other.interfaces ≡ place.interfaces
  pub stages : other.stage_vars ≡ place.stage_vars
  pub blocks : other.blocks ≡ place.blocks
  pub classes : other.classes ≡ place.classes
  pub functions : other.functions ≡ place.functions
  pub composites : other.composites ≡ place.composites

-- What a call gives lasts for no function.
abbrev pub PassCalls : Sections → Ids → Type 0
PassCalls whole own = (i : Instr) (type function id : ℕ) (arguments : List ℕ) → Contains whole.functions i → kind (read i) ≡ Calls type function arguments → result (read i) ≡ Some id → own id ≡ None

module _ (m : Module) (input : Input) (whole : Sections) where
  -- A frame of one of the functions of a module, of which a place knows what is outside functions, and of which the built-in variables have these values.
  pub record IsFrame (place : FlowPlace) (given : List (Option Value)) (f : Frame m input whole) : Type 0 where
    pub lasting : Keeps (globals m) f.own
    pub calls : PassCalls whole f.own
    pub knows : AreShared place f.place
    pub stages : f.stages ≡ given
    pub shared : (name : Name) (seat : ℕ) → is_shared name ≡ true → f.seat name ≡ Some seat → (id : ℕ) × (id_of place name ≡ Some id) × (f.own id ≡ Some (Points (InVariable seat [])))
    pub behind : (name : Name) (seat : ℕ) → is_shared name ≡ false → f.seat name ≡ Some seat → length (value_variables m) ≤ seat
    pub room : length (value_variables m) ≤ length f.begun

-- ---- a function's own variables

-- a variable of a function with the constant that is its initialiser
pub record Declared : Type 0 where
  pub pointer : ℕ
  pub id : ℕ
  pub zero : ℕ

abbrev pub declares : Declared → Instr
declares v = instr op.VARIABLE (v.pointer ∷ v.id ∷ storage_class.FUNCTION ∷ v.zero ∷ [])

abbrev pub variable_of : Declared → Variable
variable_of v = record { type = v.pointer; id = v.id; class = storage_class.FUNCTION; initialiser = v.zero ∷ [] }

module _ (m : Module) where
  -- Code opens with parameters, a label and variables of its own; it has no other variables, and each local variable of these types has one that begins as zeros of its type.
  pub record Opens (structs : List StructType) (locals : List Ty) (place : FlowPlace) (opening code : Code) : Type 0 where
    pub params : Code
    pub label : ℕ
    pub variables : List Declared
    pub is : opening ≡ params ++ instr op.LABEL (label ∷ []) ∷ map declares variables
    pub ahead : AllByRecursion (λ (i : Instr). (i.op == op.LABEL) ≡ false) params
    pub all : local_variables code ≡ map variable_of variables
    pub apart : (j k : ℕ) (v w : Declared) → slice_get variables j ≡ Some v → slice_get variables k ≡ Some w → v.id ≡ w.id → j ≡ k
    pub zeros : (number : ℕ) (t : Ty) → slice_get locals number ≡ Some t → (position : ℕ) × (v : Declared) × (slice_get variables position ≡ Some v) × (id_of place (Local number) ≡ Some v.id) × (constant m v.zero ≡ zero_value structs t)

  -- The names that are known at a place of a function: the variables of the module, the parameters in their order, and the function's own variables.
  pub record IsPlaced (body : List Placed) (place : FlowPlace) : Type 0 where
    pub shared : (name : Name) (id : ℕ) → is_shared name ≡ true → id_of place name ≡ Some id → HasId (value_variables m) id
    pub params : place.params ≡ parameters_of body
    pub own : (name : Name) (id : ℕ) → is_own name ≡ true → id_of place name ≡ Some id → HasId (variables_of body) id
    pub apart : (a b : Name) (id : ℕ) → id_of place a ≡ Some id → id_of place b ≡ Some id → a ≡ b
    pub aside : (number id : ℕ) → id_of place (Param number) ≡ Some id → HasId (variables_of body) id → ⊥

  -- A function stands in the module that is made of sections, and its body begins where a builder holds its code so far.
  pub record IsFunction (whole : Sections) (structs : List StructType) (place : FlowPlace) (locals : List Ty) (id : ℕ) (b : Flow) : Type 0 where
    pub before : Code
    pub code : Code
    pub behind : Code
    pub stands : StandsIn m id code
    pub among : whole.functions ≡ before ++ (code ++ behind)
    pub opening : Code
    pub rest : Code
    pub is : code ≡ opening ++ rest
    pub here : b.sections.functions ≡ before ++ opening
    pub extends : Extends b.sections whole
    pub placed : IsPlaced (placed_from (place_in m id code stands) code) b.place
    pub opens : Opens structs locals b.place opening code
    pub shared : AreShared place b.place
    pub typed : (number : ℕ) (t : Ty) → slice_get locals number ≡ Some t → is_value_of structs t (zero_value structs t) ≡ true
