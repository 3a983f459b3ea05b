-- A function that runs: where its code stands, where its variables are, and what its state has to do with the state of the shader.
use Rattle.std.specs.Prelude.{◌≡◌, ◌≢◌, ℕ, zero, suc, ◌<◌, ◌-◌, ◌^◌, Bool, true, false, List, [], ◌∷◌, ◌++◌, drop, length, map, slice_get, Option, Some, None}
use Rattle.std.specs.List.{AllByRecursion}
use Rattle.gsl_base.specs.declared.input.Input.{Input}
use Rattle.gsl_instr.specs.declared.op.TheConstants as op
use Rattle.gsl_types.specs.declared.ty.Direction.{Direction}
use Rattle.gsl_types.specs.declared.ty.Ty.{Ty}
use Rattle.gsl_words.specs.declared.module.Module.{Module}
use Rattle.gsl_values.specs.declared.value.Value.{Value}
use Rattle.gsl_tree.specs.Around.{Around, stage_var_type}
use Rattle.gsl_tree.specs.Values.{is_value_of}
use Rattle.gsl_tree.specs.declared.expr.StageVar.TheVariants.{NumWorkGroups, WorkGroupId, LocalInvocationId, GlobalInvocationId, LocalInvocationIndex, VertexIndex, InstanceIndex}
use Rattle.gsl_tree.specs.declared.program.Program.{Program}
use Rattle.gsl_tree.specs.declared.unit.Block.{Block}
use Rattle.gsl_tree.specs.declared.unit.GlobalVar.{GlobalVar}
use Rattle.gsl_tree.specs.declared.unit.Interface.{Interface as Passed}
use Rattle.gsl_typed_law.specs.Given.{AreChoices}
use Rattle.gsl_meaning.specs.Blocks.{put_blocks, words_in}
use Rattle.gsl_meaning.specs.State as shader
use Rattle.gsl_valid.specs.Placed.{Code, Placed, placed_from, words_from}
use Rattle.gsl_machine.specs.Functions.{from_label}
use Rattle.gsl_machine.specs.Memory.{bytes_of}
use Rattle.gsl_machine.specs.State.{Ids, InVariable, Points, State, Waiting}
use Rattle.gsl_spv.specs.Declarations.{instr}
use Rattle.gsl_spv.specs.Growing.{Extends}
use Rattle.gsl_spv.specs.Sections.{Sections}
use Rattle.gsl_lower_law.specs.Values.{Ready, Stands, Text}
use Rattle.gsl_lower_holders.specs.Flow.{Flow}
use Rattle.gsl_lower_holders.specs.declared.place.FlowPlace.{FlowPlace}
use Rattle.gsl_lower_follows.specs.Reached.{Reached}
use Rattle.gsl_lower_follows.specs.Sizes.{IsShort}

abbrev pub AreBytes : List ℕ → Type 0
AreBytes = AllByRecursion (λ byte. byte < 256)

-- the types of the built-in variables, by their numbers
abbrev pub stage_types : List Ty
stage_types = map stage_var_type (NumWorkGroups ∷ WorkGroupId ∷ LocalInvocationId ∷ GlobalInvocationId ∷ LocalInvocationIndex ∷ VertexIndex ∷ InstanceIndex ∷ [])

-- What a function has a variable for: a global variable, an input or output, a built-in variable, a parameter, a local variable, and a
-- holder, each by its number.
pub data Name : Type 0 where
  Global : (number : ℕ) → Name
  Interface : (number : ℕ) → Name
  Stage : (number : ℕ) → Name
  Param : (number : ℕ) → Name
  Local : (number : ℕ) → Name
  Holder : (number : ℕ) → Name

-- an id, which is none where it is 0: a built-in variable that is not used has none
abbrev pub id_if : Option ℕ → Option ℕ
id_if None = None
id_if (Some zero) = None
id_if (Some (suc before)) = Some (suc before)

-- the id of its variable
abbrev pub id_of : FlowPlace → Name → Option ℕ
id_of place (Global number) = slice_get place.globals number
id_of place (Interface number) = slice_get place.interfaces number
id_of place (Stage number) = id_if (slice_get place.stage_vars number)
id_of place (Param number) = slice_get place.params number
id_of place (Local number) = slice_get place.locals number
id_of place (Holder number) = slice_get place.holders number

-- the value that a built-in variable has, where the module has that variable
abbrev pub value_if : Option (Option Value) → Option Value
value_if None = None
value_if (Some v) = v

-- Its value in a state of the shader, where the built-in variables have these. What a holder has is no matter of the shader.
abbrev pub value_of : List (Option Value) → shader.State → Name → Option Value
value_of stages s (Global number) = slice_get s.globals number
value_of stages s (Interface number) = slice_get s.interfaces number
value_of stages s (Stage number) = value_if (slice_get stages number)
value_of stages s (Param number) = slice_get s.params number
value_of stages s (Local number) = slice_get s.locals number
value_of stages s (Holder number) = None

abbrev pub type_of_global : Option GlobalVar → Option Ty
type_of_global None = None
type_of_global (Some g) = Some g.ty

abbrev pub type_of_interface : Option Passed → Option Ty
type_of_interface None = None
type_of_interface (Some i) = Some i.ty

abbrev pub type_of_param : Option (Direction × Ty) → Option Ty
type_of_param None = None
type_of_param (Some param) = Some param.1

-- the type of its variable, where the shader can change it
abbrev pub type_named : Around → Name → Option Ty
type_named around (Global number) = type_of_global (slice_get around.globals number)
type_named around (Interface number) = type_of_interface (slice_get around.interfaces number)
type_named around (Stage number) = None
type_named around (Param number) = type_of_param (slice_get around.params number)
type_named around (Local number) = slice_get around.locals number
type_named around (Holder number) = None

-- A call of a function: its code, which stands behind other functions and before others in the sections that the module is made of; what its
-- ids last for; the calls that wait; the numbers of its variables; what is declared for it; the type of what it gives; the values of the built-in variables that the
-- module has; and all variables as they were when it began.
pub record Frame (m : Module) (input : Input) (whole : Sections) : Type 0 where
  pub before : Code
  pub code : Code
  pub behind : Code
  pub stands : whole.functions ≡ before ++ (code ++ behind)
  pub first : ℕ
  pub own : Ids
  pub text : Text m whole own
  pub labels : (front rest : Code) (label : ℕ) → code ≡ front ++ instr op.LABEL (label ∷ []) ∷ rest
      → from_label (placed_from first code) label ≡ Some (placed_from (words_from first front) (instr op.LABEL (label ∷ []) ∷ rest))
  pub short : length code < words_from 0 m.instrs
  pub waiting : List Waiting
  pub seat : Name → Option ℕ
  pub apart : (a b : Name) (number : ℕ) → seat a ≡ Some number → seat b ≡ Some number → a ≡ b
  pub place : FlowPlace
  pub known : (name : Name) (id : ℕ) → id_of place name ≡ Some id → (number : ℕ) × (seat name ≡ Some number) × (own id ≡ Some (Points (InVariable number [])))
  pub result : Ty
  pub stages : List (Option Value)
  pub begun : List Value
  pub among : (name : Name) (number : ℕ) → seat name ≡ Some number → number < length begun

module _ (m : Module) (input : Input) (whole : Sections) (f : Frame m input whole) where
  -- the instructions of the function, each at its place
  abbrev pub body : List Placed
  body = placed_from f.first f.code

  -- those behind what a builder holds
  abbrev pub coming : Sections → List Placed
  coming b = drop (length b.functions - length f.before) body

  -- What a builder holds is a first part of the function's code, and of all that the module is made of.
  pub record Inside (b : Sections) : Type 0 where
    pub extends : Extends b whole
    pub done : Code
    pub more : Code
    pub is : b.functions ≡ f.before ++ done
    pub all : f.code ≡ done ++ more

  -- At a place in the function there is what is declared for it.
  pub record Seated (place : FlowPlace) : Type 0 where
    pub same : place ≡ record f.place { label = place.label; used = place.used }

  module _ (p : Program) (around : Around) where
    -- The variables have the values of the shader's state, and a block's words are seen in the bytes of its variable; the buffers are those that were
    -- given, with the words of the blocks put; the choices are those that are left; and a variable that is none of the function's is as it
    -- was when the call began.
    pub record Holds (s : shader.State) (state : State) : Type 0 where
      pub values : (name : Name) (v : Value) → value_of f.stages s name ≡ Some v → (number : ℕ) × (f.seat name ≡ Some number) × (slice_get state.variables number ≡ Some v)
      pub blocks : (number id : ℕ) (block : Block) → slice_get p.blocks number ≡ Some block → slice_get f.place.blocks number ≡ Some id
          → (bytes : List ℕ) × (bytes_of m input state id ≡ Some bytes) × (slice_get s.blocks number ≡ Some (words_in p.structs block bytes)) × AreBytes bytes
      pub buffers : state.buffers ≡ put_blocks p.structs p.blocks s.blocks input.buffers
      pub choices : state.choices ≡ s.choices
      pub count : length state.variables ≡ length f.begun
      pub outside : (number : ℕ) → ((name : Name) → f.seat name ≢ Some number) → slice_get state.variables number ≡ slice_get f.begun number

    -- What a block holds is seen in bytes, which a word counts where it counts those of the input.
    abbrev pub IsSeen : Block → Option Value → Type 0
    IsSeen block v = (bytes : List ℕ) × (v ≡ Some (words_in p.structs block bytes)) × AreBytes bytes × (IsShort input → length bytes < 2 ^ 32)

    -- A variable of a type has a value of it.
    abbrev pub HasType : Option Ty → Option Value → Type 0
    HasType None v = Unit {0}
    HasType (Some t) None = ⊥
    HasType (Some t) (Some v) = is_value_of p.structs t v ≡ true

    -- Each variable of the shader has a value of its type, blocks have the words of bytes, and the choices are words.
    pub record AreTyped (s : shader.State) : Type 0 where
      pub each : (name : Name) → HasType (type_named around name) (value_of f.stages s name)
      pub choices : AreChoices s.choices
      pub blocks : (number : ℕ) (block : Block) → slice_get p.blocks number ≡ Some block → IsSeen block (slice_get s.blocks number)
      pub stages : (number : ℕ) (t : Ty) (v : Value) → slice_get stage_types number ≡ Some t → value_of f.stages s (Stage number) ≡ Some v → is_value_of p.structs t v ≡ true

    -- The state is that of the shader, whose variables have values of their types.
    pub record Agrees (s : shader.State) (state : State) : Type 0 where
      pub holds : Holds s state
      pub typed : AreTyped s

    -- The function stands behind what a builder holds, in a state that a run of the module comes to, and that state is that of the shader.
    pub record Good (b : Flow) (s : shader.State) (state : State) : Type 0 where
      pub inside : Inside b.sections
      pub rest : state.rest ≡ coming b.sections
      pub within : state.body ≡ body
      pub own : state.own ≡ f.own
      pub waiting : state.waiting ≡ f.waiting
      pub ready : Ready b.sections.last f.own state.ids
      pub seated : Seated b.place
      pub holds : Holds s state
      pub typed : AreTyped s
      pub reached : Reached m input state

  -- A value waits in one of the first holders, which has this id.
  pub record Waits (count id : ℕ) (v : Value) (state : State) : Type 0 where
    pub holder : ℕ
    pub number : ℕ
    pub among : holder < count
    pub seat : f.seat (Holder holder) ≡ Some number
    pub points : f.own id ≡ Some (Points (InVariable number []))
    pub value : slice_get state.variables number ≡ Some v

  -- A value stands in its block, or waits in a holder.
  abbrev pub HeldAs : Bool → ℕ → Value → Flow → State → Type 0
  HeldAs false kept v b state = Stands state.ids kept v
  HeldAs true kept v b state = Waits b.place.used kept v state

  -- The first holders are as they were.
  pub record Kept (count : ℕ) (state later : State) : Type 0 where
    pub same : (holder number : ℕ) → holder < count → f.seat (Holder holder) ≡ Some number → slice_get later.variables number ≡ slice_get state.variables number
