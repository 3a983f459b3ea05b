-- What variables and ids hold while a valid module runs, by the types that the module gives them.
use Rattle.std.specs.Prelude.{◌≡◌, ℕ, true, false, is_some, List, [], ◌∷◌, ◌++◌, length, map, slice_get, Option, Some, None}
use Rattle.gsl_words.specs.declared.module.Module.{Module}
use Rattle.gsl_valid.specs.DecorationRules.{pointee}
use Rattle.gsl_valid.specs.Kinds.{Variable, constant_is, type_of}
use Rattle.gsl_valid.specs.LocalityRules.{of_block}
use Rattle.gsl_valid.specs.OperandRules.{part_within}
use Rattle.gsl_valid.specs.Placed.{Placed}
use Rattle.gsl_valid.specs.Types.{Target, defined_as, is_block_class, target_of}
use Rattle.gsl_machine.specs.Constants.{constant}
use Rattle.gsl_machine.specs.Functions.{own_ids, variables_of}
use Rattle.gsl_machine.specs.Interfaces.{globals, value_variables}
use Rattle.gsl_machine.specs.State.{Held, Ids, InBlock, InVariable, Pointer, Points, State, Waiting, Whole}
use Rattle.gsl_sound_values.specs.Shaped.{is_shaped}
use Rattle.gsl_memory_law.specs.Typed.{HaveTypes}

-- ---- the types of variables

-- the types of what variables hold, one by one
abbrev pub types_of : Module → List Variable → List ℕ
types_of m variables = map (λ v. pointee m v.type) variables

-- those of the module's variables, and behind them those of the functions that wait, the first that was called first
abbrev pub types_below : Module → List Waiting → List ℕ
types_below m [] = types_of m (value_variables m)
types_below m (call ∷ calls) = types_below m calls ++ types_of m (variables_of call.body)

-- and of the function that runs
abbrev pub types_in : Module → State → List ℕ
types_in m state = types_below m state.waiting ++ types_of m (variables_of state.body)

-- ---- what ids stand for

-- Among variables of these types numbers lead from one to a part of a type.
pub record LeadsTo (m : Module) (types : List ℕ) (number : ℕ) (path : List ℕ) (part : ℕ) : Type 0 where
  pub type : ℕ
  pub is : slice_get types number ≡ Some type
  pub leads : part_within m (Some type) path ≡ Some part

-- A pointer leads to what its type points to: into a block where its class is one of blocks, and else to a part of a variable.
abbrev pub PointsTo : Module → List ℕ → Target → Pointer → Type 0
PointsTo m types target (InBlock variable offset pointee) = (is_block_class target.class ≡ true) × (pointee ≡ target.pointee)
PointsTo m types target (InVariable number path) = (is_block_class target.class ≡ false) × LeadsTo m types number path target.pointee

abbrev pub IsAs : Module → List ℕ → ℕ → Option Target → Held → Type 0
IsAs m types type None (Whole v) = is_shaped m type v ≡ true
IsAs m types type None (Points to) = ⊥
IsAs m types type (Some target) (Whole v) = ⊥
IsAs m types type (Some target) (Points to) = PointsTo m types target to

-- What is held is of a type: a value has its shape, and a pointer leads to what it points to.
abbrev pub IsOfType : Module → List ℕ → ℕ → Held → Type 0
IsOfType m types type held = IsAs m types type (target_of (defined_as m type)) held

-- Each id that stands for something stands for what is of its type, and a constant for its value.
pub record HoldTypes (m : Module) (types : List ℕ) (ids : Ids) : Type 0 where
  pub each : (id type : ℕ) (held : Held) → ids id ≡ Some held → type_of (defined_as m id) ≡ Some type → IsOfType m types type held
  pub constants : (id : ℕ) (held : Held) → ids id ≡ Some held → is_some (constant_is (defined_as m id)) ≡ true → held ≡ Whole (constant m id)

-- In a function with these instructions, whose variables stand behind so many, ids that no block gives stand for what they stood for as it
-- began: constants and variables for themselves, and its parameters for what was given.
pub record Lasts (m : Module) (body : List Placed) (count : ℕ) (own ids : Ids) : Type 0 where
  pub arguments : List Held
  pub own_is : own ≡ own_ids (globals m) body arguments count
  pub same : (id : ℕ) → of_block (defined_as m id) ≡ false → ids id ≡ own id

-- ---- states

-- So it is in a function, where these are the types of the variables below its own.
pub record Frame (m : Module) (below : List ℕ) (body : List Placed) (own ids : Ids) : Type 0 where
  pub held : HoldTypes m (below ++ types_of m (variables_of body)) ids
  pub lasting : HoldTypes m (below ++ types_of m (variables_of body)) own
  pub lasts : Lasts m body (length below) own ids

-- and in each of the functions that wait, where there are as many variables as its own and those below
abbrev pub FrameEach : Module → List Waiting → Type 0
FrameEach m [] = Unit {0}
FrameEach m (call ∷ calls) = (call.count ≡ length (types_below m (call ∷ calls))) × Frame m (types_below m calls) call.body call.own call.ids × FrameEach m calls

-- The variables of a state have the shapes of their types, and so it is in each of its functions.
pub record Typed (m : Module) (state : State) : Type 0 where
  pub variables : HaveTypes m (types_in m state) state.variables
  pub frame : Frame m (types_below m state.waiting) state.body state.own state.ids
  pub waiting : FrameEach m state.waiting
