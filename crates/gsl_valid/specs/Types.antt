-- What the types, constants and variables of a module are, found by their ids.
use Rattle.std.specs.Prelude.{ℕ, ◌+◌, Bool, true, false, ◌==◌, ◌||◌, List, [], ◌∷◌, Option, Some, None, max, fold, map, if◌then◌else◌}
use Rattle.std.specs.List.{list_any}
use Rattle.gsl_words.specs.declared.module.Module.{Module}
use Rattle.gsl_instr.specs.declared.instruction.Instruction.{Instruction}
use Rattle.gsl_instr.specs.declared.enumerant.storage_class.TheConstants as storage_class
use Rattle.gsl_valid.specs.Instruction.{read}
use Rattle.gsl_valid.specs.Kinds.{Shape, OfVoid, OfBool, OfInt, OfVector, OfArray, OfRuntimeArray, OfStruct, OfPointer, OfFunction, NoType, Variable, Kind, Asks, Imports, Sets, Enters, Modes, Debugs, Decorates, Declares, Fixes, Holds, Begins, Takes, Calls, Gives, Does, Opens, Merges, Leaves, Ended, Absent, kind, shape_of, variable_is, type_of, constant_is, constant_type}
use Rattle.gsl_valid.specs.Placed.{Code}
use Rattle.gsl_valid.specs.Ids.{defines, definition}

-- Kinds of types ----------------------------------------------------------------------------------------------

-- Void
abbrev pub is_void_shape : Shape → Bool
is_void_shape OfVoid = true
is_void_shape OfBool = false
is_void_shape (OfInt signedness) = false
is_void_shape (OfVector component count) = false
is_void_shape (OfArray element length) = false
is_void_shape (OfRuntimeArray element) = false
is_void_shape (OfStruct id members) = false
is_void_shape (OfPointer class pointee) = false
is_void_shape (OfFunction returned parameters) = false
is_void_shape NoType = false

abbrev pub void_type : Option Instruction → Bool
void_type d = is_void_shape (shape_of d)

-- Int
abbrev pub is_int_shape : Shape → Bool
is_int_shape OfVoid = false
is_int_shape OfBool = false
is_int_shape (OfInt signedness) = true
is_int_shape (OfVector component count) = false
is_int_shape (OfArray element length) = false
is_int_shape (OfRuntimeArray element) = false
is_int_shape (OfStruct id members) = false
is_int_shape (OfPointer class pointee) = false
is_int_shape (OfFunction returned parameters) = false
is_int_shape NoType = false

abbrev pub int_type : Option Instruction → Bool
int_type d = is_int_shape (shape_of d)

-- Bool
abbrev pub is_bool_shape : Shape → Bool
is_bool_shape OfVoid = false
is_bool_shape OfBool = true
is_bool_shape (OfInt signedness) = false
is_bool_shape (OfVector component count) = false
is_bool_shape (OfArray element length) = false
is_bool_shape (OfRuntimeArray element) = false
is_bool_shape (OfStruct id members) = false
is_bool_shape (OfPointer class pointee) = false
is_bool_shape (OfFunction returned parameters) = false
is_bool_shape NoType = false

abbrev pub bool_type : Option Instruction → Bool
bool_type d = is_bool_shape (shape_of d)

-- a struct
abbrev pub is_struct_shape : Shape → Bool
is_struct_shape OfVoid = false
is_struct_shape OfBool = false
is_struct_shape (OfInt signedness) = false
is_struct_shape (OfVector component count) = false
is_struct_shape (OfArray element length) = false
is_struct_shape (OfRuntimeArray element) = false
is_struct_shape (OfStruct id members) = true
is_struct_shape (OfPointer class pointee) = false
is_struct_shape (OfFunction returned parameters) = false
is_struct_shape NoType = false

abbrev pub struct_type : Option Instruction → Bool
struct_type d = is_struct_shape (shape_of d)

-- an array without length
abbrev pub is_runtime_shape : Shape → Bool
is_runtime_shape OfVoid = false
is_runtime_shape OfBool = false
is_runtime_shape (OfInt signedness) = false
is_runtime_shape (OfVector component count) = false
is_runtime_shape (OfArray element length) = false
is_runtime_shape (OfRuntimeArray element) = true
is_runtime_shape (OfStruct id members) = false
is_runtime_shape (OfPointer class pointee) = false
is_runtime_shape (OfFunction returned parameters) = false
is_runtime_shape NoType = false

abbrev pub runtime_type : Option Instruction → Bool
runtime_type d = is_runtime_shape (shape_of d)

-- a type of values: Bool, Int, a vector, an array with length or a struct
abbrev pub is_value_shape : Shape → Bool
is_value_shape OfVoid = false
is_value_shape OfBool = true
is_value_shape (OfInt signedness) = true
is_value_shape (OfVector component count) = true
is_value_shape (OfArray element length) = true
is_value_shape (OfRuntimeArray element) = false
is_value_shape (OfStruct id members) = true
is_value_shape (OfPointer class pointee) = false
is_value_shape (OfFunction returned parameters) = false
is_value_shape NoType = false

abbrev pub value_type : Option Instruction → Bool
value_type d = is_value_shape (shape_of d)

-- an `int`, where the signedness is 1, or a `uint`, where it is 0
abbrev pub is_int_of : ℕ → Shape → Bool
is_int_of sign OfVoid = false
is_int_of sign OfBool = false
is_int_of sign (OfInt signedness) = signedness == sign
is_int_of sign (OfVector component count) = false
is_int_of sign (OfArray element length) = false
is_int_of sign (OfRuntimeArray element) = false
is_int_of sign (OfStruct id members) = false
is_int_of sign (OfPointer class pointee) = false
is_int_of sign (OfFunction returned parameters) = false
is_int_of sign NoType = false

abbrev pub int_of : ℕ → Option Instruction → Bool
int_of sign d = is_int_of sign (shape_of d)

-- What a pointer type points to, and its class.
pub record Target : Type 0 where
  pub class : ℕ
  pub pointee : ℕ

-- what a pointer type points to
abbrev pub target_in : Shape → Option Target
target_in OfVoid = None
target_in OfBool = None
target_in (OfInt signedness) = None
target_in (OfVector component count) = None
target_in (OfArray element length) = None
target_in (OfRuntimeArray element) = None
target_in (OfStruct id members) = None
target_in (OfPointer class pointee) = Some (record { class = class; pointee = pointee })
target_in (OfFunction returned parameters) = None
target_in NoType = None

abbrev pub target_of : Option Instruction → Option Target
target_of d = target_in (shape_of d)

-- whether a class is this
abbrev pub is_target_of : ℕ → Option Target → Bool
is_target_of class None = false
is_target_of class (Some target) = target.class == class

-- a pointer of class Function
abbrev pub local_pointer : Option Instruction → Bool
local_pointer d = is_target_of storage_class.FUNCTION (target_of d)

-- the parameters of a function type
abbrev pub parameters_in : Shape → List ℕ
parameters_in OfVoid = []
parameters_in OfBool = []
parameters_in (OfInt signedness) = []
parameters_in (OfVector component count) = []
parameters_in (OfArray element length) = []
parameters_in (OfRuntimeArray element) = []
parameters_in (OfStruct id members) = []
parameters_in (OfPointer class pointee) = []
parameters_in (OfFunction returned parameters) = parameters
parameters_in NoType = []

abbrev pub parameters_of : Option Instruction → List ℕ
parameters_of d = parameters_in (shape_of d)

module _ (m : Module) where
  -- what an id of the module stands for
  abbrev pub defined_as : ℕ → Option Instruction
  defined_as id = definition m.instrs id

  -- whether an id is that of Void
  abbrev pub is_void : ℕ → Bool
  is_void id = void_type (defined_as id)

  -- whether it is that of an Int
  abbrev pub is_int : ℕ → Bool
  is_int id = int_type (defined_as id)

  -- whether it is that of a struct
  abbrev pub is_struct : ℕ → Bool
  is_struct id = struct_type (defined_as id)

  -- whether it is that of a type of values
  abbrev pub is_value_type : ℕ → Bool
  is_value_type id = value_type (defined_as id)

  -- whether it is that of an array without length
  abbrev pub is_runtime : ℕ → Bool
  is_runtime id = runtime_type (defined_as id)

-- Scalars and vectors -------------------------------------------------------------------------------------------

-- What a scalar is.
pub data Scalar : Type 0 where
  Truths : Scalar
  Words : (signedness : ℕ) → Scalar

-- The components of a scalar or vector type, one for a scalar.
pub record Lanes : Type 0 where
  pub scalar : Scalar
  pub size : ℕ

-- the scalar that a type is
abbrev pub scalar_in : Shape → Option Scalar
scalar_in OfVoid = None
scalar_in OfBool = Some Truths
scalar_in (OfInt signedness) = Some (Words signedness)
scalar_in (OfVector component count) = None
scalar_in (OfArray element length) = None
scalar_in (OfRuntimeArray element) = None
scalar_in (OfStruct id members) = None
scalar_in (OfPointer class pointee) = None
scalar_in (OfFunction returned parameters) = None
scalar_in NoType = None

-- so many components of it
abbrev pub lanes_with : ℕ → Option Scalar → Option Lanes
lanes_with size None = None
lanes_with size (Some scalar) = Some (record { scalar = scalar; size = size })

-- the components of a type
abbrev pub lanes_in : Module → Shape → Option Lanes
lanes_in m OfVoid = None
lanes_in m OfBool = lanes_with 1 (Some Truths)
lanes_in m (OfInt signedness) = lanes_with 1 (Some (Words signedness))
lanes_in m (OfVector component count) = lanes_with count (scalar_in (shape_of (defined_as m component)))
lanes_in m (OfArray element length) = None
lanes_in m (OfRuntimeArray element) = None
lanes_in m (OfStruct id members) = None
lanes_in m (OfPointer class pointee) = None
lanes_in m (OfFunction returned parameters) = None
lanes_in m NoType = None

abbrev pub lanes_of : Module → ℕ → Option Lanes
lanes_of m type = lanes_in m (shape_of (defined_as m type))

-- whether a scalar is an Int
abbrev pub is_words : Scalar → Bool
is_words Truths = false
is_words (Words signedness) = true

-- whether it is an Int of a signedness
abbrev pub is_words_of : ℕ → Scalar → Bool
is_words_of sign Truths = false
is_words_of sign (Words signedness) = signedness == sign

-- whether it is a Bool
abbrev pub is_truths : Scalar → Bool
is_truths Truths = true
is_truths (Words signedness) = false

-- whether a type is a scalar or vector of such a scalar
abbrev pub has_lanes : (Scalar → Bool) → Option Lanes → Bool
has_lanes test None = false
has_lanes test (Some lanes) = test lanes.scalar

-- whether two types are scalars or vectors of one size
abbrev pub same_size : Option Lanes → Option Lanes → Bool
same_size None other = false
same_size (Some a) None = false
same_size (Some a) (Some b) = a.size == b.size

-- whether a type is Int or a vector of Int
abbrev pub is_ints : Module → ℕ → Bool
is_ints m type = has_lanes is_words (lanes_of m type)

-- Parts ---------------------------------------------------------------------------------------------------------

-- the types that a type is made of
abbrev pub parts_in : Shape → List ℕ
parts_in OfVoid = []
parts_in OfBool = []
parts_in (OfInt signedness) = []
parts_in (OfVector component count) = []
parts_in (OfArray element length) = element ∷ []
parts_in (OfRuntimeArray element) = element ∷ []
parts_in (OfStruct id members) = members
parts_in (OfPointer class pointee) = []
parts_in (OfFunction returned parameters) = []
parts_in NoType = []

abbrev pub parts_of : Option Instruction → List ℕ
parts_of d = parts_in (shape_of d)

-- whether a type is a test's or has such a type in it, where their definitions are among these instructions, the last first
abbrev pub has_in : (ℕ → Bool) → Code → ℕ → Bool
has_in test [] type = false
has_in test (i ∷ before) type =
    if defines i type then test type || list_any (has_in test before) (parts_of (read i)) else has_in test before type

-- the greatest of some heights
abbrev pub highest : List ℕ → ℕ
highest heights = fold max 0 heights

-- how high a type is, of which the definition is among these instructions, the last first: a scalar or vector is 1 high,
-- an array or struct one more than its highest part
abbrev pub height : Code → ℕ → ℕ
height [] id = 0
height (i ∷ before) id = if defines i id then 1 + highest (map (height before) (parts_of (read i))) else height before id

-- Values --------------------------------------------------------------------------------------------------------

-- whether there is a type, and it is this
abbrev pub is_type : ℕ → Option ℕ → Bool
is_type type None = false
is_type type (Some other) = other == type

-- whether a value is of a type
abbrev pub has_type : Module → ℕ → ℕ → Bool
has_type m type value = is_type type (type_of (defined_as m value))

-- whether there is a type, and it is Int
abbrev pub is_int_type : Module → Option ℕ → Bool
is_int_type m None = false
is_int_type m (Some type) = is_int m type

-- whether a value is of a type Int
abbrev pub is_int_value : Module → ℕ → Bool
is_int_value m value = is_int_type m (type_of (defined_as m value))

-- whether an instruction is a constant of a type
abbrev pub constant_of : ℕ → Option Instruction → Bool
constant_of type d = is_type type (constant_type (constant_is d))

-- whether the operands that initialise a variable are one constant of a type
abbrev pub initialises : Module → ℕ → List ℕ → Bool
initialises m type [] = false
initialises m type (id ∷ []) = constant_of type (defined_as m id)
initialises m type (id ∷ other ∷ ids) = false

-- whether there is a variable, and it is of a class
abbrev pub is_variable_of : ℕ → Option Variable → Bool
is_variable_of class None = false
is_variable_of class (Some v) = v.class == class

-- whether an instruction is a variable of a class
abbrev pub variable_of : ℕ → Option Instruction → Bool
variable_of class d = is_variable_of class (variable_is d)

-- Functions -----------------------------------------------------------------------------------------------------

-- whether an instruction begins a function
abbrev pub begins : Kind → Bool
begins Asks = false
begins Imports = false
begins Sets = false
begins (Enters model function name interface) = false
begins (Modes function mode parts) = false
begins Debugs = false
begins (Decorates d) = false
begins (Declares shape) = false
begins (Fixes type value) = false
begins (Holds v) = false
begins (Begins type id function_type) = true
begins (Takes type) = false
begins (Calls type function arguments) = false
begins (Gives type) = false
begins Does = false
begins Opens = false
begins Merges = false
begins Leaves = false
begins Ended = false
begins Absent = false

abbrev pub function_begins : Option Instruction → Bool
function_begins d = begins (kind d)

-- the instructions of some code before its first function
abbrev pub before_functions : Code → Code
before_functions [] = []
before_functions (i ∷ code) = if function_begins (read i) then [] else i ∷ before_functions code

-- the instructions outside functions, which stand before the first of them
abbrev pub outside_of : Module → Code
outside_of m = before_functions m.instrs

-- whether a class is that of a storage block's, a uniform block's or a push constant block's variable
abbrev pub is_block_class : ℕ → Bool
is_block_class class = class == storage_class.UNIFORM || class == storage_class.STORAGE_BUFFER || class == storage_class.PUSH_CONSTANT
