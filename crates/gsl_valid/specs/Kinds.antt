-- What instructions are to a module: of which kind each is, and what types, constants, variables and decorations say.
use Rattle.std.specs.Prelude.{ℕ, List, Option, Some, None}
use Rattle.gsl_instr.specs.declared.instruction.Instruction.{Instruction}
use Rattle.gsl_instr.specs.declared.instruction.Instruction.TheVariants as instruction

-- What a type is made of (SPIR-V 1.0, 3.32.6).
pub data Shape : Type 0 where
  OfVoid : Shape
  OfBool : Shape
  OfInt : (signedness : ℕ) → Shape
  OfVector : (component count : ℕ) → Shape
  -- `length` is the id of a constant
  OfArray : (element length : ℕ) → Shape
  OfRuntimeArray : (element : ℕ) → Shape
  OfStruct : (id : ℕ) (members : List ℕ) → Shape
  OfPointer : (class pointee : ℕ) → Shape
  OfFunction : (returned : ℕ) (parameters : List ℕ) → Shape
  -- of what is no type
  NoType : Shape

-- What a constant is (SPIR-V 1.0, 3.32.7).
pub data Value : Type 0 where
  Truth : Value
  Word : (word : ℕ) → Value
  Parts : (parts : List ℕ) → Value
  -- zeros of any type
  Zeros : Value

-- A variable, with the id of its initialiser, if it has one.
pub record Variable : Type 0 where
  pub type : ℕ
  pub id : ℕ
  pub class : ℕ
  pub initialiser : List ℕ

-- What a decoration stands on.
pub data Place : Type 0 where
  On : (target : ℕ) → Place
  OnMember : (target member : ℕ) → Place

-- A decoration with the place that it stands on.
pub record Decoration : Type 0 where
  pub place : Place
  pub kind : ℕ
  pub literals : List ℕ

-- What an instruction is to its module.
pub data Kind : Type 0 where
  -- a capability, an import, the memory model
  Asks : Kind
  Imports : Kind
  Sets : Kind
  -- an entry point and a mode of it
  Enters : (model function : ℕ) (name interface : List ℕ) → Kind
  Modes : (function mode : ℕ) (parts : List ℕ) → Kind
  -- a name
  Debugs : Kind
  Decorates : (d : Decoration) → Kind
  -- a type, a constant and a variable
  Declares : (shape : Shape) → Kind
  Fixes : (type : ℕ) (value : Value) → Kind
  Holds : (v : Variable) → Kind
  -- the first instruction of a function, a parameter and a call
  Begins : (type id function_type : ℕ) → Kind
  Takes : (type : ℕ) → Kind
  Calls : (type function : ℕ) (arguments : List ℕ) → Kind
  -- any other instruction of a block that gives a value, and one that gives none
  Gives : (type : ℕ) → Kind
  Does : Kind
  -- a label, a merge, the last instruction of a block, and that of a function
  Opens : Kind
  Merges : Kind
  Leaves : Kind
  Ended : Kind
  -- no instruction of the table
  Absent : Kind

-- of which kind an instruction is
abbrev pub kind_of : Instruction → Kind
kind_of (instruction.Name target text) = Debugs
kind_of (instruction.MemberName target member text) = Debugs
kind_of (instruction.ExtInstImport result name) = Imports
kind_of (instruction.ExtInst type result set number operands) = Gives type
kind_of (instruction.MemoryModel addressing memory) = Sets
kind_of (instruction.EntryPoint model function name interface) = Enters model function name interface
kind_of (instruction.ExecutionMode function mode parts) = Modes function mode parts
kind_of (instruction.Capability capability) = Asks
kind_of (instruction.TypeVoid result) = Declares OfVoid
kind_of (instruction.TypeBool result) = Declares OfBool
kind_of (instruction.TypeInt result width signedness) = Declares (OfInt signedness)
kind_of (instruction.TypeVector result component count) = Declares (OfVector component count)
kind_of (instruction.TypeArray result element length) = Declares (OfArray element length)
kind_of (instruction.TypeRuntimeArray result element) = Declares (OfRuntimeArray element)
kind_of (instruction.TypeStruct result members) = Declares (OfStruct result members)
kind_of (instruction.TypePointer result class pointee) = Declares (OfPointer class pointee)
kind_of (instruction.TypeFunction result returned parameters) = Declares (OfFunction returned parameters)
kind_of (instruction.ConstantTrue type result) = Fixes type Truth
kind_of (instruction.ConstantFalse type result) = Fixes type Truth
kind_of (instruction.ConstantNull type result) = Fixes type Zeros
kind_of (instruction.Constant type result value) = Fixes type (Word value)
kind_of (instruction.ConstantComposite type result parts) = Fixes type (Parts parts)
kind_of (instruction.CompositeConstruct type result parts) = Gives type
kind_of (instruction.Function type result control function_type) = Begins type result function_type
kind_of (instruction.FunctionParameter type result) = Takes type
kind_of instruction.FunctionEnd = Ended
kind_of (instruction.FunctionCall type result function arguments) = Calls type function arguments
kind_of (instruction.Variable type result class initialiser) = Holds (record { type = type; id = result; class = class; initialiser = initialiser })
kind_of (instruction.Load type result pointer) = Gives type
kind_of (instruction.Store pointer value) = Does
kind_of (instruction.AccessChain type result base indexes) = Gives type
kind_of (instruction.ArrayLength type result pointer member) = Gives type
kind_of (instruction.Decorate target decoration literals) = Decorates (record { place = On target; kind = decoration; literals = literals })
kind_of (instruction.MemberDecorate target member decoration literals) = Decorates (record { place = OnMember target member; kind = decoration; literals = literals })
kind_of (instruction.VectorExtractDynamic type result vector index) = Gives type
kind_of (instruction.VectorShuffle type result first second components) = Gives type
kind_of (instruction.CompositeExtract type result composite indexes) = Gives type
kind_of (instruction.CompositeInsert type result part composite indexes) = Gives type
kind_of (instruction.Unary op type result a) = Gives type
kind_of (instruction.Arithmetic op type result a b) = Gives type
kind_of (instruction.Shift op type result base shift) = Gives type
kind_of (instruction.Logical op type result a b) = Gives type
kind_of (instruction.Comparison op type result a b) = Gives type
kind_of (instruction.Select type result condition a b) = Gives type
kind_of (instruction.BitFieldInsert type result base insert offset count) = Gives type
kind_of (instruction.BitFieldExtract op type result base offset count) = Gives type
kind_of (instruction.LoopMerge merge continue_target control) = Merges
kind_of (instruction.SelectionMerge merge control) = Merges
kind_of (instruction.Label result) = Opens
kind_of (instruction.Branch target) = Leaves
kind_of (instruction.BranchConditional condition on_true on_false) = Leaves
kind_of (instruction.Switch selector default targets) = Leaves
kind_of instruction.Kill = Leaves
kind_of instruction.Return = Leaves
kind_of (instruction.ReturnValue value) = Leaves

-- of which kind it is, if there is one
abbrev pub kind : Option Instruction → Kind
kind None = Absent
kind (Some i) = kind_of i

-- the shape of the type that an instruction declares
abbrev pub shape_in : Kind → Shape
shape_in Asks = NoType
shape_in Imports = NoType
shape_in Sets = NoType
shape_in (Enters model function name interface) = NoType
shape_in (Modes function mode parts) = NoType
shape_in Debugs = NoType
shape_in (Decorates d) = NoType
shape_in (Declares shape) = shape
shape_in (Fixes type value) = NoType
shape_in (Holds v) = NoType
shape_in (Begins type id function_type) = NoType
shape_in (Takes type) = NoType
shape_in (Calls type function arguments) = NoType
shape_in (Gives type) = NoType
shape_in Does = NoType
shape_in Opens = NoType
shape_in Merges = NoType
shape_in Leaves = NoType
shape_in Ended = NoType
shape_in Absent = NoType

abbrev pub shape_of : Option Instruction → Shape
shape_of d = shape_in (kind d)

-- the variable that it is
abbrev pub variable_in : Kind → Option Variable
variable_in Asks = None
variable_in Imports = None
variable_in Sets = None
variable_in (Enters model function name interface) = None
variable_in (Modes function mode parts) = None
variable_in Debugs = None
variable_in (Decorates d) = None
variable_in (Declares shape) = None
variable_in (Fixes type value) = None
variable_in (Holds v) = Some v
variable_in (Begins type id function_type) = None
variable_in (Takes type) = None
variable_in (Calls type function arguments) = None
variable_in (Gives type) = None
variable_in Does = None
variable_in Opens = None
variable_in Merges = None
variable_in Leaves = None
variable_in Ended = None
variable_in Absent = None

abbrev pub variable_is : Option Instruction → Option Variable
variable_is d = variable_in (kind d)

-- the decoration that it is
abbrev pub decoration_in : Kind → Option Decoration
decoration_in Asks = None
decoration_in Imports = None
decoration_in Sets = None
decoration_in (Enters model function name interface) = None
decoration_in (Modes function mode parts) = None
decoration_in Debugs = None
decoration_in (Decorates d) = Some d
decoration_in (Declares shape) = None
decoration_in (Fixes type value) = None
decoration_in (Holds v) = None
decoration_in (Begins type id function_type) = None
decoration_in (Takes type) = None
decoration_in (Calls type function arguments) = None
decoration_in (Gives type) = None
decoration_in Does = None
decoration_in Opens = None
decoration_in Merges = None
decoration_in Leaves = None
decoration_in Ended = None
decoration_in Absent = None

abbrev pub decoration_of : Option Instruction → Option Decoration
decoration_of d = decoration_in (kind d)

-- the type of the value that it gives: what begins a function has none as a value
abbrev pub type_in : Kind → Option ℕ
type_in Asks = None
type_in Imports = None
type_in Sets = None
type_in (Enters model function name interface) = None
type_in (Modes function mode parts) = None
type_in Debugs = None
type_in (Decorates d) = None
type_in (Declares shape) = None
type_in (Fixes type value) = Some type
type_in (Holds v) = Some v.type
type_in (Begins type id function_type) = None
type_in (Takes type) = Some type
type_in (Calls type function arguments) = Some type
type_in (Gives type) = Some type
type_in Does = None
type_in Opens = None
type_in Merges = None
type_in Leaves = None
type_in Ended = None
type_in Absent = None

abbrev pub type_of : Option Instruction → Option ℕ
type_of d = type_in (kind d)

-- the type and the value of the constant that it is
abbrev pub constant_in : Kind → Option (ℕ × Value)
constant_in Asks = None
constant_in Imports = None
constant_in Sets = None
constant_in (Enters model function name interface) = None
constant_in (Modes function mode parts) = None
constant_in Debugs = None
constant_in (Decorates d) = None
constant_in (Declares shape) = None
constant_in (Fixes type value) = Some (type, value)
constant_in (Holds v) = None
constant_in (Begins type id function_type) = None
constant_in (Takes type) = None
constant_in (Calls type function arguments) = None
constant_in (Gives type) = None
constant_in Does = None
constant_in Opens = None
constant_in Merges = None
constant_in Leaves = None
constant_in Ended = None
constant_in Absent = None

abbrev pub constant_is : Option Instruction → Option (ℕ × Value)
constant_is d = constant_in (kind d)

-- the type of the constant that it is, if it is one
abbrev pub constant_type : Option (ℕ × Value) → Option ℕ
constant_type None = None
constant_type (Some c) = Some c.0

-- the word that a constant is, if it is one of one word
abbrev pub word_in : Value → Option ℕ
word_in Truth = None
word_in (Word word) = Some word
word_in (Parts parts) = None
word_in Zeros = None

abbrev pub word_if : Option (ℕ × Value) → Option ℕ
word_if None = None
word_if (Some c) = word_in c.1

abbrev pub value_of : Option Instruction → Option ℕ
value_of d = word_if (constant_is d)
