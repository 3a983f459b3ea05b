-- V14: the types of operands.
use Rattle.std.specs.Prelude.{ℕ, ◌+◌, Bool, true, false, ◌==◌, ◌&&◌, ◌||◌, nat_lt, List, [], ◌∷◌, length, slice_index, map, Option, Some, None, if◌then◌else◌}
use Rattle.std.specs.List.{list_any, list_all, sum}
use Rattle.gsl_words.specs.declared.module.Instr.{Instr}
use Rattle.gsl_words.specs.declared.module.Module.{Module}
use Rattle.gsl_instr.specs.declared.instruction.Instruction.{Instruction}
use Rattle.gsl_instr.specs.declared.instruction.Instruction.TheVariants as instruction
use Rattle.gsl_instr.specs.declared.op.TheConstants as op_code
use Rattle.gsl_valid.specs.Instruction.{read, passes_if}
use Rattle.gsl_valid.specs.Kinds.{Shape, OfVoid, OfBool, OfInt, OfVector, OfArray, OfRuntimeArray, OfStruct, OfPointer, OfFunction, NoType, shape_of, type_of, value_of}
use Rattle.gsl_valid.specs.Placed.{Code}
use Rattle.gsl_valid.specs.Search.{first_broken}
use Rattle.gsl_valid.specs.Types.{Lanes, is_words_of, is_truths, has_lanes, lanes_of, same_size, defined_as, bool_type, is_ints, has_type, is_int_value, is_type}
use Rattle.gsl_valid.specs.ConstantRules.{are_parts}

-- Scalars and vectors -------------------------------------------------------------------------------------------

-- The signedness that an opcode names.
pub data Sign : Type 0 where
  Either : Sign
  Only : (signedness : ℕ) → Sign

-- the opcodes that name signed and unsigned integers
abbrev pub signed_codes : List ℕ
signed_codes =
    op_code.S_DIV ∷ op_code.S_MOD ∷ op_code.S_GREATER_THAN ∷ op_code.S_GREATER_THAN_EQUAL ∷ op_code.S_LESS_THAN ∷ op_code.S_LESS_THAN_EQUAL ∷ op_code.BIT_FIELD_S_EXTRACT ∷ []

abbrev pub unsigned_codes : List ℕ
unsigned_codes =
    op_code.U_DIV ∷ op_code.U_MOD ∷ op_code.U_GREATER_THAN ∷ op_code.U_GREATER_THAN_EQUAL ∷ op_code.U_LESS_THAN ∷ op_code.U_LESS_THAN_EQUAL ∷ op_code.BIT_FIELD_U_EXTRACT ∷ []

-- whether an opcode is among some
abbrev pub is_op : List ℕ → ℕ → Bool
is_op ops op = list_any (λ other. other == op) ops

abbrev pub sign_of : ℕ → Sign
sign_of op = if is_op signed_codes op then Only 1 else if is_op unsigned_codes op then Only 0 else Either

-- whether a type is of integers of a signedness
abbrev pub is_signed : Module → Sign → ℕ → Bool
is_signed m Either type = true
is_signed m (Only signedness) type = has_lanes (is_words_of signedness) (lanes_of m type)

-- whether a type is Bool or a vector of Bool
abbrev pub is_truth : Module → ℕ → Bool
is_truth m type = has_lanes is_truths (lanes_of m type)

-- whether a value is of a type of integers of the size of another type
abbrev pub is_ints_sized : Module → ℕ → Option ℕ → Bool
is_ints_sized m type None = false
is_ints_sized m type (Some other) = is_ints m other && same_size (lanes_of m type) (lanes_of m other)

-- whether a value is of a type of truth values of the size of another type
abbrev pub is_truth_sized : Module → ℕ → Option ℕ → Bool
is_truth_sized m type None = false
is_truth_sized m type (Some other) = is_truth m other && same_size (lanes_of m type) (lanes_of m other)

-- whether a value is a Bool
abbrev pub is_bool_value : Module → Option ℕ → Bool
is_bool_value m None = false
is_bool_value m (Some type) = bool_type (defined_as m type)

-- whether two values of one type of integers of a signedness are compared to a type of their size
abbrev pub are_compared : Module → Sign → ℕ → ℕ → Option ℕ → Bool
are_compared m sign type b None = false
are_compared m sign type b (Some other) =
    is_ints m other && is_signed m sign other && has_type m other b && same_size (lanes_of m type) (lanes_of m other)

abbrev pub is_vector : Shape → Bool
is_vector OfVoid = false
is_vector OfBool = false
is_vector (OfInt signedness) = false
is_vector (OfVector component count) = true
is_vector (OfArray element length) = false
is_vector (OfRuntimeArray element) = false
is_vector (OfStruct id members) = false
is_vector (OfPointer class pointee) = false
is_vector (OfFunction returned parameters) = false
is_vector NoType = false

-- whether an operator of one operand gives a type from a type
abbrev pub is_unary_of : Module → ℕ → ℕ → ℕ → Bool
is_unary_of m op type other =
    if op == op_code.BITCAST || op == op_code.BIT_COUNT
    then is_ints m type && is_ints m other && same_size (lanes_of m type) (lanes_of m other)
    else if op == op_code.ANY || op == op_code.ALL then bool_type (defined_as m type) && is_truth m other && is_vector (shape_of (defined_as m other))
    else if op == op_code.LOGICAL_NOT then is_truth m type && type == other
    else (is_ints m type && type == other)

abbrev pub is_unary : Module → ℕ → ℕ → Option ℕ → Bool
is_unary m op type None = false
is_unary m op type (Some other) = is_unary_of m op type other

-- Composites ----------------------------------------------------------------------------------------------------

-- how many components a value has
abbrev pub size_in : Option Lanes → ℕ
size_in None = 0
size_in (Some lanes) = lanes.size

abbrev pub size_if : Module → Option ℕ → ℕ
size_if m None = 0
size_if m (Some type) = size_in (lanes_of m type)

abbrev pub size_of : Module → ℕ → ℕ
size_of m value = size_if m (type_of (defined_as m value))

-- the type of the components of a vector type
abbrev pub component_in : Shape → Option ℕ
component_in OfVoid = None
component_in OfBool = None
component_in (OfInt signedness) = None
component_in (OfVector component count) = Some component
component_in (OfArray element length) = None
component_in (OfRuntimeArray element) = None
component_in (OfStruct id members) = None
component_in (OfPointer class pointee) = None
component_in (OfFunction returned parameters) = None
component_in NoType = None

-- whether a type is a scalar, or a vector of it
abbrev pub is_of_scalar : Module → ℕ → Option ℕ → Bool
is_of_scalar m scalar None = false
is_of_scalar m scalar (Some type) = type == scalar || is_type scalar (component_in (shape_of (defined_as m type)))

-- whether scalars and vectors of a scalar make up a vector of so many components
abbrev pub fill_vector : Module → ℕ → ℕ → List ℕ → Bool
fill_vector m scalar count parts = list_all (λ part. is_of_scalar m scalar (type_of (defined_as m part))) parts && sum (map (size_of m) parts) == count

-- whether values are put together to a type: a vector from scalars and vectors, an array or struct from each of its parts
abbrev pub is_built : Module → List ℕ → Shape → Bool
is_built m parts OfVoid = false
is_built m parts OfBool = false
is_built m parts (OfInt signedness) = false
is_built m parts (OfVector component count) = fill_vector m component count parts
is_built m parts (OfArray element length) = are_parts m (has_type m) parts (OfArray element length)
is_built m parts (OfRuntimeArray element) = false
is_built m parts (OfStruct id members) = are_parts m (has_type m) parts (OfStruct id members)
is_built m parts (OfPointer class pointee) = false
is_built m parts (OfFunction returned parameters) = false
is_built m parts NoType = false

-- a type, if a place is below a count
abbrev pub if_below : ℕ → Option ℕ → ℕ → Option ℕ
if_below k None type = None
if_below k (Some count) type = if nat_lt k count then Some type else None

-- the type of the part of a type at a place
abbrev pub part_of_at : Module → ℕ → Shape → Option ℕ
part_of_at m k OfVoid = None
part_of_at m k OfBool = None
part_of_at m k (OfInt signedness) = None
part_of_at m k (OfVector component count) = if_below k (Some count) component
part_of_at m k (OfArray element length) = if_below k (value_of (defined_as m length)) element
part_of_at m k (OfRuntimeArray element) = None
part_of_at m k (OfStruct id members) = if nat_lt k (length members) then Some (slice_index members k) else None
part_of_at m k (OfPointer class pointee) = None
part_of_at m k (OfFunction returned parameters) = None
part_of_at m k NoType = None

-- the type that places lead to from a type
abbrev pub part_within : Module → Option ℕ → List ℕ → Option ℕ
part_within m None places = None
part_within m (Some type) [] = Some type
part_within m (Some type) (k ∷ places) = part_within m (part_of_at m k (shape_of (defined_as m type))) places

-- whether there is a part, and it is of this type
abbrev pub is_part : ℕ → Option ℕ → Bool
is_part type None = false
is_part type (Some part) = part == type

-- whether there is a type, and a value is of it
abbrev pub is_type_of : Module → ℕ → Option ℕ → Bool
is_type_of m value None = false
is_type_of m value (Some type) = has_type m type value

-- whether a value is a vector of a type
abbrev pub is_picked_of : Module → ℕ → Option ℕ → Bool
is_picked_of m type None = false
is_picked_of m type (Some vector) = is_type type (component_in (shape_of (defined_as m vector)))

abbrev pub is_picked : Module → ℕ → ℕ → Bool
is_picked m type value = is_picked_of m type (type_of (defined_as m value))

abbrev pub are_shuffled : List ℕ → ℕ → ℕ → Shape → Bool
are_shuffled places scalar size OfVoid = false
are_shuffled places scalar size OfBool = false
are_shuffled places scalar size (OfInt signedness) = false
are_shuffled places scalar size (OfVector component count) = component == scalar && length places == size && list_all (λ k. nat_lt k (count + count)) places
are_shuffled places scalar size (OfArray element length) = false
are_shuffled places scalar size (OfRuntimeArray element) = false
are_shuffled places scalar size (OfStruct id members) = false
are_shuffled places scalar size (OfPointer class pointee) = false
are_shuffled places scalar size (OfFunction returned parameters) = false
are_shuffled places scalar size NoType = false

-- whether a type has these components of two vectors of one type
abbrev pub is_shuffled_as : Module → List ℕ → Shape → Shape → Bool
is_shuffled_as m places OfVoid other = false
is_shuffled_as m places OfBool other = false
is_shuffled_as m places (OfInt signedness) other = false
is_shuffled_as m places (OfVector component count) other = are_shuffled places component count other
is_shuffled_as m places (OfArray element length) other = false
is_shuffled_as m places (OfRuntimeArray element) other = false
is_shuffled_as m places (OfStruct id members) other = false
is_shuffled_as m places (OfPointer class pointee) other = false
is_shuffled_as m places (OfFunction returned parameters) other = false
is_shuffled_as m places NoType other = false

abbrev pub is_shuffled : Module → ℕ → List ℕ → Option ℕ → Option ℕ → Bool
is_shuffled m type places None other = false
is_shuffled m type places (Some first) other =
    is_type first other && is_shuffled_as m places (shape_of (defined_as m type)) (shape_of (defined_as m first))

-- The rule ------------------------------------------------------------------------------------------------------

-- whether operands have the types that the opcode needs
abbrev pub operands_typed : Module → Instruction → Bool
operands_typed m (instruction.Name target text) = true
operands_typed m (instruction.MemberName target member text) = true
operands_typed m (instruction.ExtInstImport result name) = true
operands_typed m (instruction.ExtInst type result set number operands) = true
operands_typed m (instruction.MemoryModel addressing memory) = true
operands_typed m (instruction.EntryPoint model function name interface) = true
operands_typed m (instruction.ExecutionMode function mode parts) = true
operands_typed m (instruction.Capability capability) = true
operands_typed m (instruction.TypeVoid result) = true
operands_typed m (instruction.TypeBool result) = true
operands_typed m (instruction.TypeInt result width signedness) = true
operands_typed m (instruction.TypeVector result component count) = true
operands_typed m (instruction.TypeArray result element length) = true
operands_typed m (instruction.TypeRuntimeArray result element) = true
operands_typed m (instruction.TypeStruct result members) = true
operands_typed m (instruction.TypePointer result class pointee) = true
operands_typed m (instruction.TypeFunction result returned parameters) = true
operands_typed m (instruction.ConstantTrue type result) = true
operands_typed m (instruction.ConstantFalse type result) = true
operands_typed m (instruction.ConstantNull type result) = true
operands_typed m (instruction.Constant type result value) = true
operands_typed m (instruction.ConstantComposite type result parts) = true
operands_typed m (instruction.CompositeConstruct type result parts) = is_built m parts (shape_of (defined_as m type))
operands_typed m (instruction.Function type result control function_type) = true
operands_typed m (instruction.FunctionParameter type result) = true
operands_typed m instruction.FunctionEnd = true
operands_typed m (instruction.FunctionCall type result function arguments) = true
operands_typed m (instruction.Variable type result class initialiser) = true
operands_typed m (instruction.Load type result pointer) = true
operands_typed m (instruction.Store pointer value) = true
operands_typed m (instruction.AccessChain type result base indexes) = true
operands_typed m (instruction.ArrayLength type result pointer member) = true
operands_typed m (instruction.Decorate target decoration literals) = true
operands_typed m (instruction.MemberDecorate target member decoration literals) = true
operands_typed m (instruction.VectorExtractDynamic type result vector index) = is_picked m type vector && is_int_value m index
operands_typed m (instruction.VectorShuffle type result first second components) = is_shuffled m type components (type_of (defined_as m first)) (type_of (defined_as m second))
operands_typed m (instruction.CompositeExtract type result composite indexes) = is_part type (part_within m (type_of (defined_as m composite)) indexes)
operands_typed m (instruction.CompositeInsert type result part composite indexes) = has_type m type composite && is_type_of m part (part_within m (Some type) indexes)
operands_typed m (instruction.Unary op type result a) = is_unary m op type (type_of (defined_as m a))
operands_typed m (instruction.Arithmetic op type result a b) = is_ints m type && is_signed m (sign_of op) type && has_type m type a && has_type m type b
operands_typed m (instruction.Shift op type result base shift) = is_ints m type && has_type m type base && is_ints_sized m type (type_of (defined_as m shift))
operands_typed m (instruction.Logical op type result a b) = is_truth m type && has_type m type a && has_type m type b
operands_typed m (instruction.Comparison op type result a b) = is_truth m type && are_compared m (sign_of op) type b (type_of (defined_as m a))
operands_typed m (instruction.Select type result condition a b) = has_type m type a && has_type m type b && is_truth_sized m type (type_of (defined_as m condition))
operands_typed m (instruction.BitFieldInsert type result base insert offset count) = is_ints m type && has_type m type base && has_type m type insert && is_int_value m offset && is_int_value m count
operands_typed m (instruction.BitFieldExtract op type result base offset count) = is_ints m type && is_signed m (sign_of op) type && has_type m type base && is_int_value m offset && is_int_value m count
operands_typed m (instruction.LoopMerge merge continue_target control) = true
operands_typed m (instruction.SelectionMerge merge control) = true
operands_typed m (instruction.Label result) = true
operands_typed m (instruction.Branch target) = true
operands_typed m (instruction.BranchConditional condition on_true on_false) = is_bool_value m (type_of (defined_as m condition))
operands_typed m (instruction.Switch selector default targets) = is_int_value m selector
operands_typed m instruction.Kill = true
operands_typed m instruction.Return = true
operands_typed m (instruction.ReturnValue value) = true

-- whether V14 is kept by an instruction
abbrev pub typed : Module → Code → Instr → Bool
typed m before i = passes_if (operands_typed m) (read i)

-- the first instruction that breaks V14
abbrev pub operand_types : Module → Option ℕ
operand_types m = first_broken (typed m) m
