-- V15: pointers into variables, and what is loaded and stored through them.
use Rattle.std.specs.Prelude.{ℕ, ◌+◌, Bool, true, false, ◌==◌, ◌&&◌, ◌||◌, not, nat_lt, List, [], ◌∷◌, length, slice_index, Option, Some, None, if◌then◌else◌}
use Rattle.std.specs.List.{list_any}
use Rattle.gsl_words.specs.declared.module.Instr.{Instr}
use Rattle.gsl_words.specs.declared.module.Module.{Module}
use Rattle.gsl_instr.specs.declared.instruction.Instruction.{Instruction}
use Rattle.gsl_instr.specs.declared.instruction.Instruction.TheVariants as instruction
use Rattle.gsl_instr.specs.declared.enumerant.storage_class.TheConstants as storage_class
use Rattle.gsl_instr.specs.declared.enumerant.decoration.TheConstants as decoration
use Rattle.gsl_valid.specs.Instruction.{read, passes_if}
use Rattle.gsl_valid.specs.Kinds.{Kind, Asks, Imports, Sets, Enters, Modes, Debugs, Decorates, Declares, Fixes, Holds, Begins, Takes, Calls, Gives, Does, Opens, Merges, Leaves, Ended, Absent, Shape, OfVoid, OfBool, OfInt, OfVector, OfArray, OfRuntimeArray, OfStruct, OfPointer, OfFunction, NoType, Variable, kind, shape_of, variable_is, value_of}
use Rattle.gsl_valid.specs.Placed.{Code}
use Rattle.gsl_valid.specs.Search.{first_broken}
use Rattle.gsl_valid.specs.Types.{Target, target_of, int_of, defined_as, is_ints, is_int_value, has_type, is_block_class}
use Rattle.gsl_valid.specs.ConstantRules.{has_runtime}
use Rattle.gsl_valid.specs.Decorations.{member_has}
use Rattle.gsl_valid.specs.LayoutRules.{is_storage}
use Rattle.gsl_valid.specs.CallRules.{target}

-- Chains --------------------------------------------------------------------------------------------------------

-- the type of the member of a number
abbrev pub member_at : List ℕ → Option ℕ → Option ℕ
member_at members None = None
member_at members (Some k) = if nat_lt k (length members) then Some (slice_index members k) else None

-- a type, where an index is an Int
abbrev pub if_indexed : Bool → ℕ → Option ℕ
if_indexed indexed type = if indexed then Some type else None

-- the type of the part of a type that an index names: a member of a struct by a constant, others by an Int
abbrev pub part_by : Bool → Option ℕ → Shape → Option ℕ
part_by indexed value OfVoid = None
part_by indexed value OfBool = None
part_by indexed value (OfInt signedness) = None
part_by indexed value (OfVector component count) = if_indexed indexed component
part_by indexed value (OfArray element length) = if_indexed indexed element
part_by indexed value (OfRuntimeArray element) = if_indexed indexed element
part_by indexed value (OfStruct id members) = member_at members value
part_by indexed value (OfPointer class pointee) = None
part_by indexed value (OfFunction returned parameters) = None
part_by indexed value NoType = None

-- the type of the part of a type at an index
abbrev pub part_of : Module → ℕ → ℕ → Option ℕ
part_of m type index = part_by (is_int_value m index) (value_of (defined_as m index)) (shape_of (defined_as m type))

-- the type that indexes lead to from a type
abbrev pub part_at : Module → Option ℕ → List ℕ → Option ℕ
part_at m None indexes = None
part_at m (Some type) [] = Some type
part_at m (Some type) (index ∷ indexes) = part_at m (part_of m type index) indexes

-- whether there is a part, and it is of this type
abbrev pub is_part : ℕ → Option ℕ → Bool
is_part type None = false
is_part type (Some part) = part == type

-- whether indexes lead from what a base points to, to what a pointer of the same class points to
abbrev pub leads_to : Module → Option Target → List ℕ → Option Target → Bool
leads_to m None indexes target = false
leads_to m (Some base) indexes None = false
leads_to m (Some base) indexes (Some target) = base.class == target.class && is_part target.pointee (part_at m (Some base.pointee) indexes)

-- whether a chain may begin at what an instruction defines: a variable or a parameter
abbrev pub is_base : Kind → Bool
is_base Asks = false
is_base Imports = false
is_base Sets = false
is_base (Enters model function name interface) = false
is_base (Modes function mode parts) = false
is_base Debugs = false
is_base (Decorates d) = false
is_base (Declares shape) = false
is_base (Fixes type value) = false
is_base (Holds v) = true
is_base (Begins type id function_type) = false
is_base (Takes type) = true
is_base (Calls type function arguments) = false
is_base (Gives type) = false
is_base Does = false
is_base Opens = false
is_base Merges = false
is_base Leaves = false
is_base Ended = false
is_base Absent = false

-- Members on the way --------------------------------------------------------------------------------------------

abbrev pub is_marked : Module → ℕ → ℕ → Option ℕ → Bool
is_marked m kind struct None = false
is_marked m kind struct (Some k) = member_has m kind struct k

-- the struct that a type is, with the member that an index names
abbrev pub marks : Module → ℕ → Option ℕ → Shape → Bool
marks m decoration_kind value OfVoid = false
marks m decoration_kind value OfBool = false
marks m decoration_kind value (OfInt signedness) = false
marks m decoration_kind value (OfVector component count) = false
marks m decoration_kind value (OfArray element length) = false
marks m decoration_kind value (OfRuntimeArray element) = false
marks m decoration_kind value (OfStruct id members) = is_marked m decoration_kind id value
marks m decoration_kind value (OfPointer class pointee) = false
marks m decoration_kind value (OfFunction returned parameters) = false
marks m decoration_kind value NoType = false

-- whether a member on the way from a type along indexes has a decoration
abbrev pub passes_one : Module → ℕ → Option ℕ → List ℕ → Bool
passes_one m kind None indexes = false
passes_one m kind (Some type) [] = false
passes_one m kind (Some type) (index ∷ indexes) =
    marks m kind (value_of (defined_as m index)) (shape_of (defined_as m type)) || passes_one m kind (part_of m type index) indexes

-- the type that is pointed to
abbrev pub target_type : Option Target → Option ℕ
target_type None = None
target_type (Some target) = Some target.pointee

-- the base and the indexes of a chain
abbrev pub chain_in : Instruction → Option (ℕ × List ℕ)
chain_in (instruction.Name target text) = None
chain_in (instruction.MemberName target member text) = None
chain_in (instruction.ExtInstImport result name) = None
chain_in (instruction.ExtInst type result set number operands) = None
chain_in (instruction.MemoryModel addressing memory) = None
chain_in (instruction.EntryPoint model function name interface) = None
chain_in (instruction.ExecutionMode function mode parts) = None
chain_in (instruction.Capability capability) = None
chain_in (instruction.TypeVoid result) = None
chain_in (instruction.TypeBool result) = None
chain_in (instruction.TypeInt result width signedness) = None
chain_in (instruction.TypeVector result component count) = None
chain_in (instruction.TypeArray result element length) = None
chain_in (instruction.TypeRuntimeArray result element) = None
chain_in (instruction.TypeStruct result members) = None
chain_in (instruction.TypePointer result class pointee) = None
chain_in (instruction.TypeFunction result returned parameters) = None
chain_in (instruction.ConstantTrue type result) = None
chain_in (instruction.ConstantFalse type result) = None
chain_in (instruction.ConstantNull type result) = None
chain_in (instruction.Constant type result value) = None
chain_in (instruction.ConstantComposite type result parts) = None
chain_in (instruction.CompositeConstruct type result parts) = None
chain_in (instruction.Function type result control function_type) = None
chain_in (instruction.FunctionParameter type result) = None
chain_in instruction.FunctionEnd = None
chain_in (instruction.FunctionCall type result function arguments) = None
chain_in (instruction.Variable type result class initialiser) = None
chain_in (instruction.Load type result pointer) = None
chain_in (instruction.Store pointer value) = None
chain_in (instruction.AccessChain type result base indexes) = Some (base, indexes)
chain_in (instruction.ArrayLength type result pointer member) = None
chain_in (instruction.Decorate target decoration literals) = None
chain_in (instruction.MemberDecorate target member decoration literals) = None
chain_in (instruction.VectorExtractDynamic type result vector index) = None
chain_in (instruction.VectorShuffle type result first second components) = None
chain_in (instruction.CompositeExtract type result composite indexes) = None
chain_in (instruction.CompositeInsert type result part composite indexes) = None
chain_in (instruction.Unary op type result a) = None
chain_in (instruction.Arithmetic op type result a b) = None
chain_in (instruction.Shift op type result base shift) = None
chain_in (instruction.Logical op type result a b) = None
chain_in (instruction.Comparison op type result a b) = None
chain_in (instruction.Select type result condition a b) = None
chain_in (instruction.BitFieldInsert type result base insert offset count) = None
chain_in (instruction.BitFieldExtract op type result base offset count) = None
chain_in (instruction.LoopMerge merge continue_target control) = None
chain_in (instruction.SelectionMerge merge control) = None
chain_in (instruction.Label result) = None
chain_in (instruction.Branch target) = None
chain_in (instruction.BranchConditional condition on_true on_false) = None
chain_in (instruction.Switch selector default targets) = None
chain_in instruction.Kill = None
chain_in instruction.Return = None
chain_in (instruction.ReturnValue value) = None

-- whether a pointer, if it is a chain, leads through a member that has a decoration
abbrev pub leads_along : Module → ℕ → Option (ℕ × List ℕ) → Bool
leads_along m kind None = false
leads_along m kind (Some chain) = passes_one m kind (target_type (target m chain.0)) chain.1

-- the chain that stands for an id, if there is one
abbrev pub chain_of : Option Instruction → Option (ℕ × List ℕ)
chain_of None = None
chain_of (Some i) = chain_in i

abbrev pub leads_through : Module → ℕ → Option Instruction → Bool
leads_through m kind d = leads_along m kind (chain_of d)

-- whether a variable, if there is one, is that of a storage block
abbrev pub stores : Module → Option Variable → Bool
stores m None = false
stores m (Some v) = is_storage m v

-- whether a pointer, if it is a chain, leads into a storage block
abbrev pub is_stored : Module → Option (ℕ × List ℕ) → Bool
is_stored m None = false
is_stored m (Some chain) = stores m (variable_is (defined_as m chain.0))

abbrev pub is_in_buffer : Module → Option Instruction → Bool
is_in_buffer m d = is_stored m (chain_of d)

-- Loads and stores ------------------------------------------------------------------------------------------------

-- whether what is pointed to may be read or written: no array without length, and through a block's pointer an Int or a
-- vector of Int
abbrev pub is_moved : Module → Target → Bool
is_moved m target = if is_block_class target.class then is_ints m target.pointee else not (has_runtime m target.pointee)

-- whether a value of a type may be loaded through a pointer
abbrev pub may_load : Module → ℕ → ℕ → Option Target → Bool
may_load m type pointer None = false
may_load m type pointer (Some target) =
    target.pointee == type && is_moved m target && not (leads_through m decoration.NON_READABLE (defined_as m pointer))

-- whether a pointer of a class may be stored through
abbrev pub is_writable : Module → ℕ → Option Instruction → Bool
is_writable m class pointer =
    if class == storage_class.UNIFORM || class == storage_class.STORAGE_BUFFER
    then is_in_buffer m pointer && not (leads_through m decoration.NON_WRITABLE pointer)
    else list_any (λ c. c == class) (storage_class.OUTPUT ∷ storage_class.PRIVATE ∷ storage_class.FUNCTION ∷ [])

-- whether a value may be stored through a pointer
abbrev pub may_store : Module → ℕ → ℕ → Option Target → Bool
may_store m pointer value None = false
may_store m pointer value (Some target) =
    has_type m target.pointee value && is_moved m target && is_writable m target.class (defined_as m pointer)

abbrev pub is_runtime_at : Shape → Bool
is_runtime_at OfVoid = false
is_runtime_at OfBool = false
is_runtime_at (OfInt signedness) = false
is_runtime_at (OfVector component count) = false
is_runtime_at (OfArray element length) = false
is_runtime_at (OfRuntimeArray element) = true
is_runtime_at (OfStruct id members) = false
is_runtime_at (OfPointer class pointee) = false
is_runtime_at (OfFunction returned parameters) = false
is_runtime_at NoType = false

-- whether the last of these members of a struct is an array without length, and has this number
abbrev pub is_last_runtime : Module → ℕ → List ℕ → Bool
is_last_runtime m member members = length members == member + 1 && is_runtime_at (shape_of (defined_as m (slice_index members member)))

-- whether a struct's last member is one
abbrev pub grows_at : Module → ℕ → Shape → Bool
grows_at m member OfVoid = false
grows_at m member OfBool = false
grows_at m member (OfInt signedness) = false
grows_at m member (OfVector component count) = false
grows_at m member (OfArray element length) = false
grows_at m member (OfRuntimeArray element) = false
grows_at m member (OfStruct id members) = is_last_runtime m member members
grows_at m member (OfPointer class pointee) = false
grows_at m member (OfFunction returned parameters) = false
grows_at m member NoType = false

-- whether the struct that is pointed to grows at a member
abbrev pub grows : Module → ℕ → Option Target → Bool
grows m member None = false
grows m member (Some target) = grows_at m member (shape_of (defined_as m target.pointee))

-- whether a type is that of the length of a member of a storage block
abbrev pub is_length_of : Module → ℕ → ℕ → ℕ → Bool
is_length_of m type pointer member =
    int_of 0 (defined_as m type) && stores m (variable_is (defined_as m pointer)) && grows m member (target m pointer)

-- The rule ------------------------------------------------------------------------------------------------------

-- whether a chain, a load, a store or a length is one that may be
abbrev pub memory_of : Module → Instruction → Bool
memory_of m (instruction.Name target text) = true
memory_of m (instruction.MemberName target member text) = true
memory_of m (instruction.ExtInstImport result name) = true
memory_of m (instruction.ExtInst type result set number operands) = true
memory_of m (instruction.MemoryModel addressing memory) = true
memory_of m (instruction.EntryPoint model function name interface) = true
memory_of m (instruction.ExecutionMode function mode parts) = true
memory_of m (instruction.Capability capability) = true
memory_of m (instruction.TypeVoid result) = true
memory_of m (instruction.TypeBool result) = true
memory_of m (instruction.TypeInt result width signedness) = true
memory_of m (instruction.TypeVector result component count) = true
memory_of m (instruction.TypeArray result element length) = true
memory_of m (instruction.TypeRuntimeArray result element) = true
memory_of m (instruction.TypeStruct result members) = true
memory_of m (instruction.TypePointer result class pointee) = true
memory_of m (instruction.TypeFunction result returned parameters) = true
memory_of m (instruction.ConstantTrue type result) = true
memory_of m (instruction.ConstantFalse type result) = true
memory_of m (instruction.ConstantNull type result) = true
memory_of m (instruction.Constant type result value) = true
memory_of m (instruction.ConstantComposite type result parts) = true
memory_of m (instruction.CompositeConstruct type result parts) = true
memory_of m (instruction.Function type result control function_type) = true
memory_of m (instruction.FunctionParameter type result) = true
memory_of m instruction.FunctionEnd = true
memory_of m (instruction.FunctionCall type result function arguments) = true
memory_of m (instruction.Variable type result class initialiser) = true
memory_of m (instruction.Load type result pointer) = may_load m type pointer (target m pointer)
memory_of m (instruction.Store pointer value) = may_store m pointer value (target m pointer)
memory_of m (instruction.AccessChain type result base indexes) = is_base (kind (defined_as m base)) && leads_to m (target m base) indexes (target_of (defined_as m type))
memory_of m (instruction.ArrayLength type result pointer member) = is_length_of m type pointer member
memory_of m (instruction.Decorate target decoration literals) = true
memory_of m (instruction.MemberDecorate target member decoration literals) = true
memory_of m (instruction.VectorExtractDynamic type result vector index) = true
memory_of m (instruction.VectorShuffle type result first second components) = true
memory_of m (instruction.CompositeExtract type result composite indexes) = true
memory_of m (instruction.CompositeInsert type result part composite indexes) = true
memory_of m (instruction.Unary op type result a) = true
memory_of m (instruction.Arithmetic op type result a b) = true
memory_of m (instruction.Shift op type result base shift) = true
memory_of m (instruction.Logical op type result a b) = true
memory_of m (instruction.Comparison op type result a b) = true
memory_of m (instruction.Select type result condition a b) = true
memory_of m (instruction.BitFieldInsert type result base insert offset count) = true
memory_of m (instruction.BitFieldExtract op type result base offset count) = true
memory_of m (instruction.LoopMerge merge continue_target control) = true
memory_of m (instruction.SelectionMerge merge control) = true
memory_of m (instruction.Label result) = true
memory_of m (instruction.Branch target) = true
memory_of m (instruction.BranchConditional condition on_true on_false) = true
memory_of m (instruction.Switch selector default targets) = true
memory_of m instruction.Kill = true
memory_of m instruction.Return = true
memory_of m (instruction.ReturnValue value) = true

-- whether V15 is kept by an instruction
abbrev pub memory_kept : Module → Code → Instr → Bool
memory_kept m before i = passes_if (memory_of m) (read i)

-- the first instruction that breaks V15
abbrev pub memory : Module → Option ℕ
memory m = first_broken (memory_kept m) m
