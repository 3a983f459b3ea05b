-- What other consumers of SPIR-V ask beyond the rules, which are wider in a few places. Each condition gives the place of the first instruction
-- that does not meet it, in a module that keeps the rules.
use Rattle.std.specs.Prelude.{◌≡◌, ℕ, ◌+◌, ◌-◌, ◌*◌, ◌/◌, ◌%◌, ◌^◌, ◌≤◌, Bool, true, false, not, ◌==◌, ◌&&◌, ◌||◌, nat_le, nat_lt, List, [], ◌∷◌, length, map, filter, Option, Some, None, is_some, if◌then◌else◌}
use Rattle.std.specs.List.{list_any, list_all}
use Rattle.std.specs.Option.{option_map_or}
use Rattle.gsl_words.specs.declared.module.Instr.{Instr}
use Rattle.gsl_words.specs.declared.module.Module.{Module}
use Rattle.gsl_instr.specs.declared.instruction.Instruction.{Instruction}
use Rattle.gsl_instr.specs.declared.instruction.Instruction.TheVariants as instruction
use Rattle.gsl_instr.specs.declared.enumerant.storage_class.TheConstants as storage_class
use Rattle.gsl_instr.specs.declared.enumerant.execution_model.TheConstants as execution_model
use Rattle.gsl_instr.specs.declared.enumerant.decoration.TheConstants as decoration
use Rattle.gsl_instr.specs.Instructions.{seconds}
use Rattle.gsl_blocks.specs.declared.block.Merge.{Merge}
use Rattle.gsl_blocks.specs.declared.block.Merge.TheVariants.{Nothing, Selection, Loop}
use Rattle.gsl_blocks.specs.declared.block.End.{End}
use Rattle.gsl_blocks.specs.declared.block.End.TheVariants as end
use Rattle.gsl_blocks.specs.declared.block.Role.{Role}
use Rattle.gsl_blocks.specs.declared.block.Role.TheVariants as role
use Rattle.gsl_blocks.specs.Blocks.{role_or}
use Rattle.gsl_blocks.specs.Targets.{all_differ}
use Rattle.gsl_valid.specs.Instruction.{read}
use Rattle.gsl_valid.specs.Kinds.{Shape, OfVoid, OfBool, OfInt, OfVector, OfArray, OfRuntimeArray, OfStruct, OfPointer, OfFunction, NoType, Variable, Place, On, OnMember, Decoration, shape_of, variable_is, decoration_of, type_of, value_of}
use Rattle.gsl_valid.specs.Placed.{Code}
use Rattle.gsl_valid.specs.Search.{first_broken, whole}
use Rattle.gsl_valid.specs.Ids.{defines, result}
use Rattle.gsl_valid.specs.Types.{defined_as, outside_of, has_in, highest, parts_of, variable_of, is_block_class, is_runtime, int_of}
use Rattle.gsl_valid.specs.Decorations.{has, number_on, number_on_member}
use Rattle.gsl_valid.specs.DecorationRules.{pointee, is_bound_class}
use Rattle.gsl_valid.specs.EntryRules.{model_of}
use Rattle.gsl_valid.specs.LayoutRules.{need, extent, reaches, is_storage}
use Rattle.gsl_valid.specs.Where.{where_at}

-- Switches (SPIR-V 1.0, 2.11 and 3.32.17) -------------------------------------------------------------------------

-- whether a merge names a label as its merge block or its continue target
abbrev pub names_label : ℕ → Merge → Bool
names_label label Nothing = false
names_label label (Selection merge) = merge == label
names_label label (Loop merge continue_target) = merge == label || continue_target == label

abbrev pub role_names : ℕ → Role → Bool
role_names label (role.Opens opened) = false
role_names label (role.Merges merge) = names_label label merge
role_names label (role.Ends e) = false
role_names label role.Closes = false
role_names label role.Inside = false

-- whether a construct of the module ends at a label, or a loop goes on there
abbrev pub is_exit : Module → ℕ → Bool
is_exit m label = list_any (λ i. role_names label (role_or (read i))) m.instrs

-- the labels of the targets, each once where it stands behind itself
abbrev pub unless_same : ℕ → List ℕ → List ℕ
unless_same label [] = label ∷ []
unless_same label (next ∷ labels) = if next == label then next ∷ labels else label ∷ next ∷ labels

abbrev pub grouped : List ℕ → List ℕ
grouped [] = []
grouped (label ∷ labels) = unless_same label (grouped labels)

-- whether nothing stands behind a label, wherever it stands
abbrev pub only_last : ℕ → List ℕ → Bool
only_last merge [] = true
only_last merge (label ∷ []) = true
only_last merge (label ∷ next ∷ labels) = not (label == merge) && only_last merge (next ∷ labels)

-- Whether the literals of each target stand together, those of the merge block behind all others.
abbrev pub are_grouped : ℕ → List ℕ → Bool
are_grouped merge labels = all_differ (grouped labels) && only_last merge (grouped labels)

-- the merge block of the construct that a switch begins, by the instruction before it
abbrev pub merge_by : Role → ℕ
merge_by (role.Opens opened) = 0
merge_by (role.Merges Nothing) = 0
merge_by (role.Merges (Selection merge)) = merge
merge_by (role.Merges (Loop merge continue_target)) = merge
merge_by (role.Ends e) = 0
merge_by role.Closes = 0
merge_by role.Inside = 0

abbrev pub merge_before : Code → ℕ
merge_before [] = 0
merge_before (i ∷ before) = merge_by (role_or (read i))

-- whether a target is the switch's own merge block, or no exit of a construct
abbrev pub is_inner : Module → ℕ → ℕ → Bool
is_inner m merge label = label == merge || not (is_exit m label)

abbrev pub may_switch : Module → ℕ → ℕ → List ℕ → Bool
may_switch m merge default labels = list_all (is_inner m merge) (default ∷ labels) && are_grouped merge labels

abbrev pub ends_well : Module → ℕ → End → Bool
ends_well m merge (end.Branch target) = true
ends_well m merge (end.Conditional on_true on_false) = true
ends_well m merge (end.Switch default targets) = may_switch m merge default (seconds targets)
ends_well m merge end.Leave = true

abbrev pub switches_well : Module → ℕ → Role → Bool
switches_well m merge (role.Opens opened) = true
switches_well m merge (role.Merges met) = true
switches_well m merge (role.Ends e) = ends_well m merge e
switches_well m merge role.Closes = true
switches_well m merge role.Inside = true

-- a switch that leaves a construct around it, or whose literals are apart
abbrev pub switches : Module → Option ℕ
switches m = first_broken (λ before i. switches_well m (merge_before before) (role_or (read i))) m

-- Blocks within blocks (SPIR-V 1.0, 2.16.2) ----------------------------------------------------------------------

-- whether a type has Block or BufferBlock
abbrev pub is_block : Module → ℕ → Bool
is_block m id = has m decoration.BLOCK id || has m decoration.BUFFER_BLOCK id

-- whether a type is a block, or has one in it
abbrev pub has_block : Module → Code → ℕ → Bool
has_block m before type = has_in (is_block m) before type

abbrev pub is_lone_block : Module → Code → ℕ → List ℕ → Bool
is_lone_block m before id members =
    not (has m decoration.BLOCK id && has m decoration.BUFFER_BLOCK id) && not (is_block m id && list_any (has_block m before) members)

abbrev pub block_alone : Module → Code → Shape → Bool
block_alone m before OfVoid = true
block_alone m before OfBool = true
block_alone m before (OfInt signedness) = true
block_alone m before (OfVector component count) = true
block_alone m before (OfArray element length) = true
block_alone m before (OfRuntimeArray element) = true
block_alone m before (OfStruct id members) = is_lone_block m before id members
block_alone m before (OfPointer class pointee) = true
block_alone m before (OfFunction returned parameters) = true
block_alone m before NoType = true

-- a block in a block, or one of both kinds
abbrev pub nested_blocks : Module → Option ℕ
nested_blocks m = first_broken (λ before i. block_alone m before (shape_of (read i))) m

-- Arrays (SPIR-V 1.0, 3.32.6) -------------------------------------------------------------------------------------

-- whether a value, if there is one, is at least 0 as an `int`
abbrev pub is_positive : Option ℕ → Bool
is_positive None = true
is_positive (Some value) = nat_lt value (2 ^ 31)

abbrev pub is_signed : Module → Option ℕ → Bool
is_signed m None = false
is_signed m (Some type) = int_of 1 (defined_as m type)

-- whether a constant is no negative `int`
abbrev pub is_natural : Module → ℕ → Bool
is_natural m id = not (is_signed m (type_of (defined_as m id))) || is_positive (value_of (defined_as m id))

abbrev pub has_length : Module → Shape → Bool
has_length m OfVoid = true
has_length m OfBool = true
has_length m (OfInt signedness) = true
has_length m (OfVector component count) = true
has_length m (OfArray element length) = is_natural m length
has_length m (OfRuntimeArray element) = true
has_length m (OfStruct id members) = true
has_length m (OfPointer class pointee) = true
has_length m (OfFunction returned parameters) = true
has_length m NoType = true

-- a length that is negative by its type
abbrev pub lengths : Module → Option ℕ
lengths m = first_broken (λ before i. has_length m (shape_of (read i))) m

-- whether arrays without length are the last of these members alone
abbrev pub grows_last : Module → List ℕ → Bool
grows_last m [] = true
grows_last m (type ∷ []) = true
grows_last m (type ∷ next ∷ types) = not (is_runtime m type) && grows_last m (next ∷ types)

abbrev pub may_have : Module → Shape → Bool
may_have m OfVoid = true
may_have m OfBool = true
may_have m (OfInt signedness) = true
may_have m (OfVector component count) = true
may_have m (OfArray element length) = not (is_runtime m element)
may_have m (OfRuntimeArray element) = not (is_runtime m element)
may_have m (OfStruct id members) = grows_last m members
may_have m (OfPointer class pointee) = not (is_runtime m pointee)
may_have m (OfFunction returned parameters) = true
may_have m NoType = true

-- an array without length that is not the last member of a struct
abbrev pub growing_parts : Module → Option ℕ
growing_parts m = first_broken (λ before i. may_have m (shape_of (read i))) m

-- Composites and names (SPIR-V 1.0, 3.32.12 and 3.32.2) ---------------------------------------------------------------

abbrev pub is_vector : Shape → Bool
is_vector OfVoid = false
is_vector OfBool = false
is_vector (OfInt signedness) = false
is_vector (OfVector component count) = true
is_vector (OfArray element length) = false
is_vector (OfRuntimeArray element) = false
is_vector (OfStruct id members) = false
is_vector (OfPointer class pointee) = false
is_vector (OfFunction returned parameters) = false
is_vector NoType = false

abbrev pub member_in : ℕ → Shape → Bool
member_in member OfVoid = false
member_in member OfBool = false
member_in member (OfInt signedness) = false
member_in member (OfVector component count) = false
member_in member (OfArray element length) = false
member_in member (OfRuntimeArray element) = false
member_in member (OfStruct id members) = nat_lt member (length members)
member_in member (OfPointer class pointee) = false
member_in member (OfFunction returned parameters) = false
member_in member NoType = false

-- whether a vector is made of two parts or more, and a name is that of a member
abbrev pub has_parts : Module → Instruction → Bool
has_parts m (instruction.Name target text) = true
has_parts m (instruction.MemberName target member text) = member_in member (shape_of (defined_as m target))
has_parts m (instruction.ExtInstImport result name) = true
has_parts m (instruction.ExtInst type result set number operands) = true
has_parts m (instruction.MemoryModel addressing memory) = true
has_parts m (instruction.EntryPoint model function name interface) = true
has_parts m (instruction.ExecutionMode function mode parts) = true
has_parts m (instruction.Capability capability) = true
has_parts m (instruction.TypeVoid result) = true
has_parts m (instruction.TypeBool result) = true
has_parts m (instruction.TypeInt result width signedness) = true
has_parts m (instruction.TypeVector result component count) = true
has_parts m (instruction.TypeArray result element length) = true
has_parts m (instruction.TypeRuntimeArray result element) = true
has_parts m (instruction.TypeStruct result members) = true
has_parts m (instruction.TypePointer result class pointee) = true
has_parts m (instruction.TypeFunction result returned parameters) = true
has_parts m (instruction.ConstantTrue type result) = true
has_parts m (instruction.ConstantFalse type result) = true
has_parts m (instruction.ConstantNull type result) = true
has_parts m (instruction.Constant type result value) = true
has_parts m (instruction.ConstantComposite type result parts) = true
has_parts m (instruction.CompositeConstruct type result parts) = not (is_vector (shape_of (defined_as m type))) || nat_le 2 (length parts)
has_parts m (instruction.Function type result control function_type) = true
has_parts m (instruction.FunctionParameter type result) = true
has_parts m instruction.FunctionEnd = true
has_parts m (instruction.FunctionCall type result function arguments) = true
has_parts m (instruction.Variable type result class initialiser) = true
has_parts m (instruction.Load type result pointer) = true
has_parts m (instruction.Store pointer value) = true
has_parts m (instruction.AccessChain type result base indexes) = true
has_parts m (instruction.ArrayLength type result pointer member) = true
has_parts m (instruction.Decorate target decoration literals) = true
has_parts m (instruction.MemberDecorate target member decoration literals) = true
has_parts m (instruction.VectorExtractDynamic type result vector index) = true
has_parts m (instruction.VectorShuffle type result first second components) = true
has_parts m (instruction.CompositeExtract type result composite indexes) = true
has_parts m (instruction.CompositeInsert type result part composite indexes) = true
has_parts m (instruction.Unary op type result a) = true
has_parts m (instruction.Arithmetic op type result a b) = true
has_parts m (instruction.Shift op type result base shift) = true
has_parts m (instruction.Logical op type result a b) = true
has_parts m (instruction.Comparison op type result a b) = true
has_parts m (instruction.Select type result condition a b) = true
has_parts m (instruction.BitFieldInsert type result base insert offset count) = true
has_parts m (instruction.BitFieldExtract op type result base offset count) = true
has_parts m (instruction.LoopMerge merge continue_target control) = true
has_parts m (instruction.SelectionMerge merge control) = true
has_parts m (instruction.Label result) = true
has_parts m (instruction.Branch target) = true
has_parts m (instruction.BranchConditional condition on_true on_false) = true
has_parts m (instruction.Switch selector default targets) = true
has_parts m instruction.Kill = true
has_parts m instruction.Return = true
has_parts m (instruction.ReturnValue value) = true

-- a vector that is made of one part, or a name of no member
abbrev pub parts : Module → Option ℕ
parts m = first_broken (λ before i. option_map_or (has_parts m) (read i) true) m

-- Decorations (SPIR-V 1.0, 3.20; Vulkan 1.0, 14.1 and 14.5) -----------------------------------------------------------

-- whether a variable of a class may have a decoration in a stage
abbrev pub may_have_mark : ℕ → ℕ → ℕ → Bool
may_have_mark model kind class =
    if kind == decoration.FLAT
    then model == execution_model.FRAGMENT && class == storage_class.INPUT || model == execution_model.VERTEX && class == storage_class.OUTPUT
    else if kind == decoration.LOCATION then class == storage_class.INPUT || class == storage_class.OUTPUT
    else if kind == decoration.BINDING || kind == decoration.DESCRIPTOR_SET then is_bound_class class
    else true

abbrev pub marked_variable : Module → ℕ → Option Variable → Bool
marked_variable m kind None = true
marked_variable m kind (Some v) = may_have_mark (model_of (whole m)) kind v.class

abbrev pub marked_place : Module → ℕ → Place → Bool
marked_place m kind (On target) = marked_variable m kind (variable_is (defined_as m target))
marked_place m kind (OnMember target member) = true

abbrev pub marked_by : Module → Decoration → Bool
marked_by m d = marked_place m d.kind d.place

-- a decoration of a variable that means nothing there
abbrev pub marks : Module → Option ℕ
marks m = first_broken (λ before i. option_map_or (marked_by m) (decoration_of (read i)) true) m

-- Layouts (Vulkan 1.0, 14.5.4; GLSL 4.50, 4.4.5) -----------------------------------------------------------------------

-- The alignment of arrays and structs in std140, where it is 16, and in std430, where it is that of their parts.
abbrev pub raised : Bool → ℕ → ℕ
raised std140 step = if std140 then 16 else step

abbrev pub alignment_as : Bool → (ℕ → ℕ) → Shape → ℕ
alignment_as std140 alignment_of OfVoid = 1
alignment_as std140 alignment_of OfBool = 4
alignment_as std140 alignment_of (OfInt signedness) = 4
alignment_as std140 alignment_of (OfVector component count) = if count == 2 then 8 else 16
alignment_as std140 alignment_of (OfArray element length) = raised std140 (alignment_of element)
alignment_as std140 alignment_of (OfRuntimeArray element) = raised std140 (alignment_of element)
alignment_as std140 alignment_of (OfStruct id members) = raised std140 (highest (map alignment_of members))
alignment_as std140 alignment_of (OfPointer class pointee) = 1
alignment_as std140 alignment_of (OfFunction returned parameters) = 1
alignment_as std140 alignment_of NoType = 1

-- the alignment of a type, of which the definition is among these instructions, the last first
abbrev pub alignment : Bool → Code → ℕ → ℕ
alignment std140 [] id = 1
alignment std140 (i ∷ before) id =
    if defines i id then alignment_as std140 (alignment std140 before) (shape_of (read i)) else alignment std140 before id

-- the least multiple of an alignment that is not below a number
abbrev pub rounded : ℕ → ℕ → ℕ
rounded n step = (n + (step - 1)) / step * step

abbrev pub is_padded : Shape → Bool
is_padded OfVoid = false
is_padded OfBool = false
is_padded (OfInt signedness) = false
is_padded (OfVector component count) = false
is_padded (OfArray element length) = true
is_padded (OfRuntimeArray element) = false
is_padded (OfStruct id members) = true
is_padded (OfPointer class pointee) = false
is_padded (OfFunction returned parameters) = false
is_padded NoType = false

-- where the next member may stand: behind an array or a struct at a multiple of its alignment
abbrev pub next_end : Bool → Module → Code → ℕ → ℕ → ℕ
next_end std140 m before offset type =
    if is_padded (shape_of (defined_as m type))
    then rounded (offset + extent m before type) (alignment std140 before type)
    else offset + need m before type

abbrev pub is_aligned : Option ℕ → ℕ → ℕ → Bool
is_aligned None end step = false
is_aligned (Some offset) end step = nat_le end offset && (offset % step) == 0

abbrev pub end_behind : Bool → Module → Code → Option ℕ → ℕ → ℕ
end_behind std140 m before None type = 0
end_behind std140 m before (Some offset) type = next_end std140 m before offset type

-- whether these members of a struct, numbered from one on, stand at their alignments behind an end
abbrev pub members_aligned : Bool → Module → Code → ℕ → ℕ → ℕ → List ℕ → Bool
members_aligned std140 m before struct member end [] = true
members_aligned std140 m before struct member end (type ∷ types) =
    let offset = number_on_member m decoration.OFFSET struct member in
    is_aligned offset end (alignment std140 before type)
    && members_aligned std140 m before struct (member + 1) (end_behind std140 m before offset type) types

-- whether the elements of an array stand at its alignment, each behind the whole of the one before it
abbrev pub is_stride_of : Bool → Module → Code → ℕ → Option ℕ → Bool
is_stride_of std140 m before element None = false
is_stride_of std140 m before element (Some stride) =
    nat_le (extent m before element) stride && (stride % raised std140 (alignment std140 before element)) == 0

-- whether a type that stands in a block is laid by the rule
abbrev pub laid_by : Bool → Module → Code → ℕ → Shape → Bool
laid_by std140 m before type OfVoid = true
laid_by std140 m before type OfBool = true
laid_by std140 m before type (OfInt signedness) = true
laid_by std140 m before type (OfVector component count) = true
laid_by std140 m before type (OfArray element length) = is_stride_of std140 m before element (number_on m decoration.ARRAY_STRIDE type)
laid_by std140 m before type (OfRuntimeArray element) = is_stride_of std140 m before element (number_on m decoration.ARRAY_STRIDE type)
laid_by std140 m before type (OfStruct id members) = members_aligned std140 m before id 0 0 members
laid_by std140 m before type (OfPointer class pointee) = true
laid_by std140 m before type (OfFunction returned parameters) = true
laid_by std140 m before type NoType = true

-- Whether a type is laid as a variable asks that reaches it: by std140 in a uniform block, by std430 in a storage or push constant block.
abbrev pub laid_for : Module → Code → ℕ → Shape → Option Variable → Bool
laid_for m before id shape None = true
laid_for m before id shape (Some v) =
    not (is_block_class v.class && reaches m (pointee m v.type) id)
    || laid_by (v.class == storage_class.UNIFORM && not (is_storage m v)) m before id shape

abbrev pub laid_for_all : Module → Code → Option ℕ → Shape → Bool
laid_for_all m before None shape = true
laid_for_all m before (Some id) shape = list_all (λ i. laid_for m before id shape (variable_is (read i))) (outside_of m)

-- an offset or a stride by neither layout
abbrev pub offsets : Module → Option ℕ
offsets m = first_broken (λ before i. laid_for_all m before (result (read i)) (shape_of (read i))) m

-- Counts (SPIR-V 1.0, 2.17) ------------------------------------------------------------------------------------------

abbrev pub most_globals : ℕ
most_globals = 65535

abbrev pub most_locals : ℕ
most_locals = 524287

-- the variables among some instructions
abbrev pub variables_in : Code → Code
variables_in code = filter (λ i. is_some (variable_is (read i))) code

-- more variables outside functions, or in one function, than a module may have
abbrev pub many_variables : Module → Option ℕ
many_variables m = first_broken (λ before i. nat_le (length (variables_in (i ∷ (where_at m before).body))) most_locals) m

-- The whole ------------------------------------------------------------------------------------------------------------

-- A module that other consumers take too. The two limits on counts of variables are apart: a program within the language's limits may pass them.
pub record Portable (m : Module) : Type 0 where
  pub switched : switches m ≡ None
  pub apart : nested_blocks m ≡ None
  pub natural : lengths m ≡ None
  pub growing : growing_parts m ≡ None
  pub parted : parts m ≡ None
  pub marked : marks m ≡ None
  pub laid : offsets m ≡ None

pub record HasFewVariables (m : Module) : Type 0 where
  pub globals : length (variables_in (outside_of m)) ≤ most_globals
  pub locals : many_variables m ≡ None
