-- V1: the header's bound, the order of the sections (SPIR-V 1.0, 2.4), and the numbers that operands may be.
use Rattle.std.specs.Str.{bytes_eq}
use Rattle.gsl_words.specs.declared.target.TheConstants.{VERSION_1_3}
use Rattle.gsl_instr.specs.Strings.{string_words}
use Rattle.std.specs.Prelude.{codes, ℕ, ◌+◌, Bool, true, ◌==◌, ◌&&◌, ◌||◌, not, nat_le, List, [], ◌∷◌, length, Option, if◌then◌else◌}
use Rattle.std.specs.List.{list_any, list_all}
use Rattle.gsl_words.specs.declared.module.Instr.{Instr}
use Rattle.gsl_words.specs.declared.module.Module.{Module}
use Rattle.gsl_instr.specs.declared.enumerant.capability.TheConstants as shader
use Rattle.gsl_instr.specs.declared.enumerant.memory_model.TheConstants as memory_model
use Rattle.gsl_instr.specs.declared.enumerant.execution_model.TheConstants as execution_model
use Rattle.gsl_instr.specs.declared.enumerant.execution_mode.TheConstants as execution_mode
use Rattle.gsl_instr.specs.declared.enumerant.storage_class.TheConstants as storage_class
use Rattle.gsl_instr.specs.declared.enumerant.decoration.TheConstants as kinds
use Rattle.gsl_instr.specs.declared.enumerant.built_in.TheConstants as built_in
use Rattle.gsl_instr.specs.declared.instruction.Instruction.{Instruction}
use Rattle.gsl_instr.specs.declared.instruction.Instruction.TheVariants as instruction
use Rattle.gsl_valid.specs.Instruction.{read, is_such}
use Rattle.gsl_valid.specs.Placed.{Code, count_of_words, bound_place}
use Rattle.gsl_valid.specs.Where.{where_at, section_of, capabilities, memory_models, entry_points, modes}
use Rattle.gsl_valid.specs.Search.{first_broken, whole, unless, ◌otherwise◌}

-- the most that a bound can be
abbrev pub most_bound : ℕ
most_bound = 4194303

-- whether an instruction of a section may come where one is reached. The first four have one instruction each, of
-- which the import may be left out; each of the others has any number.
abbrev pub may_come : ℕ → ℕ → Bool
may_come reached section =
    if nat_le entry_points reached
    then nat_le modes section && nat_le reached section
    else (section == reached + 1 || section == memory_models && reached == capabilities)

-- whether a number is a storage class of a version
abbrev pub is_class : ℕ → ℕ → Bool
is_class version class =
    list_any (λ c. c == class)
    (storage_class.INPUT ∷ storage_class.UNIFORM ∷ storage_class.OUTPUT ∷ storage_class.PRIVATE ∷ storage_class.FUNCTION ∷ storage_class.PUSH_CONSTANT ∷ [])
    || class == storage_class.STORAGE_BUFFER && version == VERSION_1_3

-- whether a number is a stage
abbrev pub is_model : ℕ → Bool
is_model model = list_any (λ other. other == model) (execution_model.VERTEX ∷ execution_model.FRAGMENT ∷ execution_model.GL_COMPUTE ∷ [])

-- whether a number is that of a built-in variable
abbrev pub is_built_in : ℕ → Bool
is_built_in n =
    list_any (λ b. b == n)
    (built_in.NUM_WORKGROUPS ∷ built_in.WORKGROUP_ID ∷ built_in.LOCAL_INVOCATION_ID ∷ built_in.GLOBAL_INVOCATION_ID ∷ built_in.LOCAL_INVOCATION_INDEX ∷ built_in.VERTEX_INDEX ∷ built_in.INSTANCE_INDEX ∷ [])

-- six words for LocalSize, three for OriginUpperLeft
abbrev pub is_mode : ℕ → List ℕ → Bool
is_mode mode parts = mode == execution_mode.LOCAL_SIZE && length parts == 3 || mode == execution_mode.ORIGIN_UPPER_LEFT && length parts == 0

-- whether the literals of a BuiltIn are numbers of built-in variables
abbrev pub has_built_in : ℕ → List ℕ → Bool
has_built_in kind literals = not (kind == kinds.BUILT_IN) || list_all is_built_in literals

-- the name of the set of extended instructions
abbrev pub extended_words : List ℕ
extended_words = string_words (codes "GLSL.std.450")

-- whether the operands that are numbers are those that they may be
abbrev pub has_numbers : Module → Instruction → Bool
has_numbers m (instruction.Name target text) = true
has_numbers m (instruction.MemberName target member text) = true
has_numbers m (instruction.ExtInstImport result name) = bytes_eq name extended_words
has_numbers m (instruction.ExtInst type result set number operands) = true
has_numbers m (instruction.MemoryModel addressing memory) = addressing == memory_model.LOGICAL && memory == memory_model.GLSL450
has_numbers m (instruction.EntryPoint model function name interface) = is_model model
has_numbers m (instruction.ExecutionMode function mode parts) = is_mode mode parts
has_numbers m (instruction.Capability capability) = capability == shader.SHADER
has_numbers m (instruction.TypeVoid result) = true
has_numbers m (instruction.TypeBool result) = true
has_numbers m (instruction.TypeInt result width signedness) = width == 32
has_numbers m (instruction.TypeVector result component count) = true
has_numbers m (instruction.TypeArray result element length) = true
has_numbers m (instruction.TypeRuntimeArray result element) = true
has_numbers m (instruction.TypeStruct result members) = true
has_numbers m (instruction.TypePointer result class pointee) = is_class m.version class
has_numbers m (instruction.TypeFunction result returned parameters) = true
has_numbers m (instruction.ConstantTrue type result) = true
has_numbers m (instruction.ConstantFalse type result) = true
has_numbers m (instruction.ConstantNull type result) = true
has_numbers m (instruction.Constant type result value) = true
has_numbers m (instruction.ConstantComposite type result parts) = true
has_numbers m (instruction.CompositeConstruct type result parts) = true
has_numbers m (instruction.Function type result control function_type) = control == 0
has_numbers m (instruction.FunctionParameter type result) = true
has_numbers m instruction.FunctionEnd = true
has_numbers m (instruction.FunctionCall type result function arguments) = true
has_numbers m (instruction.Variable type result class initialiser) = is_class m.version class
has_numbers m (instruction.Load type result pointer) = true
has_numbers m (instruction.Store pointer value) = true
has_numbers m (instruction.AccessChain type result base indexes) = true
has_numbers m (instruction.ArrayLength type result pointer member) = true
has_numbers m (instruction.Decorate target decoration literals) = has_built_in decoration literals
has_numbers m (instruction.MemberDecorate target member decoration literals) = has_built_in decoration literals
has_numbers m (instruction.VectorExtractDynamic type result vector index) = true
has_numbers m (instruction.VectorShuffle type result first second components) = true
has_numbers m (instruction.CompositeExtract type result composite indexes) = true
has_numbers m (instruction.CompositeInsert type result part composite indexes) = true
has_numbers m (instruction.Unary op type result a) = true
has_numbers m (instruction.Arithmetic op type result a b) = true
has_numbers m (instruction.Shift op type result base shift) = true
has_numbers m (instruction.Logical op type result a b) = true
has_numbers m (instruction.Comparison op type result a b) = true
has_numbers m (instruction.Select type result condition a b) = true
has_numbers m (instruction.BitFieldInsert type result base insert offset count) = true
has_numbers m (instruction.BitFieldExtract op type result base offset count) = true
has_numbers m (instruction.LoopMerge merge continue_target control) = control == 0
has_numbers m (instruction.SelectionMerge merge control) = control == 0
has_numbers m (instruction.Label result) = true
has_numbers m (instruction.Branch target) = true
has_numbers m (instruction.BranchConditional condition on_true on_false) = true
has_numbers m (instruction.Switch selector default targets) = true
has_numbers m instruction.Kill = true
has_numbers m instruction.Return = true
has_numbers m (instruction.ReturnValue value) = true

-- whether an instruction stands in its section, with numbers that it may have
abbrev pub in_section : Module → Code → Instr → Bool
in_section m before i = may_come (where_at m before).section (section_of (where_at m before).inside (read i)) && is_such (has_numbers m) (read i)

-- whether the sections that must stand are there
abbrev pub is_complete : Module → Bool
is_complete m = nat_le entry_points (where_at m (whole m)).section

-- whether the header's bound is one that it may be
abbrev pub has_bound : Module → Bool
has_bound m = nat_le 1 m.bound && nat_le m.bound most_bound

-- the header, the first instruction or the end that breaks V1
abbrev pub sections : Module → Option ℕ
sections m = unless (has_bound m) bound_place otherwise first_broken (in_section m) m otherwise unless (is_complete m) (count_of_words m)
