-- V18: how many members, parameters and indexes there are, how high types are, and how deeply constructs nest.
use Rattle.std.specs.Prelude.{List, ℕ, ◌+◌, [], ◌∷◌, Bool, true, ◌&&◌, nat_le, length, map, Option, Some, None}
use Rattle.gsl_instr.specs.Instructions.{seconds}
use Rattle.gsl_words.specs.declared.module.Instr.{Instr}
use Rattle.gsl_words.specs.declared.module.Module.{Module}
use Rattle.gsl_instr.specs.declared.instruction.Instruction.{Instruction}
use Rattle.gsl_instr.specs.declared.instruction.Instruction.TheVariants as instruction
use Rattle.gsl_valid.specs.Instruction.{read, passes_if}
use Rattle.gsl_valid.specs.Placed.{Code}
use Rattle.gsl_valid.specs.Search.{first_broken}
use Rattle.gsl_valid.specs.StructureRules.{nesting}
use Rattle.gsl_valid.specs.Types.{height, highest}

-- the most members of a struct
abbrev pub most_members : ℕ
most_members = 16383

-- the most parameters of a function
abbrev pub most_parameters : ℕ
most_parameters = 255

-- the most pairs of a Switch
abbrev pub most_pairs : ℕ
most_pairs = 16383

-- the most indexes of a chain, or of a part of a composite
abbrev pub most_indexes : ℕ
most_indexes = 255

-- the height of the highest type
abbrev pub most_height : ℕ
most_height = 65

-- the most constructs within each other
abbrev pub most_constructs : ℕ
most_constructs = 1023

-- whether no more constructs stand within each other; where blocks are not structured, there is nothing to count
abbrev pub nests_within : Option ℕ → Bool
nests_within None = true
nests_within (Some depth) = nat_le depth most_constructs

-- whether a type of these parts is no higher than the highest
abbrev pub is_low : Code → List ℕ → Bool
is_low before parts = nat_le (1 + highest (map (height before) parts)) most_height

-- whether what an instruction declares or begins is within the limits
abbrev pub is_within : Module → Code → Instruction → Bool
is_within m before (instruction.Name target text) = true
is_within m before (instruction.MemberName target member text) = true
is_within m before (instruction.ExtInstImport result name) = true
is_within m before (instruction.ExtInst type result set number operands) = true
is_within m before (instruction.MemoryModel addressing memory) = true
is_within m before (instruction.EntryPoint model function name interface) = true
is_within m before (instruction.ExecutionMode function mode parts) = true
is_within m before (instruction.Capability capability) = true
is_within m before (instruction.TypeVoid result) = true
is_within m before (instruction.TypeBool result) = true
is_within m before (instruction.TypeInt result width signedness) = true
is_within m before (instruction.TypeVector result component count) = true
is_within m before (instruction.TypeArray result element count) = is_low before (element ∷ [])
is_within m before (instruction.TypeRuntimeArray result element) = is_low before (element ∷ [])
is_within m before (instruction.TypeStruct result members) = nat_le (length members) most_members && is_low before members
is_within m before (instruction.TypePointer result class pointee) = true
is_within m before (instruction.TypeFunction result returned parameters) = nat_le (length parameters) most_parameters
is_within m before (instruction.ConstantTrue type result) = true
is_within m before (instruction.ConstantFalse type result) = true
is_within m before (instruction.ConstantNull type result) = true
is_within m before (instruction.Constant type result value) = true
is_within m before (instruction.ConstantComposite type result parts) = true
is_within m before (instruction.CompositeConstruct type result parts) = true
is_within m before (instruction.Function type result control function_type) = nests_within (nesting m before)
is_within m before (instruction.FunctionParameter type result) = true
is_within m before instruction.FunctionEnd = true
is_within m before (instruction.FunctionCall type result function arguments) = true
is_within m before (instruction.Variable type result class initialiser) = true
is_within m before (instruction.Load type result pointer) = true
is_within m before (instruction.Store pointer value) = true
is_within m before (instruction.AccessChain type result base indexes) = nat_le (length indexes) most_indexes
is_within m before (instruction.ArrayLength type result pointer member) = true
is_within m before (instruction.Decorate target decoration literals) = true
is_within m before (instruction.MemberDecorate target member decoration literals) = true
is_within m before (instruction.VectorExtractDynamic type result vector index) = true
is_within m before (instruction.VectorShuffle type result first second components) = true
is_within m before (instruction.CompositeExtract type result composite indexes) = nat_le (length indexes) most_indexes
is_within m before (instruction.CompositeInsert type result part composite indexes) = nat_le (length indexes) most_indexes
is_within m before (instruction.Unary op type result a) = true
is_within m before (instruction.Arithmetic op type result a b) = true
is_within m before (instruction.Shift op type result base shift) = true
is_within m before (instruction.Logical op type result a b) = true
is_within m before (instruction.Comparison op type result a b) = true
is_within m before (instruction.Select type result condition a b) = true
is_within m before (instruction.BitFieldInsert type result base insert offset count) = true
is_within m before (instruction.BitFieldExtract op type result base offset count) = true
is_within m before (instruction.LoopMerge merge continue_target control) = true
is_within m before (instruction.SelectionMerge merge control) = true
is_within m before (instruction.Label result) = true
is_within m before (instruction.Branch target) = true
is_within m before (instruction.BranchConditional condition on_true on_false) = true
is_within m before (instruction.Switch selector default targets) = nat_le (length (seconds targets)) most_pairs
is_within m before instruction.Kill = true
is_within m before instruction.Return = true
is_within m before (instruction.ReturnValue value) = true

-- whether V18 is kept by an instruction
abbrev pub within_limits : Module → Code → Instr → Bool
within_limits m before i = passes_if (is_within m before) (read i)

-- the first instruction that breaks V18
abbrev pub limits : Module → Option ℕ
limits m = first_broken (within_limits m) m
