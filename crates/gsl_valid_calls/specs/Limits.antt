-- V18 by the heights of the types before an instruction and its number.
use Rattle.std.specs.Prelude.{ℕ, ◌/◌, Bool, true, ◌&&◌, nat_le, List, [], ◌∷◌, length, drop, replicate, Option}
use Rattle.gsl_blocks.specs.Blocks.{blocks_of}
use Rattle.gsl_blocks.specs.Reading.{nesting_of}
use Rattle.gsl_instr.specs.declared.instruction.Instruction.{Instruction}
use Rattle.gsl_instr.specs.declared.instruction.Instruction.TheVariants as instruction
use Rattle.gsl_words.specs.declared.module.Instr.{Instr}
use Rattle.gsl_words.specs.declared.module.Module.{Module}
use Rattle.gsl_valid.specs.Instruction.{read, passes_if}
use Rattle.gsl_valid.specs.LimitRules.{most_members, most_parameters, most_pairs, most_indexes, nests_within}
use Rattle.gsl_valid_calls.specs.Heights.{is_low, heights_after}

-- how many constructs stand within each other in the function that begins with the instruction of a number, if its blocks are structured
abbrev pub nesting_at : Module → ℕ → Option ℕ
nesting_at m at = nesting_of (blocks_of (drop at m.instrs))

-- whether an instruction has few enough parts, and a type is low enough
abbrev pub is_small : List ℕ → Instruction → Bool
is_small heights (instruction.Name target text) = true
is_small heights (instruction.MemberName target member text) = true
is_small heights (instruction.ExtInstImport result name) = true
is_small heights (instruction.ExtInst type result set number operands) = true
is_small heights (instruction.MemoryModel addressing memory) = true
is_small heights (instruction.EntryPoint model function name interface) = true
is_small heights (instruction.ExecutionMode function mode parts) = true
is_small heights (instruction.Capability capability) = true
is_small heights (instruction.TypeVoid result) = true
is_small heights (instruction.TypeBool result) = true
is_small heights (instruction.TypeInt result width signedness) = true
is_small heights (instruction.TypeVector result component count) = true
is_small heights (instruction.TypeArray result element count) = is_low heights (element ∷ [])
is_small heights (instruction.TypeRuntimeArray result element) = is_low heights (element ∷ [])
is_small heights (instruction.TypeStruct result members) = nat_le (length members) most_members && is_low heights members
is_small heights (instruction.TypePointer result class pointee) = true
is_small heights (instruction.TypeFunction result returned parameters) = nat_le (length parameters) most_parameters
is_small heights (instruction.ConstantTrue type result) = true
is_small heights (instruction.ConstantFalse type result) = true
is_small heights (instruction.ConstantNull type result) = true
is_small heights (instruction.Constant type result value) = true
is_small heights (instruction.ConstantComposite type result parts) = true
is_small heights (instruction.CompositeConstruct type result parts) = true
is_small heights (instruction.Function type result control function_type) = true
is_small heights (instruction.FunctionParameter type result) = true
is_small heights instruction.FunctionEnd = true
is_small heights (instruction.FunctionCall type result function arguments) = true
is_small heights (instruction.Variable type result class initialiser) = true
is_small heights (instruction.Load type result pointer) = true
is_small heights (instruction.Store pointer value) = true
is_small heights (instruction.AccessChain type result base indexes) = nat_le (length indexes) most_indexes
is_small heights (instruction.ArrayLength type result pointer member) = true
is_small heights (instruction.Decorate target decoration literals) = true
is_small heights (instruction.MemberDecorate target member decoration literals) = true
is_small heights (instruction.VectorExtractDynamic type result vector index) = true
is_small heights (instruction.VectorShuffle type result first second components) = true
is_small heights (instruction.CompositeExtract type result composite indexes) = nat_le (length indexes) most_indexes
is_small heights (instruction.CompositeInsert type result part composite indexes) = nat_le (length indexes) most_indexes
is_small heights (instruction.Unary op type result a) = true
is_small heights (instruction.Arithmetic op type result a b) = true
is_small heights (instruction.Shift op type result base shift) = true
is_small heights (instruction.Logical op type result a b) = true
is_small heights (instruction.Comparison op type result a b) = true
is_small heights (instruction.Select type result condition a b) = true
is_small heights (instruction.BitFieldInsert type result base insert offset count) = true
is_small heights (instruction.BitFieldExtract op type result base offset count) = true
is_small heights (instruction.LoopMerge merge continue_target control) = true
is_small heights (instruction.SelectionMerge merge control) = true
is_small heights (instruction.Label result) = true
is_small heights (instruction.Branch target) = true
is_small heights (instruction.BranchConditional condition on_true on_false) = true
is_small heights (instruction.Switch selector default targets) = nat_le (length targets / 2) most_pairs
is_small heights instruction.Kill = true
is_small heights instruction.Return = true
is_small heights (instruction.ReturnValue value) = true

-- whether the instruction of a number is within the limits
abbrev pub is_within : Module → List ℕ → ℕ → Instruction → Bool
is_within m heights at (instruction.Name target text) = is_small heights (instruction.Name target text)
is_within m heights at (instruction.MemberName target member text) = is_small heights (instruction.MemberName target member text)
is_within m heights at (instruction.ExtInstImport result name) = is_small heights (instruction.ExtInstImport result name)
is_within m heights at (instruction.ExtInst type result set number operands) = is_small heights (instruction.ExtInst type result set number operands)
is_within m heights at (instruction.MemoryModel addressing memory) = is_small heights (instruction.MemoryModel addressing memory)
is_within m heights at (instruction.EntryPoint model function name interface) = is_small heights (instruction.EntryPoint model function name interface)
is_within m heights at (instruction.ExecutionMode function mode parts) = is_small heights (instruction.ExecutionMode function mode parts)
is_within m heights at (instruction.Capability capability) = is_small heights (instruction.Capability capability)
is_within m heights at (instruction.TypeVoid result) = is_small heights (instruction.TypeVoid result)
is_within m heights at (instruction.TypeBool result) = is_small heights (instruction.TypeBool result)
is_within m heights at (instruction.TypeInt result width signedness) = is_small heights (instruction.TypeInt result width signedness)
is_within m heights at (instruction.TypeVector result component count) = is_small heights (instruction.TypeVector result component count)
is_within m heights at (instruction.TypeArray result element count) = is_small heights (instruction.TypeArray result element count)
is_within m heights at (instruction.TypeRuntimeArray result element) = is_small heights (instruction.TypeRuntimeArray result element)
is_within m heights at (instruction.TypeStruct result members) = is_small heights (instruction.TypeStruct result members)
is_within m heights at (instruction.TypePointer result class pointee) = is_small heights (instruction.TypePointer result class pointee)
is_within m heights at (instruction.TypeFunction result returned parameters) = is_small heights (instruction.TypeFunction result returned parameters)
is_within m heights at (instruction.ConstantTrue type result) = is_small heights (instruction.ConstantTrue type result)
is_within m heights at (instruction.ConstantFalse type result) = is_small heights (instruction.ConstantFalse type result)
is_within m heights at (instruction.ConstantNull type result) = is_small heights (instruction.ConstantNull type result)
is_within m heights at (instruction.Constant type result value) = is_small heights (instruction.Constant type result value)
is_within m heights at (instruction.ConstantComposite type result parts) = is_small heights (instruction.ConstantComposite type result parts)
is_within m heights at (instruction.CompositeConstruct type result parts) = is_small heights (instruction.CompositeConstruct type result parts)
is_within m heights at (instruction.Function type result control function_type) = nests_within (nesting_at m at)
is_within m heights at (instruction.FunctionParameter type result) = is_small heights (instruction.FunctionParameter type result)
is_within m heights at instruction.FunctionEnd = is_small heights instruction.FunctionEnd
is_within m heights at (instruction.FunctionCall type result function arguments) = is_small heights (instruction.FunctionCall type result function arguments)
is_within m heights at (instruction.Variable type result class initialiser) = is_small heights (instruction.Variable type result class initialiser)
is_within m heights at (instruction.Load type result pointer) = is_small heights (instruction.Load type result pointer)
is_within m heights at (instruction.Store pointer value) = is_small heights (instruction.Store pointer value)
is_within m heights at (instruction.AccessChain type result base indexes) = is_small heights (instruction.AccessChain type result base indexes)
is_within m heights at (instruction.ArrayLength type result pointer member) = is_small heights (instruction.ArrayLength type result pointer member)
is_within m heights at (instruction.Decorate target decoration literals) = is_small heights (instruction.Decorate target decoration literals)
is_within m heights at (instruction.MemberDecorate target member decoration literals) = is_small heights (instruction.MemberDecorate target member decoration literals)
is_within m heights at (instruction.VectorExtractDynamic type result vector index) = is_small heights (instruction.VectorExtractDynamic type result vector index)
is_within m heights at (instruction.VectorShuffle type result first second components) = is_small heights (instruction.VectorShuffle type result first second components)
is_within m heights at (instruction.CompositeExtract type result composite indexes) = is_small heights (instruction.CompositeExtract type result composite indexes)
is_within m heights at (instruction.CompositeInsert type result part composite indexes) = is_small heights (instruction.CompositeInsert type result part composite indexes)
is_within m heights at (instruction.Unary op type result a) = is_small heights (instruction.Unary op type result a)
is_within m heights at (instruction.Arithmetic op type result a b) = is_small heights (instruction.Arithmetic op type result a b)
is_within m heights at (instruction.Shift op type result base shift) = is_small heights (instruction.Shift op type result base shift)
is_within m heights at (instruction.Logical op type result a b) = is_small heights (instruction.Logical op type result a b)
is_within m heights at (instruction.Comparison op type result a b) = is_small heights (instruction.Comparison op type result a b)
is_within m heights at (instruction.Select type result condition a b) = is_small heights (instruction.Select type result condition a b)
is_within m heights at (instruction.BitFieldInsert type result base insert offset count) = is_small heights (instruction.BitFieldInsert type result base insert offset count)
is_within m heights at (instruction.BitFieldExtract op type result base offset count) = is_small heights (instruction.BitFieldExtract op type result base offset count)
is_within m heights at (instruction.LoopMerge merge continue_target control) = is_small heights (instruction.LoopMerge merge continue_target control)
is_within m heights at (instruction.SelectionMerge merge control) = is_small heights (instruction.SelectionMerge merge control)
is_within m heights at (instruction.Label result) = is_small heights (instruction.Label result)
is_within m heights at (instruction.Branch target) = is_small heights (instruction.Branch target)
is_within m heights at (instruction.BranchConditional condition on_true on_false) = is_small heights (instruction.BranchConditional condition on_true on_false)
is_within m heights at (instruction.Switch selector default targets) = is_small heights (instruction.Switch selector default targets)
is_within m heights at instruction.Kill = is_small heights instruction.Kill
is_within m heights at instruction.Return = is_small heights instruction.Return
is_within m heights at (instruction.ReturnValue value) = is_small heights (instruction.ReturnValue value)

-- What a pass keeps: the module, and the heights of the types so far.
pub record Kept : Type 0 where
  pub of : Module
  pub heights : List ℕ

abbrev pub at_first : Module → Kept
at_first m = record { of = m; heights = replicate m.bound 0 }

-- whether the instruction of a number keeps V18
abbrev pub passes : Kept → ℕ → Instr → Bool
passes s at i = passes_if (is_within s.of s.heights at) (read i)

-- what is kept behind it
abbrev pub behind : Kept → ℕ → Instr → Kept
behind s at i = record { of = s.of; heights = heights_after s.heights i }
