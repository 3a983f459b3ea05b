-- The blocks of a function: each has a label, a merge if there is one, and a last instruction (SPIR-V 1.0, 2.11).
use Rattle.std.specs.Prelude.{ℕ, List, [], ◌∷◌, map, Option, Some, None}
use Rattle.gsl_instr.specs.declared.instruction.Instruction.{Instruction}
use Rattle.gsl_instr.specs.declared.instruction.Instruction.TheVariants as instruction
use Rattle.gsl_instr.specs.Instructions.{read}
use Rattle.gsl_words.specs.declared.module.Instr.{Instr}
use Rattle.gsl_blocks.specs.declared.block.Merge.{Merge}
use Rattle.gsl_blocks.specs.declared.block.Merge.TheVariants.{Nothing, Selection, Loop}
use Rattle.gsl_blocks.specs.declared.block.End.TheVariants.{Branch, Conditional, Switch, Leave}
use Rattle.gsl_blocks.specs.declared.block.Block.{Block}
use Rattle.gsl_blocks.specs.declared.block.Role.{Role}
use Rattle.gsl_blocks.specs.declared.block.Role.TheVariants.{Opens, Merges, Ends, Closes, Inside}

-- what an instruction does to the blocks of its function
abbrev pub role_of : Instruction → Role
role_of (instruction.Name target text) = Inside
role_of (instruction.MemberName target member text) = Inside
role_of (instruction.ExtInstImport result name) = Inside
role_of (instruction.ExtInst type result set number operands) = Inside
role_of (instruction.MemoryModel addressing memory) = Inside
role_of (instruction.EntryPoint model function name interface) = Inside
role_of (instruction.ExecutionMode function mode parts) = Inside
role_of (instruction.Capability capability) = Inside
role_of (instruction.TypeVoid result) = Inside
role_of (instruction.TypeBool result) = Inside
role_of (instruction.TypeInt result width signedness) = Inside
role_of (instruction.TypeVector result component count) = Inside
role_of (instruction.TypeArray result element length) = Inside
role_of (instruction.TypeRuntimeArray result element) = Inside
role_of (instruction.TypeStruct result members) = Inside
role_of (instruction.TypePointer result class pointee) = Inside
role_of (instruction.TypeFunction result returned parameters) = Inside
role_of (instruction.ConstantTrue type result) = Inside
role_of (instruction.ConstantFalse type result) = Inside
role_of (instruction.ConstantNull type result) = Inside
role_of (instruction.Constant type result value) = Inside
role_of (instruction.ConstantComposite type result parts) = Inside
role_of (instruction.CompositeConstruct type result parts) = Inside
role_of (instruction.Function type result control function_type) = Inside
role_of (instruction.FunctionParameter type result) = Inside
role_of instruction.FunctionEnd = Closes
role_of (instruction.FunctionCall type result function arguments) = Inside
role_of (instruction.Variable type result class initialiser) = Inside
role_of (instruction.Load type result pointer) = Inside
role_of (instruction.Store pointer value) = Inside
role_of (instruction.AccessChain type result base indexes) = Inside
role_of (instruction.ArrayLength type result pointer member) = Inside
role_of (instruction.Decorate target decoration literals) = Inside
role_of (instruction.MemberDecorate target member decoration literals) = Inside
role_of (instruction.VectorExtractDynamic type result vector index) = Inside
role_of (instruction.VectorShuffle type result first second components) = Inside
role_of (instruction.CompositeExtract type result composite indexes) = Inside
role_of (instruction.CompositeInsert type result part composite indexes) = Inside
role_of (instruction.Unary op type result a) = Inside
role_of (instruction.Arithmetic op type result a b) = Inside
role_of (instruction.Shift op type result base shift) = Inside
role_of (instruction.Logical op type result a b) = Inside
role_of (instruction.Comparison op type result a b) = Inside
role_of (instruction.Select type result condition a b) = Inside
role_of (instruction.BitFieldInsert type result base insert offset count) = Inside
role_of (instruction.BitFieldExtract op type result base offset count) = Inside
role_of (instruction.LoopMerge merge continue_target control) = Merges (Loop merge continue_target)
role_of (instruction.SelectionMerge merge control) = Merges (Selection merge)
role_of (instruction.Label result) = Opens result
role_of (instruction.Branch target) = Ends (Branch target)
role_of (instruction.BranchConditional condition on_true on_false) = Ends (Conditional on_true on_false)
role_of (instruction.Switch selector default targets) = Ends (Switch default targets)
role_of instruction.Kill = Ends Leave
role_of instruction.Return = Ends Leave
role_of (instruction.ReturnValue value) = Ends Leave

-- an opcode that is not in the table does nothing
abbrev pub role_or : Option Instruction → Role
role_or None = Inside
role_or (Some i) = role_of i

-- what the instruction of an opcode and its operand words does
abbrev pub role_at : ℕ → List ℕ → Role
role_at op args = role_or (read op args)

-- the blocks from an instruction on, where the block of a label is open, with the merge that was met in it
abbrev pub with_role : Role → ℕ → Merge → (ℕ → Merge → List Block) → List Block
with_role (Opens next) label met later = later next Nothing
with_role (Merges next) label met later = later label next
with_role (Ends e) label met later = record { label = label; merge = met; end = e } ∷ later label met
with_role Closes label met later = []
with_role Inside label met later = later label met

unfoldable pub blocks_from : List Instr → ℕ → Merge → List Block
blocks_from [] label met = []
blocks_from (i ∷ code) label met = with_role (role_at i.op i.args) label met (blocks_from code)

-- the blocks of the function that stands at the front of some code, up to its FunctionEnd
abbrev pub blocks_of : List Instr → List Block
blocks_of code = blocks_from code 0 Nothing

-- their labels
abbrev pub labels : List Block → List ℕ
labels blocks = map (λ b. b.label) blocks
