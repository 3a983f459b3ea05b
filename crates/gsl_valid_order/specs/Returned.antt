-- What may leave a function, by the stage and the function's result type.
use Rattle.std.specs.Prelude.{ℕ, Bool, true, false, ◌==◌, ◌&&◌, not, List, [], ◌∷◌, Option, Some, None}
use Rattle.gsl_words.specs.declared.module.Module.{Module}
use Rattle.gsl_instr.specs.declared.enumerant.execution_model.TheConstants as execution_model
use Rattle.gsl_instr.specs.declared.instruction.Instruction.{Instruction}
use Rattle.gsl_instr.specs.declared.instruction.Instruction.TheVariants as instruction
use Rattle.gsl_valid.specs.Instruction.{read}
use Rattle.gsl_valid.specs.EntryRules.{model_or}
use Rattle.gsl_valid.specs.Kinds.{Kind, Asks, Imports, Sets, Enters, Modes, Debugs, Decorates, Declares, Fixes, Holds, Begins, Takes, Calls, Gives, Does, Opens, Merges, Leaves, Ended, Absent}
use Rattle.gsl_valid.specs.Placed.{Placed}
use Rattle.gsl_valid.specs.Types.{is_void, has_type}

-- the stage of the first entry point of some instructions
abbrev pub model_in : List Placed → ℕ
model_in [] = execution_model.GL_COMPUTE
model_in (p ∷ placed) = model_or (model_in placed) (read p.instr)

-- the result type of the nearest Function behind an instruction, with that before it
abbrev pub returned_after : Option ℕ → Kind → Option ℕ
returned_after returned Asks = returned
returned_after returned Imports = returned
returned_after returned Sets = returned
returned_after returned (Enters model function name interface) = returned
returned_after returned (Modes function mode parts) = returned
returned_after returned Debugs = returned
returned_after returned (Decorates d) = returned
returned_after returned (Declares shape) = returned
returned_after returned (Fixes type value) = returned
returned_after returned (Holds v) = returned
returned_after returned (Begins type id function_type) = Some type
returned_after returned (Takes type) = returned
returned_after returned (Calls type function arguments) = returned
returned_after returned (Gives type) = returned
returned_after returned Does = returned
returned_after returned Opens = returned
returned_after returned Merges = returned
returned_after returned Leaves = returned
returned_after returned Ended = returned
returned_after returned Absent = returned

-- whether a result type, if there is one, is Void
abbrev pub returns_void : Module → Option ℕ → Bool
returns_void m None = false
returns_void m (Some type) = is_void m type

-- whether a result type, if there is one, is that of a value and not Void
abbrev pub returns_value : Module → ℕ → Option ℕ → Bool
returns_value m value None = false
returns_value m value (Some type) = not (is_void m type) && has_type m type value

-- whether an instruction, if it leaves a function, may stand in one that returns this
abbrev pub may_return : Module → ℕ → Option ℕ → Instruction → Bool
may_return m model given (instruction.Name target text) = true
may_return m model given (instruction.MemberName target member text) = true
may_return m model given (instruction.ExtInstImport result name) = true
may_return m model given (instruction.ExtInst type result set number operands) = true
may_return m model given (instruction.MemoryModel addressing memory) = true
may_return m model given (instruction.EntryPoint stage function name interface) = true
may_return m model given (instruction.ExecutionMode function mode parts) = true
may_return m model given (instruction.Capability capability) = true
may_return m model given (instruction.TypeVoid result) = true
may_return m model given (instruction.TypeBool result) = true
may_return m model given (instruction.TypeInt result width signedness) = true
may_return m model given (instruction.TypeVector result component count) = true
may_return m model given (instruction.TypeArray result element count) = true
may_return m model given (instruction.TypeRuntimeArray result element) = true
may_return m model given (instruction.TypeStruct result members) = true
may_return m model given (instruction.TypePointer result class pointee) = true
may_return m model given (instruction.TypeFunction result returned parameters) = true
may_return m model given (instruction.ConstantTrue type result) = true
may_return m model given (instruction.ConstantFalse type result) = true
may_return m model given (instruction.ConstantNull type result) = true
may_return m model given (instruction.Constant type result value) = true
may_return m model given (instruction.ConstantComposite type result parts) = true
may_return m model given (instruction.CompositeConstruct type result parts) = true
may_return m model given (instruction.Function type result control function_type) = true
may_return m model given (instruction.FunctionParameter type result) = true
may_return m model given instruction.FunctionEnd = true
may_return m model given (instruction.FunctionCall type result function arguments) = true
may_return m model given (instruction.Variable type result class initialiser) = true
may_return m model given (instruction.Load type result pointer) = true
may_return m model given (instruction.Store pointer value) = true
may_return m model given (instruction.AccessChain type result base indexes) = true
may_return m model given (instruction.ArrayLength type result pointer member) = true
may_return m model given (instruction.Decorate target decoration literals) = true
may_return m model given (instruction.MemberDecorate target member decoration literals) = true
may_return m model given (instruction.VectorExtractDynamic type result vector index) = true
may_return m model given (instruction.VectorShuffle type result first second components) = true
may_return m model given (instruction.CompositeExtract type result composite indexes) = true
may_return m model given (instruction.CompositeInsert type result part composite indexes) = true
may_return m model given (instruction.Unary op type result a) = true
may_return m model given (instruction.Arithmetic op type result a b) = true
may_return m model given (instruction.Shift op type result base shift) = true
may_return m model given (instruction.Logical op type result a b) = true
may_return m model given (instruction.Comparison op type result a b) = true
may_return m model given (instruction.Select type result condition a b) = true
may_return m model given (instruction.BitFieldInsert type result base insert offset count) = true
may_return m model given (instruction.BitFieldExtract op type result base offset count) = true
may_return m model given (instruction.LoopMerge merge continue_target control) = true
may_return m model given (instruction.SelectionMerge merge control) = true
may_return m model given (instruction.Label result) = true
may_return m model given (instruction.Branch target) = true
may_return m model given (instruction.BranchConditional condition on_true on_false) = true
may_return m model given (instruction.Switch selector default targets) = true
may_return m model given instruction.Kill = model == execution_model.FRAGMENT
may_return m model given instruction.Return = returns_void m given
may_return m model given (instruction.ReturnValue value) = returns_value m value given
