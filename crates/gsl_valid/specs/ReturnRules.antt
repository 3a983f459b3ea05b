-- V16: what a function returns.
use Rattle.std.specs.Prelude.{ℕ, Bool, true, false, ◌==◌, ◌&&◌, not, Option}
use Rattle.gsl_instr.specs.declared.enumerant.execution_model.TheConstants as execution_model
use Rattle.gsl_words.specs.declared.module.Instr.{Instr}
use Rattle.gsl_words.specs.declared.module.Module.{Module}
use Rattle.gsl_instr.specs.declared.instruction.Instruction.{Instruction}
use Rattle.gsl_instr.specs.declared.instruction.Instruction.TheVariants as instruction
use Rattle.gsl_valid.specs.Instruction.{read, passes_if}
use Rattle.gsl_valid.specs.Kinds.{Kind, Asks, Imports, Sets, Enters, Modes, Debugs, Decorates, Declares, Fixes, Holds, Begins, Takes, Calls, Gives, Does, Opens, Merges, Leaves, Ended, Absent, kind}
use Rattle.gsl_valid.specs.Placed.{Code}
use Rattle.gsl_valid.specs.Search.{first_broken}
use Rattle.gsl_valid.specs.Types.{is_void, has_type}
use Rattle.gsl_valid.specs.EntryRules.{model_of}
use Rattle.gsl_valid.specs.Where.{where_at}

-- whether a Function's result is Void
abbrev pub begins_void : Module → Kind → Bool
begins_void m Asks = false
begins_void m Imports = false
begins_void m Sets = false
begins_void m (Enters model function name interface) = false
begins_void m (Modes function mode parts) = false
begins_void m Debugs = false
begins_void m (Decorates d) = false
begins_void m (Declares shape) = false
begins_void m (Fixes type value) = false
begins_void m (Holds v) = false
begins_void m (Begins type id function_type) = is_void m type
begins_void m (Takes type) = false
begins_void m (Calls type function arguments) = false
begins_void m (Gives type) = false
begins_void m Does = false
begins_void m Opens = false
begins_void m Merges = false
begins_void m Leaves = false
begins_void m Ended = false
begins_void m Absent = false

abbrev pub gives_void : Module → Option Instruction → Bool
gives_void m d = begins_void m (kind d)

-- whether a Function's result is of the type of a value, and not Void
abbrev pub begins_value : Module → ℕ → Kind → Bool
begins_value m returned Asks = false
begins_value m returned Imports = false
begins_value m returned Sets = false
begins_value m returned (Enters model function name interface) = false
begins_value m returned (Modes function mode parts) = false
begins_value m returned Debugs = false
begins_value m returned (Decorates d) = false
begins_value m returned (Declares shape) = false
begins_value m returned (Fixes type value) = false
begins_value m returned (Holds v) = false
begins_value m returned (Begins type id function_type) = not (is_void m type) && has_type m type returned
begins_value m returned (Takes type) = false
begins_value m returned (Calls type function arguments) = false
begins_value m returned (Gives type) = false
begins_value m returned Does = false
begins_value m returned Opens = false
begins_value m returned Merges = false
begins_value m returned Leaves = false
begins_value m returned Ended = false
begins_value m returned Absent = false

abbrev pub gives_value : Module → ℕ → Option Instruction → Bool
gives_value m value d = begins_value m value (kind d)

-- whether an instruction, if it leaves the function, may stand here
abbrev pub may_return : Module → Code → Instruction → Bool
may_return m before (instruction.Name target text) = true
may_return m before (instruction.MemberName target member text) = true
may_return m before (instruction.ExtInstImport result name) = true
may_return m before (instruction.ExtInst type result set number operands) = true
may_return m before (instruction.MemoryModel addressing memory) = true
may_return m before (instruction.EntryPoint model function name interface) = true
may_return m before (instruction.ExecutionMode function mode parts) = true
may_return m before (instruction.Capability capability) = true
may_return m before (instruction.TypeVoid result) = true
may_return m before (instruction.TypeBool result) = true
may_return m before (instruction.TypeInt result width signedness) = true
may_return m before (instruction.TypeVector result component count) = true
may_return m before (instruction.TypeArray result element length) = true
may_return m before (instruction.TypeRuntimeArray result element) = true
may_return m before (instruction.TypeStruct result members) = true
may_return m before (instruction.TypePointer result class pointee) = true
may_return m before (instruction.TypeFunction result returned parameters) = true
may_return m before (instruction.ConstantTrue type result) = true
may_return m before (instruction.ConstantFalse type result) = true
may_return m before (instruction.ConstantNull type result) = true
may_return m before (instruction.Constant type result value) = true
may_return m before (instruction.ConstantComposite type result parts) = true
may_return m before (instruction.CompositeConstruct type result parts) = true
may_return m before (instruction.Function type result control function_type) = true
may_return m before (instruction.FunctionParameter type result) = true
may_return m before instruction.FunctionEnd = true
may_return m before (instruction.FunctionCall type result function arguments) = true
may_return m before (instruction.Variable type result class initialiser) = true
may_return m before (instruction.Load type result pointer) = true
may_return m before (instruction.Store pointer value) = true
may_return m before (instruction.AccessChain type result base indexes) = true
may_return m before (instruction.ArrayLength type result pointer member) = true
may_return m before (instruction.Decorate target decoration literals) = true
may_return m before (instruction.MemberDecorate target member decoration literals) = true
may_return m before (instruction.VectorExtractDynamic type result vector index) = true
may_return m before (instruction.VectorShuffle type result first second components) = true
may_return m before (instruction.CompositeExtract type result composite indexes) = true
may_return m before (instruction.CompositeInsert type result part composite indexes) = true
may_return m before (instruction.Unary op type result a) = true
may_return m before (instruction.Arithmetic op type result a b) = true
may_return m before (instruction.Shift op type result base shift) = true
may_return m before (instruction.Logical op type result a b) = true
may_return m before (instruction.Comparison op type result a b) = true
may_return m before (instruction.Select type result condition a b) = true
may_return m before (instruction.BitFieldInsert type result base insert offset count) = true
may_return m before (instruction.BitFieldExtract op type result base offset count) = true
may_return m before (instruction.LoopMerge merge continue_target control) = true
may_return m before (instruction.SelectionMerge merge control) = true
may_return m before (instruction.Label result) = true
may_return m before (instruction.Branch target) = true
may_return m before (instruction.BranchConditional condition on_true on_false) = true
may_return m before (instruction.Switch selector default targets) = true
may_return m before instruction.Kill = model_of m.instrs == execution_model.FRAGMENT
may_return m before instruction.Return = gives_void m (where_at m before).function
may_return m before (instruction.ReturnValue value) = gives_value m value (where_at m before).function

-- whether V16 is kept by an instruction
abbrev pub returns_kept : Module → Code → Instr → Bool
returns_kept m before i = passes_if (may_return m before) (read i)

-- the first instruction that breaks V16
abbrev pub returns : Module → Option ℕ
returns m = first_broken (returns_kept m) m
