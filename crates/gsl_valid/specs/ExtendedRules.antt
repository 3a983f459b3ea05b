-- V17: extended instructions and their operands (GLSL.std.450).
use Rattle.std.specs.Prelude.{ℕ, Bool, true, false, ◌==◌, ◌&&◌, List, [], ◌∷◌, length, Option, Some, None, find}
use Rattle.std.specs.List.{list_all}
use Rattle.gsl_words.specs.declared.module.Instr.{Instr}
use Rattle.gsl_words.specs.declared.module.Module.{Module}
use Rattle.gsl_instr.specs.declared.instruction.Instruction.{Instruction}
use Rattle.gsl_instr.specs.declared.instruction.Instruction.TheVariants as instruction
use Rattle.gsl_instr.specs.declared.enumerant.glsl_std_450.TheConstants as extended_op
use Rattle.gsl_valid.specs.Instruction.{read, passes_if}
use Rattle.gsl_valid.specs.Kinds.{Kind, Asks, Imports, Sets, Enters, Modes, Debugs, Decorates, Declares, Fixes, Holds, Begins, Takes, Calls, Gives, Does, Opens, Merges, Leaves, Ended, Absent, kind, type_of}
use Rattle.gsl_valid.specs.Placed.{Code}
use Rattle.gsl_valid.specs.Search.{first_broken}
use Rattle.gsl_valid.specs.Types.{defined_as, is_ints, has_type, same_size, lanes_of}
use Rattle.gsl_valid.specs.OperandRules.{Sign, Either, Only, is_signed}

-- An extended instruction: its number, how many operands it has and of which sign, and whether it gives the place of a bit.
pub record Extended : Type 0 where
  pub number : ℕ
  pub count : ℕ
  pub sign : Sign
  pub finds : Bool

abbrev pub row : ℕ → ℕ → Sign → Bool → Extended
row number count sign finds = record { number = number; count = count; sign = sign; finds = finds }

-- those of the table
abbrev pub rows : List Extended
rows =
    row extended_op.S_ABS 1 (Only 1) false ∷ row extended_op.S_SIGN 1 (Only 1) false ∷ row extended_op.U_MIN 2 (Only 0) false
    ∷ row extended_op.S_MIN 2 (Only 1) false ∷ row extended_op.U_MAX 2 (Only 0) false ∷ row extended_op.S_MAX 2 (Only 1) false
    ∷ row extended_op.U_CLAMP 3 (Only 0) false ∷ row extended_op.S_CLAMP 3 (Only 1) false ∷ row extended_op.FIND_I_LSB 1 Either true
    ∷ row extended_op.FIND_S_MSB 1 (Only 1) true ∷ row extended_op.FIND_U_MSB 1 (Only 0) true ∷ []

-- whether an instruction is an import
abbrev pub imports : Kind → Bool
imports Asks = false
imports Imports = true
imports Sets = false
imports (Enters model function name interface) = false
imports (Modes function mode parts) = false
imports Debugs = false
imports (Decorates d) = false
imports (Declares shape) = false
imports (Fixes type value) = false
imports (Holds v) = false
imports (Begins type id function_type) = false
imports (Takes type) = false
imports (Calls type function arguments) = false
imports (Gives type) = false
imports Does = false
imports Opens = false
imports Merges = false
imports Leaves = false
imports Ended = false
imports Absent = false

-- whether a result of a type is one of operands of another: the same, or signed of that size where it is the place of a bit
abbrev pub is_result : Module → Bool → ℕ → ℕ → Bool
is_result m true type operands = is_signed m (Only 1) type && same_size (lanes_of m type) (lanes_of m operands)
is_result m false type operands = type == operands

-- whether operands of a type are those of an extended instruction, with its result
abbrev pub fit_as : Module → Extended → ℕ → List ℕ → ℕ → Bool
fit_as m e type operands other =
    is_ints m other && is_signed m e.sign other && list_all (has_type m other) operands && is_result m e.finds type other

abbrev pub fit_with : Module → Extended → ℕ → List ℕ → Option ℕ → Bool
fit_with m e type operands None = false
fit_with m e type operands (Some other) = fit_as m e type operands other

-- the type of the first operand
abbrev pub first_type : Module → List ℕ → Option ℕ
first_type m [] = None
first_type m (value ∷ values) = type_of (defined_as m value)

-- whether operands and a result are those of an extended instruction, if there is one
abbrev pub fits_row : Module → ℕ → List ℕ → Option Extended → Bool
fits_row m type operands None = false
fits_row m type operands (Some e) = length operands == e.count && fit_with m e type operands (first_type m operands)

-- whether an extended instruction is one that may be
abbrev pub extended_of : Module → Instruction → Bool
extended_of m (instruction.Name target text) = true
extended_of m (instruction.MemberName target member text) = true
extended_of m (instruction.ExtInstImport result name) = true
extended_of m (instruction.ExtInst type result set number operands) = imports (kind (defined_as m set)) && fits_row m type operands (find (λ e. e.number == number) rows)
extended_of m (instruction.MemoryModel addressing memory) = true
extended_of m (instruction.EntryPoint model function name interface) = true
extended_of m (instruction.ExecutionMode function mode parts) = true
extended_of m (instruction.Capability capability) = true
extended_of m (instruction.TypeVoid result) = true
extended_of m (instruction.TypeBool result) = true
extended_of m (instruction.TypeInt result width signedness) = true
extended_of m (instruction.TypeVector result component count) = true
extended_of m (instruction.TypeArray result element length) = true
extended_of m (instruction.TypeRuntimeArray result element) = true
extended_of m (instruction.TypeStruct result members) = true
extended_of m (instruction.TypePointer result class pointee) = true
extended_of m (instruction.TypeFunction result returned parameters) = true
extended_of m (instruction.ConstantTrue type result) = true
extended_of m (instruction.ConstantFalse type result) = true
extended_of m (instruction.ConstantNull type result) = true
extended_of m (instruction.Constant type result value) = true
extended_of m (instruction.ConstantComposite type result parts) = true
extended_of m (instruction.CompositeConstruct type result parts) = true
extended_of m (instruction.Function type result control function_type) = true
extended_of m (instruction.FunctionParameter type result) = true
extended_of m instruction.FunctionEnd = true
extended_of m (instruction.FunctionCall type result function arguments) = true
extended_of m (instruction.Variable type result class initialiser) = true
extended_of m (instruction.Load type result pointer) = true
extended_of m (instruction.Store pointer value) = true
extended_of m (instruction.AccessChain type result base indexes) = true
extended_of m (instruction.ArrayLength type result pointer member) = true
extended_of m (instruction.Decorate target decoration literals) = true
extended_of m (instruction.MemberDecorate target member decoration literals) = true
extended_of m (instruction.VectorExtractDynamic type result vector index) = true
extended_of m (instruction.VectorShuffle type result first second components) = true
extended_of m (instruction.CompositeExtract type result composite indexes) = true
extended_of m (instruction.CompositeInsert type result part composite indexes) = true
extended_of m (instruction.Unary op type result a) = true
extended_of m (instruction.Arithmetic op type result a b) = true
extended_of m (instruction.Shift op type result base shift) = true
extended_of m (instruction.Logical op type result a b) = true
extended_of m (instruction.Comparison op type result a b) = true
extended_of m (instruction.Select type result condition a b) = true
extended_of m (instruction.BitFieldInsert type result base insert offset count) = true
extended_of m (instruction.BitFieldExtract op type result base offset count) = true
extended_of m (instruction.LoopMerge merge continue_target control) = true
extended_of m (instruction.SelectionMerge merge control) = true
extended_of m (instruction.Label result) = true
extended_of m (instruction.Branch target) = true
extended_of m (instruction.BranchConditional condition on_true on_false) = true
extended_of m (instruction.Switch selector default targets) = true
extended_of m instruction.Kill = true
extended_of m instruction.Return = true
extended_of m (instruction.ReturnValue value) = true

-- whether V17 is kept by an instruction
abbrev pub extended_kept : Module → Code → Instr → Bool
extended_kept m before i = passes_if (extended_of m) (read i)

-- the first instruction that breaks V17
abbrev pub extended : Module → Option ℕ
extended m = first_broken (extended_kept m) m
