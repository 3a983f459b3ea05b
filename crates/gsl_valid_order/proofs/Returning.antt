-- The pass over returns finds what V16 finds.
use Rattle.std.proofs.Common.{◌≡◌, ℕ, ◌+◌, Bool, true, [], ◌∷◌, length, Option, Some, None, refl, ap, sym, ◌∙◌, cond, if◌then◌else◌}
use Rattle.gsl_words.specs.declared.module.Instr.{Instr}
use Rattle.gsl_words.specs.declared.module.Module.{Module}
use Rattle.gsl_words.specs.Instructions.{word_count}
use Rattle.gsl_instr.specs.declared.instruction.Instruction.{Instruction}
use Rattle.gsl_instr.specs.declared.instruction.Instruction.TheVariants as instruction
use Rattle.gsl_valid.specs.Instruction.{read, passes_if}
use Rattle.gsl_valid.specs.EntryRules.{model_of, model_or}
use Rattle.gsl_valid.specs.Kinds.{Kind, Asks, Imports, Sets, Enters, Modes, Debugs, Decorates, Declares, Fixes, Holds, Begins, Takes, Calls, Gives, Does, Opens, Merges, Leaves, Ended, Absent, kind}
use Rattle.gsl_valid.specs.Placed.{Code, placed, placed_from, header_size}
use Rattle.gsl_valid.specs.Types.{begins, function_begins}
use Rattle.gsl_valid.specs.Where.{where_at}
use Rattle.gsl_valid.specs.ReturnRules.{returns_kept, returns}
use Rattle.gsl_valid.specs.ReturnRules as rule
use Rattle.gsl_ids.specs.Pass.{first_failed}
use Rattle.gsl_ids.proofs.Passes.{same_place}
use Rattle.gsl_valid_order.specs.declared.leaving.ReturnTest.{ReturnTest}
use Rattle.gsl_valid_order.specs.Returned.{model_in, returned_after, returns_void, returns_value, may_return}

-- the stage
pub model_is : (at : ℕ) (code : Code) → model_in (placed_from at code) ≡ model_of code
model_is at [] = refl
model_is at (i ∷ code) = ap (λ n. model_or n (read i)) (model_is (at + word_count i) code)

-- the result type that a Function has, if an instruction begins one
abbrev result_type : Kind → Option ℕ
result_type k = returned_after None k

module _ (m : Module) where
  void_same : (k : Kind) → returns_void m (result_type k) ≡ rule.begins_void m k
  void_same Asks = refl
  void_same Imports = refl
  void_same Sets = refl
  void_same (Enters model function name interface) = refl
  void_same (Modes function mode parts) = refl
  void_same Debugs = refl
  void_same (Decorates d) = refl
  void_same (Declares shape) = refl
  void_same (Fixes type value) = refl
  void_same (Holds v) = refl
  void_same (Begins type id function_type) = refl
  void_same (Takes type) = refl
  void_same (Calls type function arguments) = refl
  void_same (Gives type) = refl
  void_same Does = refl
  void_same Opens = refl
  void_same Merges = refl
  void_same Leaves = refl
  void_same Ended = refl
  void_same Absent = refl

  value_same : (value : ℕ) (k : Kind) → returns_value m value (result_type k) ≡ rule.begins_value m value k
  value_same returned Asks = refl
  value_same returned Imports = refl
  value_same returned Sets = refl
  value_same returned (Enters model function name interface) = refl
  value_same returned (Modes function mode parts) = refl
  value_same returned Debugs = refl
  value_same returned (Decorates d) = refl
  value_same returned (Declares shape) = refl
  value_same returned (Fixes type value) = refl
  value_same returned (Holds v) = refl
  value_same returned (Begins type id function_type) = refl
  value_same returned (Takes type) = refl
  value_same returned (Calls type function arguments) = refl
  value_same returned (Gives type) = refl
  value_same returned Does = refl
  value_same returned Opens = refl
  value_same returned Merges = refl
  value_same returned Leaves = refl
  value_same returned Ended = refl
  value_same returned Absent = refl

  leaves_same : (before : Code) (i : Instruction) →
      may_return m (model_of m.instrs) (result_type (kind (where_at m before).function)) i ≡ rule.may_return m before i
  leaves_same before (instruction.Name target text) = refl
  leaves_same before (instruction.MemberName target member text) = refl
  leaves_same before (instruction.ExtInstImport result name) = refl
  leaves_same before (instruction.ExtInst type result set number operands) = refl
  leaves_same before (instruction.MemoryModel addressing memory) = refl
  leaves_same before (instruction.EntryPoint model function name interface) = refl
  leaves_same before (instruction.ExecutionMode function mode parts) = refl
  leaves_same before (instruction.Capability capability) = refl
  leaves_same before (instruction.TypeVoid result) = refl
  leaves_same before (instruction.TypeBool result) = refl
  leaves_same before (instruction.TypeInt result width signedness) = refl
  leaves_same before (instruction.TypeVector result component count) = refl
  leaves_same before (instruction.TypeArray result element count) = refl
  leaves_same before (instruction.TypeRuntimeArray result element) = refl
  leaves_same before (instruction.TypeStruct result members) = refl
  leaves_same before (instruction.TypePointer result class pointee) = refl
  leaves_same before (instruction.TypeFunction result returned parameters) = refl
  leaves_same before (instruction.ConstantTrue type result) = refl
  leaves_same before (instruction.ConstantFalse type result) = refl
  leaves_same before (instruction.ConstantNull type result) = refl
  leaves_same before (instruction.Constant type result value) = refl
  leaves_same before (instruction.ConstantComposite type result parts) = refl
  leaves_same before (instruction.CompositeConstruct type result parts) = refl
  leaves_same before (instruction.Function type result control function_type) = refl
  leaves_same before (instruction.FunctionParameter type result) = refl
  leaves_same before instruction.FunctionEnd = refl
  leaves_same before (instruction.FunctionCall type result function arguments) = refl
  leaves_same before (instruction.Variable type result class initialiser) = refl
  leaves_same before (instruction.Load type result pointer) = refl
  leaves_same before (instruction.Store pointer value) = refl
  leaves_same before (instruction.AccessChain type result base indexes) = refl
  leaves_same before (instruction.ArrayLength type result pointer member) = refl
  leaves_same before (instruction.Decorate target decoration literals) = refl
  leaves_same before (instruction.MemberDecorate target member decoration literals) = refl
  leaves_same before (instruction.VectorExtractDynamic type result vector index) = refl
  leaves_same before (instruction.VectorShuffle type result first second components) = refl
  leaves_same before (instruction.CompositeExtract type result composite indexes) = refl
  leaves_same before (instruction.CompositeInsert type result part composite indexes) = refl
  leaves_same before (instruction.Unary op type result a) = refl
  leaves_same before (instruction.Arithmetic op type result a b) = refl
  leaves_same before (instruction.Shift op type result base shift) = refl
  leaves_same before (instruction.Logical op type result a b) = refl
  leaves_same before (instruction.Comparison op type result a b) = refl
  leaves_same before (instruction.Select type result condition a b) = refl
  leaves_same before (instruction.BitFieldInsert type result base insert offset count) = refl
  leaves_same before (instruction.BitFieldExtract op type result base offset count) = refl
  leaves_same before (instruction.LoopMerge merge continue_target control) = refl
  leaves_same before (instruction.SelectionMerge merge control) = refl
  leaves_same before (instruction.Label result) = refl
  leaves_same before (instruction.Branch target) = refl
  leaves_same before (instruction.BranchConditional condition on_true on_false) = refl
  leaves_same before (instruction.Switch selector default targets) = refl
  leaves_same before instruction.Kill = refl
  leaves_same before instruction.Return = void_same (kind (where_at m before).function)
  leaves_same before (instruction.ReturnValue value) = value_same value (kind (where_at m before).function)

  all_same : (before : Code) (i : Option Instruction) →
      passes_if (may_return m (model_of m.instrs) (result_type (kind (where_at m before).function))) i ≡ passes_if (rule.may_return m before) i
  all_same before None = refl
  all_same before (Some i) = leaves_same before i

abbrev pub passes : ReturnTest → ℕ → Instr → Bool
passes s at i = passes_if (may_return s.definitions.now s.model s.returned) (read i)

abbrev pub behind : ReturnTest → ℕ → Instr → ReturnTest
behind s at i = record { definitions = s.definitions; model = s.model; returned = returned_after s.returned (kind (read i)) }

module _ (m : Module) where
  -- What the pass keeps.
  record Tells (before code : Code) (s : ReturnTest) : Type 0 where
    same : s.definitions.now ≡ m
    model : s.model ≡ model_of m.instrs
    returned : s.returned ≡ result_type (kind (where_at m before).function)

  agrees : (before code : Code) (s : ReturnTest) (i : Instr) → Tells before (i ∷ code) s → passes s (length before) i ≡ returns_kept m before i
  agrees before code s i t =
      ap (λ n. passes_if (may_return n s.model s.returned) (read i)) t.same
      ∙ ap (λ k. passes_if (may_return m k s.returned) (read i)) t.model
      ∙ ap (λ r. passes_if (may_return m (model_of m.instrs) r) (read i)) t.returned ∙ all_same m before (read i)

  -- the result type behind an instruction, of the function in which the code then stands
  kept_type : (d : Option Instruction) (f : Option Instruction) →
      returned_after (result_type (kind f)) (kind d) ≡ result_type (kind (if function_begins d then d else f))
  kept_type d f = by_kind (kind d) refl
    where
      by_kind : (k : Kind) → kind d ≡ k → returned_after (result_type (kind f)) k ≡ result_type (kind (cond (begins k) d f))
      by_kind Asks e = refl
      by_kind Imports e = refl
      by_kind Sets e = refl
      by_kind (Enters model function name interface) e = refl
      by_kind (Modes function mode parts) e = refl
      by_kind Debugs e = refl
      by_kind (Decorates d) e = refl
      by_kind (Declares shape) e = refl
      by_kind (Fixes type value) e = refl
      by_kind (Holds v) e = refl
      by_kind (Begins type id function_type) e = ap (returned_after None) (sym e)
      by_kind (Takes type) e = refl
      by_kind (Calls type function arguments) e = refl
      by_kind (Gives type) e = refl
      by_kind Does e = refl
      by_kind Opens e = refl
      by_kind Merges e = refl
      by_kind Leaves e = refl
      by_kind Ended e = refl
      by_kind Absent e = refl

  goes_on : (before code : Code) (s : ReturnTest) (i : Instr) → Tells before (i ∷ code) s → returns_kept m before i ≡ true → Tells (i ∷ before) code (behind s (length before) i)
  goes_on before code s i t passed =
      record {
        same = t.same;
        model = t.model;
        returned = ap (λ r. returned_after r (kind (read i))) t.returned ∙ kept_type (read i) (where_at m before).function;
      }

  pub finds : (s : ReturnTest) → s.definitions.now ≡ m → s.model ≡ model_of m.instrs → s.returned ≡ None → first_failed passes behind s 0 (placed m) ≡ returns m
  finds s same model none =
      same_place passes behind (returns_kept m) Tells agrees goes_on [] s 0 header_size m.instrs refl
      (record { same = same; model = model; returned = none })
