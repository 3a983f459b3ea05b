-- The id of a function, and the id that the instruction defines which begins it.
use Rattle.std.proofs.Common.{◌≡◌, sym, ap, ◌∙◌, refl, ℕ, ◌⊎◌, inl, inr, Bool, true, false, ◌&&◌, ⊎_elim}
use Rattle.std.specs.Prelude.{Option, Some, None}
use Rattle.std.proofs.lemmas.Bool.{and_parts, false≢true, eqb-true}
use Rattle.gsl_words.specs.declared.module.Instr.{Instr}
use Rattle.gsl_instr.specs.declared.instruction.Instruction.{Instruction}
use Rattle.gsl_instr.specs.declared.instruction.Instruction.TheVariants as instruction
use Rattle.gsl_instr.specs.Instructions.{result_of}
use Rattle.gsl_valid.specs.Instruction.{read}
use Rattle.gsl_valid.specs.Ids.{result, is_id, defines}
use Rattle.gsl_valid.specs.Kinds.{Kind, Asks, Imports, Sets, Enters, Modes, Debugs, Decorates, Declares, Fixes, Holds, Begins, Takes, Calls, Gives, Does, Opens, Merges, Leaves, Ended, Absent, kind, kind_of}
use Rattle.gsl_valid.specs.Types.{begins, function_begins}
use Rattle.gsl_valid.specs.CallRules.{id_in}

pub some≢none : (n : ℕ) → Some n ≡ None → ⊥
some≢none n e = absurd (cc)

pub some_same : (a b : ℕ) → Some a ≡ Some b → a ≡ b
some_same a b e = cc

-- What begins a function defines its id.
abbrev Begun : Option ℕ → Option ℕ → Type 0
Begun begun made = (begun ≡ None) ⊎ (begun ≡ made)

begun_of : (i : Instruction) → Begun (id_in (kind_of i)) (result_of i)
begun_of (instruction.Name target text) = inl refl
begun_of (instruction.MemberName target member text) = inl refl
begun_of (instruction.ExtInstImport result name) = inl refl
begun_of (instruction.ExtInst type result set number operands) = inl refl
begun_of (instruction.MemoryModel addressing memory) = inl refl
begun_of (instruction.EntryPoint model function name interface) = inl refl
begun_of (instruction.ExecutionMode function mode parts) = inl refl
begun_of (instruction.Capability capability) = inl refl
begun_of (instruction.TypeVoid result) = inl refl
begun_of (instruction.TypeBool result) = inl refl
begun_of (instruction.TypeInt result width signedness) = inl refl
begun_of (instruction.TypeVector result component count) = inl refl
begun_of (instruction.TypeArray result element length) = inl refl
begun_of (instruction.TypeRuntimeArray result element) = inl refl
begun_of (instruction.TypeStruct result members) = inl refl
begun_of (instruction.TypePointer result class pointee) = inl refl
begun_of (instruction.TypeFunction result returned parameters) = inl refl
begun_of (instruction.ConstantTrue type result) = inl refl
begun_of (instruction.ConstantFalse type result) = inl refl
begun_of (instruction.ConstantNull type result) = inl refl
begun_of (instruction.Constant type result value) = inl refl
begun_of (instruction.ConstantComposite type result parts) = inl refl
begun_of (instruction.CompositeConstruct type result parts) = inl refl
begun_of (instruction.Function type result control function_type) = inr refl
begun_of (instruction.FunctionParameter type result) = inl refl
begun_of instruction.FunctionEnd = inl refl
begun_of (instruction.FunctionCall type result function arguments) = inl refl
begun_of (instruction.Variable type result class initialiser) = inl refl
begun_of (instruction.Load type result pointer) = inl refl
begun_of (instruction.Store pointer value) = inl refl
begun_of (instruction.AccessChain type result base indexes) = inl refl
begun_of (instruction.ArrayLength type result pointer member) = inl refl
begun_of (instruction.Decorate target decoration literals) = inl refl
begun_of (instruction.MemberDecorate target member decoration literals) = inl refl
begun_of (instruction.VectorExtractDynamic type result vector index) = inl refl
begun_of (instruction.VectorShuffle type result first second components) = inl refl
begun_of (instruction.CompositeExtract type result composite indexes) = inl refl
begun_of (instruction.CompositeInsert type result part composite indexes) = inl refl
begun_of (instruction.Unary op type result a) = inl refl
begun_of (instruction.Arithmetic op type result a b) = inl refl
begun_of (instruction.Shift op type result base shift) = inl refl
begun_of (instruction.Logical op type result a b) = inl refl
begun_of (instruction.Comparison op type result a b) = inl refl
begun_of (instruction.Select type result condition a b) = inl refl
begun_of (instruction.BitFieldInsert type result base insert offset count) = inl refl
begun_of (instruction.BitFieldExtract op type result base offset count) = inl refl
begun_of (instruction.LoopMerge merge continue_target control) = inl refl
begun_of (instruction.SelectionMerge merge control) = inl refl
begun_of (instruction.Label result) = inl refl
begun_of (instruction.Branch target) = inl refl
begun_of (instruction.BranchConditional condition on_true on_false) = inl refl
begun_of (instruction.Switch selector default targets) = inl refl
begun_of instruction.Kill = inl refl
begun_of instruction.Return = inl refl
begun_of (instruction.ReturnValue value) = inl refl

pub begun_is : (d : Option Instruction) → Begun (id_in (kind d)) (result d)
begun_is None = inl refl
begun_is (Some i) = begun_of i

begins_some : (k : Kind) (r : Option ℕ) (id : ℕ) → Begun (id_in k) r → begins k ≡ true → is_id id r ≡ true → id_in k ≡ Some id
begins_some Asks r id begun is defines = absurd (false≢true is)
begins_some Imports r id begun is defines = absurd (false≢true is)
begins_some Sets r id begun is defines = absurd (false≢true is)
begins_some (Enters model function name interface) r id begun is defines = absurd (false≢true is)
begins_some (Modes function mode parts) r id begun is defines = absurd (false≢true is)
begins_some Debugs r id begun is defines = absurd (false≢true is)
begins_some (Decorates d) r id begun is defines = absurd (false≢true is)
begins_some (Declares shape) r id begun is defines = absurd (false≢true is)
begins_some (Fixes type value) r id begun is defines = absurd (false≢true is)
begins_some (Holds v) r id begun is defines = absurd (false≢true is)
begins_some (Begins type made function_type) r id begun is defines =
    ⊎_elim (λ none. absurd (some≢none made none)) (λ same. by_result r same defines) begun
  where
    by_result : (r : Option ℕ) → Some made ≡ r → is_id id r ≡ true → Some made ≡ Some id
    by_result None same e = absurd (some≢none made same)
    by_result (Some n) same e = same ∙ ap Some (eqb-true n id e)
begins_some (Takes type) r id begun is defines = absurd (false≢true is)
begins_some (Calls type function arguments) r id begun is defines = absurd (false≢true is)
begins_some (Gives type) r id begun is defines = absurd (false≢true is)
begins_some Does r id begun is defines = absurd (false≢true is)
begins_some Opens r id begun is defines = absurd (false≢true is)
begins_some Merges r id begun is defines = absurd (false≢true is)
begins_some Leaves r id begun is defines = absurd (false≢true is)
begins_some Ended r id begun is defines = absurd (false≢true is)
begins_some Absent r id begun is defines = absurd (false≢true is)

-- the id of the function that begins
pub begins_it : (i : Instr) (id : ℕ) → (function_begins (read i) && defines i id) ≡ true → id_in (kind (read i)) ≡ Some id
begins_it i id e =
    let p = and_parts (function_begins (read i)) (defines i id) e in
    begins_some (kind (read i)) (result (read i)) id (begun_is (read i)) p.0 p.1
