-- The pass over types finds what V4 finds.
use Rattle.std.proofs.Common.{◌≡◌, ℕ, Bool, true, false, true≢false, cond, not, ◌||◌, ◌+◌, List, [], ◌∷◌, ◌++◌, length, drop, Option, Some, None, refl, ap, sym, ◌∙◌}
use Rattle.std.specs.Prelude.{◌==◌}
use Rattle.std.specs.List.{list_any}
use Rattle.std.specs.Option.{option_map}
use Rattle.std.specs.Str.{bytes_eq}
use Rattle.std.proofs.lemmas.Bool.{and_parts, eqb-true}
use Rattle.std.proofs.lemmas.List.Folds.{list_any-append}
use Rattle.std.proofs.lemmas.Slice.Eq.{bytes_eq-Decides}
use Rattle.gsl_instr.specs.declared.form.Form.{Form}
use Rattle.gsl_instr.specs.declared.form.Form.TheVariants as form
use Rattle.gsl_instr.specs.Forms.{form_of}
use Rattle.gsl_instr.specs.Instructions.{read_as}
use Rattle.gsl_instr.specs.Instructions as table
use Rattle.gsl_words.specs.declared.module.Instr.{Instr}
use Rattle.gsl_words.specs.declared.module.Module.{Module}
use Rattle.gsl_valid.specs.Instruction.{read}
use Rattle.gsl_valid.specs.Kinds.{Kind, Asks, Imports, Sets, Enters, Modes, Debugs, Decorates, Declares, Fixes, Holds, Begins, Takes, Calls, Gives, Does, Opens, Merges, Leaves, Ended, Absent, kind, shape_in}
use Rattle.gsl_valid.specs.Placed.{Code, Placed, placed, header_size}
use Rattle.gsl_valid.specs.TypeRules.{is_made, is_first, same_type, type_made, types}
use Rattle.gsl_ids.specs.Pass.{first_failed}
use Rattle.gsl_ids.proofs.Passes.{same_place}
use Rattle.gsl_valid_types.specs.TypeKeys.{Key, is_key, is_known, declares, passes, with_key, behind, first_bad}

-- whether a form is that of a type
abbrev type_form : Form → Bool
type_form form.Name = false
type_form form.MemberName = false
type_form form.ExtInstImport = false
type_form form.ExtInst = false
type_form form.MemoryModel = false
type_form form.EntryPoint = false
type_form form.ExecutionMode = false
type_form form.Capability = false
type_form form.TypeVoid = true
type_form form.TypeBool = true
type_form form.TypeInt = true
type_form form.TypeVector = true
type_form form.TypeArray = true
type_form form.TypeRuntimeArray = true
type_form form.TypeStruct = true
type_form form.TypePointer = true
type_form form.TypeFunction = true
type_form form.ConstantTrue = false
type_form form.ConstantFalse = false
type_form form.ConstantNull = false
type_form form.Constant = false
type_form form.ConstantComposite = false
type_form form.CompositeConstruct = false
type_form form.Function = false
type_form form.FunctionParameter = false
type_form form.FunctionEnd = false
type_form form.FunctionCall = false
type_form form.Variable = false
type_form form.Load = false
type_form form.Store = false
type_form form.AccessChain = false
type_form form.ArrayLength = false
type_form form.Decorate = false
type_form form.MemberDecorate = false
type_form form.VectorExtractDynamic = false
type_form form.VectorShuffle = false
type_form form.CompositeExtract = false
type_form form.CompositeInsert = false
type_form form.Unary = false
type_form form.Arithmetic = false
type_form form.Shift = false
type_form form.Logical = false
type_form form.Comparison = false
type_form form.Select = false
type_form form.BitFieldInsert = false
type_form form.BitFieldExtract = false
type_form form.LoopMerge = false
type_form form.SelectionMerge = false
type_form form.Label = false
type_form form.Branch = false
type_form form.BranchConditional = false
type_form form.Switch = false
type_form form.Kill = false
type_form form.Return = false
type_form form.ReturnValue = false

form_declares : (f : Form) (op : ℕ) (args : List ℕ) → declares (kind (Some (read_as f op args))) ≡ type_form f
form_declares form.Name op args = refl
form_declares form.MemberName op args = refl
form_declares form.ExtInstImport op args = refl
form_declares form.ExtInst op args = refl
form_declares form.MemoryModel op args = refl
form_declares form.EntryPoint op args = refl
form_declares form.ExecutionMode op args = refl
form_declares form.Capability op args = refl
form_declares form.TypeVoid op args = refl
form_declares form.TypeBool op args = refl
form_declares form.TypeInt op args = refl
form_declares form.TypeVector op args = refl
form_declares form.TypeArray op args = refl
form_declares form.TypeRuntimeArray op args = refl
form_declares form.TypeStruct op args = refl
form_declares form.TypePointer op args = refl
form_declares form.TypeFunction op args = refl
form_declares form.ConstantTrue op args = refl
form_declares form.ConstantFalse op args = refl
form_declares form.ConstantNull op args = refl
form_declares form.Constant op args = refl
form_declares form.ConstantComposite op args = refl
form_declares form.CompositeConstruct op args = refl
form_declares form.Function op args = refl
form_declares form.FunctionParameter op args = refl
form_declares form.FunctionEnd op args = refl
form_declares form.FunctionCall op args = refl
form_declares form.Variable op args = refl
form_declares form.Load op args = refl
form_declares form.Store op args = refl
form_declares form.AccessChain op args = refl
form_declares form.ArrayLength op args = refl
form_declares form.Decorate op args = refl
form_declares form.MemberDecorate op args = refl
form_declares form.VectorExtractDynamic op args = refl
form_declares form.VectorShuffle op args = refl
form_declares form.CompositeExtract op args = refl
form_declares form.CompositeInsert op args = refl
form_declares form.Unary op args = refl
form_declares form.Arithmetic op args = refl
form_declares form.Shift op args = refl
form_declares form.Logical op args = refl
form_declares form.Comparison op args = refl
form_declares form.Select op args = refl
form_declares form.BitFieldInsert op args = refl
form_declares form.BitFieldExtract op args = refl
form_declares form.LoopMerge op args = refl
form_declares form.SelectionMerge op args = refl
form_declares form.Label op args = refl
form_declares form.Branch op args = refl
form_declares form.BranchConditional op args = refl
form_declares form.Switch op args = refl
form_declares form.Kill op args = refl
form_declares form.Return op args = refl
form_declares form.ReturnValue op args = refl

-- whether an opcode declares a type, by its form
abbrev by_form : Option Form → Bool
by_form None = false
by_form (Some f) = type_form f

op_declares : (op : ℕ) (args : List ℕ) → declares (kind (table.read op args)) ≡ by_form (form_of op)
op_declares op args = by_cases (form_of op)
  where
    by_cases : (f : Option Form) → declares (kind (option_map (λ form. read_as form op args) f)) ≡ by_form f
    by_cases None = refl
    by_cases (Some f) = form_declares f op args

pub counted : (m : Module) (known : List Key) (at : ℕ) (ps : List Placed) → first_bad m known ps ≡ first_failed (passes m) behind known at ps
unfolding first_bad first_failed
counted m known at [] = refl
counted m known at (p ∷ ps) = ap (λ later. cond (passes m known 0 p.instr) later (Some p.at)) (counted m (behind known 0 p.instr) (at + 1) ps)

-- Instructions of one opcode and the same operands are alike.
alike : (i j : Instr) → same_type j i ≡ true → (j.op ≡ i.op) × (drop 1 j.args ≡ drop 1 i.args)
alike i j e =
    let parts = and_parts (j.op == i.op) (bytes_eq (drop 1 j.args) (drop 1 i.args)) e in
    (eqb-true j.op i.op parts.0, (bytes_eq-Decides (drop 1 j.args) (drop 1 i.args)).0 parts.1)

other : (i j : Instr) → declares (kind (read j)) ≡ true → declares (kind (read i)) ≡ false → same_type j i ≡ false
other i j is none = by_cases (same_type j i) refl
  where
    by_cases : (b : Bool) → same_type j i ≡ b → b ≡ false
    by_cases false e = refl
    by_cases true e =
        absurd (true≢false (sym is ∙ op_declares j.op j.args ∙ ap (λ op. by_form (form_of op)) (alike i j e).0 ∙ sym (op_declares i.op i.args) ∙ none))

-- What is known tells of types what the instructions before tell.
abbrev pub Tells : Code → Code → List Key → Type 0
Tells before code known = (j : Instr) → declares (kind (read j)) ≡ true → is_known known j ≡ list_any (same_type j) before

module _ (before : Code) (known : List Key) (i : Instr) (tells : (j : Instr) → declares (kind (read j)) ≡ true → is_known known j ≡ list_any (same_type j) before) where
  or_last : (a b : Bool) → (a || (b || false)) ≡ (b || a)
  or_last true true = refl
  or_last true false = refl
  or_last false true = refl
  or_last false false = refl

  or_both : (a b : Bool) → (b ≡ true → a ≡ true) → a ≡ (b || a)
  or_both a true all = all refl
  or_both a false all = refl

  grown : (j : Instr) → is_known (with_key known i) j ≡ (same_type j i || is_known known j)
  grown j = by_cases (is_known known i) refl
    where
      by_cases : (b : Bool) → is_known known i ≡ b → is_known (cond b known (known ++ record { op = i.op; operands = drop 1 i.args } ∷ [])) j ≡ (same_type j i || is_known known j)
      by_cases true e =
          or_both (is_known known j) (same_type j i)
          (λ same. ap (λ op. list_any (is_key op (drop 1 j.args)) known) (alike i j same).0 ∙ ap (λ l. list_any (is_key i.op l) known) (alike i j same).1 ∙ e)
      by_cases false e =
          list_any-append (is_key j.op (drop 1 j.args)) known (record { op = i.op; operands = drop 1 i.args } ∷ []) ∙ or_last (is_known known j) (same_type j i)

  pub tells_on : Tells (i ∷ before) [] (behind known 0 i)
  tells_on j is = by_cases (declares (kind (read i))) refl
    where
      by_cases : (b : Bool) → declares (kind (read i)) ≡ b → is_known (cond b (with_key known i) known) j ≡ (same_type j i || list_any (same_type j) before)
      by_cases true e = grown j ∙ ap (λ b. same_type j i || b) (tells j is)
      by_cases false e = tells j is ∙ sym (ap (λ b. b || list_any (same_type j) before) (other i j is e))

module _ (m : Module) where
  -- what declares no type is kept, whatever was declared before
  no_type : (a b : Bool) (k : Kind) → declares k ≡ false → is_made m a (shape_in k) ≡ is_made m b (shape_in k)
  no_type a b Asks e = refl
  no_type a b Imports e = refl
  no_type a b Sets e = refl
  no_type a b (Enters model function name interface) e = refl
  no_type a b (Modes function mode parts) e = refl
  no_type a b Debugs e = refl
  no_type a b (Decorates d) e = refl
  no_type a b (Declares shape) e = absurd (cc)
  no_type a b (Fixes type value) e = refl
  no_type a b (Holds v) e = refl
  no_type a b (Begins type id function_type) e = refl
  no_type a b (Takes type) e = refl
  no_type a b (Calls type function arguments) e = refl
  no_type a b (Gives type) e = refl
  no_type a b Does e = refl
  no_type a b Opens e = refl
  no_type a b Merges e = refl
  no_type a b Leaves e = refl
  no_type a b Ended e = refl
  no_type a b Absent e = refl

  agrees : (before code : Code) (known : List Key) (i : Instr) → Tells before (i ∷ code) known → passes m known (length before) i ≡ type_made m before i
  agrees before code known i tells = by_cases (declares (kind (read i))) refl
    where
      by_cases : (b : Bool) → declares (kind (read i)) ≡ b → passes m known (length before) i ≡ type_made m before i
      by_cases true e = ap (λ b. is_made m (not b) (shape_in (kind (read i)))) (tells i e)
      by_cases false e = no_type (not (is_known known i)) (is_first before i) (kind (read i)) e

  goes_on : (before code : Code) (known : List Key) (i : Instr) → Tells before (i ∷ code) known → type_made m before i ≡ true → Tells (i ∷ before) code (behind known (length before) i)
  goes_on before code known i tells passed = tells_on before known i tells

  pub finds : first_failed (passes m) behind [] 0 (placed m) ≡ types m
  finds = same_place (passes m) behind (type_made m) Tells agrees goes_on [] [] 0 header_size m.instrs refl (λ j is. refl)
