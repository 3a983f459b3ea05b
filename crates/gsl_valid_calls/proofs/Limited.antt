-- The pass over the limits finds what V18 finds.
use Rattle.std.proofs.Common.{◌≡◌, ℕ, ◌+◌, ◌<◌, ◌≤◌, Bool, true, false, cond, ◌&&◌, ◌/◌, min, max, map, set, get_or, replicate, List, [], ◌∷◌, length, drop, Option, Some, None, zero, suc, ◌⊎◌, inl, inr, refl, ap, sym, ◌∙◌, arith}
use Rattle.std.specs.Prelude.{nat_lt, nat_le, fold, slice_index}
use Rattle.std.proofs.lemmas.Bool.{lt-ltb, le-ltb, le-leb, lt-leb, cases_lt}
use Rattle.std.proofs.lemmas.List.{length-set}
use Rattle.gsl_instr.specs.Instructions.{seconds}
use Rattle.gsl_instr.specs.declared.instruction.Instruction.{Instruction}
use Rattle.gsl_instr.specs.declared.instruction.Instruction.TheVariants as instruction
use Rattle.gsl_words.specs.declared.module.Instr.{Instr}
use Rattle.gsl_words.specs.declared.module.Module.{Module}
use Rattle.gsl_valid.specs.Instruction.{read, passes_if}
use Rattle.gsl_valid.specs.Ids.{result, defines}
use Rattle.gsl_valid.specs.IdsDefinedOnce.{ids_defined_once}
use Rattle.gsl_valid.specs.LimitRules.{within_limits, most_members, most_pairs, limits}
use Rattle.gsl_valid.specs.LimitRules as rule
use Rattle.gsl_valid.specs.Placed.{Code, placed, header_size}
use Rattle.gsl_valid.specs.Types.{height, highest, parts_of}
use Rattle.gsl_ids.specs.Pass.{first_failed}
use Rattle.gsl_ids.proofs.Passes.{same_place}
use Rattle.gsl_ids.proofs.Rows.{below}
use Rattle.gsl_valid_calls.specs.Heights.{height_over, with_height, heights_after, is_low}
use Rattle.gsl_valid_calls.specs.Limits.{Kept, at_first, is_within, passes, behind}
use Rattle.gsl_valid_calls.proofs.Rows.{zeros, one_less, none_put, one_put}

-- the heights of the types that are declared so far
abbrev Heights : List ℕ → Code → Type 0
Heights rows before = (id : ℕ) → get_or rows id 0 ≡ min 66 (height before id)

low_from : (f g : ℕ → ℕ) → ((x : ℕ) → f x ≡ min 66 (g x)) → (a b : ℕ) → a ≡ min 66 b → (xs : List ℕ) → fold max a (map f xs) ≡ min 66 (fold max b (map g xs))
low_from f g same a b e [] = e
low_from f g same a b e (x ∷ xs) = let s = same x in low_from f g same (max a (f x)) (max b (g x)) (omega (arith, e, s)) xs

pub halves : (words : List ℕ) → length (seconds words) ≡ length words / 2
halves [] = refl
halves (a ∷ []) = refl
halves (a ∷ b ∷ words) = let h = halves words in omega (arith, h)

capped_low : (h : ℕ) → nat_lt (min 66 h) 65 ≡ nat_le (1 + h) 65
capped_low h = by_cases (cases_lt h 65)
  where
    by_cases : (h < 65) ⊎ (65 ≤ h) → nat_lt (min 66 h) 65 ≡ nat_le (1 + h) 65
    by_cases (inl low) = lt-ltb (min 66 h) 65 (omega (arith, low)) ∙ sym (le-leb (1 + h) 65 (omega (arith, low)))
    by_cases (inr high) = le-ltb (min 66 h) 65 (omega (arith, high)) ∙ sym (lt-leb (1 + h) 65 (omega (arith, high)))

module _ (rows : List ℕ) (before : Code) (heights : Heights rows before) where
  highest_is : (parts : List ℕ) → highest (map (slice_index rows) parts) ≡ min 66 (highest (map (height before) parts))
  highest_is parts = low_from (slice_index rows) (height before) heights 0 0 (omega arith) parts

  low_same : (parts : List ℕ) → is_low rows parts ≡ rule.is_low before parts
  low_same parts = ap (λ h. nat_lt h 65) (highest_is parts) ∙ capped_low (highest (map (height before) parts))

  over_same : (parts : List ℕ) → height_over rows parts ≡ min 66 (1 + highest (map (height before) parts))
  over_same parts = let h = highest_is parts in omega (arith, h)

  raised : (b : Bool) (a c : ℕ) → cond b (min 66 a) (min 66 c) ≡ min 66 (cond b a c)
  raised true a c = refl
  raised false a c = refl

  next_heights : (i : Instr) → ((r : ℕ) → result (read i) ≡ Some r → r < length rows) → Heights (heights_after rows i) (i ∷ before)
  next_heights i room id = by_result (result (read i)) refl
    where
      by_result : (r : Option ℕ) → result (read i) ≡ r → get_or (with_height rows r (height_over rows (parts_of (read i)))) id 0 ≡ min 66 (height (i ∷ before) id)
      by_result None e =
          none_put rows i (λ k. min 66 (height before k)) (λ k. min 66 (1 + highest (map (height before) (parts_of (read i))))) heights e id ∙ raised (defines i id) _ _
      by_result (Some r) e =
          ap (λ h. get_or (set rows r h) id 0) (over_same (parts_of (read i)))
          ∙ one_put rows i (λ k. min 66 (height before k)) (λ k. min 66 (1 + highest (map (height before) (parts_of (read i))))) heights r (room r e) e id
          ∙ raised (defines i id) _ _

  module _ (m : Module) where
    within_same : (i : Instruction) → is_within m rows (length before) i ≡ rule.is_within m before i
    within_same (instruction.Name target text) = refl
    within_same (instruction.MemberName target member text) = refl
    within_same (instruction.ExtInstImport result name) = refl
    within_same (instruction.ExtInst type result set number operands) = refl
    within_same (instruction.MemoryModel addressing memory) = refl
    within_same (instruction.EntryPoint model function name interface) = refl
    within_same (instruction.ExecutionMode function mode parts) = refl
    within_same (instruction.Capability capability) = refl
    within_same (instruction.TypeVoid result) = refl
    within_same (instruction.TypeBool result) = refl
    within_same (instruction.TypeInt result width signedness) = refl
    within_same (instruction.TypeVector result component count) = refl
    within_same (instruction.TypeArray result element count) = low_same (element ∷ [])
    within_same (instruction.TypeRuntimeArray result element) = low_same (element ∷ [])
    within_same (instruction.TypeStruct result members) = ap (λ b. nat_le (length members) most_members && b) (low_same members)
    within_same (instruction.TypePointer result class pointee) = refl
    within_same (instruction.TypeFunction result returned parameters) = refl
    within_same (instruction.ConstantTrue type result) = refl
    within_same (instruction.ConstantFalse type result) = refl
    within_same (instruction.ConstantNull type result) = refl
    within_same (instruction.Constant type result value) = refl
    within_same (instruction.ConstantComposite type result parts) = refl
    within_same (instruction.CompositeConstruct type result parts) = refl
    within_same (instruction.Function type result control function_type) = refl
    within_same (instruction.FunctionParameter type result) = refl
    within_same instruction.FunctionEnd = refl
    within_same (instruction.FunctionCall type result function arguments) = refl
    within_same (instruction.Variable type result class initialiser) = refl
    within_same (instruction.Load type result pointer) = refl
    within_same (instruction.Store pointer value) = refl
    within_same (instruction.AccessChain type result base indexes) = refl
    within_same (instruction.ArrayLength type result pointer member) = refl
    within_same (instruction.Decorate target decoration literals) = refl
    within_same (instruction.MemberDecorate target member decoration literals) = refl
    within_same (instruction.VectorExtractDynamic type result vector index) = refl
    within_same (instruction.VectorShuffle type result first second components) = refl
    within_same (instruction.CompositeExtract type result composite indexes) = refl
    within_same (instruction.CompositeInsert type result part composite indexes) = refl
    within_same (instruction.Unary op type result a) = refl
    within_same (instruction.Arithmetic op type result a b) = refl
    within_same (instruction.Shift op type result base shift) = refl
    within_same (instruction.Logical op type result a b) = refl
    within_same (instruction.Comparison op type result a b) = refl
    within_same (instruction.Select type result condition a b) = refl
    within_same (instruction.BitFieldInsert type result base insert offset count) = refl
    within_same (instruction.BitFieldExtract op type result base offset count) = refl
    within_same (instruction.LoopMerge merge continue_target control) = refl
    within_same (instruction.SelectionMerge merge control) = refl
    within_same (instruction.Label result) = refl
    within_same (instruction.Branch target) = refl
    within_same (instruction.BranchConditional condition on_true on_false) = refl
    within_same (instruction.Switch selector default targets) = ap (λ n. nat_le n most_pairs) (sym (halves targets))
    within_same instruction.Kill = refl
    within_same instruction.Return = refl
    within_same (instruction.ReturnValue value) = refl

    all_same : (i : Option Instruction) → passes_if (is_within m rows (length before)) i ≡ passes_if (rule.is_within m before) i
    all_same None = refl
    all_same (Some i) = within_same i

module _ (m : Module) (once : ids_defined_once m ≡ None) where
  -- What the pass keeps.
  record Tells (before code : Code) (s : Kept) : Type 0 where
    same : s.of ≡ m
    stands : drop (length before) m.instrs ≡ code
    room : length s.heights ≡ m.bound
    heights : Heights s.heights before

  agrees : (before code : Code) (s : Kept) (i : Instr) → Tells before (i ∷ code) s → passes s (length before) i ≡ within_limits m before i
  agrees before code s i t =
      ap (λ n. passes_if (is_within n s.heights (length before)) (read i)) t.same ∙ all_same s.heights before t.heights m (read i)

  as_long : (rows : List ℕ) (r : Option ℕ) (h : ℕ) → length (with_height rows r h) ≡ length rows
  as_long rows None h = refl
  as_long rows (Some r) h = length-set rows r h

  goes_on : (before code : Code) (s : Kept) (i : Instr) → Tells before (i ∷ code) s → within_limits m before i ≡ true → Tells (i ∷ before) code (behind s (length before) i)
  goes_on before code s i t passed =
      let cut = one_less m.instrs code (length before) i t.stands in
      let here : drop (length before) m.instrs ≡ i ∷ drop (length before + 1) m.instrs = t.stands ∙ ap (λ c. i ∷ c) (sym cut) in
      let next : length before + 1 ≡ length (i ∷ before) = omega arith in
      let room = t.room in
      record {
        same = t.same;
        stands = ap (λ n. drop n m.instrs) (sym next) ∙ cut;
        room = as_long s.heights (result (read i)) _ ∙ t.room;
        heights = next_heights s.heights before t.heights i (λ r e. let low = below m (length before) i r here e once in omega (arith, low, room));
      }

  pub finds : first_failed passes behind (at_first m) 0 (placed m) ≡ limits m
  finds =
      same_place passes behind (within_limits m) Tells agrees goes_on [] (at_first m) 0 header_size m.instrs refl
      (record { same = refl; stands = refl; room = as_many m.bound; heights = λ id. zeros m.bound id ∙ (let z : 0 ≡ min 66 0 = omega arith in z) })
    where
      as_many : (n : ℕ) → length {A = ℕ} (replicate n 0) ≡ n
      as_many zero = refl
      as_many (suc n) = ap suc (as_many n)
