-- The test of a module's file says whether it has one.
use Rattle.std.proofs.Common.{◌≡◌, ◌⊎◌, inl, inr, ℕ, zero, suc, ◌+◌, ◌<◌, ◌≤◌, ◌^◌, true, false, ◌==◌, ltb, List, [], ◌∷◌, length, take, slice_get, IsSomeAnd, is_some, Option, Some, None, refl, ap, sym, subst, ◌∙◌, arith}
use Rattle.std.specs.List.{AllByRecursion}
use Rattle.std.proofs.lemmas.Bool.{and_from, and_left, and_parts, and_right, cases_Bool, cond-false, eqb-true, le-ltb, lt-ltb, ltb-true}
use Rattle.std.proofs.lemmas.List.Elements.{All-from_recursion, recursion_from_All}
use Rattle.gsl_base.specs.Ranges.{AreWords}
use Rattle.gsl_instr.proofs.Fittings.{passed, passes}
use Rattle.gsl_instr.specs.declared.form.Form.{Form}
use Rattle.gsl_instr.specs.Fitting.{Fits}
use Rattle.gsl_instr.specs.Forms.{allows_words, form_of}
use Rattle.gsl_valid.specs.Placed.{count_of_words, header_size, words_from}
use Rattle.gsl_words.specs.declared.module.Instr.{Instr}
use Rattle.gsl_words.specs.declared.module.Module.{Module}
use Rattle.gsl_words.specs.Faults.{FitsInstr}
use Rattle.gsl_words.specs.Instructions.{HasFile, IsInTable}
use Rattle.gsl_words.specs.declared.target.Target.TheVariants.{V10, V13}
use Rattle.gsl_words.specs.declared.target.TheConstants.{VERSION_1_0, VERSION_1_3}
use Rattle.gsl_words.specs.Versions.{IsKnown, target_of}
use Rattle.gsl_lowered.specs.Filing.{all_fit, fits, fits_form, is_writable}

-- ---- an instruction

fits_is : (op : ℕ) (args : List ℕ) → AreWords args → fits op args ≡ true → Fits op args
unfolding fits
fits_is op args words is = by_form (form_of op) refl is
  where
    by_form : (form : Option Form) → form_of op ≡ form → fits_form form args ≡ true → Fits op args
    by_form None found is = absurd cc
    by_form (Some form) found is =
        let both = and_parts (ltb (1 + length args) (2 ^ 16)) _ is in
        let inner = and_parts (allows_words form (length args)) _ both.1 in
        passed op form args words found (ltb-true _ _ both.0) (inner.0, inner.1)

fits_gives : (op : ℕ) (args : List ℕ) → Fits op args → fits op args ≡ true
unfolding fits
fits_gives op args there =
    let its = passes op there.form args there.found there in
    ap (λ form. fits_form form args) there.found ∙ and_from _ _ (lt-ltb _ _ there.short) (and_from _ _ its.0 its.1)

-- ---- all of them

all_is : (code : List Instr) → AllByRecursion FitsInstr code → all_fit code ≡ true → AllByRecursion IsInTable code
all_is [] types is = tt
all_is (i ∷ code) types is = let both = and_parts (fits i.op i.args) _ is in (fits_is i.op i.args types.0.1 both.0, all_is code types.1 both.1)

all_gives : (code : List Instr) → AllByRecursion IsInTable code → all_fit code ≡ true
all_gives [] there = refl
all_gives (i ∷ code) there = and_from _ _ (fits_gives i.op i.args there.0) (all_gives code there.1)

same_some : {A : Type 0} {a b : A} → ◌≡◌ {A = Option A} (Some a) (Some b) → a ≡ b
same_some e = cc

-- where one does not fit, not all do
one_not : (code : List Instr) (k : ℕ) (i : Instr) → slice_get code k ≡ Some i → fits i.op i.args ≡ false → all_fit code ≡ false
one_not [] k i at unfit = absurd (let never : None ≡ Some i = at in cc)
one_not (j ∷ code) zero i at unfit = and_left _ _ (ap (λ (x : Instr). fits x.op x.args) (same_some at) ∙ unfit)
one_not (j ∷ code) (suc k) i at unfit = and_right (fits j.op j.args) _ (one_not code k i at unfit)

-- one more fits
fit_more : (code : List Instr) (k : ℕ) (i : Instr) → slice_get code k ≡ Some i → all_fit (take k code) ≡ true → fits i.op i.args ≡ true → all_fit (take (suc k) code) ≡ true
fit_more [] k i at before fit = absurd (let never : None ≡ Some i = at in cc)
fit_more (j ∷ code) zero i at before fit = and_from _ _ (ap (λ (x : Instr). fits x.op x.args) (same_some at) ∙ fit) refl
fit_more (j ∷ code) (suc k) i at before fit = let both = and_parts (fits j.op j.args) _ before in and_from _ _ both.0 (fit_more code k i at both.1 fit)

types_more : (code : List Instr) (k : ℕ) (i : Instr) → slice_get code k ≡ Some i → AllByRecursion FitsInstr (take k code) → FitsInstr i → AllByRecursion FitsInstr (take (suc k) code)
types_more [] k i at before fit = absurd (let never : None ≡ Some i = at in cc)
types_more (j ∷ code) zero i at before fit = (subst FitsInstr (sym (same_some at)) fit, tt)
types_more (j ∷ code) (suc k) i at before fit = (before.0, types_more code k i at before.1 fit)

-- ---- words

words_many : (at : ℕ) (code : List Instr) → at + length code ≤ words_from at code
words_many at [] = omega arith
words_many at (i ∷ code) = omega (arith, words_many (at + (1 + length i.args)) code)

words_up : (at k : ℕ) (code : List Instr) → words_from at (take k code) ≤ words_from at code
words_up at zero code = omega (arith, words_many at code)
words_up at (suc k) [] = omega arith
words_up at (suc k) (i ∷ code) = words_up (at + (1 + length i.args)) k code

words_more : (at k : ℕ) (code : List Instr) (i : Instr) → slice_get code k ≡ Some i → words_from at (take (suc k) code) ≡ words_from at (take k code) + (1 + length i.args)
words_more at k [] i there = absurd (let never : None ≡ Some i = there in cc)
words_more at zero (j ∷ code) i there = ap (λ (x : Instr). at + (1 + length x.args)) (same_some there)
words_more at (suc k) (j ∷ code) i there = words_more (at + (1 + length j.args)) k code i there

-- ---- the instruction that is read next

module _ (code : List Instr) (k : ℕ) where
  next : k + 1 ≡ suc k
  next = omega arith

  found : (P : Instr → Type 0) → IsSomeAnd (slice_get code k) P → (i : Instr) × (slice_get code k ≡ Some i) × P i
  found P = by_found (slice_get code k) refl
    where
      by_found : (one : Option Instr) → slice_get code k ≡ one → IsSomeAnd one P → (i : Instr) × (slice_get code k ≡ Some i) × P i
      by_found None at is = absurd is
      by_found (Some i) at is = (i, at, is)

  module _ (args : List ℕ) (args_are : IsSomeAnd (slice_get code k) (λ i. args ≡ i.args)) where
    pub words_next : (words : ℕ) → words ≡ words_from header_size (take k code) → words + (1 + length args) ≡ words_from header_size (take (k + 1) code)
    words_next words before =
        let (i, at, same) = found (λ i. args ≡ i.args) args_are in
        ap (λ (n : ℕ). n + (1 + length args)) before ∙ ap (λ (a : List ℕ). words_from header_size (take k code) + (1 + length a)) same ∙ sym (words_more header_size k code i at) ∙ ap (λ n. words_from header_size (take n code)) (sym next)

    pub too_many : (m : Module) (words : ℕ) → m.instrs ≡ code → words ≡ words_from header_size (take k code) → 4294967295 < words + (1 + length args) → false ≡ ltb (count_of_words m) (2 ^ 32)
    too_many m words is before many =
        sym (le-ltb _ _ (let all : words_from header_size (take (k + 1) code) ≤ words_from header_size code = words_up header_size (k + 1) code in
        let same : count_of_words m ≡ words_from header_size code = ap (words_from header_size) is in omega (arith, words_next words before, all, same, many)))

    module _ (op : ℕ) (op_is : IsSomeAnd (slice_get code k) (λ i. op ≡ i.op)) where
      the_one : (i : Instr) × (slice_get code k ≡ Some i) × (op ≡ i.op) × (args ≡ i.args)
      the_one =
          let (i, at, same) = found (λ i. args ≡ i.args) args_are in
          let (j, there, also) = found (λ i. op ≡ i.op) op_is in
          (i, at, also ∙ ap (λ (x : Instr). x.op) (same_some (sym there ∙ at)), same)

      pub does_not : fits op args ≡ false → false ≡ all_fit code
      does_not unfit =
          let (i, at, op_same, same) = the_one in
          sym (one_not code k i at (sym (ap (λ (x : ℕ). fits x args) op_same ∙ ap (fits i.op) same) ∙ unfit))

      pub does : all_fit (take k code) ≡ true → AllByRecursion FitsInstr (take k code) → fits op args ≡ true → FitsInstr (record { op = op; args = args })
          → (all_fit (take (k + 1) code) ≡ true) × AllByRecursion FitsInstr (take (k + 1) code)
      does before types fit fits_types =
          let (i, at, op_same, same) = the_one in
          subst (λ n. (all_fit (take n code) ≡ true) × AllByRecursion FitsInstr (take n code)) (sym next) (
            fit_more code k i at before (sym (ap (λ (x : ℕ). fits x args) op_same ∙ ap (fits i.op) same) ∙ fit),
            types_more code k i at types (subst (λ (x : ℕ). x < 2 ^ 16) op_same fits_types.0, subst AreWords same fits_types.1),
          )

taken_many : (at k : ℕ) (code : List Instr) → k ≤ length code → at + k ≤ words_from at (take k code)
taken_many at zero code within = omega arith
taken_many at (suc k) [] within = absurd (omega (arith, within))
taken_many at (suc k) (i ∷ code) within = omega (arith, taken_many (at + (1 + length i.args)) k code (omega (arith, within)))

-- so are those up to one of them
pub taken_few : (code : List Instr) (k words : ℕ) → words ≡ words_from header_size (take k code) → words < 2 ^ 32 → k ≤ length code → k < 2 ^ 32
taken_few code k words is short within = omega (arith, is, short, taken_many header_size k code within)

-- a short file has few instructions
pub few : (m : Module) → ltb (count_of_words m) (2 ^ 32) ≡ true → length m.instrs < 2 ^ 32
few m short = omega (arith, words_many header_size m.instrs, ltb-true _ _ short)

-- ---- the module

known_is : (version : ℕ) → is_some (target_of version) ≡ true → IsKnown version
known_is version is =
    elim (cases_Bool (version == VERSION_1_0)) [
      | inl first ↦ (V10, eqb-true _ _ first)
      | inr other ↦ second (cases_Bool (version == VERSION_1_3)) other
    ]
  where
    second : (version == VERSION_1_3 ≡ true) ⊎ (version == VERSION_1_3 ≡ false) → version == VERSION_1_0 ≡ false → IsKnown version
    second (inl third) other = (V13, eqb-true _ _ third)
    second (inr none) other =
        let never : is_some (target_of version) ≡ false = ap is_some (cond-false _ _ _ other ∙ cond-false _ _ _ none) in absurd (let no : true ≡ false = sym is ∙ never in cc)

known_gives : (version : ℕ) → IsKnown version → is_some (target_of version) ≡ true
known_gives version (V10, same) = ap (λ (v : ℕ). is_some (target_of v)) same
known_gives version (V13, same) = ap (λ (v : ℕ). is_some (target_of v)) same

-- what the test takes has a file of so few words
pub writable_is : (m : Module) → AllByRecursion FitsInstr m.instrs → is_writable m ≡ true → HasFile m × (count_of_words m < 2 ^ 32)
writable_is m types is =
    let both = and_parts (is_some (target_of m.version)) _ is in
    let inner = and_parts (ltb (count_of_words m) (2 ^ 32)) _ both.1 in
    (record { version = known_is m.version both.0; instrs = All-from_recursion IsInTable m.instrs (all_is m.instrs types inner.1) }, ltb-true _ _ inner.0)

-- and it takes each that has one
pub writable_gives : (m : Module) → HasFile m → count_of_words m < 2 ^ 32 → is_writable m ≡ true
writable_gives m file few =
    and_from _ _ (known_gives m.version file.version) (and_from _ _ (lt-ltb _ _ few) (all_gives m.instrs (recursion_from_All IsInTable m.instrs file.instrs)))
