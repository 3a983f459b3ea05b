-- The count of instructions suffices as a count of calls: as long as one call more reaches a function from another, it reaches it from one more of them.
use Rattle.std.proofs.Common.{◌≡◌, sym, ap, ◌∙◌, refl, ℕ, zero, suc, ◌+◌, ◌-◌, ◌<◌, ◌≤◌, ◌⊎◌, inl, inr, Bool, true, false, ◌||◌, ◌&&◌, List, [], ◌∷◌, length, subst, ⊎_elim, arith}
use Rattle.std.specs.Prelude.{nat_eq, cond, Option, Some, None}
use Rattle.std.specs.List.{list_any, AllByRecursion}
use Rattle.std.proofs.lemmas.Bool.{and_parts, or_cases, or_left, or_right, true≢false, eqb-true, cases_Bool}
use Rattle.gsl_words.specs.declared.module.Instr.{Instr}
use Rattle.gsl_valid.specs.Instruction.{read}
use Rattle.gsl_valid.specs.Ids.{result, is_id, defines}
use Rattle.gsl_valid.specs.Placed.{Code}
use Rattle.gsl_valid.specs.Types.{function_begins}
use Rattle.gsl_valid.specs.CallRules.{called, called_by, reaches_by}
use Rattle.gsl_ids.proofs.Numbers.{or_false}

-- ---- tests of which one follows from the other

pub any_more : {A : Type 0} (p q : A → Bool) → ((a : A) → p a ≡ true → q a ≡ true) → (items : List A) → list_any p items ≡ true → list_any q items ≡ true
any_more p q more [] e = e
any_more p q more (a ∷ items) e =
    ⊎_elim (λ here. or_left (q a) (list_any q items) (more a here)) (λ later. or_right (q a) (list_any q items) (any_more p q more items later))
    (or_cases (p a) (list_any p items) e)

pub any_same : {A : Type 0} (p q : A → Bool) → ((a : A) → p a ≡ q a) → (items : List A) → list_any p items ≡ list_any q items
any_same p q same [] = refl
any_same p q same (a ∷ items) = ap (λ b. b || list_any p items) (same a) ∙ ap (λ b. q a || b) (any_same p q same items)

-- how many pass
abbrev one_for : Bool → ℕ
one_for true = 1
one_for false = 0

abbrev passing : {A : Type 0} → (A → Bool) → List A → ℕ
passing p [] = 0
passing p (a ∷ items) = one_for (p a) + passing p items

one_at_most : (b : Bool) → one_for b ≤ 1
one_at_most true = omega arith
one_at_most false = omega arith

passing_few : {A : Type 0} (p : A → Bool) (items : List A) → passing p items ≤ length items
passing_few p [] = omega arith
passing_few p (a ∷ items) = omega (arith, one_at_most (p a), passing_few p items)

one_more : (b c : Bool) → (b ≡ true → c ≡ true) → (b ≡ c) ⊎ (one_for b < one_for c)
one_more true true more = inl refl
one_more true false more = absurd (true≢false (sym (more refl)))
one_more false true more = inr (omega arith)
one_more false false more = inl refl

one_less : (b c : Bool) → (b ≡ true → c ≡ true) → one_for b ≤ one_for c
one_less true true more = omega arith
one_less true false more = absurd (true≢false (sym (more refl)))
one_less false true more = omega arith
one_less false false more = omega arith

passing_less : {A : Type 0} (p q : A → Bool) → ((a : A) → p a ≡ true → q a ≡ true) → (items : List A) → passing p items ≤ passing q items
passing_less p q more [] = omega arith
passing_less p q more (a ∷ items) = omega (arith, one_less (p a) (q a) (more a), passing_less p q more items)

-- either they are the same test of all, or more pass the second
same_or_more : {A : Type 0} (p q : A → Bool) → ((a : A) → p a ≡ true → q a ≡ true) → (items : List A) → AllByRecursion (λ a. p a ≡ q a) items ⊎ (passing p items < passing q items)
same_or_more p q more [] = inl tt
same_or_more p q more (a ∷ items) =
    ⊎_elim
    (λ same. ⊎_elim (λ rest. inl (same, rest)) (λ less. inr (omega (arith, one_less (p a) (q a) (more a), less))) (same_or_more p q more items))
    (λ less. inr (omega (arith, less, passing_less p q more items)))
    (one_more (p a) (q a) (more a))

-- ---- calls

module _ (code : Code) (id : ℕ) where
  abbrev within : ℕ → ℕ → Bool
  within most from = reaches_by code most from id

  -- with more calls, more are reached
  later : (most from : ℕ) → within most from ≡ true → within (suc most) from ≡ true
  unfolding reaches_by
  later zero from e = or_left (nat_eq from id) (list_any (within zero) (called_by code from)) e
  later (suc most) from e =
      ⊎_elim (or_left (nat_eq from id) (list_any (within (suc most)) (called_by code from)))
      (λ on. or_right (nat_eq from id) (list_any (within (suc most)) (called_by code from)) (any_more (within most) (within (suc most)) (later most) (called_by code from) on))
      (or_cases (nat_eq from id) (list_any (within most) (called_by code from)) e)

  abbrev adding : ℕ → ℕ → ℕ
  adding zero most = most
  adding (suc more) most = suc (adding more most)

  adding_is : (more most : ℕ) → adding more most ≡ more + most
  adding_is zero most = omega arith
  adding_is (suc more) most = omega (arith, adding_is more most)

  later_by : (more most from : ℕ) → within most from ≡ true → within (adding more most) from ≡ true
  later_by zero most from e = e
  later_by (suc more) most from e = later (adding more most) from (later_by more most from e)

  -- one call more reaches nothing more
  abbrev Stable : ℕ → Type 0
  Stable most = (from : ℕ) → within (suc most) from ≡ within most from

  stays : (most : ℕ) → Stable most → Stable (suc most)
  unfolding reaches_by
  stays most same from = ap (λ b. nat_eq from id || b) (any_same (within (suc most)) (within most) same (called_by code from))

  keeps : (more most : ℕ) → Stable most → Stable (adding more most)
  keeps zero most same = same
  keeps (suc more) most same = stays (adding more most) (keeps more most same)

  stays_by : (more most : ℕ) → Stable most → (from : ℕ) → within (adding more most) from ≡ within most from
  stays_by zero most same from = refl
  stays_by (suc more) most same from = keeps more most same from ∙ stays_by more most same from

  -- what calls nothing reaches itself alone
  none_within : (most from : ℕ) → called_by code from ≡ [] → within most from ≡ nat_eq from id
  unfolding reaches_by
  none_within zero from none = refl
  none_within (suc most) from none = ap (λ l. nat_eq from id || list_any (within most) l) none ∙ or_false (nat_eq from id)

  abbrev within_if : ℕ → Option ℕ → Bool
  within_if most None = false
  within_if most (Some r) = within most r

  abbrev at_instr : ℕ → Instr → Bool
  at_instr most i = within_if most (result (read i))

  abbrev Same : ℕ → Code → Type 0
  Same most part = AllByRecursion (λ (i : Instr). at_instr most i ≡ at_instr (suc most) i) part

  same_at : (most from : ℕ) (r : Option ℕ) → within_if most r ≡ within_if (suc most) r → is_id from r ≡ true → within most from ≡ within (suc most) from
  same_at most from None same is = absurd (true≢false (sym is))
  same_at most from (Some r) same is = subst (λ h. within most h ≡ within (suc most) h) (eqb-true r from is) same

  known : (most : ℕ) (part : Code) → Same most part → (from : ℕ) → (called_by part from ≡ []) ⊎ (within most from ≡ within (suc most) from)
  known most [] same from = inl refl
  known most (i ∷ part) (same, rest) from = by_cases (function_begins (read i) && defines i from) refl (known most part rest from)
    where
      by_cases : (b : Bool) → (function_begins (read i) && defines i from) ≡ b → (called_by part from ≡ []) ⊎ (within most from ≡ within (suc most) from) →
          (cond b (called part) (called_by part from) ≡ []) ⊎ (within most from ≡ within (suc most) from)
      by_cases true e others = inr (same_at most from (result (read i)) same (and_parts (function_begins (read i)) (defines i from) e).1)
      by_cases false e others = others

  stable_at : (most : ℕ) → Same most code → Stable most
  stable_at most same from = ⊎_elim (λ none. none_within (suc most) from none ∙ sym (none_within most from none)) sym (known most code same from)

  record Early (n : ℕ) : Type 0 where
    at : ℕ
    before : at < n
    stable : Stable at

  later_if : (most : ℕ) (r : Option ℕ) → within_if most r ≡ true → within_if (suc most) r ≡ true
  later_if most None e = e
  later_if most (Some r) e = later most r e

  grows : (n : ℕ) → Early n ⊎ (n ≤ passing (at_instr n) code)
  grows zero = inr (omega arith)
  grows (suc n) =
      ⊎_elim (λ early. inl (record { at = early.at; before = omega (arith, early.before); stable = early.stable }))
      (λ many. ⊎_elim (λ same. inl (record { at = n; before = omega arith; stable = stable_at n same })) (λ less. inr (omega (arith, many, less)))
      (same_or_more (at_instr n) (at_instr (suc n)) (λ i e. later_if n (result (read i)) e) code))
      (grows n)

  settled : (early : Early (suc (length code))) (most from : ℕ) → within most from ≡ true → within (length code) from ≡ true
  settled early most from e =
      let swapped : adding early.at most ≡ adding most early.at = omega (arith, adding_is early.at most, adding_is most early.at) in
      let there : within early.at from ≡ true = sym (stays_by most early.at early.stable from) ∙ subst (λ n. within n from ≡ true) swapped (later_by early.at most from e) in
      let rest : adding (length code - early.at) early.at ≡ length code = omega (arith, adding_is (length code - early.at) early.at, early.before) in
      subst (λ n. within n from ≡ true) rest (later_by (length code - early.at) early.at from there)

  -- what is reached by any count of calls is by this
  pub enough : (most from : ℕ) → within most from ≡ true → within (length code) from ≡ true
  enough most from e =
      ⊎_elim (λ early. settled early most from e) (λ many. absurd (omega (arith, many, passing_few (at_instr (suc (length code))) code)))
      (grows (suc (length code)))
