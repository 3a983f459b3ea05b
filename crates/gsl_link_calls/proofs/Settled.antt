-- The count of functions suffices as a count of calls: as long as one call more reaches another function, it reaches one more of them.
use Rattle.std.proofs.Common.{◌≡◌, sym, ap, ◌∙◌, refl, ℕ, zero, suc, ◌+◌, ◌-◌, ◌<◌, ◌≤◌, ◌⊎◌, inl, inr, Bool, true, false, ◌||◌, nat_eq, List, [], ◌∷◌, length, subst, ⊎_elim, arith}
use Rattle.std.specs.Prelude.{if◌then◌else◌}
use Rattle.std.specs.List.{list_any, AllByRecursion}
use Rattle.std.proofs.lemmas.Bool.{or_cases, or_left, or_right, true≢false, eqb-true, cases_Bool}
use Rattle.gsl_tree.specs.declared.unit.Function.{Function}
use Rattle.gsl_tree.specs.Weights.{calls_of}
use Rattle.gsl_link_calls.specs.Calls.{Reaches, called_by, reaches_within, reaches}
use Rattle.gsl_link_calls.proofs.Reached.{counted}

-- ---- tests of which one follows from the other

any_more : {A : Type 0} (p q : A → Bool) → ((a : A) → p a ≡ true → q a ≡ true) → (items : List A) → list_any p items ≡ true → list_any q items ≡ true
any_more p q more [] e = e
any_more p q more (a ∷ items) e =
    ⊎_elim (λ here. or_left (q a) (list_any q items) (more a here)) (λ later. or_right (q a) (list_any q items) (any_more p q more items later))
    (or_cases (p a) (list_any p items) e)

any_same : {A : Type 0} (p q : A → Bool) → ((a : A) → p a ≡ q a) → (items : List A) → list_any p items ≡ list_any q items
any_same p q same [] = refl
any_same p q same (a ∷ items) = ap (λ b. b || list_any p items) (same a) ∙ ap (λ b. q a || b) (any_same p q same items)

-- how many pass
abbrev one_for : Bool → ℕ
one_for true = 1
one_for false = 0

abbrev passing : {A : Type 0} → (A → Bool) → List A → ℕ
passing p [] = 0
passing p (a ∷ items) = one_for (p a) + passing p items

one_at_most : (b : Bool) → one_for b ≤ 1
one_at_most true = omega arith
one_at_most false = omega arith

passing_few : {A : Type 0} (p : A → Bool) (items : List A) → passing p items ≤ length items
passing_few p [] = omega arith
passing_few p (a ∷ items) = omega (arith, one_at_most (p a), passing_few p items)

one_more : (b c : Bool) → (b ≡ true → c ≡ true) → (b ≡ c) ⊎ (one_for b < one_for c)
one_more true true more = inl refl
one_more true false more = absurd (true≢false (sym (more refl)))
one_more false true more = inr (omega arith)
one_more false false more = inl refl

one_less : (b c : Bool) → (b ≡ true → c ≡ true) → one_for b ≤ one_for c
one_less true true more = omega arith
one_less true false more = absurd (true≢false (sym (more refl)))
one_less false true more = omega arith
one_less false false more = omega arith

passing_less : {A : Type 0} (p q : A → Bool) → ((a : A) → p a ≡ true → q a ≡ true) → (items : List A) → passing p items ≤ passing q items
passing_less p q more [] = omega arith
passing_less p q more (a ∷ items) = omega (arith, one_less (p a) (q a) (more a), passing_less p q more items)

-- either they are the same test of all, or more pass the second
same_or_more : {A : Type 0} (p q : A → Bool) → ((a : A) → p a ≡ true → q a ≡ true) → (items : List A) → AllByRecursion (λ a. p a ≡ q a) items ⊎ (passing p items < passing q items)
same_or_more p q more [] = inl tt
same_or_more p q more (a ∷ items) =
    ⊎_elim
    (λ same. ⊎_elim (λ rest. inl (same, rest)) (λ less. inr (omega (arith, one_less (p a) (q a) (more a), less))) (same_or_more p q more items))
    (λ less. inr (omega (arith, less, passing_less p q more items)))
    (one_more (p a) (q a) (more a))

-- ---- calls

module _ (functions : List Function) (head : ℕ) where
  abbrev within : ℕ → ℕ → Bool
  within most from = reaches_within functions most from head

  abbrev leads : ℕ → ℕ → Bool
  leads most next = nat_eq next head || within most next

  step : (most : ℕ) → ((next : ℕ) → within most next ≡ true → within (suc most) next ≡ true) → (next : ℕ) → leads most next ≡ true → leads (suc most) next ≡ true
  step most on next e =
      ⊎_elim (or_left (nat_eq next head) (within (suc most) next)) (λ reached. or_right (nat_eq next head) (within (suc most) next) (on next reached))
      (or_cases (nat_eq next head) (within most next) e)

  -- with more calls, more are reached
  later : (most from : ℕ) → within most from ≡ true → within (suc most) from ≡ true
  unfolding reaches_within
  later zero from e = absurd (true≢false (sym e))
  later (suc most) from e = any_more (leads most) (leads (suc most)) (step most (later most)) (called_by functions from) e

  abbrev adding : ℕ → ℕ → ℕ
  adding zero most = most
  adding (suc more) most = suc (adding more most)

  adding_is : (more most : ℕ) → adding more most ≡ more + most
  adding_is zero most = omega arith
  adding_is (suc more) most = omega (arith, adding_is more most)

  later_by : (more most from : ℕ) → within most from ≡ true → within (adding more most) from ≡ true
  later_by zero most from e = e
  later_by (suc more) most from e = later (adding more most) from (later_by more most from e)

  -- one call more reaches nothing more
  abbrev Stable : ℕ → Type 0
  Stable most = (from : ℕ) → within (suc most) from ≡ within most from

  stays : (most : ℕ) → Stable most → Stable (suc most)
  unfolding reaches_within
  stays most same from = any_same (leads (suc most)) (leads most) (λ next. ap (λ b. nat_eq next head || b) (same next)) (called_by functions from)

  keeps : (more most : ℕ) → Stable most → Stable (adding more most)
  keeps zero most same = same
  keeps (suc more) most same = stays (adding more most) (keeps more most same)

  stays_by : (more most : ℕ) → Stable most → (from : ℕ) → within (adding more most) from ≡ within most from
  stays_by zero most same from = refl
  stays_by (suc more) most same from = keeps more most same from ∙ stays_by more most same from

  -- a head without a function calls nothing
  none_within : (most from : ℕ) → called_by functions from ≡ [] → within most from ≡ false
  unfolding reaches_within
  none_within zero from none = refl
  none_within (suc most) from none = ap (list_any (leads most)) none

  abbrev at_function : ℕ → Function → Bool
  at_function most f = within most f.prototype

  abbrev Same : ℕ → List Function → Type 0
  Same most fs = AllByRecursion (λ (f : Function). at_function most f ≡ at_function (suc most) f) fs

  known : (most : ℕ) (fs : List Function) → Same most fs → (from : ℕ) → (called_by fs from ≡ []) ⊎ (within most from ≡ within (suc most) from)
  known most [] same from = inl refl
  known most (f ∷ fs) (same, rest) from =
      ⊎_elim (λ found. inr (subst (λ h. within most h ≡ within (suc most) h) (eqb-true f.prototype from found) same))
      (λ other. ⊎_elim (λ none. inl (ap (λ b. if b then calls_of f else called_by fs from) other ∙ none)) inr (known most fs rest from))
      (cases_Bool (nat_eq f.prototype from))

  stable_at : (most : ℕ) → Same most functions → Stable most
  stable_at most same from = ⊎_elim (λ none. none_within (suc most) from none ∙ sym (none_within most from none)) sym (known most functions same from)

  record Early (n : ℕ) : Type 0 where
    at : ℕ
    before : at < n
    stable : Stable at

  grows : (n : ℕ) → Early n ⊎ (n ≤ passing (at_function n) functions)
  grows zero = inr (omega arith)
  grows (suc n) =
      ⊎_elim (λ early. inl (record { at = early.at; before = omega (arith, early.before); stable = early.stable }))
      (λ many. ⊎_elim (λ same. inl (record { at = n; before = omega arith; stable = stable_at n same })) (λ less. inr (omega (arith, many, less)))
      (same_or_more (at_function n) (at_function (suc n)) (λ f e. later n f.prototype e) functions))
      (grows n)

  settled : (early : Early (suc (length functions))) (most from : ℕ) → within most from ≡ true → within (length functions) from ≡ true
  settled early most from e =
      let swapped : adding early.at most ≡ adding most early.at = omega (arith, adding_is early.at most, adding_is most early.at) in
      let there : within early.at from ≡ true = sym (stays_by most early.at early.stable from) ∙ subst (λ n. within n from ≡ true) swapped (later_by early.at most from e) in
      let rest : adding (length functions - early.at) early.at ≡ length functions = omega (arith, adding_is (length functions - early.at) early.at, early.before) in
      subst (λ n. within n from ≡ true) rest (later_by (length functions - early.at) early.at from there)

  enough : (most from : ℕ) → within most from ≡ true → within (length functions) from ≡ true
  enough most from e =
      ⊎_elim (λ early. settled early most from e) (λ many. absurd (omega (arith, many, passing_few (at_function (suc (length functions))) functions)))
      (grows (suc (length functions)))

  -- what is in the closure is computed
  pub all_reached : (from : ℕ) → Reaches functions from head → reaches functions from head ≡ true
  all_reached from r = let p = counted functions from head r in enough p.0 from p.1
