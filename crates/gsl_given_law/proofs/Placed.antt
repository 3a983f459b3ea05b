-- Buffers that were put in their places stand in order.
use Rattle.std.proofs.Common.{◌≡◌, refl, ap, sym, ◌∙◌, arith, inl, inr, ◌⊎◌, ℕ, ◌<◌, Bool, true, false, cond, eqb, ltb, ◌&&◌, ◌||◌, List, [], ◌∷◌}
use Rattle.std.proofs.lemmas.Bool.{and_parts, cases_order, eq-eqb, eqb-true, lt-ltb, ltb-true, or_parts, true≢false}
use Rattle.std.specs.List.{AllByRecursion, list_any}
use Rattle.gsl_base.specs.Proper.{Ascends, StandsBefore}
use Rattle.gsl_base.specs.declared.input.Buffer.{Buffer}
use Rattle.gsl_given.specs.Given.{is_before, placed}
use Rattle.gsl_given_law.proofs.Spelled.{all_place}

-- whether a buffer stands at a set and binding
abbrev pub is_at : ℕ → ℕ → Buffer → Bool
is_at set binding b = eqb set b.set && eqb binding b.binding

or_cases : (a b : Bool) → (a || b) ≡ true → (a ≡ true) ⊎ (b ≡ true)
or_cases true b is = inl refl
or_cases false b is = inr is

before_means : (a b : Buffer) → is_before a b ≡ true → StandsBefore a b
before_means a b is = by (or_cases (ltb a.set b.set) (eqb a.set b.set && ltb a.binding b.binding) is)
  where
    by : (ltb a.set b.set ≡ true) ⊎ ((eqb a.set b.set && ltb a.binding b.binding) ≡ true) → StandsBefore a b
    by (inl less) = inl (ltb-true a.set b.set less)
    by (inr both) = let parts = and_parts (eqb a.set b.set) (ltb a.binding b.binding) both in inr (eqb-true a.set b.set parts.0, ltb-true a.binding b.binding parts.1)

before_other : (a b : Buffer) → is_before a b ≡ false → is_at a.set a.binding b ≡ false → StandsBefore b a
before_other a b is apart =
    let parts = or_parts (ltb a.set b.set) (eqb a.set b.set && ltb a.binding b.binding) is in
    elim (cases_order a.set b.set) [
      | inl same ↦
          let lower : ltb a.binding b.binding ≡ false = sym (ap (λ t. t && ltb a.binding b.binding) (eq-eqb a.set b.set same)) ∙ parts.1 in
          let other : eqb a.binding b.binding ≡ false = sym (ap (λ t. t && eqb a.binding b.binding) (eq-eqb a.set b.set same)) ∙ apart in
          elim (cases_order a.binding b.binding) [
            | inl at_one ↦ absurd (true≢false (sym (eq-eqb a.binding b.binding at_one) ∙ other))
            | inr (inl less) ↦ absurd (true≢false (sym (lt-ltb a.binding b.binding less) ∙ lower))
            | inr (inr more) ↦ inr (sym same, more)
          ]
      | inr (inl less) ↦ absurd (true≢false (sym (lt-ltb a.set b.set less) ∙ parts.0))
      | inr (inr more) ↦ inl more
    ]

before_trans : (a b c : Buffer) → StandsBefore a b → StandsBefore b c → StandsBefore a c
before_trans a b c (inl x) (inl y) = inl (omega (arith, x, y))
before_trans a b c (inl x) (inr (s, y)) = inl (omega (arith, x, s))
before_trans a b c (inr (s, x)) (inl y) = inl (omega (arith, s, y))
before_trans a b c (inr (s, x)) (inr (t, y)) = inr (s ∙ t, omega (arith, x, y))

all_after : (x y : Buffer) (ys : List Buffer) → StandsBefore x y → AllByRecursion (StandsBefore y) ys → AllByRecursion (StandsBefore x) ys
all_after x y [] one all = tt
all_after x y (z ∷ ys) one all = (before_trans x y z one all.0, all_after x y ys one all.1)

-- a buffer that stands where no other does
pub ascends_place : (x : Buffer) (ys : List Buffer) → Ascends StandsBefore ys → list_any (is_at x.set x.binding) ys ≡ false → Ascends StandsBefore (placed x ys)
ascends_place x [] up none = (tt, tt)
ascends_place x (y ∷ ys) up none =
    let parts = or_parts (is_at x.set x.binding y) (list_any (is_at x.set x.binding) ys) none in
    elim (is_before x y) as (λ t. is_before x y ≡ t → Ascends StandsBefore (cond t (x ∷ y ∷ ys) (y ∷ placed x ys))) [
      | true ↦ λ e. let one = before_means x y e in ((one, all_after x y ys one up.0), up)
      | false ↦ λ e. (all_place is_before (StandsBefore y) x ys (before_other x y e parts.0) up.0, ascends_place x ys up.1 parts.1)
    ] refl

-- whether any passes a test, with one more in its place
pub any_place : (test : Buffer → Bool) (x : Buffer) (ys : List Buffer) → list_any test (placed x ys) ≡ (test x || list_any test ys)
any_place test x [] = refl
any_place test x (y ∷ ys) =
    elim (is_before x y) as (λ t. list_any test (cond t (x ∷ y ∷ ys) (y ∷ placed x ys)) ≡ (test x || (test y || list_any test ys))) [
      | true ↦ refl
      | false ↦ ap (λ r. test y || r) (any_place test x ys) ∙ or_swap (test y) (test x) (list_any test ys)
    ]
  where
    or_swap : (a b c : Bool) → (a || (b || c)) ≡ (b || (a || c))
    or_swap true true c = refl
    or_swap true false c = refl
    or_swap false true c = refl
    or_swap false false c = refl
