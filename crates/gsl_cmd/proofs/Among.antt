-- Each value that a program uses has a constant.
use Rattle.std.proofs.Common.{◌≡◌, ◌≢◌, ◌⊎◌, inl, inr, ℕ, zero, suc, ◌+◌, ◌^◌, ◌<◌, ◌≤◌, List, [], ◌∷◌, ◌++◌, length, get_or, fold, Bool, true, false, not, cond, ◌==◌, ◌||◌, eq-eqb, refl, ap, ◌∙◌, arith}
use Rattle.std.specs.List.{list_any, position_or_len, range_with_len, flat_map, AllByRecursion}
use Rattle.std.proofs.lemmas.Bool.{cases_Bool, eqb-true, eqb-false}
use Rattle.std.proofs.lemmas.List.Folds.{list_any-append}
use Rattle.std.proofs.lemmas.List.Sums.{passes_at_first}
use Rattle.gsl_form.specs.declared.program.Term.{Term}
use Rattle.gsl_form.specs.declared.program.Term.TheVariants.{Member, Literal}
use Rattle.gsl_form.specs.declared.program.Statement.{Statement}
use Rattle.gsl_form.specs.declared.program.Program.{Program}
use Rattle.gsl_form.specs.Form.{IsTerm, IsStatement, IsProgram}
use Rattle.gsl_cmd.specs.Lowering.{literals_of, values_used, with_value, constants_of}
use Rattle.gsl_cmd.proofs.Simulation.{IsAmong, IsReady, IsReadyStatement}

-- The list has the value.
abbrev Has : List ℕ → ℕ → Type 0
Has values value = list_any (λ other. other == value) values ≡ true

or_left : (a b : Bool) → a ≡ true → (a || b) ≡ true
or_left true b h = refl
or_left false b h = absurd (cc)

or_right : (a b : Bool) → b ≡ true → (a || b) ≡ true
or_right true b h = refl
or_right false b h = h

or_cases : (a b : Bool) → (a || b) ≡ true → (a ≡ true) ⊎ (b ≡ true)
or_cases true b h = inl refl
or_cases false b h = inr h

has_left : (xs ys : List ℕ) (value : ℕ) → Has xs value → Has (xs ++ ys) value
has_left xs ys value h = list_any-append (λ other. other == value) xs ys ∙ or_left _ _ h

has_right : (xs ys : List ℕ) (value : ℕ) → Has ys value → Has (xs ++ ys) value
has_right xs ys value h = list_any-append (λ other. other == value) xs ys ∙ or_right _ _ h

-- a value that is there stays
kept : (values : List ℕ) (other value : ℕ) → Has values value → Has (with_value values other) value
kept values other value h =
    elim (list_any (λ o. o == other) values) as (λ b. Has (cond b values (values ++ other ∷ [])) value)
    [ true ↦ h | false ↦ has_left values (other ∷ []) value h ]

added : (values : List ℕ) (value : ℕ) → Has (with_value values value) value
added values value = by_test (list_any (λ o. o == value) values) refl
  where
    by_test : (b : Bool) → list_any (λ o. o == value) values ≡ b → Has (cond b values (values ++ value ∷ [])) value
    by_test true h = h
    by_test false h = has_right values (value ∷ []) value (or_left _ _ (eq-eqb value value refl))

all_kept : (more values : List ℕ) (value : ℕ) → Has values value → Has (fold with_value values more) value
all_kept [] values value h = h
all_kept (x ∷ more) values value h = all_kept more (with_value values x) value (kept values x value h)

all_added : (more values : List ℕ) (value : ℕ) → Has more value → Has (fold with_value values more) value
all_added [] values value h = absurd (cc)
all_added (x ∷ more) values value h = by_cases (or_cases (x == value) _ h) (all_added more (with_value values x) value)
  where
    by_cases : (x == value ≡ true) ⊎ Has more value → (Has more value → Has (fold with_value (with_value values x) more) value) → Has (fold with_value (with_value values x) more) value
    by_cases (inl e) again =
        let same : x ≡ value = eqb-true x value e in
        all_kept more (with_value values x) value (ap (λ v. list_any (λ other. other == value) (with_value values v)) same ∙ added values value)
    by_cases (inr later) again = again later

-- a value that is there has a place
placed : (values : List ℕ) (value : ℕ) → Has values value → position_or_len (λ other. other == value) values < length values
placed [] value h = absurd (cc)
placed (x ∷ values) value h = by_test (x == value) (placed values value) h
  where
    by_test : (b : Bool) → (Has values value → position_or_len (λ other. other == value) values < length values) → (b || list_any (λ other. other == value) values) ≡ true →
        cond (not b) (1 + position_or_len (λ other. other == value) values) 0 < suc (length values)
    by_test true again h = omega arith
    by_test false again h = let within = again h in omega arith

-- the value at that place
pub value_at : (values : List ℕ) (value : ℕ) → position_or_len (λ other. other == value) values < length values → get_or values (position_or_len (λ other. other == value) values) 0 ≡ value
value_at values value h = eqb-true _ value (passes_at_first (λ other. other == value) values 0 h)

in_range : (a n i : ℕ) → a ≤ i → i < a + n → Has (range_with_len a n) i
in_range a zero i low high = absurd (omega arith)
in_range a (suc n) i low high = by_test (cases_Bool (a == i)) (λ low. in_range (a + 1) n i low (omega arith))
  where
    by_test : (a == i ≡ true) ⊎ (a == i ≡ false) → (a + 1 ≤ i → Has (range_with_len (a + 1) n) i) → Has (range_with_len a (suc n)) i
    by_test (inl e) again = or_left _ _ e
    by_test (inr ne) again = let apart : a ≢ i = eqb-false a i ne in or_right _ _ (again (omega arith))

module _ (members : ℕ) (constants : List ℕ) (numbered : (i : ℕ) → i < members → IsAmong constants i) where
  terms_ready : (terms : List Term) → AllByRecursion (IsTerm members) terms → ((value : ℕ) → Has (literals_of terms) value → IsAmong constants value) →
      AllByRecursion (IsReady members constants) terms
  terms_ready [] fits among = tt
  terms_ready (Member i ∷ terms) fits among = ((fits.0, numbered i fits.0), terms_ready terms fits.1 among)
  terms_ready (Literal n ∷ terms) fits among =
      let small : n < 2 ^ 32 = fits.0 in
      ((omega arith, among n (or_left _ _ (eq-eqb n n refl))), terms_ready terms fits.1 (λ value h. among value (or_right _ _ h)))

  statements_ready : (statements : List Statement) → AllByRecursion (IsStatement members) statements →
      ((value : ℕ) → Has (flat_map (λ s. literals_of s.terms) statements) value → IsAmong constants value) → AllByRecursion (IsReadyStatement members constants) statements
  statements_ready [] fits among = tt
  statements_ready (s ∷ statements) fits among = (
    record {
      target = fits.0.target;
      among = numbered s.target fits.0.target;
      some = fits.0.some;
      terms = terms_ready s.terms fits.0.terms (λ value h. among value (has_left (literals_of s.terms) _ value h));
    },
    statements_ready statements fits.1 (λ value h. among value (has_right (literals_of s.terms) _ value h)),
  )

among_constants : (p : Program) (value : ℕ) → Has (values_used p) value → IsAmong (constants_of p) value
among_constants p value h = record { at = placed (constants_of p) value (all_added (values_used p) [] value h) }

-- all that a program's statements use has a constant
pub program_ready : (p : Program) → IsProgram p → AllByRecursion (IsReadyStatement (length p.members) (constants_of p)) p.statements
program_ready p fits =
    statements_ready (length p.members) (constants_of p)
    (λ i h. among_constants p i (has_left (range_with_len 0 (length p.members)) _ i (in_range 0 (length p.members) i (omega arith) (omega arith))))
    p.statements fits.statements
    (λ value h. among_constants p value (has_right (range_with_len 0 (length p.members)) _ value h))
