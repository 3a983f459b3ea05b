-- Each value that a program's code needs has a constant.
use Rattle.std.proofs.Common.{◌≡◌, ℕ, zero, suc, ◌+◌, ◌<◌, ◌≤◌, Bool, true, false, ◌||◌, eqb, List, [], ◌∷◌, ◌++◌, length, get_or, refl, subst, ◌∙◌, inl, inr, arith}
use Rattle.std.specs.Prelude.{fold}
use Rattle.std.specs.List.{list_any, position_or_len, range_with_len, flat_map, AllByRecursion}
use Rattle.std.proofs.lemmas.Bool.{cases_Bool, cond-true, cond-false, cond_both, or_left, or_right, or_cases, eq-eqb, eqb-true, not_from_true, not_from_false}
use Rattle.std.proofs.lemmas.List.Folds.{list_any-append}
use Rattle.std.proofs.lemmas.List.Sums.{passes_at_first}
use Rattle.gsl_form.specs.declared.program.Term.{Term}
use Rattle.gsl_form.specs.declared.program.Term.TheVariants.{Member, Literal}
use Rattle.gsl_form.specs.declared.program.Statement.{Statement}
use Rattle.gsl_form.specs.declared.program.Program.{Program}
use Rattle.gsl_form.specs.Form.{IsTerm, IsStatement, IsProgram}
use Rattle.gsl_cmd.specs.Lowering.{literals_of, values_used, with_value, constants_of}

-- whether a value is among some
abbrev pub among : List ℕ → ℕ → Bool
among values value = list_any (λ other. eqb other value) values

among-append : (xs ys : List ℕ) (v : ℕ) → among (xs ++ ys) v ≡ (among xs v || among ys v)
among-append xs ys v = list_any-append (λ other. eqb other v) xs ys

with_value_keeps : (values : List ℕ) (w v : ℕ) → among values v ≡ true → among (with_value values w) v ≡ true
with_value_keeps values w v here =
    cond_both (among values w) values (values ++ w ∷ []) (λ xs. among xs v ≡ true) (λ e. here) (λ e. among-append values (w ∷ []) v ∙ or_left _ _ here)

with_value_has : (values : List ℕ) (w : ℕ) → among (with_value values w) w ≡ true
with_value_has values w =
    cond_both (among values w) values (values ++ w ∷ []) (λ xs. among xs w ≡ true) (λ e. e)
    (λ e. among-append values (w ∷ []) w ∙ or_right (among values w) _ (or_left (eqb w w) false (eq-eqb w w refl)))

fold_keeps : (start ws : List ℕ) (v : ℕ) → among start v ≡ true → among (fold with_value start ws) v ≡ true
fold_keeps start [] v here = here
fold_keeps start (w ∷ ws) v here = fold_keeps (with_value start w) ws v (with_value_keeps start w v here)

fold_has : (start ws : List ℕ) (v : ℕ) → among ws v ≡ true → among (fold with_value start ws) v ≡ true
fold_has start [] v here = absurd (cc)
fold_has start (w ∷ ws) v here =
    elim (or_cases (eqb w v) (among ws v) here) [
      | inl same ↦ fold_keeps (with_value start w) ws v (subst (λ x. among (with_value start w) x ≡ true) (eqb-true w v same) (with_value_has start w))
      | inr later ↦ fold_has (with_value start w) ws v later
    ]

in_range : (first count k : ℕ) → first ≤ k → k < first + count → among (range_with_len first count) k ≡ true
in_range first zero k low high = absurd (omega arith)
in_range first (suc count) k low high =
    elim (cases_Bool (eqb first k)) [
      | inl same ↦ or_left _ _ same
      | inr other ↦ or_right (eqb first k) _ (in_range (first + 1) count k (let apart : first ≡ k → ⊥ = λ e. absurd (cc (other, eq-eqb first k e)) in omega arith) (omega arith))
    ]

-- A term whose value can be read: a member that there is, or a literal that has a constant.
abbrev pub Known : ℕ → List ℕ → Term → Type 0
Known members constants (Member i) = i < members
Known members constants (Literal n) = among constants n ≡ true

-- The statements' targets and terms are known.
pub record KnownStatement (members : ℕ) (constants : List ℕ) (s : Statement) : Type 0 where
  pub target : s.target < members
  pub some : 1 ≤ length s.terms
  pub most : length s.terms ≤ 64
  pub terms : AllByRecursion (Known members constants) s.terms

module _ (members : ℕ) (constants : List ℕ) where
  known_terms : (terms : List Term) → AllByRecursion (IsTerm members) terms → ((v : ℕ) → among (literals_of terms) v ≡ true → among constants v ≡ true) →
      AllByRecursion (Known members constants) terms
  known_terms [] all here = tt
  known_terms (Member i ∷ terms) all here = (all.0, known_terms terms all.1 here)
  known_terms (Literal n ∷ terms) all here =
      (here n (or_left _ _ (eq-eqb n n refl)), known_terms terms all.1 (λ v later. here v (or_right (eqb n v) _ later)))

  known_statements : (statements : List Statement) → AllByRecursion (IsStatement members) statements →
      ((v : ℕ) → among (flat_map (λ s. literals_of s.terms) statements) v ≡ true → among constants v ≡ true) → AllByRecursion (KnownStatement members constants) statements
  known_statements [] all here = tt
  known_statements (s ∷ statements) all here =
      let later = flat_map (λ t. literals_of t.terms) statements in (
        record {
          target = all.0.target;
          some = all.0.some;
          most = all.0.most;
          terms = known_terms s.terms all.0.terms (λ v e. here v (among-append (literals_of s.terms) later v ∙ or_left _ _ e));
        },
        known_statements statements all.1 (λ v e. here v (among-append (literals_of s.terms) later v ∙ or_right (among (literals_of s.terms) v) _ e)),
      )

module _ (p : Program) where
  values_known : (v : ℕ) → among (values_used p) v ≡ true → among (constants_of p) v ≡ true
  values_known v here = fold_has [] (values_used p) v here

  pub member_known : (k : ℕ) → k < length p.members → among (constants_of p) k ≡ true
  member_known k within =
      let range = range_with_len 0 (length p.members) in
      values_known k (among-append range (flat_map (λ s. literals_of s.terms) p.statements) k ∙ or_left _ _ (in_range 0 (length p.members) k (omega arith) (omega arith)))

  pub program_known : IsProgram p → AllByRecursion (KnownStatement (length p.members) (constants_of p)) p.statements
  program_known fits =
      known_statements (length p.members) (constants_of p) p.statements fits.statements
      (λ v here. values_known v (among-append (range_with_len 0 (length p.members)) _ v ∙ or_right (among (range_with_len 0 (length p.members)) v) _ here))

-- the place of a value among some
abbrev pub place : List ℕ → ℕ → ℕ
place values v = position_or_len (λ other. eqb other v) values

pub place_within : (values : List ℕ) (v : ℕ) → among values v ≡ true → place values v < length values
place_within [] v here = absurd (cc)
place_within (w ∷ values) v here =
    elim (cases_Bool (eqb w v)) [
      | inl same ↦ (let e : place (w ∷ values) v ≡ 0 = cond-false _ _ _ (not_from_true _ same) in omega arith)
      | inr other ↦
          (let later : among values v ≡ true = elim (or_cases (eqb w v) (among values v) here) [ inl same ↦ absurd (cc (other, same)) | inr later ↦ later ] in
          let e : place (w ∷ values) v ≡ 1 + place values v = cond-true _ _ _ (not_from_false _ other) in
          omega (arith, place_within values v later))
    ]

pub value_at_place : (values : List ℕ) (v : ℕ) → among values v ≡ true → get_or values (place values v) 0 ≡ v
value_at_place values v here = eqb-true _ v (passes_at_first (λ other. eqb other v) values 0 (place_within values v here))
