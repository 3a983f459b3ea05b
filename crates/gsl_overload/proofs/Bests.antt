-- The one candidate that is chosen.
use Rattle.std.proofs.Common.{◌≡◌, ◌≢◌, refl, sym, ap, ◌∙◌, subst, ℕ, zero, suc, ◌+◌, ◌<◌, ◌≤◌, Bool, true, false, not, ◌&&◌, ◌||◌, cond, IsTrue, nat_eq, List, [], ◌∷◌, length, drop, get_or, Option, Some, None, arith, ◌⊎◌, inl, inr}
use Rattle.std.proofs.lemmas.Bool.{and_parts, and_from, true≢false, eqb-true, eq-eqb}
use Rattle.std.specs.Prelude.{Ok, Err, Result}
use Rattle.gsl_types.specs.declared.ty.Ty.{Ty}
use Rattle.gsl_overload.specs.declared.choice.Choice.{Choice}
use Rattle.gsl_overload.specs.declared.choice.Choice.TheVariants.{NoMatch, Ambiguous}
use Rattle.gsl_overload.specs.Best.{Signature, is_better, never_worse, once_better, beats, fits, at_place, FitsAt, IsBest, beats_all, best_from, any_fits, or_refused, chosen}
use Rattle.gsl_overload.specs.Favourite.{FavouriteBelow}

pub absent : {X : Type 0} → IsTrue false → X
absent is = let never : ⊥ = true≢false (sym is) in elim never [ ]

-- ---- nobody beats a candidate that beats it

split : (x y z : Bool) → IsTrue (not x && y) → IsTrue (x || z) → (IsTrue y) × (IsTrue z)
split true y z worse better = absent worse
split false y z worse better = (worse, better)

contrary : (args : List Ty) (p q : Signature) → IsTrue (never_worse args q p) → IsTrue (once_better args p q) → ⊥
contrary [] p q worse better = absent better
contrary (t ∷ ts) [] q worse better = absent better
contrary (t ∷ ts) (p ∷ ps) [] worse better = absent better
contrary (t ∷ ts) (p ∷ ps) (q ∷ qs) worse better =
    let parts = split (is_better t p q) (never_worse ts qs ps) (once_better ts ps qs) worse better in
    contrary ts ps qs parts.0 parts.1

pub one_way : (args : List Ty) (p q : Signature) → IsTrue (beats args p q) → IsTrue (beats args q p) → ⊥
one_way args p q first second = contrary args p q (and_parts _ _ second).0 (and_parts _ _ first).1

pub one_best : (candidates : List Signature) (args : List Ty) (j k : ℕ) → IsBest candidates args j → IsBest candidates args k → j ≡ k
one_best candidates args j k first second =
    elim (nat_eq j k) as (λ b. nat_eq j k ≡ b → j ≡ k) [
      | true ↦ λ is. eqb-true j k is
      | false ↦ λ is.
          let apart : j ≢ k = λ same. true≢false (sym (eq-eqb j k same) ∙ is) in
          let apart' : k ≢ j = λ same. apart (sym same) in
          let no : ⊥ = one_way args (at_place candidates j) (at_place candidates k) (first.beats k second.fits apart') (second.beats j first.fits apart) in elim no [ ]
    ] refl

-- ---- beating all others

third : (a b c : Bool) → a ≡ false → IsTrue b → IsTrue (a || not b || c) → IsTrue c
third true b c apart is any = absent (sym apart)
third false true c apart is any = any
third false false c apart is any = absent is

apart_test : (j k : ℕ) → j ≢ k → nat_eq j k ≡ false
apart_test j k apart =
    elim (nat_eq j k) as (λ b. nat_eq j k ≡ b → nat_eq j k ≡ false) [
      | true ↦ λ is. let no : ⊥ = apart (eqb-true j k is) in elim no [ ]
      | false ↦ λ is. is
    ] refl

pub all_beaten : (args : List Ty) (s : Signature) (place from : ℕ) (rivals : List Signature) (i : ℕ) → IsTrue (beats_all args s place from rivals)
    → i < length rivals → from + i ≢ place → IsTrue (fits args (get_or rivals i [])) → IsTrue (beats args s (get_or rivals i []))
unfolding beats_all
all_beaten args s place from [] i all within apart is = let no : ⊥ = omega (arith, within) in elim no [ ]
all_beaten args s place from (r ∷ rs) zero all within apart is =
    third (nat_eq from place) (fits args r) (beats args s r) (apart_test from place (λ same. apart (omega (arith, same)))) is (and_parts _ _ all).0
all_beaten args s place from (r ∷ rs) (suc i) all within apart is =
    all_beaten args s place (from + 1) rs i (and_parts _ _ all).1 (omega (arith, within)) (λ same. apart (omega (arith, same))) is

one_of : (a b c : Bool) → (a ≡ false → IsTrue b → IsTrue c) → IsTrue (a || not b || c)
one_of true b c is = refl
one_of false true c is = is refl refl
one_of false false c is = refl

pub beaten_all : (args : List Ty) (s : Signature) (place from : ℕ) (rivals : List Signature)
    → ((i : ℕ) → i < length rivals → from + i ≢ place → IsTrue (fits args (get_or rivals i [])) → IsTrue (beats args s (get_or rivals i [])))
    → IsTrue (beats_all args s place from rivals)
unfolding beats_all
beaten_all args s place from [] each = refl
beaten_all args s place from (r ∷ rs) each =
    and_from _ _
    (one_of (nat_eq from place) (fits args r) (beats args s r) (λ apart is. each zero (omega arith) (λ same. true≢false (sym (eq-eqb from place (omega (arith, same))) ∙ apart)) is))
    (beaten_all args s place (from + 1) rs (λ i within apart is. each (suc i) (omega (arith, within)) (λ same. apart (omega (arith, same))) is))

-- ---- the first that beats all others is the best

opens : (xs : List Signature) (k : ℕ) (x : Signature) (more : List Signature) → x ∷ more ≡ drop k xs → (k < length xs) × (at_place xs k ≡ x) × (more ≡ drop (k + 1) xs)
opens [] zero x more is = let no : ⊥ = cc in elim no [ ]
opens [] (suc k) x more is = let no : ⊥ = cc in elim no [ ]
opens (y ∷ ys) zero x more is = (omega arith, sym (ap (λ l. get_or l 0 []) is), ap (drop 1) is)
opens (y ∷ ys) (suc k) x more is =
    let rest = opens ys k x more is in
    let next : suc (k + 1) ≡ suc k + 1 = omega arith in (omega (arith, rest.0), rest.1, subst (λ n. more ≡ drop n (y ∷ ys)) next rest.2)

module _ (candidates : List Signature) (args : List Ty) where
  abbrev passes : ℕ → Signature → Bool
  passes place s = fits args s && beats_all args s place 0 candidates

  passes_best : (place : ℕ) → place < length candidates → IsTrue (passes place (at_place candidates place)) → IsBest candidates args place
  passes_best place within is =
      record {
        fits = record { there = within; fits = (and_parts _ _ is).0 };
        beats = λ other fit apart. all_beaten args (at_place candidates place) place 0 candidates other (and_parts _ _ is).1 fit.there (λ same. apart (omega (arith, same))) fit.fits;
      }

  best_passes : (place : ℕ) → IsBest candidates args place → IsTrue (passes place (at_place candidates place))
  best_passes place best =
      and_from _ _ best.fits.fits (beaten_all args (at_place candidates place) place 0 candidates
      (λ i within apart is. best.beats i (record { there = within; fits = is }) (λ same. apart (omega (arith, same)))))

  -- the search from a place on
  abbrev Searched : ℕ → Option ℕ → Type 0
  Searched place None = (k : ℕ) → place ≤ k → IsBest candidates args k → ⊥
  Searched place (Some k) = IsBest candidates args k

  chosen_by : (b : Bool) (place : ℕ) (s : Signature) (rest : Option ℕ) → passes place s ≡ b → place < length candidates → at_place candidates place ≡ s → Searched (place + 1) rest → Searched place (cond b (Some place) rest)
  chosen_by true place s rest is within at searched = passes_best place within (subst (λ z. IsTrue (passes place z)) (sym at) is)
  chosen_by false place s (Some k) is within at searched = searched
  chosen_by false place s None is within at searched =
      λ k least best. elim (nat_eq place k) as (λ b. nat_eq place k ≡ b → ⊥) [
        | true ↦ λ same. true≢false (sym (best_passes k best) ∙ ap (λ j. passes j (at_place candidates j)) (sym (eqb-true place k same)) ∙ ap (passes place) at ∙ is)
        | false ↦ λ apart. searched k (let differ : place ≢ k = λ same. true≢false (sym (eq-eqb place k same) ∙ apart) in omega (arith, least, differ)) best
      ] refl

  search_is : (place : ℕ) (rest : List Signature) → rest ≡ drop place candidates → length candidates ≤ place + length rest → Searched place (best_from candidates args place rest)
  unfolding best_from
  search_is place [] is long = λ k least best. let within = best.fits.there in omega (arith, long, least, within)
  search_is place (s ∷ more) is long =
      let parts = opens candidates place s more is in
      chosen_by (passes place s) place s (best_from candidates args (place + 1) more) refl parts.0 parts.1 (search_is (place + 1) more parts.2 (omega (arith, long)))

  any_of : (rest : List Signature) → IsTrue (any_fits args rest) → (k : ℕ) × (k < length rest) × IsTrue (fits args (get_or rest k []))
  any_of [] is = absent is
  any_of (s ∷ more) is =
      elim (fits args s) as (λ b. fits args s ≡ b → (k : ℕ) × (k < length (s ∷ more)) × IsTrue (fits args (get_or (s ∷ more) k []))) [
        | true ↦ λ fit. (0, omega arith, fit)
        | false ↦ λ unfit. let later = any_of more (sym (ap (λ b. b || any_fits args more) unfit) ∙ is) in (suc later.0, omega (arith, later.1), later.2)
      ] refl

  or_right : (a b : Bool) → IsTrue b → IsTrue (a || b)
  or_right true b is = refl
  or_right false b is = is

  or_left : (a b : Bool) → IsTrue a → IsTrue (a || b)
  or_left true b is = refl
  or_left false b is = absent is

  of_any : (rest : List Signature) (k : ℕ) → k < length rest → IsTrue (fits args (get_or rest k [])) → IsTrue (any_fits args rest)
  of_any [] k within is = let no : ⊥ = omega (arith, within) in elim no [ ]
  of_any (s ∷ more) zero within is = or_left _ _ is
  of_any (s ∷ more) (suc k) within is = or_right _ _ (of_any more k (omega (arith, within)) is)

  -- what a call means: one place is the best, or none
  abbrev pub Judged : Result ℕ Choice → Type 0
  Judged (Ok k) = IsBest candidates args k
  Judged (Err NoMatch) = (k : ℕ) → FitsAt candidates args k → ⊥
  Judged (Err Ambiguous) = ((k : ℕ) × FitsAt candidates args k) × ((k : ℕ) → IsBest candidates args k → ⊥)

  judged_by : (any : Bool) (found : Option ℕ) → any_fits args candidates ≡ any → Searched 0 found → Judged (or_refused any found)
  judged_by any (Some k) is searched = searched
  judged_by true None is searched =
      let some = any_of candidates is in
      ((some.0, record { there = some.1; fits = some.2 }), λ k best. searched k (omega arith) best)
  judged_by false None is searched = λ k fit. true≢false (sym (of_any candidates k fit.there fit.fits) ∙ is)

  pub judged : Judged (chosen candidates args)
  unfolding chosen
  judged = judged_by (any_fits args candidates) (best_from candidates args 0 candidates) refl (search_is 0 candidates refl (omega arith))

  -- what is judged so is the answer
  only : (a b : Result ℕ Choice) → Judged a → Judged b → a ≡ b
  only (Ok j) (Ok k) first second = ap Ok (one_best candidates args j k first second)
  only (Ok j) (Err NoMatch) first second = let no : ⊥ = second j first.fits in elim no [ ]
  only (Ok j) (Err Ambiguous) first second = let no : ⊥ = second.1 j first in elim no [ ]
  only (Err NoMatch) (Ok k) first second = let no : ⊥ = first k second.fits in elim no [ ]
  only (Err NoMatch) (Err NoMatch) first second = refl
  only (Err NoMatch) (Err Ambiguous) first second = let no : ⊥ = first second.0.0 second.0.1 in elim no [ ]
  only (Err Ambiguous) (Ok k) first second = let no : ⊥ = first.1 k second in elim no [ ]
  only (Err Ambiguous) (Err NoMatch) first second = let no : ⊥ = second first.0.0 first.0.1 in elim no [ ]
  only (Err Ambiguous) (Err Ambiguous) first second = refl

  pub is_chosen : (answer : Result ℕ Choice) → Judged answer → answer ≡ chosen candidates args
  is_chosen answer is = only answer (chosen candidates args) is judged

  -- ---- the favourite behind one more candidate

  last_or_below : (place count : ℕ) → place < count + 1 → (place < count) ⊎ (place ≡ count)
  last_or_below place count within =
      elim (nat_eq place count) as (λ b. nat_eq place count ≡ b → (place < count) ⊎ (place ≡ count)) [
        | true ↦ λ is. inr (eqb-true place count is)
        | false ↦ λ is. inl (let apart : place ≢ count = λ same. true≢false (sym (eq-eqb place count same) ∙ is) in omega (arith, within, apart))
      ] refl

  pub skipped : (count : ℕ) (found : Option ℕ) → FavouriteBelow candidates args count found → (FitsAt candidates args count → ⊥) → FavouriteBelow candidates args (count + 1) found
  skipped count None none unfit = λ place within fit. elim (last_or_below place count within) as (λ _. ⊥) [ inl below ↦ none place below fit | inr last ↦ unfit (subst (FitsAt candidates args) last fit) ]
  skipped count (Some j) known unfit =
      (known.0, λ place within best. elim (last_or_below place count within) as (λ _. place ≡ j) [ inl below ↦ known.1 place below best | inr last ↦ let no : ⊥ = unfit (subst (FitsAt candidates args) last best.fits) in elim no [ ] ])

  pub first_found : (count : ℕ) → FavouriteBelow candidates args count None → FitsAt candidates args count → FavouriteBelow candidates args (count + 1) (Some count)
  first_found count none fit =
      (fit, λ place within best. elim (last_or_below place count within) as (λ _. place ≡ count) [ inl below ↦ let no : ⊥ = none place below best.fits in elim no [ ] | inr last ↦ last ])

  pub overtaken : (count j : ℕ) → FavouriteBelow candidates args count (Some j) → FitsAt candidates args count → IsTrue (beats args (at_place candidates count) (at_place candidates j)) → FavouriteBelow candidates args (count + 1) (Some count)
  overtaken count j known fit ahead = (
    fit,
    λ place within best. elim (last_or_below place count within) as (λ _. place ≡ count) [
      | inl below ↦
          let is : place ≡ j = known.1 place below best in
          let no : ⊥ = one_way args (at_place candidates count) (at_place candidates j) ahead
          (subst (λ k. IsTrue (beats args (at_place candidates k) (at_place candidates count))) is (best.beats count fit (λ same. omega (arith, below, same)))) in elim no [ ]
      | inr last ↦ last
    ],
  )

  pub kept : (count j : ℕ) → FavouriteBelow candidates args count (Some j) → beats args (at_place candidates count) (at_place candidates j) ≡ false → FavouriteBelow candidates args (count + 1) (Some j)
  kept count j known behind = (
    known.0,
    λ place within best. elim (last_or_below place count within) as (λ _. place ≡ j) [
      | inl below ↦ known.1 place below best
      | inr last ↦
          elim (nat_eq j place) as (λ b. nat_eq j place ≡ b → place ≡ j) [
            | true ↦ λ is. sym (eqb-true j place is)
            | false ↦ λ is.
                let ahead = best.beats j known.0 (λ same. true≢false (sym (eq-eqb j place same) ∙ is)) in
                let no : ⊥ = true≢false (sym ahead ∙ ap (λ k. beats args (at_place candidates k) (at_place candidates j)) last ∙ behind) in elim no [ ]
          ] refl
    ],
  )

  pub best_of_favourite : (place : ℕ) → FavouriteBelow candidates args (length candidates) (Some place) → (IsBest candidates args place → ⊥) → Judged (Err Ambiguous)
  best_of_favourite place known unbest = ((place, known.0), λ k best. unbest (subst (IsBest candidates args) (known.1 k best.fits.there best) best))

  pub none_of_all : FavouriteBelow candidates args (length candidates) None → Judged (Err NoMatch)
  none_of_all none = λ k fit. none k fit.there fit
