-- Arguments and parameters one by one, and candidates that fit.
use Rattle.std.proofs.Common.{◌≡◌, refl, sym, ap, ◌∙◌, subst, ℕ, suc, ◌+◌, ◌<◌, Bool, true, false, not, ◌&&◌, ◌||◌, IsTrue, List, [], ◌∷◌, length, drop, slice_get, Some, arith}
use Rattle.std.proofs.lemmas.Bool.{and_parts}
use Rattle.std.proofs.lemmas.Option.{slice_get_within, get_or_from_slice_get}
use Rattle.std.proofs.Math.Seq.{drop-cons}
use Rattle.gsl_types.specs.declared.ty.Ty.{Ty}
use Rattle.gsl_overload.specs.Best.{Param, Signature, is_better, never_worse, once_better, fits_param, fits, at_place, FitsAt}
use Rattle.gsl_overload.proofs.Bests.{absent}

pub opened : {X : Type 0} (xs : List X) (k : ℕ) (x : X) → slice_get xs k ≡ Some x → drop k xs ≡ x ∷ drop (k + 1) xs
opened xs k x is =
    drop-cons xs k x (slice_get_within xs k x is) ∙ ap (λ y. y ∷ drop (suc k) xs) (get_or_from_slice_get xs k x x is) ∙ ap (λ n. x ∷ drop n xs) (let e : suc k ≡ k + 1 = omega arith in e)

module _ (args : List Ty) (first second : Signature) (k : ℕ) (t : Ty) (p q : Param) (t_is : slice_get args k ≡ Some t) (p_is : slice_get first k ≡ Some p) (q_is : slice_get second k ≡ Some q) where
  pub never_worse_at : never_worse (drop k args) (drop k first) (drop k second) ≡ (not (is_better t q p) && never_worse (drop (k + 1) args) (drop (k + 1) first) (drop (k + 1) second))
  never_worse_at =
      ap (λ ts. never_worse ts (drop k first) (drop k second)) (opened args k t t_is)
      ∙ ap (λ ps. never_worse (t ∷ drop (k + 1) args) ps (drop k second)) (opened first k p p_is)
      ∙ ap (λ qs. never_worse (t ∷ drop (k + 1) args) (p ∷ drop (k + 1) first) qs) (opened second k q q_is)

  pub once_better_at : once_better (drop k args) (drop k first) (drop k second) ≡ (is_better t p q || once_better (drop (k + 1) args) (drop (k + 1) first) (drop (k + 1) second))
  once_better_at =
      ap (λ ts. once_better ts (drop k first) (drop k second)) (opened args k t t_is)
      ∙ ap (λ ps. once_better (t ∷ drop (k + 1) args) ps (drop k second)) (opened first k p p_is)
      ∙ ap (λ qs. once_better (t ∷ drop (k + 1) args) (p ∷ drop (k + 1) first) qs) (opened second k q q_is)

pub fits_at : (args : List Ty) (params : Signature) (k : ℕ) (t : Ty) (p : Param) → slice_get args k ≡ Some t → slice_get params k ≡ Some p
    → fits (drop k args) (drop k params) ≡ (fits_param p t && fits (drop (k + 1) args) (drop (k + 1) params))
fits_at args params k t p t_is p_is =
    ap (λ ts. fits ts (drop k params)) (opened args k t t_is) ∙ ap (λ ps. fits (t ∷ drop (k + 1) args) ps) (opened params k p p_is)

pub fits_length : (args : List Ty) (params : Signature) → IsTrue (fits args params) → length params ≡ length args
fits_length [] [] is = refl
fits_length [] (p ∷ ps) is = absent is
fits_length (t ∷ ts) [] is = absent is
fits_length (t ∷ ts) (p ∷ ps) is = let rest = fits_length ts ps (and_parts _ _ is).1 in omega (arith, rest)

pub no_fit : (args : List Ty) (params : Signature) → (length params ≡ length args → ⊥) → false ≡ fits args params
no_fit [] [] apart = let no : ⊥ = apart refl in elim no [ ]
no_fit [] (p ∷ ps) apart = refl
no_fit (t ∷ ts) [] apart = refl
no_fit (t ∷ ts) (p ∷ ps) apart = second (fits_param p t) (fits ts ps) (no_fit ts ps (λ same. apart (omega (arith, same)))) where
  second : (a b : Bool) → false ≡ b → false ≡ (a && b)
  second true b is = is
  second false b is = refl

-- ---- a walk that goes on where a part passes, and ends where it does not

pub and_on : (b r w s : Bool) → b ≡ true → w ≡ (b && r) → w ≡ s → r ≡ s
and_on b r w s is opens same = sym (opens ∙ ap (λ x. x && r) is) ∙ same

pub and_stops : (b r w s : Bool) → b ≡ false → w ≡ (b && r) → w ≡ s → false ≡ s
and_stops b r w s is opens same = sym (opens ∙ ap (λ x. x && r) is) ∙ same

pub or_on : (b r w s : Bool) → b ≡ false → w ≡ (b || r) → w ≡ s → r ≡ s
or_on b r w s is opens same = sym (opens ∙ ap (λ x. x || r) is) ∙ same

pub or_stops : (b r w s : Bool) → b ≡ true → w ≡ (b || r) → w ≡ s → true ≡ s
or_stops b r w s is opens same = sym (opens ∙ ap (λ x. x || r) is) ∙ same

-- what stands at a place, read either way
pub read_at : (candidates : List Signature) (k : ℕ) (s : Signature) → slice_get candidates k ≡ Some s → at_place candidates k ≡ s
read_at candidates k s is = get_or_from_slice_get candidates k s [] is

pub count_of : (candidates : List Signature) (args : List Ty) (k : ℕ) (s : Signature) → FitsAt candidates args k → slice_get candidates k ≡ Some s → length s ≡ length args
count_of candidates args k s fit is = fits_length args s (subst (λ z. IsTrue (fits args z)) (read_at candidates k s is) fit.fits)

pub fits_there : (candidates : List Signature) (args : List Ty) (k : ℕ) (s : Signature) → k < length candidates → slice_get candidates k ≡ Some s → IsTrue (fits args s) → FitsAt candidates args k
fits_there candidates args k s within is fit = record { there = within; fits = subst (λ z. IsTrue (fits args z)) (sym (read_at candidates k s is)) fit }
