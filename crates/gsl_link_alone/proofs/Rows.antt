-- Numbers in a row: each place has its own number.
use Rattle.std.proofs.Common.{◌≡◌, sym, ◌∙◌, subst, ℕ, ◌+◌, ◌<◌, ◌≤◌, ◌⊎◌, inl, inr, List, [], ◌∷◌, ◌++◌, map, length, slice_get, Some, arith}
use Rattle.std.proofs.lemmas.Bool.{cases_lt}
use Rattle.std.proofs.lemmas.Option.{get_or_from_slice_get}
use Rattle.gsl_types.proofs.Shapes.{slice_found}
use Rattle.gsl_link_units.specs.Types.{new_number}
use Rattle.gsl_link_alone.specs.Alone.{InRow}
use Rattle.gsl_link_law.proofs.Exprs.{at_mapped}
use Rattle.gsl_link_law.proofs.Putting.{get_append, get_last}

-- one more
pub row_more : (numbers : List ℕ) → InRow numbers (length numbers) → InRow (numbers ++ length numbers ∷ []) (length numbers + 1)
row_more numbers row k below = by_place (cases_lt k (length numbers))
  where
    by_place : (k < length numbers) ⊎ (length numbers ≤ k) → new_number (numbers ++ length numbers ∷ []) k ≡ k
    by_place (inl within) =
        let found = slice_found numbers k within in
        let is : found.0 ≡ k = sym (get_or_from_slice_get numbers k found.0 0 found.1) ∙ row k within in
        get_or_from_slice_get (numbers ++ length numbers ∷ []) k found.0 0 (get_append numbers (length numbers ∷ []) k found.0 found.1) ∙ is
    by_place (inr past) =
        let last : length numbers ≡ k = omega (arith, below, past) in
        subst (λ j. new_number (numbers ++ length numbers ∷ []) j ≡ j) last
        (get_or_from_slice_get (numbers ++ length numbers ∷ []) (length numbers) (length numbers) 0 (get_last numbers (length numbers)))

-- the numbers of items, where each is that of its place
pub row_mapped : {A : Type 0} (number : A → ℕ) (xs : List A) → ((k : ℕ) (x : A) → slice_get xs k ≡ Some x → number x ≡ k) → InRow (map number xs) (length xs)
row_mapped number xs each k below =
    let found = slice_found xs k below in
    get_or_from_slice_get (map number xs) k (number found.0) 0 (at_mapped number xs k found.0 found.1) ∙ each k found.0 found.1
