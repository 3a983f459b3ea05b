-- What a swizzle picks is there.
use Rattle.std.proofs.Common.{◌≡◌, refl, sym, ap, ◌∙◌, subst, ℕ, zero, suc, ◌≤◌, ◌<◌, List, [], ◌∷◌, take, length, Option, Some, None, unwrap_or, arith, Bool, true, false, ◌&&◌, IsTrue, nat_lt, nat_le, if◌then◌else◌, slice_index}
use Rattle.std.specs.List.{list_all}
use Rattle.std.proofs.lemmas.Bool.{and_parts, and_from, lt-ltb, leb-true, cond-true}
use Rattle.std.proofs.lemmas.Option.{none-some, cond_some}
use Rattle.gsl_values.specs.declared.lane.Lanes.{Lanes}
use Rattle.gsl_values.specs.Vectors.{IsLanes, components as positions}
use Rattle.gsl_makers.specs.declared.swizzles.Letters.{Letters}
use Rattle.gsl_makers.specs.Swizzles.{Letter, letter_of, same_letters, component_by, component_at, lanes_with, swizzle_by, swizzle}

component_below : (set : Letters) (count p : ℕ) (o : Option Letter) → component_by set count o ≡ Some p → IsTrue (nat_lt p count)
component_below set count p None is = elim (none-some p is) [ ]
component_below set count p (Some letter) is =
    let parts = cond_some (same_letters set letter.0 && nat_lt letter.1 count) letter.1 p is in
    subst (λ q. IsTrue (nat_lt q count)) parts.1 (and_parts (same_letters set letter.0) (nat_lt letter.1 count) parts.0).1

at_below : (set : Letters) (count : ℕ) (name : List ℕ) (k p : ℕ) → component_at set count name k ≡ Some p → k < length name → IsTrue (nat_lt p count)
at_below set count name k p is inside =
    component_below set count p (letter_of (slice_index name k))
    (sym (cond-true (nat_lt k (length name)) (component_by set count (letter_of (slice_index name k))) (Some 0) (lt-ltb k (length name) inside)) ∙ is)

all_below : (count n a b c d : ℕ) → n ≤ 4 → (0 < n → IsTrue (nat_lt a count)) → (1 < n → IsTrue (nat_lt b count)) → (2 < n → IsTrue (nat_lt c count)) → (3 < n → IsTrue (nat_lt d count))
    → IsTrue (list_all (λ position. nat_lt position count) (take n (a ∷ b ∷ c ∷ d ∷ [])))
all_below count zero a b c d most p q r s = refl
all_below count (suc zero) a b c d most p q r s = and_from _ _ (p (omega arith)) refl
all_below count (suc (suc zero)) a b c d most p q r s = and_from _ _ (p (omega arith)) (and_from _ _ (q (omega arith)) refl)
all_below count (suc (suc (suc zero))) a b c d most p q r s = and_from _ _ (p (omega arith)) (and_from _ _ (q (omega arith)) (and_from _ _ (r (omega arith)) refl))
all_below count (suc (suc (suc (suc zero)))) a b c d most p q r s = and_from _ _ (p (omega arith)) (and_from _ _ (q (omega arith)) (and_from _ _ (r (omega arith)) (and_from _ _ (s (omega arith)) refl)))
all_below count (suc (suc (suc (suc (suc n))))) a b c d most p q r s = let no : ⊥ = omega (arith, most) in elim no [ ]

abbrev Picks : ℕ → Lanes → Type 0
Picks count lanes = IsLanes lanes × IsTrue (list_all (λ position. nat_lt position count) (positions lanes))

module _ (count : ℕ) (lanes : Lanes) where
  with_all : (n : ℕ) (oa ob oc od : Option ℕ) → 1 ≤ n → n ≤ 4
      → ((p : ℕ) → oa ≡ Some p → 0 < n → IsTrue (nat_lt p count)) → ((p : ℕ) → ob ≡ Some p → 1 < n → IsTrue (nat_lt p count))
      → ((p : ℕ) → oc ≡ Some p → 2 < n → IsTrue (nat_lt p count)) → ((p : ℕ) → od ≡ Some p → 3 < n → IsTrue (nat_lt p count))
      → lanes_with n oa ob oc od ≡ Some lanes → Picks count lanes
  with_all n None ob oc od least most p q r s is = elim (none-some lanes is) [ ]
  with_all n (Some a) None oc od least most p q r s is = elim (none-some lanes is) [ ]
  with_all n (Some a) (Some b) None od least most p q r s is = elim (none-some lanes is) [ ]
  with_all n (Some a) (Some b) (Some c) None least most p q r s is = elim (none-some lanes is) [ ]
  with_all n (Some a) (Some b) (Some c) (Some d) least most p q r s is =
      let same : record { words = a ∷ b ∷ c ∷ d ∷ []; count = n } ≡ lanes = ap (λ o. unwrap_or o lanes) is in
      subst (Picks count) same ((least, most, most), all_below count n a b c d most (p a refl) (q b refl) (r c refl) (s d refl))

  by_letter : (name : List ℕ) (o : Option Letter) → 1 ≤ length name → length name ≤ 4 → swizzle_by o count name ≡ Some lanes → Picks count lanes
  by_letter name None least most is = elim (none-some lanes is) [ ]
  by_letter name (Some letter) least most is =
      with_all (length name) (component_at letter.0 count name 0) (component_at letter.0 count name 1) (component_at letter.0 count name 2) (component_at letter.0 count name 3) least most
      (at_below letter.0 count name 0) (at_below letter.0 count name 1) (at_below letter.0 count name 2) (at_below letter.0 count name 3) is

  by_length : (name : List ℕ) (b : Bool) → (nat_le 1 (length name) && nat_le (length name) 4) ≡ b → (if b then swizzle_by (letter_of (slice_index name 0)) count name else None) ≡ Some lanes → Picks count lanes
  by_length name false few is = elim (none-some lanes is) [ ]
  by_length name true few is =
      let parts = and_parts (nat_le 1 (length name)) (nat_le (length name) 4) few in
      by_letter name (letter_of (slice_index name 0)) (leb-true 1 (length name) parts.0) (leb-true (length name) 4 parts.1) is

  pub swizzle_picks : (name : List ℕ) → swizzle count name ≡ Some lanes → IsLanes lanes × IsTrue (list_all (λ position. nat_lt position count) (positions lanes))
  unfolding swizzle
  swizzle_picks name is = by_length name (nat_le 1 (length name) && nat_le (length name) 4) refl is
