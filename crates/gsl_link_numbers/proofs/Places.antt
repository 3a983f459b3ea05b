-- A search that finds nothing ends at the end.
use Rattle.std.proofs.Common.{◌≡◌, refl, ◌≤◌, ◌+◌, Bool, true, false, cond, not, List, [], ◌∷◌, length, Some, None, arith}
use Rattle.std.specs.Prelude.{nat_lt, position}
use Rattle.std.specs.List.{position_or_len}
use Rattle.std.proofs.lemmas.Bool.{ltb-false}

module _ {A : Type 0} (test : A → Bool) where
  at_most : (xs : List A) → position_or_len test xs ≤ length xs
  at_most [] = omega arith
  at_most (x ∷ xs) = by_cases (test x) (at_most xs)
    where
      by_cases : (b : Bool) → position_or_len test xs ≤ length xs → cond (not b) (1 + position_or_len test xs) 0 ≤ length (x ∷ xs)
      by_cases true most = omega arith
      by_cases false most = omega (arith, most)

  pub none_found : (xs : List A) → position test xs ≡ None → length xs ≡ position_or_len test xs
  none_found xs = by_cases (nat_lt (position_or_len test xs) (length xs)) refl
    where
      by_cases : (b : Bool) → nat_lt (position_or_len test xs) (length xs) ≡ b → cond b (Some (position_or_len test xs)) None ≡ None → length xs ≡ position_or_len test xs
      by_cases true e found = cc
      by_cases false e none = let most = at_most xs in let least = ltb-false (position_or_len test xs) (length xs) e in omega (arith, most, least)
