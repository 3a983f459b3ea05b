-- One more struct in the joined list, where none there is the same.
use Rattle.std.proofs.Common.{◌≡◌, refl, sym, subst, ℕ, zero, suc, ◌+◌, ◌<◌, Bool, true, false, cond, not, ◌||◌, List, [], ◌∷◌, ◌++◌, length, slice_get, Some, get_or, bytes_eq, min, arith}
use Rattle.std.specs.Prelude.{if◌then◌else◌}
use Rattle.std.specs.List.{AllByRecursion, list_any, position_or_len}
use Rattle.std.proofs.lemmas.Bool.{and_parts, true≢false}
use Rattle.std.proofs.lemmas.List.Sums.{passes_at_first}
use Rattle.std.proofs.lemmas.Option.{slice_get-get_or, none-some}
use Rattle.std.proofs.lemmas.Slice.Eq.{bytes_eq-Decides}
use Rattle.gsl_types.specs.declared.ty.Member.{Member}
use Rattle.gsl_types.specs.declared.ty.StructType.{StructType}
use Rattle.gsl_types.specs.Known.{AreStructs, IsSound}
use Rattle.gsl_types.specs.Leaves.{counting, leaves_together, most_leaves}
use Rattle.gsl_types.specs.Structs.{members_meaning}
use Rattle.gsl_types.proofs.Longer.{longer_known}
use Rattle.gsl_link_units.specs.Structs.{same_struct, same_members, with_struct, struct_number}
use Rattle.gsl_link_law.specs.Placed.{IsAt}
use Rattle.gsl_link_law.proofs.Same.{members_are}

-- ---- searches

module _ {A : Type 0} (test : A → Bool) where
  first_step : (xs : List A) → (list_any test xs ≡ true → position_or_len test xs < length xs) × (list_any test xs ≡ false → position_or_len test xs ≡ length xs)
  first_step [] = ((λ is. absurd (true≢false (sym is))), (λ is. refl))
  first_step (x ∷ xs) = by_cases (test x) (first_step xs)
    where
      by_cases : (b : Bool) → (list_any test xs ≡ true → position_or_len test xs < length xs) × (list_any test xs ≡ false → position_or_len test xs ≡ length xs)
          → ((b || list_any test xs) ≡ true → cond (not b) (1 + position_or_len test xs) 0 < length (x ∷ xs)) × ((b || list_any test xs) ≡ false → cond (not b) (1 + position_or_len test xs) 0 ≡ length (x ∷ xs))
      by_cases true later = ((λ is. omega arith), (λ is. absurd (true≢false is)))
      by_cases false later = ((λ is. let below = later.0 is in omega (arith, below)), (λ is. let last = later.1 is in omega (arith, last)))

  pub first_within : (xs : List A) → list_any test xs ≡ true → position_or_len test xs < length xs
  first_within xs = (first_step xs).0

  pub first_past : (xs : List A) → list_any test xs ≡ false → position_or_len test xs ≡ length xs
  first_past xs = (first_step xs).1

pub get_append : {X : Type 0} (xs ys : List X) (k : ℕ) (x : X) → slice_get xs k ≡ Some x → slice_get (xs ++ ys) k ≡ Some x
get_append [] ys k x found = let never : ⊥ = none-some _ found in elim never [ ]
get_append (y ∷ xs) ys zero x found = found
get_append (y ∷ xs) ys (suc k) x found = get_append xs ys k x found

pub get_last : {X : Type 0} (xs : List X) (y : X) → slice_get (xs ++ y ∷ []) (length xs) ≡ Some y
get_last [] y = refl
get_last (x ∷ xs) y = get_last xs y

-- ---- one more struct

module _ (joined : List StructType) (s : StructType) where
  abbrev Step : Bool → List StructType
  Step b = if b then joined else joined ++ s ∷ []

  -- what stands in the list stays there
  pub put_keeps : (number : ℕ) (t : StructType) → slice_get joined number ≡ Some t → slice_get (with_struct joined s) number ≡ Some t
  put_keeps number t found = by_cases (list_any (same_struct s) joined)
    where
      by_cases : (b : Bool) → slice_get (Step b) number ≡ Some t
      by_cases true = found
      by_cases false = get_append joined (s ∷ []) number t found

  -- the struct stands under its number
  pub put_there : IsAt (with_struct joined s) (struct_number joined s) s
  put_there = by_cases (list_any (same_struct s) joined) refl
    where
      by_cases : (b : Bool) → list_any (same_struct s) joined ≡ b → IsAt (Step b) (struct_number joined s) s
      by_cases true is =
          let within = first_within (same_struct s) joined is in
          let other = get_or joined (struct_number joined s) s in
          let p = and_parts (bytes_eq s.name other.name) (same_members s.members other.members) (passes_at_first (same_struct s) joined s within) in
          record {
            struct = other;
            there = slice_get-get_or joined (struct_number joined s) s within;
            name = sym ((bytes_eq-Decides s.name other.name).0 p.0);
            members = sym (members_are s.members other.members p.1);
          }
      by_cases false is = record {
        struct = s;
        there = subst (λ n. slice_get (joined ++ s ∷ []) n ≡ Some s) (sym (first_past (same_struct s) joined is)) (get_last joined s);
        name = refl;
        members = refl;
      }

  pub put_known : AreStructs joined → 0 < length s.members → AllByRecursion (λ (member : Member). IsSound (length joined) member.ty) s.members
      → s.leaves ≡ min (leaves_together (members_meaning counting joined s.members)) most_leaves → AreStructs (with_struct joined s)
  put_known known some sound told = by_cases (list_any (same_struct s) joined)
    where
      by_cases : (b : Bool) → AreStructs (Step b)
      by_cases true = known
      by_cases false = longer_known joined known s some sound told
