-- Declarations of global variables stand in the order of their units, and within a unit in theirs.
use Rattle.std.proofs.Common.{◌≡◌, refl, sym, subst, ℕ, zero, suc, ◌+◌, ◌<◌, ◌⊎◌, inl, inr, Bool, true, false, cond, List, [], ◌∷◌, ◌++◌, slice_get, Some, arith}
use Rattle.std.specs.Prelude.{filter}
use Rattle.std.proofs.lemmas.Option.{none-some, same_Some}
use Rattle.gsl_tree.specs.declared.unit.GlobalVar.{GlobalVar}
use Rattle.gsl_link_units.specs.Declarations.{Side}
use Rattle.gsl_link_whole.specs.Numbers.{Sited, sited_from, all_from, all_globals, stands, standing}
use Rattle.gsl_link_law.proofs.Members.{In, in_get, in_parts, in_filter}
use Rattle.gsl_link_law.proofs.Sites.{sited_at, all_at}

abbrev pub IsBefore : Sited → Sited → Type 0
IsBefore a b = (a.unit < b.unit) ⊎ ((a.unit ≡ b.unit) × (a.index < b.index))

abbrev Ascend : List Sited → Type 0
Ascend [] = Unit {0}
Ascend (a ∷ rest) = ((b : Sited) → In b rest → IsBefore a b) × Ascend rest

ascend_append : (xs ys : List Sited) → Ascend xs → Ascend ys → ((a b : Sited) → In a xs → In b ys → IsBefore a b) → Ascend (xs ++ ys)
ascend_append [] ys first second before = second
ascend_append (x ∷ xs) ys first second before =
    ((λ b at. by_place b (in_parts b xs ys at)), ascend_append xs ys first.1 second (λ a b at_a at_b. before a b (inr at_a) at_b))
  where
    by_place : (b : Sited) → In b xs ⊎ In b ys → IsBefore x b
    by_place b (inl at) = first.0 b at
    by_place b (inr at) = before x b (inl refl) at

ascend_filter : (p : Sited → Bool) (xs : List Sited) → Ascend xs → Ascend (filter p xs)
ascend_filter p [] all = tt
ascend_filter p (x ∷ xs) all = by_cases (p x) (ascend_filter p xs all.1)
  where
    by_cases : (b : Bool) → Ascend (filter p xs) → Ascend (cond b (x ∷ filter p xs) (filter p xs))
    by_cases true later = ((λ b at. all.0 b (in_filter p xs b at).0), later)
    by_cases false later = later

ascend_sited : (unit index : ℕ) (globals : List GlobalVar) → Ascend (sited_from unit index globals)
ascend_sited unit index [] = tt
ascend_sited unit index (g ∷ globals) = (
  (λ b at.
      let is = sited_at unit (index + 1) globals b at in
      let place = is.1.1 in
      inr (sym is.0, (let less : index < b.index = omega (arith, place) in less))),
  ascend_sited unit (index + 1) globals,
)

ascend_all : (unit : ℕ) (sides : List Side) → Ascend (all_from unit sides)
ascend_all unit [] = tt
ascend_all unit (side ∷ sides) =
    ascend_append (sited_from unit 0 side.unit.globals) (all_from (unit + 1) sides) (ascend_sited unit 0 side.unit.globals) (ascend_all (unit + 1) sides)
    (λ a b at_a at_b.
    let first = (sited_at unit 0 side.unit.globals a at_a).0 in
    let second = (all_at (unit + 1) sides b at_b).1 in
    inl (let less : a.unit < b.unit = omega (arith, first, second) in less))

before_at : (xs : List Sited) → Ascend xs → (p q : ℕ) (a b : Sited) → slice_get xs p ≡ Some a → slice_get xs q ≡ Some b → p < q → IsBefore a b
before_at [] all p q a b at_a at_b less = elim (none-some a at_a) [ ]
before_at (x ∷ xs) all zero zero a b at_a at_b less = let never : ⊥ = omega (arith, less) in elim never [ ]
before_at (x ∷ xs) all zero (suc q) a b at_a at_b less = subst (λ z. IsBefore z b) (same_Some x a at_a) (all.0 b (in_get xs q b at_b))
before_at (x ∷ xs) all (suc p) zero a b at_a at_b less = let never : ⊥ = omega (arith, less) in elim never [ ]
before_at (x ∷ xs) all (suc p) (suc q) a b at_a at_b less = before_at xs all.1 p q a b at_a at_b (omega (arith, less))

-- of two declarations that stand for variables the one that is before the other has the lower number
pub standing_before : (sides : List Side) (p q : ℕ) (a b : Sited) → slice_get (standing sides) p ≡ Some a → slice_get (standing sides) q ≡ Some b → p < q → IsBefore a b
standing_before sides = before_at (standing sides) (ascend_filter (stands (all_globals sides)) (all_globals sides) (ascend_all 0 sides))
