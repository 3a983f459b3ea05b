-- Lists of other lengths do not agree, and loops over lists.
use Rattle.std.proofs.Common.{ℕ, ◌≡◌, suc, ◌+◌, ◌<◌, ◌≤◌, Bool, true, false, cond, not, ◌&&◌, ◌||◌, List, [], ◌∷◌, length, refl, ap, bytes_eq, arith, map, take, drop, ◌++◌, get_or, set, slice_set, ◌∙◌}
use Rattle.std.proofs.lemmas.List.Edits.{map_over_more}
use Rattle.std.specs.List.{list_any, position_or_len}
use Rattle.gsl_types.specs.declared.ty.Member.{Member}
use Rattle.gsl_link_units.specs.Types.{same_type}
use Rattle.gsl_link_units.specs.Structs.{same_members}
use Rattle.gsl_types.specs.declared.ty.Direction.{Direction}
use Rattle.gsl_types.specs.declared.ty.Ty.{Ty}
use Rattle.gsl_tree.specs.declared.unit.BlockMember.{BlockMember}
use Rattle.gsl_link_units.specs.Agreement.{same_params, same_direction, same_directions, agree_member, agree_members}

both_needed : (b c : Bool) → false ≡ c → false ≡ (b && c)
both_needed true c is = is
both_needed false c is = refl

pub other_params : (a b : List (Direction × Ty)) → (length a ≡ length b → ⊥) → false ≡ same_params a b
other_params [] [] differ = absurd (differ refl)
other_params [] (y ∷ ys) differ = refl
other_params (x ∷ xs) [] differ = refl
other_params (x ∷ xs) (y ∷ ys) differ = both_needed (same_type x.1 y.1) (same_params xs ys) (other_params xs ys (λ e. differ (ap suc e)))

pub other_directions : (a b : List (Direction × Ty)) → (length a ≡ length b → ⊥) → false ≡ same_directions a b
other_directions [] [] differ = absurd (differ refl)
other_directions [] (y ∷ ys) differ = refl
other_directions (x ∷ xs) [] differ = refl
other_directions (x ∷ xs) (y ∷ ys) differ = both_needed (same_direction x.0 y.0) (same_directions xs ys) (other_directions xs ys (λ e. differ (ap suc e)))

pub other_members : (a b : List BlockMember) → (length a ≡ length b → ⊥) → false ≡ agree_members a b
other_members [] [] differ = absurd (differ refl)
other_members [] (y ∷ ys) differ = refl
other_members (x ∷ xs) [] differ = refl
other_members (x ∷ xs) (y ∷ ys) differ = both_needed (agree_member x y) (agree_members xs ys) (other_members xs ys (λ e. differ (ap suc e)))

-- a loop that writes what it makes of each item over it
pub put_over : {X : Type 0} (f : X → X) (xs ys : List X) (i : ℕ) (x y : X) → i < length xs → ys ≡ map f (take i xs) ++ drop i xs → x ≡ get_or ys i x → y ≡ f x →
    slice_set ys i y ≡ map f (take (i + 1) xs) ++ drop (i + 1) xs
put_over f xs ys i x y below so_far at is = ap (λ z. set ys i z) is ∙ map_over_more f xs ys i x below so_far at
