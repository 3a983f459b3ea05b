-- Members of a group stand one behind another.
use Rattle.std.proofs.Common.{◌≡◌, ap, subst, ℕ, zero, suc, ◌+◌, ◌<◌, ◌≤◌, Option, Some, None, IsTrue, arith}
use Rattle.std.proofs.lemmas.Option.{none-some}
use Rattle.std.proofs.lemmas.Bool.{and_parts}
use Rattle.gsl_layout.specs.Layout.{Layout, Parts, End, Part, AreParts, IsLayout, all_closed, closed, need, part_at, offset_at}

abbrev pub number_or : ℕ → Option ℕ → ℕ
number_or d (Some n) = n
number_or d None = d

abbrev pub layout_or : Layout → Option Layout → Layout
layout_or d (Some l) = l
layout_or d None = d

-- no member stands before the place from which they begin
offset_from : (parts : Parts) (from end i o : ℕ) → AreParts from parts end → offset_at parts i ≡ Some o → from ≤ o
offset_from End from end i o are at = elim are [ ]
offset_from (Part offset layout End) from end zero o are at = omega (arith, are.0, ap (number_or o) at)
offset_from (Part offset layout End) from end (suc i) o are at = let absent : ⊥ = none-some _ at in elim absent [ ]
offset_from (Part offset layout (Part next inner rest)) from end zero o are at = omega (arith, are.0, ap (number_or o) at)
offset_from (Part offset layout (Part next inner rest)) from end (suc i) o are at = omega (arith, are.0, offset_from (Part next inner rest) (offset + need layout) end i o are.5 at)

-- an earlier member is closed, and ends before a later one begins
pub earlier_apart : (parts : Parts) (from end j i o p : ℕ) (m : Layout) → AreParts from parts end → j < i → part_at parts j ≡ Some m → offset_at parts j ≡ Some o → offset_at parts i ≡ Some p
    → IsTrue (closed m) × (o + need m ≤ p)
earlier_apart End from end j i o p m are less is at_j at_i = elim are [ ]
earlier_apart (Part offset layout End) from end j zero o p m are less is at_j at_i = let never : ⊥ = omega (arith, less) in elim never [ ]
earlier_apart (Part offset layout End) from end j (suc i) o p m are less is at_j at_i = let absent : ⊥ = none-some _ at_i in elim absent [ ]
earlier_apart (Part offset layout (Part next inner rest)) from end j zero o p m are less is at_j at_i = let never : ⊥ = omega (arith, less) in elim never [ ]
earlier_apart (Part offset layout (Part next inner rest)) from end zero (suc i) o p m are less is at_j at_i =
    let same = ap (layout_or m) is in (
      subst (λ l. IsTrue (closed l)) same are.4,
      omega (arith, offset_from (Part next inner rest) (offset + need layout) end i p are.5 at_i, ap (number_or o) at_j, ap need same),
    )
earlier_apart (Part offset layout (Part next inner rest)) from end (suc j) (suc i) o p m are less is at_j at_i =
    earlier_apart (Part next inner rest) (offset + need layout) end j i o p m are.5 (omega (arith, less)) is at_j at_i

-- each member is a layout
pub member_layout : (parts : Parts) (from end i : ℕ) (m : Layout) → AreParts from parts end → part_at parts i ≡ Some m → IsLayout m
member_layout End from end i m are is = elim are [ ]
member_layout (Part offset layout End) from end zero m are is = subst IsLayout (ap (layout_or m) is) are.2
member_layout (Part offset layout End) from end (suc i) m are is = let absent : ⊥ = none-some _ is in elim absent [ ]
member_layout (Part offset layout (Part next inner rest)) from end zero m are is = subst IsLayout (ap (layout_or m) is) are.2
member_layout (Part offset layout (Part next inner rest)) from end (suc i) m are is = member_layout (Part next inner rest) (offset + need layout) end i m are.5 is

-- each member of a closed group is closed
pub member_closed : (parts : Parts) (i : ℕ) (m : Layout) → IsTrue (all_closed parts) → part_at parts i ≡ Some m → IsTrue (closed m)
member_closed End i m shut is = let absent : ⊥ = none-some _ is in elim absent [ ]
member_closed (Part offset layout rest) zero m shut is = subst (λ l. IsTrue (closed l)) (ap (layout_or m) is) (and_parts _ _ shut).0
member_closed (Part offset layout rest) (suc i) m shut is = member_closed rest i m (and_parts _ _ shut).1 is
