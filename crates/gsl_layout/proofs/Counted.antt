-- A layout has fewer members than a word can tell.
use Rattle.std.proofs.Common.{◌≡◌, sym, ℕ, ◌+◌, ◌*◌, ◌<◌, ◌≤◌, ◌^◌, List, [], ◌∷◌, length, IsTrue, arith}
use Rattle.std.proofs.lemmas.Bool.{and_parts, true≢false}
use Rattle.gsl_layout.specs.Layout.{Layout, Leaf, Array, Runtime, Group, Parts, End, Part, IsLayout, AreParts, closed, need}
use Rattle.gsl_layout.specs.Kinds.{part_count}
use Rattle.gsl_layout.specs.Parts.{parts_of}

-- what is closed needs a word
need_some : (layout : Layout) → IsLayout layout → IsTrue (closed layout) → 4 ≤ need layout
need_some (Leaf components) is shut = omega (arith, is.0)
need_some (Array stride count element) is shut = omega (arith, need_some element is.0 is.1)
need_some (Runtime stride element) is shut = let never : ⊥ = true≢false (sym shut) in elim never [ ]
need_some (Group End all) is shut = elim is.0 [ ]
need_some (Group (Part offset layout End) all) is shut = omega (arith, need_some layout is.0.2 (and_parts _ _ shut).0)
need_some (Group (Part offset layout (Part next inner rest)) all) is shut = omega (arith, need_some layout is.0.2 (and_parts _ _ shut).0)

-- all members but the last take a word
parts_take : (parts : Parts) (from end : ℕ) → AreParts from parts end → from + 4 * part_count parts ≤ end + 4
parts_take End from end are = elim are [ ]
parts_take (Part offset layout End) from end are = omega (arith, are.0, are.5)
parts_take (Part offset layout (Part next inner rest)) from end are =
    omega (arith, are.0, need_some layout are.2 are.4, parts_take (Part next inner rest) (offset + need layout) end are.5)

pub few_parts : (members : Parts) (all : ℕ) → IsLayout (Group members all) → part_count members < 2 ^ 32
few_parts members all is = omega (arith, parts_take members 0 all is.0, is.1)

pub parts_counted : (offsets : List ℕ) (layouts : List Layout) → length offsets ≡ length layouts → part_count (parts_of offsets layouts) ≡ length layouts
parts_counted [] [] paired = sym paired
parts_counted [] (layout ∷ layouts) paired = let no_pair : ⊥ = omega (arith, paired) in elim no_pair [ ]
parts_counted (offset ∷ offsets) [] paired = let no_pair : ⊥ = omega (arith, paired) in elim no_pair [ ]
parts_counted (offset ∷ offsets) (layout ∷ layouts) paired = omega (arith, parts_counted offsets layouts (omega (arith, paired)))
