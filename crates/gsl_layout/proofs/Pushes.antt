-- One more member at the end.
use Rattle.std.proofs.Common.{◌≡◌, refl, sym, ap, ◌∙◌, ℕ, ◌+◌, ◌≤◌, max, List, [], ◌∷◌, ◌++◌, length, arith, length-append}
use Rattle.gsl_layout.specs.Layout.{Layout, Parts, End, Part}
use Rattle.gsl_layout.specs.Parts.{parts_of}
use Rattle.gsl_layout.specs.Extents.{most_bytes}
use Rattle.gsl_layout.specs.Gathers.{Gathers}
use Rattle.gsl_layout.specs.Placings.{Placed, actual_align, end_of, largest_actual, largest_base, last_first, offset_behind, parts_behind}
use Rattle.gsl_layout.specs.declared.gathered.Gathered.{Gathered}
use Rattle.gsl_layout.proofs.Placements.{last_first_append}

abbrev with_part : Parts → ℕ → Layout → Parts
with_part End o l = Part o l End
with_part (Part offset layout rest) o l = Part offset layout (with_part rest o l)

parts_of_push : (offsets : List ℕ) (layouts : List Layout) (o : ℕ) (l : Layout) → length offsets ≡ length layouts
    → parts_of (offsets ++ o ∷ []) (layouts ++ l ∷ []) ≡ with_part (parts_of offsets layouts) o l
parts_of_push [] [] o l paired = refl
parts_of_push [] (layout ∷ layouts) o l paired = let no_pair : ⊥ = omega (arith, paired) in elim no_pair [ ]
parts_of_push (offset ∷ offsets) [] o l paired = let no_pair : ⊥ = omega (arith, paired) in elim no_pair [ ]
parts_of_push (offset ∷ offsets) (layout ∷ layouts) o l paired = ap (Part offset layout) (parts_of_push offsets layouts o l (omega (arith, paired)))

pub last_first_push : (members before : List Placed) (member : Placed) → last_first before (members ++ member ∷ []) ≡ member ∷ last_first before members
last_first_push members before member = last_first_append members (member ∷ []) before

parts_behind_push : (members before : List Placed) (member : Placed)
    → parts_behind before (members ++ member ∷ []) ≡ with_part (parts_behind before members) (offset_behind (end_of (last_first before members)) member) member.1.laid
parts_behind_push [] before member = refl
parts_behind_push (first ∷ members) before member = ap (Part (offset_behind (end_of before) first) first.1.laid) (parts_behind_push members (first ∷ before) member)

pub base_push : (members : List Placed) (member : Placed) → 4 ≤ member.1.align → largest_base (members ++ member ∷ []) ≡ max (largest_base members) member.1.align
base_push [] member least = omega (arith, least)
base_push (first ∷ members) member least = omega (arith, base_push members member least)

actual_push : (members : List Placed) (member : Placed) → 4 ≤ actual_align member → largest_actual (members ++ member ∷ []) ≡ max (largest_actual members) (actual_align member)
actual_push [] member least = omega (arith, least)
actual_push (first ∷ members) member least = omega (arith, actual_push members member least)

module _ (g : Gathered) (members : List Placed) (gathers : Gathers g members) (member : Placed) where
  abbrev place : ℕ
  place = offset_behind g.end member

  pub end_push : end_of (last_first [] (members ++ member ∷ [])) ≡ place + member.1.size
  end_push = ap end_of (last_first_push members [] member) ∙ ap (λ e. offset_behind e member + member.1.size) (sym gathers.end)

  pub gathers_push : (now : Gathered) → 4 ≤ member.1.align → now.offsets ≡ g.offsets ++ place ∷ [] → now.laids ≡ g.laids ++ member.1.laid ∷ [] → now.end ≡ place + member.1.size
      → now.base ≡ max g.base member.1.align → now.align ≡ max g.align (actual_align member) → now.end ≤ most_bytes → Gathers now (members ++ member ∷ [])
  gathers_push now least offsets laids end base align small = record {
    parts = ap (λ os. parts_of os now.laids) offsets ∙ ap (parts_of (g.offsets ++ place ∷ [])) laids
        ∙ parts_of_push g.offsets g.laids place member.1.laid gathers.paired
        ∙ ap (λ p. with_part p place member.1.laid) gathers.parts
        ∙ ap (λ e. with_part (parts_behind [] members) (offset_behind e member) member.1.laid) gathers.end
        ∙ sym (parts_behind_push members [] member);
    paired = omega (arith, ap length offsets, ap length laids, gathers.paired, length-append g.offsets (place ∷ []), length-append g.laids (member.1.laid ∷ []));
    end = end ∙ sym end_push;
    base = base ∙ ap (λ a. max a member.1.align) gathers.base ∙ sym (base_push members member least);
    align = align ∙ ap (λ a. max a (actual_align member)) gathers.align ∙ sym (actual_push members member (omega (arith, least)));
    small = small;
  }
