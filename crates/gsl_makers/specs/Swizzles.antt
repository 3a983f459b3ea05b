-- Components of scalars and vectors by their letters (GLSL 4.50, 5.5).
use Rattle.std.specs.Prelude.{ℕ, Bool, true, false, ◌&&◌, ◌==◌, nat_eq, nat_lt, nat_le, List, [], ◌∷◌, length, slice_index, Option, Some, None, if◌then◌else◌}
use Rattle.gsl_values.specs.declared.lane.Lanes.{Lanes}
use Rattle.gsl_makers.specs.declared.swizzles.Letters.{Letters}
use Rattle.gsl_makers.specs.declared.swizzles.Letters.TheVariants.{Xyzw, Rgba, Stpq}

-- a letter: of which of the three sets it is, and which component it names
abbrev pub Letter : Type 0
Letter = Letters × ℕ

-- the letters x y z w, r g b a and s t p q
abbrev pub letter_of : ℕ → Option Letter
letter_of byte =
    if byte == 120 then Some (Xyzw, 0)
    else (if byte == 121 then Some (Xyzw, 1)
    else (if byte == 122 then Some (Xyzw, 2)
    else (if byte == 119 then Some (Xyzw, 3)
    else (if byte == 114 then Some (Rgba, 0)
    else (if byte == 103 then Some (Rgba, 1)
    else (if byte == 98 then Some (Rgba, 2)
    else (if byte == 97 then Some (Rgba, 3)
    else (if byte == 115 then Some (Stpq, 0)
    else (if byte == 116 then Some (Stpq, 1)
    else (if byte == 112 then Some (Stpq, 2)
    else (if byte == 113 then Some (Stpq, 3)
    else None)))))))))))

abbrev pub same_letters : Letters → Letters → Bool
same_letters Xyzw Xyzw = true
same_letters Rgba Rgba = true
same_letters Stpq Stpq = true
same_letters _ _ = false

-- the component that a letter of one set names, among so many
abbrev pub component_by : Letters → ℕ → Option Letter → Option ℕ
component_by set count None = None
component_by set count (Some letter) = if same_letters set letter.0 && nat_lt letter.1 count then Some letter.1 else None

-- the component that stands at a place of a swizzle; 0 behind its last letter
abbrev pub component_at : Letters → ℕ → List ℕ → ℕ → Option ℕ
component_at set count name at = if nat_lt at (length name) then component_by set count (letter_of (slice_index name at)) else Some 0

abbrev pub lanes_with : ℕ → Option ℕ → Option ℕ → Option ℕ → Option ℕ → Option Lanes
lanes_with count (Some a) (Some b) (Some c) (Some d) = Some (record { words = a ∷ b ∷ c ∷ d ∷ []; count = count })
lanes_with count _ _ _ _ = None

abbrev pub swizzle_by : Option Letter → ℕ → List ℕ → Option Lanes
swizzle_by None count name = None
swizzle_by (Some letter) count name =
    lanes_with (length name) (component_at letter.0 count name 0) (component_at letter.0 count name 1) (component_at letter.0 count name 2) (component_at letter.0 count name 3)

-- The components that a name picks of so many: one to four letters, all of the set of the first, each of a component that is there.
unfoldable pub swizzle : ℕ → List ℕ → Option Lanes
swizzle count name = if nat_le 1 (length name) && nat_le (length name) 4 then swizzle_by (letter_of (slice_index name 0)) count name else None
