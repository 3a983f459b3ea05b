-- The alignments and sizes of types without their layouts, where a size of 2^32 bytes or more counts as 2^32: no `offset` is past that.
use Rattle.std.specs.Prelude.{◌≡◌, ℕ, ◌+◌, ◌^◌, true, false, List, min, slice_get, Option, Some, None}
use Rattle.gsl_types.specs.declared.ty.StructType.{StructType}
use Rattle.gsl_types.specs.declared.ty.Ty.TheVariants as ty
use Rattle.gsl_layout.specs.Measures.{measure}
use Rattle.gsl_layout.specs.Placings.{Placed, misplaced, offset_behind}
use Rattle.gsl_layout.specs.declared.measured.Measured.{Measured}
use Rattle.gsl_layout.specs.declared.outline.Outline.{Outline}

abbrev pub most_told : ℕ
most_told = 2 ^ 32

abbrev pub outline : Measured → Outline
outline m = record { align = m.align; size = min m.size most_told }

-- They are those of the first structs.
abbrev pub AreOutlined : (ℕ → ℕ) → List StructType → List Outline → Type 0
AreOutlined raise structs outlines = (number : ℕ) (o : Outline) → slice_get outlines number ≡ Some o → o ≡ outline (measure raise structs (ty.Struct number))

-- the end of a member behind an end, or none where it may not stand there
abbrev pub EndsPlaced : Option ℕ → ℕ → Placed → Type 0
EndsPlaced None before member = misplaced before member ≡ true
EndsPlaced (Some end) before member = (misplaced before member ≡ false) × (end ≡ min (offset_behind before member + member.1.size) most_told)
