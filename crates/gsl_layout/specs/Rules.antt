-- Alignments, and what a layout rule does to those of arrays and structs (OpenGL 4.5, 7.6.2.2).
use Rattle.std.specs.Prelude.{◌≡◌, ℕ, ◌+◌, ◌-◌, ◌*◌, ◌/◌, ◌%◌, ◌⊎◌}

-- the alignments that types have
abbrev pub IsAlignment : ℕ → Type 0
IsAlignment align = (align ≡ 4) ⊎ ((align ≡ 8) ⊎ (align ≡ 16))

-- A rule gives an alignment for an alignment, a multiple of it; and what it gave it keeps.
pub record Raises (raise : ℕ → ℕ) (align : ℕ) : Type 0 where
  pub alignment : IsAlignment (raise align)
  pub multiple : raise align % align ≡ 0
  pub again : raise (raise align) ≡ raise align

-- std140 gives 16 to all
abbrev pub raise_std140 : ℕ → ℕ
raise_std140 align = 16

-- std430 gives each its own
abbrev pub raise_std430 : ℕ → ℕ
raise_std430 align = align

-- the least multiple of an alignment that is not below a place
abbrev pub least_multiple : ℕ → ℕ → ℕ
least_multiple align place = (place + (align - 1)) / align * align
