-- Blocks and buffers of which one alone is at a set and binding (GLSL 4.50, 4.4.5; Vulkan 1.0, 14.5).
use Rattle.std.specs.Prelude.{◌≡◌, ℕ, zero, suc, true, false, List, [], ◌∷◌}
use Rattle.gsl_base.specs.declared.input.Buffer.{Buffer}
use Rattle.gsl_tree.specs.WellTyped.{is_push}
use Rattle.gsl_tree.specs.declared.unit.Block.{Block}
use Rattle.gsl_views.specs.Buffers.{is_at}

-- A block has no buffer there: it is of push constants, or has another set or binding.
abbrev pub IsApart : ℕ → ℕ → Block → Type 0
IsApart set binding block = is_push block.kind ≡ false → block.set ≡ set → block.binding ≡ binding → ⊥

abbrev pub AreApart : ℕ → ℕ → List Block → Type 0
AreApart set binding [] = Unit {0}
AreApart set binding (block ∷ blocks) = IsApart set binding block × AreApart set binding blocks

-- The block of a number has its buffer there, and no other has.
abbrev pub StandsAlone : ℕ → ℕ → List Block → ℕ → Block → Type 0
StandsAlone set binding [] number block = ⊥
StandsAlone set binding (first ∷ blocks) zero block = (first ≡ block) × AreApart set binding blocks
StandsAlone set binding (first ∷ blocks) (suc number) block = IsApart set binding first × StandsAlone set binding blocks number block

-- No buffer is there.
abbrev pub NoneAt : ℕ → ℕ → List Buffer → Type 0
NoneAt set binding [] = Unit {0}
NoneAt set binding (buffer ∷ buffers) = (is_at set binding buffer ≡ false) × NoneAt set binding buffers

-- At most one is.
abbrev pub IsOnly : ℕ → ℕ → List Buffer → Type 0
IsOnly set binding [] = Unit {0}
IsOnly set binding (buffer ∷ buffers) = (is_at set binding buffer ≡ true → NoneAt set binding buffers) × IsOnly set binding buffers
