-- Words of 32 bits.
use Rattle.std.specs.Prelude.{ℕ, ◌+◌, ◌%◌}

-- a sum keeps the low 32 bits (GLSL 4.50, 4.1.3; SPIR-V 1.0, OpIAdd)
unfoldable pub word_sum : ℕ → ℕ → ℕ
word_sum a b = (a + b) % 4294967296
