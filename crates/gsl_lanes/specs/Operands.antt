-- Operands in slots.
use Rattle.std.specs.Prelude.{◌≡◌, ℕ, ◌+◌, ◌≤◌, ◌⊎◌, List, take, drop, slice_get, Some}
use Rattle.gsl_lanes.specs.declared.functions.Operand.{Operand}

-- the words of an operand
abbrev pub words_at : List ℕ → Operand → List ℕ
words_at slots operand = take operand.count (drop operand.place slots)

-- Each operand stands in front of a place, and has as many components, or one that serves for each.
abbrev pub Serve : List Operand → ℕ → ℕ → Type 0
Serve operands at count = (i : ℕ) (operand : Operand) → slice_get operands i ≡ Some operand → (operand.place + operand.count ≤ at) × ((operand.count ≡ 1) ⊎ (operand.count ≡ count))
