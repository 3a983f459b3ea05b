-- The words of constants in one list.
use Rattle.std.specs.Prelude.{◌≡◌, ℕ, ◌+◌, ◌≤◌, List, [], ◌∷◌, length, take, drop, replicate, slice_index, Option, Some, None}
use Rattle.std.specs.List.{flat_map}
use Rattle.gsl_words.specs.declared.module.Instr.{Instr}
use Rattle.gsl_words.specs.declared.module.Module.{Module}
use Rattle.gsl_valid.specs.Kinds.{Value, Truth, Word, Parts, Zeros}
use Rattle.gsl_valid.specs.Placed.{Code}
use Rattle.gsl_machine.specs.Constants.{constant_in, truth_of}
use Rattle.gsl_leaves.specs.Leaves.{leaves}
use Rattle.gsl_region.specs.Flat.{flat}

-- the words of a constant of a type, by those of the constants that are its parts
abbrev pub words_as : Module → (ℕ → List ℕ) → Instr → ℕ → Value → List ℕ
words_as m words_of i type Truth = truth_of i ∷ []
words_as m words_of i type (Word word) = word ∷ []
words_as m words_of i type (Parts parts) = flat_map words_of parts
words_as m words_of i type Zeros = replicate (leaves m type) 0

-- those of an instruction that may be a constant
abbrev pub words_if : Module → (ℕ → List ℕ) → Instr → Option (ℕ × Value) → List ℕ
words_if m words_of i None = []
words_if m words_of i (Some c) = words_as m words_of i c.0 c.1

-- the words at an id, where these are the first places and the counts
abbrev pub row : List ℕ → List ℕ → List ℕ → ℕ → List ℕ
row words firsts counts id = take (slice_index counts id) (drop (slice_index firsts id) words)

-- At an id are the words of its constant, where its definition is among these instructions, the last first.
pub record IsRow (words firsts counts : List ℕ) (m : Module) (before : Code) (id : ℕ) : Type 0 where
  pub within : slice_index firsts id + slice_index counts id ≤ length words
  pub is : row words firsts counts id ≡ flat (constant_in m before id)

-- So it is at each id.
abbrev pub Tells : List ℕ → List ℕ → List ℕ → Module → Code → Type 0
Tells words firsts counts m before = (id : ℕ) → IsRow words firsts counts m before id
