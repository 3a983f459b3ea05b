-- What an input gives: the numbers of an invocation, and words by location.
use Rattle.std.specs.Prelude.{ℕ, ◌+◌, ◌*◌, ◌%◌, ◌^◌, Bool, ◌==◌, if◌then◌else◌, List, [], ◌∷◌, map, slice_index, Option, Some, None}
use Rattle.gsl_base.specs.declared.input.Input.{Input}
use Rattle.gsl_base.specs.declared.input.Located.{Located}
use Rattle.gsl_values.specs.declared.value.Value.{Value}
use Rattle.gsl_values.specs.declared.value.Value.TheVariants.{Word, Many}

-- ---- the numbers of an invocation (GLSL 4.50, 7.1)

abbrev pub vector_of : List ℕ → Value
vector_of words = Many (map Word words)

-- its number among all, in one dimension, by the size of a work group
abbrev pub global_part : List ℕ → Input → ℕ → ℕ
global_part size input i = (slice_index input.group i * slice_index size i + slice_index input.local i) % 2 ^ 32

-- `gl_GlobalInvocationID`
abbrev pub global_id : List ℕ → Input → Value
global_id size input = vector_of (global_part size input 0 ∷ global_part size input 1 ∷ global_part size input 2 ∷ [])

-- `gl_LocalInvocationIndex`
abbrev pub local_index : List ℕ → Input → Value
local_index size input =
    Word ((slice_index input.local 2 * slice_index size 0 * slice_index size 1 + slice_index input.local 1 * slice_index size 0 + slice_index input.local 0) % 2 ^ 32)

-- ---- words by location

abbrev pub is_there : ℕ → Located → Bool
is_there location value = value.location == location

-- the words that are given at a location
abbrev pub words_at : List Located → ℕ → Option (List ℕ)
words_at [] location = None
words_at (value ∷ values) location = if is_there location value then Some value.words else words_at values location
