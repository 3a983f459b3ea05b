-- Tables of what types need and extend over, in bytes, which tell no sizes apart that are above every offset and stride.
use Rattle.std.specs.Prelude.{◌≡◌, ℕ, ◌+◌, ◌^◌, Bool, true, ◌&&◌, List, [], ◌∷◌, min, slice_index, Option, Some, None}
use Rattle.gsl_words.specs.declared.module.Module.{Module}
use Rattle.gsl_instr.specs.declared.enumerant.decoration.TheConstants as decoration
use Rattle.gsl_valid.specs.Kinds.{shape_of}
use Rattle.gsl_valid.specs.Placed.{Code}
use Rattle.gsl_valid.specs.Types.{defined_as}
use Rattle.gsl_valid.specs.Decorations.{number_on_member}
use Rattle.gsl_valid.specs.LayoutRules.{may_be_in, is_end, may_grow, is_at, end_after}

-- what is told of a size
abbrev pub told : ℕ → ℕ
told size = min (2 ^ 32) size

-- what a table tells of a type
abbrev pub told_of : List ℕ → ℕ → ℕ
told_of rows id = told (slice_index rows id)

-- The rows tell the sizes of the types that are defined among some instructions.
abbrev pub TellSizes : List ℕ → (ℕ → ℕ) → Type 0
TellSizes rows size_of = (id : ℕ) → slice_index rows id ≡ told (size_of id)

-- whether these members of a struct, numbered from one on, may be laid behind an end, by what is told of their types
abbrev pub is_laid_by : Module → List ℕ → List ℕ → ℕ → ℕ → ℕ → List ℕ → Bool
is_laid_by m needs extents struct member end [] = true
is_laid_by m needs extents struct member end (type ∷ types) =
    let offset = number_on_member m decoration.OFFSET struct member in
    may_be_in m (is_end types && may_grow m struct) (shape_of (defined_as m type)) && is_at offset end (told_of extents type)
    && is_laid_by m needs extents struct (member + 1) (end_after offset (told_of needs type)) types
