-- The types and constants of scalars and vectors (SPIR-V 1.0, 3.32.6 and 3.32.7).
use Rattle.std.specs.Prelude.{ℕ, true, false, ◌==◌, if◌then◌else◌, List, replicate}
use Rattle.gsl_types.specs.declared.ty.Scalar.{Scalar}
use Rattle.gsl_types.specs.declared.ty.Scalar.TheVariants.{Bool as Boolean, Int, Uint}
use Rattle.gsl_tree.specs.Shapes.{Shape}
use Rattle.gsl_spv.specs.Calls as call
use Rattle.gsl_spv.specs.declared.plain.PlainType.{PlainType}
use Rattle.gsl_spv.specs.declared.plain.PlainType.TheVariants as plain
use Rattle.gsl_spv.specs.declared.plain.PlainConst.{PlainConst}
use Rattle.gsl_spv.specs.declared.plain.PlainConst.TheVariants as of
use Rattle.gsl_lower_values.specs.Building.{Step, ◌>>=◌, given, id_by, in_order}

-- ---- types

abbrev pub plain_scalar : Scalar → PlainType
plain_scalar Boolean = plain.Bool
plain_scalar Int = plain.Int true
plain_scalar Uint = plain.Int false

unfoldable pub scalar_type : Scalar → Step ℕ
scalar_type s = id_by (call.plain_type (plain_scalar s))

abbrev pub vector_type : ℕ → ℕ → Step ℕ
vector_type count component = id_by (call.plain_type (plain.Vector component count))

-- the type of a scalar or vector
unfoldable pub type_of : Shape → Step ℕ
type_of shape = scalar_type shape.0 >>= (λ component. if shape.1 == 1 then given component else vector_type shape.1 component)

-- ---- constants

abbrev pub truth_of : ℕ → PlainConst
truth_of word = if word == 0 then of.False else of.True

abbrev pub word_of_type : ℕ → ℕ → Step ℕ
word_of_type word type = id_by (call.constant (of.Word type word))

-- the constant of an integer type with this word
abbrev pub number : Scalar → ℕ → Step ℕ
number s word = scalar_type s >>= word_of_type word

-- the constant of a scalar type with this word
unfoldable pub scalar_constant : Scalar → ℕ → Step ℕ
scalar_constant Boolean word = id_by (call.constant (truth_of word))
scalar_constant Int word = number Int word
scalar_constant Uint word = number Uint word

abbrev pub composed : List ℕ → ℕ → Step ℕ
composed parts type = id_by (call.composite type parts)

-- the constant of which each component has this word
unfoldable pub filled_constant : Shape → ℕ → Step ℕ
filled_constant shape word = scalar_constant shape.0 word >>= (λ part. if shape.1 == 1 then given part else type_of shape >>= composed (replicate shape.1 part))

-- the constants of a scalar type with these words, in their order
abbrev pub scalar_constants : Scalar → List ℕ → Step (List ℕ)
scalar_constants s words = in_order (scalar_constant s) words

-- the constant of a vector with these words
unfoldable pub vector_constant : Shape → List ℕ → Step ℕ
vector_constant shape words = scalar_constants shape.0 words >>= (λ parts. type_of shape >>= composed parts)
