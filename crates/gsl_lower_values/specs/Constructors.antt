-- What picks components of values and puts values together, scalars and vectors alike (SPIR-V 1.0, 3.32.12).
use Rattle.std.specs.Prelude.{ℕ, ◌+◌, ◌-◌, ◌==◌, nat_le, if◌then◌else◌, List, [], ◌∷◌, map, length, replicate, Option, Some, None}
use Rattle.std.specs.List.{range_with_len}
use Rattle.gsl_instr.specs.declared.op.TheConstants as op
use Rattle.gsl_types.specs.declared.ty.Scalar.{Scalar}
use Rattle.gsl_tree.specs.Shapes.{Shape}
use Rattle.gsl_lower_values.specs.Building.{Step, ◌>>=◌, given, giving, in_order}
use Rattle.gsl_lower_values.specs.Types.{type_of}
use Rattle.gsl_lower_values.specs.Operators.{converted}
use Rattle.gsl_lower_values.specs.declared.operand.Operand.{Operand}
use Rattle.gsl_lower_values.specs.declared.operand.Share.{Share}

abbrev pub operand : Shape → ℕ → Operand
operand shape id = record { shape = shape; id = id }

abbrev pub as_operand : Shape → Step ℕ → Step Operand
as_operand shape step = step >>= (λ id. given (operand shape id))

-- ---- swizzles

abbrev pub component : Operand → ℕ → Step ℕ
component a position = type_of (a.shape.0, 1) >>= giving op.COMPOSITE_EXTRACT (a.id ∷ position ∷ [])

-- the components at several positions
abbrev pub components : Operand → List ℕ → Step ℕ
components a positions =
    type_of (a.shape.0, length positions) >>=
    (if a.shape.1 == 1 then giving op.COMPOSITE_CONSTRUCT (replicate (length positions) a.id) else giving op.VECTOR_SHUFFLE (a.id ∷ a.id ∷ positions))

-- what is picked of a scalar or vector at one to four positions
unfoldable pub picked : Operand → List ℕ → Step ℕ
picked a (position ∷ []) = if a.shape.1 == 1 then given a.id else component a position
picked a positions = components a positions

-- where a position stands among some, counted from a number on
abbrev pub place_among : ℕ → List ℕ → ℕ → Option ℕ
place_among position [] from = None
place_among position (other ∷ positions) from = if other == position then Some from else place_among position positions (from + 1)

-- the component that stands at a position: a new one, which are counted behind the old ones, or the old one
abbrev pub source_by : ℕ → ℕ → Option ℕ → ℕ
source_by count position None = position
source_by count position (Some place) = count + place

abbrev pub source : ℕ → List ℕ → ℕ → ℕ
source count positions position = source_by count position (place_among position positions 0)

abbrev pub sources : ℕ → List ℕ → List ℕ
sources count positions = map (source count positions) (range_with_len 0 count)

abbrev pub own_or_first : ℕ → ℕ → ℕ
own_or_first few position = if nat_le few position then 0 else position

-- the positions of so few components, filled up to a count with the first
abbrev pub widened : ℕ → ℕ → List ℕ
widened count few = map (own_or_first few) (range_with_len 0 count)

-- a vector of fewer components as one of a count, its own in front
unfoldable pub wide : ℕ → Operand → Step ℕ
wide count a = if a.shape.1 == count then given a.id else type_of (a.shape.0, count) >>= giving op.VECTOR_SHUFFLE (a.id ∷ a.id ∷ widened count a.shape.1)

-- a vector with the components of another at these positions
unfoldable pub replaced : Operand → List ℕ → ℕ → Step ℕ
replaced a positions new =
    wide a.shape.1 (operand (a.shape.0, length positions) new) >>= (λ id. type_of a.shape >>= giving op.VECTOR_SHUFFLE (a.id ∷ id ∷ sources a.shape.1 positions))

-- ---- constructors

-- the first component
unfoldable pub first_of : Operand → Step Operand
first_of a = if a.shape.1 == 1 then given a else as_operand (a.shape.0, 1) (component a 0)

-- so many components, where there are more
unfoldable pub cut : ℕ → Operand → Step Operand
cut count a =
    if nat_le a.shape.1 count then given a
    else as_operand (a.shape.0, count) (picked a (range_with_len 0 count))

-- how many components are wanted of arguments in a row that supply a count, each argument with as many as are still wanted
abbrev pub shares : ℕ → List Operand → List Share
shares count [] = []
shares count (a ∷ args) = if count == 0 then [] else record { wanted = count; of = a } ∷ shares (count - a.shape.1) args

-- components of an argument, converted
unfoldable pub share : Scalar → Share → Step ℕ
share s a = cut a.wanted a.of >>= converted s

-- what stands for so many components, each converted, from arguments in a row
abbrev pub parts : Scalar → ℕ → List Operand → Step (List ℕ)
parts s count args = in_order (share s) (shares count args)

abbrev pub construct : Shape → List ℕ → Step ℕ
construct shape ids = type_of shape >>= giving op.COMPOSITE_CONSTRUCT ids

-- one part alone is the whole
abbrev pub put_together : Shape → List ℕ → Step ℕ
put_together shape (id ∷ []) = given id
put_together shape ids = construct shape ids

-- one scalar alone fills all components
abbrev pub filled_with : Shape → Operand → Step ℕ
filled_with shape a = converted shape.0 a >>= (λ part. construct shape (replicate shape.1 part))

abbrev pub in_row : Shape → List Operand → Step ℕ
in_row shape args = parts shape.0 shape.1 args >>= put_together shape

abbrev pub vector : Shape → List Operand → Step ℕ
vector shape (a ∷ []) = if a.shape.1 == 1 then filled_with shape a else in_row shape (a ∷ [])
vector shape args = in_row shape args

-- a scalar is the first component of its argument
abbrev pub scalar : Scalar → List Operand → Step ℕ
scalar s [] = given 0
scalar s (a ∷ args) = first_of a >>= converted s

-- what a constructor of a scalar or vector gives
unfoldable pub built : Shape → List Operand → Step ℕ
built shape args = if shape.1 == 1 then scalar shape.0 args else vector shape args
