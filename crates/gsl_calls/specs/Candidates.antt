-- The built-in functions with the parameters that each may have (GLSL 4.50, 8.3, 8.7 and 8.8).
use Rattle.std.specs.Prelude.{ℕ, List, [], ◌∷◌, ◌++◌, map}
use Rattle.gsl_types.specs.declared.ty.Direction.TheVariants.{In}
use Rattle.gsl_types.specs.declared.ty.Scalar.{Scalar}
use Rattle.gsl_types.specs.declared.ty.Scalar.TheVariants.{Bool as Boolean, Int, Uint}
use Rattle.gsl_overload.specs.Best.{Param, Signature}
use Rattle.gsl_values.specs.declared.function.Builtin.{Builtin}
use Rattle.gsl_values.specs.declared.function.Builtin.TheVariants as f
use Rattle.gsl_tree.specs.Shapes.{Shape, of_shape}
use Rattle.gsl_calls.specs.declared.families.Family.{Family}
use Rattle.gsl_calls.specs.declared.families.Family.TheVariants.{One, Two, Bounded, Three, Clamped, Mixed, Extracted, Inserted}

-- The parameters of a candidate of a family, for a scalar type and a count of components.
abbrev pub row : Family → Scalar → ℕ → List Shape
row One s n = (s, n) ∷ []
row Two s n = (s, n) ∷ (s, n) ∷ []
row Bounded s n = (s, n) ∷ (s, 1) ∷ []
row Three s n = (s, n) ∷ (s, n) ∷ (s, n) ∷ []
row Clamped s n = (s, n) ∷ (s, 1) ∷ (s, 1) ∷ []
row Mixed s n = (s, n) ∷ (s, n) ∷ (Boolean, n) ∷ []
row Extracted s n = (s, n) ∷ (Int, 1) ∷ (Int, 1) ∷ []
row Inserted s n = (s, n) ∷ (s, n) ∷ (Int, 1) ∷ (Int, 1) ∷ []

-- a parameter of a built-in function goes in
abbrev pub param_of : Shape → Param
param_of shape = (In, of_shape shape)

abbrev pub signature : Family → Scalar → ℕ → Signature
signature family s n = map param_of (row family s n)

-- the candidates of a family for vectors
abbrev pub vectors : Family → Scalar → List Signature
vectors family s = signature family s 2 ∷ signature family s 3 ∷ signature family s 4 ∷ []

-- the candidates of a family for scalars and vectors
abbrev pub all : Family → Scalar → List Signature
all family s = signature family s 1 ∷ vectors family s

-- the candidates of a family for the scalars and vectors, or for the vectors, of `int` and of `uint`
abbrev pub integers : Family → List Signature
integers family = all family Int ++ all family Uint

abbrev pub integer_vectors : Family → List Signature
integer_vectors family = vectors family Int ++ vectors family Uint

-- The parameters that a built-in function may have.
abbrev pub candidates_by : Builtin → List Signature
candidates_by f.Abs = all One Int
candidates_by f.Sign = all One Int
candidates_by f.Min = integers Two ++ integer_vectors Bounded
candidates_by f.Max = integers Two ++ integer_vectors Bounded
candidates_by f.Clamp = integers Three ++ integer_vectors Clamped
candidates_by f.Mix = integers Mixed ++ all Mixed Boolean
candidates_by f.LessThan = integer_vectors Two
candidates_by f.LessThanEqual = integer_vectors Two
candidates_by f.GreaterThan = integer_vectors Two
candidates_by f.GreaterThanEqual = integer_vectors Two
candidates_by f.Equal = integer_vectors Two ++ vectors Two Boolean
candidates_by f.NotEqual = integer_vectors Two ++ vectors Two Boolean
candidates_by f.Any = vectors One Boolean
candidates_by f.All = vectors One Boolean
candidates_by f.Not = vectors One Boolean
candidates_by f.BitCount = integers One
candidates_by f.FindLsb = integers One
candidates_by f.FindMsb = integers One
candidates_by f.BitfieldReverse = integers One
candidates_by f.BitfieldExtract = integers Extracted
candidates_by f.BitfieldInsert = integers Inserted

-- the candidates of a call of a built-in function
unfoldable pub candidates : Builtin → List Signature
candidates = candidates_by
