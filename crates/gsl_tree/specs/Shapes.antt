-- The types that operators and built-in functions take and give (GLSL 4.50, 5.9, 8.3, 8.7 and 8.8).
use Rattle.std.specs.Prelude.{ℕ, max, Bool, true, false, ◌&&◌, ◌||◌, nat_eq, nat_le, List, [], ◌∷◌, Option, Some, None, if◌then◌else◌}
use Rattle.gsl_types.specs.declared.ty.Scalar.{Scalar}
use Rattle.gsl_types.specs.declared.ty.Scalar.TheVariants.{Bool as Boolean, Int, Uint}
use Rattle.gsl_types.specs.declared.ty.Ty.{Ty}
use Rattle.gsl_types.specs.declared.ty.Ty.TheOpen.{Ty-F}
use Rattle.gsl_types.specs.declared.ty.Ty.TheViews.{out-Ty}
use Rattle.gsl_types.specs.declared.ty.Ty.TheVariants as ty
use Rattle.gsl_values.specs.declared.op.UnaryOp.{UnaryOp}
use Rattle.gsl_values.specs.declared.op.UnaryOp.TheVariants.{Negate, Flip, Not}
use Rattle.gsl_values.specs.declared.op.BinaryOp.{BinaryOp}
use Rattle.gsl_values.specs.declared.op.BinaryOp.TheVariants.{Add, Sub, Mul, Div, Mod, Shl, Shr, And, Or, Xor, Less, LessEq, Greater, GreaterEq, Equal, Unequal}
use Rattle.gsl_values.specs.declared.function.Builtin.{Builtin}
use Rattle.gsl_values.specs.declared.function.Builtin.TheVariants as f

-- ---- scalars and vectors by their scalar type and count of components

abbrev pub Shape : Type 0
Shape = Scalar × ℕ

abbrev pub shape_kind : Ty-F Ty → Option Shape
shape_kind (Ty-F.One s) = Some (s, 1)
shape_kind (Ty-F.Vector s n) = Some (s, n)
shape_kind _ = None

-- the shape of a scalar or vector
abbrev pub shape_of : Ty → Option Shape
shape_of t = shape_kind (out-Ty t)

-- the scalar or vector of a shape
abbrev pub of_shape : Shape → Ty
of_shape shape = if nat_eq shape.1 1 then ty.One shape.0 else ty.Vector shape.0 shape.1

abbrev pub is_integer : Scalar → Bool
is_integer Boolean = false
is_integer Int = true
is_integer Uint = true

abbrev pub is_boolean : Scalar → Bool
is_boolean Boolean = true
is_boolean Int = false
is_boolean Uint = false

abbrev pub is_int : Scalar → Bool
is_int Boolean = false
is_int Int = true
is_int Uint = false

abbrev pub same_scalar : Scalar → Scalar → Bool
same_scalar Boolean Boolean = true
same_scalar Int Int = true
same_scalar Uint Uint = true
same_scalar _ _ = false

-- a second operand of a count of components serves beside a first one: with as many, or a scalar for each
abbrev pub serves_beside : ℕ → ℕ → Bool
serves_beside count other = nat_eq other count || nat_eq other 1

abbrev pub when : Bool → Shape → Option Shape
when b shape = if b then Some shape else None

abbrev pub flag : Shape
flag = (Boolean, 1)

-- ---- operators

abbrev pub unary_shape : UnaryOp → Shape → Option Shape
unary_shape Negate a = when (is_integer a.0) a
unary_shape Flip a = when (is_integer a.0) a
unary_shape Not a = when (is_boolean a.0 && nat_eq a.1 1) a

-- two integers of one scalar type: of one size, or a scalar and a vector
abbrev pub arithmetic_shape : Shape → Shape → Option Shape
arithmetic_shape a b = when (is_integer a.0 && same_scalar a.0 b.0 && (serves_beside a.1 b.1 || nat_eq a.1 1)) (a.0, max a.1 b.1)

-- any two integers, the amount as many as the left operand or one for all
abbrev pub shift_shape : Shape → Shape → Option Shape
shift_shape a b = when (is_integer a.0 && is_integer b.0 && serves_beside a.1 b.1) a

-- two integer scalars of one type
abbrev pub relation_shape : Shape → Shape → Option Shape
relation_shape a b = when (is_integer a.0 && same_scalar a.0 b.0 && nat_eq a.1 1 && nat_eq b.1 1) flag

-- What an operator gives on two shapes, once their conversions are written out. Equality is of all types, and has its own rule.
abbrev pub binary_shape : BinaryOp → Shape → Shape → Option Shape
binary_shape Add a b = arithmetic_shape a b
binary_shape Sub a b = arithmetic_shape a b
binary_shape Mul a b = arithmetic_shape a b
binary_shape Div a b = arithmetic_shape a b
binary_shape Mod a b = arithmetic_shape a b
binary_shape And a b = arithmetic_shape a b
binary_shape Or a b = arithmetic_shape a b
binary_shape Xor a b = arithmetic_shape a b
binary_shape Shl a b = shift_shape a b
binary_shape Shr a b = shift_shape a b
binary_shape Less a b = relation_shape a b
binary_shape LessEq a b = relation_shape a b
binary_shape Greater a b = relation_shape a b
binary_shape GreaterEq a b = relation_shape a b
binary_shape Equal a b = None
binary_shape Unequal a b = None

-- whether an operator may stand before `=`
abbrev pub may_update : BinaryOp → Bool
may_update Less = false
may_update LessEq = false
may_update Greater = false
may_update GreaterEq = false
may_update Equal = false
may_update Unequal = false
may_update _ = true

abbrev pub is_equality : BinaryOp → Bool
is_equality Equal = true
is_equality Unequal = true
is_equality _ = false

-- ---- built-in functions

-- two shapes are one
abbrev pub same_shape : Shape → Shape → Bool
same_shape a b = same_scalar a.0 b.0 && nat_eq a.1 b.1

abbrev pub is_vector : Shape → Bool
is_vector a = nat_le 2 a.1

-- an `int` scalar
abbrev pub is_count : Shape → Bool
is_count a = is_int a.0 && nat_eq a.1 1

abbrev pub built_one : Builtin → Shape → Option Shape
built_one f.Abs a = when (is_int a.0) a
built_one f.Sign a = when (is_int a.0) a
built_one f.Any a = when (is_boolean a.0 && is_vector a) flag
built_one f.All a = when (is_boolean a.0 && is_vector a) flag
built_one f.Not a = when (is_boolean a.0 && is_vector a) a
built_one f.BitCount a = when (is_integer a.0) (Int, a.1)
built_one f.FindLsb a = when (is_integer a.0) (Int, a.1)
built_one f.FindMsb a = when (is_integer a.0) (Int, a.1)
built_one f.BitfieldReverse a = when (is_integer a.0) a
built_one _ a = None

-- the lesser or greater of two integers, the second as many or a scalar for each
abbrev pub bounded_shape : Shape → Shape → Option Shape
bounded_shape a b = when (is_integer a.0 && same_scalar a.0 b.0 && serves_beside a.1 b.1) a

-- a relation of two vectors of integers
abbrev pub compared_shape : Shape → Shape → Option Shape
compared_shape a b = when (is_integer a.0 && same_shape a b && is_vector a) (Boolean, a.1)

-- whether the components of two vectors are equal
abbrev pub matched_shape : Shape → Shape → Option Shape
matched_shape a b = when (same_shape a b && is_vector a) (Boolean, a.1)

abbrev pub built_two : Builtin → Shape → Shape → Option Shape
built_two f.Min a b = bounded_shape a b
built_two f.Max a b = bounded_shape a b
built_two f.LessThan a b = compared_shape a b
built_two f.LessThanEqual a b = compared_shape a b
built_two f.GreaterThan a b = compared_shape a b
built_two f.GreaterThanEqual a b = compared_shape a b
built_two f.Equal a b = matched_shape a b
built_two f.NotEqual a b = matched_shape a b
built_two _ a b = None

abbrev pub built_three : Builtin → Shape → Shape → Shape → Option Shape
built_three f.Clamp a b c = when (is_integer a.0 && same_scalar a.0 b.0 && same_shape b c && serves_beside a.1 b.1) a
built_three f.Mix a b c = when (same_shape a b && is_boolean c.0 && nat_eq c.1 a.1) a
built_three f.BitfieldExtract a b c = when (is_integer a.0 && is_count b && is_count c) a
built_three _ a b c = None

abbrev pub built_four : Builtin → Shape → Shape → Shape → Shape → Option Shape
built_four f.BitfieldInsert a b c d = when (is_integer a.0 && same_shape a b && is_count c && is_count d) a
built_four _ a b c d = None

-- what a built-in function gives on arguments of these shapes, once their conversions are written out
abbrev pub built_shape : Builtin → List Shape → Option Shape
built_shape which [] = None
built_shape which (a ∷ []) = built_one which a
built_shape which (a ∷ b ∷ []) = built_two which a b
built_shape which (a ∷ b ∷ c ∷ []) = built_three which a b c
built_shape which (a ∷ b ∷ c ∷ d ∷ []) = built_four which a b c d
built_shape which (a ∷ b ∷ c ∷ d ∷ e ∷ rest) = None
