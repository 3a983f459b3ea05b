-- Which scalars and vectors an operator takes, and what it gives.
use Rattle.std.specs.Prelude.{◌≡◌, true, max}
use Rattle.gsl_types.specs.declared.ty.Scalar.{Scalar}
use Rattle.gsl_values.specs.declared.op.BinaryOp.{BinaryOp}
use Rattle.gsl_values.specs.declared.op.BinaryOp.TheVariants.{Equal, Shl, Shr, Unequal}
use Rattle.gsl_values.specs.declared.op.UnaryOp.{UnaryOp}
use Rattle.gsl_values.specs.declared.op.UnaryOp.TheVariants.{Flip, Negate, Not}
use Rattle.gsl_tree.specs.Shapes.{Shape, flag, is_boolean, is_integer}
use Rattle.gsl_lower_values.specs.Operators.{given_scalar}

-- An operator takes one operand of a shape.
abbrev pub SuitsOne : UnaryOp → Shape → Type 0
SuitsOne Negate shape = is_integer shape.0 ≡ true
SuitsOne Flip shape = is_integer shape.0 ≡ true
SuitsOne Not shape = is_boolean shape.0 ≡ true

-- An operator takes operands of these scalar types.
abbrev pub Suits : BinaryOp → Scalar → Scalar → Type 0
Suits Shl s t = (is_integer s ≡ true) × (is_integer t ≡ true)
Suits Shr s t = (is_integer s ≡ true) × (is_integer t ≡ true)
Suits Equal s t = s ≡ t
Suits Unequal s t = s ≡ t
Suits which s t = (s ≡ t) × (is_integer s ≡ true)

-- the shape of what it gives
abbrev pub pair_shape : BinaryOp → Shape → Shape → Shape
pair_shape Equal a b = flag
pair_shape Unequal a b = flag
pair_shape which a b = (given_scalar which a.0, max a.1 b.1)
