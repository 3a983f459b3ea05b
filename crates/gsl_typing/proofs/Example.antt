-- Operands with what comes of them, so that a wrong definition is seen.
use Rattle.std.proofs.Common.{◌≡◌, refl, Some, None}
use Rattle.gsl_types.specs.declared.ty.Scalar.TheVariants.{Bool as Boolean, Int, Uint}
use Rattle.gsl_types.specs.declared.ty.Ty.TheVariants as ty
use Rattle.gsl_types.specs.declared.ty.Ty.TheVariants.{outs-Void, outs-One, outs-Vector, outs-Array}
use Rattle.gsl_values.specs.declared.op.BinaryOp.TheVariants as op
use Rattle.gsl_values.specs.declared.op.UnaryOp.TheVariants as one
use Rattle.gsl_typing.specs.Fitting.{fitting, unary_type}

ruleset computes = (outs-Void, outs-One, outs-Vector, outs-Array)

-- an `int` beside a vector of `uint` is converted, and serves each component
scalar_and_vector : fitting op.Add (ty.One Int) (ty.Vector Uint 2) ≡ Some (record { left = ty.One Uint; right = ty.Vector Uint 2; result = ty.Vector Uint 2 })
unfolding fitting
scalar_and_vector = simp computes refl

-- a shift converts neither side and has the left type
mixed_shift : fitting op.Shl (ty.Vector Int 3) (ty.One Uint) ≡ Some (record { left = ty.Vector Int 3; right = ty.One Uint; result = ty.Vector Int 3 })
unfolding fitting
mixed_shift = simp computes refl

-- a scalar is not shifted by a vector
wide_shift : fitting op.Shr (ty.One Int) (ty.Vector Int 2) ≡ None
unfolding fitting
wide_shift = simp computes refl

-- a relation is of scalars
ordered : fitting op.Less (ty.One Int) (ty.One Uint) ≡ Some (record { left = ty.One Uint; right = ty.One Uint; result = ty.One Boolean })
unfolding fitting
ordered = simp computes refl

not_ordered : fitting op.Less (ty.Vector Int 2) (ty.Vector Int 2) ≡ None
unfolding fitting
not_ordered = simp computes refl

-- two sizes do not fit, nor do truth values
two_sizes : fitting op.Mul (ty.Vector Int 2) (ty.Vector Int 3) ≡ None
unfolding fitting
two_sizes = simp computes refl

truth_values : fitting op.And (ty.One Boolean) (ty.One Boolean) ≡ None
unfolding fitting
truth_values = simp computes refl

negated : unary_type one.Negate (ty.Vector Uint 4) ≡ Some (ty.Vector Uint 4)
unfolding unary_type
negated = simp computes refl
