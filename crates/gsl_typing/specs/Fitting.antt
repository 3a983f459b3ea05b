-- To which types an operator on two operands converts them, and which type it then gives (GLSL 4.50, 5.9).
use Rattle.std.specs.Prelude.{ℕ, Bool, true, false, Option, Some, None, if◌then◌else◌}
use Rattle.gsl_types.specs.Conversions.{serves}
use Rattle.gsl_types.specs.declared.ty.Scalar.{Scalar}
use Rattle.gsl_types.specs.declared.ty.Ty.{Ty}
use Rattle.gsl_values.specs.declared.op.BinaryOp.{BinaryOp}
use Rattle.gsl_values.specs.declared.op.BinaryOp.TheVariants.{Shl, Shr}
use Rattle.gsl_tree.specs.Shapes.{Shape, shape_of, of_shape, binary_shape, unary_shape}
use Rattle.gsl_values.specs.declared.op.UnaryOp.{UnaryOp}
use Rattle.gsl_typing.specs.declared.fits.Fitting.{Fitting}

-- a shift takes any mix of integers as they are
abbrev pub is_shift : BinaryOp → Bool
is_shift Shl = true
is_shift Shr = true
is_shift _ = false

-- the scalar type as which both of two may serve
abbrev pub common_scalar : Scalar → Scalar → Option Scalar
common_scalar s t = if serves s t then Some t else (if serves t s then Some s else None)

-- the shapes of two operands, and what comes of them, if anything does
abbrev pub fitting_with : Shape → Shape → Option Shape → Option Fitting
fitting_with a b None = None
fitting_with a b (Some result) = Some (record { left = of_shape a; right = of_shape b; result = of_shape result })

abbrev pub fitting_at : BinaryOp → Option Scalar → ℕ → ℕ → Option Fitting
fitting_at op None n m = None
fitting_at op (Some s) n m = fitting_with (s, n) (s, m) (binary_shape op (s, n) (s, m))

-- the operands of a shift are not converted, those of all other operators to the scalar type that they have in common
abbrev pub fitting_shapes : BinaryOp → Shape → Shape → Option Fitting
fitting_shapes op a b = if is_shift op then fitting_with a b (binary_shape op a b) else fitting_at op (common_scalar a.0 b.0) a.1 b.1

abbrev pub fitting_by : BinaryOp → Option Shape → Option Shape → Option Fitting
fitting_by op (Some a) (Some b) = fitting_shapes op a b
fitting_by op _ _ = None

-- to which types an operator converts operands of these types, and which type it gives; none where they do not fit
unfoldable pub fitting : BinaryOp → Ty → Ty → Option Fitting
fitting op a b = fitting_by op (shape_of a) (shape_of b)

abbrev pub typed_shape : Option Shape → Option Ty
typed_shape None = None
typed_shape (Some shape) = Some (of_shape shape)

abbrev pub unary_by : UnaryOp → Option Shape → Option Ty
unary_by op None = None
unary_by op (Some shape) = typed_shape (unary_shape op shape)

-- which type an operator on one operand gives; none where the operand does not fit
unfoldable pub unary_type : UnaryOp → Ty → Option Ty
unary_type op a = unary_by op (shape_of a)
