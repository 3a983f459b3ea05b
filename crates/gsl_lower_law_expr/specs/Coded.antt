-- What operators on one value and conversions are lowered to.
use Rattle.std.specs.Prelude.{ℕ}
use Rattle.gsl_types.specs.declared.ty.Scalar.{Scalar}
use Rattle.gsl_values.specs.declared.op.UnaryOp.{UnaryOp}
use Rattle.gsl_lower_values.specs.Operators.{converted, unary}
use Rattle.gsl_lower_holders.specs.Flow.{Emit, lift, ◌>>=◌}
use Rattle.gsl_lower_expr.specs.Parts.{Lower, of_type}

abbrev pub unary_code : UnaryOp → Lower → Emit ℕ
unary_code which a = a.value >>= (λ i. lift (unary which (of_type a i)))

abbrev pub converted_code : Scalar → Lower → Emit ℕ
converted_code to a = a.value >>= (λ i. lift (converted to (of_type a i)))
