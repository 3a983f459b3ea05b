-- Values where a type is needed (GLSL 4.50, 4.1.10): as they are, or converted.
use Rattle.std.specs.Prelude.{Bool, ◌||◌, Option, Some, None, unwrap_or, if◌then◌else◌}
use Rattle.gsl_overload.specs.Identity.{identical}
use Rattle.gsl_types.specs.Conversions.{converts}
use Rattle.gsl_types.specs.declared.ty.Ty.{Ty}
use Rattle.gsl_types.specs.declared.ty.Ty.TheVariants as ty
use Rattle.gsl_tree.specs.declared.expr.Expr.{Expr}
use Rattle.gsl_tree.specs.declared.expr.ExprKind.TheVariants as kind
use Rattle.gsl_tree.specs.Trees.{typed, type_of, place_of}

-- whether a value of the first type may stand where the second is needed
unfoldable pub serves_as : Ty → Ty → Bool
serves_as from to = identical from to || converts from to

-- The type that two operands have in common: that of one of them, where the other may stand.
unfoldable pub common : Ty → Ty → Option Ty
common a b = if serves_as a b then Some b else (if serves_as b a then Some a else None)

-- the common type of two operands that have one
abbrev pub joint : Ty → Ty → Ty
joint a b = unwrap_or (common a b) ty.Void

-- an expression where one of this type is needed: itself, or converted
unfoldable pub as_type : Ty → Expr → Expr
as_type ty e = if identical (type_of e) ty then e else typed (place_of e) ty (kind.Convert e)
