-- What is read where a place was made ready to be read and stored.
use Rattle.std.specs.Prelude.{ℕ, List}
use Rattle.gsl_types.specs.declared.ty.StructType.{StructType}
use Rattle.gsl_types.specs.declared.ty.Ty.{Ty}
use Rattle.gsl_tree.specs.Shapes.{Shape}
use Rattle.gsl_lower_places.specs.Pointed.{to_renew}
use Rattle.gsl_lower_places.specs.declared.reached.Reached.{Reached}
use Rattle.gsl_lower_holders.specs.Flow.{Emit, lift, ◌>>=◌}
use Rattle.gsl_lower_expr.specs.Parts.{reads}

-- The place is made ready, and is read then.
abbrev pub renewed_read : List StructType → Ty → Shape → Reached → Emit ℕ
renewed_read structs t shape r = lift (to_renew shape r) >>= reads structs t
