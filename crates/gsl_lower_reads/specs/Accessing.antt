-- What an expression means that leads to a variable or a part of one (GLSL 4.50, 5.5 and 5.7).
use Rattle.std.specs.Prelude.{List}
use Rattle.gsl_types.specs.declared.ty.StructType.{StructType}
use Rattle.gsl_types.specs.declared.ty.Ty.{Ty}
use Rattle.gsl_values.specs.declared.value.Value.{Value}
use Rattle.gsl_meaning.specs.Accesses.{Access, read}
use Rattle.gsl_meaning.specs.Running.{Run, told_by, ◌>>=◌}

-- the value that is read where it leads
abbrev pub accessed_means : List StructType → Ty → Run Access → Run Value
accessed_means structs t run = run >>= (λ a. told_by (read structs t a))
