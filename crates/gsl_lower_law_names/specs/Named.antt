-- What names are lowered to, and what they mean (GLSL 4.50, 4.2.2).
use Rattle.std.specs.Prelude.{◌≡◌, ◌≢◌, List, length, Some}
use Rattle.gsl_types.specs.Known.{AreStructs, IsSound}
use Rattle.gsl_types.specs.declared.ty.StructType.{StructType}
use Rattle.gsl_types.specs.declared.ty.Ty.{Ty}
use Rattle.gsl_types.specs.declared.ty.Ty.TheVariants.{Void}
use Rattle.gsl_values.specs.declared.value.Value.{Value}
use Rattle.gsl_tree.specs.Around.{Around}
use Rattle.gsl_tree.specs.declared.program.Program.{Program}
use Rattle.gsl_meaning.specs.Accesses.{Root, read, whole}
use Rattle.gsl_meaning.specs.Running.{Run, given, storing, told_by, ◌>>=◌}
use Rattle.gsl_lower_follows.specs.Frames.{Name, type_named}

-- A name is that of a variable of a type that has values.
pub record IsNamed (p : Program) (around : Around) (name : Name) (t : Ty) : Type 0 where
  pub are : AreStructs p.structs
  pub sound : IsSound (length p.structs) t
  pub real : t ≢ Void
  pub typed : type_named around name ≡ Some t

-- what a name means: the value of its variable
abbrev pub named_means : List StructType → Ty → Root → Run Value
named_means structs t root = given (whole root) >>= (λ a. told_by (read structs t a))

-- what an assignment to a name does
abbrev pub assign_means : Root → Run Value → Run Value
assign_means root right = given (whole root) >>= (λ a. right >>= storing a)
