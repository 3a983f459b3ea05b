-- Assignments (GLSL 4.50, 5.8).
use Rattle.std.specs.Prelude.{◌≡◌, ◌≢◌, ℕ, true, false, length}
use Rattle.gsl_types.specs.Known.{AreStructs, IsSound}
use Rattle.gsl_types.specs.declared.ty.Ty.TheVariants.{Void}
use Rattle.gsl_values.specs.declared.value.Value.{Value}
use Rattle.gsl_tree.specs.Values.{is_value_of}
use Rattle.gsl_tree.specs.declared.program.Program.{Program}
use Rattle.gsl_meaning.specs.Accesses.{Access}
use Rattle.gsl_meaning.specs.Running.{Run, storing, ◌>>=◌}
use Rattle.gsl_meaning.specs.State.{State}
use Rattle.gsl_lower_expr.specs.Parts.{Lower}
use Rattle.gsl_lower_indexes.specs.Computed.{Comes}

-- what an assignment means: what the left side leads to is found first
abbrev pub assign_means : Run Access → Run Value → Run Value
assign_means left right = left >>= (λ x. right >>= storing x)

-- Both sides of an assignment are of a type that has values. Where the right side calls no function of the program, it always comes to something or strays.
pub record Assigns (p : Program) (a b : Lower) (right : Run Value) : Type 0 where
  pub are : AreStructs p.structs
  pub sound : IsSound (length p.structs) a.ty
  pub real : a.ty ≢ Void
  pub some : (v : Value) × (is_value_of p.structs a.ty v ≡ true)
  pub same : b.ty ≡ a.ty
  pub comes : b.traits.calls ≡ false → (s : State) (units : ℕ) → Comes (right s units)
