-- Assignments by operators, and steps before and after (GLSL 4.50, 5.8 and 5.9).
use Rattle.std.specs.Prelude.{◌≡◌, ◌≢◌, ℕ, Bool, true, List, length, Some, if◌then◌else◌}
use Rattle.gsl_types.specs.Known.{AreStructs, IsSound}
use Rattle.gsl_types.specs.declared.ty.StructType.{StructType}
use Rattle.gsl_types.specs.declared.ty.Ty.{Ty}
use Rattle.gsl_types.specs.declared.ty.Ty.TheVariants.{Void}
use Rattle.gsl_values.specs.declared.op.BinaryOp.{BinaryOp}
use Rattle.gsl_values.specs.declared.value.Value.{Value}
use Rattle.gsl_tree.specs.Around.{Around}
use Rattle.gsl_tree.specs.Operations.{step_value}
use Rattle.gsl_tree.specs.Shapes.{Shape, shape_of}
use Rattle.gsl_tree.specs.Values.{is_value_of}
use Rattle.gsl_tree.specs.declared.expr.StepOp.{StepOp}
use Rattle.gsl_tree.specs.declared.program.Program.{Program}
use Rattle.gsl_meaning.specs.Accesses.{Access, read}
use Rattle.gsl_meaning.specs.Running.{Run, drawing, given, storing, told_by, ◌>>=◌}
use Rattle.gsl_lower_law_expr.specs.Known.{Operates}

-- what `op=` means: the old value is read before the right side
abbrev pub update_means : List StructType → Ty → Run Access → Run Value → (Value → Value → List ℕ → Value × List ℕ) → Run Value
update_means structs t left right apply = left >>= (λ x. told_by (read structs t x) >>= (λ old. right >>= (λ y. drawing (apply old y) >>= storing x)))

-- what a step means: the value is the one before or behind it
abbrev pub step_means : List StructType → Ty → Run Access → (Value → Value) → Bool → Run Value
step_means structs t left next postfix = left >>= (λ x. told_by (read structs t x) >>= (λ old. storing x (next old) >>= (λ new. given (if postfix then old else new))))

-- A step gives a scalar or vector of the type that it is done on.
pub record IsStepped (p : Program) (t : Ty) (which : StepOp) : Type 0 where
  pub are : AreStructs p.structs
  pub sound : IsSound (length p.structs) t
  pub real : t ≢ Void
  pub shape : Shape
  pub shaped : shape_of t ≡ Some shape
  pub gives : (v : Value) → is_value_of p.structs t v ≡ true → is_value_of p.structs t (step_value which v) ≡ true

-- An operator gives a scalar or vector of the type of its left operand.
pub record Updates (p : Program) (around : Around) (which : BinaryOp) (left right : Ty) : Type 0 where
  pub operates : Operates p around which left right left
  pub shape : Shape
  pub shaped : shape_of left ≡ Some shape
