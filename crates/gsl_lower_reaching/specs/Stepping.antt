-- What members, swizzles and values lead to, as the shader means them, and what is known of their types (GLSL 4.50, 5.5 and 5.7).
use Rattle.std.specs.Prelude.{◌≡◌, ℕ, ◌<◌, ◌≤◌, List, length, Some}
use Rattle.std.specs.List.{AllByRecursion}
use Rattle.gsl_types.specs.declared.ty.Ty.{Ty}
use Rattle.gsl_values.specs.Vectors.{components}
use Rattle.gsl_values.specs.declared.lane.Lanes.{Lanes}
use Rattle.gsl_values.specs.declared.value.Value.{Value}
use Rattle.gsl_tree.specs.Shapes.{Shape, shape_of}
use Rattle.gsl_meaning.specs.Accesses.{Access, Loose, member_of, swizzle_of, whole}
use Rattle.gsl_meaning.specs.Running.{Run, given, ◌>>=◌}
use Rattle.gsl_lower_places.specs.declared.reached.Reached.{Reached}
use Rattle.gsl_lower_holders.specs.Flow.{Emit}
use Rattle.gsl_lower_holders.specs.Flow as flow
use Rattle.gsl_lower_expr.specs.Parts.{Lower, loose_value}

-- A swizzle of what is of a shape: the positions are those of its components, and make what is of another type.
pub record Swizzles (base t : Ty) (shape : Shape) (positions : List ℕ) : Type 0 where
  pub of : shape_of base ≡ Some shape
  pub gives : shape_of t ≡ Some (shape.0, length positions)
  pub some : 1 ≤ length positions
  pub below : AllByRecursion (λ position. position < shape.1) positions

-- what a value leads to
abbrev pub held_means : Run Value → Run Access
held_means run = run >>= (λ v. given (whole (Loose v)))

-- what it is lowered to
abbrev pub held_code : Ty → Lower → Emit Reached
held_code t e = flow.◌>>=◌ e.value (loose_value t)

abbrev pub member_means : ℕ → Run Access → Run Access
member_means number run = run >>= (λ x. given (member_of x number))

abbrev pub swizzle_means : Lanes → Run Access → Run Access
swizzle_means lanes run = run >>= (λ x. given (swizzle_of x (components lanes)))
