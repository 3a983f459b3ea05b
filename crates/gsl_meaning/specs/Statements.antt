-- What statements do (GLSL 4.50, chapter 6).
use Rattle.std.specs.Prelude.{ℕ, zero, suc, Bool, true, false, ◌==◌, if◌then◌else◌, List, [], ◌∷◌, slice_index_or, Option, Some, None}
use Rattle.std.specs.List.{list_any}
use Rattle.gsl_types.specs.declared.ty.Ty.{Ty}
use Rattle.gsl_types.specs.declared.ty.Ty.TheVariants.{Void}
use Rattle.gsl_values.specs.declared.value.Value.{Value}
use Rattle.gsl_tree.specs.declared.expr.Expr.{Expr}
use Rattle.gsl_tree.specs.declared.stmt.Arm.{Arm as TreeArm}
use Rattle.gsl_tree.specs.declared.stmt.Stmt.{Stmt}
use Rattle.gsl_tree.specs.declared.stmt.Stmt.TheOpen.{Stmt-F, Arm-F}
use Rattle.gsl_tree.specs.declared.stmt.Stmt.TheFolds.{fold-Stmt, fold-Arm}
use Rattle.gsl_tree.specs.Values.{word_in, zero_value}
use Rattle.gsl_meaning.specs.Accesses.{Local, nothing, whole}
use Rattle.gsl_meaning.specs.Running.{Run, given, ◌>>=◌, storing, spending, ending, going}
use Rattle.gsl_meaning.specs.Expressions.{Setting, evaluating}

-- How a statement was left.
pub data Flow : Type 0 where
  Normal : Flow
  Broke : Flow
  Continued : Flow
  Returned : (value : Value) → Flow

-- The arms of a `switch` with what their bodies do.
pub record Arm : Type 0 where
  pub labels : List ℕ
  pub is_default : Bool
  pub body : Run Flow

-- ---- one statement behind the other

abbrev pub then_if_normal : Run Flow → Flow → Run Flow
then_if_normal next Normal = next
then_if_normal next flow = given flow

abbrev pub in_turn : List (Run Flow) → Run Flow
in_turn [] = given Normal
in_turn (s ∷ ss) = s >>= then_if_normal (in_turn ss)

-- ---- loops

-- whether a test holds; none always does
abbrev pub testing : Setting → Option Expr → Run Bool
testing setting None = given true
testing setting (Some e) = evaluating setting e >>= (λ v. given (if word_in v == 0 then false else true))

abbrev pub stepping_on : Setting → Option Expr → Run Flow
stepping_on setting None = given Normal
stepping_on setting (Some e) = evaluating setting e >>= (λ v. given Normal)

-- What follows the body of a loop: `continue` goes on to the step as the end of the body does.
abbrev pub behind_body : Run Flow → Flow → Run Flow
behind_body next Normal = next
behind_body next Continued = next
behind_body next Broke = given Normal
behind_body next (Returned v) = given (Returned v)

abbrev pub again_if : Run Flow → Bool → Run Flow
again_if next true = next
again_if next false = given Normal

-- turns of a loop, at most so many: the body, for which a unit is used, the step, and the test
abbrev pub turns : ℕ → Run Bool → Run Flow → Run Flow → Run Flow
turns zero test step body = going
turns (suc most) test step body = spending body >>= behind_body (step >>= (λ flow. test >>= again_if (turns most test step body)))

-- There are no more turns than units.
abbrev pub all_turns : Run Bool → Run Flow → Run Flow → Run Flow
all_turns test step body state units = turns (suc units) test step body state units

abbrev pub looping : Bool → Run Bool → Run Flow → Run Flow → Run Flow
looping true test step body = all_turns test step body
looping false test step body = test >>= again_if (all_turns test step body)

-- ---- `switch`

abbrev pub has_label : ℕ → Arm → Bool
has_label word arm = list_any (λ label. label == word) arm.labels

-- the arms from the first that is wanted on
abbrev pub arms_from : (Arm → Bool) → List Arm → List Arm
arms_from is_wanted [] = []
arms_from is_wanted (arm ∷ arms) = if is_wanted arm then arm ∷ arms else arms_from is_wanted arms

-- the arms from the one with the label of a word, or else from `default` on: each falls through to the next
abbrev pub arms_for : ℕ → List Arm → List Arm
arms_for word arms = if list_any (has_label word) arms then arms_from (has_label word) arms else arms_from (λ arm. arm.is_default) arms

abbrev pub falling : List Arm → Run Flow
falling [] = given Normal
falling (arm ∷ arms) = arm.body >>= then_if_normal (falling arms)

-- `break` leaves the `switch`
abbrev pub behind_switch : Flow → Run Flow
behind_switch Broke = given Normal
behind_switch flow = given flow

-- ---- every kind of statement

abbrev pub returning_with : Setting → Option Expr → Run Flow
returning_with setting None = given (Returned nothing)
returning_with setting (Some e) = evaluating setting e >>= (λ v. given (Returned v))

-- a variable without an initialiser is zeros
abbrev pub initial : Setting → List Ty → ℕ → Option Expr → Run Value
initial setting locals number None = given (zero_value setting.structs (slice_index_or locals number Void))
initial setting locals number (Some e) = evaluating setting e

abbrev pub else_of : Option (Run Flow) → Run Flow
else_of None = given Normal
else_of (Some run) = run

abbrev pub runs_by : Setting → List Ty → Stmt-F (Run Flow) Arm → Run Flow
runs_by setting locals Stmt-F.Empty = given Normal
runs_by setting locals (Stmt-F.Eval e) = evaluating setting e >>= (λ v. given Normal)
runs_by setting locals (Stmt-F.Declare number init) = initial setting locals number init >>= (λ v. storing (whole (Local number)) v >>= (λ w. given Normal))
runs_by setting locals (Stmt-F.Group ss) = in_turn ss
runs_by setting locals (Stmt-F.If test first other) = evaluating setting test >>= (λ v. if word_in v == 0 then else_of other else first)
runs_by setting locals (Stmt-F.Loop test step body test_last) = looping test_last (testing setting test) (stepping_on setting step) body
runs_by setting locals (Stmt-F.Switch e arms) = evaluating setting e >>= (λ v. falling (arms_for (word_in v) arms) >>= behind_switch)
runs_by setting locals Stmt-F.Break = given Broke
runs_by setting locals Stmt-F.Continue = given Continued
runs_by setting locals (Stmt-F.Return e) = returning_with setting e
runs_by setting locals Stmt-F.Discard = ending

abbrev pub arm_by : Arm-F (Run Flow) Arm → Arm
arm_by arm = record { labels = arm.labels; is_default = arm.is_default; body = in_turn arm.body }

-- what a statement does, among local variables of these types
unfoldable pub runs : Setting → List Ty → Stmt → Run Flow
runs setting locals = fold-Stmt (Run Flow) Arm (runs_by setting locals) arm_by

-- what an arm does
unfoldable pub arm_runs : Setting → List Ty → TreeArm → Arm
arm_runs setting locals = fold-Arm (Run Flow) Arm (runs_by setting locals) arm_by

-- statements one behind the other
abbrev pub runs_all : Setting → List Ty → List Stmt → Run Flow
runs_all setting locals [] = given Normal
runs_all setting locals (s ∷ ss) = runs setting locals s >>= then_if_normal (runs_all setting locals ss)
