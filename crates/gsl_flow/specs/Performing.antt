-- What statements do, in words of which each is one call of the code.
use Rattle.std.specs.Prelude.{ℕ, Bool, true, false, List, map, Option}
use Rattle.gsl_types.specs.declared.ty.Ty.{Ty}
use Rattle.gsl_values.specs.declared.value.Value.{Value}
use Rattle.gsl_tree.specs.declared.expr.Expr.{Expr}
use Rattle.gsl_tree.specs.declared.stmt.Arm.{Arm}
use Rattle.gsl_tree.specs.declared.stmt.Stmt.{Stmt}
use Rattle.gsl_meaning.specs.Accesses.{Local, whole}
use Rattle.gsl_meaning.specs.Running.{Run, given, ◌>>=◌, spending, storing}
use Rattle.gsl_meaning.specs.Expressions.{Setting}
use Rattle.gsl_meaning.specs.Statements.{Flow, Normal, Broke, Continued, Returned, all_turns, arm_runs, falling, initial, in_turn, looping, returning_with, runs, stepping_on, testing}
use Rattle.gsl_flow.specs.declared.left.Left.TheVariants as left
use Rattle.gsl_flow.specs.declared.left.Turn.{Turn}
use Rattle.gsl_flow.specs.declared.left.Turn.TheVariants.{Again, Over}

-- statements one behind the other
unfoldable pub row : Setting → List Ty → List Stmt → Run Flow
row setting locals ss = in_turn (map (runs setting locals) ss)

-- arms, from the first on
unfoldable pub falls : Setting → List Ty → List Arm → Run Flow
falls setting locals arms = falling (map (arm_runs setting locals) arms)

-- whether a test holds
unfoldable pub tests : Setting → Option Expr → Run Bool
tests setting test = testing setting test

unfoldable pub steps : Setting → Option Expr → Run Flow
steps setting step = stepping_on setting step

-- a loop from one of its turns on
unfoldable pub turns_of : Setting → List Ty → Option Expr → Option Expr → Stmt → Run Flow
turns_of setting locals test step body = all_turns (testing setting test) (stepping_on setting step) (runs setting locals body)

-- a loop
unfoldable pub loops : Setting → List Ty → Option Expr → Option Expr → Stmt → Bool → Run Flow
loops setting locals test step body test_last = looping test_last (testing setting test) (stepping_on setting step) (runs setting locals body)

-- a local variable begins with a value
unfoldable pub begins : Setting → List Ty → ℕ → Option Expr → Run Value
begins setting locals number init = initial setting locals number init

unfoldable pub returns : Setting → Option Expr → Run Flow
returns setting e = returning_with setting e

-- a declaration sets its variable when it runs
unfoldable pub declares : Setting → List Ty → ℕ → Option Expr → Run Flow
declares setting locals number init = begins setting locals number init >>= (λ v. storing (whole (Local number)) v >>= (λ w. given Normal))

-- ---- turns of a loop

-- uses a unit
unfoldable pub spends : Run (Unit {0})
spends = spending (given tt)

abbrev pub again_or : Bool → Turn
again_or true = Again
again_or false = Over left.Normal

-- what follows the body in a turn
unfoldable pub turn_on : Setting → Option Expr → Option Expr → Run Turn
turn_on setting test step = steps setting step >>= (λ flow. tests setting test >>= (λ holds. given (again_or holds)))

abbrev pub turn_behind : Run Turn → Flow → Run Turn
turn_behind next Normal = next
turn_behind next Continued = next
turn_behind next Broke = given (Over left.Normal)
turn_behind next (Returned v) = given (Over (left.Returned v))

-- a turn of a loop
unfoldable pub turn : Setting → List Ty → Option Expr → Option Expr → Stmt → Run Turn
turn setting locals test step body = spends >>= (λ t. runs setting locals body >>= turn_behind (turn_on setting test step))
