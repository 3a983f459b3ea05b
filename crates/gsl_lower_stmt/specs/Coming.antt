-- What statements come to, in words of which each is one call of the code.
use Rattle.std.specs.Prelude.{ℕ, Bool, List, map, Option}
use Rattle.gsl_types.specs.declared.ty.Ty.{Ty}
use Rattle.gsl_tree.specs.declared.expr.Expr.{Expr}
use Rattle.gsl_tree.specs.declared.stmt.Arm.{Arm, out-Arm}
use Rattle.gsl_tree.specs.declared.stmt.Stmt.{Stmt}
use Rattle.gsl_lower_holders.specs.Flow.{Emit, ◌>>=◌, given}
use Rattle.gsl_lower_expr.specs.Lowering.{Setting}
use Rattle.gsl_lower_needs.specs.Bodies.{any_leaves}
use Rattle.gsl_lower_stmt.specs.declared.exits.Exits.{Exits}
use Rattle.gsl_lower_stmt.specs.declared.labels.LoopLabels.{LoopLabels}
use Rattle.gsl_lower_stmt.specs.declared.labels.SwitchLabels.{SwitchLabels}
use Rattle.gsl_lower_stmt.specs.Lowering.{initial, lowers_arm, lowers_stmt, value_if_any}
use Rattle.gsl_lower_stmt.specs.Parts.{LowerStmt, begin_switch, begins_with, behind_step, before_body, falling, in_turn, looped, returned, stepped}

-- what is put, and whether it leaves
abbrev pub and_leaves : Emit (Unit {0}) → Bool → Emit Bool
and_leaves run left = run >>= (λ done. given left)

-- a statement
unfoldable pub puts : Setting → List Ty → Stmt → Exits → Emit Bool
puts s locals one exits = and_leaves ((lowers_stmt s locals one).run exits) (lowers_stmt s locals one).leaves

-- statements one behind the other
unfoldable pub row : Setting → List Ty → List Stmt → Exits → Emit Bool
row s locals ss exits = and_leaves (in_turn (map (lowers_stmt s locals) ss) exits) (any_leaves (map (λ (x : LowerStmt). x.leaves) (map (lowers_stmt s locals) ss)))

-- arms that fall through
unfoldable pub falls : Setting → List Ty → ℕ → List ℕ → List Arm → Exits → Emit (Unit {0})
falls s locals end labels arms exits = falling end labels (map (lowers_arm s locals) arms) exits

abbrev pub words_in : Arm → List ℕ
words_in arm = (out-Arm arm).labels

abbrev pub default_in : Arm → Bool
default_in arm = (out-Arm arm).is_default

unfoldable pub begins_switch : List Arm → ℕ → Emit SwitchLabels
begins_switch arms x = begin_switch (map words_in arms) (map default_in arms) x

unfoldable pub loops : Setting → List Ty → Option Expr → Option Expr → Stmt → Bool → Emit (Unit {0})
loops s locals test step body last = looped last (value_if_any s test) (value_if_any s step) (lowers_stmt s locals body)

unfoldable pub tests_first : Setting → Bool → Option Expr → LoopLabels → Emit (Unit {0})
tests_first s last test l = before_body last (value_if_any s test) l

unfoldable pub steps : Setting → Option Expr → Emit (Unit {0})
steps s step = stepped (value_if_any s step)

unfoldable pub tests_last : Setting → Bool → Option Expr → LoopLabels → Emit (Unit {0})
tests_last s last test l = behind_step last (value_if_any s test) l

unfoldable pub begins : Setting → List Ty → ℕ → Option Expr → Emit ℕ
begins s locals number init = initial s locals number init

unfoldable pub declares : Setting → List Ty → ℕ → Option Expr → Emit (Unit {0})
declares s locals number init = begins s locals number init >>= begins_with number

unfoldable pub returns : Setting → Option Expr → Emit (Unit {0})
returns s e = returned (value_if_any s e)
