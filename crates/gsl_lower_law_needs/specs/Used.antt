-- That the built-in variables in what of bodies is lowered are asked for (GLSL 4.50, 7.1).
use Rattle.std.specs.Prelude.{◌≡◌, true, List}
use Rattle.std.specs.List.{AllByRecursion}
use Rattle.gsl_tree.specs.Trees.{Exits, exprs_of, form_of}
use Rattle.gsl_tree.specs.declared.expr.Expr.{Expr}
use Rattle.gsl_tree.specs.declared.expr.ExprKind.{ExprKind}
use Rattle.gsl_tree.specs.declared.expr.ExprKind.TheOpen.{ExprKind-F}
use Rattle.gsl_tree.specs.declared.stmt.Stmt.{Stmt, out-Stmt}
use Rattle.gsl_tree.specs.declared.unit.Prototype.{Prototype}
use Rattle.gsl_lower_needs.specs.declared.need.Need.{Need}
use Rattle.gsl_lower_flow.specs.Programs.{uses}
use Rattle.gsl_lower_used.specs.Lowered.{ThroughoutLowered}

abbrev pub IsAskedFor : List Need → ExprKind-F ExprKind Expr → Type 0
IsAskedFor asked (ExprKind-F.Stage var) = uses asked var ≡ true
IsAskedFor asked _ = Unit {0}

-- A built-in variable is among what is asked for. Of all else nothing is said.
abbrev pub IsAsked : List Need → Expr → Type 0
IsAsked asked e = IsAskedFor asked (form_of e)

-- So are all that the expressions of a statement are lowered with.
abbrev pub AreAsked : List Prototype → List Need → Exits → Stmt → Type 0
AreAsked s asked exits one = AllByRecursion (ThroughoutLowered s (IsAsked asked)) (exprs_of (out-Stmt one))
