-- What is asked for at expressions, in words of which each is one call of the code.
use Rattle.std.specs.Prelude.{ℕ, Bool, true, false, List, map, Option, Some, None}
use Rattle.gsl_types.specs.declared.ty.Direction.{Direction}
use Rattle.gsl_types.specs.declared.ty.Scalar.{Scalar}
use Rattle.gsl_types.specs.declared.ty.Ty.{Ty}
use Rattle.gsl_tree.specs.Trees.{type_of}
use Rattle.gsl_tree.specs.declared.expr.Expr.{Expr}
use Rattle.gsl_tree.specs.declared.expr.ExprKind.{ExprKind, out-ExprKind}
use Rattle.gsl_tree.specs.declared.unit.Prototype.{Prototype}
use Rattle.gsl_lower_expr.specs.Coming.{leads}
use Rattle.gsl_lower_expr.specs.Parts.{scalar_of}
use Rattle.gsl_lower_needs.specs.declared.lead.Found.{Found}
use Rattle.gsl_lower_needs.specs.declared.lead.Found.TheVariants.{Place, Value}
use Rattle.gsl_lower_needs.specs.declared.lead.Lead.{Lead}
use Rattle.gsl_lower_needs.specs.Asking.{Ask, ◌>>=◌, given}
use Rattle.gsl_lower_needs.specs.Needs.{Asking, asks, keeps, kind_asks, loose, passing, passing_all, reads, sequence}

abbrev pub led : Ask Lead → Ask Found
led run = run >>= (λ lead. given (Place lead))

abbrev pub gave : Ask (Unit {0}) → Ask Found
gave run = run >>= (λ done. given Value)

abbrev pub found_by : Bool → Asking → Ask Found
found_by true m = led m.reach
found_by false m = gave m.value

-- what is of a kind leads to, or that it is a value
unfoldable pub finds : List Prototype → ExprKind → Ty → Ask Found
finds s kind ty = found_by (leads (out-ExprKind kind)) (kind_asks s kind ty)

abbrev pub valued_from : Ty → Found → Ask (Unit {0})
valued_from ty (Place lead) = reads ty lead
valued_from ty Value = given tt

abbrev pub reached_from : Ty → Found → Ask Lead
reached_from ty (Place lead) = given lead
reached_from ty Value = given (loose ty)

unfoldable pub evaluates : List Prototype → Expr → Ask (Unit {0})
evaluates s e = (asks s e).value

unfoldable pub reaches : List Prototype → Expr → Ask Lead
reaches s e = (asks s e).reach

unfoldable pub keeps_all : List Prototype → List Expr → Ask (Unit {0})
keeps_all s es = keeps (map (asks s) es)

unfoldable pub sequence_of : List Prototype → List Expr → Ask (Unit {0})
sequence_of s es = sequence (map (asks s) es)

abbrev pub index_of : List Prototype → Expr → Option ℕ → Ask (Option Scalar)
index_of s i (Some number) = given None
index_of s i None = evaluates s i >>= (λ done. given (Some (scalar_of (type_of i))))

-- an argument
unfoldable pub passes : List Prototype → Bool → Direction → Ty → Expr → Ask (Unit {0})
passes s waits way t e = passing waits way t (asks s e)

-- the arguments of a call
unfoldable pub passes_all : List Prototype → List Expr → List (Direction × Ty) → Ask (Unit {0})
passes_all s es params = passing_all (map (asks s) es) params
