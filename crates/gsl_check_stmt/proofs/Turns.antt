-- The body of a `switch` from left to right.
use Rattle.std.proofs.Common.{◌≡◌, ap, List, [], ◌∷◌, map, Ok}
use Rattle.gsl_base.specs.Checked.{Checked, ◌>>=◌}
use Rattle.gsl_syntax.specs.declared.statement.Stmt.{Stmt as Syntax}
use Rattle.gsl_types.specs.declared.ty.Ty.{Ty}
use Rattle.gsl_check_expr.specs.declared.env.Env.{Env}
use Rattle.gsl_check_stmt.specs.declared.within.Within.{Within}
use Rattle.gsl_check_stmt.specs.declared.gathered.Gathered.{Gathered}
use Rattle.gsl_check_stmt.specs.Statements.{answer, item, items}

module _ (r : Ty) (w : Within) (selector : Ty) where
  -- what labels and statements give behind those before them
  abbrev pub items_of : List Syntax → Gathered → Env → Checked (Gathered × Env)
  items_of all g env = items w selector (map (answer r) all) g env

  abbrev more_of : List Syntax → Gathered × Env → Checked (Gathered × Env)
  more_of all done = items_of all done.0 done.1

  pub item_on : (x : Syntax) (all : List Syntax) (g more : Gathered) (env behind : Env) → item w selector (answer r x) g env ≡ Ok (more, behind)
      → items_of (x ∷ all) g env ≡ items_of all more behind
  item_on x all g more env behind is = ap (λ (a : Checked (Gathered × Env)). a >>= more_of all) is
