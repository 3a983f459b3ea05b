-- How the code reads, and not the rule, which stands in `Statements.antt` of `gsl_syntax`.
-- A function value that reads statements nested so deeply.
use Rattle.std.specs.Prelude.{ℕ, Result}
use Rattle.std.specs.declared.alloc.Global.{Global}
use denote.Ref.{MutBor}
use Rattle.gsl_syntax.specs.declared.statement.Stmt.{Stmt}
use Rattle.gsl_expr.specs.declared.stop.Stop.{Stop}
use Rattle.gsl_expr.specs.Reading.{Ahead, Reads}
use Rattle.gsl_parse.specs.Statements.{statement}

pub record Within (depth : ℕ) (pre : Global → MutBor Ahead → ℕ → Type 0)
    (post : Global → MutBor Ahead → ℕ → Result Stmt Stop → MutBor Ahead → Type 0) : Type 0 where
  pub callable : (alloc : Global) (old : MutBor Ahead) → pre alloc old depth
  pub reads : (alloc : Global) (old new : MutBor Ahead) (r : Result Stmt Stop) → post alloc old depth r new
      → Reads (statement depth old.now.left) r old.now new.now
