-- How the code reads, and not the rule, which stands in `Phrases.antt` of `gsl_syntax`.
-- A function value that reads expressions nested so deeply.
use Rattle.std.specs.Prelude.{ℕ, Result}
use Rattle.std.specs.declared.alloc.Global.{Global}
use denote.Ref.{MutBor}
use Rattle.gsl_syntax.specs.declared.expr.Expr.{Expr}
use Rattle.gsl_expr.specs.declared.stop.Stop.{Stop}
use Rattle.gsl_expr.specs.Reading.{Ahead, Reads}
use Rattle.gsl_expr.specs.Expressions.{expr}

pub record Nests (depth : ℕ) (pre : Global → MutBor Ahead → ℕ → ℕ → Type 0)
    (post : Global → MutBor Ahead → ℕ → ℕ → Result Expr Stop → MutBor Ahead → Type 0) : Type 0 where
  pub callable : (alloc : Global) (old : MutBor Ahead) (least : ℕ) → pre alloc old depth least
  pub reads : (alloc : Global) (old new : MutBor Ahead) (least : ℕ) (r : Result Expr Stop) → post alloc old depth least r new
      → Reads (expr depth least old.now.left) r old.now new.now
