use Rattle.std.proofs.Common.{◌≡◌, length}
use Rattle.gsl_expr.specs.Expressions.{climb, expr}
use Rattle.gsl_expr.proofs.Turns.{Here}
use Rattle.gsl_expr.proofs.grammar.Grammar.climb.Given as goal

abbrev pub invariant-loop-turn : goal.invariant-loop-turn
invariant-loop-turn g l =
    Here (climb (expr l.self.depth) l.least (length l.fn.tokens.left) l.fn.first l.fn.tokens.left) (λ n. climb (expr l.self.depth) l.least n l.left) (length l.fn.tokens.left) l._turn l.tokens.left
    × (l.tokens.kept ≡ l.fn.tokens.kept)
