use Rattle.std.proofs.Common.{◌≡◌, [], length}
use Rattle.gsl_expr.specs.Expressions.{items, expr}
use Rattle.gsl_expr.proofs.Turns.{Here}
use Rattle.gsl_expr.proofs.grammar.Grammar.items.Given as goal

abbrev pub invariant-loop-turn : goal.invariant-loop-turn
invariant-loop-turn g l =
    Here (items (expr l.self.depth) (length l.fn.tokens.left) [] l.fn.tokens.left) (λ n. items (expr l.self.depth) n l.found) (length l.fn.tokens.left) l._turn l.tokens.left
    × (l.tokens.kept ≡ l.fn.tokens.kept)
