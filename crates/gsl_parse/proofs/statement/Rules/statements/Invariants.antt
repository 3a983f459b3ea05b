use Rattle.std.proofs.Common.{◌≡◌, [], length}
use Rattle.gsl_expr.proofs.Turns.{Here}
use Rattle.gsl_parse.specs.Statements.{statement, statements}
use Rattle.gsl_parse.proofs.statement.Rules.statements.Given as goal

abbrev pub invariant-loop-turn : goal.invariant-loop-turn
invariant-loop-turn g l =
    Here (statements (statement l.self.depth) (length l.fn.tokens.left) [] l.fn.tokens.left) (λ n. statements (statement l.self.depth) n l.found) (length l.fn.tokens.left) l._turn l.tokens.left
    × (l.tokens.kept ≡ l.fn.tokens.kept)
