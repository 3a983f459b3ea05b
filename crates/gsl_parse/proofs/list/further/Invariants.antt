use Rattle.std.proofs.Common.{◌≡◌, length}
use Rattle.gsl_expr.proofs.Turns.{Here}
use Rattle.gsl_parse.specs.Lists.{further}
use Rattle.gsl_parse.proofs.list.further.Given as goal

abbrev pub invariant-loop-turn : goal.invariant-loop-turn
invariant-loop-turn g l =
    Here (further (g.T.Item.reader l.fn.depth) (length l.fn.tokens.left) l.fn.first l.fn.tokens.left) (λ n. further (g.T.Item.reader l.depth) n l.found) (length l.fn.tokens.left) l._turn l.tokens.left
    × (l.tokens.kept ≡ l.fn.tokens.kept)
