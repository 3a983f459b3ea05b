use Rattle.std.proofs.Common.{◌≡◌, ◌+◌, ◌*◌, [], length}
use Rattle.gsl_expr.proofs.Turns.{Here}
use Rattle.gsl_parse.specs.Variables.{initialiser, initialisers}
use Rattle.gsl_parse.proofs.variable.+initialiser.Given as goal

abbrev pub decreases-initialiser : goal.decreases-initialiser
decreases-initialiser l = 2 * l.nested

abbrev pub decreases-initialisers : goal.decreases-initialisers
decreases-initialisers l = 2 * l.nested + 1

abbrev pub invariant-initialisers-loop-turn : goal.invariant-initialisers-loop-turn
invariant-initialisers-loop-turn l =
    Here (initialisers (initialiser l.depth l.nested) (length l.fn.tokens.left) [] l.fn.tokens.left) (λ n. initialisers (initialiser l.depth l.nested) n l.found) (length l.fn.tokens.left) l._turn l.tokens.left
    × (l.tokens.kept ≡ l.fn.tokens.kept)
