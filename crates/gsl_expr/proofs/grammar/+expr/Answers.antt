use Rattle.std.proofs.Common.{◌≡◌, ap, refl, arith, rules}
use Rattle.gsl_expr.specs.Expressions.{expr}
use Rattle.gsl_expr.proofs.Turns.{deeper}
use Rattle.gsl_expr.proofs.grammar.+expr.Goals as goal

pub returns-then-depth-eq0 : goal.returns-then-depth-eq0
unfolding expr
returns-then-depth-eq0 t c = let none : c.args.depth ≡ 0 = omega arith in (ap (λ n. expr n c.args.least c.args.tokens.now.left) none, refl)

pub returns : goal.returns
unfolding expr
returns t c = rw (deeper (λ n. expr n c.args.least c.args.tokens.now.left) c.args.depth (omega arith)) c.whole.ensures
