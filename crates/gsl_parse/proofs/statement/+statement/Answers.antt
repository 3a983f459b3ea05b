use Rattle.std.proofs.Common.{◌≡◌, ap, refl, arith}
use Rattle.gsl_parse.specs.Statements.{statement}
use Rattle.gsl_expr.proofs.Turns.{deeper}
use Rattle.gsl_parse.proofs.statement.+statement.Goals as goal

pub returns-then-depth-eq0 : goal.returns-then-depth-eq0
unfolding statement
returns-then-depth-eq0 t c = let none : c.args.depth ≡ 0 = omega arith in (ap (λ n. statement n c.args.tokens.now.left) none, refl)

pub returns : goal.returns
unfolding statement
returns t c = rw (deeper (λ n. statement n c.args.tokens.now.left) c.args.depth (omega arith)) c.whole.ensures
