use Rattle.std.proofs.Common.{◌≡◌, ap, sym, ◌∙◌, drop, arith}
use Rattle.gsl_tree.specs.Expressions.{supplies}
use Rattle.gsl_makers.proofs.Loops.{nothing_more}
use Rattle.gsl_makers.proofs.supplies.supplies.Goals as goal

pub returns-then-left-eq0 : goal.returns-then-left-eq0
returns-then-left-eq0 c =
    let none : c.loop-k.left ≡ 0 = omega (arith, c.if-left-eq0.true) in
    sym (nothing_more c.args.shapes.now c.loop-k.k c.loop-k-test.true) ∙ ap (λ l. supplies l (drop c.loop-k.k c.args.shapes.now)) (sym none) ∙ c.loop-k.invariant
