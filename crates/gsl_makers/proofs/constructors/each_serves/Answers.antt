use Rattle.std.proofs.Common.{◌≡◌, ◌≤◌, ap, sym, ◌∙◌, drop, length, [], arith}
use Rattle.gsl_makers.specs.Constructors.{each_serves}
use Rattle.gsl_makers.proofs.Loops.{none_serves, all_dropped}
use Rattle.gsl_makers.proofs.constructors.each_serves.Goals as goal

pub returns : goal.returns
returns c =
    let past : length c.args.args.now ≤ c.loop-k.k = omega (arith, c.loop-k-test.false) in
    let rest = drop c.loop-k.k c.args.members.now in
    sym (none_serves rest) ∙ ap (each_serves rest) (sym (all_dropped c.args.args.now c.loop-k.k past)) ∙ sym c.loop-k.invariant
