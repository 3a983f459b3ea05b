use Rattle.std.proofs.Common.{◌≡◌, ◌≤◌, ap, sym, ◌∙◌, drop, length, [], arith}
use Rattle.gsl_makers.proofs.Loops.{all_dropped}
use Rattle.gsl_calls.specs.Calls.{any_misused}
use Rattle.gsl_calls.proofs.Loops.{none_misused}
use Rattle.gsl_calls.proofs.calling.any_misused.Goals as goal

pub returns : goal.returns
returns c =
    let past : length c.args.args.now ≤ c.loop-k.k = omega (arith, c.loop-k-test.false) in
    let rest = drop c.loop-k.k c.args.params.now in
    sym (none_misused c.args.scene.now rest) ∙ ap (any_misused c.args.scene.now rest) (sym (all_dropped c.args.args.now c.loop-k.k past)) ∙ sym c.loop-k.invariant
