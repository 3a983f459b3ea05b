use Rattle.std.proofs.Common.{arith}
use Rattle.std.specs.Prelude.{slice_index}
use Rattle.gsl_step_values.proofs.Inside.{cut_at}
use Rattle.gsl_step_entering.proofs.Given.{all_passed, none_passed, one_passed}
use Rattle.gsl_step_entering.proofs.arguments.put_arguments.Goals as goal

pub loop-k-init : goal.loop-k-init
loop-k-init c fits = none_passed c.args.operands.now c.args.machine.now c.args.arguments.now c.args.base fits

pub loop-k-preserved : goal.loop-k-preserved
loop-k-preserved c fits =
    one_passed c.args.operands.now c.args.machine.now c.args.arguments.now c.args.base fits c.loop-k.k (slice_index c.args.arguments.now c.loop-k.k) c.loop-k.machine c.put_argument-end.new.machine c.loop-k.end c.put_argument-end.result (c.loop-k.invariant fits)
    (cut_at c.args.arguments.now c.loop-k.k c.loop-k-test.true) c.put_argument-end.ensures

pub returns : goal.returns
returns c fits =
    let over = c.loop-k-test.false in
    all_passed c.args.operands.now c.args.machine.now c.args.arguments.now c.args.base fits c.loop-k.k c.loop-k.machine c.loop-k.end (omega (arith, over)) (c.loop-k.invariant fits)
