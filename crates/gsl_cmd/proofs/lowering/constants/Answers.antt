use Rattle.std.proofs.Common.{arith, []}
use Rattle.gsl_cmd.specs.Lowering.{with_value}
use Rattle.gsl_cmd.proofs.Constants.{fold_range_more}
use Rattle.gsl_cmd.proofs.lowering.constants.Goals as goal

pub loop-i-preserved : goal.loop-i-preserved
loop-i-preserved c = record {
  values = fold_range_more with_value [] c.loop-i.values _ c.loop-i.i c.loop-i.invariant.values c.in_ok-add_value.ensures.value;
  few = omega (arith, c.loop-i.invariant.few, c.in_ok-add_value.ensures.few);
}
