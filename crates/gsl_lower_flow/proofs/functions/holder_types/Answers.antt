use Rattle.std.proofs.Common.{arith}
use Rattle.gsl_lower_flow.proofs.Rows.{types_end, types_on}
use Rattle.gsl_lower_flow.proofs.functions.holder_types.Goals as goal

pub loop-k-preserved : goal.loop-k-preserved
loop-k-preserved c = types_on c.args.asked.now c.loop-k.k c.need_at.result.now c.loop-k.types c.with_type.new.types _ c.need_at.ensures c.in_ok-with_type.ensures c.loop-k.invariant

pub returns : goal.returns
returns c = types_end c.args.asked.now c.loop-k.k c.loop-k.types _ (omega (arith, c.loop-k-test.false, c.len-k-end.ensures)) c.loop-k.invariant
