use Rattle.std.proofs.Common.{arith}
use Rattle.gsl_lower_needs.specs.Needs.{holders}
use Rattle.gsl_lower_needs.proofs.Turns.{holders_end, holders_on}
use Rattle.gsl_lower_needs.proofs.leads.holders.Goals as goal

pub loop-k-preserved : goal.loop-k-preserved
loop-k-preserved c =
    holders_on c.args.types.now c.loop-k.k c.type_at.result.now _ c.loop-k.needs c.in_holder.new.needs (holders c.args.types.now c.args.needs.now) c.type_at.ensures c.in_ok-in_holder.ensures c.loop-k.invariant

pub returns : goal.returns
returns c = holders_end c.args.types.now c.loop-k.k c.loop-k.needs _ (omega (arith, c.loop-k-test.false, c.len-k-end.ensures)) c.loop-k.invariant
