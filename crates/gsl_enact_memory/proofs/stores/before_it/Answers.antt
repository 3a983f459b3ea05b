use Rattle.std.proofs.Common.{◌≤◌, ◌∙◌, length, sym, arith}
use Rattle.gsl_enact_memory.proofs.Storing.{leads_here, leads_on, leads_past}
use Rattle.gsl_enact_memory.proofs.stores.before_it.Goals as goal

pub loop-k-preserved : goal.loop-k-preserved
loop-k-preserved c = leads_on c.args.buffers.now c.args.set c.args.binding c.loop-k.k c.index.result.now c.index.ensures (sym c.is_at.ensures ∙ c.if-is_at.false) c.loop-k.invariant

pub returns-then-is_at : goal.returns-then-is_at
returns-then-is_at c = leads_here c.args.buffers.now c.args.set c.args.binding c.loop-k.k c.index.result.now c.index.ensures (sym c.is_at.ensures ∙ c.if-is_at.true) c.loop-k.invariant

pub returns : goal.returns
returns c =
    let past : length c.args.buffers.now ≤ c.loop-k.k = omega (arith, c.loop-k-test.false, c.len-k-end.ensures) in
    let beyond : length c.args.buffers.now ≤ c.len.result = omega (arith, c.len.ensures) in
    leads_past c.args.buffers.now c.args.set c.args.binding c.loop-k.k c.len.result past beyond c.loop-k.invariant
