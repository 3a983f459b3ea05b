use Rattle.std.proofs.Common.{arith, sym}
use Rattle.gsl_enact_memory.proofs.Storing.{changed_is}
use Rattle.gsl_enact_memory.proofs.stores.set_bytes.Goals as goal

pub returns-then-at-len : goal.returns-then-at-len
returns-then-at-len c = sym (changed_is c.args.items.now.items c.args.at c.index_mut.result.now c.args.bytes (omega (arith, c.if-at-len.true, c.len.ensures)) c.index_mut.ensures.value)
