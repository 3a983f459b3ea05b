use Rattle.std.proofs.Common.{refl}
use Rattle.gsl_slots.proofs.Copied.{store_more}
use Rattle.gsl_slots.proofs.slots.store_to.Goals as goal

pub loop-k-preserved : goal.loop-k-preserved
loop-k-preserved c = store_more c.args.words.now c.loop-k.words c.args.from.now c.args.at c.loop-k.k _ c.loop-k-test.true c.requires refl c.loop-k.invariant
