use Rattle.gsl_slots.proofs.Copied.{copy_more}
use Rattle.gsl_slots.proofs.slots.copy_to.Goals as goal

pub loop-k-preserved : goal.loop-k-preserved
loop-k-preserved c = copy_more c.args.words.now c.loop-k.words c.args.from c.args.at c.args.count c.loop-k.k c.loop-k-test.true c.requires.behind c.requires.within c.loop-k.invariant
