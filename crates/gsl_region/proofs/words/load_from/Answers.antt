use Rattle.gsl_region.proofs.Copies.{load_more}
use Rattle.gsl_region.proofs.words.load_from.Goals as goal

pub loop-k-preserved : goal.loop-k-preserved
loop-k-preserved c =
    load_more c.args.bytes.now c.loop-k.into c.args.place c.loop-k.k _ c.word_of.result c.loop-k-test.true c.loop-k.auto.into c.requires.within c.loop-k.invariant c.word_of.ensures
