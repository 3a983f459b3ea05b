use Rattle.std.proofs.Common.{◌∙◌, ap}
use Rattle.gsl_region.specs.Showing.{as_words}
use Rattle.gsl_region.proofs.Copies.{zero_more}
use Rattle.gsl_region.proofs.words.zero_from.Goals as goal

pub loop-k-preserved : goal.loop-k-preserved
loop-k-preserved c =
    ap as_words c.put_word_of.ensures
    ∙ zero_more c.args.bytes.now c.loop-k.bytes c.args.place c.loop-k.k c.args.count c.loop-k-test.true c.requires.within c.loop-k.auto.bytes c.loop-k.invariant
