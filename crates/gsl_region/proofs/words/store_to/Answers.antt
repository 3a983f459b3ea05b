use Rattle.std.proofs.Common.{◌∙◌, ◌<◌, ◌^◌, ap, arith, get_or, refl}
use Rattle.gsl_region.specs.Showing.{as_words}
use Rattle.gsl_region.proofs.Copies.{store_more}
use Rattle.gsl_region.proofs.words.store_to.Goals as goal

pub loop-k-preserved : goal.loop-k-preserved
loop-k-preserved c =
    let small : get_or c.args.from.now c.loop-k.k 0 < 2 ^ 32 = omega (arith, c.type_inv.from c.loop-k.k) in
    ap as_words c.put_word_of.ensures
    ∙ store_more c.args.bytes.now c.loop-k.bytes c.args.from.now c.args.place c.loop-k.k (get_or c.args.from.now c.loop-k.k 0) c.loop-k-test.true c.requires.within c.loop-k.auto.bytes small refl c.loop-k.invariant
