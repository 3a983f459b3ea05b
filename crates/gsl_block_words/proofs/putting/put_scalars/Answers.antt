use Rattle.gsl_block_words.specs.Writing.{put_scalars}
use Rattle.gsl_block_words.proofs.Puts.{item_at, scalars_on, scalars_stop, scalars_end}
use Rattle.gsl_block_words.proofs.putting.put_scalars.Goals as goal

pub returns-then-place-bytes : goal.returns-then-place-bytes
returns-then-place-bytes c = scalars_stop c.args.parts.now c.loop-k.k c.loop-k.place c.loop-k.bytes (put_scalars c.args.at c.args.parts.now c.args.bytes.now) c.if-place-bytes.true c.loop-k.invariant

pub loop-k-preserved : goal.loop-k-preserved
loop-k-preserved c =
    scalars_on c.args.parts.now c.loop-k.k c.loop-k.place c.index-parts-k.result c.word_in.result c.loop-k.bytes c.put_word.new.bytes (put_scalars c.args.at c.args.parts.now c.args.bytes.now)
    (item_at c.args.parts.now c.loop-k.k c.index-parts-k.result c.loop-k-test.true c.index-parts-k.is) c.word_in.ensures c.put_word.ensures c.loop-k.invariant

pub returns : goal.returns
returns c = scalars_end c.args.parts.now c.loop-k.k c.loop-k.place c.loop-k.bytes (put_scalars c.args.at c.args.parts.now c.args.bytes.now) c.loop-k-test.false c.loop-k.invariant
