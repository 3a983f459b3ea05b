use Rattle.gsl_block_words.proofs.Seeing.{no_words, words_on}
use Rattle.gsl_block_words.proofs.reading.words.Goals as goal

pub loop-i-init : goal.loop-i-init
loop-i-init c = no_words c.args.at c.args.bytes.now c.new-all.result c.new-all.ensures

pub loop-i-preserved : goal.loop-i-preserved
loop-i-preserved c = words_on c.loop-i.i c.args.at c.args.bytes.now c.loop-i.all c.push.new.self c.word_at.result c.loop-i.invariant c.in_ok-push.ensures.ok c.word_at.ensures
