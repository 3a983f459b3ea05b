use Rattle.std.proofs.Common.{sym, ◌∙◌, ap}
use Rattle.gsl_values.specs.declared.value.Value.TheVariants.{Word, Many}
use Rattle.gsl_block_words.proofs.Seeing.{one_word, more_words}
use Rattle.gsl_block_words.proofs.reading.run.Goals as goal

pub returns-then-count-eq1 : goal.returns-then-count-eq1
returns-then-count-eq1 c = ap Word c.word_at.ensures ∙ sym (one_word c.args.count c.args.at c.args.bytes.now c.if-count-eq1.true)

pub returns : goal.returns
returns c = ap Many c.in_ok-all.ensures ∙ sym (more_words c.args.count c.args.at c.args.bytes.now c.if-count-eq1.false)
