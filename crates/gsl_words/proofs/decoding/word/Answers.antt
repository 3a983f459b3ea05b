use Rattle.std.proofs.Common.{sym, ◌∙◌}
use Rattle.gsl_words.proofs.Found.{word_at}
use Rattle.gsl_words.proofs.decoding.word.Goals as goal

pub returns : goal.returns
returns c = c.from_le_bytes.ensures ∙ sym (word_at c.args.bytes.now c.args.k c.requires.within)
