use Rattle.gsl_block_words.proofs.Puts.{word_put, many_put}
use Rattle.gsl_block_words.proofs.putting.put_run.Goals as goal

pub returns-in-Word : goal.returns-in-Word
returns-in-Word c = word_put c.args.v.now c.in-Word.word c.args.at c.args.bytes.now c.put_word.new.bytes c.in-Word.is c.put_word.ensures

pub returns-in-Many : goal.returns-in-Many
returns-in-Many c = many_put c.args.v.now c.in-Many.parts c.as_slice.result.now c.args.at c.args.bytes.now c.put_scalars.new.bytes c.in-Many.is c.as_slice.ensures c.put_scalars.ensures
