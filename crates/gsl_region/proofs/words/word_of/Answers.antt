use Rattle.std.proofs.Common.{arith}
use Rattle.gsl_views.specs.Viewed.{viewed}
use Rattle.gsl_region.proofs.Bytes.{word_read}
use Rattle.gsl_region.proofs.words.word_of.Goals as goal

pub returns : goal.returns
returns c =
    word_read (viewed c.new.result) c.args.bytes.now c.args.leaf.now c.args.number _ c.read_word.result c.new.ensures.bytes (omega arith) c.new.ensures.layout c.requires.leaf c.new.ensures.start
    c.read_word.ensures
