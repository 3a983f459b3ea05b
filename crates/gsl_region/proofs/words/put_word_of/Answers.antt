use Rattle.std.proofs.Common.{◌*◌, arith}
use Rattle.gsl_region.proofs.Bytes.{put_cut}
use Rattle.gsl_region.proofs.words.put_word_of.Goals as goal

pub returns : goal.returns
returns c = put_cut c.args.bytes.now c.put.new.bytes (4 * c.args.number) _ c.args.word (omega arith) c.requires.within c.put.ensures
