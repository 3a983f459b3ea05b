use Rattle.gsl_words.proofs.Flattened.{part_is}
use Rattle.gsl_words.proofs.instrs.part.Goals as goal

pub returns : goal.returns
returns c = part_is c.args.words.now c.args.starts.now c.args.i c.part_end-end.result c.requires.flat c.requires.within c.part_end-end.ensures.value
