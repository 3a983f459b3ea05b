use Rattle.gsl_enactor.proofs.Sized.{few_words}
use Rattle.gsl_enactor.proofs.reading.valid_of.Goals as goal

pub judged-requires-clause-words : goal.judged-requires-clause-words
judged-requires-clause-words c = few_words c.in-Ok.found c.args.bytes.now c.in-Ok.ensures.found.2 c.requires
