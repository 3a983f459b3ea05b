use Rattle.gsl_syntax.specs.Sentences.{IsUnit}
use Rattle.gsl_parse.proofs.OnePlace.{one_place}
use Rattle.gsl_parse.proofs.laws.one_first_bad.Goals as goal

pub returns : goal.returns
returns c = one_place IsUnit
