use Rattle.gsl_valid.specs.Search.{whole}
use Rattle.gsl_leaves_law.proofs.Counted.{zeros_are}
use Rattle.gsl_leaves_law.proofs.laws.zeros_are_zero_words.Goals as goal

pub returns : goal.returns
returns c m type = zeros_are m (whole m) type
