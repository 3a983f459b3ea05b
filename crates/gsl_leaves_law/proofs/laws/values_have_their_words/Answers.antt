use Rattle.gsl_valid.specs.Search.{whole}
use Rattle.gsl_leaves_law.proofs.Counted.{counted_in}
use Rattle.gsl_leaves_law.proofs.laws.values_have_their_words.Goals as goal

pub returns : goal.returns
returns c m type v is = counted_in m (whole m) type v is
