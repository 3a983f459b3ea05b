use Rattle.std.proofs.Common.{subst}
use Rattle.gsl_check_law.specs.Small.{IsSmallFolded}
use Rattle.gsl_check_law.proofs.Counted.{constant_small}
use Rattle.gsl_check_law.proofs.laws.constants_are_words.Goals as goal

pub returns : goal.returns
returns c scene e v fine counted is known = subst IsSmallFolded known (constant_small scene fine counted e is)
