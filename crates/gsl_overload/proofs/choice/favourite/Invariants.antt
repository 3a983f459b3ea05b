use Rattle.gsl_overload.specs.Favourite.{FavouriteBelow}
use Rattle.gsl_overload.proofs.choice.favourite.Given as goal

abbrev pub invariant-loop-k : goal.invariant-loop-k
invariant-loop-k l = FavouriteBelow l.candidates l.args l.k l.found
