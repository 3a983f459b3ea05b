use Rattle.std.proofs.Common.{subst, IsTrue}
use Rattle.gsl_overload.specs.Identity.{identical}
use Rattle.gsl_overload.proofs.Same.{same_is, same_itself}
use Rattle.gsl_overload.proofs.laws.identical_is_equal.Goals as goal

pub returns : goal.returns
returns c a b = (same_is a b, λ is. subst (λ z. IsTrue (identical a z)) is (same_itself a))
