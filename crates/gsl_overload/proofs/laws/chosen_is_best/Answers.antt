use Rattle.std.proofs.Common.{sym, subst}
use Rattle.std.specs.Prelude.{Ok, Err}
use Rattle.gsl_overload.specs.declared.choice.Choice.TheVariants.{NoMatch}
use Rattle.gsl_overload.proofs.Bests.{Judged, judged, is_chosen}
use Rattle.gsl_overload.proofs.laws.chosen_is_best.Goals as goal

pub returns-clause-best : goal.returns-clause-best
returns-clause-best c candidates args place =
    (λ is. subst (Judged candidates args) is (judged candidates args), λ best. sym (is_chosen candidates args (Ok place) best))

pub returns-clause-none : goal.returns-clause-none
returns-clause-none c candidates args =
    (λ is. subst (Judged candidates args) is (judged candidates args), λ none. sym (is_chosen candidates args (Err NoMatch) none))

pub returns-clause-ambiguous : goal.returns-clause-ambiguous
returns-clause-ambiguous c candidates args is = subst (Judged candidates args) is (judged candidates args)
