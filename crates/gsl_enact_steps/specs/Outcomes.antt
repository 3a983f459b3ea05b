-- What a step comes to, seen as the machine's outcome.
use Rattle.std.specs.Prelude.{ℕ, List, [], ◌∷◌, ◌++◌, Option, Some, None}
use Rattle.gsl_words.specs.declared.module.Module.{Module}
use Rattle.gsl_values.specs.declared.value.Value.{Value}
use Rattle.gsl_machine.specs.State.{Ended, Going, Ids, Outcome, Strayed, Stuck}
use Rattle.gsl_enact_state.specs.declared.state.State.{State}
use Rattle.gsl_enact_state.specs.Seen.{state_seen, whole_in}
use Rattle.gsl_enact_steps.specs.declared.step.Step.{Step}
use Rattle.gsl_enact_steps.specs.declared.step.Step.TheVariants as step

abbrev pub outcome_seen : Module → State → Step → Outcome
outcome_seen m s step.Going = Going (state_seen m s)
outcome_seen m s (step.Ended output) = Ended output
outcome_seen m s (step.Strayed place) = Strayed place
outcome_seen m s step.Stuck = Stuck

-- ---- the values of ids, if each of them has one

abbrev pub behind : {A : Type 0} → List A → Option (List A) → Option (List A)
behind front None = None
behind front (Some more) = Some (front ++ more)

abbrev pub in_front : {A : Type 0} → Option A → Option (List A) → Option (List A)
in_front None more = None
in_front (Some a) None = None
in_front (Some a) (Some more) = Some (a ∷ more)

unfoldable pub values_in : Ids → List ℕ → Option (List Value)
values_in ids [] = Some []
values_in ids (id ∷ more) = in_front (whole_in (ids id)) (values_in ids more)
