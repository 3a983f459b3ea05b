-- The values of ids in their order.
use Rattle.std.proofs.Common.{◌≡◌, refl, ℕ, List, [], ◌∷◌, Option, Some, None, ◌∙◌}
use Rattle.gsl_values.specs.declared.value.Value.{Value}
use Rattle.gsl_machine.specs.State.{Held, Outcome, Points, State, Whole, on, on_whole}
use Rattle.gsl_machine.specs.Steps.{on_all}
use Rattle.gsl_enact_state.specs.Seen.{whole_in}
use Rattle.gsl_enact_steps.specs.Outcomes.{in_front, values_in}

ends : (v : Value) (more : Option (List Value)) (go : List Value → Outcome) → on more (λ vs. go (v ∷ vs)) ≡ on (in_front (Some v) more) go
ends v None go = refl
ends v (Some more) go = refl

pub on_all_is : (s : State) (ids : List ℕ) (go : List Value → Outcome) → on_all s ids go ≡ on (values_in s.ids ids) go
unfolding values_in
on_all_is s [] go = refl
on_all_is s (id ∷ ids) go = by_held (s.ids id) (λ v. on_all_is s ids (λ vs. go (v ∷ vs)))
  where
    by_held : (h : Option Held) → ((v : Value) → on_all s ids (λ vs. go (v ∷ vs)) ≡ on (values_in s.ids ids) (λ vs. go (v ∷ vs)))
        → on_whole h (λ v. on_all s ids (λ vs. go (v ∷ vs))) ≡ on (in_front (whole_in h) (values_in s.ids ids)) go
    by_held None later = refl
    by_held (Some (Whole v)) later = later v ∙ ends v (values_in s.ids ids) go
    by_held (Some (Points to)) later = refl
