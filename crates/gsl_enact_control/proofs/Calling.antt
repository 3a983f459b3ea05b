-- What ids stand for in their order.
use Rattle.std.proofs.Common.{◌≡◌, refl, ◌∙◌, ℕ, List, [], ◌∷◌, Option, Some, None}
use Rattle.gsl_machine.specs.State.{Held, Outcome, State, on}
use Rattle.gsl_machine.specs.Steps.{on_each}
use Rattle.gsl_enact_steps.specs.Outcomes.{in_front}
use Rattle.gsl_enact_control.specs.Called.{held_in}

ends : (h : Held) (more : Option (List Held)) (go : List Held → Outcome) → on more (λ hs. go (h ∷ hs)) ≡ on (in_front (Some h) more) go
ends h None go = refl
ends h (Some more) go = refl

pub on_each_is : (s : State) (ids : List ℕ) (go : List Held → Outcome) → on_each s ids go ≡ on (held_in s.ids ids) go
unfolding held_in
on_each_is s [] go = refl
on_each_is s (id ∷ ids) go = by_held (s.ids id) (λ h. on_each_is s ids (λ hs. go (h ∷ hs)))
  where
    by_held : (held : Option Held) → ((h : Held) → on_each s ids (λ hs. go (h ∷ hs)) ≡ on (held_in s.ids ids) (λ hs. go (h ∷ hs)))
        → on held (λ h. on_each s ids (λ hs. go (h ∷ hs))) ≡ on (in_front held (held_in s.ids ids)) go
    by_held None later = refl
    by_held (Some h) later = later h ∙ ends h (held_in s.ids ids) go
