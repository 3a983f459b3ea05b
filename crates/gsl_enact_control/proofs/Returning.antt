-- What returns come to, by what the call that waits last comes back to.
use Rattle.std.proofs.Common.{◌≡◌, refl, List, [], ◌∷◌}
use Rattle.gsl_words.specs.declared.module.Module.{Module}
use Rattle.gsl_values.specs.declared.value.Value.{Value}
use Rattle.gsl_machine.specs.State.{Going, State, Waiting, giving_value}
use Rattle.gsl_machine.specs.Steps.{returning, with_value, without_value}
use Rattle.gsl_enact_control.specs.Called.{left_by}
use Rattle.gsl_enact_functions.specs.Bodies.{returned}

pub leaving_is : (m : Module) (s : State) (calls : List Waiting) → returning m s calls without_value ≡ left_by m s (λ id t. Going t) (returned calls s)
leaving_is m s [] = refl
leaving_is m s (call ∷ calls) = refl

pub leaving_with_is : (m : Module) (s : State) (v : Value) (calls : List Waiting) → returning m s calls (with_value v) ≡ left_by m s (λ id t. giving_value t id v) (returned calls s)
leaving_with_is m s v [] = refl
leaving_with_is m s v (call ∷ calls) = refl
