-- Calls by their depth.
use Rattle.std.proofs.Common.{◌≡◌, refl, sym, ap, subst, ◌∙◌, ℕ, zero, suc, ◌-◌, ◌<◌, List, [], Some, None, slice_get, Result, arith}
use Rattle.gsl_types.specs.declared.ty.Ty.{Ty}
use Rattle.gsl_types.specs.declared.ty.Ty.TheVariants.{Void}
use Rattle.gsl_values.specs.declared.value.Value.{Value}
use Rattle.gsl_tree.specs.declared.unit.Function.{Function}
use Rattle.gsl_meaning.specs.State.{State}
use Rattle.gsl_meaning.specs.Running.{Ran, Run, Got, Goes, behind, spending}
use Rattle.gsl_meaning.specs.Expressions.{Called}
use Rattle.gsl_meaning.specs.Shader.{calls, function_of, main_of, result_type, running, running_found, setting_of}
use Rattle.gsl_perform.specs.declared.stop.Stop.{Stop}
use Rattle.gsl_perform.specs.declared.stop.Stop.TheVariants as stop
use Rattle.gsl_perform.specs.declared.world.World.{World}
use Rattle.gsl_perform.specs.Does.{Does, Stops}
use Rattle.gsl_perform.specs.Framed.{Framed, around}
use Rattle.gsl_flow.specs.Performing.{spends}
use Rattle.gsl_perform_main.specs.Calling.{performs}

spent : {A : Type 0} (run : Run A) (state : State) (units : ℕ) → spending run state units ≡ behind (spends state units) (λ t. run)
unfolding spends
spent run state zero = refl
spent run state (suc units) = refl

module _ (f : Framed) (depth number : ℕ) (args : List Value) where
  abbrev whole : State → ℕ → Ran Called
  whole = calls f.program f.input depth number args

  pub none_left : depth ≡ 0 → (state : State) (units : ℕ) → whole state units ≡ Goes
  none_left none state units = ap (λ d. calls f.program f.input d number args state units) none

  deeper : 0 < depth → (state : State) (units : ℕ) → whole state units
      ≡ running_found (setting_of f.program f.input (calls f.program f.input (depth - 1))) (result_type (slice_get f.program.prototypes number)) (function_of f.program.functions number) args state units
  deeper some state units = ap (λ d. calls f.program f.input d number args state units) (let e : depth ≡ suc (depth - 1) = omega (arith, some) in e)

  pub no_function : 0 < depth → function_of f.program.functions number ≡ None → (state : State) (units : ℕ) → whole state units ≡ Goes
  no_function some none state units =
      deeper some state units
      ∙ ap (λ g. running_found (setting_of f.program f.input (calls f.program f.input (depth - 1))) (result_type (slice_get f.program.prototypes number)) g args state units) none

  opens : 0 < depth → (g : Function) → function_of f.program.functions number ≡ Some g → (state : State) (units : ℕ) → whole state units
      ≡ behind (spends state units) (λ t. performs (around f (depth - 1)) g (result_type (slice_get f.program.prototypes number)) args)
  unfolding performs around
  opens some g found state units =
      deeper some state units
      ∙ ap (λ h. running_found (setting_of f.program f.input (calls f.program f.input (depth - 1))) (result_type (slice_get f.program.prototypes number)) h args state units) found
      ∙ spent (running (setting_of f.program f.input (calls f.program f.input (depth - 1))) g (result_type (slice_get f.program.prototypes number)) args) state units

  pub unit_wanting : 0 < depth → (g : Function) → function_of f.program.functions number ≡ Some g → (why : Stop) (before after : World) → Stops why after (spends before.store before.units) → Stops why after (whole before.store before.units)
  unit_wanting some g found stop.Ends before after is =
      opens some g found before.store before.units ∙ ap (λ r. behind r (λ t. performs (around f (depth - 1)) g (result_type (slice_get f.program.prototypes number)) args)) is
  unit_wanting some g found stop.Strays before after is =
      opens some g found before.store before.units ∙ ap (λ r. behind r (λ t. performs (around f (depth - 1)) g (result_type (slice_get f.program.prototypes number)) args)) is
  unit_wanting some g found stop.Goes before after is =
      opens some g found before.store before.units ∙ ap (λ r. behind r (λ t. performs (around f (depth - 1)) g (result_type (slice_get f.program.prototypes number)) args)) is
  unit_wanting some g found stop.Memory before after is = tt

  pub performed : 0 < depth → (g : Function) → function_of f.program.functions number ≡ Some g → (before spent after : World) (t : Unit {0}) → spends before.store before.units ≡ Got t spent.store spent.units
      → (ty : Ty) → ty ≡ result_type (slice_get f.program.prototypes number) → (r : Result Called Stop) → Does r after (performs (around f (depth - 1)) g ty args spent.store spent.units) → Does r after (whole before.store before.units)
  performed some g found before spent after t is ty typed r does =
      subst (Does r after)
      (sym (opens some g found before.store before.units ∙ ap (λ x. behind x (λ u. performs (around f (depth - 1)) g (result_type (slice_get f.program.prototypes number)) args)) is))
      (subst (λ y. Does r after (performs (around f (depth - 1)) g y args spent.store spent.units)) typed does)

-- ---- `main`

pub no_main : (f : Framed) → slice_get f.program.functions f.program.main ≡ None → (state : State) (units : ℕ) → main_of f.program f.input (slice_get f.program.functions f.program.main) state units ≡ Goes
no_main f none state units = ap (λ g. main_of f.program f.input g state units) none

pub main_performed : (f : Framed) (g : Function) → slice_get f.program.functions f.program.main ≡ Some g → (ty : Ty) → ty ≡ Void → (args : List Value) → args ≡ [] → (before after : World) (r : Result Called Stop)
    → Does r after (performs (around f 64) g ty args before.store before.units) → Does r after (main_of f.program f.input (slice_get f.program.functions f.program.main) before.store before.units)
unfolding performs around
main_performed f g found ty bare args none before after r does =
    subst (λ o. Does r after (main_of f.program f.input o before.store before.units)) (sym found)
    (subst (λ vs. Does r after (performs (around f 64) g Void vs before.store before.units)) none (subst (λ t. Does r after (performs (around f 64) g t args before.store before.units)) bare does))
