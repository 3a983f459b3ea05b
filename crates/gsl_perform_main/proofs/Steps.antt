-- What calls do, from what bodies do.
use Rattle.std.proofs.Common.{◌≡◌, refl, ap, ℕ, List, [], ◌∷◌, map}
use Rattle.gsl_types.specs.declared.ty.Ty.{Ty}
use Rattle.gsl_values.specs.declared.value.Value.{Value}
use Rattle.gsl_tree.specs.declared.stmt.Stmt.{Stmt}
use Rattle.gsl_tree.specs.declared.unit.Function.{Function}
use Rattle.gsl_tree.specs.Values.{zero_value}
use Rattle.gsl_meaning.specs.State.{State}
use Rattle.gsl_meaning.specs.Running.{Ran, Run, Got, Ends, Strays, Goes, behind}
use Rattle.gsl_meaning.specs.Expressions.{Setting}
use Rattle.gsl_meaning.specs.Statements.{Flow, Normal, Broke, Continued, Returned, runs, runs_all, then_if_normal}
use Rattle.gsl_meaning.specs.Shader.{left, result_of}
use Rattle.gsl_perform.proofs.Steps.{around-structs}
use Rattle.gsl_flow.specs.Performing.{row}
use Rattle.gsl_perform_main.specs.Calling.{performs}

module _ (setting : Setting) (locals : List Ty) where
  behind_same : (next other : Run Flow) → ((state : State) (units : ℕ) → next state units ≡ other state units) → (r : Ran Flow) → behind r (then_if_normal next) ≡ behind r (then_if_normal other)
  behind_same next other is (Got Normal state units) = is state units
  behind_same next other is (Got Broke state units) = refl
  behind_same next other is (Got Continued state units) = refl
  behind_same next other is (Got (Returned v) state units) = refl
  behind_same next other is (Ends state) = refl
  behind_same next other is Strays = refl
  behind_same next other is Goes = refl

  all_are : (ss : List Stmt) (state : State) (units : ℕ) → runs_all setting locals ss state units ≡ row setting locals ss state units
  unfolding row
  all_are [] state units = refl
  all_are (s ∷ ss) state units = behind_same (runs_all setting locals ss) (row setting locals ss) (all_are ss) (runs setting locals s state units)

pub performs-opens : (setting : Setting) (f : Function) (result : Ty) (args : List Value) (state : State) (units : ℕ) → performs setting f result args state units
    ≡ behind (row setting f.locals f.body (record state { params = args; locals = map (zero_value setting.structs) f.locals }) units) (λ flow. left state (result_of setting.structs result flow))
unfolding performs
performs-opens setting f result args state units =
    ap (λ r. behind r (λ flow. left state (result_of setting.structs result flow))) (all_are setting f.locals f.body (record state { params = args; locals = map (zero_value setting.structs) f.locals }) units)

pub ruleset performs_step = (performs-opens, around-structs)
