-- What a shader comes to with some units, it comes to with more.
use Rattle.std.proofs.Common.{◌≡◌, refl, ap, ℕ, zero, suc, ◌+◌, ◌⊎◌, inl, inr, List, [], Option, Some, None, slice_get, arith}
use Rattle.std.specs.Prelude.{◌≢◌}
use Rattle.gsl_base.specs.declared.input.Input.{Input}
use Rattle.gsl_types.specs.declared.ty.Ty.{Ty}
use Rattle.gsl_types.specs.declared.ty.Ty.TheVariants.{Void}
use Rattle.gsl_values.specs.declared.value.Value.{Value}
use Rattle.gsl_tree.specs.declared.program.Program.{Program}
use Rattle.gsl_tree.specs.declared.unit.Function.{Function}
use Rattle.gsl_meaning.specs.State.{State}
use Rattle.gsl_meaning.specs.Running.{Ran, Got, Ends, Strays, Goes}
use Rattle.gsl_meaning.specs.Expressions.{Called, Setting}
use Rattle.gsl_meaning.specs.Statements.{runs_all}
use Rattle.gsl_meaning.specs.Shader.{Going, begins, calls, entered, function_of, left, main_of, most_calls, outcome_of, result_of, result_type, running, running_found, setting_of, shader}
use Rattle.gsl_meaning.specs.Lasting.{Keeps, Lasts}
use Rattle.gsl_meaning.proofs.Lasts.{lasts_bind, lasts_going, lasts_spending}
use Rattle.gsl_meaning.proofs.LastsStmt.{lasts_all}

lasts_left : (caller : State) (v : Value) → Lasts (left caller v)
lasts_left caller v = record { keeps = λ state units more. (refl, omega arith) }

module _ (setting : Setting) (calls_last : (number : ℕ) (args : List Value) → Lasts (setting.call number args)) where
  lasts_running : (f : Function) (result : Ty) (args : List Value) → Lasts (running setting f result args)
  lasts_running f result args = record {
    keeps = λ state units more.
        (lasts_bind (runs_all setting f.locals f.body) (λ flow. left state (result_of setting.structs result flow)) (lasts_all setting calls_last f.locals f.body)
        (λ flow. lasts_left state (result_of setting.structs result flow))).keeps (entered setting.structs f.locals args state) units more;
  }

  lasts_found : (result : Ty) (f : Option Function) (args : List Value) → Lasts (running_found setting result f args)
  lasts_found result None args = lasts_going
  lasts_found result (Some f) args = lasts_spending (running setting f result args) (lasts_running f result args)

module _ (p : Program) (input : Input) where
  lasts_calls : (depth number : ℕ) (args : List Value) → Lasts (calls p input depth number args)
  lasts_calls zero number args = lasts_going
  lasts_calls (suc depth) number args =
      lasts_found (setting_of p input (calls p input depth)) (lasts_calls depth) (result_type (slice_get p.prototypes number)) (function_of p.functions number) args

  lasts_main : (f : Option Function) → Lasts (main_of p input f)
  lasts_main None = lasts_going
  lasts_main (Some f) = lasts_running (setting_of p input (calls p input most_calls)) (lasts_calls most_calls) f Void []

  same_outcome : (r later : Ran Called) (more most : ℕ) → Keeps r later more most → (outcome_of p input r ≡ Going) ⊎ (outcome_of p input later ≡ outcome_of p input r)
  same_outcome (Got called state units) later more most (is, below) = inr (ap (outcome_of p input) is)
  same_outcome (Ends state) later more most is = inr (ap (outcome_of p input) is)
  same_outcome Strays later more most is = inr (ap (outcome_of p input) is)
  same_outcome Goes later more most is = inl refl

  pub shader_lasts : (units more : ℕ) → shader p units input ≢ Going → shader p (units + more) input ≡ shader p units input
  unfolding shader
  shader_lasts units more over = by (same_outcome (run units) (run (units + more)) more units ((lasts_main (slice_get p.functions p.main)).keeps (begins p input) units more))
    where
      run : ℕ → Ran Called
      run n = main_of p input (slice_get p.functions p.main) (begins p input) n

      by : (outcome_of p input (run units) ≡ Going) ⊎ (outcome_of p input (run (units + more)) ≡ outcome_of p input (run units)) → outcome_of p input (run (units + more)) ≡ outcome_of p input (run units)
      by (inl going) = let never : ⊥ = over going in elim never [ ]
      by (inr same) = same
