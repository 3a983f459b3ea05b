-- What calls do lasts with more units.
use Rattle.std.proofs.Common.{refl, ℕ, zero, suc, List, Option, Some, None, slice_get, arith}
use Rattle.gsl_base.specs.declared.input.Input.{Input}
use Rattle.gsl_types.specs.declared.ty.Ty.{Ty}
use Rattle.gsl_values.specs.declared.value.Value.{Value}
use Rattle.gsl_tree.specs.declared.program.Program.{Program}
use Rattle.gsl_tree.specs.declared.unit.Function.{Function}
use Rattle.gsl_meaning.specs.State.{State}
use Rattle.gsl_meaning.specs.Expressions.{Setting}
use Rattle.gsl_meaning.specs.Statements.{runs_all}
use Rattle.gsl_meaning.specs.Shader.{calls, entered, function_of, left, result_of, result_type, running, running_found, setting_of}
use Rattle.gsl_meaning.specs.Lasting.{Lasts}
use Rattle.gsl_meaning.proofs.Lasts.{lasts_bind, lasts_going, lasts_spending}
use Rattle.gsl_meaning.proofs.LastsStmt.{lasts_all}
use Rattle.gsl_perform.specs.Framed.{Framed, around}

lasts_left : (caller : State) (v : Value) → Lasts (left caller v)
lasts_left caller v = record { keeps = λ state units more. (refl, omega arith) }

module _ (setting : Setting) (calls_last : (number : ℕ) (args : List Value) → Lasts (setting.call number args)) where
  lasts_running : (f : Function) (result : Ty) (args : List Value) → Lasts (running setting f result args)
  lasts_running f result args = record {
    keeps = λ state units more.
        (lasts_bind (runs_all setting f.locals f.body) (λ flow. left state (result_of setting.structs result flow)) (lasts_all setting calls_last f.locals f.body)
        (λ flow. lasts_left state (result_of setting.structs result flow))).keeps (entered setting.structs f.locals args state) units more;
  }

  lasts_found : (result : Ty) (f : Option Function) (args : List Value) → Lasts (running_found setting result f args)
  lasts_found result None args = lasts_going
  lasts_found result (Some f) args = lasts_spending (running setting f result args) (lasts_running f result args)

lasts_calls : (p : Program) (input : Input) (depth number : ℕ) (args : List Value) → Lasts (calls p input depth number args)
lasts_calls p input zero number args = lasts_going
lasts_calls p input (suc depth) number args =
    lasts_found (setting_of p input (calls p input depth)) (lasts_calls p input depth) (result_type (slice_get p.prototypes number)) (function_of p.functions number) args

pub calls_last : (f : Framed) (depth number : ℕ) (args : List Value) → Lasts ((around f depth).call number args)
unfolding around
calls_last f depth = lasts_calls f.program f.input depth
