-- Calls at each depth.
use Rattle.std.proofs.Common.{◌≡◌, sym, subst, ℕ, suc, List, Option, Some}
use Rattle.std.specs.Prelude.{slice_get}
use Rattle.gsl_base.specs.declared.input.Input.{Input}
use Rattle.gsl_types.specs.declared.ty.Direction.{Direction}
use Rattle.gsl_types.specs.declared.ty.Ty.{Ty}
use Rattle.gsl_words.specs.declared.module.Module.{Module}
use Rattle.gsl_values.specs.declared.value.Value.{Value}
use Rattle.gsl_tree.specs.Around.{Around}
use Rattle.gsl_tree.specs.declared.program.Program.{Program}
use Rattle.gsl_tree.specs.declared.unit.Function.{Function}
use Rattle.gsl_meaning.specs.Running.{spending}
use Rattle.gsl_meaning.specs.Shader.{calls, function_of, result_type, running_found, setting_of}
use Rattle.gsl_meaning.specs.Statements.{runs_all}
use Rattle.gsl_spv.specs.Sections.{Sections}
use Rattle.gsl_lower_holders.specs.declared.place.FlowPlace.{FlowPlace}
use Rattle.gsl_lower_law_functions.specs.Functions.{FunctionDoes, running_body}

pub call_does : (m : Module) (input : Input) (whole : Sections) (p : Program) (place : FlowPlace) (stages : List (Option Value)) (globals : Around) (function number depth : ℕ) (params : List (Direction × Ty)) (f : Function) → function_of p.functions number ≡ Some f
    → FunctionDoes m input whole p place stages globals function params (result_type (slice_get p.prototypes number)) (λ args. spending (running_body p.structs f.locals (result_type (slice_get p.prototypes number)) (runs_all (setting_of p input (calls p input depth)) f.locals f.body) args))
    → FunctionDoes m input whole p place stages globals function params (result_type (slice_get p.prototypes number)) (calls p input (suc depth) number)
call_does m input whole p place stages globals function number depth params f is does =
    subst (λ (o : Option Function). FunctionDoes m input whole p place stages globals function params (result_type (slice_get p.prototypes number)) (λ args. running_found (setting_of p input (calls p input depth)) (result_type (slice_get p.prototypes number)) o args)) (sym is) does
