-- What may be evaluated where it does not count is there, where few bytes are given for blocks whose lengths are counted.
use Rattle.std.proofs.Common.{◌≡◌, inl, ℕ, Bool, true, List, length}
use Rattle.std.specs.List.{AllByRecursion}
use Rattle.gsl_base.specs.Ranges.{FitsTypes}
use Rattle.gsl_base.specs.declared.input.Input.{Input}
use Rattle.gsl_types.specs.Known.{IsSound}
use Rattle.gsl_types.specs.declared.ty.Direction.{Direction}
use Rattle.gsl_types.specs.declared.ty.Ty.{Ty}
use Rattle.gsl_types.specs.declared.ty.Ty.TheViews.{out-Ty}
use Rattle.gsl_tree.specs.Around.{Around}
use Rattle.gsl_tree.specs.Expressions.{HasType, IsNode, is_runtime_layer}
use Rattle.gsl_tree.specs.Trees.{Throughout, ThroughoutAll, form_of, parts_of, type_of}
use Rattle.gsl_tree.specs.WellTyped.{around_body, program_lists}
use Rattle.gsl_tree.specs.declared.expr.Expr.{Expr}
use Rattle.gsl_tree.specs.declared.expr.ExprKind.{ExprKind}
use Rattle.gsl_tree.specs.declared.expr.ExprKind.TheOpen.{ExprKind-F}
use Rattle.gsl_tree.specs.declared.program.Program.{Program}
use Rattle.gsl_meaning.specs.Expressions as meaning
use Rattle.gsl_meaning.specs.Shader.{begins, calls}
use Rattle.gsl_lower_traits_law.specs.Quiet.{AsksThere, MayBeThere}
use Rattle.gsl_lower_used.proofs.Within.{each, tops}
use Rattle.gsl_lower_law_program.specs.OfLawEvaluated.{meant_in}
use Rattle.gsl_lower_law_program.proofs.OfLawEvaluated.{length_small}
use Rattle.gsl_lower_law_program.proofs.OfLawEvaluated.{length_kind_of}
use Rattle.gsl_lower_law_program.specs.Shaders.{stage_of}
use Rattle.gsl_lower_law_exact.proofs.Stages.{stage_fits}

module _ (p : Program) (params : List (Direction × Ty)) (locals : List Ty) (few : Bool) (counts : (a : Expr) → Throughout (IsNode (around_body (program_lists p) params locals)) a → is_runtime_layer (out-Ty (type_of a)) ≡ true → few ≡ true) (input : Input) (fits : FitsTypes input) (depth : ℕ) where
  abbrev around : Around
  around = around_body (program_lists p) params locals

  abbrev setting : meaning.Setting
  setting = meant_in p (stage_of p input) (calls p input depth)

  abbrev Sound : Expr → Type 0
  Sound e = IsSound (length p.structs) (type_of e)

  by_form : (e : Expr) (form : ExprKind-F ExprKind Expr) → HasType around form (type_of e) → AllByRecursion Sound (parts_of form) → AllByRecursion (Throughout (IsNode around)) (parts_of form) → AsksThere few around setting e form
  by_form e (ExprKind-F.Swizzle a lanes) is sounds nodes = is.2.2
  by_form e (ExprKind-F.Stage var) is sounds nodes = stage_fits p.structs input fits p.local_size (begins p input) var
  by_form e (ExprKind-F.Length a) is sounds nodes =
      (length_small (length p.structs) (type_of a) sounds.0, λ counted. inl (counts a nodes.0 (length_kind_of (out-Ty (type_of a)) is.1 counted)))
  by_form e form is sounds nodes = tt

  mutual
    pub all_there : (e : Expr) → Throughout (IsNode around) e → Throughout Sound e → Throughout (MayBeThere few around setting) e
    all_there _ (Throughout.whole e node parts) (Throughout.whole _ sound sounds) =
        Throughout.whole e (by_form e (form_of e) node.type (tops Sound (parts_of (form_of e)) sounds) (each (IsNode around) (parts_of (form_of e)) parts)) (each_there (parts_of (form_of e)) parts sounds)

    each_there : (es : List Expr) → ThroughoutAll (IsNode around) es → ThroughoutAll Sound es → ThroughoutAll (MayBeThere few around setting) es
    each_there _ ThroughoutAll.none sounds = ThroughoutAll.none
    each_there _ (ThroughoutAll.more e es is rest) (ThroughoutAll.more _ _ sound sounds) = ThroughoutAll.more e es (all_there e is sound) (each_there es rest sounds)
