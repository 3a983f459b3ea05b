-- Built-in variables and `.length()`.
use Rattle.std.proofs.Common.{◌≡◌, ℕ, Bool, true, false, List, [], Some, refl, sym, ap, ◌∙◌, subst}
use Rattle.gsl_types.specs.declared.ty.Direction.{Direction}
use Rattle.gsl_types.specs.declared.ty.Scalar.TheVariants.{Int, Uint}
use Rattle.gsl_types.specs.declared.ty.Ty.{Ty}
use Rattle.gsl_types.specs.declared.ty.Ty.TheOpen.{Ty-F}
use Rattle.gsl_types.specs.declared.ty.Ty.TheVariants as ty
use Rattle.gsl_types.specs.declared.ty.Ty.TheVariants.{outs-One, outs-Vector}
use Rattle.gsl_types.specs.declared.ty.Ty.TheViews.{out-Ty}
use Rattle.gsl_tree.specs.Around.{Around, stage_var_type}
use Rattle.gsl_tree.specs.Expressions.{HasMemberType, HasType, has_length_kind, is_runtime_layer}
use Rattle.gsl_tree.specs.Operations.{has_fixed_length, is_fixed_kind}
use Rattle.gsl_tree.specs.Shapes.{Shape, shape_kind, shape_of}
use Rattle.gsl_tree.specs.Statements.{expr_depth}
use Rattle.gsl_tree.specs.Trees.{form_of, type_of}
use Rattle.gsl_tree.specs.WellTyped.{AreWellTyped, around_body, program_lists}
use Rattle.gsl_tree.specs.declared.expr.Expr.{Expr}
use Rattle.gsl_tree.specs.declared.expr.ExprKind.{ExprKind}
use Rattle.gsl_tree.specs.declared.expr.ExprKind.TheOpen.{ExprKind-F}
use Rattle.gsl_tree.specs.declared.expr.StageVar.{StageVar}
use Rattle.gsl_tree.specs.declared.expr.StageVar.TheVariants as stage
use Rattle.gsl_tree.specs.declared.program.Program.{Program}
use Rattle.gsl_spv.specs.Sections.{Sections}
use Rattle.gsl_lower_holders.specs.Flow.{Emit, Flow, lacking}
use Rattle.gsl_lower_traits.specs.Traits as traits
use Rattle.gsl_lower_expr.specs.Parts as parts
use Rattle.gsl_lower_expr.specs.Parts.{Lower, shape_or}
use Rattle.gsl_lower_needs.specs.Asking as asking
use Rattle.gsl_lower_needs.specs.Asking.{need}
use Rattle.gsl_lower_needs.specs.Needs.{Asking}
use Rattle.gsl_lower_needs.specs.declared.need.Need.TheVariants.{Stage}
use Rattle.gsl_fitting.specs.Fits.{Frame}
use Rattle.gsl_fitting_known.proofs.OfFittingKinds.{counted_evaluates, length_evaluates, stage_evaluates}
use Rattle.gsl_fitting_known.specs.Known.{IsStage, Knows}
use Rattle.gsl_fitting_valued.proofs.Simple as simple
use Rattle.gsl_fitting_known.proofs.Types.{or_known, plain_known}
use Rattle.gsl_fitting_known.proofs.Wanting.{wants_given, wants_stage}

stage_shape : (var : StageVar) → (shape : Shape) × (shape_of (stage_var_type var) ≡ Some shape)
stage_shape stage.NumWorkGroups = ((Uint, 3), ap shape_kind (outs-Vector Uint 3))
stage_shape stage.WorkGroupId = ((Uint, 3), ap shape_kind (outs-Vector Uint 3))
stage_shape stage.LocalInvocationId = ((Uint, 3), ap shape_kind (outs-Vector Uint 3))
stage_shape stage.GlobalInvocationId = ((Uint, 3), ap shape_kind (outs-Vector Uint 3))
stage_shape stage.LocalInvocationIndex = ((Uint, 1), ap shape_kind (outs-One Uint))
stage_shape stage.VertexIndex = ((Int, 1), ap shape_kind (outs-One Int))
stage_shape stage.InstanceIndex = ((Int, 1), ap shape_kind (outs-One Int))

int_shape : (t : Ty) → t ≡ ty.One Int → shape_of t ≡ Some (Int, 1)
int_shape t is = ap shape_of is ∙ ap shape_kind (outs-One Int)

-- what has a length that its type does not tell is a runtime array
runtime_by : (of : Ty-F Ty) → has_length_kind of ≡ true → is_fixed_kind of ≡ false → is_runtime_layer of ≡ true
runtime_by Ty-F.Void has fixed = absurd (let z : false ≡ true = has in cc)
runtime_by (Ty-F.One s) has fixed = absurd (let z : false ≡ true = has in cc)
runtime_by (Ty-F.Vector s n) has fixed = absurd (let z : true ≡ false = fixed in cc)
runtime_by (Ty-F.Array a n) has fixed = absurd (let z : true ≡ false = fixed in cc)
runtime_by (Ty-F.Runtime a) has fixed = refl
runtime_by (Ty-F.Struct k) has fixed = absurd (let z : false ≡ true = has in cc)

module _ (whole : Sections) (main : ℕ) (local_size : List ℕ) (rank : ℕ → ℕ) (f : Frame) (s : Flow) (p : Program) (params : List (Direction × Ty)) (locals : List Ty) (well : AreWellTyped (program_lists p))
    (knows : Knows whole main local_size rank f s p.structs (around_body (program_lists p) params locals)) where
  abbrev Is : Expr → Type 0
  Is = simple.Is whole main local_size rank f s p params locals well knows

  abbrev Has : Ty → Type 0
  Has = simple.Has whole main local_size rank f s p params locals well knows

  abbrev Here : ExprKind-F ExprKind Expr → Ty → Type 0
  Here = simple.Here whole main local_size rank f s p params locals well knows

  abbrev low : Expr → Lower
  low = simple.low whole main local_size rank f s p params locals well knows

  abbrev ask : Expr → Asking
  ask = simple.ask whole main local_size rank f s p params locals well knows

  abbrev id_for : Ty → ℕ
  id_for = simple.id_for whole main local_size rank f s p params locals well knows

  abbrev ids_for : List Ty → List ℕ
  ids_for = simple.ids_for whole main local_size rank f s p params locals well knows

  abbrev E : List ℕ → ℕ → Bool → ℕ → Emit ℕ → Type 0
  E = simple.E whole main local_size rank f s p params locals well knows

  abbrev P : Shape → ℕ → Type 0
  P = simple.P whole main local_size rank f s p params locals well knows

  abbrev around : Around
  around = around_body (program_lists p) params locals

  -- ---- built-in variables

  pub stage_here : (var : StageVar) (t : Ty) → stage_var_type var ≡ t → IsStage whole main local_size rank f s p.structs var t → Here (ExprKind-F.Stage var) t
  stage_here var t is n =
      simple.value_form whole main local_size rank f s p params locals well knows t 0 (parts.stage_value var t) (need (Stage var)) false false true (traits.valued false false true) refl (λ e. refl)
      (λ has.
      let shape = stage_shape var in
      record {
        types = [];
        asked = wants_stage var;
        evaluates = λ deep enough. stage_evaluates whole main local_size rank f knows.sorted s deep (id_for t) var t n.may n.pointee n.room (or_known whole main local_size rank f s p.structs t shape.0 (ap shape_of (sym is) ∙ shape.1) has) n.reads n.stands n.is;
      })

  -- ---- `.length()`

  abbrev low_form : ExprKind-F ExprKind Expr → Ty → Lower
  low_form = simple.low_form whole main local_size rank f s p params locals well knows

  -- nothing is lowered for the length of what has none
  none_lowered : (deep type : ℕ) → E [] deep false type lacking
  none_lowered deep type = record { stays = λ u. tt; flows = λ given u here. tt }

  length_of_member : (block number : ℕ) (t : Ty) (deep : ℕ) → P (Int, 1) (id_for (ty.One Int)) → HasMemberType around block number t → is_runtime_layer (out-Ty t) ≡ true → E [] deep false (id_for (ty.One Int)) (parts.block_length block number)
  length_of_member block number t deep plain member runtime = length_evaluates whole main local_size rank f knows.sorted s deep (id_for (ty.One Int)) block number plain (knows.lengths block number t member runtime)

  -- the length of what stands for a form
  pub length_form : (form : ExprKind-F ExprKind Expr) (t : Ty) (deep : ℕ) → P (Int, 1) (id_for (ty.One Int)) → HasType around form t → is_runtime_layer (out-Ty t) ≡ true → E [] deep false (id_for (ty.One Int)) (low_form form t).length
  length_form (ExprKind-F.BlockMember block number) t deep plain typing runtime = length_of_member block number t deep plain typing runtime
  length_form (ExprKind-F.Const v) t deep plain typing runtime = none_lowered deep (id_for (ty.One Int))
  length_form form t deep plain typing runtime = none_lowered deep (id_for (ty.One Int))

  pub low_typed : (form : ExprKind-F ExprKind Expr) (t : Ty) → (low_form form t).ty ≡ t
  low_typed (ExprKind-F.Const v) t = refl
  low_typed form t = refl

  pub length_here : (a : Expr) (t : Ty) → low a ≡ low_form (form_of a) (type_of a) → HasType around (form_of a) (type_of a) → t ≡ ty.One Int → has_length_kind (out-Ty (type_of a)) ≡ true → Here (ExprKind-F.Length a) t
  length_here a t lowered typing is has_length =
      simple.value_form whole main local_size rank f s p params locals well knows t (expr_depth a) (parts.counted (low a)) (asking.given tt) false false true (traits.valued false false true) refl (λ e. refl)
      (λ has.
      let plain : P (Int, 1) (id_for (ty.One Int)) = subst (λ (u : Ty). P (Int, 1) (id_for u)) is (plain_known whole main local_size rank f s p.structs t (Int, 1) (int_shape t is) has) in
      let of_type : (low a).ty ≡ type_of a = ap (λ (l : Lower). l.ty) lowered ∙ low_typed (form_of a) (type_of a) in
      record {
        types = [];
        asked = wants_given tt;
        evaluates = λ deep enough.
            subst (λ (u : Ty). E [] deep false (id_for u) (parts.counted (low a))) (sym is)
            (counted_evaluates whole main local_size rank f knows.sorted s deep (id_for (ty.One Int)) (low a) plain
            (λ not_fixed. subst (λ (l : Lower). E [] deep false (id_for (ty.One Int)) l.length) (sym lowered)
            (length_form (form_of a) (type_of a) deep plain typing (runtime_by (out-Ty (type_of a)) has_length (ap has_fixed_length (sym of_type) ∙ not_fixed)))));
      })
