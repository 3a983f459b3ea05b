-- Zeros of a type, and the type of what a function gives.
use Rattle.std.proofs.Common.{◌≡◌, ℕ, ◌+◌, true, false, List, [], Option, Some, None, refl, sym, ap, ◌∙◌, subst}
use Rattle.std.specs.List.{Contains}
use Rattle.std.proofs.lemmas.Bool.{and_from}
use Rattle.gsl_instr.specs.Forms.{form_of}
use Rattle.gsl_types.specs.declared.ty.Ty.{Ty}
use Rattle.gsl_types.specs.declared.ty.Ty.TheOpen.{Ty-F}
use Rattle.gsl_types.specs.declared.ty.Ty.TheViews.{out-Ty}
use Rattle.gsl_tree.specs.Shapes.{Shape, shape_of}
use Rattle.gsl_words.specs.declared.module.Module.{Module}
use Rattle.gsl_valid.specs.ConstantRules.{is_whole}
use Rattle.gsl_valid.specs.Kinds.{type_of}
use Rattle.gsl_spv.specs.Calls as call
use Rattle.gsl_spv.specs.Declarations as d
use Rattle.gsl_spv.specs.Declarations.{defining}
use Rattle.gsl_spv.specs.Growing.{Extends}
use Rattle.gsl_spv.specs.Sections.{Sections}
use Rattle.gsl_spv.specs.declared.plain.PlainConst.TheVariants as of
use Rattle.gsl_spv.specs.declared.plain.PlainType.TheVariants as plain
use Rattle.gsl_spv.proofs.Answering.{constant_once, plain_once}
use Rattle.gsl_spv.proofs.Lasting.{ids_last}
use Rattle.gsl_lower_values.specs.Building.{id_by}
use Rattle.gsl_lower_values.specs.Types as types
use Rattle.gsl_lower_holders.specs.Flow.{Emit, Flow, id_at, lift, type_by, type_id}
use Rattle.gsl_lower_expr.specs.Calls.{result_by, result_type, zeros}
use Rattle.gsl_fitting.specs.Fits.{Frame}
use Rattle.gsl_fitting_steps.specs.Keeping.{MayDeclare}
use Rattle.gsl_fitting_types.specs.Making.{AreSorted, Comes, IsTypeOf, Sorts, made}
use Rattle.gsl_fitting_types.proofs.Anew.{plain_first}
use Rattle.gsl_fitting_types.proofs.Knowing.{contains_later, defined_at, found_stands, global_is, global_outside, has_in, one_type, outside_known, some_is, type_later}
use Rattle.gsl_fitting_types.proofs.Sorting.{intern_sorts}
use Rattle.gsl_fitting_types.proofs.Stepping.{intern_comes}
use Rattle.gsl_fitting_types.proofs.Types.{plain_sorts, type_comes}
use Rattle.gsl_fitting_places.specs.Leading.{IsValueType}
use Rattle.gsl_fitting_places.proofs.Chains.{held_later, held_type}
use Rattle.gsl_fitting_flow.specs.Flowing.{EmitStays, Flows, GivesOf, IsLater, IsOf, IsTypeFor, IsTypeIn}
use Rattle.gsl_fitting_flow.proofs.Following.{emit_then, flows_so, flows_then, given_flows, lift_flows, lift_stays}
use Rattle.gsl_fitting_flow.proofs.Holding.{type_flows, type_on, type_stays}
use Rattle.gsl_fitting_passed.specs.Arguments.{HasZeros, IsDeclared, IsResult, IsResultBy}

-- ---- what stays

null_sorts : (type : ℕ) (s : Sections) → Sorts s (id_by (call.constant (of.Null type)) s)
unfolding form_of
null_sorts type s = intern_sorts (d.null type) s (record { is = λ id. refl; named = λ id. refl })

abbrev null_of : ℕ → Emit ℕ
null_of type = lift (id_by (call.constant (of.Null type)))

null_stays : (type : ℕ) (u : Flow) → EmitStays u (null_of type u)
null_stays type u = lift_stays u (id_by (call.constant (of.Null type)) u.sections) (null_sorts type u.sections)

pub zeros_stay : (t : Ty) (u : Flow) → EmitStays u (zeros t u)
unfolding zeros
zeros_stay t u = emit_then u (type_id t u) null_of (type_stays t u) (λ type v. null_stays type v)

pub result_stays : (t : Ty) (u : Flow) → EmitStays u (result_type t u)
unfolding result_type
result_stays t u = by (out-Ty t)
  where
    by : (layer : Ty-F Ty) → EmitStays u (result_by t layer u)
    by Ty-F.Void = lift_stays u (id_by (call.plain_type plain.Void) u.sections) (plain_sorts plain.Void u.sections)
    by (Ty-F.One s) = type_stays t u
    by (Ty-F.Vector s n) = type_stays t u
    by (Ty-F.Array element n) = type_stays t u
    by (Ty-F.Runtime element) = type_stays t u
    by (Ty-F.Struct number) = type_stays t u

module _ (whole : Sections) (main : ℕ) (local_size : List ℕ) (rank : ℕ → ℕ) (f : Frame) (sorted : AreSorted whole) where
  abbrev m : Module
  m = made whole main local_size rank f

  -- ---- zeros

  null_may : (type : ℕ) (before : Sections) → is_whole m type ≡ true → IsValueType before type → MayDeclare m (d.null type) before
  unfolding form_of
  null_may type before has held = record {
    defines = λ id. refl;
    declares = λ none. record {
      is = refl;
      numbers = refl;
      uses = and_from _ _ (defined_at before.globals held.i type held.stands held.named) refl;
      made = refl;
      fixed = has;
      holds = refl;
      marked = refl;
      laid = refl;
      limits = refl;
    };
  }

  null_comes : (given : List ℕ) (type : ℕ) (before : Sections) → is_whole m type ≡ true → IsValueType before type → Comes whole main local_size rank f given (λ id now after. IsOf whole main local_size rank f now type id) before (id_by (call.constant (of.Null type)) before)
  unfolding form_of
  null_comes given type before has held =
      intern_comes whole main local_size rank f given (λ id now after. IsOf whole main local_size rank f now type id) (d.null type) before (constant_once (of.Null type) 0) (λ inside. null_may type before has held)
      (λ id after extends inside found. let there : Contains whole.globals (defining (d.null type) id) = contains_later after whole (defining (d.null type) id) inside (found_stands (d.null type) after id (constant_once (of.Null type) 0) found) in
      record {
        typed = ap type_of (global_is whole main local_size sorted (defining (d.null type) id) id there refl);
        known = outside_known whole main local_size sorted f given id (global_outside whole main local_size sorted (defining (d.null type) id) id there refl);
      })

  -- a type, which is declared
  held_flows : (s : Flow) (deep : ℕ) (given : List ℕ) (t : Ty) (type : ℕ) (u : Flow) → IsLater s u → IsTypeFor whole main local_size rank f s.place t type → IsDeclared whole main local_size rank f s type (shape_of t)
      → Flows whole main local_size rank f [] deep false given (λ id now after. (id ≡ type) × IsValueType after.sections type) u (type_id t u)
  unfolding type_id
  held_flows s deep given t type u here same declared = by (shape_of t) (type_on whole main local_size rank f sorted s u t type here same) declared
    where
      by : (o : Option Shape) → IsTypeIn whole main local_size rank f u.place t type o → IsDeclared whole main local_size rank f s type o → Flows whole main local_size rank f [] deep false given (λ id now after. (id ≡ type) × IsValueType after.sections type) u (type_by t o u)
      by None e held =
          subst (λ o. Flows whole main local_size rank f [] deep false given (λ id now after. (id ≡ type) × IsValueType after.sections type) u (id_at o u)) (sym e)
          (given_flows whole main local_size rank f deep given (λ id now after. (id ≡ type) × IsValueType after.sections type) type u (λ inside. (refl, held_later s.sections u.sections type here.sections held)))
      by (Some shape) is held =
          flows_so whole main local_size rank f [] deep false given (λ id now after. IsTypeOf after.sections shape id) (λ id now after. (id ≡ type) × IsValueType after.sections type) u (lift (types.type_of shape) u)
          (λ id now after inside wider there. let e = one_type whole shape id type (type_later after.sections whole shape id inside there) is.1 in (e, subst (IsValueType after.sections) e (held_type after.sections shape id there)))
          (lift_flows whole main local_size rank f deep given (λ id now after. IsTypeOf after shape id) u (types.type_of shape u.sections) (type_comes whole main local_size rank f sorted given shape u.sections is.0))

  pub zeros_flow : (s : Flow) (deep : ℕ) (given : List ℕ) (t : Ty) (type : ℕ) (u : Flow) → IsLater s u → HasZeros whole main local_size rank f s t type → Flows whole main local_size rank f [] deep false given (GivesOf whole main local_size rank f type) u (zeros t u)
  unfolding zeros
  zeros_flow s deep given t type u here has =
      flows_then whole main local_size rank f [] [] deep false false given (λ id now after. (id ≡ type) × IsValueType after.sections type) (GivesOf whole main local_size rank f type) u (type_id t u) null_of (type_stays t u) (held_flows s deep given t type u here has.same has.declared) (λ type v. null_stays type v)
      (λ id v now is wider stays inside. subst (λ z. Flows whole main local_size rank f [] deep false now (GivesOf whole main local_size rank f type) v (null_of z v)) (sym is.0)
      (lift_flows whole main local_size rank f deep now (λ id now after. IsOf whole main local_size rank f now type id) v (id_by (call.constant (of.Null type)) v.sections) (null_comes now type v.sections has.has_value is.1)))

  -- ---- what a function gives

  void_may : (before : Sections) → Extends before whole → MayDeclare m (d.plain_type plain.Void) before
  unfolding form_of
  void_may before inside = record {
    defines = λ id. refl;
    declares = λ none. record {
      is = refl;
      numbers = refl;
      uses = refl;
      made = plain_first plain.Void before.globals (before.last + 1) (λ j has. has_in whole main local_size sorted before j inside has) none;
      fixed = refl;
      holds = refl;
      marked = refl;
      laid = refl;
      limits = refl;
    };
  }

  pub result_flows : (s : Flow) (deep : ℕ) (given : List ℕ) (t : Ty) (type : ℕ) (u : Flow) → IsLater s u → IsResult whole main local_size rank f s t type → Flows whole main local_size rank f [] deep false given (λ id now after. id ≡ type) u (result_type t u)
  unfolding result_type
  result_flows s deep given t type u here is = by (out-Ty t) is.is
    where
      other : IsTypeFor whole main local_size rank f s.place t type → Flows whole main local_size rank f [] deep false given (λ id now after. id ≡ type) u (type_id t u)
      other same = type_flows whole main local_size rank f sorted deep given t type u (type_on whole main local_size rank f sorted s u t type here same)

      by : (layer : Ty-F Ty) → IsResultBy whole main local_size rank f s t type layer → Flows whole main local_size rank f [] deep false given (λ id now after. id ≡ type) u (result_by t layer u)
      by Ty-F.Void e =
          lift_flows whole main local_size rank f deep given (λ id now after. id ≡ type) u (id_by (call.plain_type plain.Void) u.sections)
          (intern_comes whole main local_size rank f given (λ id now after. id ≡ type) (d.plain_type plain.Void) u.sections (plain_once plain.Void) (λ inside. void_may u.sections inside)
          (λ id after extends inside found. some_is id type (sym (ids_last after whole (d.plain_type plain.Void) id inside found) ∙ e)))
      by (Ty-F.One s) same = other same
      by (Ty-F.Vector s n) same = other same
      by (Ty-F.Array element n) same = other same
      by (Ty-F.Runtime element) same = other same
      by (Ty-F.Struct number) same = other same
