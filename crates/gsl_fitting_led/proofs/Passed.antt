-- Calls of functions.
use Rattle.std.proofs.Common.{◌≡◌, ◌≢◌, ℕ, ◌≤◌, Bool, true, false, List, [], ◌∷◌, ◌++◌, map, Option, Some, None, refl, sym, ap, ◌∙◌, subst, zero, suc, inl, inr, ◌⊎◌}
use Rattle.std.specs.Prelude.{◌==◌, nat_eq, slice_get}
use Rattle.std.specs.List.{AllByRecursion}
use Rattle.std.proofs.lemmas.Bool.{and_from, and_parts, eqb-true}
use Rattle.gsl_instr.specs.declared.enumerant.storage_class.TheConstants as storage_class
use Rattle.gsl_types.specs.Conversions.{converts, converts_open, serves}
use Rattle.gsl_types.specs.Known.{is_plain, is_plain_kind}
use Rattle.gsl_types.specs.declared.ty.Direction.{Direction}
use Rattle.gsl_types.specs.declared.ty.Direction.TheVariants.{In, InOut, Out}
use Rattle.gsl_types.specs.declared.ty.Scalar.{Scalar}
use Rattle.gsl_types.specs.declared.ty.Scalar.TheVariants.{Bool as Boolean, Int, Uint}
use Rattle.gsl_types.specs.declared.ty.Ty.{Ty}
use Rattle.gsl_types.specs.declared.ty.Ty.TheOpen.{Ty-F}
use Rattle.gsl_types.specs.declared.ty.Ty.TheVariants as ty
use Rattle.gsl_types.specs.declared.ty.Ty.TheFolds.{fold-roll-Ty, map-Ty}
use Rattle.gsl_types.specs.declared.ty.Ty.TheViews.{out-Ty, roll-out-Ty}
use Rattle.gsl_tree.specs.Around.{Around}
use Rattle.gsl_tree.specs.Expressions.{AreArguments, IsCall, MayBeRead, is_runtime_layer}
use Rattle.gsl_tree.specs.Paths.{going_in, is_unreadable, is_writable, params_at}
use Rattle.gsl_tree.specs.Shapes.{Shape, shape_kind, shape_of}
use Rattle.gsl_tree.specs.Statements.{deepest, expr_depth}
use Rattle.gsl_tree.specs.Trees.{type_of}
use Rattle.gsl_tree.specs.Weights.{params_of}
use Rattle.gsl_tree.specs.WellTyped.{AreWellTyped, IsPrototype, IsVariableType, around_body, program_lists}
use Rattle.gsl_tree.specs.declared.expr.Expr.{Expr}
use Rattle.gsl_tree.specs.declared.expr.ExprKind.{ExprKind}
use Rattle.gsl_tree.specs.declared.expr.ExprKind.TheOpen.{ExprKind-F}
use Rattle.gsl_tree.specs.declared.program.Program.{Program}
use Rattle.gsl_valid.specs.ConstantRules.{is_whole}
use Rattle.gsl_valid.specs.Kinds.{shape_of as shape_in}
use Rattle.gsl_valid.specs.Types.{defined_as, is_value_shape, is_value_type}
use Rattle.gsl_words.specs.declared.module.Module.{Module}
use Rattle.gsl_spv.specs.Sections.{Sections}
use Rattle.gsl_lower_holders.specs.Flow.{Emit, Flow}
use Rattle.gsl_lower_traits.specs.Traits as traits
use Rattle.gsl_lower_traits.specs.Traits.{together}
use Rattle.gsl_lower_expr.specs.Calls.{calling}
use Rattle.gsl_lower_expr.specs.Parts as parts
use Rattle.gsl_lower_expr.specs.Parts.{Lower, scalar_of, shape_or}
use Rattle.gsl_lower_needs.specs.Asking.{behind}
use Rattle.gsl_lower_needs.specs.Needs as needs
use Rattle.gsl_lower_needs.specs.Needs.{Asking, hold_lead, in_holder, passed_both, passed_out, passing_all, reads}
use Rattle.gsl_fitting.specs.Fits.{Frame}
use Rattle.gsl_fitting_types.specs.Making.{IsTypeBy, IsTypeOf, made}
use Rattle.gsl_fitting_types.proofs.Knowing.{scalar_shape, scalar_type_is, vector_type_is}
use Rattle.gsl_fitting_places.proofs.Moves.{moved}
use Rattle.gsl_fitting_flow.specs.Flowing.{IsTypeFor}
use Rattle.gsl_fitting_expr.specs.Evaluating.{IsPlain}
use Rattle.gsl_fitting_reaching.specs.Reached.{asked_of}
use Rattle.gsl_fitting_valued.specs.OfFittingReads.{IsGot, IsPut}
use Rattle.gsl_fitting_valued.specs.OfFittingReads.{held_if}
use Rattle.gsl_fitting_indexes.specs.Indexes.{IsTested}
use Rattle.gsl_fitting_valued.specs.OfFittingPassed.{ArePassed, GoesBack, GoesBackBy, HasZeros, IsCallable, IsDeclared, IsPassed, Way, asked_by_all, types_of}
use Rattle.gsl_fitting_valued.proofs.OfFittingPassed.{call_evaluates}
use Rattle.gsl_fitting_valued.specs.OfFittingKnown.{AllHave, AllHaveIds, LeadsThere, MayCall}
use Rattle.gsl_fitting_valued.specs.OfFittingKnown.{Wants}
use Rattle.gsl_fitting_valued.specs.OfFittingKnown.{Knows}
use Rattle.gsl_fitting_led.proofs.Assigns.{tested}
use Rattle.gsl_fitting_valued.proofs.OfFittingKnown.{by_leaf, got, layer_real, put, shaped_real, wants_reads}
use Rattle.gsl_fitting_valued.proofs.Operands as rows
use Rattle.gsl_fitting_valued.proofs.Operands.{together_splits}
use Rattle.gsl_fitting_valued.proofs.Pairs.{max_left, max_right}
use Rattle.gsl_fitting_led.proofs.Places.{there_of}
use Rattle.gsl_fitting_valued.proofs.Simple as simple
use Rattle.gsl_fitting_valued.proofs.OfFittingKnown.{plain_known, some_is, type_known}
use Rattle.gsl_fitting_valued.proofs.OfFittingKnown.{lead_for, lead_types, types_append, types_if, wants_given, wants_holder, wants_lead, wants_then}

-- what converts has as many components
pub converted_shapes : (a t : Ty) → converts a t ≡ true → (x : Shape) × (y : Shape) × (shape_of a ≡ Some x) × (shape_of t ≡ Some y) × (x.1 ≡ y.1)
converted_shapes a t is = by (out-Ty a) (out-Ty t) refl refl is
  where
    by : (first second : Ty-F Ty) → out-Ty a ≡ first → out-Ty t ≡ second → converts_open first second ≡ true → (x : Shape) × (y : Shape) × (shape_of a ≡ Some x) × (shape_of t ≡ Some y) × (x.1 ≡ y.1)
    by (Ty-F.One k) (Ty-F.One l) p q is = ((k, 1), (l, 1), ap shape_kind p, ap shape_kind q, refl)
    by (Ty-F.Vector k n) (Ty-F.Vector l o) p q is = ((k, n), (l, o), ap shape_kind p, ap shape_kind q, eqb-true n o (and_parts (nat_eq n o) (serves k l) is).0)
    by _ _ p q is = absurd (let z : false ≡ true = is in cc)

module _ (whole : Sections) (main : ℕ) (local_size : List ℕ) (rank : ℕ → ℕ) (f : Frame) (s : Flow) (p : Program) (params : List (Direction × Ty)) (locals : List Ty) (well : AreWellTyped (program_lists p))
    (knows : Knows whole main local_size rank f s p.structs (around_body (program_lists p) params locals)) where
  abbrev Is : Expr → Type 0
  Is = simple.Is whole main local_size rank f s p params locals well knows

  abbrev Has : Ty → Type 0
  Has = simple.Has whole main local_size rank f s p params locals well knows

  abbrev Here : ExprKind-F ExprKind Expr → Ty → Type 0
  Here = simple.Here whole main local_size rank f s p params locals well knows

  abbrev low : Expr → Lower
  low = simple.low whole main local_size rank f s p params locals well knows

  abbrev ask : Expr → Asking
  ask = simple.ask whole main local_size rank f s p params locals well knows

  abbrev id_for : Ty → ℕ
  id_for = simple.id_for whole main local_size rank f s p params locals well knows

  abbrev ids_for : List Ty → List ℕ
  ids_for = simple.ids_for whole main local_size rank f s p params locals well knows

  abbrev E : List ℕ → ℕ → Bool → ℕ → Emit ℕ → Type 0
  E = simple.E whole main local_size rank f s p params locals well knows

  abbrev P : Shape → ℕ → Type 0
  P = simple.P whole main local_size rank f s p params locals well knows

  abbrev around : Around
  around = around_body (program_lists p) params locals

  abbrev m : Module
  m = made whole main local_size rank f

  abbrev There : Expr → Type 0
  There e = LeadsThere whole main local_size rank f s p (is_unreadable around e) (is_writable around e) (type_of e) (expr_depth e) (low e) (ask e)

  -- ---- zeros

  scalar_valued : (k : Scalar) (type : ℕ) → shape_in (defined_as m type) ≡ scalar_shape k → is_value_type m type ≡ true
  scalar_valued Boolean type is = ap is_value_shape is
  scalar_valued Int type is = ap is_value_shape is
  scalar_valued Uint type is = ap is_value_shape is

  plain_valued : (shape : Shape) (type : ℕ) → IsTypeOf whole shape type → is_value_type m type ≡ true
  plain_valued shape type of = by (shape.1 == 1) of
    where
      by : (b : Bool) → IsTypeBy b whole shape type → is_value_type m type ≡ true
      by true is = scalar_valued shape.0 type (scalar_type_is whole main local_size knows.sorted shape.0 type is)
      by false is = ap is_value_shape (vector_type_is whole main local_size knows.sorted is.component shape.1 type is.is)

  plain_whole : (shape : Shape) (type : ℕ) → IsTypeOf whole shape type → is_whole m type ≡ true
  plain_whole shape type of = and_from _ _ (plain_valued shape type of) (moved whole main local_size rank f knows.sorted storage_class.FUNCTION shape type of)

  zeros_of : (t : Ty) → t ≢ ty.Void → Has t → HasZeros whole main local_size rank f s t (id_for t)
  zeros_of t real has = by (shape_of t) refl
    where
      known : IsTypeFor whole main local_size rank f s.place t (id_for t)
      known = type_known whole main local_size rank f s p.structs t real has

      by : (o : Option Shape) → shape_of t ≡ o → HasZeros whole main local_size rank f s t (id_for t)
      by None none = let w = knows.wholes t none known in record { same = known; declared = subst (IsDeclared whole main local_size rank f s (id_for t)) (sym none) w.declared; has_value = w.has_value }
      by (Some shape) is = record { same = known; declared = subst (IsDeclared whole main local_size rank f s (id_for t)) (sym is) tt; has_value = plain_whole shape (id_for t) (plain_known whole main local_size rank f s p.structs t shape is has).of }

  -- ---- arguments

  -- An argument is passed to a parameter of a type, and asks for the holders that it takes.
  record Passes (waits : Bool) (direction : Direction) (t : Ty) (e : Expr) : Type 0 where
    types : List Ty
    way : Way
    asked : Wants (needs.passing waits direction t (ask e)) tt types
    ids : ids_for types ≡ way.asks
    type : way.type ≡ id_for t
    passed : (deep : ℕ) → expr_depth e ≤ deep → IsPassed whole main local_size rank f s deep p.structs waits t (low e) direction way

  goes_in : (waits : Bool) (t : Ty) (e : Expr) → Is e → MayBeRead around e → type_of e ≡ t → Has t → Passes waits In t e
  goes_in waits t e is read of has =
      let g = simple.value_of whole main local_size rank f s p params locals well knows e is read (subst Has (sym of) has) in
      record {
        types = g.types ++ t ∷ [];
        way = record { type = id_for t; asks = ids_for g.types ++ id_for t ∷ []; back = None };
        asked = wants_then (ask e).value (λ x. in_holder t) tt tt g.types (t ∷ []) g.asked (wants_holder t);
        ids = types_append whole s.place g.types (t ∷ []);
        type = refl;
        passed = λ deep enough. IsPassed.goes_in (subst (λ (u : Ty). E (ids_for g.types) deep (low e).traits.splits (id_for u) (low e).value) of (g.evaluates deep enough));
      }

  -- what comes back of a type that is converted to that of the argument
  back_by : (t : Ty) (e : Expr) → Is e → t ≢ ty.Void → Has t → Has (type_of e) → (type_of e ≡ t) ⊎ (converts t (type_of e) ≡ true) → (there : There e) → is_writable around e ≡ true → is_runtime_layer (out-Ty (type_of e)) ≡ false → GoesBack whole main local_size rank f s p.structs t (low e).ty there.spot (id_for t) (id_for (type_of e))
  back_by t e is real has has_e of there writable fixed = record {
    same = type_known whole main local_size rank f s p.structs t real has;
    as_argument = by (shape_of t) refl of;
    stores = there.stores writable;
    put = subst (λ u. IsPut whole main local_size rank f s p.structs u there.spot (id_for (type_of e))) (sym is.typed) (put whole main local_size rank f s p around well.structs knows there.spot there.lead (type_of e) there.agree there.shape there.lies fixed has_e);
  }
    where
      shaped : (shape y : Shape) → shape_of t ≡ Some shape → shape_of (type_of e) ≡ Some y → shape.1 ≡ y.1 → GoesBackBy whole main local_size rank f (low e).ty (id_for t) (id_for (type_of e)) (shape_of t)
      shaped shape y first second count =
          subst (GoesBackBy whole main local_size rank f (low e).ty (id_for t) (id_for (type_of e))) (sym first) (
            plain_known whole main local_size rank f s p.structs t shape first has,
            subst (λ (x : Shape). IsPlain whole main local_size rank f x (id_for (type_of e))) (ap (λ (n : ℕ). (y.0, n)) (sym count) ∙ ap (λ (k : Scalar). (k, shape.1)) (sym (ap (λ (x : Shape). x.0) (simple.low_shape whole main local_size rank f s p params locals well knows e is y second))))
                (plain_known whole main local_size rank f s p.structs (type_of e) y second has_e),
          )

      by : (o : Option Shape) → shape_of t ≡ o → (type_of e ≡ t) ⊎ (converts t (type_of e) ≡ true) → GoesBackBy whole main local_size rank f (low e).ty (id_for t) (id_for (type_of e)) (shape_of t)
      by (Some shape) first (inl same) = shaped shape shape first (ap shape_of same ∙ first) refl
      by None none (inl same) = subst (GoesBackBy whole main local_size rank f (low e).ty (id_for t) (id_for (type_of e))) (sym none) (ap id_for same)
      by o first (inr converted) = let c = converted_shapes t (type_of e) converted in shaped c.0 c.1 c.2 c.3 c.4

  comes_out : (waits : Bool) (t : Ty) (e : Expr) → Is e → t ≢ ty.Void → type_of e ≢ ty.Void → is_runtime_layer (out-Ty (type_of e)) ≡ false → Has t → Has (type_of e) → (type_of e ≡ t) ⊎ (converts t (type_of e) ≡ true) → is_writable around e ≡ true → Passes waits Out t e
  unfolding passed_out
  comes_out waits t e is real real_e fixed has has_e of writable =
      let there = there_of whole main local_size rank f s p params locals well knows e is real_e (λ v. has_e) in
      let tests : IsTested whole main local_size rank f p.structs (low e).ty there.spot true =
      subst (λ u. IsTested whole main local_size rank f p.structs u there.spot true) (sym is.typed) (tested whole main local_size rank f s p params locals well knows there.spot (type_of e) true there.shape there.reads_loose there.lies (λ none calls. there.rooted writable)) in
      record {
        types = there.types ++ (lead_types waits there.lead ++ t ∷ []);
        way = record { type = id_for t; asks = ids_for there.types ++ (held_if waits (asked_of whole there.spot) ++ id_for t ∷ []); back = Some (there.spot, id_for (type_of e)) };
        asked = wants_then (ask e).reach (passed_out waits t) there.lead tt there.types (lead_types waits there.lead ++ t ∷ []) there.asked (out_asked there);
        ids = types_append whole s.place there.types (lead_types waits there.lead ++ t ∷ []) ∙ ap (λ l. ids_for there.types ++ l) (types_append whole s.place (lead_types waits there.lead) (t ∷ []) ∙ ap (λ l. l ++ id_for t ∷ []) (lead_for whole s.place waits there.spot there.lead there.agree));
        type = refl;
        passed = λ deep enough. IsPassed.comes_out (there.reaches deep enough) tests (zeros_of t real has) (back_by t e is real has has_e of there writable fixed);
      }
    where
      out_asked : (there : There e) → Wants (passed_out waits t there.lead) tt (lead_types waits there.lead ++ t ∷ [])
      out_asked there = wants_then (hold_lead waits there.lead) (λ done. in_holder t) tt tt (lead_types waits there.lead) (t ∷ []) (wants_lead waits there.lead) (wants_holder t)

  goes_both : (waits : Bool) (t : Ty) (e : Expr) → Is e → MayBeRead around e → t ≢ ty.Void → type_of e ≡ t → Has t → is_writable around e ≡ true → Passes waits InOut t e
  unfolding passed_out passed_both
  goes_both waits t e is read real of has writable =
      let has_e = subst Has (sym of) has in
      let there = there_of whole main local_size rank f s p params locals well knows e is (subst (λ u. u ≢ ty.Void) (sym of) real) (λ v. has_e) in
      let fixed = simple.is_false (is_runtime_layer (out-Ty (type_of e))) read.1 in
      let more = types_if (by_leaf whole main local_size rank f s p around well.structs knows (type_of e) there.lead) (type_of e) in
      let got_there : IsGot whole main local_size rank f s p.structs (low e).ty there.spot (id_for t) (ids_for more) =
      subst (λ (u : Ty). IsGot whole main local_size rank f s p.structs u there.spot (id_for t) (ids_for more)) (sym is.typed) (subst (λ (u : Ty). IsGot whole main local_size rank f s p.structs (type_of e) there.spot (id_for u) (ids_for more)) of
      (got whole main local_size rank f s p around well.structs knows there.spot there.lead (type_of e) there.agree there.shape there.lies fixed has_e)) in
      record {
        types = there.types ++ (more ++ (lead_types waits there.lead ++ t ∷ []));
        way = record { type = id_for t; asks = ids_for there.types ++ (ids_for more ++ (held_if waits (asked_of whole there.spot) ++ id_for t ∷ [])); back = Some (there.spot, id_for (type_of e)) };
        asked = subst (λ (u : Ty). Wants (λ before. behind ((ask e).reach before) (passed_both waits t u)) tt (there.types ++ (more ++ (lead_types waits there.lead ++ t ∷ [])))) (sym is.asks_typed)
            (wants_then (ask e).reach (passed_both waits t (type_of e)) there.lead tt there.types (more ++ (lead_types waits there.lead ++ t ∷ [])) there.asked (both_asked there));
        ids = types_append whole s.place there.types (more ++ (lead_types waits there.lead ++ t ∷ [])) ∙ ap (λ l. ids_for there.types ++ l) (types_append whole s.place more (lead_types waits there.lead ++ t ∷ []) ∙ ap (λ l. ids_for more ++ l)
            (types_append whole s.place (lead_types waits there.lead) (t ∷ []) ∙ ap (λ l. l ++ id_for t ∷ []) (lead_for whole s.place waits there.spot there.lead there.agree)));
        type = refl;
        passed = λ deep enough. IsPassed.goes_both (there.reaches deep enough) got_there (there.reads (simple.is_false (is_unreadable around e) read.0)) (back_by t e is real has has_e (inl of) there writable fixed);
      }
    where
      out_asked : (there : There e) → Wants (passed_out waits t there.lead) tt (lead_types waits there.lead ++ t ∷ [])
      out_asked there = wants_then (hold_lead waits there.lead) (λ done. in_holder t) tt tt (lead_types waits there.lead) (t ∷ []) (wants_lead waits there.lead) (wants_holder t)

      both_asked : (there : There e) → Wants (passed_both waits t (type_of e) there.lead) tt (types_if (by_leaf whole main local_size rank f s p around well.structs knows (type_of e) there.lead) (type_of e) ++ (lead_types waits there.lead ++ t ∷ []))
      both_asked there = wants_then (reads (type_of e) there.lead) (λ x. passed_out waits t there.lead) tt tt (types_if (by_leaf whole main local_size rank f s p around well.structs knows (type_of e) there.lead) (type_of e)) (lead_types waits there.lead ++ t ∷ []) (wants_reads (type_of e) there.lead) (out_asked there)

  -- ---- all arguments

  abbrev AllAre : List Expr → Type 0
  AllAre = simple.AllAre whole main local_size rank f s p params locals well knows

  abbrev types_in_params : List (Direction × Ty) → List Ty
  types_in_params list = map (λ (param : Direction × Ty). param.1) list

  record AllPass (es : List Expr) (list : List (Direction × Ty)) : Type 0 where
    types : List Ty
    ways : List Way
    asked : Wants (passing_all (map ask es) list) tt types
    ids : ids_for types ≡ asked_by_all ways
    are : types_of ways ≡ ids_for (types_in_params list)
    passed : (deep : ℕ) → deepest (map expr_depth es) ≤ deep → ArePassed whole main local_size rank f s deep p.structs (map low es) list ways

  together_pass : (e : Expr) (es : List Expr) (direction : Direction) (t : Ty) (list : List (Direction × Ty)) → AllAre es → Passes (parts.any_splits (map low es)) direction t e → AllPass es list → AllPass (e ∷ es) ((direction, t) ∷ list)
  unfolding passing_all
  together_pass e es direction t list all one rest = record {
    types = one.types ++ rest.types;
    ways = one.way ∷ rest.ways;
    asked = put_asked;
    ids = types_append whole s.place one.types rest.types ∙ ap (λ l. l ++ ids_for rest.types) one.ids ∙ ap (λ l. one.way.asks ++ l) rest.ids;
    are = ap (λ x. x ∷ types_of rest.ways) one.type ∙ ap (λ l. id_for t ∷ l) rest.are;
    passed = λ deep enough. ArePassed.one_more (one.passed deep (max_left (expr_depth e) (deepest (map expr_depth es)) deep enough)) (rest.passed deep (max_right (expr_depth e) (deepest (map expr_depth es)) deep enough));
  }
    where
      put_asked : Wants (passing_all (map ask (e ∷ es)) ((direction, t) ∷ list)) tt (one.types ++ rest.types)
      put_asked =
          subst (λ (b : Bool). Wants (λ before. behind (needs.passing b direction t (ask e) before) (λ done. passing_all (map ask es) list)) tt (one.types ++ rest.types)) (sym (rows.splits_same whole main local_size rank f s p params locals well knows es all))
          (wants_then (needs.passing (parts.any_splits (map low es)) direction t (ask e)) (λ done. passing_all (map ask es) list) tt tt one.types rest.types one.asked rest.asked)

  plain_fixed : (t : Ty) → is_plain t ≡ true → (t ≢ ty.Void) × (is_runtime_layer (out-Ty t) ≡ false)
  plain_fixed t is = by (out-Ty t) refl (sym (fold-roll-Ty Bool is_plain_kind (out-Ty t)) ∙ ap is_plain (roll-out-Ty t) ∙ is)
    where
      by : (of : Ty-F Ty) → out-Ty t ≡ of → is_plain_kind (map-Ty Ty Bool is_plain (out-Ty t)) ≡ true → (t ≢ ty.Void) × (is_runtime_layer (out-Ty t) ≡ false)
      by Ty-F.Void e is = absurd (let z : false ≡ true = sym (ap (λ x. is_plain_kind (map-Ty Ty Bool is_plain x)) e) ∙ is in cc)
      by (Ty-F.Runtime a) e is = absurd (let z : false ≡ true = sym (ap (λ x. is_plain_kind (map-Ty Ty Bool is_plain x)) e) ∙ is in cc)
      by (Ty-F.One k) e is = (layer_real t (Ty-F.One k) e refl, ap is_runtime_layer e)
      by (Ty-F.Vector k n) e is = (layer_real t (Ty-F.Vector k n) e refl, ap is_runtime_layer e)
      by (Ty-F.Array a n) e is = (layer_real t (Ty-F.Array a n) e refl, ap is_runtime_layer e)
      by (Ty-F.Struct k) e is = (layer_real t (Ty-F.Struct k) e refl, ap is_runtime_layer e)

  shaped_fixed : (t : Ty) (shape : Shape) → shape_of t ≡ Some shape → is_runtime_layer (out-Ty t) ≡ false
  shaped_fixed t shape is = by (out-Ty t) is
    where
      by : (of : Ty-F Ty) → shape_kind of ≡ Some shape → is_runtime_layer of ≡ false
      by (Ty-F.One k) is = refl
      by (Ty-F.Vector k n) is = refl
      by Ty-F.Void is = refl
      by (Ty-F.Array a n) is = refl
      by (Ty-F.Struct k) is = refl
      by (Ty-F.Runtime a) is = absurd (let z : None ≡ Some shape = is in cc)

  out_real : (e : Expr) (t : Ty) → is_plain t ≡ true → (type_of e ≡ t) ⊎ (converts t (type_of e) ≡ true) → (type_of e ≢ ty.Void) × (is_runtime_layer (out-Ty (type_of e)) ≡ false)
  out_real e t is (inl same) = plain_fixed (type_of e) (ap is_plain same ∙ is)
  out_real e t is (inr converted) = let c = converted_shapes t (type_of e) converted in (shaped_real (type_of e) c.1 c.3, shaped_fixed (type_of e) c.1 c.3)

  all_pass : (es : List Expr) (list : List (Direction × Ty)) → AllAre es → AllByRecursion (MayBeRead around) (going_in list es) → AreArguments around list es → AllHaveIds whole main local_size rank f s p es → AllHave whole main local_size rank f s p list → AllByRecursion (λ (param : Direction × Ty). IsVariableType p.structs param.1) list → AllPass es list
  unfolding passing_all
  all_pass [] [] all reads are has has_list kinds = record { types = []; ways = []; asked = none_asked; ids = refl; are = refl; passed = λ deep enough. ArePassed.no_more }
    where
      none_asked : Wants (passing_all [] []) tt []
      none_asked = wants_given tt
  all_pass [] (param ∷ list) all reads are has has_list kinds = absurd are
  all_pass (e ∷ es) [] all reads are has has_list kinds = absurd are
  all_pass (e ∷ es) ((In, t) ∷ list) all reads are has has_list kinds =
      together_pass e es In t list all.1 (goes_in (parts.any_splits (map low es)) t e all.0 reads.0 are.0 has_list.0) (all_pass es list all.1 reads.1 are.1 has.1 has_list.1 kinds.1)
  all_pass (e ∷ es) ((Out, t) ∷ list) all reads are has has_list kinds =
      let real = out_real e t kinds.0.plain are.0.0 in
      together_pass e es Out t list all.1 (comes_out (parts.any_splits (map low es)) t e all.0 (plain_fixed t kinds.0.plain).0 real.0 real.1 has_list.0 has.0 are.0.0 are.0.1) (all_pass es list all.1 reads are.1 has.1 has_list.1 kinds.1)
  all_pass (e ∷ es) ((InOut, t) ∷ list) all reads are has has_list kinds =
      together_pass e es InOut t list all.1 (goes_both (parts.any_splits (map low es)) t e all.0 reads.0 (plain_fixed t kinds.0.plain).0 are.0.0 has_list.0 are.0.1) (all_pass es list all.1 reads.1 are.1 has.1 has_list.1 kinds.1)

  -- ---- calls

  at_number : {A : Type 0} (Q : A → Type 0) (items : List A) (number : ℕ) (item : A) → AllByRecursion Q items → slice_get items number ≡ Some item → Q item
  at_number Q [] number item all is = absurd (let z : None ≡ Some item = is in cc)
  at_number Q (one ∷ items) zero item all is = subst Q (some_is one item is) all.0
  at_number Q (one ∷ items) (suc number) item all is = at_number Q items number item all.1 is

  pub call_here : (number : ℕ) (es : List Expr) (t : Ty) → AllAre es → AllByRecursion (MayBeRead around) (going_in (params_at (slice_get p.prototypes number)) es) → IsCall around number es t → AllHaveIds whole main local_size rank f s p es → AllHave whole main local_size rank f s p (params_of (slice_get p.prototypes number))
      → MayCall whole main local_size rank f s p number t → Here (ExprKind-F.Call number es) t
  call_here number es t all reads (head, found, gives, are) has has_list may =
      let known = together (map parts.known_of (map low es)) in
      let list = head.params in
      let same : params_of (slice_get p.prototypes number) ≡ list = ap params_of found in
      let kinds = (at_number (IsPrototype p.structs) p.prototypes number head well.prototypes found).params in
      let pass = all_pass es list all (subst (λ o. AllByRecursion (MayBeRead around) (going_in (params_at o) es)) found reads) are has (subst (AllHave whole main local_size rank f s p) same has_list) kinds in
      simple.value_form whole main local_size rank f s p params locals well knows t (deepest (map expr_depth es)) (calling p.structs p.prototypes number (map low es) t) (passing_all (map ask es) (params_of (slice_get p.prototypes number))) known.splits true false
      (traits.called (together (map needs.known_of (map ask es)))) (ap (λ ks. traits.called (together ks)) (rows.known_same whole main local_size rank f s p params locals well knows es all)) (λ e. absurd (let z : false ≡ true = e in cc))
      (λ has_t. record {
        types = pass.types;
        asked = subst (λ l. Wants (passing_all (map ask es) l) tt pass.types) (sym same) pass.asked;
        evaluates = λ deep enough.
            subst (λ (l : List ℕ). E l deep known.splits (id_for t) (calling p.structs p.prototypes number (map low es) t)) (sym pass.ids)
            (subst (λ (c : Bool). E (asked_by_all pass.ways) deep c (id_for t) (calling p.structs p.prototypes number (map low es) t)) (sym (together_splits (traits.valued false false true) (map low es)))
            (call_evaluates whole main local_size rank f knows.sorted s deep p.structs p.prototypes number (map low es) pass.ways t (id_for t) knows.functions_own knows.apart (subst (λ l. ArePassed whole main local_size rank f s deep p.structs (map low es) l pass.ways) (sym same) (pass.passed deep enough)) has_t
            (λ id at. subst (λ l. IsCallable whole main local_size rank f (id_for t) l id) (ap (λ l. ids_for (types_in_params l)) same ∙ sym pass.are) (may id at))));
      })
