-- Arguments of well typed calls, and what these give.
use Rattle.std.proofs.Common.{◌≡◌, ◌≢◌, refl, sym, ap, ◌∙◌, subst, inl, inr, ◌⊎◌, ℕ, Bool, true, false, IsTrue, List, [], ◌∷◌, length, map, slice_get, Option, Some, None}
use Rattle.std.specs.Prelude.{unwrap_or}
use Rattle.std.specs.List.{AllByRecursion}
use Rattle.gsl_base.specs.declared.input.Input.{Input}
use Rattle.gsl_types.specs.Conversions.{converts, converts_open}
use Rattle.gsl_types.specs.Known.{IsSound, is_plain, is_plain_kind}
use Rattle.gsl_types.specs.declared.ty.Direction.{Direction}
use Rattle.gsl_types.specs.declared.ty.Direction.TheVariants.{In, Out, InOut}
use Rattle.gsl_types.specs.declared.ty.Scalar.{Scalar}
use Rattle.gsl_types.specs.declared.ty.Scalar.TheVariants.{Int}
use Rattle.gsl_types.specs.declared.ty.Ty.{Ty}
use Rattle.gsl_types.specs.declared.ty.Ty.TheFolds.{fold-roll-Ty}
use Rattle.gsl_types.specs.declared.ty.Ty.TheOpen.{Ty-F}
use Rattle.gsl_types.specs.declared.ty.Ty.TheVariants as ty
use Rattle.gsl_types.specs.declared.ty.Ty.TheViews.{out-Ty, roll-Ty, roll-out-Ty}
use Rattle.gsl_words.specs.declared.module.Module.{Module}
use Rattle.gsl_values.specs.declared.value.Value.{Value}
use Rattle.gsl_tree.specs.Around.{Around}
use Rattle.gsl_tree.specs.Expressions.{AreArguments, HasType, IsArgument, IsCall, IsNode, is_runtime_layer}
use Rattle.gsl_tree.specs.Paths.{is_writable}
use Rattle.gsl_tree.specs.Shapes.{Shape, shape_kind, shape_of}
use Rattle.gsl_tree.specs.Trees.{form_of, type_of}
use Rattle.gsl_tree.specs.Values.{is_value_of, zero_value}
use Rattle.gsl_tree.specs.Weights.{params_of}
use Rattle.gsl_tree.specs.WellTyped.{IsPrototype, IsVariableType, around_body, program_lists}
use Rattle.gsl_tree.specs.declared.expr.Expr.{Expr}
use Rattle.gsl_tree.specs.declared.expr.ExprKind.TheOpen.{ExprKind-F}
use Rattle.gsl_tree.specs.declared.expr.StageVar.{StageVar}
use Rattle.gsl_tree.specs.declared.program.Program.{Program}
use Rattle.gsl_tree.specs.declared.unit.Prototype.{Prototype}
use Rattle.gsl_typed_law.proofs.Conversions.{converted_same}
use Rattle.gsl_typed_law.proofs.Zeros.{declared_plain, zero_typed}
use Rattle.gsl_meaning.specs.Expressions as meaning
use Rattle.gsl_meaning.specs.Expressions.{Calls, Meant}
use Rattle.gsl_spv.specs.Sections.{Sections}
use Rattle.gsl_lower_holders.specs.Flow.{Emit}
use Rattle.gsl_lower_holders.specs.declared.place.FlowPlace.{FlowPlace}
use Rattle.gsl_lower_law.specs.Operands.{converted_value}
use Rattle.gsl_lower_expr.specs.Calls.{calling}
use Rattle.gsl_lower_expr.specs.Lowering as lowering
use Rattle.gsl_lower_expr.specs.Parts.{Lower, scalar_of}
use Rattle.gsl_lower_follows.specs.Frames.{Frame}
use Rattle.gsl_lower_follows.specs.Giving.{GivesValue}
use Rattle.gsl_lower_law_expr.proofs.Shapes.{value_shape}
use Rattle.gsl_lower_law_names.proofs.Reading.{value_as_it_is}
use Rattle.gsl_lower_law_returns.specs.Calling.{AreAlike}
use Rattle.gsl_lower_law_entered.specs.Modules.{IsFrame}
use Rattle.gsl_lower_law_passed.specs.OfLawFunctions.{FunctionDoes}
use Rattle.gsl_lower_law_passed.specs.OfLawGathered.{HasValues}
use Rattle.gsl_lower_law_passed.specs.Arguments.{AllServe, ComesBack, GoesIn, HasZeros, KnowsWhole, Serves}
use Rattle.gsl_lower_law_passed.proofs.Calls.{call_passes}
use Rattle.gsl_lower_law_zeros.proofs.Given.{zeros_given}
use Rattle.gsl_lower_reaching.specs.Reaching.{GivesPlace}
use Rattle.gsl_lower_used.specs.Lowered.{passed as passed_args}
use Rattle.gsl_lower_law_evaluated.specs.Evaluating.{AllEvaluated, HasValue, IsEvaluated, IsReadWhole, IsTyped, KnowsWhereStored, lowered_in, meant_in}
use Rattle.gsl_lower_law_evaluated.proofs.Facts.{at_place, plain_real, shaped_real}
use Rattle.gsl_lower_law_evaluated.proofs.Whole.{call_has_value}
use Rattle.gsl_lower_law_shader.specs.Depths.{ArePassed, IsPassedBy}
use Rattle.gsl_lower_law_shader.specs.Typed.{KnowsTypes}

-- ---- types

plain_layer : (layer : Ty-F Ty) → is_runtime_layer layer ≡ true → (k : Ty) × (layer ≡ Ty-F.Runtime k)
plain_layer (Ty-F.Runtime k) is = (k, refl)
plain_layer _ is = absurd (let z : false ≡ true = is in cc)

plain_read : (t : Ty) → IsTrue (is_plain t) → is_runtime_layer (out-Ty t) ≡ false
plain_read t is = by (is_runtime_layer (out-Ty t)) refl
  where
    by : (b : Bool) → is_runtime_layer (out-Ty t) ≡ b → is_runtime_layer (out-Ty t) ≡ false
    by false e = e
    by true e =
        let k = plain_layer (out-Ty t) e in
        absurd (let z : true ≡ false = sym is ∙ ap is_plain (sym (roll-out-Ty t) ∙ ap roll-Ty k.1) ∙ fold-roll-Ty Bool is_plain_kind (Ty-F.Runtime k.0) in cc)

-- what converts implicitly has components on both sides
converted_shape : (a t : Ty) → IsTrue (converts a t) → (shape : Shape) × (shape_of t ≡ Some shape)
converted_shape a t is = by (out-Ty a) (out-Ty t) refl is
  where
    by : (x y : Ty-F Ty) → out-Ty t ≡ y → converts_open x y ≡ true → (shape : Shape) × (shape_of t ≡ Some shape)
    by (Ty-F.One s) (Ty-F.One u) e is = ((u, 1), ap shape_kind e)
    by (Ty-F.Vector s n) (Ty-F.Vector u k) e is = ((u, k), ap shape_kind e)
    by _ _ e is = absurd (let z : false ≡ true = is in cc)

-- A value of a parameter's type is one of another type: that of the argument to which it comes back.
record Back (p : Program) (t u : Ty) : Type 0 where
  real : u ≢ ty.Void
  fits : (v : Value) → is_value_of p.structs t v ≡ true → is_value_of p.structs u v ≡ true
  shaped : (shape : Shape) → shape_of t ≡ Some shape → (other : Shape) × (shape_of u ≡ Some other)

back_of : (p : Program) (t u : Ty) → IsVariableType p.structs t → (u ≡ t) ⊎ IsTrue (converts t u) → Back p t u
back_of p t u is (inl same) = record {
  real = λ none. plain_real t is.plain (sym same ∙ none);
  fits = λ v fits. subst (λ x. is_value_of p.structs x v ≡ true) (sym same) fits;
  shaped = λ shape has. (shape, ap shape_of same ∙ has);
}
back_of p t u is (inr converts) =
    let to = converted_shape t u converts in
    record {
      real = shaped_real u to.0 to.1;
      fits = λ v fits. sym (converted_same p.structs t u v converts) ∙ fits;
      shaped = λ shape has. to;
    }

module _ (m : Module) (input : Input) (whole : Sections) (f : Frame m input whole) (p : Program) (params : List (Direction × Ty)) (locals : List Ty) (stage : StageVar → Value) (calls : Calls) (types : IsTyped p params locals) (knows : KnowsTypes m input whole f p) where
  abbrev around : Around
  around = around_body (program_lists p) params locals

  abbrev setting : meaning.Setting
  setting = meant_in p stage calls

  abbrev call : ℕ → List Lower → Ty → Emit ℕ
  call = calling p.structs p.prototypes

  abbrev low : Expr → Lower
  low = lowering.lowers (lowered_in p call)

  abbrev means : Expr → Meant
  means = meaning.means setting

  abbrev Is : Expr → Type 0
  Is = IsEvaluated m input whole f p params locals call stage calls

  abbrev Read : Expr → Type 0
  Read = IsReadWhole m input whole f p params locals call stage calls

  zero_is : (t : Ty) → IsVariableType p.structs t → is_value_of p.structs t (zero_value p.structs t) ≡ true
  zero_is t is = zero_typed p.structs types.program.structs (declared_plain p.structs types.program.declared) t is.known is.plain

  words_at : (u : Ty) (shape : Shape) (v : Value) → IsSound (length p.structs) u → shape_of u ≡ Some shape → is_value_of p.structs u v ≡ true → converted_value (scalar_of u) v ≡ v
  words_at u shape v sound is fits =
      subst (λ (s : Scalar). converted_value s v ≡ v) (sym (ap (λ (o : Option Shape). (unwrap_or o (Int, 1)).0) is)) (value_as_it_is shape v (value_shape p.structs u shape v types.program.structs sound is fits).1)

  -- ---- one argument

  goes_in : (t : Ty) (e : Expr) → IsVariableType p.structs t → type_of e ≡ t → Is e → IsReadWhole m input whole f p params locals call stage calls e → GoesIn m input whole f p around t (low e) (means e)
  goes_in t e is same x wholes = record {
    real = plain_real t is.plain;
    gives = subst (λ u. GivesValue m input whole f p around (low e).traits.splits u (low e).value (means e).value) same (x.gives read (λ in_one none. wholes in_one none read));
  }
    where
      read : is_runtime_layer (out-Ty (type_of e)) ≡ false
      read = ap (λ u. is_runtime_layer (out-Ty u)) same ∙ plain_read t is.plain

  comes_back : (t : Ty) (e : Expr) → IsVariableType p.structs t → Back p t (type_of e) → is_writable around e ≡ true → KnowsWhereStored m input whole f p params locals call stage calls e → Is e → ComesBack m input whole f p around t (low e) (means e)
  comes_back t e is back may known x = record {
    real = plain_real t is.plain;
    sound = is.known;
    sound_place = subst (IsSound (length p.structs)) (sym x.typed) x.sound;
    real_place = λ none. back.real (sym x.typed ∙ none);
    meant = x.meant ∙ sym x.typed;
    start = x.start;
    knows = λ so. known (x.start_blocked so);
    leads = subst (λ u. GivesPlace m input whole f p around (low e).traits.splits x.start true u (low e).reach (means e).access) (sym x.typed) (x.leads back.real true (λ so. may));
    some = (zero_value p.structs t, fits (zero_value p.structs t) (zero_is t is));
    fits = fits;
    words = λ shape v has typed.
        let to = back.shaped shape has in
        subst (λ u. converted_value (scalar_of u) v ≡ v) (sym x.typed) (words_at (type_of e) to.0 v x.sound to.1 (back.fits v typed));
  }
    where
      fits : (v : Value) → is_value_of p.structs t v ≡ true → is_value_of p.structs (low e).ty v ≡ true
      fits v typed = subst (λ u. is_value_of p.structs u v ≡ true) (sym x.typed) (back.fits v typed)

  zeros_serve : (t : Ty) → IsVariableType p.structs t → HasZeros m input whole f p around t
  zeros_serve t is = record { typed = zero_is t is; gives = zeros_given m input whole f p around t knows.nulls (λ composite. knows.zeros t composite is) is.known (zero_is t is) }

  -- a struct or an array of the type of a parameter can be read whole
  known_whole : (t u : Ty) → IsVariableType p.structs t → u ≡ t → shape_of u ≡ None → KnowsWhole m input whole f p around u
  known_whole t u is same none =
      let known = knows.wholes params locals in
      record {
        valid = known.valid;
        written = known.written;
        shaped = known.shaped;
        plain = declared_plain p.structs types.program.declared;
        values = subst (HasValues m p.structs f.place) (sym same) (record { plain = is.plain; zeros_are = λ id found. known.zeros_are t (sym (ap shape_of same) ∙ none) is.known is.plain id found });
      }

  serves_one : (way : Direction) (t : Ty) (e : Expr) → IsVariableType p.structs t → IsArgument around way t e → IsPassedBy m input whole f p params locals call stage calls way e → Read e → Is e → Serves m input whole f p around way t (low e) (means e)
  unfolding comes_back
  serves_one In t e is fits passed reads x = goes_in t e is fits x reads
  serves_one Out t e is fits passed reads x = (comes_back t e is (back_of p t (type_of e) is fits.0) fits.1 passed x, zeros_serve t is)
  serves_one InOut t e is fits passed reads x =
      let same : (low e).ty ≡ t = x.typed ∙ fits.0 in (
        comes_back t e is (back_of p t (type_of e) is (inl fits.0)) fits.1 passed x,
        same,
        λ none. known_whole t (low e).ty is same none,
      )

  -- ---- all of them

  all_serve : (ps : List (Direction × Ty)) (es : List Expr) → AllByRecursion (λ (param : Direction × Ty). IsVariableType p.structs param.1) ps → AreArguments around ps es → ArePassed m input whole f p params locals call stage calls ps es → AllByRecursion Read (passed_args es ps) → AllEvaluated m input whole f p params locals call stage calls es
      → AllServe m input whole f p around ps (map low es) (map means es)
  all_serve [] [] are fit passed reads xs = tt
  all_serve [] (e ∷ es) are fit passed reads xs = absurd fit
  all_serve (param ∷ ps) [] are fit passed reads xs = absurd fit
  all_serve (param ∷ ps) (e ∷ es) are fit passed reads xs = (serves_one param.0 param.1 e are.0 fit.0 passed.0 reads.0 xs.0, all_serve ps es are.1 fit.1 passed.1 reads.1 xs.1)

  -- ---- a call

  pub call_evaluates : (place : FlowPlace) (stages : List (Option Value)) (globals : Around) (e : Expr) (number function : ℕ) (args : List Expr) → form_of e ≡ ExprKind-F.Call number args → IsNode around e → IsFrame m input whole place stages f → AreAlike around globals → slice_get place.functions number ≡ Some function
      → ArePassed m input whole f p params locals call stage calls (params_of (slice_get p.prototypes number)) args → AllByRecursion Read (passed_args args (params_of (slice_get p.prototypes number))) → ((head : Prototype) → slice_get p.prototypes number ≡ Some head → FunctionDoes m input whole p place stages globals function head.params head.result (calls number)) → AllEvaluated m input whole f p params locals call stage calls args → HasValue m input whole f p params locals call stage calls e
  call_evaluates place stages globals e number function args form node frame alike there passed reads does xs =
      let is : IsCall around number args (type_of e) = subst (λ x. HasType around x (type_of e)) form node.type in
      let head = is.0 in
      let params_are : params_of (slice_get p.prototypes number) ≡ head.params = ap params_of is.1 in
      let served : AllServe m input whole f p around (params_of (slice_get p.prototypes number)) (map low args) (map means args) =
      subst (λ ps. AllServe m input whole f p around ps (map low args) (map means args)) (sym params_are) (all_serve head.params args (at_place (IsPrototype p.structs) p.prototypes number head types.program.prototypes is.1).params is.3 (subst (λ ps. ArePassed m input whole f p params locals call stage calls ps args) params_are passed) (subst (λ ps. AllByRecursion Read (passed_args args ps)) params_are reads) xs) in
      call_has_value m input whole f p params locals call stage calls e number args types knows.vectors form
      (call_passes m input whole f p around globals place stages setting number function (map low args) (map means args) (type_of e) types.program.structs refl frame there alike served
      (subst (λ ps. FunctionDoes m input whole p place stages globals function ps (type_of e) (calls number)) (sym params_are) (subst (λ t. FunctionDoes m input whole p place stages globals function head.params t (calls number)) is.2 (does head is.1))))
