-- Every kind of expression, over its parts.
use Rattle.std.proofs.Common.{◌≡◌, ◌≢◌, refl, sym, ap, ◌∙◌, subst, inl, inr, ◌⊎◌, ℕ, ◌≤◌, ◌<◌, Bool, true, false, ◌||◌, ◌&&◌, not, IsTrue, List, [], ◌∷◌, length, map, slice_get, Option, Some, None, unwrap_or, if◌then◌else◌, arith}
use Rattle.std.specs.Prelude.{nat_lt}
use Rattle.std.specs.List.{AllByRecursion, list_all}
use Rattle.std.proofs.lemmas.Bool.{and_parts, ltb-true}
use Rattle.std.proofs.lemmas.List.{length-take-le}
use Rattle.gsl_base.specs.declared.input.Input.{Input}
use Rattle.gsl_base.specs.declared.stage.Stage.TheVariants.{Compute}
use Rattle.gsl_types.specs.Conversions.{converts}
use Rattle.gsl_types.specs.Known.{AreStructs, IsSound, sound, sound_kind}
use Rattle.gsl_types.specs.declared.ty.Direction.{Direction}
use Rattle.gsl_types.specs.declared.ty.Scalar.{Scalar}
use Rattle.gsl_types.specs.declared.ty.Scalar.TheVariants.{Bool as Boolean, Int, Uint}
use Rattle.gsl_types.specs.declared.ty.Ty.{Ty}
use Rattle.gsl_types.specs.declared.ty.Ty.TheOpen.{Ty-F}
use Rattle.gsl_types.specs.declared.ty.Ty.TheVariants as ty
use Rattle.gsl_types.specs.declared.ty.Ty.TheVariants.{outs-Vector, rolls-Array, rolls-One, rolls-Struct}
use Rattle.gsl_types.specs.declared.ty.Ty.TheFolds.{fold-roll-Ty}
use Rattle.gsl_types.specs.declared.ty.Ty.TheViews.{out-Ty, roll-Ty, roll-out-Ty}
use Rattle.gsl_words.specs.declared.module.Module.{Module}
use Rattle.gsl_values.specs.Vectors.{components as picked}
use Rattle.gsl_values.specs.declared.function.Builtin.{Builtin}
use Rattle.gsl_values.specs.declared.lane.Lanes.{Lanes}
use Rattle.gsl_values.specs.declared.op.BinaryOp.{BinaryOp}
use Rattle.gsl_values.specs.declared.op.UnaryOp.{UnaryOp}
use Rattle.gsl_values.specs.declared.value.Value.{Value}
use Rattle.gsl_tree.specs.Around.{Around, is_buffer, may_write_member, member_in, uvec3, writes_member}
use Rattle.gsl_tree.specs.Constants.{gives}
use Rattle.gsl_tree.specs.Expressions as tree
use Rattle.gsl_tree.specs.Expressions.{IsBinary, IsBuild, IsBuilt, IsConst, IsIndex, IsSwizzle, IsUnary, MayBeRead, boolean, element_of, is_in_range, is_runtime_layer, shapes_of}
use Rattle.gsl_tree.specs.Operations.{binary_value, decides, has_fixed_length, is_postfix, is_signed, length_of, step_value}
use Rattle.gsl_tree.specs.Paths.{in_block, in_block_by, is_writable, kind_in, repeats, writable_by}
use Rattle.gsl_tree.specs.Shapes.{Shape, is_integer, shape_kind, shape_of}
use Rattle.gsl_tree.specs.Trees.{form_of, type_of}
use Rattle.gsl_tree.specs.Values.{all_pass, is_value_of, parts_in, word_in}
use Rattle.gsl_tree.specs.WellTyped.{IsVariableType, around_body, is_push, program_lists}
use Rattle.gsl_tree.specs.declared.expr.Expr.{Expr}
use Rattle.gsl_tree.specs.declared.expr.ExprKind.{ExprKind}
use Rattle.gsl_tree.specs.declared.expr.ExprKind.TheFolds.{fold-Expr, fold-ExprKind, map-ExprKind}
use Rattle.gsl_tree.specs.declared.expr.ExprKind.TheOpen.{ExprKind-F}
use Rattle.gsl_tree.specs.declared.expr.LogicOp.{LogicOp}
use Rattle.gsl_tree.specs.declared.expr.LogicOp.TheVariants as logic
use Rattle.gsl_tree.specs.declared.expr.StageVar.{StageVar}
use Rattle.gsl_tree.specs.declared.expr.StepOp.{StepOp}
use Rattle.gsl_tree.specs.declared.program.Program.{Program}
use Rattle.gsl_tree.specs.declared.unit.BlockKind.{BlockKind}
use Rattle.gsl_tree.specs.declared.unit.BlockKind.TheVariants.{Buffer, Push, Uniform}
use Rattle.gsl_tree.specs.declared.unit.BlockMember.{BlockMember}
use Rattle.gsl_typed_law.proofs.Builtins.{builtin_typed}
use Rattle.gsl_typed_law.proofs.Components.{shape_again, some_component}
use Rattle.gsl_typed_law.proofs.Conversions.{converted_same, step_typed}
use Rattle.gsl_typed_law.proofs.Operators.{binary_typed, unary_typed}
use Rattle.gsl_meaning.specs.Accesses as access
use Rattle.gsl_meaning.specs.Expressions as meaning
use Rattle.gsl_meaning.specs.Expressions.{Calls, Meant, means_by}
use Rattle.gsl_meaning.specs.Running.{Run}
use Rattle.gsl_meaning.specs.Running as shader_run
use Rattle.gsl_meaning.specs.State as shader
use Rattle.gsl_spv.specs.Sections.{Sections}
use Rattle.gsl_lower_holders.specs.Flow.{Emit, lift}
use Rattle.gsl_lower_traits.specs.declared.traits.Traits.{Traits}
use Rattle.gsl_lower_traits.specs.Traits as traits
use Rattle.gsl_lower_traits.specs.Traits.{Known, is_dynamic, is_one, is_selected, is_short, together}
use Rattle.gsl_lower_traits_law.proofs.Literals.{literal_below}
use Rattle.gsl_lower_traits_law.specs.Telling.{Tells}
use Rattle.gsl_lower_traits_law.proofs.Told as told
use Rattle.gsl_lower_traits_law.proofs.Told.{means_form, part_is}
use Rattle.gsl_lower_expr.specs.Lowering as lowering
use Rattle.gsl_lower_expr.specs.Lowering.{lowered_by}
use Rattle.gsl_lower_expr.specs.Parts as Parts
use Rattle.gsl_lower_expr.specs.Parts.{Lower, any_splits, called_of, chosen, constant_by, constructed, indexed, known_of, logical, member, sequence, shape_or, swizzled_by}
use Rattle.gsl_lower_follows.specs.Frames as name
use Rattle.gsl_lower_follows.specs.Frames.{AreTyped, Frame, type_of_global, type_of_interface, type_of_param}
use Rattle.gsl_lower_follows.specs.Giving.{GivesValue}
use Rattle.gsl_lower_law_names.specs.Named.{IsNamed}
use Rattle.gsl_lower_law_expr.specs.Known.{AllGive, AllTyped, IsQuiet, IsShort, logic_means, choice_means}
use Rattle.gsl_lower_law_expr.proofs.Binary.{binary_gives}
use Rattle.gsl_lower_law_expr.proofs.Constant.{constant_gives}
use Rattle.gsl_lower_law_expr.proofs.Forking.{forked_gives}
use Rattle.gsl_lower_law_expr.proofs.Logic.{both_give}
use Rattle.gsl_lower_law_expr.proofs.Shapes.{value_shape}
use Rattle.gsl_lower_law_expr.proofs.Short.{short_gives}
use Rattle.gsl_lower_law_expr.proofs.Single.{conversion_gives, unary_gives}
use Rattle.gsl_lower_law_built.specs.Arguments as built
use Rattle.gsl_lower_law_built.specs.Arguments.{AreShaped, Constructs, EachGives, SameTypes}
use Rattle.gsl_lower_law_built.proofs.Called.{built_gives}
use Rattle.gsl_lower_law_built.proofs.Composed.{composed_gives}
use Rattle.gsl_lower_law_built.proofs.Constructed.{constructed_gives, shape_back}
use Rattle.gsl_lower_law_built.proofs.Filling.{shape_constructs}
use Rattle.gsl_lower_law_built.proofs.Fitting.{array_composes, passes, struct_composes}
use Rattle.gsl_lower_law_built.proofs.Selected.{selected_gives}
use Rattle.gsl_lower_law_built.proofs.Sequence.{sequence_gives}
use Rattle.gsl_lower_law_stored.specs.Buffers.{KnowsBuffers}
use Rattle.gsl_lower_reaching.specs.Reaching.{GivesPlace, KnowsMember, Start, is_of_value}
use Rattle.gsl_lower_reaching.specs.Reaching.Start.{OfBlock, OfVariable}
use Rattle.gsl_lower_reaching.specs.Trails.{MayStore}
use Rattle.gsl_lower_reaching.proofs.Places.{block_place, member_place, swizzle_place}
use Rattle.gsl_lower_assigns.specs.OfElements.{Indexes, indexed_means}
use Rattle.gsl_lower_assigns.proofs.OfElements.{literal_place}
use Rattle.gsl_lower_assigns.specs.OfIndexes.{CanTest, spilled_to}
use Rattle.gsl_lower_assigns.proofs.OfIndexes.{index_place}
use Rattle.gsl_typed_places.specs.Members.{IsMember}
use Rattle.gsl_lower_assigns.specs.Assigning.{assign_means}
use Rattle.gsl_lower_assigns.proofs.Assigned.{place_assigned}
use Rattle.gsl_lower_assigns.specs.Updating.{step_means, update_means}
use Rattle.gsl_lower_assigns.proofs.Stepping.{place_stepped}
use Rattle.gsl_lower_assigns.proofs.Updating.{place_updated}
use Rattle.gsl_lower_law_evaluated.specs.Evaluating.{Evaluates, IsTyped, NoVectors, lowered_in, meant_in}
use Rattle.gsl_lower_law_evaluated.proofs.Evaluated.{value_evaluates}
use Rattle.gsl_lower_law_evaluated.proofs.Facts.{at_place, conversion_of, element_real, index_shape, is_false, plain_real, scalar_shape, shaped_read, shaped_real, struct_real, value_read, value_real}
use Rattle.gsl_lower_law_evaluated.proofs.Lists.{one_component, or_cases, or_false, or_true, shapes_cons, supplied, together_splits}

shape_or_is : (t : Ty) (shape : Shape) → shape_of t ≡ Some shape → shape_or t ≡ shape
shape_or_is t shape is = ap (λ o. unwrap_or o (Int, 1)) is

pub sound_one : (count : ℕ) (s : Scalar) → IsSound count (ty.One s)
sound_one count s = ap (sound count) (sym (rolls-One s)) ∙ fold-roll-Ty Bool (sound_kind count) (Ty-F.One s)

all_below : (n : ℕ) (positions : List ℕ) → list_all (λ position. nat_lt position n) positions ≡ true → AllByRecursion (λ position. position < n) positions
all_below n [] is = tt
all_below n (position ∷ positions) is = let both = and_parts (nat_lt position n) (list_all (λ p. nat_lt p n) positions) is in (ltb-true position n both.0, all_below n positions both.1)

one_scalar : (count : ℕ) (t : Ty) → IsSound count t → is_one (shape_of t) ≡ true → (s : Scalar) × (t ≡ ty.One s)
one_scalar count t sound is = by (shape_of t) refl is
  where
    by : (o : Option Shape) → shape_of t ≡ o → is_one o ≡ true → (s : Scalar) × (t ≡ ty.One s)
    by None e is = absurd (let z : false ≡ true = is in cc)
    by (Some shape) e is = (shape.0, sym (shape_again count t shape sound e) ∙ ap (λ b. if b then ty.One shape.0 else ty.Vector shape.0 shape.1) is)

module _ (m : Module) (input : Input) (whole : Sections) (f : Frame m input whole) (p : Program) (params : List (Direction × Ty)) (locals : List Ty) (call : ℕ → List Lower → Ty → Emit ℕ) (stage : StageVar → Value) (calls : Calls) (types : IsTyped p params locals) (vectors : NoVectors m input whole f) where
  abbrev around : Around
  around = around_body (program_lists p) params locals

  abbrev lower : lowering.Setting
  lower = lowered_in p call

  abbrev setting : meaning.Setting
  setting = meant_in p stage calls

  abbrev are : AreStructs p.structs
  are = types.program.structs

  abbrev count : ℕ
  count = length p.structs

  abbrev kinds_low : ExprKind → Ty → Lower
  kinds_low = fold-ExprKind (Ty → Lower) Lower (lowered_by lower) lowering.typed_by

  abbrev low : Expr → Lower
  low = fold-Expr (Ty → Lower) Lower (lowered_by lower) lowering.typed_by

  abbrev part : Expr → Meant
  part = fold-Expr (Ty → Meant) Meant (means_by setting) meaning.typed_by

  abbrev kinds_write : ExprKind → Bool
  kinds_write = fold-ExprKind Bool Bool (writable_by around) kind_in

  abbrev kinds_as : ExprKind → Ty → Traits
  kinds_as k t = (kinds_low k t).traits

  abbrev known_as : Expr → Known
  known_as e = known_of (low e)

  abbrev pub low_form : ExprKind-F ExprKind Expr → Ty → Lower
  low_form form t = lowered_by lower (map-ExprKind ExprKind Expr (Ty → Lower) Lower kinds_low low form) t

  abbrev pub may_write : ExprKind-F ExprKind Expr → Bool
  may_write form = writable_by around (map-ExprKind ExprKind Expr Bool Bool kinds_write (is_writable around) form)

  abbrev kinds_blocked : ExprKind → Bool
  kinds_blocked = fold-ExprKind Bool Bool in_block_by kind_in

  abbrev pub is_blocked : ExprKind-F ExprKind Expr → Bool
  is_blocked form = in_block_by (map-ExprKind ExprKind Expr Bool Bool kinds_blocked in_block form)

  abbrev pub Is : Expr → Type 0
  Is e = Evaluates m input whole f p around (is_writable around e) (in_block e) (type_of e) (low e) (part e)

  abbrev pub AllAre : List Expr → Type 0
  AllAre [] = Unit {0}
  AllAre (e ∷ es) = Is e × AllAre es

  abbrev Gives : Bool → Ty → Emit ℕ → Run Value → Type 0
  Gives = GivesValue m input whole f p around

  -- ---- parts

  -- a struct or an array in a block gives its value
  abbrev pub IsWhole : Expr → Type 0
  IsWhole e = in_block e ≡ true → shape_of (type_of e) ≡ None → Gives (low e).traits.splits (type_of e) (low e).value (part e).value

  abbrev pub AllWhole : List Expr → Type 0
  AllWhole = AllByRecursion IsWhole

  own : (e : Expr) → Is e → is_runtime_layer (out-Ty (type_of e)) ≡ false → IsWhole e → Gives (low e).traits.splits (low e).ty (low e).value (part e).value
  own e is read wholes = subst (λ t. Gives (low e).traits.splits t (low e).value (part e).value) (sym is.typed) (is.gives read wholes)

  -- what is a scalar or vector is no struct and no array
  no_whole : (e : Expr) (shape : Shape) → shape_of (type_of e) ≡ Some shape → IsWhole e
  no_whole e shape shaped in_one none = absurd (let z : None ≡ Some shape = sym none ∙ shaped in cc)

  own_shaped : (e : Expr) → Is e → (shape : Shape) → shape_of (type_of e) ≡ Some shape → Gives (low e).traits.splits (low e).ty (low e).value (part e).value
  own_shaped e is shape shaped = own e is (shaped_read (type_of e) shape shaped) (no_whole e shape shaped)

  own_leads : (e : Expr) (is : Is e) → type_of e ≢ ty.Void → (writes : Bool) → (writes ≡ true → is_writable around e ≡ true) → GivesPlace m input whole f p around (low e).traits.splits is.start writes (low e).ty (low e).reach (part e).access
  own_leads e is real writes may = subst (λ t. GivesPlace m input whole f p around (low e).traits.splits is.start writes t (low e).reach (part e).access) (sym is.typed) (is.leads real writes may)

  own_sound : (e : Expr) → Is e → IsSound count (low e).ty
  own_sound e is = subst (IsSound count) (sym is.typed) is.sound

  own_real : (e : Expr) → Is e → type_of e ≢ ty.Void → (low e).ty ≢ ty.Void
  own_real e is real void = real (sym is.typed ∙ void)

  pub all_told : (es : List Expr) → AllAre es → told.AllTold setting kinds_as known_as es
  all_told [] all = tt
  all_told (e ∷ es) all = (all.0.tells, all_told es all.1)

  lists_known : (es : List Expr) → map known_of (map low es) ≡ map known_as es
  lists_known [] = refl
  lists_known (e ∷ es) = ap (λ l. known_as e ∷ l) (lists_known es)

  -- what is told of several together
  pub row_told : (es : List Expr) (of : Traits → Traits) (x : Meant) → Tells (of (together (map known_as es))) x → Tells (of (together (map known_of (map low es)))) x
  row_told es of x = subst (λ ks. Tells (of (together ks)) x) (sym (lists_known es))

  -- code has labels where that of one of several has
  pub row_gives : (es : List Expr) (t : Ty) (value : Emit ℕ) (run : Run Value) → Gives (any_splits (map low es)) t value run → Gives (together (map known_of (map low es))).splits t value run
  row_gives es t value run = subst (λ b. Gives b t value run) (sym (together_splits (traits.valued false false true) (map low es)))

  all_give : (es : List Expr) → AllAre es → AllByRecursion (λ (e : Expr). type_of e ≢ ty.Void) es → AllByRecursion (MayBeRead around) es → AllWhole es → AllGive Gives (map low es) (map part es)
  all_give [] all real reads wholes = tt
  all_give (e ∷ es) all real reads wholes = ((own_real e all.0 real.0, own e all.0 (is_false (is_runtime_layer (out-Ty (type_of e))) reads.0.1) wholes.0), all_give es all.1 real.1 reads.1 wholes.1)

  each_gives : (es : List Expr) → AllAre es → AllByRecursion (MayBeRead around) es → AllWhole es → EachGives Gives (map low es) (map part es)
  each_gives [] all reads wholes = tt
  each_gives (e ∷ es) all reads wholes = (own e all.0 (is_false (is_runtime_layer (out-Ty (type_of e))) reads.0.1) wholes.0, each_gives es all.1 reads.1 wholes.1)

  low_types : (es : List Expr) → AllAre es → built.types_of (map low es) ≡ tree.types_of es
  low_types [] all = refl
  low_types (e ∷ es) all = ap (λ t. t ∷ built.types_of (map low es)) all.0.typed ∙ ap (λ l. type_of e ∷ l) (low_types es all.1)

  same_types : (es : List Expr) → AllAre es → SameTypes (map low es) (map part es)
  same_types [] all = refl
  same_types (e ∷ es) all = ap (λ t. t ∷ built.types_of (map low es)) (all.0.typed ∙ sym all.0.meant) ∙ ap (λ l. (part e).ty ∷ l) (same_types es all.1)

  last_is : (es : List Expr) → AllAre es → built.last_type (map low es) ≡ tree.last_type es
  last_is [] all = refl
  last_is (e ∷ []) all = ap Some all.0.typed
  last_is (e ∷ next ∷ es) all = last_is (next ∷ es) all.1

  are_shaped : (es : List Expr) (shapes : List Shape) → AllAre es → shapes_of es ≡ Some shapes → AreShaped p (map low es) shapes × AllByRecursion (λ (e : Expr). type_of e ≢ ty.Void) es
  are_shaped [] shapes all is = (subst (AreShaped p []) (ap (λ o. unwrap_or o shapes) is) tt, tt)
  are_shaped (e ∷ es) shapes all is =
      let c = shapes_cons (shape_of (type_of e)) (shapes_of es) shapes is in
      let rest = are_shaped es c.1 all.1 c.3 in
      (subst (AreShaped p (low e ∷ map low es)) (sym c.4) ((own_sound e all.0, ap shape_of all.0.typed ∙ c.2), rest.0), (shaped_real (type_of e) c.0 c.2, rest.1))

  none_whole : (es : List Expr) (shapes : List Shape) → shapes_of es ≡ Some shapes → AllWhole es
  none_whole [] shapes is = tt
  none_whole (e ∷ es) shapes is = let c = shapes_cons (shape_of (type_of e)) (shapes_of es) shapes is in (no_whole e c.0 c.2, none_whole es c.1 c.3)

  -- ---- names

  pub named_local : (number : ℕ) (t : Ty) → slice_get locals number ≡ Some t → IsNamed p around (name.Local number) t
  named_local number t is = let v = at_place (IsVariableType p.structs) locals number t types.of_locals is in record { are = are; sound = v.known; real = plain_real t v.plain; typed = is }

  pub named_param : (number : ℕ) (t : Ty) → tree.HasParamType params number t → IsNamed p around (name.Param number) t
  named_param number t is =
      let v = at_place (λ (param : Direction × Ty). IsVariableType p.structs param.1) params number (is.0, t) types.of_params is.1 in
      record { are = are; sound = v.known; real = plain_real t v.plain; typed = ap type_of_param is.1 }

  pub named_global : (number : ℕ) (t : Ty) → tree.HasGlobalType p.globals number t → IsNamed p around (name.Global number) t
  named_global number t is =
      let v = subst (IsVariableType p.structs) is.2 (types.program.globals number is.0 is.1).type in
      record { are = are; sound = v.known; real = plain_real t v.plain; typed = ap type_of_global is.1 ∙ ap Some is.2 }

  pub named_interface : (number : ℕ) (t : Ty) → tree.HasInterfaceType p.interfaces number t → IsNamed p around (name.Interface number) t
  named_interface number t is =
      let i = at_place _ p.interfaces number is.0 types.program.interfaces is.1 in
      record {
        are = are;
        sound = subst (IsSound count) is.2 i.known;
        real = subst (λ u. u ≢ ty.Void) is.2 (shaped_real (is.0.ty) i.type.0 i.type.1);
        typed = ap type_of_interface is.1 ∙ ap Some is.2;
      }

  -- ---- what gives a value

  -- a form that gives a value, of which something is told
  pub valued : (t : Ty) (known : Traits) (value : Emit ℕ) (run : Run Value) → IsSound count t → known.is_loose ≡ true → Gives known.splits t value run → Tells known (meaning.valued t run)
      → Evaluates m input whole f p around false false t (lowering.giving_value t value known) (meaning.valued t run)
  valued = value_evaluates m input whole f p around

  pub const_gives : (v : Value) (t : Ty) → IsSound count t → IsConst around v t → Gives false t (lift (constant_by (shape_or t) v)) (shader_run.given v)
  const_gives v t sound is =
      let shaped = shape_is is.1 in
      let of = value_shape p.structs t shaped.0 v are sound shaped.1 is.0 in
      subst (λ (shape : Shape). Gives false t (lift (constant_by shape v)) (shader_run.given v)) (sym (shape_or_is t shaped.0 shaped.1)) (constant_gives m input whole f p around shaped.0 t v of.0 of.1 is.0)
    where
      shape_is : ((s : Scalar) × (t ≡ ty.One s)) ⊎ ((t ≡ uvec3) × (p.stage ≡ Compute) × tree.StatesSize around (map word_in (parts_in v))) → (shape : Shape) × (shape_of t ≡ Some shape)
      shape_is (inl (s, e)) = ((s, 1), ap shape_of e ∙ scalar_shape s)
      shape_is (inr (e, compute, size)) = ((Uint, 3), ap shape_of e ∙ ap shape_kind (outs-Vector Uint 3))

  pub unary_is : (op : UnaryOp) (a : Expr) (t : Ty) → Is a → IsUnary op (type_of a) t → Gives (low a).traits.splits t ((low_form (ExprKind-F.Unary op a) t).value) ((means_form setting (ExprKind-F.Unary op a) t).value)
  unary_is op a t x is =
      unary_gives m input whole f p around op (low a) t (part a).value (own_real a x (shaped_real (type_of a) is.0 is.2)) (λ v. unary_typed p.structs op (low a).ty t v (subst (λ u. IsUnary op u t) (sym x.typed) is)) (own_shaped a x is.0 is.2)

  -- operands of an operator have values, which are no runtime arrays
  record AreRead (a b : Ty) : Type 0 where
    real_left : a ≢ ty.Void
    real_right : b ≢ ty.Void
    read_left : is_runtime_layer (out-Ty a) ≡ false
    read_right : is_runtime_layer (out-Ty b) ≡ false

  operands_read : (op : BinaryOp) (a b t : Ty) → IsBinary around op a b t → AreRead a b
  operands_read op a b t (inl (equality, is)) = record {
    real_left = value_real a is.2;
    real_right = value_real b (subst (λ u. IsTrue (tree.is_value_type u)) is.0 is.2);
    read_left = value_read a is.2;
    read_right = value_read b (subst (λ u. IsTrue (tree.is_value_type u)) is.0 is.2);
  }
  operands_read op a b t (inr (x, y, z, first, second, more, gives)) = record {
    real_left = shaped_real a x first;
    real_right = shaped_real b y second;
    read_left = shaped_read a x first;
    read_right = shaped_read b y second;
  }

  pub binary_is : (op : BinaryOp) (a b : Expr) (t : Ty) → Is a → Is b → IsBinary around op (type_of a) (type_of b) t → AllWhole (a ∷ b ∷ [])
      → Gives ((low a).traits.splits || (low b).traits.splits) t ((low_form (ExprKind-F.Binary op a b) t).value) ((means_form setting (ExprKind-F.Binary op a b) t).value)
  binary_is op a b t x y is wholes =
      let read = operands_read op (type_of a) (type_of b) t is in
      let here : IsBinary around op (low a).ty (low b).ty t = subst (λ u. IsBinary around op u (low b).ty t) (sym x.typed) (subst (λ u. IsBinary around op (type_of a) u t) (sym y.typed) is) in
      subst (λ u. Gives ((low a).traits.splits || (low b).traits.splits) t ((low_form (ExprKind-F.Binary op a b) t).value) (meaning.binary t (part a).value (part b).value (binary_value op (is_signed u)))) (x.typed ∙ sym x.meant)
      (binary_gives m input whole f p around op (low a) (low b) t (part a).value (part b).value
      (record {
        are = are;
        sound_left = own_sound a x;
        sound_right = own_sound b y;
        real_left = own_real a x read.real_left;
        real_right = own_real b y read.real_right;
        operands = here;
        gives = λ v w choices words left right. binary_typed around op (is_signed (low a).ty) (low a).ty (low b).ty t v w choices (own_sound a x) (own_sound b y) here left right words;
      })
      (own a x read.read_left wholes.0) (own b y read.read_right wholes.1.0))

  own_boolean : (e : Expr) → Is e → type_of e ≡ boolean → Gives (low e).traits.splits (low e).ty (low e).value (part e).value
  own_boolean e is same = own_shaped e is (Boolean, 1) (ap shape_of same ∙ scalar_shape Boolean)

  abbrev Quiet : Ty → Expr → Type 0
  Quiet t e = IsQuiet (AreTyped m input whole f p around) (is_value_of p.structs t) (part e).value

  short_of : (op : LogicOp) (b : Traits) → is_short op b ≡ true → IsShort op
  short_of logic.And b is = tt
  short_of logic.Or b is = tt
  short_of logic.Xor b is = absurd (let z : false ≡ true = is in cc)

  abbrev either : Expr → Expr → Bool
  either a b = (low a).traits.splits || (low b).traits.splits

  abbrev any_of : Expr → Expr → Expr → Bool
  any_of test a b = (low test).traits.splits || (low a).traits.splits || (low b).traits.splits

  abbrev choice_run : Expr → Expr → Expr → Run Value
  choice_run test a b = choice_means (part test).value (part a).value (part b).value

  pub logic_is : (op : LogicOp) (a b : Expr) → Is a → Is b → type_of a ≡ boolean → type_of b ≡ boolean → (IsShort op → is_short op (low b).traits ≡ false → Quiet boolean b)
      → Gives ((low a).traits.splits || (low b).traits.splits || is_short op (low b).traits) boolean (logical op (low a) (low b)) (logic_means op (part a).value (part b).value)
  logic_is op a b x y first second quiet = by (is_short op (low b).traits) refl
    where
      decides_or : (which : LogicOp) (word : ℕ) → is_short which (low b).traits ≡ false → (IsShort which → is_short which (low b).traits ≡ false → Quiet boolean b) → (decides which word ≡ false) ⊎ Quiet boolean b
      decides_or logic.And word e quiet = inr (quiet tt e)
      decides_or logic.Or word e quiet = inr (quiet tt e)
      decides_or logic.Xor word e quiet = inl refl

      by : (short : Bool) → is_short op (low b).traits ≡ short → Gives (either a b || short) boolean (if short then Parts.short op (low a) (low b) else Parts.both op (low a) (low b)) (logic_means op (part a).value (part b).value)
      by true e =
          subst (λ splits. Gives splits boolean (Parts.short op (low a) (low b)) (logic_means op (part a).value (part b).value)) (sym (or_true (either a b)))
          (short_gives m input whole f p around op (low a) (low b) (part a).value (part b).value (short_of op (low b).traits e) (x.typed ∙ first) (y.typed ∙ second) (own_boolean a x first) (own_boolean b y second))
      by false e =
          subst (λ splits. Gives splits boolean (Parts.both op (low a) (low b)) (logic_means op (part a).value (part b).value)) (sym (or_false (either a b)))
          (both_give m input whole f p around op (low a) (low b) (part a).value (part b).value (x.typed ∙ first) (y.typed ∙ second) (λ word. decides_or op word e quiet) (own_boolean a x first) (own_boolean b y second))

  pub choice_is : (t : Ty) (test a b : Expr) → IsSound count t → Is test → Is a → Is b → type_of test ≡ boolean → type_of a ≡ t → type_of b ≡ t → IsTrue (tree.is_value_type t) → AllWhole (a ∷ b ∷ []) → (is_selected t (low a).traits (low b).traits ≡ true → Quiet t a × Quiet t b)
      → Gives (traits.chosen t (low test).traits (low a).traits (low b).traits).splits t (chosen t (low test) (low a) (low b)) (choice_means (part test).value (part a).value (part b).value)
  choice_is t test a b sound w x y on first second real wholes quiet = by (is_selected t (low a).traits (low b).traits) refl
    where
      test_gives : Gives (low test).traits.splits (low test).ty (low test).value (part test).value
      test_gives = own_boolean test w on

      a_gives : Gives (low a).traits.splits (low a).ty (low a).value (part a).value
      a_gives = own a x (ap (λ u. is_runtime_layer (out-Ty u)) first ∙ value_read t real) wholes.0

      b_gives : Gives (low b).traits.splits (low b).ty (low b).value (part b).value
      b_gives = own b y (ap (λ u. is_runtime_layer (out-Ty u)) second ∙ value_read t real) wholes.1.0

      selected_here : (scalar : Scalar) → t ≡ ty.One scalar → (low a).traits.splits ≡ false → (low b).traits.splits ≡ false → Quiet t a → Quiet t b → Gives (low test).traits.splits t (Parts.picked_one t (low test) (low a) (low b)) (choice_run test a b)
      selected_here scalar e whole_a whole_b quiet_a quiet_b =
          subst (λ u. Gives (low test).traits.splits u (Parts.picked_one u (low test) (low a) (low b)) (choice_run test a b)) (sym e)
          (selected_gives m input whole f p around scalar (low test) (low a) (low b) (part test).value (part a).value (part b).value (w.typed ∙ on) (x.typed ∙ first ∙ e) (y.typed ∙ second ∙ e) whole_a whole_b
          (subst (λ u. Quiet u a) e quiet_a) (subst (λ u. Quiet u b) e quiet_b) test_gives a_gives b_gives)

      by : (selected : Bool) → is_selected t (low a).traits (low b).traits ≡ selected → Gives (any_of test a b || not selected) t (if selected then Parts.picked_one t (low test) (low a) (low b) else Parts.forked t (low test) (low a) (low b)) (choice_run test a b)
      by true e =
          let last = and_parts (is_one (shape_of t) && (low a).traits.quiet) (low b).traits.quiet e in
          let firsts = and_parts (is_one (shape_of t)) (low a).traits.quiet last.0 in
          let whole_a = x.tells.quiet firsts.1 in
          let whole_b = y.tells.quiet last.1 in
          let scalar = one_scalar count t sound firsts.0 in
          let splits : ((any_of test a b || false) ≡ (low test).traits.splits) = or_false (any_of test a b) ∙ ap (λ c. (low test).traits.splits || (low a).traits.splits || c) whole_b ∙ or_false _ ∙ ap (λ c. (low test).traits.splits || c) whole_a ∙ or_false _ in
          subst (λ c. Gives c t (Parts.picked_one t (low test) (low a) (low b)) (choice_run test a b)) (sym splits) (selected_here scalar.0 scalar.1 whole_a whole_b (quiet e).0 (quiet e).1)
      by false e =
          subst (λ c. Gives c t (Parts.forked t (low test) (low a) (low b)) (choice_run test a b)) (sym (or_true (any_of test a b)))
          (forked_gives m input whole f p around t (low test) (low a) (low b) (part test).value (part a).value (part b).value (value_real t real) (w.typed ∙ on) (x.typed ∙ first) (y.typed ∙ second) test_gives a_gives b_gives)

  pub convert_is : (a : Expr) (t : Ty) → Is a → IsTrue (converts (type_of a) t) → type_of a ≢ t → Gives (low a).traits.splits t ((low_form (ExprKind-F.Convert a) t).value) (part a).value
  convert_is a t x is differ =
      let c = conversion_of (type_of a) t is differ in
      let to : is_integer (shape_or t).0 ≡ true = ap (λ (shape : Shape). is_integer shape.0) (shape_or_is t c.to c.gives) ∙ c.integer in
      conversion_gives m input whole f p around (shape_or t).0 c.from (low a) t (part a).value are (own_sound a x) (own_real a x (shaped_real (type_of a) c.from c.of)) (ap shape_of x.typed ∙ c.of) to
      (λ v. subst (λ u. is_value_of p.structs u v ≡ true → is_value_of p.structs t v ≡ true) (sym x.typed) (λ fits. sym (converted_same p.structs (type_of a) t v is) ∙ fits)) (own_shaped a x c.from c.of)

  -- ---- what is stored

  place_of : (a : Expr) (x : Is a) → type_of a ≢ ty.Void → IsTrue (is_writable around a) → GivesPlace m input whole f p around (low a).traits.splits x.start true (low a).ty (low a).reach (part a).access
  place_of a x real may = own_leads a x real true (λ e. may)

  -- in a block its buffers are known
  abbrev Knows : Expr → Type 0
  Knows a = in_block a ≡ true → KnowsBuffers m input whole f p

  knows_of : (a : Expr) (x : Is a) → Knows a → x.start ≡ OfBlock → KnowsBuffers m input whole f p
  knows_of a x knows e = knows (x.start_blocked e)

  pub assign_is : (a b : Expr) (t : Ty) → Is a → Is b → type_of a ≡ t → type_of b ≡ t → IsTrue (tree.is_value_type t) → IsTrue (is_writable around a) → Knows a → IsWhole b → (v : Value) × (is_value_of p.structs (type_of a) v ≡ true)
      → Gives ((low a).traits.splits || (low b).traits.splits) t (Parts.assigned p.structs (low a) (low b)) (assign_means (part a).access (part b).value)
  assign_is a b t x y first second real may knows wholes some =
      let real_a : type_of a ≢ ty.Void = (λ void. value_real t real (sym first ∙ void)) in
      subst (λ u. Gives ((low a).traits.splits || (low b).traits.splits) u (Parts.assigned p.structs (low a) (low b)) (assign_means (part a).access (part b).value)) (x.typed ∙ first)
      (place_assigned m input whole f p around x.start (knows_of a x knows) (low a) (low b) (part b).value
      (record {
        are = are;
        sound = own_sound a x;
        real = own_real a x real_a;
        some = (some.0, subst (λ u. is_value_of p.structs u some.0 ≡ true) (sym x.typed) some.1);
        same = y.typed ∙ second ∙ sym first ∙ sym x.typed;
        comes = λ none. (y.tells.comes none).1;
      })
      (own b y (ap (λ u. is_runtime_layer (out-Ty u)) second ∙ value_read t real) wholes) (low a).traits.splits (part a).access (place_of a x real_a may))

  pub update_is : (op : BinaryOp) (a b : Expr) (t : Ty) → Is a → Is b → type_of a ≡ t → tree.IsOperation op t (type_of b) t → IsTrue (is_writable around a) → Knows a
      → Gives ((low a).traits.splits || (low b).traits.splits) t (Parts.updated p.structs op (low a) (low b)) (meaning.updating p.structs (part a) (part b) (binary_value op (is_signed (part a).ty)))
  update_is op a b t x y first is may knows =
      let read = operands_read op t (type_of b) t (inr is) in
      let here : IsBinary around op (low a).ty (low b).ty (low a).ty = subst (λ u. IsBinary around op u (low b).ty u) (sym (x.typed ∙ first)) (subst (λ u. IsBinary around op t u t) (sym y.typed) (inr is)) in
      let real_a : type_of a ≢ ty.Void = (λ void. read.real_left (sym first ∙ void)) in
      subst (λ u. Gives ((low a).traits.splits || (low b).traits.splits) u (Parts.updated p.structs op (low a) (low b)) (meaning.updating p.structs (part a) (part b) (binary_value op (is_signed (part a).ty)))) (x.typed ∙ first)
      (subst (λ u. Gives ((low a).traits.splits || (low b).traits.splits) (low a).ty (Parts.updated p.structs op (low a) (low b)) (update_means p.structs u (part a).access (part b).value (binary_value op (is_signed u)))) (x.typed ∙ sym x.meant)
      (place_updated m input whole f p around x.start (knows_of a x knows) (low a).traits.splits op (low a) (low b)
      (record {
        operates = record {
          are = are;
          sound_left = own_sound a x;
          sound_right = own_sound b y;
          real_left = own_real a x real_a;
          real_right = own_real b y read.real_right;
          operands = here;
          gives = λ v w choices words left right. binary_typed around op (is_signed (low a).ty) (low a).ty (low b).ty (low a).ty v w choices (own_sound a x) (own_sound b y) here left right words;
        };
        shape = is.0;
        shaped = ap shape_of (x.typed ∙ first) ∙ is.3;
      })
      (part a).access (part b).value (place_of a x real_a may) (own_shaped b y is.1 is.4)))

  pub step_is : (op : StepOp) (a : Expr) (t : Ty) → Is a → type_of a ≡ t → (shape : Shape) × (shape_of t ≡ Some shape) × IsTrue (is_integer shape.0) → IsTrue (is_writable around a) → Knows a
      → Gives (low a).traits.splits t (Parts.stepped p.structs op (low a)) (meaning.stepping p.structs (part a) (step_value op) (is_postfix op))
  step_is op a t x first is may knows =
      let shaped : shape_of (low a).ty ≡ Some is.0 = ap shape_of (x.typed ∙ first) ∙ is.1 in
      let real_a : type_of a ≢ ty.Void = (λ void. shaped_real t is.0 is.1 (sym first ∙ void)) in
      subst (λ u. Gives (low a).traits.splits u (Parts.stepped p.structs op (low a)) (meaning.stepping p.structs (part a) (step_value op) (is_postfix op))) (x.typed ∙ first)
      (subst (λ u. Gives (low a).traits.splits (low a).ty (Parts.stepped p.structs op (low a)) (step_means p.structs u (part a).access (step_value op) (is_postfix op))) (x.typed ∙ sym x.meant)
      (place_stepped m input whole f p around x.start (knows_of a x knows) (low a) op
      (record { are = are; sound = own_sound a x; real = own_real a x real_a; shape = is.0; shaped = shaped; gives = λ v fits. step_typed p.structs op (low a).ty is.0 v (own_sound a x) shaped is.2 fits })
      (low a).traits.splits (part a).access (place_of a x real_a may)))

  -- ---- several arguments

  passed : (es : List Expr) (vs : List Value) → AllAre es → AllTyped p (map low es) vs → all_pass (map (is_value_of p.structs) (tree.types_of es)) vs ≡ true
  passed es vs all fits = subst (λ ts. all_pass (map (is_value_of p.structs) ts) vs ≡ true) (low_types es all) (passes p (map low es) vs fits)

  pub built_is : (which : Builtin) (args : List Expr) (t : Ty) → AllAre args → AllByRecursion (MayBeRead around) args → IsBuilt which args t
      → Gives (together (map known_of (map low args))).splits t (called_of which (map low args)) (built.built_means which (map part args))
  built_is which args t all reads is =
      let shaped = are_shaped args is.0 all is.2 in
      row_gives args t (called_of which (map low args)) (built.built_means which (map part args))
      (built_gives m input whole f p around which (map low args) (map part args) t
      (record {
        are = are;
        shapes = is.0;
        shaped = shaped.0;
        shape = is.1;
        takes = is.3;
        gives = λ vs choices words fits. builtin_typed p.structs which (built.first_signed (map low args)) args t vs choices is (passed args vs all fits) words;
      })
      (same_types args all) (all_give args all shaped.1 reads (none_whole args is.0 is.2)))

  abbrev BuildGoal : List Expr → Ty → Type 0
  BuildGoal args t = Gives (any_splits (map low args)) t (constructed t (map low args)) (built.constructed_means t (map part args))

  pub build_is : (args : List Expr) (t : Ty) → IsSound count t → AllAre args → AllByRecursion (MayBeRead around) args → AllByRecursion (λ (e : Expr). type_of e ≢ ty.Void) args → AllWhole args → IsBuild around args t
      → Gives (together (map known_of (map low args))).splits t (constructed t (map low args)) (built.constructed_means t (map part args))
  build_is args t sound all reads real wholes is =
      row_gives args t (constructed t (map low args)) (built.constructed_means t (map part args)) (by (out-Ty t) refl (roll-out-Ty t) is.0)
    where
      each : AllGive Gives (map low args) (map part args)
      each = all_give args all real reads wholes

      shape_built : (shape : Shape) (shapes : List Shape) → shape_of t ≡ Some shape → shapes_of args ≡ Some shapes → (shape.1 ≤ built.components shapes) ⊎ (built.components shapes ≡ 1) → BuildGoal args t
      shape_built shape shapes of given enough =
          constructed_gives m input whole f p around (map low args) (map part args) t
          (subst (Constructs p (map low args)) (shape_again count t shape sound of) (shape_constructs p (map low args) shapes shape are (are_shaped args shapes all given).0 (some_component count t shape sound of) enough)) each

      whole_built : shape_of t ≡ None → built.Composes p (map low args) t → BuildGoal args t
      whole_built none composes = composed_gives m input whole f p around (map low args) (map part args) t composes (vectors t none) each

      one_enough : (shape : Shape) → shapes_of args ≡ Some (shape ∷ []) → 1 ≤ built.components (shape ∷ [])
      one_enough shape given = first (map low args) (are_shaped args (shape ∷ []) all given).0
        where
          first : (ls : List Lower) → AreShaped p ls (shape ∷ []) → 1 ≤ built.components (shape ∷ [])
          first [] shaped = absurd shaped
          first (l ∷ ls) shaped = let some = some_component count l.ty shape shaped.0.0 shaped.0.1 in omega (arith, some)

      by : (layer : Ty-F Ty) → out-Ty t ≡ layer → roll-Ty (out-Ty t) ≡ t → tree.IsBuildKind around layer args → BuildGoal args t
      by (Ty-F.One s) e rolls of = shape_built (s, 1) (of.0 ∷ []) (ap shape_kind e) of.1 (inl (one_enough of.0 of.1))
      by (Ty-F.Vector s n) e rolls of = shape_built (s, n) of.0 (ap shape_kind e) of.1 (enough (or_cases _ _ of.2))
        where
          enough : (tree.is_one_scalar of.0 ≡ true) ⊎ (tree.supplies n of.0 ≡ true) → (n ≤ built.components of.0) ⊎ (built.components of.0 ≡ 1)
          enough (inl is) = inr (one_component of.0 is)
          enough (inr is) = inl (supplied n of.0 is)
      by (Ty-F.Array element n) e rolls of =
          whole_built (ap shape_kind e) (subst (built.Composes p (map low args)) (sym (rolls-Array element n) ∙ ap roll-Ty (sym e) ∙ rolls) (array_composes p (map low args) element n (low_types args all ∙ of)))
      by (Ty-F.Struct number) e rolls of =
          whole_built (ap shape_kind e) (subst (built.Composes p (map low args)) (sym (rolls-Struct number) ∙ ap roll-Ty (sym e) ∙ rolls) (struct_composes p (map low args) number of.0 are of.1 (low_types args all ∙ of.2)))
      by Ty-F.Void e rolls of = absurd of
      by (Ty-F.Runtime element) e rolls of = absurd of

  pub comma_is : (items : List Expr) (t : Ty) → AllAre items → AllByRecursion (MayBeRead around) items → AllWhole items → tree.last_type items ≡ Some t
      → Gives (together (map known_of (map low items))).splits t (sequence 0 (map low items)) (built.sequence_means (map part items))
  comma_is items t all reads wholes last =
      row_gives items t (sequence 0 (map low items)) (built.sequence_means (map part items)) (sequence_gives m input whole f p around t (map low items) (map part items) (each_gives items all reads wholes) (last_is items all ∙ last))

  -- ---- what leads to a part

  -- a member that may be written is one of a buffer block
  may_store : (block number : ℕ) → may_write_member around block number ≡ true → MayStore p.blocks (access.Block block)
  may_store block number may one there = by one.kind (kept (member_in (Some one) number) (subst (λ o. writes_member o (member_in o number) ≡ true) there may))
    where
      kept : (o : Option BlockMember) → writes_member (Some one) o ≡ true → is_buffer one.kind ≡ true
      kept None e = absurd (let z : false ≡ true = e in cc)
      kept (Some member) e = (and_parts (is_buffer one.kind) (not member.readonly) e).0

      by : (kind : BlockKind) → is_buffer kind ≡ true → is_push kind ≡ false
      by Uniform e = refl
      by Buffer e = refl
      by Push e = absurd (let z : false ≡ true = e in cc)

  pub block_leads : (block number : ℕ) (t : Ty) → KnowsMember m input whole f p around block number t → (writes : Bool) → (writes ≡ true → may_write_member around block number ≡ true) → GivesPlace m input whole f p around false OfBlock writes t (Parts.in_block block number) (shader_run.given (meaning.member_root block number))
  block_leads block number t known writes may = block_place m input whole f p around block number writes t known (λ e. may_store block number (may e))

  pub swizzle_shape : (a : Expr) (lanes : Lanes) (t : Ty) (is : IsSwizzle (type_of a) lanes t) → shape_of t ≡ Some (is.0.0, lanes.count)
  swizzle_shape a lanes t is = ap shape_of (sym is.4) ∙ shape_back (is.0.0, lanes.count)

  pub member_leads : (a : Expr) (number : ℕ) (t : Ty) → IsSound count t → (x : Is a) → tree.HasPartType p.structs (type_of a) number t → (writes : Bool) → (writes ≡ true → is_writable around a ≡ true)
      → GivesPlace m input whole f p around (low a).traits.splits x.start writes t (member (low a) number) (shader_run.◌>>=◌ (part a).access (λ x. shader_run.given (access.member_of x number)))
  member_leads a number t sound x is writes may =
      member_place m input whole f p around (low a).traits.splits x.start writes t number (low a) (part a).access are (subst (λ u. tree.HasPartType p.structs u number t) (sym x.typed) is) sound
      (own_leads a x (struct_real (type_of a) is.0 is.3) writes may)

  pub swizzle_leads : (a : Expr) (lanes : Lanes) (t : Ty) (x : Is a) → IsSwizzle (type_of a) lanes t → (writes : Bool) → (writes ≡ true → (is_writable around a && not (repeats (picked lanes))) ≡ true)
      → GivesPlace m input whole f p around (low a).traits.splits x.start writes t (swizzled_by (low a) lanes) (shader_run.◌>>=◌ (part a).access (λ x. shader_run.given (access.swizzle_of x (picked lanes))))
  swizzle_leads a lanes t x is writes may =
      swizzle_place m input whole f p around (low a).traits.splits x.start writes writes t is.0 lanes (low a) (part a).access
      (record {
        of = ap shape_of x.typed ∙ is.1;
        gives = ap shape_of (sym is.4) ∙ shape_back (is.0.0, lanes.count) ∙ ap (λ n. Some (is.0.0, n)) (sym long);
        some = subst (λ n. 1 ≤ n) (sym long) is.2.0;
        below = all_below is.0.1 (picked lanes) is.3;
      })
      (λ e. (e, is_false (repeats (picked lanes)) (and_parts (is_writable around a) (not (repeats (picked lanes))) (may e)).1))
      (own_leads a x (shaped_real (type_of a) is.0 is.1) writes (λ e. (and_parts (is_writable around a) (not (repeats (picked lanes))) (may e)).0))
    where
      long : length (picked lanes) ≡ lanes.count
      long = length-take-le lanes.count lanes.words is.2.2

  indexes : (a : Expr) (t : Ty) → IsSound count t → Is a → element_of (type_of a) ≡ Some t → Indexes p (low a).ty t
  indexes a t sound x is = record { sound = own_sound a x; sound_part = sound; element = ap element_of x.typed ∙ is }

  abbrev index_run : Expr → Expr → Run access.Access
  index_run a i = indexed_means (part a).access (part i).value

  -- what is known to be a literal is a constant of that number
  abbrev IsLiteralForm : Expr → Type 0
  IsLiteralForm i = (number : ℕ) → (low i).traits.literal ≡ Some number → (v : Value) × (form_of i ≡ ExprKind-F.Const v) × (word_in v ≡ number)

  -- where it is then
  abbrev pub index_start : (a i : Expr) → Is a → Start
  index_start a i x = spilled_to (traits.spills (known_as a) (low i).traits) x.start

  pub index_loose : (a i : Expr) (t : Ty) (x : Is a) → is_of_value (index_start a i x) ≡ (traits.indexed t (known_as a) (low i).traits).is_loose
  index_loose a i t x = by (traits.spills (known_as a) (low i).traits) x.start (low a).traits.is_loose x.start_loose
    where
      by : (spill : Bool) (start : Start) (loose : Bool) → is_of_value start ≡ loose → is_of_value (spilled_to spill start) ≡ (loose && not spill)
      by true start loose e = sym (and_none loose)
        where
          and_none : (c : Bool) → (c && not true) ≡ false
          and_none true = refl
          and_none false = refl
      by false start loose e = e ∙ sym (and_all loose)
        where
          and_all : (c : Bool) → (c && not false) ≡ c
          and_all true = refl
          and_all false = refl

  pub index_blocked : (a i : Expr) (x : Is a) → index_start a i x ≡ OfBlock → in_block a ≡ true
  index_blocked a i x = by (traits.spills (known_as a) (low i).traits)
    where
      by : (spill : Bool) → spilled_to spill x.start ≡ OfBlock → in_block a ≡ true
      by true e = absurd (let z : OfVariable ≡ OfBlock = e in cc)
      by false e = x.start_blocked e

  abbrev Leads : (a i : Expr) → Is a → Ty → Bool → Type 0
  Leads a i x t writes = GivesPlace m input whole f p around (traits.indexed t (known_as a) (low i).traits).splits (index_start a i x) writes t (indexed p.structs (low a) (low i)) (index_run a i)

  -- What an index goes into has values of its type, or is the name of a member of a block.
  abbrev pub MayTest : Expr → Type 0
  MayTest a = ((v : Value) × (is_value_of p.structs (type_of a) v ≡ true)) ⊎ IsMember (form_of a)

  -- a member of a block is led to wherever it is evaluated
  member_there : (a : Expr) → IsMember (form_of a) → (s : shader.State) (units : ℕ) → (part a).access s units ≢ shader_run.Strays
  member_there a = by (form_of a) (ap (λ (x : Meant). x.access) (part_is setting a))
    where
      by : (form : ExprKind-F ExprKind Expr) → (part a).access ≡ (means_form setting form (type_of a)).access → IsMember form → (s : shader.State) (units : ℕ) → (part a).access s units ≢ shader_run.Strays
      by (ExprKind-F.BlockMember block number) is one s units strays = let z : shader_run.Got (meaning.member_root block number) s units ≡ shader_run.Strays = sym (ap (λ (run : Run access.Access). run s units) is) ∙ strays in cc
      by _ is one s units strays = absurd one

  can_test : (a : Expr) (x : Is a) → MayTest a → CanTest p (low a).ty (part a).access
  can_test a x (inl (v, typed)) = inl (v, subst (λ u. is_value_of p.structs u v ≡ true) (sym x.typed) typed)
  can_test a x (inr one) = inr (member_there a one)

  pub index_leads : (a i : Expr) (t : Ty) → IsSound count t → (x : Is a) → Is i → element_of (type_of a) ≡ Some t → IsIndex (type_of i) → is_in_range around a i ≡ true → ((low i).traits.calls ≡ true → MayTest a) → IsLiteralForm i
      → (writes : Bool) → (writes ≡ true → is_writable around a ≡ true) → Leads a i x t writes
  index_leads a i t sound x y element integer range tests form writes may = by (low i).traits.literal refl
    where
      base : GivesPlace m input whole f p around (low a).traits.splits x.start writes (low a).ty (low a).reach (part a).access
      base = own_leads a x (element_real (type_of a) t element) writes may

      -- nothing is put into a holder for an index that is known
      stays : (o : Option ℕ) (number : ℕ) → o ≡ Some number → (loose plain : Bool) (start : Start) → spilled_to (loose && is_dynamic o && not plain) start ≡ start
      stays None number e loose plain start = absurd cc
      stays (Some k) number e true plain start = refl
      stays (Some k) number e false plain start = refl

      by : (o : Option ℕ) → (low i).traits.literal ≡ o → Leads a i x t writes
      by None e =
          let shape = index_shape (type_of i) integer in
          index_place m input whole f p around are (low a).traits.splits writes x.start t (low a) (low i) (part a).access (part i).value x.start_loose (indexes a t sound x element) (own_real a x (element_real (type_of a) t element)) (own_real i y (shaped_real (type_of i) shape.0 shape.1))
          (record { computed = e; number = subst IsIndex (sym y.typed) integer; comes = λ alone. (y.tells.comes alone).1 }) (λ calls. can_test a x (tests calls)) (own_shaped i y shape.0 shape.1) base
      by (Some number) e =
          let told = y.tells.literal number e in
          let const = form number e in
          let below : has_fixed_length (low a).ty ≡ true → number < length_of (low a).ty = (λ fixed. subst (λ u. number < length_of u) (sym x.typed) (subst (λ n. n < length_of (type_of a)) const.2 (literal_below around a i t const.0 const.1 element (ap has_fixed_length (sym x.typed) ∙ fixed) range))) in
          subst (λ start. GivesPlace m input whole f p around (traits.indexed t (known_as a) (low i).traits).splits start writes t (indexed p.structs (low a) (low i)) (index_run a i)) (sym (stays (low i).traits.literal number e (low a).traits.is_loose (traits.is_plain (low a).ty) x.start))
          (subst (λ splits. GivesPlace m input whole f p around ((low a).traits.splits || splits) x.start writes t (indexed p.structs (low a) (low i)) (index_run a i)) (sym told.0)
          (literal_place m input whole f p around are (low a).traits.splits x.start writes t number (low a) (low i) (part a).access (part i).value (indexes a t sound x element)
          (record { literal = e; alone = told.0; quiet = told.1; gives = told.2 }) below base))
