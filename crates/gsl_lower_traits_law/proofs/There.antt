-- What may be evaluated where it does not count is there.
use Rattle.std.proofs.Common.{◌≡◌, refl, sym, ap, ap₂, ◌∙◌, subst, inl, inr, ◌⊎◌, ℕ, zero, suc, ◌<◌, ◌^◌, Bool, true, false, ◌&&◌, not, List, [], ◌∷◌, length, map, slice_get, Option, Some, None, if◌then◌else◌, arith}
use Rattle.std.specs.Prelude.{◌==◌, slice_index_or}
use Rattle.gsl_types.specs.Known.{AreStructs, IsSound}
use Rattle.gsl_types.specs.declared.ty.Scalar.TheVariants.{Bool as Boolean, Int}
use Rattle.gsl_types.specs.declared.ty.StructType.{StructType}
use Rattle.gsl_types.specs.declared.ty.Ty.{Ty}
use Rattle.gsl_types.specs.declared.ty.Ty.TheVariants as ty
use Rattle.gsl_types.specs.declared.ty.Ty.TheViews.{out-Ty}
use Rattle.gsl_values.specs.Choices.{answer}
use Rattle.gsl_values.specs.Operators.{binary_answer, binary_word, is_free}
use Rattle.gsl_values.specs.Vectors.{binary_each, components as picked}
use Rattle.gsl_values.specs.declared.op.BinaryOp.{BinaryOp}
use Rattle.gsl_values.specs.declared.op.BinaryOp.TheVariants as op
use Rattle.gsl_values.specs.declared.value.Value.{Value}
use Rattle.gsl_values.specs.declared.value.Value.TheVariants.{Word}
use Rattle.gsl_values.specs.declared.value.Value.TheOpen.{Value-F}
use Rattle.gsl_values.specs.declared.value.Value.TheViews.{out-Value}
use Rattle.gsl_tree.specs.Around.{Around}
use Rattle.gsl_tree.specs.Expressions.{HasType, IsBinary, IsExpr, IsNode, boolean, element_of, has_length_kind, is_in_range, types_of}
use Rattle.gsl_tree.specs.Operations.{binary_value, binary_words, build_value, decides, has_fixed_length, is_signed, length_of, logic_word, spread, unary_value}
use Rattle.gsl_tree.proofs.Nodes.{value_of_one}
use Rattle.gsl_tree.specs.Shapes.{Shape, shape_of}
use Rattle.gsl_tree.specs.Trees.{Throughout, ThroughoutAll, form_of, parts_of, type_of}
use Rattle.gsl_tree.specs.Values.{all_pass, components_in, is_scalar_layer, is_value_of, is_word_of, word_in, word_layer}
use Rattle.gsl_tree.specs.declared.expr.Expr.{Expr}
use Rattle.gsl_tree.specs.declared.expr.ExprKind.{ExprKind}
use Rattle.gsl_tree.specs.declared.expr.ExprKind.TheOpen.{ExprKind-F}
use Rattle.gsl_tree.specs.declared.expr.ExprKind.TheFolds.{fold-Expr, fold-ExprKind, fold-roll-Expr, map-ExprKind}
use Rattle.gsl_tree.specs.declared.expr.ExprKind.TheViews.{out-Expr, roll-out-Expr}
use Rattle.gsl_tree.specs.declared.expr.LogicOp.{LogicOp}
use Rattle.gsl_tree.specs.declared.expr.LogicOp.TheVariants as logic
use Rattle.gsl_typed_law.proofs.Bounds.{integer_fits, truth_fits}
use Rattle.gsl_typed_law.proofs.Built.{build_typed}
use Rattle.gsl_typed_law.proofs.Components.{scalar_typed}
use Rattle.gsl_typed_law.proofs.Conversions.{converted_same}
use Rattle.gsl_typed_law.proofs.Operators.{binary_typed, unary_typed}
use Rattle.gsl_meaning.specs.Accesses.{Access, Global, Interface, Local, Param, member_of, nothing, read, swizzle_of}
use Rattle.gsl_meaning.specs.Expressions.{Meant, Setting, counted, in_order, means, means_by, member_root, typed_by}
use Rattle.gsl_meaning.specs.Running.{Run, Got, behind, drawing, given, indexing, told_by, ◌>>=◌}
use Rattle.gsl_meaning.specs.State.{State}
use Rattle.gsl_lower_traits.specs.declared.traits.Traits.{Traits}
use Rattle.gsl_lower_traits.specs.Traits.{Known, has_shape, is_dynamic, is_plain, is_still_index, is_sure, known, known_by, literal_by, together_on, traits_by, traits_of, valued, with}
use Rattle.gsl_lower_traits_law.specs.Quiet.{AreHeld, AsksThere, IsThere, MayBeThere}
use Rattle.gsl_lower_traits_law.proofs.Coming.{both_true, never}
use Rattle.gsl_lower_traits_law.proofs.InBlocks.{root_few}
use Rattle.gsl_lower_traits_law.proofs.Literals.{literal_below}
use Rattle.gsl_lower_traits_law.proofs.Standing.{Stays, block_stays, index_stays, member_stays, read_there, root_stays, swizzle_stays, value_stays}
use Rattle.gsl_lower_traits_law.proofs.Told.{literal_word, means_form, part_is, traits_are}

-- ---- operators that draw nothing

sure_free : (op : BinaryOp) (signed : Bool) (a b : ℕ) → is_sure op ≡ true → is_free op signed a b ≡ false
sure_free op.Div signed a b sure = absurd (let z : false ≡ true = sure in cc)
sure_free op.Mod signed a b sure = absurd (let z : false ≡ true = sure in cc)
sure_free op.Shl signed a b sure = absurd (let z : false ≡ true = sure in cc)
sure_free op.Shr signed a b sure = absurd (let z : false ≡ true = sure in cc)
sure_free _ signed a b sure = refl

each_left : (op : BinaryOp) (signed : Bool) → is_sure op ≡ true → (xs ys choices : List ℕ) → (binary_each op signed xs ys choices).1 ≡ choices
unfolding binary_answer
each_left op signed sure [] ys choices = refl
each_left op signed sure (x ∷ xs) [] choices = refl
each_left op signed sure (x ∷ xs) (y ∷ ys) choices =
    each_left op signed sure xs ys (binary_answer op signed x y choices).1 ∙ ap (λ free. (answer free (binary_word op signed x y) choices).1) (sure_free op signed x y sure)

words_left : (op : BinaryOp) (signed : Bool) (v w : Value) (choices : List ℕ) → is_sure op ≡ true → (binary_words op signed (components_in v) (components_in w) choices).1 ≡ choices
words_left op signed v w choices sure =
    each_left op signed sure (spread (length (components_in w)) (components_in v)) (spread (length (components_in v)) (components_in w)) choices

value_left : (op : BinaryOp) (signed : Bool) (v w : Value) (choices : List ℕ) → is_sure op ≡ true → (binary_value op signed v w choices).1 ≡ choices
value_left op.Equal signed v w choices sure = refl
value_left op.Unequal signed v w choices sure = refl
value_left op.Add signed v w choices sure = words_left op.Add signed v w choices sure
value_left op.Sub signed v w choices sure = words_left op.Sub signed v w choices sure
value_left op.Mul signed v w choices sure = words_left op.Mul signed v w choices sure
value_left op.Div signed v w choices sure = words_left op.Div signed v w choices sure
value_left op.Mod signed v w choices sure = words_left op.Mod signed v w choices sure
value_left op.Shl signed v w choices sure = words_left op.Shl signed v w choices sure
value_left op.Shr signed v w choices sure = words_left op.Shr signed v w choices sure
value_left op.And signed v w choices sure = words_left op.And signed v w choices sure
value_left op.Or signed v w choices sure = words_left op.Or signed v w choices sure
value_left op.Xor signed v w choices sure = words_left op.Xor signed v w choices sure
value_left op.Less signed v w choices sure = words_left op.Less signed v w choices sure
value_left op.LessEq signed v w choices sure = words_left op.LessEq signed v w choices sure
value_left op.Greater signed v w choices sure = words_left op.Greater signed v w choices sure
value_left op.GreaterEq signed v w choices sure = words_left op.GreaterEq signed v w choices sure

-- ---- values

index_or : (items : List Value) (number : ℕ) (v : Value) → slice_get items number ≡ Some v → slice_index_or items number nothing ≡ v
index_or [] number v is = absurd cc
index_or (one ∷ items) zero v is = cc
index_or (one ∷ items) (suc number) v is = index_or items number v is

truth_word : (structs : List StructType) (v : Value) → is_value_of structs boolean v ≡ true → is_word_of Boolean (word_in v) ≡ true
truth_word structs v fits = by (out-Value v) (sym (value_of_one structs Boolean v) ∙ fits)
  where
    by : (layer : Value-F Value) → is_scalar_layer Boolean layer ≡ true → is_word_of Boolean (word_layer layer) ≡ true
    by (Value-F.Word word) is = is
    by (Value-F.Many parts) is = absurd (let z : false ≡ true = is in cc)

joined_word : (op : LogicOp) (a b : ℕ) → is_word_of Boolean b ≡ true → is_word_of Boolean (logic_word op a b) ≡ true
joined_word logic.And a b fits = fits
joined_word logic.Or a b fits = fits
joined_word logic.Xor a b fits = truth_fits (not (a == b))

-- ---- every kind, over whatever says what is known of its parts

-- what is known for a literal is a constant of that number
abbrev pub AreConstants : (Expr → Known) → Type 0
AreConstants known_as = (i : Expr) (number : ℕ) → (known_as i).traits.literal ≡ Some number → (v : Value) × (form_of i ≡ ExprKind-F.Const v) × (word_in v ≡ number)

-- where blocks are seen in few bytes, a runtime array has as many elements as a word counts
abbrev pub IsFew : Bool → Around → Ty → (State → ℕ) → Type 0
IsFew few around t count = few ≡ true → has_length_kind (out-Ty t) ≡ true → has_fixed_length t ≡ false → (s : State) → AreHeld few around s → count s < 2 ^ 32

module _ (few : Bool) (around : Around) (are : AreStructs around.structs) (setting : Setting) (kinds_as : ExprKind → Ty → Traits) (known_as : Expr → Known) (constants : AreConstants known_as) where
  abbrev part : Expr → Meant
  part = fold-Expr (Ty → Meant) Meant (means_by setting) typed_by

  -- a part that may be evaluated where it does not count is there, and so is a part of a variable that stands still
  pub record IsQuiet (e : Expr) : Type 0 where
    pub sound : IsSound (length around.structs) (type_of e)
    pub there : (known_as e).traits.quiet ≡ true → IsThere few around (type_of e) (part e).value
    pub stays : (known_as e).traits.still ≡ true → Stays few around are (type_of e) (part e).access
    pub typed : (part e).ty ≡ type_of e
    pub known : (known_as e).ty ≡ type_of e
    pub short : IsFew few around (type_of e) (part e).parts

  abbrev pub AllQuiet : List Expr → Type 0
  AllQuiet [] = Unit {0}
  AllQuiet (e ∷ es) = IsQuiet e × AllQuiet es

  abbrev Goal : ExprKind-F ExprKind Expr → Ty → Type 0
  Goal form t = (traits_by (map-ExprKind ExprKind Expr (Ty → Traits) Known kinds_as known_as form) t).quiet ≡ true → IsThere few around t (means_form setting form t).value

  -- what is there, and then
  there_then : (t u : Ty) (x : Run Value) (next : Value → Run Value) → IsThere few around t x → ((v : Value) → is_value_of around.structs t v ≡ true → IsThere few around u (next v)) → IsThere few around u (x >>= next)
  there_then t u x next first more s units held =
      let a = first s units held in
      let b = more a.0 a.2 s units held in
      (b.0, ap (λ ran. behind ran next) a.1 ∙ b.1, b.2)

  given_there : (t : Ty) (v : Value) → is_value_of around.structs t v ≡ true → IsThere few around t (given v)
  given_there t v fits s units held = (v, refl, fits)

  if_there : (t : Ty) (b : Bool) (x y : Run Value) → IsThere few around t x → IsThere few around t y → IsThere few around t (if b then x else y)
  if_there t true x y first second = first
  if_there t false x y first second = second

  drawn_there : (op : BinaryOp) (signed : Bool) (a b t : Ty) (v w : Value) → is_sure op ≡ true → IsSound (length around.structs) a → IsSound (length around.structs) b → IsBinary around op a b t → is_value_of around.structs a v ≡ true → is_value_of around.structs b w ≡ true
      → IsThere few around t (drawing (binary_value op signed v w))
  drawn_there op signed a b t v w sure sound_a sound_b is fits_v fits_w s units held = (
    (binary_value op signed v w s.choices).0,
    ap (λ c. Got (binary_value op signed v w s.choices).0 (record s { choices = c }) units) (value_left op signed v w s.choices sure),
    (binary_typed around op signed a b t v w s.choices sound_a sound_b is fits_v fits_w held.choices).typed,
  )

  -- ---- what stands still

  -- what is read there
  plain_there : (t : Ty) (access : Run Access) → IsSound (length around.structs) t → is_plain t ≡ true → Stays few around are t access → IsThere few around t (access >>= (λ a. told_by (read setting.structs t a)))
  plain_there t access sound plain stays = by (shape_of t) refl plain
    where
      by : (o : Option Shape) → shape_of t ≡ o → has_shape o ≡ true → IsThere few around t (access >>= (λ a. told_by (read setting.structs t a)))
      by None e known = absurd (let z : false ≡ true = known in cc)
      by (Some shape) e known = read_there few around are setting.structs t shape access sound e stays

  constant_is : (i : Expr) (v : Value) → form_of i ≡ ExprKind-F.Const v → (part i).value ≡ given v
  constant_is i v is = ap (λ (x : Meant). x.value) (part_is setting i) ∙ ap (λ form. (means_form setting form (type_of i)).value) is

  still_index : (a i : Expr) (t : Ty) → IsQuiet a → element_of (type_of a) ≡ Some t → is_in_range around a i ≡ true → is_still_index (known_as a) (known_as i).traits ≡ true
      → Stays few around are t ((part a).access >>= (λ x. (part i).value >>= (λ v. indexing x (word_in v))))
  still_index a i t base element range still = by (known_as i).traits.literal refl second.1
    where
      first : (((known_as a).traits.still && not (is_dynamic (known_as i).traits.literal)) ≡ true) × (has_fixed_length (known_as a).ty ≡ true)
      first = both_true _ (has_fixed_length (known_as a).ty) still

      second : ((known_as a).traits.still ≡ true) × (not (is_dynamic (known_as i).traits.literal) ≡ true)
      second = both_true (known_as a).traits.still (not (is_dynamic (known_as i).traits.literal)) first.0

      by : (o : Option ℕ) → (known_as i).traits.literal ≡ o → not (is_dynamic o) ≡ true → Stays few around are t ((part a).access >>= (λ x. (part i).value >>= (λ v. indexing x (word_in v))))
      by None e known = absurd (let z : false ≡ true = known in cc)
      by (Some number) e known =
          let l = constants i number e in
          index_stays few around are (type_of a) l.0 t (part a).access (part i).value (constant_is i l.0 l.1) base.sound element (literal_below around a i t l.0 l.1 element (ap has_fixed_length (sym base.known) ∙ first.1) range) (base.stays second.0)

  -- a length that is a word
  counted_there : (a : Expr) (t : Ty) (count : State → ℕ) → t ≡ ty.One Int → ((s : State) → counted (part a) s ≡ Word (count s)) → ((s : State) → AreHeld few around s → count s < 2 ^ 32) → IsThere few around t (told_by (counted (part a)))
  counted_there a t count is told below s units held = (
    Word (count s),
    ap (λ v. Got v s units) (told s),
    subst (λ u. is_value_of around.structs u (Word (count s)) ≡ true) (sym is) (scalar_typed around.structs Int (count s) (integer_fits Int (count s) refl (below s held))),
  )

  length_there : (a : Expr) (t : Ty) → t ≡ ty.One Int → IsQuiet a → has_length_kind (out-Ty (type_of a)) ≡ true → (has_fixed_length (type_of a) ≡ true → length_of (type_of a) < 2 ^ 32)
      → (has_fixed_length (type_of a) ≡ false → (few ≡ true) ⊎ IsThere few around t (told_by (counted (part a)))) → IsThere few around t (told_by (counted (part a)))
  length_there a t is base long small runtime = by (has_fixed_length (type_of a)) refl
    where
      told : (b : Bool) → has_fixed_length (type_of a) ≡ b → (s : State) → counted (part a) s ≡ (if b then Word (length_of (part a).ty) else Word ((part a).parts s))
      told b e s = ap (λ b. if b then Word (length_of (part a).ty) else Word ((part a).parts s)) (ap has_fixed_length base.typed ∙ e)

      runtime_there : has_fixed_length (type_of a) ≡ false → (few ≡ true) ⊎ IsThere few around t (told_by (counted (part a))) → IsThere few around t (told_by (counted (part a)))
      runtime_there e (inl so) = counted_there a t (part a).parts is (told false e) (base.short so long e)
      runtime_there e (inr there) = there

      by : (b : Bool) → has_fixed_length (type_of a) ≡ b → IsThere few around t (told_by (counted (part a)))
      by false e = runtime_there e (runtime e)
      by true e = counted_there a t (λ s. length_of (type_of a)) is (λ s. told true e s ∙ ap (λ u. Word (length_of u)) base.typed) (λ s held. small e)

  -- ---- in a row

  abbrev AllTrue : List Expr → Type 0
  AllTrue [] = Unit {0}
  AllTrue (e ∷ es) = ((known_as e).traits.quiet ≡ true) × AllTrue es

  row_quiet : (so_far : Traits) (es : List Expr) → (together_on so_far (map known_as es)).quiet ≡ true → (so_far.quiet ≡ true) × AllTrue es
  row_quiet so_far [] e = (e, tt)
  row_quiet so_far (one ∷ es) e =
      let more = row_quiet (with so_far (known_as one).traits) es e in
      let here = both_true so_far.quiet (known_as one).traits.quiet more.0 in
      (here.0, (here.1, more.1))

  row_there : (es : List Expr) → AllQuiet es → AllTrue es → (s : State) (units : ℕ) → AreHeld few around s → (vs : List Value) × (in_order (map part es) s units ≡ Got vs s units) × (all_pass (map (is_value_of around.structs) (types_of es)) vs ≡ true)
  row_there [] all quiet s units held = ([], refl, refl)
  row_there (e ∷ es) all quiet s units held =
      let first = all.0.there quiet.0 s units held in
      let rest = row_there es all.1 quiet.1 s units held in
      (first.0 ∷ rest.0, ap (λ ran. behind ran (λ v. in_order (map part es) >>= (λ vs. given (v ∷ vs)))) first.1 ∙ ap (λ ran. behind ran (λ vs. given (first.0 ∷ vs))) rest.1, ap₂ (λ a b. a && b) first.2 rest.2)

  pub by_form : (e : Expr) (form : ExprKind-F ExprKind Expr) → part e ≡ means_form setting form (type_of e) → IsSound (length around.structs) (type_of e) → AllQuiet (parts_of form) → HasType around form (type_of e) → AsksThere few around setting e form → Goal form (type_of e)
  unfolding means
  by_form e (ExprKind-F.Const v) w sound all is asks q = given_there (type_of e) v is.0
  by_form e (ExprKind-F.Local n) w sound all is asks q = λ s units held. let h = held.locals n (type_of e) is in (h.0, ap (λ v. Got v s units) (index_or s.locals n h.0 h.1), h.2)
  by_form e (ExprKind-F.Global n) w sound all is asks q = λ s units held. let h = held.globals n (type_of e) is in (h.0, ap (λ v. Got v s units) (index_or s.globals n h.0 h.1), h.2)
  by_form e (ExprKind-F.Param n) w sound all is asks q = λ s units held. let h = held.params n (type_of e) is in (h.0, ap (λ v. Got v s units) (index_or s.params n h.0 h.1), h.2)
  by_form e (ExprKind-F.Interface n) w sound all is asks q = λ s units held. let h = held.interfaces n (type_of e) is in (h.0, ap (λ v. Got v s units) (index_or s.interfaces n h.0 h.1), h.2)
  by_form e (ExprKind-F.Stage var) w sound all is asks q = given_there (type_of e) (setting.stage_value var) (subst (λ t. is_value_of around.structs t (setting.stage_value var) ≡ true) is.1 asks)
  by_form e (ExprKind-F.BlockMember block n) w sound all is asks q = plain_there (type_of e) (given (member_root block n)) sound q (block_stays few around are block n (type_of e) is)
  by_form e (ExprKind-F.Member a n) w sound all is asks q =
      let both = both_true (known_as a).traits.still (is_plain (type_of e)) q in
      plain_there (type_of e) ((part a).access >>= (λ x. given (member_of x n))) sound both.1 (member_stays few around are (type_of a) n (type_of e) (part a).access is (all.0.stays both.0))
  by_form e (ExprKind-F.Index a i) w sound all is asks q =
      let both = both_true (is_still_index (known_as a) (known_as i).traits) (is_plain (type_of e)) q in
      plain_there (type_of e) ((part a).access >>= (λ x. (part i).value >>= (λ v. indexing x (word_in v)))) sound both.1 (still_index a i (type_of e) all.0 is.0 is.2 both.0)
  by_form e (ExprKind-F.Swizzle a lanes) w sound all is asks q =
      let both = both_true (known_as a).traits.still (is_plain (type_of e)) q in
      plain_there (type_of e) ((part a).access >>= (λ x. given (swizzle_of x (picked lanes)))) sound both.1 (swizzle_stays few around are (type_of a) lanes (type_of e) (part a).access asks is (all.0.stays both.0))
  by_form e (ExprKind-F.Length a) w sound all is asks q = length_there a (type_of e) is.0 all.0 is.1 asks.0 (λ runtime. subst (λ (x : Meant). (few ≡ true) ⊎ IsThere few around (type_of e) x.value) w (asks.1 runtime))
  by_form e (ExprKind-F.Unary op a) w sound all is asks q =
      there_then (type_of a) (type_of e) (part a).value (λ v. given (unary_value op v)) (all.0.there q) (λ v fits. given_there (type_of e) (unary_value op v) (unary_typed around.structs op (type_of a) (type_of e) v is fits))
  by_form e (ExprKind-F.Binary op a b) w sound all is asks q =
      let both = both_true _ (is_sure op) q in
      let each = both_true (known_as a).traits.quiet (known_as b).traits.quiet both.0 in
      there_then (type_of a) (type_of e) (part a).value (λ x. (part b).value >>= (λ y. drawing (binary_value op (is_signed (part a).ty) x y))) (all.0.there each.0)
      (λ x fits_x. there_then (type_of b) (type_of e) (part b).value (λ y. drawing (binary_value op (is_signed (part a).ty) x y)) (all.1.0.there each.1)
      (λ y fits_y. drawn_there op (is_signed (part a).ty) (type_of a) (type_of b) (type_of e) x y both.1 all.0.sound all.1.0.sound is fits_x fits_y))
  by_form e (ExprKind-F.Logic op a b) w sound all is asks q =
      let each = both_true (known_as a).traits.quiet (known_as b).traits.quiet (both_true _ true q).0 in
      there_then (type_of a) (type_of e) (part a).value (λ x. if decides op (word_in x) then given x else (part b).value >>= (λ y. given (Word (logic_word op (word_in x) (word_in y))))) (all.0.there each.0)
      (λ x fits_x. if_there (type_of e) (decides op (word_in x)) (given x) ((part b).value >>= (λ y. given (Word (logic_word op (word_in x) (word_in y)))))
      (given_there (type_of e) x (subst (λ t. is_value_of around.structs t x ≡ true) (is.0 ∙ sym is.2) fits_x))
      (there_then (type_of b) (type_of e) (part b).value (λ y. given (Word (logic_word op (word_in x) (word_in y)))) (all.1.0.there each.1)
      (λ y fits_y. given_there (type_of e) (Word (logic_word op (word_in x) (word_in y)))
      (subst (λ t. is_value_of around.structs t (Word (logic_word op (word_in x) (word_in y))) ≡ true) (sym is.2)
      (scalar_typed around.structs Boolean (logic_word op (word_in x) (word_in y)) (joined_word op (word_in x) (word_in y) (truth_word around.structs y (subst (λ t. is_value_of around.structs t y ≡ true) is.1 fits_y))))))))
  by_form e (ExprKind-F.Choose test a b) w sound all is asks q =
      let first = both_true (known_as test).traits.quiet _ q in
      let last = both_true _ (known_as b).traits.quiet first.1 in
      let middle = both_true _ (known_as a).traits.quiet last.0 in
      there_then (type_of test) (type_of e) (part test).value (λ v. if word_in v == 0 then (part b).value else (part a).value) (all.0.there first.0)
      (λ v fits. if_there (type_of e) (word_in v == 0) (part b).value (part a).value (subst (λ t. IsThere few around t (part b).value) is.2 (all.1.1.0.there last.1)) (subst (λ t. IsThere few around t (part a).value) is.1 (all.1.0.there middle.1)))
  by_form e (ExprKind-F.Assign a b) w sound all is asks q = never _ q
  by_form e (ExprKind-F.Update op a b) w sound all is asks q = never _ q
  by_form e (ExprKind-F.Step op a) w sound all is asks q = absurd (let z : false ≡ true = q in cc)
  by_form e (ExprKind-F.Call n args) w sound all is asks q = absurd (let z : false ≡ true = q in cc)
  by_form e (ExprKind-F.Built which args) w sound all is asks q = absurd (let z : false ≡ true = q in cc)
  by_form e (ExprKind-F.Build args) w sound all is asks q = λ s units held.
      let quiet = row_quiet (valued false false true) args (both_true _ _ q).0 in
      let row = row_there args all quiet.1 s units held in
      (build_value (type_of e) row.0, ap (λ ran. behind ran (λ vs. given (build_value (type_of e) vs))) row.1, build_typed around are args row.0 row.2 (type_of e) is)
  by_form e (ExprKind-F.Convert a) w sound all is asks q = λ s units held.
      let x = all.0.there q s units held in
      (x.0, x.1, sym (converted_same around.structs (type_of a) (type_of e) x.0 is.0) ∙ x.2)
  by_form e (ExprKind-F.Comma items) w sound all is asks q = absurd (let z : false ≡ true = q in cc)

  -- where every kind leads
  pub stays_by_form : (e : Expr) (form : ExprKind-F ExprKind Expr) → part e ≡ means_form setting form (type_of e) → IsSound (length around.structs) (type_of e) → AllQuiet (parts_of form) → HasType around form (type_of e) → AsksThere few around setting e form
      → (traits_by (map-ExprKind ExprKind Expr (Ty → Traits) Known kinds_as known_as form) (type_of e)).still ≡ true → Stays few around are (type_of e) (means_form setting form (type_of e)).access
  stays_by_form e (ExprKind-F.Local n) w sound all is asks still =
      root_stays few around are (type_of e) (Local n) refl (λ s held. let h = held.locals n (type_of e) is in ap (is_value_of around.structs (type_of e)) (index_or s.locals n h.0 h.1) ∙ h.2)
  stays_by_form e (ExprKind-F.Global n) w sound all is asks still =
      root_stays few around are (type_of e) (Global n) refl (λ s held. let h = held.globals n (type_of e) is in ap (is_value_of around.structs (type_of e)) (index_or s.globals n h.0 h.1) ∙ h.2)
  stays_by_form e (ExprKind-F.Param n) w sound all is asks still =
      root_stays few around are (type_of e) (Param n) refl (λ s held. let h = held.params n (type_of e) is in ap (is_value_of around.structs (type_of e)) (index_or s.params n h.0 h.1) ∙ h.2)
  stays_by_form e (ExprKind-F.Interface n) w sound all is asks still =
      root_stays few around are (type_of e) (Interface n) refl (λ s held. let h = held.interfaces n (type_of e) is in ap (is_value_of around.structs (type_of e)) (index_or s.interfaces n h.0 h.1) ∙ h.2)
  stays_by_form e (ExprKind-F.BlockMember block n) w sound all is asks still = block_stays few around are block n (type_of e) is
  stays_by_form e (ExprKind-F.Member a n) w sound all is asks still = member_stays few around are (type_of a) n (type_of e) (part a).access is (all.0.stays still)
  stays_by_form e (ExprKind-F.Index a i) w sound all is asks still = still_index a i (type_of e) all.0 is.0 is.2 still
  stays_by_form e (ExprKind-F.Swizzle a lanes) w sound all is asks still = swizzle_stays few around are (type_of a) lanes (type_of e) (part a).access asks is (all.0.stays still)
  stays_by_form e form w sound all is asks still = value_stays few around are (type_of e) (means_form setting form (type_of e)).value (by_form e form w sound all is asks still)

-- every kind means something of its type
pub meant_type : (setting : Setting) (form : ExprKind-F ExprKind Expr) (t : Ty) → (means_form setting form t).ty ≡ t
meant_type setting (ExprKind-F.Const v) t = refl
meant_type setting form t = refl

-- only members of blocks have elements that are counted
pub few_by_form : (few : Bool) (around : Around) (are : AreStructs around.structs) (setting : Setting) (form : ExprKind-F ExprKind Expr) (t : Ty) → HasType around form t → IsFew few around t (means_form setting form t).parts
few_by_form few around are setting (ExprKind-F.BlockMember block n) t is = λ so long free s held. root_few few around are s held block n t is so long free
few_by_form few around are setting form t is = λ so long free s held. let z : 0 < 2 ^ 32 = omega arith in z

-- ---- by what is known of trees

module _ (few : Bool) (around : Around) (are : AreStructs around.structs) (setting : Setting) where
  abbrev kinds_known : ExprKind → Ty → Traits
  kinds_known = fold-ExprKind (Ty → Traits) Known traits_by known_by

  constants : AreConstants known
  constants i number e =
      let l = by (form_of i) (type_of i) (ap (λ (t : Traits). t.literal) (sym (traits_are setting i)) ∙ e) in
      (l.0, l.1, literal_word (out-Ty (type_of i)) l.0 number l.2)
    where
      by : (form : ExprKind-F ExprKind Expr) (t : Ty) → (traits_by (map-ExprKind ExprKind Expr (Ty → Traits) Known kinds_known known form) t).literal ≡ Some number → (v : Value) × (form ≡ ExprKind-F.Const v) × (literal_by (out-Ty t) v ≡ Some number)
      by (ExprKind-F.Const v) t e = (v, refl, e)
      by form t e = absurd (let z : None ≡ Some number = e in cc)

  abbrev Here : Expr → Type 0
  Here = IsQuiet few around are setting kinds_known known constants

  abbrev AllHere : List Expr → Type 0
  AllHere = AllQuiet few around are setting kinds_known known constants

  one_there : (e : Expr) → IsNode around e → IsSound (length around.structs) (type_of e) → MayBeThere few around setting e → AllHere (parts_of (form_of e)) → Here e
  one_there e node sound asks all = record {
    sound = sound;
    there = λ q.
        subst (λ (x : Meant). IsThere few around (type_of e) x.value) (sym (part_is setting e))
        (by_form few around are setting kinds_known known constants e (form_of e) (part_is setting e) sound all node.type asks (ap (λ (k : Traits). k.quiet) (sym (traits_are setting e)) ∙ q));
    stays = λ still.
        subst (λ (x : Meant). Stays few around are (type_of e) x.access) (sym (part_is setting e))
        (stays_by_form few around are setting kinds_known known constants e (form_of e) (part_is setting e) sound all node.type asks (ap (λ (k : Traits). k.still) (sym (traits_are setting e)) ∙ still));
    typed = ap (λ (x : Meant). x.ty) (part_is setting e) ∙ meant_type setting (form_of e) (type_of e);
    known = ap (λ (k : Known). k.ty) (ap known (sym (roll-out-Expr e)) ∙ fold-roll-Expr (Ty → Traits) Known traits_by known_by (out-Expr e));
    short = subst (λ (x : Meant). IsFew few around (type_of e) x.parts) (sym (part_is setting e)) (few_by_form few around are setting (form_of e) (type_of e) node.type);
  }

  mutual
    there : (e : Expr) → Throughout (IsNode around) e → Throughout (λ (x : Expr). IsSound (length around.structs) (type_of x)) e → Throughout (MayBeThere few around setting) e → Here e
    there _ (Throughout.whole e node parts) (Throughout.whole _ sound sounds) (Throughout.whole _ ask asks) = one_there e node sound ask (all_there (parts_of (form_of e)) parts sounds asks)

    all_there : (es : List Expr) → ThroughoutAll (IsNode around) es → ThroughoutAll (λ (x : Expr). IsSound (length around.structs) (type_of x)) es → ThroughoutAll (MayBeThere few around setting) es → AllHere es
    all_there _ ThroughoutAll.none sounds asks = tt
    all_there _ (ThroughoutAll.more e es is rest) (ThroughoutAll.more _ _ sound sounds) (ThroughoutAll.more _ _ ask asks) = (there e is sound ask, all_there es rest sounds asks)

pub quiet_there : (few : Bool) (around : Around) (setting : Setting) (e : Expr) → AreStructs around.structs → IsExpr around e → Throughout (λ (x : Expr). IsSound (length around.structs) (type_of x)) e → Throughout (MayBeThere few around setting) e → (traits_of e).quiet ≡ true
    → IsThere few around (type_of e) (means setting e).value
unfolding means traits_of
quiet_there few around setting e are is sound asks quiet = (there few around are setting e is sound asks).there quiet
