-- What operations give has the shapes of their results.
use Rattle.std.proofs.Common.{◌≡◌, refl, sym, ap, ◌∙◌, subst, ℕ, zero, suc, ◌+◌, Bool, true, false, ◌&&◌, ◌||◌, if◌then◌else◌, List, [], ◌∷◌, map, replicate, length, ◌⊎◌, inl, inr, arith}
use Rattle.std.specs.List.{list_all}
use Rattle.std.specs.Prelude.{◌==◌}
use Rattle.std.proofs.lemmas.Bool.{and_parts, eqb-true, or_cases, or_parts, or_right, true≢false}
use Rattle.gsl_instr.specs.declared.enumerant.glsl_std_450.TheConstants as extended
use Rattle.gsl_instr.specs.declared.op.TheConstants as op
use Rattle.gsl_words.specs.declared.module.Module.{Module}
use Rattle.gsl_values.specs.declared.function.Builtin.{Builtin}
use Rattle.gsl_values.specs.declared.function.Builtin.TheVariants as f
use Rattle.gsl_values.specs.declared.op.BinaryOp.{BinaryOp}
use Rattle.gsl_values.specs.declared.value.Value.{Value}
use Rattle.gsl_values.specs.Vectors.{binary_each}
use Rattle.gsl_tree.specs.Operations.{builtin_each, builtin_value, builtin_words, first_count, of_words, spread}
use Rattle.gsl_tree.specs.Values.{components_in, of_components}
use Rattle.gsl_valid.specs.ExtendedRules.{Extended, fit_as, is_result}
use Rattle.gsl_valid.specs.OperandRules.{Only, is_signed, is_truth, is_unary_of, is_vector}
use Rattle.gsl_valid.specs.Kinds.{shape_of}
use Rattle.gsl_valid.specs.Types.{bool_type, defined_as, has_type, is_int, is_ints, is_truths, is_words, is_words_of, lanes_of, same_size}
use Rattle.gsl_machine.specs.Operations.{Operator, binary, extend, extracted, function_of, inserted, select, shuffled, unary}
use Rattle.gsl_sound_code.proofs.Looks.{Kept}
use Rattle.gsl_sound_values.specs.Shaped.{is_shaped}
use Rattle.gsl_sound_values.proofs.Constants.{word_shaped}
use Rattle.gsl_sound_values.proofs.Counted.{HasLanes, Size, counted, lanes_first, lanes_there, of_counted, same_shape, sizes_same, words_counted}

-- ---- counts of words

binary_counted : (operator : BinaryOp) (signed : Bool) (xs ys choices : List ℕ) (n : ℕ) → length xs ≡ n → length ys ≡ n → length (binary_each operator signed xs ys choices).0 ≡ n
binary_counted operator signed [] ys choices n first second = first
binary_counted operator signed (x ∷ xs) [] choices n first second = absurd (omega (arith, first, second))
binary_counted operator signed (x ∷ xs) (y ∷ ys) choices zero first second = absurd (omega (arith, first))
binary_counted operator signed (x ∷ xs) (y ∷ ys) choices (suc n) first second = ap suc (binary_counted operator signed xs ys _ n (omega (arith, first)) (omega (arith, second)))

repeated_counted : (word n : ℕ) → length (replicate n word) ≡ n
repeated_counted word zero = refl
repeated_counted word (suc n) = ap suc (repeated_counted word n)

spread_counted : (count : ℕ) (xs : List ℕ) (n : ℕ) → length xs ≡ n → count ≡ n → length (spread count xs) ≡ n
spread_counted count [] n is same = is
spread_counted count (word ∷ []) n is same = repeated_counted word count ∙ same
spread_counted count (word ∷ next ∷ words) n is same = is

pub each_counted : (which : Builtin) (signed : Bool) (args : List (List ℕ)) (count from : ℕ) (choices : List ℕ) → length (builtin_each which signed args count from choices).0 ≡ count
each_counted which signed args zero from choices = refl
each_counted which signed args (suc count) from choices = ap suc (each_counted which signed args count (from + 1) _)

-- ---- functions that go component by component

abbrev pub joins : Builtin → Bool
joins f.Any = true
joins f.All = true
joins _ = false

pub each_words : (which : Builtin) (signed : Bool) (args : List (List ℕ)) (choices : List ℕ) → joins which ≡ false → builtin_words which signed args choices ≡ of_words (builtin_each which signed args (first_count args) 0 choices)
each_words f.Any signed args choices is = absurd (true≢false is)
each_words f.All signed args choices is = absurd (true≢false is)
each_words _ signed args choices is = refl

either : (b : Bool) (x y : Builtin × Bool) → joins x.0 ≡ false → joins y.0 ≡ false → joins (if b then x else y).0 ≡ false
either true x y first second = first
either false x y first second = second

pub extended_each : (number : ℕ) → joins (function_of number).0 ≡ false
extended_each number =
    either (number == extended.S_ABS) _ _ refl (either (number == extended.S_SIGN) _ _ refl (either (number == extended.U_MIN) _ _ refl (either (number == extended.S_MIN) _ _ refl
    (either (number == extended.U_MAX) _ _ refl (either (number == extended.S_MAX) _ _ refl (either (number == extended.U_CLAMP) _ _ refl (either (number == extended.S_CLAMP) _ _ refl
    (either (number == extended.FIND_I_LSB) _ _ refl (either (number == extended.FIND_S_MSB) _ _ refl refl)))))))))

module _ (m : Module) (kept : Kept m) where
  -- a function that goes component by component gives as many as its first argument has
  builtin_shaped : (type a : ℕ) (which : Builtin) (signed : Bool) (v : Value) (vs : List Value) (choices : List ℕ) → joins which ≡ false → HasLanes m type → HasLanes m a → Size m type ≡ Size m a → is_shaped m a v ≡ true
      → is_shaped m type (builtin_value which signed (v ∷ vs) choices).0 ≡ true
  builtin_shaped type a which signed v vs choices each has had same is =
      ap (λ g. is_shaped m type g.0) (each_words which signed (map components_in (v ∷ vs)) choices each)
      ∙ of_counted m kept type _ has (each_counted which signed (map components_in (v ∷ vs)) (length (components_in v)) 0 choices ∙ counted m kept a v had is ∙ sym same)

  -- an operator on two values
  pub binary_shaped : (type a b : ℕ) (operator : Operator) (x y : Value) (choices : List ℕ) → same_size (lanes_of m type) (lanes_of m a) ≡ true → same_size (lanes_of m a) (lanes_of m b) ≡ true → same_size (lanes_of m b) (lanes_of m a) ≡ true
      → is_shaped m a x ≡ true → is_shaped m b y ≡ true → is_shaped m type (binary operator x y choices).0 ≡ true
  binary_shaped type a b operator x y choices first second third left right =
      let has = lanes_first m type (lanes_of m a) first in
      let had = lanes_first m a (lanes_of m b) second in
      let same = sizes_same (lanes_of m type) (lanes_of m a) first in
      let alike = sizes_same (lanes_of m a) (lanes_of m b) second in
      let xs = counted m kept a x had left ∙ sym same in
      let ys = counted m kept b y (lanes_first m b (lanes_of m a) third) right ∙ sym alike ∙ sym same in
      of_counted m kept type _ has
      (binary_counted operator.0 operator.1 (spread (length (components_in y)) (components_in x)) (spread (length (components_in x)) (components_in y)) choices (Size m type) (spread_counted _ (components_in x) (Size m type) xs ys)
      (spread_counted _ (components_in y) (Size m type) ys xs))

  -- the first of two values or the second
  pub select_shaped : (type condition : ℕ) (c a b : Value) → same_size (lanes_of m type) (lanes_of m condition) ≡ true → is_shaped m type b ≡ true → is_shaped m type (select c a b) ≡ true
  select_shaped type condition c a b same is = let has = lanes_first m type (lanes_of m condition) same in builtin_shaped type type f.Mix false b (a ∷ c ∷ []) [] refl has has refl is

  pub inserted_shaped : (type : ℕ) (base insert offset count : Value) (choices : List ℕ) → is_ints m type ≡ true → is_shaped m type base ≡ true → is_shaped m type (inserted base insert offset count choices).0 ≡ true
  inserted_shaped type base insert offset count choices ints is = let has = lanes_there m is_words type ints in builtin_shaped type type f.BitfieldInsert false base (insert ∷ offset ∷ count ∷ []) choices refl has has refl is

  pub extracted_shaped : (type code : ℕ) (base offset count : Value) (choices : List ℕ) → is_ints m type ≡ true → is_shaped m type base ≡ true → is_shaped m type (extracted code base offset count choices).0 ≡ true
  extracted_shaped type code base offset count choices ints is =
      let has = lanes_there m is_words type ints in builtin_shaped type type f.BitfieldExtract (code == op.BIT_FIELD_S_EXTRACT) base (offset ∷ count ∷ []) choices refl has has refl is

  -- an extended instruction
  pub extend_shaped : (e : Extended) (type other number : ℕ) (operands : List ℕ) (v : Value) (vs : List Value) → fit_as m e type operands other ≡ true → is_shaped m other v ≡ true → is_shaped m type (extend number (v ∷ vs)) ≡ true
  extend_shaped e type other number operands v vs fit is =
      let last = and_parts (is_ints m other && is_signed m e.sign other && list_all (has_type m other) operands) (is_result m e.finds type other) fit in
      let middle = and_parts (is_ints m other && is_signed m e.sign other) (list_all (has_type m other) operands) last.0 in
      let had = lanes_there m is_words other (and_parts (is_ints m other) (is_signed m e.sign other) middle.0).0 in
      by_result e.finds had last.1
    where
      by_result : (finds : Bool) → HasLanes m other → is_result m finds type other ≡ true → is_shaped m type (extend number (v ∷ vs)) ≡ true
      by_result true had result =
          let both = and_parts (is_signed m (Only 1) type) (same_size (lanes_of m type) (lanes_of m other)) result in
          builtin_shaped type other (function_of number).0 (function_of number).1 v vs [] (extended_each number) (lanes_there m (is_words_of 1) type both.0) had (sizes_same (lanes_of m type) (lanes_of m other) both.1) is
      by_result false had result =
          subst (λ t. is_shaped m t (extend number (v ∷ vs)) ≡ true) (sym (eqb-true type other result)) (builtin_shaped other other (function_of number).0 (function_of number).1 v vs [] (extended_each number) had had refl is)

  -- components of two vectors
  pub shuffled_shaped : (type : ℕ) (a b : Value) (places : List ℕ) → HasLanes m type → length places ≡ Size m type → is_shaped m type (shuffled a b places) ≡ true
  shuffled_shaped type a b places has is = of_counted m kept type _ has (words_counted _ places (Size m type) is)

  -- ---- operations on one value

  -- An operation gives as many components as it takes, and joins none.
  pub record Alike (code type other : ℕ) : Type 0 where
    pub has : HasLanes m type
    pub had : HasLanes m other
    pub same : Size m type ≡ Size m other
    pub any : (code == op.ANY) ≡ false
    pub all : (code == op.ALL) ≡ false

  alike_itself : (code type other : ℕ) (test : ℕ → Bool) → ((t : ℕ) → test t ≡ true → HasLanes m t) → (code == op.ANY || code == op.ALL) ≡ false → (test type && type == other) ≡ true → Alike code type other
  alike_itself code type other test lanes none is =
      let parts = and_parts (test type) (type == other) is in
      let has = lanes type parts.0 in
      let e = eqb-true type other parts.1 in
      let neither = or_parts (code == op.ANY) (code == op.ALL) none in
      record { has = has; had = subst (HasLanes m) e has; same = ap (Size m) e; any = neither.0; all = neither.1 }

  alike_ints : (code type other : ℕ) → (code == op.BITCAST || code == op.BIT_COUNT) ≡ true → (is_ints m type && is_ints m other && same_size (lanes_of m type) (lanes_of m other)) ≡ true → Alike code type other
  alike_ints code type other cast is =
      let last = and_parts (is_ints m type && is_ints m other) (same_size (lanes_of m type) (lanes_of m other)) is in
      let both = and_parts (is_ints m type) (is_ints m other) last.0 in
      record {
        has = lanes_there m is_words type both.0;
        had = lanes_there m is_words other both.1;
        same = sizes_same (lanes_of m type) (lanes_of m other) last.1;
        any = elim (or_cases (code == op.BITCAST) (code == op.BIT_COUNT) cast) [ inl e ↦ ap (λ n. n == op.ANY) (eqb-true code op.BITCAST e) | inr e ↦ ap (λ n. n == op.ANY) (eqb-true code op.BIT_COUNT e) ];
        all = elim (or_cases (code == op.BITCAST) (code == op.BIT_COUNT) cast) [ inl e ↦ ap (λ n. n == op.ALL) (eqb-true code op.BITCAST e) | inr e ↦ ap (λ n. n == op.ALL) (eqb-true code op.BIT_COUNT e) ];
      }

  pub unary_alike : (code type other : ℕ) → is_unary_of m code type other ≡ true → Alike code type other ⊎ (((code == op.ANY || code == op.ALL) ≡ true) × (bool_type (defined_as m type) ≡ true))
  unary_alike code type other is = by_cast (code == op.BITCAST || code == op.BIT_COUNT) refl is
    where
      by_not : (b : Bool) → (code == op.ANY || code == op.ALL) ≡ false → (if b then is_truth m type && type == other else (is_ints m type && type == other)) ≡ true → Alike code type other
      by_not true none is = alike_itself code type other (is_truth m) (λ t truth. lanes_there m is_truths t truth) none is
      by_not false none is = alike_itself code type other (is_ints m) (λ t ints. lanes_there m is_words t ints) none is

      by_any : (b : Bool) → (code == op.ANY || code == op.ALL) ≡ b
          → (if b then bool_type (defined_as m type) && is_truth m other && is_vector (shape_of (defined_as m other)) else if code == op.LOGICAL_NOT then is_truth m type && type == other else (is_ints m type && type == other)) ≡ true
          → Alike code type other ⊎ (((code == op.ANY || code == op.ALL) ≡ true) × (bool_type (defined_as m type) ≡ true))
      by_any true e is = inr (e, (and_parts (bool_type (defined_as m type)) (is_truth m other) (and_parts (bool_type (defined_as m type) && is_truth m other) _ is).0).0)
      by_any false e is = inl (by_not (code == op.LOGICAL_NOT) e is)

      by_cast : (b : Bool) → (code == op.BITCAST || code == op.BIT_COUNT) ≡ b
          → (if b then is_ints m type && is_ints m other && same_size (lanes_of m type) (lanes_of m other) else if code == op.ANY || code == op.ALL then bool_type (defined_as m type) && is_truth m other && is_vector (shape_of (defined_as m other)) else if code == op.LOGICAL_NOT then is_truth m type && type == other else (is_ints m type && type == other)) ≡ true
          → Alike code type other ⊎ (((code == op.ANY || code == op.ALL) ≡ true) × (bool_type (defined_as m type) ≡ true))
      by_cast true e is = inl (alike_ints code type other e is)
      by_cast false e is = by_any (code == op.ANY || code == op.ALL) refl is

  -- what joins components takes a vector of them
  pub joined_lanes : (code type other : ℕ) → is_unary_of m code type other ≡ true → (code == op.ANY || code == op.ALL) ≡ true → HasLanes m other
  joined_lanes code type other is which = elim (or_cases (code == op.ANY) (code == op.ALL) which) [
    | inl e ↦ of_truths (subst (λ n. is_unary_of m n type other ≡ true) (eqb-true code op.ANY e) is)
    | inr e ↦ of_truths (subst (λ n. is_unary_of m n type other ≡ true) (eqb-true code op.ALL e) is)
  ]
    where
      of_truths : (bool_type (defined_as m type) && is_truth m other && is_vector (shape_of (defined_as m other))) ≡ true → HasLanes m other
      of_truths rule = lanes_there m is_truths other (and_parts (bool_type (defined_as m type)) (is_truth m other) (and_parts (bool_type (defined_as m type) && is_truth m other) _ rule).0).1

  one_of : (type : ℕ) (b : Bool) (x y : Value) → is_shaped m type x ≡ true → is_shaped m type y ≡ true → is_shaped m type (if b then x else y) ≡ true
  one_of type true x y first second = first
  one_of type false x y first second = second

  pub unary_shaped : (code type other : ℕ) (v : Value) → is_unary_of m code type other ≡ true → is_shaped m other v ≡ true → is_shaped m type (unary code v) ≡ true
  unary_shaped code type other v rule is = by_rule (unary_alike code type other rule)
    where
      mapped : Alike code type other → (g : ℕ → ℕ) → is_shaped m type (of_components (map g (components_in v))) ≡ true
      mapped a g = of_counted m kept type _ a.has (words_counted g (components_in v) (Size m type) (counted m kept other v a.had is ∙ sym a.same))

      joined : (code == op.ANY || code == op.ALL) ≡ true → bool_type (defined_as m type) ≡ true → is_shaped m type (unary code v) ≡ true
      joined which truth = elim (or_cases (code == op.ANY) (code == op.ALL) which) [
        | inl e ↦ subst (λ n. is_shaped m type (unary n v) ≡ true) (sym (eqb-true code op.ANY e)) (word_shaped m kept type _ (or_right (is_int m type) _ truth))
        | inr e ↦ subst (λ n. is_shaped m type (unary n v) ≡ true) (sym (eqb-true code op.ALL e)) (word_shaped m kept type _ (or_right (is_int m type) _ truth))
      ]

      by_rule : Alike code type other ⊎ (((code == op.ANY || code == op.ALL) ≡ true) × (bool_type (defined_as m type) ≡ true)) → is_shaped m type (unary code v) ≡ true
      by_rule (inr j) = joined j.0 j.1
      by_rule (inl a) =
          one_of type (code == op.S_NEGATE) _ _ (mapped a _) (one_of type (code == op.NOT) _ _ (mapped a _) (one_of type (code == op.LOGICAL_NOT) _ _ (mapped a _)
          (one_of type (code == op.BIT_REVERSE) _ _ (builtin_shaped type other f.BitfieldReverse false v [] [] refl a.has a.had a.same is)
          (one_of type (code == op.BIT_COUNT) _ _ (builtin_shaped type other f.BitCount false v [] [] refl a.has a.had a.same is)
          (ap (λ b. is_shaped m type (if b then (builtin_value f.Any false (v ∷ []) []).0 else if code == op.ALL then (builtin_value f.All false (v ∷ []) []).0 else v)) a.any
          ∙ ap (λ b. is_shaped m type (if b then (builtin_value f.All false (v ∷ []) []).0 else v)) a.all ∙ same_shape m kept type other v a.has a.had a.same is)))))
