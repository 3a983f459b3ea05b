-- Operators on values of types give values of their types.
use Rattle.std.proofs.Common.{◌≡◌, refl, sym, ap, ap₂, ◌∙◌, subst, ℕ, zero, suc, ◌≤◌, ◌⊎◌, inl, inr, max, Bool, true, false, not, ◌&&◌, ◌||◌, List, [], ◌∷◌, map, length, Some, arith}
use Rattle.std.specs.Prelude.{nat_eq}
use Rattle.std.proofs.lemmas.Bool.{and_parts, eqb-true, or_cases, false≢true}
use Rattle.std.proofs.lemmas.List.{length-replicate}
use Rattle.gsl_types.specs.Known.{IsSound}
use Rattle.gsl_types.specs.declared.ty.Scalar.{Scalar}
use Rattle.gsl_types.specs.declared.ty.Scalar.TheVariants.{Bool as Boolean}
use Rattle.gsl_types.specs.declared.ty.StructType.{StructType}
use Rattle.gsl_types.specs.declared.ty.Ty.{Ty}
use Rattle.gsl_values.specs.declared.op.BinaryOp.{BinaryOp}
use Rattle.gsl_values.specs.declared.op.BinaryOp.TheVariants.{Add, Sub, Mul, Div, Mod, Shl, Shr, And, Or, Xor, Less, LessEq, Greater, GreaterEq, Equal, Unequal}
use Rattle.gsl_values.specs.declared.op.UnaryOp.{UnaryOp}
use Rattle.gsl_values.specs.declared.value.Value.{Value}
use Rattle.gsl_values.specs.declared.value.Value.TheVariants.{Word}
use Rattle.gsl_values.specs.Choices.{answer}
use Rattle.gsl_values.specs.Operators.{binary_answer, binary_word, is_free, unary_word}
use Rattle.gsl_values.specs.Vectors.{binary_each}
use Rattle.gsl_values.specs.Word.{word_of_bool}
use Rattle.gsl_tree.specs.Around.{Around}
use Rattle.gsl_tree.specs.Expressions.{IsBinary, IsOperation, IsUnary, boolean}
use Rattle.gsl_tree.specs.Operations.{binary_value, binary_words, of_words, spread, unary_value}
use Rattle.gsl_tree.specs.Shapes.{Shape, arithmetic_shape, binary_shape, flag, is_equality, is_integer, of_shape, relation_shape, same_scalar, serves_beside, shape_of, shift_shape, unary_shape}
use Rattle.gsl_tree.specs.Values.{components_in, is_value_of, is_word_of, of_components, same_value}
use Rattle.gsl_typed_law.specs.Given.{AreChoices, Gives}
use Rattle.gsl_typed_law.proofs.Bounds.{Fits, binary_fits, truth_fits, unary_fits, when_is}
use Rattle.gsl_typed_law.proofs.Components.{Fill, components_fill, filled_typed, scalar_typed, some_component}

-- ---- on one value

pub mapped : (f : ℕ → ℕ) (s : Scalar) (n : ℕ) (words : List ℕ) → ((word : ℕ) → is_word_of s (f word) ≡ true) → length words ≡ n → Fill (s, n) (map f words)
mapped f s n [] each counted = (counted, tt)
mapped f s zero (word ∷ words) each counted = absurd (omega (arith, counted))
mapped f s (suc n) (word ∷ words) each counted = let more = mapped f s n words each (omega (arith, counted)) in (ap suc more.0, (each word, more.1))

unary_counts : (op : UnaryOp) (x y : Shape) → unary_shape op x ≡ Some y → x ≡ y
unary_counts UnaryOp.Negate x y is = (when_is _ x y is).1
unary_counts UnaryOp.Flip x y is = (when_is _ x y is).1
unary_counts UnaryOp.Not x y is = (when_is _ x y is).1

pub unary_typed : (structs : List StructType) (op : UnaryOp) (a t : Ty) (v : Value) → IsUnary op a t → is_value_of structs a v ≡ true → is_value_of structs t (unary_value op v) ≡ true
unary_typed structs op a t v (x, y, is, takes, gives) fits =
    let counted = (components_fill structs a x v is fits).0 ∙ ap (λ (q : Shape). q.1) (unary_counts op x y takes) in
    subst (λ u. is_value_of structs u (unary_value op v) ≡ true) gives
    (filled_typed structs y.0 y.1 _ (mapped (unary_word op) y.0 y.1 (components_in v) (λ word. unary_fits op word x y takes) counted))

-- ---- how many components

spread_alike : (n : ℕ) (words : List ℕ) → length words ≡ n → length (spread n words) ≡ n
spread_alike n [] is = is
spread_alike n (word ∷ []) is = length-replicate n word
spread_alike n (word ∷ next ∷ words) is = is

spread_one : (n : ℕ) (words : List ℕ) → length words ≡ 1 → length (spread n words) ≡ n
spread_one n [] is = absurd (omega (arith, is))
spread_one n (word ∷ []) is = length-replicate n word
spread_one n (word ∷ next ∷ words) is = absurd (omega (arith, is))

spread_beside : (words : List ℕ) → length (spread 1 words) ≡ length words
spread_beside [] = refl
spread_beside (word ∷ []) = refl
spread_beside (word ∷ next ∷ words) = refl

-- a scalar serves beside so many components, or there are as many of both
abbrev Count : ℕ → ℕ → ℕ → Type 0
Count m n k = ((m ≡ n) × (k ≡ m)) ⊎ ((n ≡ 1) × (k ≡ m)) ⊎ ((m ≡ 1) × (k ≡ n))

spread_counted : (xs ys : List ℕ) (k : ℕ) → Count (length xs) (length ys) k → (length (spread (length ys) xs) ≡ k) × (length (spread (length xs) ys) ≡ k)
spread_counted xs ys k (inl (same, is)) = (spread_alike (length ys) xs same ∙ sym same ∙ sym is, spread_alike (length xs) ys (sym same) ∙ sym is)
spread_counted xs ys k (inr (inl (one, is))) = (ap (λ n. length (spread n xs)) one ∙ spread_beside xs ∙ sym is, spread_one (length xs) ys one ∙ sym is)
spread_counted xs ys k (inr (inr (one, is))) = (spread_one (length ys) xs one ∙ sym is, ap (λ n. length (spread n ys)) one ∙ spread_beside ys ∙ sym is)

module _ (x y z : Shape) (some_x : 1 ≤ x.1) (some_y : 1 ≤ y.1) where
  beside : (serves_beside x.1 y.1) ≡ true → (x.1 ≡ y.1) ⊎ (y.1 ≡ 1)
  beside e = elim (or_cases (nat_eq y.1 x.1) (nat_eq y.1 1) e) [ inl e ↦ inl (sym (eqb-true y.1 x.1 e)) | inr e ↦ inr (eqb-true y.1 1 e) ]

  arithmetic_count : arithmetic_shape x y ≡ Some z → Count x.1 y.1 z.1
  arithmetic_count is =
      let sizes = serves_beside x.1 y.1 || nat_eq x.1 1 in
      let w = when_is (is_integer x.0 && same_scalar x.0 y.0 && sizes) (x.0, max x.1 y.1) z is in
      let count : max x.1 y.1 ≡ z.1 = ap (λ (q : Shape). q.1) w.1 in
      by count (or_cases (serves_beside x.1 y.1) (nat_eq x.1 1) (and_parts (is_integer x.0 && same_scalar x.0 y.0) sizes w.0).1)
    where
      by : max x.1 y.1 ≡ z.1 → (serves_beside x.1 y.1 ≡ true) ⊎ (nat_eq x.1 1 ≡ true) → Count x.1 y.1 z.1
      by count (inl e) = elim (beside e) [ inl same ↦ inl (same, omega (arith, count, same)) | inr one ↦ inr (inl (one, omega (arith, count, one, some_x))) ]
      by count (inr e) = let one = eqb-true x.1 1 e in inr (inr (one, omega (arith, count, one, some_y)))

  shift_count : shift_shape x y ≡ Some z → Count x.1 y.1 z.1
  shift_count is =
      let w = when_is (is_integer x.0 && is_integer y.0 && serves_beside x.1 y.1) x z is in
      let count : z.1 ≡ x.1 = ap (λ (q : Shape). q.1) (sym w.1) in
      elim (beside (and_parts (is_integer x.0 && is_integer y.0) (serves_beside x.1 y.1) w.0).1) [ inl same ↦ inl (same, count) | inr one ↦ inr (inl (one, count)) ]

  relation_count : relation_shape x y ≡ Some z → Count x.1 y.1 z.1
  relation_count is =
      let front = is_integer x.0 && same_scalar x.0 y.0 in
      let w = when_is (front && nat_eq x.1 1 && nat_eq y.1 1) flag z is in
      let parts = and_parts (front && nat_eq x.1 1) (nat_eq y.1 1) w.0 in
      let one = eqb-true x.1 1 (and_parts front (nat_eq x.1 1) parts.0).1 in
      inr (inl (eqb-true y.1 1 parts.1, ap (λ (q : Shape). q.1) (sym w.1) ∙ sym one))

  operation_count : (op : BinaryOp) → binary_shape op x y ≡ Some z → Count x.1 y.1 z.1
  operation_count Add is = arithmetic_count is
  operation_count Sub is = arithmetic_count is
  operation_count Mul is = arithmetic_count is
  operation_count Div is = arithmetic_count is
  operation_count Mod is = arithmetic_count is
  operation_count And is = arithmetic_count is
  operation_count Or is = arithmetic_count is
  operation_count Xor is = arithmetic_count is
  operation_count Shl is = shift_count is
  operation_count Shr is = shift_count is
  operation_count Less is = relation_count is
  operation_count LessEq is = relation_count is
  operation_count Greater is = relation_count is
  operation_count GreaterEq is = relation_count is
  operation_count Equal is = absurd cc
  operation_count Unequal is = absurd cc

-- ---- on two values

-- So many words of a scalar type are given, and the choices that are left are words.
abbrev pub FillLeft : Shape → List ℕ × List ℕ → Type 0
FillLeft shape each = Fill shape each.0 × AreChoices each.1

each_fill : (op : BinaryOp) (signed : Bool) (s : Scalar) → ((a b : ℕ) (choices : List ℕ) → AreChoices choices → Fits s (binary_answer op signed a b choices))
    → (xs ys choices : List ℕ) (n : ℕ) → length xs ≡ n → length ys ≡ n → AreChoices choices → FillLeft (s, n) (binary_each op signed xs ys choices)
each_fill op signed s one [] ys choices n first second are = ((first, tt), are)
each_fill op signed s one (x ∷ xs) [] choices n first second are = absurd (omega (arith, first, second))
each_fill op signed s one (x ∷ xs) (y ∷ ys) choices zero first second are = absurd (omega (arith, first))
each_fill op signed s one (x ∷ xs) (y ∷ ys) choices (suc n) first second are =
    let here = one x y choices are in
    let more = each_fill op signed s one xs ys (binary_answer op signed x y choices).1 n (omega (arith, first)) (omega (arith, second)) here.1 in
    ((ap suc more.0.0, (here.0, more.0.1)), more.1)

pub words_given : (structs : List StructType) (shape : Shape) (t : Ty) (each : List ℕ × List ℕ) → of_shape shape ≡ t → FillLeft shape each → Gives structs t (of_words each)
words_given structs shape t each gives fill = subst (λ u. Gives structs u (of_words each)) gives (record { typed = filled_typed structs shape.0 shape.1 each.0 fill.0; left = fill.1 })

pub truth_given : (structs : List StructType) (b : Bool) (choices : List ℕ) → AreChoices choices → Gives structs boolean (Word (word_of_bool b), choices)
truth_given structs b choices are = record { typed = scalar_typed structs Boolean (word_of_bool b) (truth_fits b); left = are }

each_given : (op : BinaryOp) (signed : Bool) (v w : Value) (choices : List ℕ) → is_equality op ≡ false → binary_value op signed v w choices ≡ of_words (binary_words op signed (components_in v) (components_in w) choices)
each_given Equal signed v w choices is = absurd (false≢true (sym is))
each_given Unequal signed v w choices is = absurd (false≢true (sym is))
each_given _ signed v w choices is = refl

module _ (structs : List StructType) (signed : Bool) (a b t : Ty) (v w : Value) (choices : List ℕ) (sound_a : IsSound (length structs) a) (sound_b : IsSound (length structs) b)
    (fits_v : is_value_of structs a v ≡ true) (fits_w : is_value_of structs b w ≡ true) (are : AreChoices choices) where
  operation_fill : (op : BinaryOp) (x y z : Shape) → shape_of a ≡ Some x → shape_of b ≡ Some y → binary_shape op x y ≡ Some z → FillLeft z (binary_words op signed (components_in v) (components_in w) choices)
  operation_fill op x y z is_x is_y takes =
      let first = (components_fill structs a x v is_x fits_v).0 in
      let second = (components_fill structs b y w is_y fits_w).0 in
      let count = operation_count x y z (some_component (length structs) a x sound_a is_x) (some_component (length structs) b y sound_b is_y) op takes in
      let counted = spread_counted (components_in v) (components_in w) z.1 (subst (λ n. Count (length (components_in v)) n z.1) (sym second) (subst (λ m. Count m y.1 z.1) (sym first) count)) in
      each_fill op signed z.0 (λ a b choices are. binary_fits signed a b choices are x y z op takes) (spread (length (components_in w)) (components_in v)) (spread (length (components_in v)) (components_in w)) choices z.1 counted.0 counted.1 are

  no_equality : (op : BinaryOp) (x y z : Shape) → binary_shape op x y ≡ Some z → is_equality op ≡ false
  no_equality Equal x y z is = absurd cc
  no_equality Unequal x y z is = absurd cc
  no_equality _ x y z is = refl

  pub operation_typed : (op : BinaryOp) → IsOperation op a b t → Gives structs t (binary_value op signed v w choices)
  operation_typed op (x, y, z, is_x, is_y, takes, gives) =
      subst (Gives structs t) (sym (each_given op signed v w choices (no_equality op x y z takes))) (words_given structs z t _ gives (operation_fill op x y z is_x is_y takes))

  equality_typed : (op : BinaryOp) → is_equality op ≡ true → t ≡ boolean → Gives structs t (binary_value op signed v w choices)
  equality_typed Equal is e = subst (λ u. Gives structs u (binary_value Equal signed v w choices)) (sym e) (truth_given structs (same_value v w) choices are)
  equality_typed Unequal is e = subst (λ u. Gives structs u (binary_value Unequal signed v w choices)) (sym e) (truth_given structs (not (same_value v w)) choices are)
  equality_typed _ is e = absurd (false≢true is)

pub binary_typed : (around : Around) (op : BinaryOp) (signed : Bool) (a b t : Ty) (v w : Value) (choices : List ℕ) → IsSound (length around.structs) a → IsSound (length around.structs) b → IsBinary around op a b t
    → is_value_of around.structs a v ≡ true → is_value_of around.structs b w ≡ true → AreChoices choices → Gives around.structs t (binary_value op signed v w choices)
binary_typed around op signed a b t v w choices sound_a sound_b (inl (equal, is)) fits_v fits_w are = equality_typed around.structs signed a b t v w choices sound_a sound_b fits_v fits_w are op equal is.1
binary_typed around op signed a b t v w choices sound_a sound_b (inr is) fits_v fits_w are = operation_typed around.structs signed a b t v w choices sound_a sound_b fits_v fits_w are op is

-- ---- where nothing is left open

not_drawn : (op : BinaryOp) (signed : Bool) (a b : ℕ) (choices : List ℕ) → is_free op signed a b ≡ false → binary_answer op signed a b choices ≡ (binary_word op signed a b, choices)
unfolding binary_answer
not_drawn op signed a b choices none = ap (λ free. answer free (binary_word op signed a b) choices) none

module _ (op : BinaryOp) (signed : Bool) (none : (a b : ℕ) → is_free op signed a b ≡ false) where
  same_each : (xs ys choices others : List ℕ) → (binary_each op signed xs ys choices).0 ≡ (binary_each op signed xs ys others).0
  same_each [] ys choices others = refl
  same_each (x ∷ xs) [] choices others = refl
  same_each (x ∷ xs) (y ∷ ys) choices others =
      ap₂ (λ word words. word ∷ words) (ap (λ (g : ℕ × List ℕ). g.0) (not_drawn op signed x y choices (none x y)) ∙ sym (ap (λ (g : ℕ × List ℕ). g.0) (not_drawn op signed x y others (none x y))))
      (same_each xs ys (binary_answer op signed x y choices).1 (binary_answer op signed x y others).1)

  same_equality : (which : BinaryOp) (v w : Value) (choices : List ℕ) → is_equality which ≡ true → (binary_value which signed v w choices).0 ≡ (binary_value which signed v w []).0
  same_equality Equal v w choices is = refl
  same_equality Unequal v w choices is = refl
  same_equality _ v w choices is = absurd (false≢true is)

  same_value_given : (v w : Value) (choices : List ℕ) → (binary_value op signed v w choices).0 ≡ (binary_value op signed v w []).0
  same_value_given v w choices = by (is_equality op) refl
    where
      by : (b : Bool) → is_equality op ≡ b → (binary_value op signed v w choices).0 ≡ (binary_value op signed v w []).0
      by true is = same_equality op v w choices is
      by false is =
          ap (λ (g : Value × List ℕ). g.0) (each_given op signed v w choices is)
          ∙ ap of_components (same_each (spread (length (components_in w)) (components_in v)) (spread (length (components_in v)) (components_in w)) choices [])
          ∙ sym (ap (λ (g : Value × List ℕ). g.0) (each_given op signed v w [] is))

-- an operator that leaves nothing open gives a value of its type whatever the choices are
pub undrawn_typed : (around : Around) (op : BinaryOp) (signed : Bool) (a b t : Ty) (v w : Value) (choices : List ℕ) → ((x y : ℕ) → is_free op signed x y ≡ false) → IsSound (length around.structs) a → IsSound (length around.structs) b → IsBinary around op a b t
    → is_value_of around.structs a v ≡ true → is_value_of around.structs b w ≡ true → is_value_of around.structs t (binary_value op signed v w choices).0 ≡ true
undrawn_typed around op signed a b t v w choices none sound_a sound_b is fits_v fits_w =
    ap (is_value_of around.structs t) (same_value_given op signed none v w choices) ∙ Gives.typed (binary_typed around op signed a b t v w [] sound_a sound_b is fits_v fits_w tt)
