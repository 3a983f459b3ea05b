-- Operators on two values, component by component.
use Rattle.std.proofs.Common.{◌≡◌, refl, sym, ap, ap₂, ◌∙◌, subst, ℕ, zero, suc, ◌<◌, ◌≤◌, Bool, true, false, List, [], ◌∷◌, ◌⊎◌, inl, inr, length, arith, if◌then◌else◌}
use Rattle.std.proofs.lemmas.Bool.{ltb-true}
use Rattle.std.specs.List.{AllByRecursion}
use Rattle.std.specs.Prelude.{max, replicate}
use Rattle.gsl_base.specs.declared.input.Input.{Input}
use Rattle.gsl_types.specs.declared.ty.Scalar.{Scalar}
use Rattle.gsl_types.specs.declared.ty.Scalar.TheVariants.{Bool as Boolean, Int, Uint}
use Rattle.gsl_words.specs.declared.module.Module.{Module}
use Rattle.gsl_values.specs.declared.op.BinaryOp.{BinaryOp}
use Rattle.gsl_values.specs.declared.value.Value.{Value}
use Rattle.gsl_values.specs.Operators.{binary_answer}
use Rattle.gsl_values.specs.Vectors.{binary_each}
use Rattle.gsl_tree.specs.Operations.{binary_words, is_signed_scalar, of_words, spread as spread_words}
use Rattle.gsl_tree.specs.Shapes.{Shape}
use Rattle.gsl_tree.specs.Values.{components_in, of_components}
use Rattle.gsl_lower_law.specs.OfMachine.{binary as two_operands}
use Rattle.gsl_lower_law.specs.OfMachine.{Ids, State}
use Rattle.gsl_lower_law.specs.OfSpv.{Sections}
use Rattle.gsl_lower_values.specs.Building.{giving, ◌>>=◌}
use Rattle.gsl_lower_values.specs.Operators.{binary_code, each, given_scalar, spread}
use Rattle.gsl_lower_values.specs.Types.{type_of}
use Rattle.gsl_lower_values.specs.declared.operand.Operand.{Operand}
use Rattle.gsl_lower_law.specs.Values.{AreWords, IsOf, Keeps, Stands}
use Rattle.gsl_lower_law.specs.Computing.{Computes, Does}
use Rattle.gsl_lower_law.specs.Operands.{Beside}
use Rattle.gsl_lower_law.proofs.Components.{Serves, components_of, length_spread, spread_most, spread_most_right, spread_self}
use Rattle.gsl_lower_law.proofs.Gathers.{spread_computes}
use Rattle.gsl_lower_law.proofs.Giving.{Performs}
use Rattle.gsl_lower_law.proofs.Joining.{does_then, grows_then}
use Rattle.gsl_lower_law_operators.proofs.Pairs.{signed_as, two_of, two_performs}
use Rattle.gsl_lower_law_operators.proofs.Signs.{answer_alike, signed_operator}
use Rattle.gsl_lower_law.proofs.Typed.{typed_does, typed_grows}

-- ---- words with and without their sign

abbrev pub AreSmall : List ℕ → Type 0
AreSmall = AllByRecursion (λ word. word < 4294967296)

pub small_words : (s : Scalar) (ws : List ℕ) → AreWords s ws → AreSmall ws
small_words s [] fits = tt
small_words Boolean (w ∷ ws) fits = (let less : w < 2 = ltb-true w 2 fits.0 in omega (arith, less), small_words Boolean ws fits.1)
small_words Int (w ∷ ws) fits = (let less : w < 4294967296 = ltb-true w 4294967296 fits.0 in less, small_words Int ws fits.1)
small_words Uint (w ∷ ws) fits = (let less : w < 4294967296 = ltb-true w 4294967296 fits.0 in less, small_words Uint ws fits.1)

small_replicated : (n w : ℕ) → w < 4294967296 → AreSmall (replicate n w)
small_replicated zero w less = tt
small_replicated (suc n) w less = (less, small_replicated n w less)

small_spread : (count : ℕ) (ws : List ℕ) → AreSmall ws → AreSmall (spread_words count ws)
small_spread count [] small = small
small_spread count (w ∷ []) small = small_replicated count w small.0
small_spread count (w ∷ next ∷ ws) small = small

each_alike : (which : BinaryOp) (xs ys choices : List ℕ) → AreSmall xs → AreSmall ys → signed_operator which ≡ false → binary_each which true xs ys choices ≡ binary_each which false xs ys choices
each_alike which [] ys choices p q e = refl
each_alike which (x ∷ xs) [] choices p q e = refl
each_alike which (x ∷ xs) (y ∷ ys) choices p q e =
    ap (λ first. (first.0 ∷ (binary_each which true xs ys first.1).0, (binary_each which true xs ys first.1).1)) (answer_alike which x y choices p.0 q.0 e)
    ∙ ap (λ others. ((binary_answer which false x y choices).0 ∷ others.0, others.1)) (each_alike which xs ys (binary_answer which false x y choices).1 p.1 q.1 e)

each_signed : (which : BinaryOp) (s : Scalar) (xs ys choices : List ℕ) → AreSmall xs → AreSmall ys → binary_each which (signed_as which s) xs ys choices ≡ binary_each which (is_signed_scalar s) xs ys choices
each_signed which s xs ys choices p q = by (signed_operator which) refl
  where
    by_scalar : (s : Scalar) → signed_operator which ≡ false → binary_each which false xs ys choices ≡ binary_each which (is_signed_scalar s) xs ys choices
    by_scalar Boolean e = refl
    by_scalar Int e = sym (each_alike which xs ys choices p q e)
    by_scalar Uint e = refl

    by : (b : Bool) → signed_operator which ≡ b → binary_each which (if b then is_signed_scalar s else false) xs ys choices ≡ binary_each which (is_signed_scalar s) xs ys choices
    by true e = refl
    by false e = by_scalar s e

-- ---- operands of one count

-- what an instruction gives on operands that were spread is what the operator gives
spread_is : (which : BinaryOp) (s : Scalar) (xs ys choices : List ℕ) (count : ℕ) → count ≡ max (length xs) (length ys) → 1 ≤ length xs → 1 ≤ length ys → Serves count xs → Serves count ys → AreSmall xs → AreSmall ys
    → two_operands (which, signed_as which s) (of_components (spread_words count xs)) (of_components (spread_words count ys)) choices ≡ of_words (binary_words which (is_signed_scalar s) xs ys choices)
spread_is which s xs ys choices count is some_x some_y serve_x serve_y p q =
    ap₂ (λ a b. of_words (binary_words which (signed_as which s) a b choices)) (components_of X) (components_of Y)
    ∙ ap₂ (λ a b. of_words (binary_each which (signed_as which s) a b choices)) (spread_self (length Y) X (length_spread count xs serve_x ∙ sym (length_spread count ys serve_y))) (spread_self (length X) Y (length_spread count ys serve_y ∙ sym (length_spread count xs serve_x)))
    ∙ ap of_words (each_signed which s X Y choices (small_spread count xs p) (small_spread count ys q))
    ∙ ap₂ (λ a b. of_words (binary_each which (is_signed_scalar s) a b choices)) (ap (λ n. spread_words n xs) is ∙ spread_most xs ys some_y) (ap (λ n. spread_words n ys) is ∙ spread_most_right xs ys some_x)
  where
    X : List ℕ
    X = spread_words count xs

    Y : List ℕ
    Y = spread_words count ys

serve_left : (a b : ℕ) → 1 ≤ a → 1 ≤ b → Beside a b → (a ≡ max a b) ⊎ (a ≡ 1)
serve_left a b p q (inl same) = inl (omega (arith, same))
serve_left a b p q (inr (inl one)) = inr one
serve_left a b p q (inr (inr one)) = inl (omega (arith, one, p))

serve_right : (a b : ℕ) → 1 ≤ a → 1 ≤ b → Beside a b → (b ≡ max a b) ⊎ (b ≡ 1)
serve_right a b p q (inl same) = inl (omega (arith, same))
serve_right a b p q (inr (inl one)) = inl (omega (arith, one, q))
serve_right a b p q (inr (inr one)) = inr one

serve_words : (count n : ℕ) (ws : List ℕ) → length ws ≡ n → (n ≡ count) ⊎ (n ≡ 1) → Serves count ws
serve_words count n ws e (inl same) = inl (e ∙ same)
serve_words count n ws e (inr one) = inr (e ∙ one)

module _ (m : Module) (input : Input) (whole : Sections) where
  pub each_computes : (which : BinaryOp) (a b : Operand) (v w : Value) (state : State) (before : Sections) → IsOf a.shape v → IsOf b.shape w → 1 ≤ a.shape.1 → 1 ≤ b.shape.1 → Beside a.shape.1 b.shape.1
      → Stands state.ids a.id v → Stands state.ids b.id w → Computes m input whole (of_words (binary_words which (is_signed_scalar a.shape.0) (components_in v) (components_in w) state.choices)) state before (each which a b)
  unfolding each
  each_computes which a b v w state before is_v is_w some_a some_b beside first second =
      does_then m input whole (λ id ids. Stands ids id (of_components X)) (λ id ids. Stands ids id answer.0) state.choices answer.1 state before (spread count a) (λ x. spread count b >>= (λ y. type_of shape >>= giving code (x ∷ y ∷ [])))
      (spread_computes m input whole count a v state before some is_v left first)
      (λ x between. grows_then m input whole between (spread count b between) (λ y. type_of shape >>= giving code (x ∷ y ∷ [])) (spread_computes m input whole count b w state between some is_w right second).grows
      (λ y later. typed_grows m input whole shape code (x ∷ y ∷ []) state later))
      (λ x between ids is keeps. second_then x between ids is keeps)
    where
      count : ℕ
      count = max a.shape.1 b.shape.1

      shape : Shape
      shape = (given_scalar which a.shape.0, count)

      code : ℕ
      code = binary_code which a.shape.0

      X : List ℕ
      X = spread_words count (components_in v)

      Y : List ℕ
      Y = spread_words count (components_in w)

      answer : Value × List ℕ
      answer = of_words (binary_words which (is_signed_scalar a.shape.0) (components_in v) (components_in w) state.choices)

      some : 1 ≤ count
      some = omega (arith, some_a)

      left : (a.shape.1 ≡ count) ⊎ (a.shape.1 ≡ 1)
      left = serve_left a.shape.1 b.shape.1 some_a some_b beside

      right : (b.shape.1 ≡ count) ⊎ (b.shape.1 ≡ 1)
      right = serve_right a.shape.1 b.shape.1 some_a some_b beside

      words_v : components_in v ≡ is_v.words
      words_v = ap components_in is_v.is ∙ components_of is_v.words

      words_w : components_in w ≡ is_w.words
      words_w = ap components_in is_w.is ∙ components_of is_w.words

      gives : two_operands (which, signed_as which a.shape.0) (of_components X) (of_components Y) state.choices ≡ answer
      gives =
          ap₂ (λ xs ys. two_operands (which, signed_as which a.shape.0) (of_components (spread_words count xs)) (of_components (spread_words count ys)) state.choices) words_v words_w
          ∙ spread_is which a.shape.0 is_v.words is_w.words state.choices count (ap₂ max (sym is_v.count) (sym is_w.count)) (subst (λ n. 1 ≤ n) (sym is_v.count) some_a) (subst (λ n. 1 ≤ n) (sym is_w.count) some_b)
          (serve_words count a.shape.1 is_v.words is_v.count left) (serve_words count b.shape.1 is_w.words is_w.count right) (small_words a.shape.0 is_v.words is_v.fits) (small_words b.shape.0 is_w.words is_w.fits)
          ∙ ap₂ (λ xs ys. of_words (binary_words which (is_signed_scalar a.shape.0) xs ys state.choices)) (sym words_v) (sym words_w)

      last_then : (x y : ℕ) (between : Sections) (ids : Ids) → Stands ids x (of_components X) → Stands ids y (of_components Y)
          → Does m input whole (λ id ids. Stands ids id answer.0) answer.1 (record state { ids = ids }) between (type_of shape >>= giving code (x ∷ y ∷ []))
      last_then x y between ids is_x is_y =
          typed_does m input whole shape code (x ∷ y ∷ []) answer.0 answer.1 (record state { ids = ids }) between
          (λ type later keeps is text. subst (λ (o : Value × List ℕ). Performs m input code (x ∷ y ∷ []) type (record state { ids = later }) o.0 o.1) gives
          (two_performs m input code (which, signed_as which a.shape.0) type x y (of_components X) (of_components Y) (record state { ids = later }) (two_of m input which a.shape.0) (keeps.same x _ is_x) (keeps.same y _ is_y)))

      second_then : (x : ℕ) (between : Sections) (ids : Ids) → Stands ids x (of_components X) → Keeps state.ids ids
          → Does m input whole (λ id ids. Stands ids id answer.0) answer.1 (record state { ids = ids }) between (spread count b >>= (λ y. type_of shape >>= giving code (x ∷ y ∷ [])))
      second_then x between ids is keeps =
          does_then m input whole (λ id ids. Stands ids id (of_components Y)) (λ id ids. Stands ids id answer.0) state.choices answer.1 (record state { ids = ids }) between (spread count b) (λ y. type_of shape >>= giving code (x ∷ y ∷ []))
          (spread_computes m input whole count b w (record state { ids = ids }) between some is_w right (keeps.same b.id _ second))
          (λ y later. typed_grows m input whole shape code (x ∷ y ∷ []) state later)
          (λ y later more is_y more_keeps. last_then x y later more (more_keeps.same x _ is) is_y)
