-- Values of scalar and vector types by their components.
use Rattle.std.proofs.Common.{◌≡◌, refl, sym, ap, ◌∙◌, subst, ℕ, zero, suc, ◌≤◌, Bool, true, ◌&&◌, IsTrue, List, [], ◌∷◌, map, replicate, length, Some, arith}
use Rattle.std.specs.Prelude.{nat_eq, nat_le}
use Rattle.std.specs.List.{AllByRecursion}
use Rattle.std.proofs.lemmas.Bool.{and_from, and_parts, cond-false, false≢true, leb-true, ne_eqb}
use Rattle.gsl_types.specs.Known.{IsSound, sound_kind}
use Rattle.gsl_types.specs.declared.ty.Scalar.{Scalar}
use Rattle.gsl_types.specs.declared.ty.StructType.{StructType}
use Rattle.gsl_types.specs.declared.ty.Ty.{Ty}
use Rattle.gsl_types.specs.declared.ty.Ty.TheFolds.{fold-roll-Ty}
use Rattle.gsl_types.specs.declared.ty.Ty.TheOpen.{Ty-F}
use Rattle.gsl_types.specs.declared.ty.Ty.TheVariants as ty
use Rattle.gsl_types.specs.declared.ty.Ty.TheVariants.{rolls-One, rolls-Vector}
use Rattle.gsl_types.specs.declared.ty.Ty.TheViews.{out-Ty, roll-Ty, roll-out-Ty}
use Rattle.gsl_values.specs.declared.value.Value.{Value}
use Rattle.gsl_values.specs.declared.value.Value.TheOpen.{Value-F}
use Rattle.gsl_values.specs.declared.value.Value.TheVariants.{Word, Many, outs-Word, outs-Many}
use Rattle.gsl_values.specs.declared.value.Value.TheViews.{out-Value}
use Rattle.gsl_tree.specs.Shapes.{Shape, of_shape, shape_kind, shape_of}
use Rattle.gsl_tree.specs.Values.{all_pass, components_in, components_layer, has_parts_layer, is_scalar, is_scalar_layer, is_value_of, is_word_of, of_components, word_in, word_layer}
use Rattle.gsl_tree.proofs.Nodes.{value_of_one, value_of_vector}

-- words of a scalar type
abbrev pub AllFit : Scalar → List ℕ → Type 0
AllFit s = AllByRecursion (λ word. is_word_of s word ≡ true)

-- There are as many words as a shape has components, and they are of its scalar type.
abbrev pub Fill : Shape → List ℕ → Type 0
Fill shape words = (length words ≡ shape.1) × AllFit shape.0 words

pub some_same : {A : Type 0} {a b : A} → Some a ≡ Some b → a ≡ b
some_same e = cc

-- ---- the components of a value

one_fills : (s : Scalar) (layer : Value-F Value) → is_scalar_layer s layer ≡ true → Fill (s, 1) (components_layer layer)
one_fills s (Value-F.Word word) is = (refl, (is, tt))
one_fills s (Value-F.Many parts) is = absurd (false≢true is)

word_fits : (s : Scalar) (layer : Value-F Value) → is_scalar_layer s layer ≡ true → is_word_of s (word_layer layer) ≡ true
word_fits s (Value-F.Word word) is = is
word_fits s (Value-F.Many parts) is = absurd (false≢true is)

parts_fill : (s : Scalar) (n : ℕ) (parts : List Value) → all_pass (replicate n (is_scalar s)) parts ≡ true → Fill (s, n) (map word_in parts)
parts_fill s zero [] pass = (refl, tt)
parts_fill s zero (v ∷ parts) pass = absurd (false≢true pass)
parts_fill s (suc n) [] pass = absurd (false≢true pass)
parts_fill s (suc n) (v ∷ parts) pass =
    let both = and_parts (is_scalar s v) (all_pass (replicate n (is_scalar s)) parts) pass in
    let more = parts_fill s n parts both.1 in (ap suc more.0, (word_fits s (out-Value v) both.0, more.1))

many_fill : (s : Scalar) (n : ℕ) (layer : Value-F Value) → has_parts_layer (replicate n (is_scalar s)) layer ≡ true → Fill (s, n) (components_layer layer)
many_fill s n (Value-F.Word word) pass = absurd (false≢true pass)
many_fill s n (Value-F.Many parts) pass = parts_fill s n parts pass

-- the components of a value of a scalar or vector type
pub components_fill : (structs : List StructType) (t : Ty) (shape : Shape) (v : Value) → shape_of t ≡ Some shape → is_value_of structs t v ≡ true → Fill shape (components_in v)
components_fill structs t shape v is fits = by (out-Ty t) (roll-out-Ty t) is
  where
    by : (layer : Ty-F Ty) → roll-Ty layer ≡ t → shape_kind layer ≡ Some shape → Fill shape (components_in v)
    by Ty-F.Void e is = absurd cc
    by (Ty-F.One s) e is = subst (λ x. Fill x (components_in v)) (some_same is) (one_fills s (out-Value v) (sym (value_of_one structs s v) ∙ ap (λ u. is_value_of structs u v) (sym (rolls-One s) ∙ e) ∙ fits))
    by (Ty-F.Vector s n) e is = subst (λ x. Fill x (components_in v)) (some_same is) (many_fill s n (out-Value v) (sym (value_of_vector structs s n v) ∙ ap (λ u. is_value_of structs u v) (sym (rolls-Vector s n) ∙ e) ∙ fits))
    by (Ty-F.Array element n) e is = absurd cc
    by (Ty-F.Runtime element) e is = absurd cc
    by (Ty-F.Struct number) e is = absurd cc

-- scalars and vectors have a component
pub some_component : (count : ℕ) (t : Ty) (shape : Shape) → IsSound count t → shape_of t ≡ Some shape → 1 ≤ shape.1
some_component count t shape sound is = by (out-Ty t) (roll-out-Ty t) is
  where
    by : (layer : Ty-F Ty) → roll-Ty layer ≡ t → shape_kind layer ≡ Some shape → 1 ≤ shape.1
    by Ty-F.Void e is = absurd cc
    by (Ty-F.One s) e is = let same : (s, 1) ≡ shape = some_same is in omega (arith, ap (λ (x : Shape). x.1) same)
    by (Ty-F.Vector s n) e is =
        let same : (s, n) ≡ shape = some_same is in
        let known : IsTrue (nat_le 2 n && nat_le n 4) = sym (fold-roll-Ty Bool (sound_kind count) (Ty-F.Vector s n)) ∙ subst (IsSound count) (sym e) sound in
        omega (arith, leb-true 2 n (and_parts (nat_le 2 n) (nat_le n 4) known).0, ap (λ (x : Shape). x.1) same)
    by (Ty-F.Array element n) e is = absurd cc
    by (Ty-F.Runtime element) e is = absurd cc
    by (Ty-F.Struct number) e is = absurd cc

-- ---- a value of components

pub scalar_word : (s : Scalar) (word : ℕ) → is_word_of s word ≡ true → is_scalar s (Word word) ≡ true
scalar_word s word is = ap (is_scalar_layer s) (outs-Word word) ∙ is

pub words_pass : (s : Scalar) (n : ℕ) (words : List ℕ) → Fill (s, n) words → all_pass (replicate n (is_scalar s)) (map Word words) ≡ true
words_pass s zero [] fill = refl
words_pass s zero (word ∷ words) fill = absurd (omega (arith, fill.0))
words_pass s (suc n) [] fill = absurd (omega (arith, fill.0))
words_pass s (suc n) (word ∷ words) fill = and_from _ _ (scalar_word s word fill.1.0) (words_pass s n words (omega (arith, fill.0), fill.1.1))

pub vector_typed : (structs : List StructType) (s : Scalar) (n : ℕ) (words : List ℕ) → Fill (s, n) words → is_value_of structs (ty.Vector s n) (Many (map Word words)) ≡ true
vector_typed structs s n words fill = value_of_vector structs s n (Many (map Word words)) ∙ ap (has_parts_layer (replicate n (is_scalar s))) (outs-Many (map Word words)) ∙ words_pass s n words fill

pub scalar_typed : (structs : List StructType) (s : Scalar) (word : ℕ) → is_word_of s word ≡ true → is_value_of structs (ty.One s) (Word word) ≡ true
scalar_typed structs s word is = value_of_one structs s (Word word) ∙ scalar_word s word is

shape_vector : (s : Scalar) (n : ℕ) → (n ≡ 1 → ⊥) → of_shape (s, n) ≡ ty.Vector s n
shape_vector s n not_one = cond-false (nat_eq n 1) (ty.One s) (ty.Vector s n) (ne_eqb n 1 not_one)

-- what is made of the words of a shape is a value of its type
pub filled_typed : (structs : List StructType) (s : Scalar) (n : ℕ) (words : List ℕ) → Fill (s, n) words → is_value_of structs (of_shape (s, n)) (of_components words) ≡ true
filled_typed structs s n [] fill = ap (λ u. is_value_of structs u (Many [])) (shape_vector s n (λ e. absurd (omega (arith, fill.0, e)))) ∙ vector_typed structs s n [] fill
filled_typed structs s n (word ∷ []) fill = subst (λ k. is_value_of structs (of_shape (s, k)) (Word word) ≡ true) fill.0 (scalar_typed structs s word fill.1.0)
filled_typed structs s n (word ∷ next ∷ words) fill =
    ap (λ u. is_value_of structs u (Many (map Word (word ∷ next ∷ words)))) (shape_vector s n (λ e. absurd (omega (arith, fill.0, e)))) ∙ vector_typed structs s n (word ∷ next ∷ words) fill

-- a sound type with a shape is the type of the shape
pub shape_again : (count : ℕ) (t : Ty) (shape : Shape) → IsSound count t → shape_of t ≡ Some shape → of_shape shape ≡ t
shape_again count t shape sound is = by (out-Ty t) (roll-out-Ty t) is
  where
    by : (layer : Ty-F Ty) → roll-Ty layer ≡ t → shape_kind layer ≡ Some shape → of_shape shape ≡ t
    by Ty-F.Void e is = absurd cc
    by (Ty-F.One s) e is = ap of_shape (sym (some_same is)) ∙ sym (rolls-One s) ∙ e
    by (Ty-F.Vector s n) e is =
        let known : IsTrue (nat_le 2 n && nat_le n 4) = sym (fold-roll-Ty Bool (sound_kind count) (Ty-F.Vector s n)) ∙ subst (IsSound count) (sym e) sound in
        let many = leb-true 2 n (and_parts (nat_le 2 n) (nat_le n 4) known).0 in
        ap of_shape (sym (some_same is)) ∙ shape_vector s n (λ one. absurd (omega (arith, many, one))) ∙ sym (rolls-Vector s n) ∙ e
    by (Ty-F.Array element n) e is = absurd cc
    by (Ty-F.Runtime element) e is = absurd cc
    by (Ty-F.Struct number) e is = absurd cc
