-- Equality of scalars and vectors, by the words that compare their components.
use Rattle.std.proofs.Common.{◌≡◌, refl, sym, ap, ap₂, ◌∙◌, ℕ, suc, Bool, true, false, not, ◌&&◌, ◌||◌, List, [], ◌∷◌, length, map, arith}
use Rattle.std.specs.Prelude.{nat_eq, ◌==◌}
use Rattle.std.specs.List.{list_all, list_any}
use Rattle.gsl_values.specs.declared.op.BinaryOp.TheVariants.{Equal, Unequal}
use Rattle.gsl_values.specs.declared.value.Value.{Value}
use Rattle.gsl_values.specs.declared.value.Value.TheOpen.{Value-F}
use Rattle.gsl_values.specs.declared.value.Value.TheViews.{out-Value}
use Rattle.gsl_values.specs.declared.value.Value.TheFolds.{fold-roll-Value}
use Rattle.gsl_values.specs.declared.value.Value.TheVariants.{Word, Many, outs-Word, outs-Many, rolls-Word, rolls-Many}
use Rattle.gsl_values.specs.Operators.{binary_answer}
use Rattle.gsl_values.specs.Vectors.{binary_each}
use Rattle.gsl_values.specs.Word.{word_of_bool}
use Rattle.gsl_tree.specs.Operations.{is_true}
use Rattle.gsl_tree.specs.Values.{all_pass, of_components, same_value, same_value_layer}

-- ---- values

same_scalars : (x y : ℕ) → same_value (Word x) (Word y) ≡ nat_eq x y
same_scalars x y =
    ap (λ (test : Value → Bool). test (Word y)) (ap same_value (sym (rolls-Word x)) ∙ fold-roll-Value (Value → Bool) (λ layer other. same_value_layer layer (out-Value other)) (Value-F.Word x))
    ∙ ap (same_value_layer (Value-F.Word x)) (outs-Word y)

same_vectors : (xs ys : List Value) → same_value (Many xs) (Many ys) ≡ all_pass (map same_value xs) ys
same_vectors xs ys =
    ap (λ (test : Value → Bool). test (Many ys)) (ap same_value (sym (rolls-Many xs)) ∙ fold-roll-Value (Value → Bool) (λ layer other. same_value_layer layer (out-Value other)) (Value-F.Many xs))
    ∙ ap (same_value_layer (Value-F.Many (map same_value xs))) (outs-Many ys)

-- words one by one
abbrev pub same_each : List ℕ → List ℕ → Bool
same_each [] ys = true
same_each (x ∷ xs) [] = true
same_each (x ∷ xs) (y ∷ ys) = (x == y) && same_each xs ys

same_parts : (xs ys : List ℕ) → length xs ≡ length ys → all_pass (map same_value (map Word xs)) (map Word ys) ≡ same_each xs ys
same_parts [] [] e = refl
same_parts [] (y ∷ ys) e = absurd (let z : 0 ≡ suc (length ys) = e in omega (arith, z))
same_parts (x ∷ xs) [] e = absurd (let z : suc (length xs) ≡ 0 = e in omega (arith, z))
same_parts (x ∷ xs) (y ∷ ys) e = ap₂ (λ a b. a && b) (same_scalars x y) (same_parts xs ys (omega (arith, e)))

and_true : (b : Bool) → (b && true) ≡ b
and_true true = refl
and_true false = refl

pub same_words : (xs ys : List ℕ) → length xs ≡ length ys → same_value (of_components xs) (of_components ys) ≡ same_each xs ys
same_words [] [] e = same_vectors [] []
same_words [] (y ∷ ys) e = absurd (let z : 0 ≡ suc (length ys) = e in omega (arith, z))
same_words (x ∷ xs) [] e = absurd (let z : suc (length xs) ≡ 0 = e in omega (arith, z))
same_words (x ∷ []) (y ∷ []) e = same_scalars x y ∙ sym (and_true (x == y))
same_words (x ∷ []) (y ∷ next ∷ ys) e = absurd (let z : 1 ≡ suc (suc (length ys)) = e in omega (arith, z))
same_words (x ∷ next ∷ xs) (y ∷ []) e = absurd (let z : suc (suc (length xs)) ≡ 1 = e in omega (arith, z))
same_words (x ∷ next ∷ xs) (y ∷ other ∷ ys) e = same_vectors (map Word (x ∷ next ∷ xs)) (map Word (y ∷ other ∷ ys)) ∙ same_parts (x ∷ next ∷ xs) (y ∷ other ∷ ys) e

-- ---- the words that compare them

true_word : (b : Bool) → is_true (word_of_bool b) ≡ b
true_word true = refl
true_word false = refl

not_and : (a b : Bool) → not (a && b) ≡ (not a || not b)
not_and true b = refl
not_and false b = refl

pub all_equal : (signed : Bool) (xs ys choices : List ℕ) → list_all is_true (binary_each Equal signed xs ys choices).0 ≡ same_each xs ys
unfolding binary_answer
all_equal signed [] ys choices = refl
all_equal signed (x ∷ xs) [] choices = refl
all_equal signed (x ∷ xs) (y ∷ ys) choices = ap₂ (λ a b. a && b) (true_word (x == y)) (all_equal signed xs ys choices)

pub any_unequal : (signed : Bool) (xs ys choices : List ℕ) → list_any is_true (binary_each Unequal signed xs ys choices).0 ≡ not (same_each xs ys)
unfolding binary_answer
any_unequal signed [] ys choices = refl
any_unequal signed (x ∷ xs) [] choices = refl
any_unequal signed (x ∷ xs) (y ∷ ys) choices = ap₂ (λ a b. a || b) (true_word (not (x == y))) (any_unequal signed xs ys choices) ∙ sym (not_and (x == y) (same_each xs ys))

-- nothing is drawn
pub equal_left : (signed : Bool) (xs ys choices : List ℕ) → (binary_each Equal signed xs ys choices).1 ≡ choices
unfolding binary_answer
equal_left signed [] ys choices = refl
equal_left signed (x ∷ xs) [] choices = refl
equal_left signed (x ∷ xs) (y ∷ ys) choices = equal_left signed xs ys choices

pub unequal_left : (signed : Bool) (xs ys choices : List ℕ) → (binary_each Unequal signed xs ys choices).1 ≡ choices
unfolding binary_answer
unequal_left signed [] ys choices = refl
unequal_left signed (x ∷ xs) [] choices = refl
unequal_left signed (x ∷ xs) (y ∷ ys) choices = unequal_left signed xs ys choices

-- one truth value is that of all, and of any
pub equal_alone : (signed : Bool) (xs ys choices : List ℕ) → length xs ≡ 1 → length ys ≡ 1 → of_components (binary_each Equal signed xs ys choices).0 ≡ Word (word_of_bool (same_each xs ys))
unfolding binary_answer
equal_alone signed [] ys choices e f = absurd (let z : 0 ≡ 1 = e in omega (arith, z))
equal_alone signed (x ∷ next ∷ xs) ys choices e f = absurd (let z : suc (suc (length xs)) ≡ 1 = e in omega (arith, z))
equal_alone signed (x ∷ []) [] choices e f = absurd (let z : 0 ≡ 1 = f in omega (arith, z))
equal_alone signed (x ∷ []) (y ∷ []) choices e f = ap (λ b. Word (word_of_bool b)) (sym (and_true (x == y)))
equal_alone signed (x ∷ []) (y ∷ next ∷ ys) choices e f = absurd (let z : suc (suc (length ys)) ≡ 1 = f in omega (arith, z))

pub unequal_alone : (signed : Bool) (xs ys choices : List ℕ) → length xs ≡ 1 → length ys ≡ 1 → of_components (binary_each Unequal signed xs ys choices).0 ≡ Word (word_of_bool (not (same_each xs ys)))
unfolding binary_answer
unequal_alone signed [] ys choices e f = absurd (let z : 0 ≡ 1 = e in omega (arith, z))
unequal_alone signed (x ∷ next ∷ xs) ys choices e f = absurd (let z : suc (suc (length xs)) ≡ 1 = e in omega (arith, z))
unequal_alone signed (x ∷ []) [] choices e f = absurd (let z : 0 ≡ 1 = f in omega (arith, z))
unequal_alone signed (x ∷ []) (y ∷ []) choices e f = ap (λ b. Word (word_of_bool (not b))) (sym (and_true (x == y)))
unequal_alone signed (x ∷ []) (y ∷ next ∷ ys) choices e f = absurd (let z : suc (suc (length ys)) ≡ 1 = f in omega (arith, z))
