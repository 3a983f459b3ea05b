-- The words of scalars and vectors.
use Rattle.std.proofs.Common.{◌≡◌, refl, sym, ap, ap₂, ◌∙◌, ℕ, zero, suc, ◌≤◌, List, [], ◌∷◌, ◌++◌, ◌⊎◌, inl, inr, length, map, arith}
use Rattle.std.specs.Prelude.{max, replicate}
use Rattle.gsl_values.specs.declared.value.Value.{Value}
use Rattle.gsl_values.specs.declared.value.Value.TheVariants.{Word, outs-Word, outs-Many}
use Rattle.gsl_tree.specs.Operations.{all_components, spread}
use Rattle.gsl_tree.specs.Values.{components_in, components_layer, of_components, word_in, word_layer}

word_of_word : (w : ℕ) → word_in (Word w) ≡ w
word_of_word w = ap word_layer (outs-Word w)

words_of_words : (ws : List ℕ) → map word_in (map Word ws) ≡ ws
words_of_words [] = refl
words_of_words (w ∷ ws) = ap₂ (λ x xs. x ∷ xs) (word_of_word w) (words_of_words ws)

pub components_of : (ws : List ℕ) → components_in (of_components ws) ≡ ws
components_of [] = ap components_layer (outs-Many [])
components_of (w ∷ []) = ap components_layer (outs-Word w)
components_of (w ∷ next ∷ ws) = ap components_layer (outs-Many (map Word (w ∷ next ∷ ws))) ∙ words_of_words (w ∷ next ∷ ws)

-- ---- a scalar for each component

pub length_replicated : (n w : ℕ) → length (replicate n w) ≡ n
length_replicated zero w = refl
length_replicated (suc n) w = ap suc (length_replicated n w)

-- so many words, or one
abbrev pub Serves : ℕ → List ℕ → Type 0
Serves count ws = (length ws ≡ count) ⊎ (length ws ≡ 1)

suc_zero : (n : ℕ) → suc n ≡ 0 → ⊥
suc_zero n e = omega (arith, e)

two_one : (n : ℕ) → suc (suc n) ≡ 1 → ⊥
two_one n e = omega (arith, e)

pub length_spread : (count : ℕ) (ws : List ℕ) → Serves count ws → length (spread count ws) ≡ count
length_spread count [] (inl e) = e
length_spread count [] (inr e) = absurd (suc_zero 0 (sym e))
length_spread count (w ∷ []) serves = length_replicated count w
length_spread count (w ∷ next ∷ ws) (inl e) = e
length_spread count (w ∷ next ∷ ws) (inr e) = absurd (two_one (length ws) e)

pub spread_self : (count : ℕ) (ws : List ℕ) → length ws ≡ count → spread count ws ≡ ws
spread_self count [] e = refl
spread_self count (w ∷ []) e = ap (λ n. replicate n w) (sym e)
spread_self count (w ∷ next ∷ ws) e = refl

-- as many as the other, where that has more
pub spread_most : (xs ys : List ℕ) → 1 ≤ length ys → spread (max (length xs) (length ys)) xs ≡ spread (length ys) xs
spread_most [] ys h = refl
spread_most (x ∷ []) ys h = ap (λ n. replicate n x) (omega (arith, h))
spread_most (x ∷ next ∷ xs) ys h = refl

pub spread_most_right : (xs ys : List ℕ) → 1 ≤ length xs → spread (max (length xs) (length ys)) ys ≡ spread (length xs) ys
spread_most_right xs [] h = refl
spread_most_right xs (y ∷ []) h = ap (λ n. replicate n y) (omega (arith, h))
spread_most_right xs (y ∷ next ∷ ys) h = refl

-- a scalar so many times in a row
pub words_replicated : (count w : ℕ) (v : Value) → components_in v ≡ w ∷ [] → all_components (replicate count v) ≡ replicate count w
words_replicated zero w v e = refl
words_replicated (suc count) w v e = ap₂ (λ xs ys. xs ++ ys) e (words_replicated count w v e)
