-- The first components of scalars and vectors.
use Rattle.std.proofs.Common.{◌≡◌, refl, sym, ap, ◌∙◌, ℕ, zero, suc, ◌+◌, ◌-◌, ◌<◌, ◌≤◌, true, List, [], ◌∷◌, ◌++◌, length, map, get_or, take, drop, arith}
use Rattle.std.proofs.lemmas.List.{drop_more}
use Rattle.std.specs.Prelude.{replicate, slice_index}
use Rattle.std.specs.List.{AllByRecursion, range_with_len}
use Rattle.gsl_types.specs.declared.ty.Scalar.{Scalar}
use Rattle.gsl_types.specs.declared.ty.Scalar.TheVariants.{Bool as Boolean, Int, Uint}
use Rattle.gsl_values.specs.declared.value.Value.TheVariants.{Word, Many}
use Rattle.gsl_tree.specs.Values.{is_word_of, of_components}
use Rattle.gsl_lower_law_operators.specs.OfLaw.{AreWords}

-- ---- lists

-- the parts in front are those at the first positions
picked_from : (ws : List ℕ) (a n : ℕ) → a + n ≤ length ws → map (slice_index ws) (range_with_len a n) ≡ take n (drop a ws)
picked_from ws a zero le = refl
picked_from ws a (suc n) le = ap (λ l. get_or ws a 0 ∷ l) (picked_from ws (a + 1) n (omega (arith, le))) ∙ ap (take (suc n)) (sym (drop_more ws a 0 (omega (arith, le))))

pub picked_front : (ws : List ℕ) (n : ℕ) → n ≤ length ws → map (slice_index ws) (range_with_len 0 n) ≡ take n ws
picked_front ws n le = picked_from ws 0 n (omega (arith, le))

pub positions_below : (count a n : ℕ) → a + n ≤ count → AllByRecursion (λ position. position < count) (range_with_len a n)
positions_below count a zero le = tt
positions_below count a (suc n) le = (omega (arith, le), positions_below count (a + 1) n (omega (arith, le)))

-- so many of two lists in a row
pub take_row : (n : ℕ) (xs ys : List ℕ) → take n (xs ++ ys) ≡ take n xs ++ take (n - length xs) ys
take_row zero [] ys = refl
take_row zero (x ∷ xs) ys = let none : 0 ≡ 0 - suc (length xs) = omega arith in ap (λ k. take k ys) none
take_row (suc n) [] ys = let same : suc n ≡ suc n - 0 = omega arith in ap (λ k. take k ys) same
take_row (suc n) (x ∷ xs) ys = let same : n - length xs ≡ suc n - suc (length xs) = omega arith in ap (λ l. x ∷ l) (take_row n xs ys ∙ ap (λ k. take n xs ++ take k ys) same)

pub map_row : (f : ℕ → ℕ) (xs ys : List ℕ) → map f (xs ++ ys) ≡ map f xs ++ map f ys
map_row f [] ys = refl
map_row f (x ∷ xs) ys = ap (λ l. f x ∷ l) (map_row f xs ys)

pub take_same : (n w : ℕ) → take n (replicate n w) ≡ replicate n w
take_same zero w = refl
take_same (suc n) w = ap (λ l. w ∷ l) (take_same n w)

pub map_replicated : (f : ℕ → ℕ) (n w : ℕ) → map f (replicate n w) ≡ replicate n (f w)
map_replicated f zero w = refl
map_replicated f (suc n) w = ap (λ l. f w ∷ l) (map_replicated f n w)

pub first_in_row : (xs ys : List ℕ) → 1 ≤ length xs → slice_index (xs ++ ys) 0 ≡ slice_index xs 0
first_in_row [] ys some = absurd (let z : 1 ≤ 0 = some in omega (arith, z))
first_in_row (x ∷ xs) ys some = refl

-- ---- words

pub front_fits : (s : Scalar) (n : ℕ) (ws : List ℕ) → AreWords s ws → AreWords s (take n ws)
front_fits s zero ws fits = tt
front_fits s (suc n) [] fits = tt
front_fits s (suc n) (w ∷ ws) fits = (fits.0, front_fits s n ws fits.1)

zero_fits : (s : Scalar) → is_word_of s 0 ≡ true
zero_fits Boolean = refl
zero_fits Int = refl
zero_fits Uint = refl

pub zeros_fit : (s : Scalar) (n : ℕ) → AreWords s (replicate n 0)
zeros_fit s zero = tt
zeros_fit s (suc n) = (zero_fits s, zeros_fit s n)

-- a value of other than one word has them as its parts
pub many_words : (ws : List ℕ) → 2 ≤ length ws → of_components ws ≡ Many (map Word ws)
many_words [] many = absurd (let z : 2 ≤ 0 = many in omega (arith, z))
many_words (w ∷ []) many = absurd (let z : 2 ≤ 1 = many in omega (arith, z))
many_words (w ∷ next ∷ ws) many = refl
