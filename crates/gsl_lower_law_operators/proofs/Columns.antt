-- Components of arguments by their places, and what a selection gives.
use Rattle.std.proofs.Common.{◌≡◌, refl, sym, ap, ap₂, ◌∙◌, ℕ, zero, suc, ◌+◌, false, List, [], ◌∷◌, ◌++◌, length, map, append_assoc, arith, if◌then◌else◌}
use Rattle.std.specs.Prelude.{replicate, slice_index, ◌==◌}
use Rattle.gsl_values.specs.Functions.{builtin_answer}
use Rattle.gsl_values.specs.declared.function.Builtin.TheVariants.{Mix}
use Rattle.gsl_tree.specs.Operations.{builtin_each, component_at}

slice_at : (done : List ℕ) (w : ℕ) (rest : List ℕ) → slice_index (done ++ w ∷ rest) (length done) ≡ w
slice_at [] w rest = refl
slice_at (d ∷ done) w rest = slice_at done w rest

-- the component that stands behind some
pub component_behind : (done : List ℕ) (w : ℕ) (rest : List ℕ) → component_at (length done) (done ++ w ∷ rest) ≡ w
component_behind [] w [] = refl
component_behind [] w (r ∷ rest) = refl
component_behind (d ∷ []) w rest = refl
component_behind (d ∷ next ∷ done) w rest = slice_at (d ∷ next ∷ done) w rest

pub replicate_behind : (n k w : ℕ) → replicate n w ++ w ∷ replicate k w ≡ replicate (n + suc k) w
replicate_behind zero k w = ap (λ n. replicate n w) (let e : suc k ≡ 0 + suc k = omega arith in e)
replicate_behind (suc n) k w = ap (λ l. w ∷ l) (replicate_behind n k w) ∙ ap (λ n. replicate n w) (let e : suc (n + suc k) ≡ suc n + suc k = omega arith in e)

length_replicated : (n w : ℕ) → length (replicate n w) ≡ n
length_replicated zero w = refl
length_replicated (suc n) w = ap suc (length_replicated n w)

-- so many of one word, at any place
pub component_filled : (n k w : ℕ) → component_at n (replicate (n + suc k) w) ≡ w
component_filled n k w =
    ap (component_at n) (sym (replicate_behind n k w)) ∙ ap (λ i. component_at i (replicate n w ++ w ∷ replicate k w)) (sym (length_replicated n w)) ∙ component_behind (replicate n w) w (replicate k w)

-- one of two words by a third
abbrev pub by_word : ℕ → ℕ → ℕ → ℕ
by_word none one w = if w == 0 then none else one

-- A selection from two vectors that each have one word.
mixes : (none one : ℕ) (done rest choices : List ℕ) (count : ℕ) → count ≡ length done + length rest
    → builtin_each Mix false (replicate count none ∷ replicate count one ∷ (done ++ rest) ∷ []) (length rest) (length done) choices ≡ (map (by_word none one) rest, choices)
unfolding builtin_answer
mixes none one done [] choices count e = refl
mixes none one done (w ∷ rest) choices count e =
    ap₂ (λ a b. ((if component_at (length done) (done ++ w ∷ rest) == 0 then a else b) ∷ others.0, others.1)) (filled none) (filled one)
    ∙ ap (λ c. (by_word none one c ∷ others.0, others.1)) (component_behind done w rest)
    ∙ ap (λ (o : List ℕ × List ℕ). (by_word none one w ∷ o.0, o.1)) (later (mixes none one (done ++ w ∷ []) rest choices count longer))
  where
    others : List ℕ × List ℕ
    others = builtin_each Mix false (replicate count none ∷ replicate count one ∷ (done ++ w ∷ rest) ∷ []) (length rest) (length done + 1) choices

    filled : (x : ℕ) → component_at (length done) (replicate count x) ≡ x
    filled x = ap (λ n. component_at (length done) (replicate n x)) e ∙ component_filled (length done) (length rest) x

    length_more : (l : List ℕ) → length (l ++ w ∷ []) ≡ length l + 1
    length_more [] = refl
    length_more (x ∷ l) = ap suc (length_more l) ∙ (let z : suc (length l + 1) ≡ suc (length l) + 1 = omega arith in z)

    longer : count ≡ length (done ++ w ∷ []) + length rest
    longer = e ∙ (let z : length done + suc (length rest) ≡ (length done + 1) + length rest = omega arith in z) ∙ ap (λ n. n + length rest) (sym (length_more done))

    later : builtin_each Mix false (replicate count none ∷ replicate count one ∷ ((done ++ w ∷ []) ++ rest) ∷ []) (length rest) (length (done ++ w ∷ [])) choices ≡ (map (by_word none one) rest, choices) → others ≡ (map (by_word none one) rest, choices)
    later is =
        ap (λ l. builtin_each Mix false (replicate count none ∷ replicate count one ∷ l ∷ []) (length rest) (length done + 1) choices) (sym (append_assoc done (w ∷ []) rest))
        ∙ ap (λ n. builtin_each Mix false (replicate count none ∷ replicate count one ∷ ((done ++ w ∷ []) ++ rest) ∷ []) (length rest) n choices) (sym (length_more done))
        ∙ is

pub mix_filled : (none one : ℕ) (ws choices : List ℕ) → builtin_each Mix false (replicate (length ws) none ∷ replicate (length ws) one ∷ ws ∷ []) (length ws) 0 choices ≡ (map (by_word none one) ws, choices)
mix_filled none one ws choices = mixes none one [] ws choices (length ws) (omega arith)
