-- Built-in functions, component by component: what does not matter to them, and how they agree with operators.
use Rattle.std.proofs.Common.{◌≡◌, refl, sym, ap, ap₂, ◌∙◌, ℕ, zero, suc, ◌+◌, ◌-◌, ◌<◌, Bool, true, false, List, [], ◌∷◌, ◌++◌, length, map, append_assoc, arith}
use Rattle.std.specs.Prelude.{replicate}
use Rattle.gsl_values.specs.declared.function.Builtin.{Builtin}
use Rattle.gsl_values.specs.declared.op.BinaryOp.{BinaryOp}
use Rattle.gsl_values.specs.Operators.{binary_answer}
use Rattle.gsl_values.specs.Functions.{builtin_answer}
use Rattle.gsl_values.specs.Vectors.{binary_each}
use Rattle.gsl_tree.specs.Operations.{builtin_each, component_at, spread}
use Rattle.gsl_lower_law_operators.proofs.Columns.{component_behind, component_filled}

-- A function takes no account of signs.
abbrev pub Unsigned : Builtin → Type 0
Unsigned which = (args choices : List ℕ) → builtin_answer which true args choices ≡ builtin_answer which false args choices

-- A function draws nothing.
abbrev pub Steady : Builtin → Type 0
Steady which = (signed : Bool) (args choices : List ℕ) → builtin_answer which signed args choices ≡ ((builtin_answer which signed args []).0, choices)

pub each_unsigned : (which : Builtin) → Unsigned which → (signed : Bool) (args : List (List ℕ)) (count from : ℕ) (choices : List ℕ) → builtin_each which signed args count from choices ≡ builtin_each which false args count from choices
each_unsigned which u false args count from choices = refl
each_unsigned which u true args zero from choices = refl
each_unsigned which u true args (suc count) from choices =
    ap (λ (first : ℕ × List ℕ). (first.0 ∷ (builtin_each which true args count (from + 1) first.1).0, (builtin_each which true args count (from + 1) first.1).1)) (u (map (component_at from) args) choices)
    ∙ ap (λ (others : List ℕ × List ℕ). ((builtin_answer which false (map (component_at from) args) choices).0 ∷ others.0, others.1)) (each_unsigned which u true args count (from + 1) (builtin_answer which false (map (component_at from) args) choices).1)

pub each_steady : (which : Builtin) → Steady which → (signed : Bool) (args : List (List ℕ)) (count from : ℕ) (choices : List ℕ) → builtin_each which signed args count from choices ≡ ((builtin_each which signed args count from []).0, choices)
each_steady which s signed args zero from choices = refl
each_steady which s signed args (suc count) from choices =
    ap (λ (first : ℕ × List ℕ). (first.0 ∷ (builtin_each which signed args count (from + 1) first.1).0, (builtin_each which signed args count (from + 1) first.1).1)) (s signed (map (component_at from) args) choices)
    ∙ ap (λ (others : List ℕ × List ℕ). (word ∷ others.0, others.1)) (each_steady which s signed args count (from + 1) choices)
    ∙ ap (λ l. (word ∷ l, choices)) (sym (ap (λ (o : List ℕ × List ℕ). o.0) (each_steady which s signed args count (from + 1) left)))
  where
    word : ℕ
    word = (builtin_answer which signed (map (component_at from) args) []).0

    left : List ℕ
    left = (builtin_answer which signed (map (component_at from) args) []).1

-- ---- the same components

-- Two rows of arguments have the same components, at so many places from one on.
abbrev pub SameAt : List (List ℕ) → List (List ℕ) → ℕ → ℕ → Type 0
SameAt args others count from = (k : ℕ) → k < count → map (component_at (from + k)) args ≡ map (component_at (from + k)) others

pub each_same : (which : Builtin) (signed : Bool) (args others : List (List ℕ)) (count from : ℕ) (choices : List ℕ) → SameAt args others count from → builtin_each which signed args count from choices ≡ builtin_each which signed others count from choices
each_same which signed args others zero from choices same = refl
each_same which signed args others (suc count) from choices same =
    ap (λ (l : List ℕ). (let first = builtin_answer which signed l choices in (first.0 ∷ (builtin_each which signed args count (from + 1) first.1).0, (builtin_each which signed args count (from + 1) first.1).1)))
    (ap (λ n. map (component_at n) args) (let e : from ≡ from + 0 = omega arith in e) ∙ same 0 (omega arith) ∙ ap (λ n. map (component_at n) others) (let e : from + 0 ≡ from = omega arith in e))
    ∙ (let first = builtin_answer which signed (map (component_at from) others) choices in
    ap (λ (o : List ℕ × List ℕ). (first.0 ∷ o.0, o.1))
    (each_same which signed args others count (from + 1) first.1
    (λ k less. ap (λ n. map (component_at n) args) (let e : (from + 1) + k ≡ from + suc k = omega arith in e) ∙ same (suc k) (omega (arith, less)) ∙ ap (λ n. map (component_at n) others) (let e : from + suc k ≡ (from + 1) + k = omega arith in e))))

-- a scalar as a vector has its word at each place
pub spread_at : (count k : ℕ) (ws : List ℕ) → k < count → component_at k (spread count ws) ≡ component_at k ws
spread_at count k [] less = refl
spread_at count k (w ∷ []) less = ap (λ n. component_at k (replicate n w)) (let e : count ≡ k + suc (count - suc k) = omega (arith, less) in e) ∙ component_filled k (count - suc k) w
spread_at count k (w ∷ next ∷ ws) less = refl

-- ---- one and two arguments

length_more : (l : List ℕ) (w : ℕ) → length (l ++ w ∷ []) ≡ length l + 1
length_more [] w = refl
length_more (x ∷ l) w = ap suc (length_more l w) ∙ (let z : suc (length l + 1) ≡ suc (length l) + 1 = omega arith in z)

one_from : (which : Builtin) (signed : Bool) (f : ℕ → ℕ) → ((w : ℕ) (choices : List ℕ) → builtin_answer which signed (w ∷ []) choices ≡ (f w, choices)) → (done rest choices : List ℕ)
    → builtin_each which signed ((done ++ rest) ∷ []) (length rest) (length done) choices ≡ (map f rest, choices)
one_from which signed f is done [] choices = refl
one_from which signed f is done (w ∷ rest) choices =
    ap (λ (first : ℕ × List ℕ). (first.0 ∷ (builtin_each which signed ((done ++ w ∷ rest) ∷ []) (length rest) (length done + 1) first.1).0, (builtin_each which signed ((done ++ w ∷ rest) ∷ []) (length rest) (length done + 1) first.1).1))
    (ap (λ c. builtin_answer which signed (c ∷ []) choices) (component_behind done w rest) ∙ is w choices)
    ∙ ap (λ (o : List ℕ × List ℕ). (f w ∷ o.0, o.1))
    (ap (λ l. builtin_each which signed (l ∷ []) (length rest) (length done + 1) choices) (sym (append_assoc done (w ∷ []) rest))
    ∙ ap (λ n. builtin_each which signed (((done ++ w ∷ []) ++ rest) ∷ []) (length rest) n choices) (sym (length_more done w))
    ∙ one_from which signed f is (done ++ w ∷ []) rest choices)

pub one_each : (which : Builtin) (signed : Bool) (f : ℕ → ℕ) → ((w : ℕ) (choices : List ℕ) → builtin_answer which signed (w ∷ []) choices ≡ (f w, choices)) → (ws choices : List ℕ)
    → builtin_each which signed (ws ∷ []) (length ws) 0 choices ≡ (map f ws, choices)
one_each which signed f is ws choices = one_from which signed f is [] ws choices

two_from : (which : Builtin) (op : BinaryOp) (signed : Bool) → ((x y : ℕ) (choices : List ℕ) → builtin_answer which signed (x ∷ y ∷ []) choices ≡ binary_answer op signed x y choices) → (front behind xs ys choices : List ℕ)
    → length front ≡ length behind → length xs ≡ length ys
    → builtin_each which signed ((front ++ xs) ∷ (behind ++ ys) ∷ []) (length xs) (length front) choices ≡ binary_each op signed xs ys choices
two_from which op signed is front behind [] ys choices e f = refl
two_from which op signed is front behind (x ∷ xs) [] choices e f = absurd (let z : suc (length xs) ≡ 0 = f in omega (arith, z))
two_from which op signed is front behind (x ∷ xs) (y ∷ ys) choices e f =
    ap (λ (first : ℕ × List ℕ). (first.0 ∷ (later first.1).0, (later first.1).1))
    (ap₂ (λ a b. builtin_answer which signed (a ∷ b ∷ []) choices) (component_behind front x xs) (ap (λ n. component_at n (behind ++ y ∷ ys)) e ∙ component_behind behind y ys) ∙ is x y choices)
    ∙ ap (λ (o : List ℕ × List ℕ). ((binary_answer op signed x y choices).0 ∷ o.0, o.1))
    (ap₂ (λ a b. builtin_each which signed (a ∷ b ∷ []) (length xs) (length front + 1) left) (sym (append_assoc front (x ∷ []) xs)) (sym (append_assoc behind (y ∷ []) ys))
    ∙ ap (λ n. builtin_each which signed (((front ++ x ∷ []) ++ xs) ∷ ((behind ++ y ∷ []) ++ ys) ∷ []) (length xs) n left) (sym (length_more front x))
    ∙ two_from which op signed is (front ++ x ∷ []) (behind ++ y ∷ []) xs ys left (length_more front x ∙ ap (λ n. n + 1) e ∙ sym (length_more behind y)) (omega (arith, f)))
  where
    left : List ℕ
    left = (binary_answer op signed x y choices).1

    later : List ℕ → List ℕ × List ℕ
    later = builtin_each which signed ((front ++ x ∷ xs) ∷ (behind ++ y ∷ ys) ∷ []) (length xs) (length front + 1)

pub two_each : (which : Builtin) (op : BinaryOp) (signed : Bool) → ((x y : ℕ) (choices : List ℕ) → builtin_answer which signed (x ∷ y ∷ []) choices ≡ binary_answer op signed x y choices) → (xs ys choices : List ℕ)
    → length xs ≡ length ys → builtin_each which signed (xs ∷ ys ∷ []) (length xs) 0 choices ≡ binary_each op signed xs ys choices
two_each which op signed is xs ys choices f = two_from which op signed is [] [] xs ys choices refl f
