-- What is seen of bytes that are cut in two.
use mathlib.Core.Path.{fun_ext}
use Rattle.std.proofs.Common.{◌≡◌, refl, sym, ap, ◌∙◌, ℕ, zero, suc, ◌+◌, ◌-◌, ◌*◌, ◌/◌, ◌≤◌, List, ◌++◌, length, get_or, IsTrue, arith}
use Rattle.std.proofs.Math.Nat.{mul-le-mul_left}
use Rattle.std.proofs.lemmas.List.{get_or_append_left, get_or-append-add, length-append}
use Rattle.std.proofs.lemmas.Bool.{and_parts, true≢false}
use Rattle.gsl_layout.specs.Kinds.{part_count}
use Rattle.gsl_layout.specs.Layout.{Layout, Leaf, Array, Runtime, Group, Parts, End, Part, all_closed, closed, need, need_of}
use Rattle.gsl_views.specs.Seen.{Many, Words, seen, seen_part}
use Rattle.gsl_words.specs.Words.{word_at}
use Rattle.gsl_views.proofs.Kept.{less, row_same, run_same}
use Rattle.gsl_views.proofs.Words.{word_is}

module _ (a b : List ℕ) where
  word_first : (at : ℕ) → at + 4 ≤ length a → word_at (a ++ b) at ≡ word_at a at
  word_first at fits = omega (
    arith,
    word_is (a ++ b) at,
    word_is a at,
    get_or_append_left a b 0 at (omega (arith, fits)),
    get_or_append_left a b 0 (at + 1) (omega (arith, fits)),
    get_or_append_left a b 0 (at + 2) (omega (arith, fits)),
    get_or_append_left a b 0 (at + 3) (omega (arith, fits)),
  )

  word_second : (at : ℕ) → word_at (a ++ b) (length a + at) ≡ word_at b at
  word_second at =
      let moved = λ (k : ℕ). get_or-append-add a b (at + k) 0 in
      let shift : (k : ℕ) → get_or (a ++ b) (length a + at + k) 0 ≡ get_or b (at + k) 0 = λ k. ap (λ n. get_or (a ++ b) n 0) (omega arith) ∙ moved k in
      omega (arith, word_is (a ++ b) (length a + at), word_is b at, get_or-append-add a b at 0, shift 1, shift 2, shift 3)

  mutual
    -- in the first bytes
    pub seen_first : (layout : Layout) (at : ℕ) → IsTrue (closed layout) → at + need layout ≤ length a → seen layout at (a ++ b) ≡ seen layout at a
    seen_first (Leaf components) at shut fits = ap Words (run_same _ _ 0 components (λ c low high. word_first (at + 4 * c) (omega (arith, high, fits))))
    seen_first (Array stride count element) at shut fits =
        row_same count count _ _ refl (λ i below. seen_first element (at + stride * i) shut (omega (arith, fits, mul-le-mul_left stride (less i count below))))
    seen_first (Runtime stride element) at shut fits = let never : ⊥ = true≢false (sym shut) in elim never [ ]
    seen_first (Group members all) at shut fits = ap (Many (part_count members)) (fun_ext (λ i. parts_first members at i shut fits))

    parts_first : (parts : Parts) (at i : ℕ) → IsTrue (all_closed parts) → at + need_of parts ≤ length a → seen_part parts at (a ++ b) i ≡ seen_part parts at a i
    parts_first End at i shut fits = refl
    parts_first (Part offset layout rest) at zero shut fits = seen_first layout (at + offset) (and_parts _ _ shut).0 (omega (arith, fits))
    parts_first (Part offset layout rest) at (suc i) shut fits = parts_first rest at i (and_parts _ _ shut).1 (omega (arith, fits))

  mutual
    -- in the bytes behind them
    pub seen_second : (layout : Layout) (at place : ℕ) → place ≡ length a + at → seen layout place (a ++ b) ≡ seen layout at b
    seen_second (Leaf components) at place is = ap Words (run_same _ _ 0 components (λ c low high. ap (word_at (a ++ b)) (omega (arith, is)) ∙ word_second (at + 4 * c)))
    seen_second (Array stride count element) at place is = row_same count count _ _ refl (λ i below. seen_second element (at + stride * i) (place + stride * i) (omega (arith, is)))
    seen_second (Runtime stride element) at place is =
        let room : length (a ++ b) - place ≡ length b - at = omega (arith, is, length-append a b) in
        row_same ((length (a ++ b) - place) / stride) ((length b - at) / stride) _ _ (ap (λ n. n / stride) room) (λ i below. seen_second element (at + stride * i) (place + stride * i) (omega (arith, is)))
    seen_second (Group members all) at place is = ap (Many (part_count members)) (fun_ext (λ i. parts_second members at place i is))

    parts_second : (parts : Parts) (at place i : ℕ) → place ≡ length a + at → seen_part parts place (a ++ b) i ≡ seen_part parts at b i
    parts_second End at place i is = refl
    parts_second (Part offset layout rest) at place zero is = seen_second layout (at + offset) (place + offset) (omega (arith, is))
    parts_second (Part offset layout rest) at place (suc i) is = parts_second rest at place i is
