-- Vectors, component by component.
use Rattle.std.proofs.Common.{◌≡◌, ℕ, ◌+◌, ◌<◌, ◌≤◌, Bool, List, [], ◌∷◌, ◌++◌, length, take, drop, get_or, refl, sym, ap, ap₂, ◌∙◌, arith, append_assoc, append-nil, inl, inr}
use Rattle.std.proofs.Math.Numerals.{add-one}
use Rattle.std.proofs.Math.Seq.{drop-cons, take-suc-set}
use Rattle.std.proofs.Math.ListN.{set}
use Rattle.std.proofs.lemmas.Bool.{cases_lt}
use Rattle.std.proofs.lemmas.List.{get_or-take, length-take, drop_all, get_or_past}
use Rattle.gsl_values.specs.declared.op.BinaryOp.{BinaryOp}
use Rattle.gsl_values.specs.Operators.{binary_answer}
use Rattle.gsl_values.specs.Vectors.{binary_each, lanes_of}
use Rattle.gsl_values.specs.declared.lane.Lanes.{Lanes}

-- the answer with words in front of it
abbrev pub with_front : List ℕ → List ℕ × List ℕ → List ℕ × List ℕ
with_front words rest = (words ++ rest.0, rest.1)

module _ (op : BinaryOp) (signed : Bool) where
  -- one more component is written behind those that are done
  pub one_more : (xs ys words choices : List ℕ) (i : ℕ) → i < length xs → i < length ys → i < length words
      → with_front (take (i + 1) (set words i (binary_answer op signed (get_or xs i 0) (get_or ys i 0) choices).0))
      (binary_each op signed (drop (i + 1) xs) (drop (i + 1) ys) (binary_answer op signed (get_or xs i 0) (get_or ys i 0) choices).1)
      ≡ with_front (take i words) (binary_each op signed (drop i xs) (drop i ys) choices)
  one_more xs ys words choices i h k l =
      rw (add-one i, take-suc-set words i (binary_answer op signed (get_or xs i 0) (get_or ys i 0) choices).0 l, drop-cons xs i 0 h, drop-cons ys i 0 k, append_assoc) refl

  -- the same of the first n words of two arrays, lefts the code reads and writes them
  pub one_more_lane : (lefts rights words choices new : List ℕ) (n m i word : ℕ) → n ≤ length lefts → m ≤ length rights → i < n → i < m → i < length words
      → word ≡ (binary_answer op signed (get_or lefts i 0) (get_or rights i 0) choices).0
      → new ≡ (binary_answer op signed (get_or lefts i 0) (get_or rights i 0) choices).1
      → with_front (take (i + 1) (set words i word)) (binary_each op signed (drop (i + 1) (take n lefts)) (drop (i + 1) (take m rights)) new)
      ≡ with_front (take i words) (binary_each op signed (drop i (take n lefts)) (drop i (take m rights)) choices)
  one_more_lane lefts rights words choices new n m i word h k l l' b e f =
      let same_a : get_or (take n lefts) i 0 ≡ get_or lefts i 0 = get_or-take n lefts i 0 l in
      let same_b : get_or (take m rights) i 0 ≡ get_or rights i 0 = get_or-take m rights i 0 l' in
      let answered : (word, new) ≡ binary_answer op signed (get_or (take n lefts) i 0) (get_or (take m rights) i 0) choices =
      ap₂ (λ (w : ℕ) (rest : List ℕ). (w, rest)) e f ∙ ap₂ (λ (x y : ℕ). binary_answer op signed x y choices) (sym same_a) (sym same_b) in
      ap (λ (r : ℕ × List ℕ). with_front (take (i + 1) (set words i r.0)) (binary_each op signed (drop (i + 1) (take n lefts)) (drop (i + 1) (take m rights)) r.1)) answered
      ∙ one_more (take n lefts) (take m rights) words choices i (simp length-take (omega arith)) (simp length-take (omega arith)) b

  -- behind the last component nothing is done
  pub none_left : (lefts rights words choices : List ℕ) (n i : ℕ) → i ≡ n
      → with_front (take n words) ([], choices) ≡ with_front (take i words) (binary_each op signed (drop i (take n lefts)) rights choices)
  none_left lefts rights words choices n i e = rw (e, drop_all n (take n lefts) (simp length-take (omega arith))) refl

-- four words with 0 past the first n are the lanes of these
pub are_lanes : (words : List ℕ) (n : ℕ) → length words ≡ 4 → n ≤ 4 → ((k : ℕ) → n ≤ k → get_or words k 0 ≡ 0) → (k : ℕ) → get_or words k 0 ≡ get_or (take n words) k 0
are_lanes words n len h past k =
    elim (cases_lt k n) [
      | inl l ↦ sym (get_or-take n words k 0 l)
      | inr g ↦ past k g ∙ sym (get_or_past (take n words) k 0 (simp length-take (omega arith)))
    ]

pub four_words : (words : List ℕ) → length words ≡ 4 → words ≡ get_or words 0 0 ∷ get_or words 1 0 ∷ get_or words 2 0 ∷ get_or words 3 0 ∷ []
four_words [] e = cc
four_words (a ∷ []) e = absurd (omega arith)
four_words (a ∷ b ∷ []) e = absurd (omega arith)
four_words (a ∷ b ∷ c ∷ []) e = absurd (omega arith)
four_words (a ∷ b ∷ c ∷ d ∷ []) e = refl
four_words (a ∷ b ∷ c ∷ d ∷ x ∷ xs) e = absurd (omega arith)

abbrev pub as_lanes : List ℕ → ℕ → Lanes
as_lanes words n = record { words = words; count = n }

pub is_lanes : (words : List ℕ) (n : ℕ) → length words ≡ 4 → n ≤ 4 → ((k : ℕ) → n ≤ k → get_or words k 0 ≡ 0) → as_lanes words n ≡ lanes_of (take n words)
is_lanes words n len h past =
    let at : (k : ℕ) → get_or words k 0 ≡ get_or (take n words) k 0 = are_lanes words n len h past in
    let four : words ≡ get_or (take n words) 0 0 ∷ get_or (take n words) 1 0 ∷ get_or (take n words) 2 0 ∷ get_or (take n words) 3 0 ∷ [] =
    four_words words len ∙ rw (at 0, at 1, at 2, at 3) refl in
    let count : n ≡ length (take n words) = simp length-take (omega arith) in
    ap₂ as_lanes four count

-- what the loop leaves is the lanes of the answer
pub is_answer : (words choices : List ℕ) (n : ℕ) (answer : List ℕ × List ℕ) → length words ≡ 4 → n ≤ 4 → ((k : ℕ) → n ≤ k → get_or words k 0 ≡ 0)
    → with_front (take n words) ([], choices) ≡ answer → as_lanes words n ≡ lanes_of answer.0
is_answer words choices n answer len h past e =
    is_lanes words n len h past ∙ ap lanes_of (sym (append-nil (take n words))) ∙ ap (λ (r : List ℕ × List ℕ). lanes_of r.0) e
