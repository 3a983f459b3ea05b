-- The components of an operator on vectors draw in their order.
use Rattle.std.proofs.Common.{◌≡◌, ℕ, zero, suc, ◌<◌, ◌≤◌, Bool, true, false, cond, List, [], ◌∷◌, length, take, drop, get_or, refl, ap, ◌∙◌, arith}
use Rattle.std.proofs.lemmas.List.{get_or-take, get_or_past, length-take, take-take, drop-drop}
use Rattle.gsl_values.specs.declared.op.BinaryOp.{BinaryOp}
use Rattle.gsl_values.specs.declared.lane.Lanes.{Lanes}
use Rattle.gsl_values.specs.Choices.{undrawn, answer}
use Rattle.gsl_values.specs.Operators.{is_free, binary_word, binary_answer}
use Rattle.gsl_values.specs.Vectors.{IsLanes, components, binary_each, lanes_of, lanes_answer}
use Rattle.gsl_values.specs.Laws.{draws}

undrawn-is : (choices : List ℕ) → undrawn choices ≡ drop 1 choices
undrawn-is [] = refl
undrawn-is (x ∷ xs) = refl

left_of : (free : Bool) (word : ℕ) (choices : List ℕ) → (answer free word choices).1 ≡ drop (cond free 1 0) choices
left_of true word choices = undrawn-is choices
left_of false word choices = refl

four_at : (words : List ℕ) (i : ℕ) → i < 4 → get_or (lanes_of words).words i 0 ≡ get_or words i 0
four_at words zero h = refl
four_at words (suc zero) h = refl
four_at words (suc (suc zero)) h = refl
four_at words (suc (suc (suc zero))) h = refl
four_at words (suc (suc (suc (suc i)))) h = absurd (omega arith)

none_at : (words : List ℕ) (i : ℕ) → length words ≤ i → get_or (lanes_of words).words i 0 ≡ 0
none_at words zero h = get_or_past words 0 0 h
none_at words (suc zero) h = get_or_past words 1 0 h
none_at words (suc (suc zero)) h = get_or_past words 2 0 h
none_at words (suc (suc (suc zero))) h = get_or_past words 3 0 h
none_at words (suc (suc (suc (suc i)))) h = refl

module _ (op : BinaryOp) (signed : Bool) where
  -- one component leaves the choices behind the one that it draws, if any
  left_by_one : (x y : ℕ) (choices : List ℕ) → (binary_answer op signed x y choices).1 ≡ drop (cond (is_free op signed x y) 1 0) choices
  unfolding binary_answer
  left_by_one x y choices = left_of (is_free op signed x y) (binary_word op signed x y) choices

  left_by_each : (xs ys choices : List ℕ) → (binary_each op signed xs ys choices).1 ≡ drop (draws op signed xs ys) choices
  left_by_each [] ys choices = refl
  left_by_each (x ∷ xs) [] choices = refl
  left_by_each (x ∷ xs) (y ∷ ys) choices =
      left_by_each xs ys (binary_answer op signed x y choices).1 ∙ ap (drop (draws op signed xs ys)) (left_by_one x y choices)
      ∙ drop-drop (draws op signed xs ys) (cond (is_free op signed x y) 1 0) choices

  component_at : (xs ys choices : List ℕ) (i : ℕ) → i < length xs → i < length ys
      → get_or (binary_each op signed xs ys choices).0 i 0 ≡ (binary_answer op signed (get_or xs i 0) (get_or ys i 0) (drop (draws op signed (take i xs) (take i ys)) choices)).0
  component_at [] ys choices i h l = absurd (omega arith)
  component_at (x ∷ xs) [] choices i h l = absurd (omega arith)
  component_at (x ∷ xs) (y ∷ ys) choices zero h l = refl
  component_at (x ∷ xs) (y ∷ ys) choices (suc i) h l =
      let earlier : ℕ = draws op signed (take i xs) (take i ys) in
      component_at xs ys (binary_answer op signed x y choices).1 i (omega arith) (omega arith)
      ∙ ap (λ (left : List ℕ). (binary_answer op signed (get_or xs i 0) (get_or ys i 0) left).0)
      (ap (drop earlier) (left_by_one x y choices) ∙ drop-drop earlier (cond (is_free op signed x y) 1 0) choices)

  length-each : (xs ys choices : List ℕ) → length (binary_each op signed xs ys choices).0 ≤ length xs
  length-each [] ys choices = omega arith
  length-each (x ∷ xs) [] choices = omega arith
  length-each (x ∷ xs) (y ∷ ys) choices = omega (arith, length-each xs ys (binary_answer op signed x y choices).1)

  pub lane_at : (a b : Lanes) (choices : List ℕ) (i : ℕ) → IsLanes a → b.count ≡ a.count → length a.words ≡ 4 → length b.words ≡ 4 → i < a.count
      → get_or (lanes_answer op signed a b choices).0.words i 0
      ≡ (binary_answer op signed (get_or a.words i 0) (get_or b.words i 0) (drop (draws op signed (take i a.words) (take i b.words)) choices)).0
  unfolding lanes_answer
  lane_at a b choices i lanes counts four_a four_b h =
      four_at (binary_each op signed (components a) (components b) choices).0 i (omega arith)
      ∙ component_at (components a) (components b) choices i (simp length-take (omega arith)) (simp length-take (omega arith))
      ∙ rw (get_or-take a.count a.words i 0 h, get_or-take b.count b.words i 0 (omega arith), take-take i a.count a.words (omega arith), take-take i b.count b.words (omega arith)) refl

  pub past_lanes : (a b : Lanes) (choices : List ℕ) (i : ℕ) → a.count ≤ i → get_or (lanes_answer op signed a b choices).0.words i 0 ≡ 0
  unfolding lanes_answer
  past_lanes a b choices i h =
      none_at (binary_each op signed (components a) (components b) choices).0 i
      (let bound : length (components a) ≤ a.count = simp length-take (omega arith) in omega (arith, length-each (components a) (components b) choices))

  pub left_by_lanes : (a b : Lanes) (choices : List ℕ) → (lanes_answer op signed a b choices).1 ≡ drop (draws op signed (components a) (components b)) choices
  unfolding lanes_answer
  left_by_lanes a b choices = left_by_each (components a) (components b) choices
