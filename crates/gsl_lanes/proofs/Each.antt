-- Components one by one.
use Rattle.std.proofs.Common.{◌≡◌, refl, sym, ap, ◌∙◌, ℕ, suc, ◌+◌, ◌<◌, ◌≤◌, Bool, List, [], ◌∷◌, ◌++◌, length, get_or, set, map, take, drop, replicate, arith}
use Rattle.std.proofs.lemmas.List.{get_or-drop, get_or-take, length-drop, length-take-le, map-append, take_more}
use Rattle.gsl_tree.specs.Operations.{binary_words, spread}
use Rattle.gsl_values.specs.Operators.{binary_answer, unary_word}
use Rattle.gsl_values.specs.Vectors.{binary_each}
use Rattle.gsl_values.specs.declared.op.BinaryOp.{BinaryOp}
use Rattle.gsl_values.specs.declared.op.UnaryOp.{UnaryOp}
use Rattle.gsl_region.specs.Showing.{with_words}
use Rattle.gsl_region.proofs.Copies.{with_more}
use Rattle.gsl_slots.proofs.Copied.{in_front}

-- ---- operands of one size

spread_same : (n : ℕ) (xs : List ℕ) → length xs ≡ n → spread n xs ≡ xs
spread_same n [] is = refl
spread_same n (x ∷ []) is = ap (λ k. replicate k x) (sym is)
spread_same n (x ∷ y ∷ xs) is = refl

pub one_size : (op : BinaryOp) (signed : Bool) (xs ys choices : List ℕ) → length xs ≡ length ys → binary_words op signed xs ys choices ≡ binary_each op signed xs ys choices
one_size op signed xs ys choices same =
    ap (λ l. binary_each op signed l (spread (length xs) ys) choices) (spread_same (length ys) xs same) ∙ ap (λ l. binary_each op signed xs l choices) (spread_same (length xs) ys (sym same))

-- ---- one component more

module _ (op : BinaryOp) (signed : Bool) where
  each_long : (xs ys choices : List ℕ) → length xs ≡ length ys → length (binary_each op signed xs ys choices).0 ≡ length xs
  each_long [] ys choices same = refl
  each_long (x ∷ xs) [] choices same = absurd (omega (arith, same))
  each_long (x ∷ xs) (y ∷ ys) choices same = ap suc (each_long xs ys (binary_answer op signed x y choices).1 (omega (arith, same)))

  -- what is given on one component behind others
  abbrev next : List ℕ → List ℕ → ℕ → ℕ → List ℕ → ℕ × List ℕ
  next xs ys x y choices = binary_answer op signed x y (binary_each op signed xs ys choices).1

  each_more : (xs ys choices : List ℕ) (x y : ℕ) → length xs ≡ length ys → ((binary_each op signed (xs ++ x ∷ []) (ys ++ y ∷ []) choices).0 ≡ (binary_each op signed xs ys choices).0 ++ (next xs ys x y choices).0 ∷ [])
      × ((binary_each op signed (xs ++ x ∷ []) (ys ++ y ∷ []) choices).1 ≡ (next xs ys x y choices).1)
  each_more [] [] choices x y same = (refl, refl)
  each_more [] (z ∷ ys) choices x y same = absurd (omega (arith, same))
  each_more (w ∷ xs) [] choices x y same = absurd (omega (arith, same))
  each_more (w ∷ xs) (z ∷ ys) choices x y same =
      let later = each_more xs ys (binary_answer op signed w z choices).1 x y (omega (arith, same)) in (ap (λ l. (binary_answer op signed w z choices).0 ∷ l) later.0, later.1)

-- the word at a place in front of what is put, and the words up to it
read_back : (first new : List ℕ) (from at k count : ℕ) → k < count → from + count ≤ at → at + count ≤ length first → get_or (with_words first at new) (from + k) 0 ≡ get_or (take count (drop from first)) k 0
read_back first new from at k count below behind room =
    in_front first new at (from + k) (omega (arith, below, behind)) (omega (arith, room)) ∙ sym (get_or-take count (drop from first) k 0 below ∙ get_or-drop from first k 0)

part_long : (first : List ℕ) (from at count : ℕ) → from + count ≤ at → at + count ≤ length first → length (take count (drop from first)) ≡ count
part_long first from at count behind room = length-take-le count (drop from first) (omega (arith, length-drop from first, behind, room))

-- so many components, and one more
pub unary_more : (op : UnaryOp) (first now : List ℕ) (a at count k word : ℕ) → k < count → a + count ≤ at → at + count ≤ length first → now ≡ with_words first at (map (unary_word op) (take k (take count (drop a first))))
    → word ≡ unary_word op (get_or now (a + k) 0) → set now (at + k) word ≡ with_words first at (map (unary_word op) (take (k + 1) (take count (drop a first))))
unary_more op first now a at count k word below behind room is gives =
    let part = take count (drop a first) in
    let so_far = map (unary_word op) (take k part) in
    let long : length (map (unary_word op) (take k (take count (drop a first)))) ≡ k = mapped_long (take k part) ∙ length-take-le k part (omega (arith, below, part_long first a at count behind room)) in
    let here : word ≡ unary_word op (get_or (take count (drop a first)) k 0) = gives ∙ ap (unary_word op) (ap (λ l. get_or l (a + k) 0) is ∙ read_back first so_far a at k count below behind room) in
    ap (λ l. set l (at + k) word) is ∙ with_more first so_far at (at + k) word (omega (arith, long)) (omega (arith, below, room))
    ∙ ap (with_words first at) (ap (λ w. so_far ++ w ∷ []) here ∙ sym (map-append (unary_word op) (take k part) (get_or part k 0 ∷ []))
    ∙ ap (map (unary_word op)) (sym (take_more part k 0 (omega (arith, below, part_long first a at count behind room)))))
  where
    mapped_long : (xs : List ℕ) → length (map (unary_word op) xs) ≡ length xs
    mapped_long [] = refl
    mapped_long (x ∷ xs) = ap suc (mapped_long xs)

-- What is put and left behind so many components.
pub record IsEach (op : BinaryOp) (signed : Bool) (xs ys choices : List ℕ) (first now : List ℕ) (at : ℕ) (left : List ℕ) : Type 0 where
  pub words : now ≡ with_words first at (binary_each op signed xs ys choices).0
  pub choices_left : left ≡ (binary_each op signed xs ys choices).1

pub binary_more : (op : BinaryOp) (signed : Bool) (choices first now : List ℕ) (a b at count k word : ℕ) (left after : List ℕ) → k < count → a + count ≤ at → b + count ≤ at → at + count ≤ length first
    → IsEach op signed (take k (take count (drop a first))) (take k (take count (drop b first))) choices first now at left
    → word ≡ (binary_answer op signed (get_or now (a + k) 0) (get_or now (b + k) 0) left).0 → after ≡ (binary_answer op signed (get_or now (a + k) 0) (get_or now (b + k) 0) left).1
    → IsEach op signed (take (k + 1) (take count (drop a first))) (take (k + 1) (take count (drop b first))) choices first (set now (at + k) word) at after
binary_more op signed choices first now a b at count k word left after below in_a in_b room is gives leaves =
    let xs = take count (drop a first) in
    let ys = take count (drop b first) in
    let x = get_or xs k 0 in
    let y = get_or ys k 0 in
    let so_far = (binary_each op signed (take k xs) (take k ys) choices).0 in
    let x_long : length (take k (take count (drop a first))) ≡ k = length-take-le k xs (omega (arith, below, part_long first a at count in_a room)) in
    let y_long : length (take k (take count (drop b first))) ≡ k = length-take-le k ys (omega (arith, below, part_long first b at count in_b room)) in
    let same = x_long ∙ sym y_long in
    let long : length (binary_each op signed (take k (take count (drop a first))) (take k (take count (drop b first))) choices).0 ≡ k = each_long op signed (take k xs) (take k ys) choices same ∙ x_long in
    let more = each_more op signed (take k xs) (take k ys) choices x y same in
    let x_is : get_or now (a + k) 0 ≡ get_or (take count (drop a first)) k 0 = ap (λ l. get_or l (a + k) 0) is.words ∙ read_back first so_far a at k count below in_a room in
    let y_is : get_or now (b + k) 0 ≡ get_or (take count (drop b first)) k 0 = ap (λ l. get_or l (b + k) 0) is.words ∙ read_back first so_far b at k count below in_b room in
    let answer_is : binary_answer op signed (get_or now (a + k) 0) (get_or now (b + k) 0) left ≡ next op signed (take k xs) (take k ys) x y choices =
    ap (λ n. binary_answer op signed n (get_or now (b + k) 0) left) x_is ∙ ap (λ n. binary_answer op signed x n left) y_is ∙ ap (binary_answer op signed x y) is.choices_left in
    let x_more = take_more xs k 0 (omega (arith, below, part_long first a at count in_a room)) in
    let y_more = take_more ys k 0 (omega (arith, below, part_long first b at count in_b room)) in
    let longer : binary_each op signed (take (k + 1) xs) (take (k + 1) ys) choices ≡ binary_each op signed (take k xs ++ x ∷ []) (take k ys ++ y ∷ []) choices =
    ap (λ l. binary_each op signed l (take (k + 1) ys) choices) x_more ∙ ap (λ l. binary_each op signed (take k xs ++ x ∷ []) l choices) y_more in
    record {
      words = ap (λ l. set l (at + k) word) is.words ∙ with_more first so_far at (at + k) word (omega (arith, long)) (omega (arith, below, room))
          ∙ ap (with_words first at) (ap (λ w. so_far ++ w ∷ []) (gives ∙ ap (λ p. p.0) answer_is) ∙ sym more.0 ∙ ap (λ p. p.0) (sym longer));
      choices_left = leaves ∙ ap (λ p. p.1) answer_is ∙ sym more.1 ∙ ap (λ p. p.1) (sym longer);
    }
