-- Words that are copied to a place that they do not reach.
use Rattle.std.proofs.Common.{◌≡◌, refl, sym, ap, ◌∙◌, ℕ, suc, ◌+◌, ◌-◌, ◌<◌, ◌≤◌, ◌⊎◌, List, [], ◌∷◌, ◌++◌, length, get_or, set, take, drop, inl, inr, arith, append_assoc, length-append}
use Rattle.std.proofs.lemmas.List.{get_or-drop, get_or-take, length-drop, length-take-le}
use Rattle.gsl_region.specs.Showing.{with_words}
use Rattle.gsl_slots.proofs.Copied.{copy_more, store_more}

-- what stands behind others
dropped : (xs ys : List ℕ) (k : ℕ) → drop (length xs + k) (xs ++ ys) ≡ drop k ys
dropped [] ys k = ap (λ n. drop n ys) (let e : 0 + k ≡ k = omega arith in e)
dropped (x ∷ xs) ys k = ap (λ n. drop n (x ∷ (xs ++ ys))) (let e : suc (length xs) + k ≡ suc (length xs + k) = omega arith in e) ∙ dropped xs ys k

-- the words behind those that are put
behind_put : (first new : List ℕ) (at i : ℕ) → at + length new ≤ i → at + length new ≤ length first → get_or (with_words first at new) i 0 ≡ get_or first i 0
behind_put first new at i over room = by_gap (gap i (at + length new) over)
  where
    gap : (i n : ℕ) → n ≤ i → (k : ℕ) × (i ≡ n + k)
    gap i n over = (i - n, omega (arith, over))

    by_gap : (k : ℕ) × (i ≡ at + length new + k) → get_or (with_words first at new) i 0 ≡ get_or first i 0
    by_gap (k, is) =
        let front : length (take at first) ≡ at = length-take-le at first (omega (arith, room)) in
        let both : length (take at first ++ new) ≡ at + length new = (let l = length-append (take at first) new in omega (arith, l, front)) in
        ap (λ l. get_or l i 0) (sym (append_assoc (take at first) new (drop (at + length new) first)))
        ∙ ap (λ n. get_or ((take at first ++ new) ++ drop (at + length new) first) n 0) (let e : i ≡ length (take at first ++ new) + k + 0 = omega (arith, is, both) in e)
        ∙ sym (get_or-drop (length (take at first ++ new) + k) ((take at first ++ new) ++ drop (at + length new) first) 0 0)
        ∙ ap (λ l. get_or l 0 0) (dropped (take at first ++ new) (drop (at + length new) first) k)
        ∙ get_or-drop k (drop (at + length new) first) 0 0 ∙ get_or-drop (at + length new) first (k + 0) 0 ∙ ap (λ n. get_or first n 0) (let e : at + length new + (k + 0) ≡ i = omega (arith, is) in e)

pub copy_apart_one : (first now : List ℕ) (from at count k : ℕ) → k < count → (from + count ≤ at) ⊎ (at + count ≤ from) → from + count ≤ length first → at + count ≤ length first → now ≡ with_words first at (take k (take count (drop from first)))
    → set now (at + k) (get_or now (from + k) 0) ≡ with_words first at (take (k + 1) (take count (drop from first)))
copy_apart_one first now from at count k below (inl behind) there room is = copy_more first now from at count k below behind room is
copy_apart_one first now from at count k below (inr front) there room is =
    let part = take count (drop from first) in
    let long : length (take count (drop from first)) ≡ count = (let d = length-drop from first in length-take-le count (drop from first) (omega (arith, d, there))) in
    let some : length (take k (take count (drop from first))) ≡ k = length-take-le k (take count (drop from first)) (omega (arith, below, long)) in
    let word : get_or now (from + k) 0 ≡ get_or (take count (drop from first)) k 0 =
    ap (λ l. get_or l (from + k) 0) is ∙ behind_put first (take k (take count (drop from first))) at (from + k) (omega (arith, below, front, some)) (omega (arith, room, below, some)) ∙ sym (get_or-take count (drop from first) k 0 below ∙ get_or-drop from first k 0) in
    store_more first now part at k (get_or now (from + k) 0) (omega (arith, below, long)) (omega (arith, room, long)) word is

pub apart_moved : (a b c x y z : ℕ) → a ≡ x → b ≡ y → c ≡ z → (x + z ≤ y) ⊎ (y + z ≤ x) → (a + c ≤ b) ⊎ (b + c ≤ a)
apart_moved a b c x y z is_a is_b is_c (inl behind) = inl (omega (arith, is_a, is_b, is_c, behind))
apart_moved a b c x y z is_a is_b is_c (inr front) = inr (omega (arith, is_a, is_b, is_c, front))
