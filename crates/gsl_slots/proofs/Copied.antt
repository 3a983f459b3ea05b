-- Words that are copied one by one.
use Rattle.std.proofs.Common.{◌≡◌, sym, ap, ◌∙◌, ℕ, ◌+◌, ◌<◌, ◌≤◌, List, [], ◌∷◌, ◌++◌, length, get_or, set, take, drop, arith}
use Rattle.std.proofs.lemmas.List.{get_or-drop, get_or-take, get_or_append_left, length-drop, length-take-le, take_more}
use Rattle.gsl_region.specs.Showing.{with_words}
use Rattle.gsl_region.proofs.Copies.{with_more}

pub store_more : (first now from : List ℕ) (at k word : ℕ) → k < length from → at + length from ≤ length first → word ≡ get_or from k 0 → now ≡ with_words first at (take k from) → set now (at + k) word ≡ with_words first at (take (k + 1) from)
store_more first now from at k word below room here is =
    ap (λ l. set l (at + k) word) is ∙ with_more first (take k from) at (at + k) word (omega (arith, length-take-le k from (omega (arith, below)))) (omega (arith, below, room))
    ∙ ap (with_words first at) (ap (λ w. take k from ++ w ∷ []) here ∙ sym (take_more from k 0 below))

pub in_front : (first new : List ℕ) (at i : ℕ) → i < at → at ≤ length first → get_or (with_words first at new) i 0 ≡ get_or first i 0
in_front first new at i below inside =
    let long : length (take at first) ≡ at = length-take-le at first inside in
    get_or_append_left (take at first) (new ++ drop (at + length new) first) 0 i (omega (arith, below, long)) ∙ get_or-take at first i 0 below

pub copy_more : (first now : List ℕ) (from at count k : ℕ) → k < count → from + count ≤ at → at + count ≤ length first → now ≡ with_words first at (take k (take count (drop from first)))
    → set now (at + k) (get_or now (from + k) 0) ≡ with_words first at (take (k + 1) (take count (drop from first)))
copy_more first now from at count k below behind room is =
    let part = take count (drop from first) in
    let long : length (take count (drop from first)) ≡ count = length-take-le count (drop from first) (omega (arith, length-drop from first, behind, room)) in
    let word : get_or now (from + k) 0 ≡ get_or (take count (drop from first)) k 0 =
    ap (λ l. get_or l (from + k) 0) is ∙ in_front first (take k part) at (from + k) (omega (arith, below, behind)) (omega (arith, room)) ∙ sym (get_or-take count (drop from first) k 0 below ∙ get_or-drop from first k 0) in
    store_more first now part at k (get_or now (from + k) 0) (omega (arith, below, long)) (omega (arith, room, long)) word is
