-- Words of variables that are copied one by one.
use Rattle.std.proofs.Common.{◌≡◌, sym, ap, ◌∙◌, ℕ, ◌+◌, ◌<◌, ◌≤◌, List, [], ◌++◌, length, get_or, set, take, drop, arith}
use Rattle.std.proofs.lemmas.List.{get_or-drop, get_or-take, length-drop, length-take-le, take-append-drop}
use Rattle.gsl_region.specs.Showing.{with_words}
use Rattle.gsl_slots.proofs.Copied.{store_more}
use Rattle.gsl_shown.proofs.Giving.{length_with}

pub none_copied : (slots : List ℕ) (at : ℕ) → slots ≡ with_words slots at []
none_copied slots at = sym (ap (λ n. take at slots ++ drop n slots) (let e : at + 0 ≡ at = omega arith in e) ∙ take-append-drop at slots)

pub copied_long : (first now row : List ℕ) (at k : ℕ) → k ≤ length row → at + length row ≤ length first → now ≡ with_words first at (take k row) → length now ≡ length first
copied_long first now row at k low room is =
    let long = length-take-le k row low in
    ap length is ∙ length_with first (take k row) at (omega (arith, long, low, room))

pub row_long : (words : List ℕ) (from count : ℕ) → from + count ≤ length words → length (take count (drop from words)) ≡ count
row_long words from count within = let dropped = length-drop from words in length-take-le count (drop from words) (omega (arith, dropped, within))

pub copy_one : (first now words : List ℕ) (from at count k word : ℕ) → k < count → from + count ≤ length words → at + count ≤ length first → word ≡ get_or words (from + k) 0 → now ≡ with_words first at (take k (take count (drop from words)))
    → set now (at + k) word ≡ with_words first at (take (k + 1) (take count (drop from words)))
copy_one first now words from at count k word low within room here is =
    let long = row_long words from count within in
    store_more first now (take count (drop from words)) at k word (omega (arith, low, long)) (omega (arith, room, long)) (here ∙ sym (get_or-take count (drop from words) k 0 low ∙ get_or-drop from words k 0)) is
