-- A list with its first items at the end.
use Rattle.std.proofs.Common.{◌≡◌, ℕ, ◌-◌, ◌≤◌, List, ◌++◌, length, take, drop, reverse, ap, sym, subst, ◌∙◌, arith}
use Rattle.std.proofs.lemmas.List.{reverse-append, take-append-drop, length-reverse, length-drop}
use Rattle.std.proofs.Math.Seq.{take-append_seam, drop-append_seam}

in_parts : {A : Type 0} (n : ℕ) (xs : List A) → reverse xs ≡ reverse (drop n xs) ++ reverse (take n xs)
in_parts n xs = ap reverse (sym (take-append-drop n xs)) ∙ reverse-append (take n xs) (drop n xs)

behind_length : {A : Type 0} (count : ℕ) (xs : List A) → count ≤ length (reverse xs) → length (reverse (drop (length xs - count) xs)) ≡ count
behind_length count xs within =
    let e : length (drop (length xs - count) xs) ≡ length xs - (length xs - count) = length-drop (length xs - count) xs in
    let l : length (reverse xs) ≡ length xs = length-reverse xs in
    length-reverse (drop (length xs - count) xs) ∙ e ∙ omega (arith, within, l)

-- the last items of a list, the last one first
pub last_ones : {A : Type 0} (count len : ℕ) (xs whole : List A) → reverse xs ≡ whole → count ≤ length whole → len ≡ length xs → reverse (drop (len - count) xs) ≡ take count whole
last_ones count len xs whole view within is =
    subst (λ w. count ≤ length w → reverse (drop (len - count) xs) ≡ take count w) view
    (λ within. subst (λ n. reverse (drop (n - count) xs) ≡ take count (reverse xs)) (sym is)
    (sym
    (ap (take count) (in_parts (length xs - count) xs) ∙ ap (λ n. take n (reverse (drop (length xs - count) xs) ++ reverse (take (length xs - count) xs))) (sym (behind_length count xs within))
    ∙ take-append_seam (reverse (drop (length xs - count) xs)) (reverse (take (length xs - count) xs)))))
    within

-- and those in front of them
pub first_ones : {A : Type 0} (count len : ℕ) (xs whole : List A) → reverse xs ≡ whole → count ≤ length whole → len ≡ length xs → reverse (take (len - count) xs) ≡ drop count whole
first_ones count len xs whole view within is =
    subst (λ w. count ≤ length w → reverse (take (len - count) xs) ≡ drop count w) view
    (λ within. subst (λ n. reverse (take (n - count) xs) ≡ drop count (reverse xs)) (sym is)
    (sym
    (ap (drop count) (in_parts (length xs - count) xs) ∙ ap (λ n. drop n (reverse (drop (length xs - count) xs) ++ reverse (take (length xs - count) xs))) (sym (behind_length count xs within))
    ∙ drop-append_seam (reverse (drop (length xs - count) xs)) (reverse (take (length xs - count) xs)))))
    within
