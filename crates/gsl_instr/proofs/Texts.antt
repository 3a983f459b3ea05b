-- Texts read from words.
use Rattle.std.proofs.Common.{◌≡◌, ℕ, ◌-◌, ◌^◌, ◌<◌, ◌≤◌, true, false, cond, ltb, List, [], ◌∷◌, ◌++◌, length, get_or, take, drop, Option, Some, None, refl, ap, sym, ◌∙◌, arith, append_assoc}
use Rattle.std.proofs.lemmas.List.{take_all}
use Rattle.std.proofs.lemmas.Bool.{lt-ltb, le-ltb, cond-true, cond-false}
use Rattle.std.specs.Option.{option_map}
use Rattle.gsl_instr.specs.Texts.{bytes_of, is_full, last_len, ends_with, onto, text_at}

-- what the code answers
abbrev pub counted : Option (List ℕ × List ℕ) → Option (List ℕ × ℕ)
counted found = option_map (λ text. (text.0, length text.1)) found

pub onto_nil : (found : Option (List ℕ × List ℕ)) → onto [] found ≡ found
onto_nil None = refl
onto_nil (Some text) = refl

pub onto_onto : (a b : List ℕ) (found : Option (List ℕ × List ℕ)) → onto a (onto b found) ≡ onto (a ++ b) found
onto_onto a b None = refl
onto_onto a b (Some text) = ap (λ t. Some (t, text.1)) (sym (append_assoc a b text.0))

-- the last word is bad
pub bad_end : (front : List ℕ) (w : ℕ) (more : List ℕ) (whole : Option (List ℕ × List ℕ)) → w < 2 ^ 24 → None ≡ last_len w → onto front (text_at (w ∷ more)) ≡ whole → None ≡ counted whole
unfolding text_at
bad_end front w more whole small bad e =
    let here : cond (ltb w (2 ^ 24)) (ends_with w more) (cond (is_full w) (onto (bytes_of w) (text_at more)) None) ≡ None =
    cond-true _ _ _ (lt-ltb _ _ small) ∙ ap (λ len. option_map (λ n. (take n (bytes_of w), more)) len) (sym bad) in
    ap (λ found. counted (onto front found)) (sym here) ∙ ap counted e

-- the last word
pub good_end : (front : List ℕ) (w len : ℕ) (more text : List ℕ) (whole : Option (List ℕ × List ℕ)) → w < 2 ^ 24 → Some len ≡ last_len w → onto front (text_at (w ∷ more)) ≡ whole →
    text ≡ front ++ take len (bytes_of w) → Some (text, length more) ≡ counted whole
unfolding text_at
good_end front w len more text whole small good e is =
    let here : cond (ltb w (2 ^ 24)) (ends_with w more) (cond (is_full w) (onto (bytes_of w) (text_at more)) None) ≡ Some (take len (bytes_of w), more) =
    cond-true _ _ _ (lt-ltb _ _ small) ∙ ap (λ l. option_map (λ n. (take n (bytes_of w), more)) l) (sym good) in
    ap (λ t. Some (t, length more)) is ∙ ap (λ found. counted (onto front found)) (sym here) ∙ ap counted e

-- a word before the last that has a zero
pub bad_word : (front : List ℕ) (w : ℕ) (more : List ℕ) (whole : Option (List ℕ × List ℕ)) → 2 ^ 24 ≤ w → is_full w ≡ false → onto front (text_at (w ∷ more)) ≡ whole → None ≡ counted whole
unfolding text_at
bad_word front w more whole large bad e =
    let here : cond (ltb w (2 ^ 24)) (ends_with w more) (cond (is_full w) (onto (bytes_of w) (text_at more)) None) ≡ None = cond-false _ _ _ (le-ltb _ _ large) ∙ cond-false _ _ _ bad in
    ap (λ found. counted (onto front found)) (sym here) ∙ ap counted e

-- a word before the last
pub good_word : (front : List ℕ) (w : ℕ) (more text : List ℕ) (whole : Option (List ℕ × List ℕ)) → 2 ^ 24 ≤ w → is_full w ≡ true → onto front (text_at (w ∷ more)) ≡ whole →
    text ≡ front ++ bytes_of w → onto text (text_at more) ≡ whole
unfolding text_at
good_word front w more text whole large good e is =
    let here : cond (ltb w (2 ^ 24)) (ends_with w more) (cond (is_full w) (onto (bytes_of w) (text_at more)) None) ≡ onto (bytes_of w) (text_at more) =
    cond-false _ _ _ (le-ltb _ _ large) ∙ cond-true _ _ _ good in
    ap (λ t. onto t (text_at more)) is ∙ sym (onto_onto front (bytes_of w) (text_at more)) ∙ ap (onto front) (sym here) ∙ e

-- no word is left
pub no_end : (front rest : List ℕ) (whole : Option (List ℕ × List ℕ)) → length rest ≡ 0 → onto front (text_at rest) ≡ whole → None ≡ counted whole
unfolding text_at
no_end front [] whole none e = ap counted e
no_end front (w ∷ rest) whole none e = absurd (omega arith)

-- the first word and the others
pub first_and : (rest : List ℕ) → 1 ≤ length rest → rest ≡ get_or rest 0 0 ∷ take (length rest - 1) (drop 1 rest)
first_and [] some = absurd (omega arith)
first_and (w ∷ rest) some =
    let n : length (w ∷ rest) - 1 ≡ length rest = omega arith in
    ap (λ l. w ∷ l) (sym (ap (λ k. take k rest) n ∙ take_all (length rest) rest (omega arith)))

pub opened : (front rest : List ℕ) (whole : Option (List ℕ × List ℕ)) → 1 ≤ length rest → onto front (text_at rest) ≡ whole →
    onto front (text_at (get_or rest 0 0 ∷ take (length rest - 1) (drop 1 rest))) ≡ whole
opened front rest whole some e = ap (λ l. onto front (text_at l)) (sym (first_and rest some)) ∙ e
