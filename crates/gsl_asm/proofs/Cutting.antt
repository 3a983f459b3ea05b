-- The words of a line from its front.
use Rattle.std.proofs.Common.{◌≡◌, ℕ, zero, suc, ◌+◌, ◌-◌, ◌<◌, ◌≤◌, Bool, true, false, eqb, List, [], ◌∷◌, length, get_or, take, drop, Option, Some, None, refl, ap, sym, ◌∙◌, arith}
use Rattle.std.specs.Option.{is_some}
use Rattle.std.proofs.lemmas.Bool.{cond-true, cond-false, eq-eqb, eqb-true, ne_eqb}
use Rattle.std.proofs.lemmas.List.{take_all, take_rest}
use Rattle.gsl_asm.specs.declared.word.Word.{Word}
use Rattle.gsl_asm.specs.Words.{is_blank}
use Rattle.gsl_asm.specs.Splitting.{word_at, onto, with_word, words_from, words_of}

-- passing over is dropping
pub skipped : (n : ℕ) (bytes : List ℕ) → words_from n bytes ≡ words_from 0 (drop n bytes)
unfolding words_from
skipped zero bytes = refl
skipped (suc n) [] = refl
skipped (suc n) (b ∷ bytes) = skipped n bytes

-- a blank in front
pub blank_skipped : (bytes : List ℕ) → 1 ≤ length bytes → is_blank (get_or bytes 0 0) ≡ true → words_of (take (length bytes - 1) (drop 1 bytes)) ≡ words_of bytes
unfolding words_from
blank_skipped [] some blank = absurd (omega arith)
blank_skipped (b ∷ bytes) some blank =
    let n : length (b ∷ bytes) - 1 ≡ length bytes = omega arith in
    ap (λ k. words_of (take k bytes)) n ∙ ap words_of (take_all (length bytes) bytes (omega arith)) ∙ sym (cond-true _ _ _ blank)

-- no byte is left
pub words_end : (bytes : List ℕ) → length bytes ≡ 0 → words_of bytes ≡ Some []
unfolding words_from
words_end [] none = refl
words_end (b ∷ bytes) none = absurd (omega arith)

-- a comment
pub words_comment : (bytes : List ℕ) → 0 < length bytes → is_blank (get_or bytes 0 0) ≡ false → get_or bytes 0 0 ≡ 59 → words_of bytes ≡ Some []
unfolding words_from
words_comment [] some blank e = absurd (omega arith)
words_comment (b ∷ bytes) some blank e = cond-false _ _ _ blank ∙ cond-true _ _ _ (eq-eqb b 59 e)

-- a word, or none
pub words_next : (bytes : List ℕ) (found : Option (Word × ℕ)) → 0 < length bytes → is_blank (get_or bytes 0 0) ≡ false → (get_or bytes 0 0 ≡ 59 → ⊥) → word_at bytes ≡ found →
    words_of bytes ≡ with_word found (λ len. words_of (drop (len - 1) (drop 1 bytes)))
unfolding words_from
words_next [] found some blank other is = absurd (omega arith)
words_next (b ∷ bytes) found some blank other is =
    cond-false _ _ _ blank ∙ cond-false _ _ _ (ne_eqb b 59 other) ∙ ap (λ f. with_word f (λ len. words_from (len - 1) bytes)) is ∙ each found
  where
    each : (found : Option (Word × ℕ)) → with_word found (λ len. words_from (len - 1) bytes) ≡ with_word found (λ len. words_of (drop (len - 1) bytes))
    each None = refl
    each (Some f) = ap (onto f.0) (skipped (f.1 - 1) bytes)

drop_one : (n : ℕ) (bytes : List ℕ) → drop n (drop 1 bytes) ≡ drop (n + 1) bytes
drop_one n [] = none n ∙ sym (none (n + 1))
  where
    none : (k : ℕ) → drop {A = ℕ} k [] ≡ []
    none zero = refl
    none (suc k) = refl
drop_one n (b ∷ bytes) = ap (λ k. drop k (b ∷ bytes)) (let e : suc n ≡ n + 1 = omega arith in e)

pub words_word : (bytes : List ℕ) (word : Word) (len : ℕ) → 0 < length bytes → is_blank (get_or bytes 0 0) ≡ false → (get_or bytes 0 0 ≡ 59 → ⊥) → Some (word, len) ≡ word_at bytes → 1 ≤ len →
    words_of bytes ≡ onto word (words_of (take (length bytes - len) (drop len bytes)))
words_word bytes word len some blank other is one =
    let n : len - 1 + 1 ≡ len = omega arith in
    words_next bytes (Some (word, len)) some blank other (sym is)
    ∙ ap (λ l. onto word (words_of l)) (drop_one (len - 1) bytes ∙ ap (λ k. drop k bytes) n ∙ sym (take_rest bytes len))

pub words_bad : (bytes : List ℕ) → 0 < length bytes → is_blank (get_or bytes 0 0) ≡ false → (get_or bytes 0 0 ≡ 59 → ⊥) → None ≡ word_at bytes → words_of bytes ≡ None
words_bad bytes some blank other is = words_next bytes None some blank other (sym is)

-- what the test for no bytes says
pub no_bytes : (bytes : List ℕ) (t : Bool) → t ≡ eqb (length bytes) 0 → t ≡ true → length bytes ≡ 0
no_bytes bytes t is e = eqb-true _ _ (sym is ∙ e)

pub some_bytes : (bytes : List ℕ) (t : Bool) → t ≡ eqb (length bytes) 0 → t ≡ false → 0 < length bytes
some_bytes [] t is e = absurd (let f : true ≡ false = sym is ∙ e in cc)
some_bytes (b ∷ bytes) t is e = omega arith

pub fewer : (bytes : List ℕ) (most : ℕ) → length bytes ≤ most → length (take (length bytes - 1) (drop 1 bytes)) ≤ most
fewer [] most few = few
fewer (b ∷ bytes) most few =
    let n : length (b ∷ bytes) - 1 ≡ length bytes = omega arith in
    let e : length (take (length (b ∷ bytes) - 1) bytes) ≡ length bytes = ap (λ k. length (take k bytes)) n ∙ ap length (take_all (length bytes) bytes (omega arith)) in
    omega arith

-- words in front of words that are some
pub onto_some : (word : Word) (found : Option (List Word)) → is_some (onto word found) ≡ is_some found
onto_some word None = refl
onto_some word (Some words) = refl
