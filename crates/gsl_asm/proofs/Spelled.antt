-- The words of a line are read where they are spelled, and nowhere else.
use Rattle.std.proofs.Common.{◌≡◌, ℕ, zero, suc, ◌+◌, ◌-◌, true, false, not, cond, ◌||◌, eqb, List, [], ◌∷◌, ◌++◌, length, take, drop, Option, Some, None, refl, ap, sym, subst, ◌∙◌, arith, append_assoc, one-add, take-append-drop}
use Rattle.std.proofs.Math.Seq.{drop-append_seam, take-append_seam, drop-append-add}
use Rattle.std.proofs.lemmas.Bool.{cond-true, cond-false, eqb-true, and_parts, and_from, or_parts, or_from, not-true}
use Rattle.std.specs.List.{prefix_len, list_all}
use Rattle.gsl_asm.specs.declared.word.Word.{Word}
use Rattle.gsl_asm.specs.declared.word.Word.TheVariants.{Plain, Quoted}
use Rattle.gsl_asm.specs.Escapes.{raw_len, unescaped}
use Rattle.gsl_asm.specs.Words.{is_blank, is_plain, ends, escaped, quoted, Spells}
use Rattle.gsl_asm.specs.Splitting.{string_at, plain_at, word_at, onto, with_word, words_from, words_of}
use Rattle.gsl_asm.proofs.Binds.{cond_some, map_some}
use Rattle.gsl_asm.proofs.Cutting.{skipped}
use Rattle.gsl_asm.proofs.Escaped.{raw_escaped, unescaped_escaped, closed}

plain_len : (word rest : List ℕ) → list_all is_plain word ≡ true → ends rest ≡ true → prefix_len is_plain (word ++ rest) ≡ length word
plain_len [] [] all e = refl
plain_len [] (r ∷ rest) all e = cond-false _ _ _ (ap (λ t. not (t || eqb r 34)) e)
plain_len (b ∷ word) rest all e = let p = and_parts (is_plain b) _ all in cond-true _ _ _ p.0 ∙ ap (λ n. 1 + n) (plain_len word rest p.1 e) ∙ one-add (length word)

-- what a byte of a plain word is not
plain_parts : (b : ℕ) → is_plain b ≡ true → (is_blank b ≡ false) × (eqb b 59 ≡ false) × (eqb b 34 ≡ false)
plain_parts b e =
    let p = or_parts (is_blank b || eqb b 59) (eqb b 34) (not-true _ e) in
    let q = or_parts (is_blank b) (eqb b 59) p.0 in
    (q.0, q.1, p.1)

-- a word, and those behind it
word_next : (byte : ℕ) (bytes : List ℕ) (word : Word) (len : ℕ) (words : List Word) → is_blank byte ≡ false → eqb byte 59 ≡ false → word_at (byte ∷ bytes) ≡ Some (word, len) →
    words_of (drop (len - 1) bytes) ≡ Some words → words_of (byte ∷ bytes) ≡ Some (word ∷ words)
unfolding words_from
word_next byte bytes word len words blank other is later =
    cond-false _ _ _ blank ∙ cond-false _ _ _ other ∙ ap (λ f. with_word f (λ n. words_from (n - 1) bytes)) is ∙ ap (onto word) (skipped (len - 1) bytes ∙ later)

plain_word : (byte : ℕ) (word rest : List ℕ) → is_plain byte ≡ true → list_all is_plain word ≡ true → ends rest ≡ true → word_at (byte ∷ (word ++ rest)) ≡ Some (Plain (byte ∷ word), suc (length word))
unfolding word_at
plain_word byte word rest p all e =
    let bytes : List ℕ = byte ∷ (word ++ rest) in
    cond-false _ _ _ (plain_parts byte p).2 ∙ ap (λ n. plain_at bytes (1 + n)) (plain_len word rest all e) ∙ ap (plain_at bytes) (one-add (length word))
    ∙ cond-true _ _ _ (ap ends (drop-append_seam word rest) ∙ e) ∙ ap (λ l. Some (Plain (byte ∷ l), suc (length word))) (take-append_seam word rest)

plain_read : (byte : ℕ) (word rest : List ℕ) (words : List Word) → is_plain byte ≡ true → list_all is_plain word ≡ true → ends rest ≡ true → words_of rest ≡ Some words →
    words_of (byte ∷ (word ++ rest)) ≡ Some (Plain (byte ∷ word) ∷ words)
plain_read byte word rest words p all e later =
    let q = plain_parts byte p in
    let n : suc (length word) - 1 ≡ length word = omega arith in
    word_next byte (word ++ rest) (Plain (byte ∷ word)) (suc (length word)) words q.0 q.1 (plain_word byte word rest p all e)
    (ap (λ k. words_of (drop k (word ++ rest))) n ∙ ap words_of (drop-append_seam word rest) ∙ later)

string_word : (text rest : List ℕ) → ends rest ≡ true → word_at (34 ∷ (escaped text ++ 34 ∷ rest)) ≡ Some (Quoted text, length (escaped text) + 2)
unfolding word_at
string_word text rest e =
    let raw : List ℕ = escaped text in
    let bytes : List ℕ = 34 ∷ (raw ++ 34 ∷ rest) in
    let n : length raw + 2 ≡ suc (length raw + 1) = omega arith in
    let behind : drop (length raw + 2) bytes ≡ rest = ap (λ k. drop k bytes) n ∙ drop-append-add raw (34 ∷ rest) 1 in
    ap (string_at bytes) (raw_escaped text rest) ∙ cond-true _ _ _ (ap ends behind ∙ e)
    ∙ ap (λ l. Some (Quoted (unescaped false l), length raw + 2)) (take-append_seam raw (34 ∷ rest)) ∙ ap (λ t. Some (Quoted t, length raw + 2)) (unescaped_escaped text)

string_read : (text rest : List ℕ) (words : List Word) → ends rest ≡ true → words_of rest ≡ Some words → words_of (quoted text ++ rest) ≡ Some (Quoted text ∷ words)
string_read text rest words e later =
    let raw : List ℕ = escaped text in
    let n : length raw + 2 - 1 ≡ length raw + 1 = omega arith in
    ap (λ l. words_of (34 ∷ l)) (append_assoc raw (34 ∷ []) rest)
    ∙ word_next 34 (raw ++ 34 ∷ rest) (Quoted text) (length raw + 2) words refl refl (string_word text rest e)
    (ap (λ k. words_of (drop k (raw ++ 34 ∷ rest))) n ∙ ap words_of (drop-append-add raw (34 ∷ rest) 1) ∙ later)

-- words that are spelled are read
pub words_read : (bytes : List ℕ) (words : List Word) → Spells bytes words → words_of bytes ≡ Some words
unfolding words_from
words_read bytes words Spells.end = refl
words_read bytes words (Spells.comment more) = refl
words_read bytes words (Spells.blank byte more _ is later) = cond-true _ _ _ is ∙ words_read more words later
words_read bytes words (Spells.plain byte word rest _ more p all e is later) = ap words_of is ∙ plain_read byte word rest more p all e (words_read rest more later)
words_read bytes words (Spells.string text rest _ more e is later) = ap words_of is ∙ string_read text rest more e (words_read rest more later)

all_taken : (bytes : List ℕ) → list_all is_plain (take (prefix_len is_plain bytes) bytes) ≡ true
all_taken [] = refl
all_taken (b ∷ bytes) =
    elim (is_plain b) as (λ t. is_plain b ≡ t → list_all is_plain (take (cond t (1 + prefix_len is_plain bytes) 0) (b ∷ bytes)) ≡ true) [
      | true ↦ λ e. ap (λ k. list_all is_plain (take k (b ∷ bytes))) (one-add (prefix_len is_plain bytes)) ∙ and_from _ _ e (all_taken bytes)
      | false ↦ λ e. refl
    ] refl

plain_spelled : (b : ℕ) (bytes : List ℕ) (word : Word) (len : ℕ) (words : List Word) → is_plain b ≡ true → plain_at (b ∷ bytes) (1 + prefix_len is_plain bytes) ≡ Some (word, len) →
    Spells (drop (len - 1) bytes) words → Spells (b ∷ bytes) (word ∷ words)
plain_spelled b bytes word len words p is later =
    let k : ℕ = prefix_len is_plain bytes in
    let c = cond_some (ends (drop (1 + k) (b ∷ bytes))) (Plain (take (1 + k) (b ∷ bytes)), 1 + k) (word, len) is in
    let n : 1 + k ≡ len = ap (λ (f : Word × ℕ). f.1) c.1 in
    let w : Plain (take (1 + k) (b ∷ bytes)) ≡ word = ap (λ (f : Word × ℕ). f.0) c.1 in
    let m : len - 1 ≡ k = omega arith in
    let first : Plain (b ∷ take k bytes) ≡ word = ap (λ j. Plain (take j (b ∷ bytes))) (sym (one-add k)) ∙ w in
    subst (λ f. Spells (b ∷ bytes) (f ∷ words)) first
    (Spells.plain b (take k bytes) (drop k bytes) (b ∷ bytes) words p (all_taken bytes) (ap (λ j. ends (drop j (b ∷ bytes))) (sym (one-add k)) ∙ c.0) (ap (λ l. b ∷ l) (sym (take-append-drop k bytes)))
    (subst (λ j. Spells (drop j bytes) words) m later))

string_spelled : (b : ℕ) (bytes : List ℕ) (word : Word) (len : ℕ) (words : List Word) → b ≡ 34 → (found : Option ℕ) → raw_len false bytes ≡ found → string_at (b ∷ bytes) found ≡ Some (word, len) →
    Spells (drop (len - 1) bytes) words → Spells (b ∷ bytes) (word ∷ words)
string_spelled b bytes word len words quote None raw is later = absurd (cc)
string_spelled b bytes word len words quote (Some k) raw is later =
    let closing = closed false bytes k raw in
    let text : List ℕ = unescaped false (take k bytes) in
    let c = cond_some (ends (drop (k + 2) (b ∷ bytes))) (Quoted text, k + 2) (word, len) is in
    let n : k + 2 ≡ len = ap (λ (f : Word × ℕ). f.1) c.1 in
    let w : Quoted text ≡ word = ap (λ (f : Word × ℕ). f.0) c.1 in
    let m : len - 1 ≡ suc k = omega arith in
    let two : k + 2 ≡ suc (suc k) = omega arith in
    let whole : b ∷ bytes ≡ quoted text ++ drop (suc k) bytes =
    ap (λ c. c ∷ bytes) quote ∙ ap (λ l. 34 ∷ l) (sym closing.whole) ∙ ap (λ l. 34 ∷ (l ++ 34 ∷ drop (suc k) bytes)) closing.text
    ∙ ap (λ l. 34 ∷ l) (sym (append_assoc (escaped text) (34 ∷ []) (drop (suc k) bytes))) in
    subst (λ f. Spells (b ∷ bytes) (f ∷ words)) w
    (Spells.string text (drop (suc k) bytes) (b ∷ bytes) words (ap (λ j. ends (drop j (b ∷ bytes))) (sym two) ∙ c.0) whole (subst (λ j. Spells (drop j bytes) words) m later))

word_spelled : (b : ℕ) (bytes : List ℕ) (word : Word) (len : ℕ) (words : List Word) → is_blank b ≡ false → eqb b 59 ≡ false → word_at (b ∷ bytes) ≡ Some (word, len) → Spells (drop (len - 1) bytes) words →
    Spells (b ∷ bytes) (word ∷ words)
unfolding word_at
word_spelled b bytes word len words blank other is later =
    elim (eqb b 34) as
    (λ t. eqb b 34 ≡ t → cond t (string_at (b ∷ bytes) (raw_len false bytes)) (plain_at (b ∷ bytes) (1 + prefix_len is_plain bytes)) ≡ Some (word, len) → Spells (b ∷ bytes) (word ∷ words)) [
      | true ↦ λ here found. string_spelled b bytes word len words (eqb-true b 34 here) (raw_len false bytes) refl found later
      | false ↦ λ quote found. plain_spelled b bytes word len words (ap not (or_from _ _ (or_from _ _ blank other) quote)) found later
    ] refl is

with_some : (found : Option (Word × ℕ)) (behind : ℕ → Option (List Word)) (words : List Word) → with_word found behind ≡ Some words →
    (f : Word × ℕ) × (more : List Word) × (found ≡ Some f) × (behind f.1 ≡ Some more) × (f.0 ∷ more ≡ words)
with_some None behind words e = absurd (cc)
with_some (Some f) behind words e = let m = map_some (λ (more : List Word). f.0 ∷ more) (behind f.1) words e in (f, m.0, refl, m.1, m.2)

spelled_from : (n : ℕ) (bytes : List ℕ) (words : List Word) → words_from n bytes ≡ Some words → Spells (drop n bytes) words
unfolding words_from
spelled_from zero [] words e = let same : [] ≡ words = cc in subst (Spells []) same Spells.end
spelled_from (suc n) [] words e = let same : [] ≡ words = cc in subst (Spells []) same Spells.end
spelled_from (suc n) (b ∷ bytes) words e = spelled_from n bytes words e
spelled_from zero (b ∷ bytes) words e =
    elim (is_blank b) as
    (λ t. is_blank b ≡ t → cond t (words_from 0 bytes) (cond (eqb b 59) (Some []) (with_word (word_at (b ∷ bytes)) (λ len. words_from (len - 1) bytes))) ≡ Some words → Spells (b ∷ bytes) words) [
      | true ↦ λ is found. Spells.blank b bytes words is (spelled_from 0 bytes words found)
      | false ↦ λ blank found.
          elim (eqb b 59) as (λ t. eqb b 59 ≡ t → cond t (Some []) (with_word (word_at (b ∷ bytes)) (λ len. words_from (len - 1) bytes)) ≡ Some words → Spells (b ∷ bytes) words) [
            | true ↦ λ is found. let same : [] ≡ words = cc in subst (λ c. Spells (c ∷ bytes) words) (sym (eqb-true b 59 is)) (subst (Spells (59 ∷ bytes)) same (Spells.comment bytes))
            | false ↦ λ other found.
                let w = with_some (word_at (b ∷ bytes)) (λ len. words_from (len - 1) bytes) words found in
                subst (Spells (b ∷ bytes)) w.4 (word_spelled b bytes w.0.0 w.0.1 w.1 blank other w.2 (spelled_from (w.0.1 - 1) bytes w.1 w.3))
          ] refl found
    ] refl e

-- words that are read are spelled
pub words_spelled : (bytes : List ℕ) (words : List Word) → words_of bytes ≡ Some words → Spells bytes words
words_spelled bytes words e = spelled_from 0 bytes words e
