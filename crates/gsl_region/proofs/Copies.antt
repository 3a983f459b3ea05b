-- Words that are copied one by one.
use Rattle.std.proofs.Common.{◌≡◌, refl, sym, ap, ◌∙◌, ℕ, zero, suc, ◌+◌, ◌*◌, ◌/◌, ◌^◌, ◌<◌, ◌≤◌, List, [], ◌∷◌, ◌++◌, length, get_or, set, take, drop, replicate, drop-cons, append_assoc, length-append, arith}
use Rattle.std.proofs.lemmas.List.{get_or-drop, length-drop, length-take-le, replicate-append-replicate, set_at, take_more, take_more_set}
use Rattle.gsl_words.specs.Words.{put_word, word_at}
use Rattle.gsl_region.specs.Showing.{as_words, with_words}
use Rattle.gsl_region.proofs.Bytes.{words_at, words_length, words_put}

-- the words that fit are there in the bytes
pub fits : (words bytes : List ℕ) (n : ℕ) → words ≡ as_words bytes → n ≤ length words → 4 * n ≤ length bytes
fits words bytes n is enough = omega (arith, ap length is, words_length bytes, enough)

pub read_is : (words bytes : List ℕ) (place word : ℕ) → words ≡ as_words bytes → place < length words → word ≡ word_at bytes (4 * place) → word ≡ get_or words place 0
read_is words bytes place word is within found = found ∙ sym (words_at bytes place (omega (arith, within, ap length is, words_length bytes))) ∙ ap (λ l. get_or l place 0) (sym is)

pub put_is : (words bytes : List ℕ) (place word : ℕ) → words ≡ as_words bytes → place < length words → word < 2 ^ 32 → as_words (put_word bytes (4 * place) word) ≡ set words place word
put_is words bytes place word is within small = words_put bytes place word (omega (arith, within, ap length is, words_length bytes)) small ∙ ap (λ l. set l place word) (sym is)

pub load_more : (bytes now : List ℕ) (place k n word : ℕ) → k < n → length now ≡ n → 4 * (place + n) ≤ length bytes → take k now ≡ take k (drop place (as_words bytes)) → word ≡ word_at bytes (4 * (place + k))
    → take (k + 1) (set now k word) ≡ take (k + 1) (drop place (as_words bytes))
load_more bytes now place k n word below long enough is found =
    let inside : place + k < length bytes / 4 = omega (arith, below, enough) in
    take_more_set now k word (omega (arith, below, long))
    ∙ ap (λ l. l ++ word ∷ []) is
    ∙ ap (λ w. take k (drop place (as_words bytes)) ++ w ∷ []) (found ∙ sym (words_at bytes (place + k) inside) ∙ sym (get_or-drop place (as_words bytes) k 0))
    ∙ sym (take_more (drop place (as_words bytes)) k 0 (omega (arith, length-drop place (as_words bytes), words_length bytes, below, enough)))

-- one more word behind those that are put
pub with_more : (words new : List ℕ) (place n word : ℕ) → place + length new ≡ n → n < length words → set (with_words words place new) n word ≡ with_words words place (new ++ word ∷ [])
with_more words new place n word at inside =
    let front : length (take place words ++ new) ≡ n = omega (arith, length-append (take place words) new, length-take-le place words (omega (arith, at, inside)), at) in
    let next : suc n ≡ place + length (new ++ word ∷ []) = omega (arith, length-append new (word ∷ []), at) in
    ap (λ l. set (take place words ++ (new ++ l)) n word) (ap (λ j. drop j words) at ∙ drop-cons words n 0 inside)
    ∙ ap (λ l. set l n word) (sym (append_assoc (take place words) new (get_or words n 0 ∷ drop (suc n) words)))
    ∙ set_at (take place words ++ new) (get_or words n 0) (drop (suc n) words) word n front
    ∙ append_assoc (take place words) new (word ∷ drop (suc n) words)
    ∙ ap (λ l. take place words ++ l) (ap (λ j. new ++ (word ∷ drop j words)) next ∙ sym (append_assoc new (word ∷ []) (drop (place + length (new ++ word ∷ [])) words)))

put_more : (bytes words new : List ℕ) (place k word : ℕ) → length new ≡ k → as_words bytes ≡ with_words words place new → place + k < length bytes / 4 → place + k < length words → word < 2 ^ 32
    → as_words (put_word bytes (4 * (place + k)) word) ≡ with_words words place (new ++ word ∷ [])
put_more bytes words new place k word long is inside within small =
    words_put bytes (place + k) word inside small ∙ ap (λ l. set l (place + k) word) is ∙ with_more words new place (place + k) word (omega (arith, long)) within

pub store_more : (first now from : List ℕ) (place k word : ℕ) → k < length from → 4 * (place + length from) ≤ length first → length now ≡ length first → word < 2 ^ 32 → word ≡ get_or from k 0
    → as_words now ≡ with_words (as_words first) place (take k from) → as_words (put_word now (4 * (place + k)) word) ≡ with_words (as_words first) place (take (k + 1) from)
store_more first now from place k word below enough long small at is =
    put_more now (as_words first) (take k from) place k word (length-take-le k from (omega (arith, below))) is (omega (arith, below, enough, long)) (omega (arith, below, enough, words_length first)) small
    ∙ ap (with_words (as_words first) place) (ap (λ w. take k from ++ w ∷ []) at ∙ sym (take_more from k 0 below))

many : (n : ℕ) → length (replicate {A = ℕ} n 0) ≡ n
many zero = refl
many (suc n) = omega (arith, many n)

pub zero_more : (first now : List ℕ) (place k count : ℕ) → k < count → 4 * (place + count) ≤ length first → length now ≡ length first
    → as_words now ≡ with_words (as_words first) place (replicate k 0) → as_words (put_word now (4 * (place + k)) 0) ≡ with_words (as_words first) place (replicate (k + 1) 0)
zero_more first now place k count below enough long is =
    put_more now (as_words first) (replicate k 0) place k 0 (many k) is (omega (arith, below, enough, long)) (omega (arith, below, enough, words_length first)) (omega arith)
    ∙ ap (with_words (as_words first) place) (replicate-append-replicate k 1 0)
