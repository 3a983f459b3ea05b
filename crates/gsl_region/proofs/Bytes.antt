-- Bytes as words.
use Rattle.std.proofs.Common.{◌≡◌, refl, sym, ap, ◌∙◌, ℕ, zero, suc, ◌+◌, ◌*◌, ◌/◌, ◌%◌, ◌^◌, ◌<◌, ◌≤◌, ◌⊎◌, inl, inr, List, ◌++◌, length, get_or, set, take, drop, replicate, slice_get, Some, arith}
use Rattle.std.proofs.lemmas.List.{ext_get_or, length-set, get_or-set_same, get_or-set_other, get_or-take, get_or-drop, length-take-le, length-drop, take-append-drop, set-append_left, set-append_right}
use Rattle.std.proofs.lemmas.List.FromFn.{get_or-map-range_with_len, length-map-range_with_len}
use Rattle.std.proofs.lemmas.Bool.{cases_lt}
use Rattle.std.proofs.lemmas.Grind.{common_steps}
use borrow.Rule.Slice.PartMut.{put_mid}
use Rattle.gsl_layout.specs.Layout.{Layout, Leaf}
use Rattle.gsl_views.specs.Seen.{seen, words_of}
use Rattle.gsl_views.specs.Viewed.{Viewed, shown}
use Rattle.gsl_views.proofs.Words.{word_is}
use Rattle.gsl_words.specs.Words.{put_word, word_at}
use Rattle.gsl_words.proofs.Bytes.{put-length, word_at-put, word_before, word_behind}
use Rattle.gsl_region.specs.Showing.{as_words}

-- ---- the words of bytes

pub words_length : (bytes : List ℕ) → length (as_words bytes) ≡ length bytes / 4
unfolding as_words
words_length bytes = length-map-range_with_len _ 0 (length bytes / 4)

pub words_at : (bytes : List ℕ) (k : ℕ) → k < length bytes / 4 → get_or (as_words bytes) k 0 ≡ word_at bytes (4 * k)
unfolding as_words
words_at bytes k within = get_or-map-range_with_len _ 0 (length bytes / 4) k k 0 within (omega (arith))

cases_at : (k i : ℕ) → (i < k) ⊎ ((i ≡ k) ⊎ (k < i))
cases_at k i = elim (cases_lt i k) [
  | inl before ↦ inl before
  | inr from ↦ (elim (cases_lt k i) [
    | inl behind ↦ inr (inr behind)
    | inr to ↦ inr (inl (omega (arith, from, to)))
  ])
]

-- a word that is put changes that word alone
pub words_put : (bytes : List ℕ) (k word : ℕ) → k < length bytes / 4 → word < 2 ^ 32 → as_words (put_word bytes (4 * k) word) ≡ set (as_words bytes) k word
words_put bytes k word within small = ext_get_or 0 _ _ lengths (λ i below. at_each i (omega (arith, below, words_length (put_word bytes (4 * k) word), put-length bytes (4 * k) word)))
  where
    lengths : length (as_words (put_word bytes (4 * k) word)) ≡ length (set (as_words bytes) k word)
    lengths = words_length _ ∙ ap (λ n. n / 4) (put-length bytes (4 * k) word) ∙ sym (words_length bytes) ∙ sym (length-set (as_words bytes) k word)

    inside : (i : ℕ) → i < length bytes / 4 → i < length (put_word bytes (4 * k) word) / 4
    inside i below = omega (arith, below, put-length bytes (4 * k) word)

    other : (i : ℕ) → i < length bytes / 4 → (i ≡ k → ⊥) → word_at (put_word bytes (4 * k) word) (4 * i) ≡ word_at bytes (4 * i) → word_at (put_word bytes (4 * k) word) (4 * i) ≡ get_or (set (as_words bytes) k word) i 0
    other i below apart kept = kept ∙ sym (words_at bytes i below) ∙ sym (get_or-set_other (as_words bytes) k i word 0 apart)

    here : (i : ℕ) → i ≡ k → word_at (put_word bytes (4 * k) word) (4 * i) ≡ get_or (set (as_words bytes) k word) i 0
    here i same = ap (λ n. word_at (put_word bytes (4 * k) word) (4 * n)) same ∙ word_at-put bytes (4 * k) word (omega (arith, within)) small
        ∙ sym (get_or-set_same (as_words bytes) k word 0 (omega (arith, within, words_length bytes))) ∙ ap (λ n. get_or (set (as_words bytes) k word) n 0) (sym same)

    at_each : (i : ℕ) → i < length bytes / 4 → get_or (as_words (put_word bytes (4 * k) word)) i 0 ≡ get_or (set (as_words bytes) k word) i 0
    at_each i below = words_at _ i (inside i below) ∙ (elim (cases_at k i) [
      | inl before ↦ other i below (λ same. omega (arith, before, same)) (word_before bytes (4 * k) word (4 * i) (omega (arith, before)))
      | inr (inl same) ↦ here i same
      | inr (inr behind) ↦ other i below (λ same. omega (arith, behind, same)) (word_behind bytes (4 * k) word (4 * i) (omega (arith, behind)))
    ])

-- ---- zeros

zero_at : (n i : ℕ) → get_or (replicate {A = ℕ} n 0) i 0 ≡ 0
zero_at zero i = refl
zero_at (suc n) zero = refl
zero_at (suc n) (suc i) = zero_at n i

long : (n : ℕ) → length (replicate {A = ℕ} n 0) ≡ n
long n = grind (arith, common_steps)

pub words_zero : (n : ℕ) → as_words (replicate (4 * n) 0) ≡ replicate n 0
words_zero n = ext_get_or 0 _ _ (omega (arith, words_length (replicate (4 * n) 0), long (4 * n), long n)) (λ i below. at_each i (omega (arith, below, words_length (replicate (4 * n) 0))))
  where
    at_each : (i : ℕ) → i < length (replicate {A = ℕ} (4 * n) 0) / 4 → get_or (as_words (replicate (4 * n) 0)) i 0 ≡ get_or (replicate n 0) i 0
    at_each i below = words_at (replicate (4 * n) 0) i below
        ∙ omega (arith, word_is (replicate (4 * n) 0) (4 * i), zero_at (4 * n) (4 * i), zero_at (4 * n) (4 * i + 1), zero_at (4 * n) (4 * i + 2), zero_at (4 * n) (4 * i + 3), zero_at n i)

-- ---- four bytes that are cut out

byte_cut : (bytes : List ℕ) (at i k : ℕ) → i < 4 → k ≡ at + i → get_or (take 4 (drop at bytes)) i 0 ≡ get_or bytes k 0
byte_cut bytes at i k below is = get_or-take 4 (drop at bytes) i 0 below ∙ get_or-drop at bytes i 0 ∙ ap (λ n. get_or bytes n 0) (sym is)

word_cut : (bytes : List ℕ) (at : ℕ) → word_at (take 4 (drop at bytes)) 0 ≡ word_at bytes at
word_cut bytes at = omega (
  arith,
  word_is (take 4 (drop at bytes)) 0,
  word_is bytes at,
  byte_cut bytes at 0 at (omega arith) (omega arith),
  byte_cut bytes at 1 (at + 1) (omega arith) refl,
  byte_cut bytes at 2 (at + 2) (omega arith) refl,
  byte_cut bytes at 3 (at + 3) (omega arith) refl,
)

word_or : ℕ → List ℕ → ℕ
word_or d l = get_or l 0 d

-- the word of a view of the four bytes
pub word_read : (v : Viewed) (bytes : List ℕ) (leaf : Layout) (n k word : ℕ) → v.bytes ≡ take k (drop (4 * n) bytes) → k ≡ 4 → v.layout ≡ leaf → leaf ≡ Leaf 1 → v.start ≡ 0
    → slice_get (words_of (shown v)) 0 ≡ Some word → word ≡ word_at bytes (4 * n)
word_read v bytes leaf n k word cut four layout is start found =
    let shown_is : shown v ≡ seen (Leaf 1) 0 (take 4 (drop (4 * n) bytes)) =
    ap (λ l. seen l v.start v.bytes) (layout ∙ is) ∙ ap (λ at. seen (Leaf 1) at v.bytes) start ∙ ap (seen (Leaf 1) 0) (cut ∙ ap (λ j. take j (drop (4 * n) bytes)) four) in
    let one : Some (word_at (take 4 (drop (4 * n) bytes)) 0) ≡ Some word = sym (ap (λ t. slice_get (words_of t) 0) shown_is) ∙ found in
    let same : word_at (take 4 (drop (4 * n) bytes)) 0 ≡ word = cc in
    sym same ∙ word_cut bytes (4 * n)

set_right : (front rest : List ℕ) (at i k byte : ℕ) → length front ≡ at → i ≡ at + k → set (front ++ rest) i byte ≡ front ++ set rest k byte
set_right front rest at i k byte is from = set-append_right front rest at i byte is (omega (arith, from)) ∙ ap (λ n. front ++ set rest n byte) (omega (arith, from))

put_right : (front rest : List ℕ) (at word : ℕ) → length front ≡ at → put_word (front ++ rest) at word ≡ front ++ put_word rest 0 word
unfolding put_word
put_right front rest at word is =
    let a = word % 256 in
    let b = word / 256 % 256 in
    let c = word / 65536 % 256 in
    let d = word / 16777216 % 256 in
    ap (λ l. set (set (set l (at + 1) b) (at + 2) c) (at + 3) d) (set_right front rest at at 0 a is (omega arith))
    ∙ ap (λ l. set (set l (at + 2) c) (at + 3) d) (set_right front (set rest 0 a) at (at + 1) 1 b is refl)
    ∙ ap (λ l. set l (at + 3) d) (set_right front (set (set rest 0 a) 1 b) at (at + 2) 2 c is refl)
    ∙ set_right front (set (set (set rest 0 a) 1 b) 2 c) at (at + 3) 3 d is refl

put_left : (four behind : List ℕ) (word : ℕ) → length four ≡ 4 → put_word (four ++ behind) 0 word ≡ put_word four 0 word ++ behind
unfolding put_word
put_left four behind word is =
    let a = word % 256 in
    let b = word / 256 % 256 in
    let c = word / 65536 % 256 in
    let d = word / 16777216 % 256 in
    let second : length (set four 0 a) ≡ 4 = length-set four 0 a ∙ is in
    let third : length (set (set four 0 a) 1 b) ≡ 4 = length-set (set four 0 a) 1 b ∙ second in
    let fourth : length (set (set (set four 0 a) 1 b) 2 c) ≡ 4 = length-set (set (set four 0 a) 1 b) 2 c ∙ third in
    ap (λ l. set (set (set l 1 b) 2 c) 3 d) (set-append_left four behind 0 a (omega (arith, is)))
    ∙ ap (λ l. set (set l 2 c) 3 d) (set-append_left (set four 0 a) behind 1 b (omega (arith, second)))
    ∙ ap (λ l. set l 3 d) (set-append_left (set (set four 0 a) 1 b) behind 2 c (omega (arith, third)))
    ∙ set-append_left (set (set (set four 0 a) 1 b) 2 c) behind 3 d (omega (arith, fourth))

put_mid_is : (bytes now : List ℕ) (at : ℕ) → at + 4 ≤ length bytes → length now ≡ 4 → put_mid at 4 bytes now ≡ take at bytes ++ (now ++ drop 4 (drop at bytes))
put_mid_is bytes now at fits is = grind (arith, common_steps)

-- a word that is put into the four bytes is put there
pub put_cut : (bytes now : List ℕ) (at k word : ℕ) → k ≡ 4 → at + 4 ≤ length bytes → now ≡ put_word (take k (drop at bytes)) 0 word → put_mid at k bytes now ≡ put_word bytes at word
put_cut bytes now at k word four fits is =
    let cut : length (take 4 (drop at bytes)) ≡ 4 = length-take-le 4 (drop at bytes) (omega (arith, fits, length-drop at bytes)) in
    let now_is : now ≡ put_word (take 4 (drop at bytes)) 0 word = is ∙ ap (λ j. put_word (take j (drop at bytes)) 0 word) four in
    let now_long : length now ≡ 4 = ap length now_is ∙ put-length (take 4 (drop at bytes)) 0 word ∙ cut in
    let front : length (take at bytes) ≡ at = length-take-le at bytes (omega (arith, fits)) in
    ap (λ j. put_mid at j bytes now) four
    ∙ put_mid_is bytes now at fits now_long
    ∙ ap (λ l. take at bytes ++ (l ++ drop 4 (drop at bytes))) now_is
    ∙ sym (ap (λ l. take at bytes ++ l) (put_left (take 4 (drop at bytes)) (drop 4 (drop at bytes)) word cut))
    ∙ sym (put_right (take at bytes) (take 4 (drop at bytes) ++ drop 4 (drop at bytes)) at word front)
    ∙ ap (λ l. put_word l at word) (ap (λ l. take at bytes ++ l) (take-append-drop 4 (drop at bytes)) ∙ take-append-drop at bytes)
