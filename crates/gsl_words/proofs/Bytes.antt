-- Words that are put into bytes.
use Rattle.std.proofs.Common.{◌≡◌, ◌≢◌, ℕ, zero, suc, ◌+◌, ◌/◌, ◌%◌, ◌^◌, ◌<◌, ◌≤◌, ◌⊎◌, inl, inr, List, [], ◌∷◌, length, get_or, set, ap, sym, ◌∙◌, arith}
use Rattle.std.proofs.lemmas.List.{length-set, get_or-set_same, get_or-set_other, set-set, set_comm, set-get_or}
use Rattle.gsl_instr.specs.Strings.{word_of}
use Rattle.std.specs.List.{AllByRecursion}
use Rattle.gsl_words.specs.Words.{word_at, put_word}

pub byte_small : (bytes : List ℕ) → AllByRecursion (λ byte. byte < 256) bytes → (i : ℕ) → get_or bytes i 0 < 256
byte_small [] all i = omega arith
byte_small (b ∷ bytes) all zero = all.0
byte_small (b ∷ bytes) all (suc i) = byte_small bytes all.1 i

pub put-length : (bytes : List ℕ) (at word : ℕ) → length (put_word bytes at word) ≡ length bytes
unfolding put_word
put-length bytes at word = simp length-set

-- a place is none of the four of a word
record Apart (at k : ℕ) : Type 0 where
  first : k ≢ at
  second : k ≢ at + 1
  third : k ≢ at + 2
  fourth : k ≢ at + 3

below : (at k : ℕ) → k < at → Apart at k
below at k h = record { first = omega arith; second = omega arith; third = omega arith; fourth = omega arith }

above : (at k : ℕ) → at + 4 ≤ k → Apart at k
above at k h = record { first = omega arith; second = omega arith; third = omega arith; fourth = omega arith }

byte_kept : (bytes : List ℕ) (at word k : ℕ) → Apart at k → get_or (put_word bytes at word) k 0 ≡ get_or bytes k 0
unfolding put_word
byte_kept bytes at word k apart =
    get_or-set_other _ (at + 3) k _ 0 apart.fourth ∙ get_or-set_other _ (at + 2) k _ 0 apart.third
    ∙ get_or-set_other _ (at + 1) k _ 0 apart.second ∙ get_or-set_other bytes at k _ 0 apart.first

-- the four bytes
record HasBytes (bytes : List ℕ) (at a b c d : ℕ) : Type 0 where
  first : get_or bytes at 0 ≡ a
  second : get_or bytes (at + 1) 0 ≡ b
  third : get_or bytes (at + 2) 0 ≡ c
  fourth : get_or bytes (at + 3) 0 ≡ d

word_from : (bytes : List ℕ) (at a b c d : ℕ) → HasBytes bytes at a b c d → word_at bytes at ≡ word_of a b c d
unfolding word_at
word_from bytes at a b c d has = omega (arith, has.first, has.second, has.third, has.fourth)

longer : (l : List ℕ) (i a k : ℕ) → k < length l → k < length (set l i a)
longer l i a k h = omega (arith, length-set l i a)

bytes_put : (bytes : List ℕ) (at word : ℕ) → at + 4 ≤ length bytes →
    HasBytes (put_word bytes at word) at (word % 256) (word / 256 % 256) (word / 65536 % 256) (word / 16777216 % 256)
unfolding put_word
bytes_put bytes at word fits = record {
  first =
      get_or-set_other _ (at + 3) at _ 0 (omega arith) ∙ get_or-set_other _ (at + 2) at _ 0 (omega arith)
      ∙ get_or-set_other _ (at + 1) at _ 0 (omega arith) ∙ get_or-set_same bytes at _ 0 (omega arith);
  second =
      get_or-set_other _ (at + 3) (at + 1) _ 0 (omega arith) ∙ get_or-set_other _ (at + 2) (at + 1) _ 0 (omega arith)
      ∙ get_or-set_same _ (at + 1) _ 0 (longer _ at _ _ (omega arith));
  third = get_or-set_other _ (at + 3) (at + 2) _ 0 (omega arith) ∙ get_or-set_same _ (at + 2) _ 0 (longer _ (at + 1) _ _ (longer _ at _ _ (omega arith)));
  fourth = get_or-set_same _ (at + 3) _ 0 (longer _ (at + 2) _ _ (longer _ (at + 1) _ _ (longer _ at _ _ (omega arith))));
}

word_of_digits : (word : ℕ) → word < 2 ^ 32 → word_of (word % 256) (word / 256 % 256) (word / 65536 % 256) (word / 16777216 % 256) ≡ word
word_of_digits word small = omega arith

-- the word that was put is there
pub word_at-put : (bytes : List ℕ) (at word : ℕ) → at + 4 ≤ length bytes → word < 2 ^ 32 → word_at (put_word bytes at word) at ≡ word
word_at-put bytes at word fits small = word_from _ at _ _ _ _ (bytes_put bytes at word fits) ∙ word_of_digits word small

word_kept : (bytes : List ℕ) (at word to : ℕ) → ((k : ℕ) → to ≤ k → k < to + 4 → Apart at k) → word_at (put_word bytes at word) to ≡ word_at bytes to
unfolding word_at
word_kept bytes at word to apart =
    word_from _ to _ _ _ _
    (record {
      first = byte_kept bytes at word to (apart _ (omega arith) (omega arith));
      second = byte_kept bytes at word (to + 1) (apart _ (omega arith) (omega arith));
      third = byte_kept bytes at word (to + 2) (apart _ (omega arith) (omega arith));
      fourth = byte_kept bytes at word (to + 3) (apart _ (omega arith) (omega arith));
    })

-- other words are kept
pub word_before : (bytes : List ℕ) (at word to : ℕ) → to + 4 ≤ at → word_at (put_word bytes at word) to ≡ word_at bytes to
word_before bytes at word to h = word_kept bytes at word to (λ k low high. below at k (omega arith))

pub word_behind : (bytes : List ℕ) (at word to : ℕ) → at + 4 ≤ to → word_at (put_word bytes at word) to ≡ word_at bytes to
word_behind bytes at word to h = word_kept bytes at word to (λ k low high. above at k (omega arith))

set_put : (bytes : List ℕ) (at word k v : ℕ) → Apart at k → set (put_word bytes at word) k v ≡ put_word (set bytes k v) at word
unfolding put_word
set_put bytes at word k v apart =
    set_comm _ (at + 3) k _ v (λ e. apart.fourth (sym e))
    ∙ ap (λ l. set l (at + 3) (word / 16777216 % 256))
    (set_comm _ (at + 2) k _ v (λ e. apart.third (sym e))
    ∙ ap (λ l. set l (at + 2) (word / 65536 % 256))
    (set_comm _ (at + 1) k _ v (λ e. apart.second (sym e))
    ∙ ap (λ l. set l (at + 1) (word / 256 % 256)) (set_comm bytes at k _ v (λ e. apart.first (sym e)))))

-- words at places apart may be put in either order
pub put-put_before : (bytes : List ℕ) (at word to value : ℕ) → at + 4 ≤ to →
    put_word (put_word bytes to value) at word ≡ put_word (put_word bytes at word) to value
unfolding put_word
put-put_before bytes at word to value h =
    ap (λ l. set (set (set l (at + 1) (word / 256 % 256)) (at + 2) (word / 65536 % 256)) (at + 3) (word / 16777216 % 256))
    (set_put bytes to value at (word % 256) (below to at (omega arith)))
    ∙ ap (λ l. set (set l (at + 2) (word / 65536 % 256)) (at + 3) (word / 16777216 % 256))
    (set_put _ to value (at + 1) (word / 256 % 256) (below to (at + 1) (omega arith)))
    ∙ ap (λ l. set l (at + 3) (word / 16777216 % 256)) (set_put _ to value (at + 2) (word / 65536 % 256) (below to (at + 2) (omega arith)))
    ∙ set_put _ to value (at + 3) (word / 16777216 % 256) (below to (at + 3) (omega arith))

-- a word that is put over another
pub put-put_same : (bytes : List ℕ) (at word value : ℕ) → put_word (put_word bytes at word) at value ≡ put_word bytes at value
unfolding put_word
put-put_same bytes at word value =
    ap (λ l. set (set (set l (at + 1) (value / 256 % 256)) (at + 2) (value / 65536 % 256)) (at + 3) (value / 16777216 % 256))
    (set_comm _ (at + 3) at _ _ (omega arith)
    ∙ ap (λ l. set l (at + 3) (word / 16777216 % 256))
    (set_comm _ (at + 2) at _ _ (omega arith)
    ∙ ap (λ l. set l (at + 2) (word / 65536 % 256))
    (set_comm _ (at + 1) at _ _ (omega arith) ∙ ap (λ l. set l (at + 1) (word / 256 % 256)) (set-set bytes at _ _))))
    ∙ ap (λ l. set (set l (at + 2) (value / 65536 % 256)) (at + 3) (value / 16777216 % 256))
    (set_comm _ (at + 3) (at + 1) _ _ (omega arith)
    ∙ ap (λ l. set l (at + 3) (word / 16777216 % 256))
    (set_comm _ (at + 2) (at + 1) _ _ (omega arith) ∙ ap (λ l. set l (at + 2) (word / 65536 % 256)) (set-set _ (at + 1) _ _)))
    ∙ ap (λ l. set l (at + 3) (value / 16777216 % 256))
    (set_comm _ (at + 3) (at + 2) _ _ (omega arith) ∙ ap (λ l. set l (at + 3) (word / 16777216 % 256)) (set-set _ (at + 2) _ _))
    ∙ set-set _ (at + 3) _ _

set_own : (bytes : List ℕ) (k byte : ℕ) → byte ≡ get_or bytes k 0 → set bytes k byte ≡ bytes
set_own bytes k byte e = ap (λ b. set bytes k b) e ∙ set-get_or bytes k 0

-- a word that is put where it was read
pub put-word_at : (bytes : List ℕ) (at : ℕ) → AllByRecursion (λ byte. byte < 256) bytes → put_word bytes at (word_at bytes at) ≡ bytes
unfolding put_word word_at
put-word_at bytes at all =
    let a = get_or bytes at 0 in
    let b = get_or bytes (at + 1) 0 in
    let c = get_or bytes (at + 2) 0 in
    let d = get_or bytes (at + 3) 0 in
    let small_a : a < 256 = byte_small bytes all at in
    let small_b : b < 256 = byte_small bytes all (at + 1) in
    let small_c : c < 256 = byte_small bytes all (at + 2) in
    let small_d : d < 256 = byte_small bytes all (at + 3) in
    let word = word_of a b c d in
    let e0 = set_own bytes at (word % 256) (digit_0 a b c d small_a) in
    let e1 = set_own bytes (at + 1) (word / 256 % 256) (digit_1 a b c d small_a small_b) in
    let e2 = set_own bytes (at + 2) (word / 65536 % 256) (digit_2 a b c d small_a small_b small_c) in
    let e3 = set_own bytes (at + 3) (word / 16777216 % 256) (digit_3 a b c d small_a small_b small_c small_d) in
    ap (λ l. set (set (set l (at + 1) (word / 256 % 256)) (at + 2) (word / 65536 % 256)) (at + 3) (word / 16777216 % 256)) e0
    ∙ ap (λ l. set (set l (at + 2) (word / 65536 % 256)) (at + 3) (word / 16777216 % 256)) e1
    ∙ ap (λ l. set l (at + 3) (word / 16777216 % 256)) e2 ∙ e3
  where
    digit_0 : (a b c d : ℕ) → a < 256 → word_of a b c d % 256 ≡ a
    digit_0 a b c d ha = omega arith

    digit_1 : (a b c d : ℕ) → a < 256 → b < 256 → word_of a b c d / 256 % 256 ≡ b
    digit_1 a b c d ha hb = omega arith

    digit_2 : (a b c d : ℕ) → a < 256 → b < 256 → c < 256 → word_of a b c d / 65536 % 256 ≡ c
    digit_2 a b c d ha hb hc = omega arith

    digit_3 : (a b c d : ℕ) → a < 256 → b < 256 → c < 256 → d < 256 → word_of a b c d / 16777216 % 256 ≡ d
    digit_3 a b c d ha hb hc hd = omega arith

-- other bytes are kept
pub others_kept : (bytes : List ℕ) (at word k : ℕ) → (k < at) ⊎ (at + 4 ≤ k) → get_or (put_word bytes at word) k 0 ≡ get_or bytes k 0
others_kept bytes at word k (inl less) = byte_kept bytes at word k (below at k less)
others_kept bytes at word k (inr more) = byte_kept bytes at word k (above at k more)
