-- The words of a block against the bytes of its buffer.
use Rattle.std.proofs.Common.{◌≡◌, ◌≢◌, ◌⊎◌, inl, inr, ℕ, zero, suc, ◌+◌, ◌^◌, ◌<◌, ◌≤◌, Bool, true, false, cond, List, [], ◌∷◌, length, get_or, set, map, Some, refl, ap, sym, subst, ◌∙◌, arith}
use Rattle.std.specs.List.{range_with_len, AllByRecursion}
use Rattle.std.proofs.lemmas.Bool.{cases_lt, cases_eq}
use Rattle.std.proofs.lemmas.List.{length-set, length-map, get_or-set_same, get_or-set_other}
use Rattle.gsl_base.specs.declared.input.Buffer.{Buffer}
use Rattle.gsl_words.specs.Words.{word_at, put_word}
use Rattle.gsl_cmd.specs.Buffers.{is_at, bytes_at, with_bytes, word_offset, seen, put_words}
use Rattle.gsl_base.specs.Ranges.{AreBytes, FitsBuffer}
use Rattle.gsl_words.proofs.Bytes.{put-length, word_at-put, word_before, word_behind, put-put_before, put-put_same, put-word_at, byte_small}

-- Words and bytes ----------------------------------------------------------------------------------------

-- a word before the block's
past : (i : ℕ) (words bytes : List ℕ) (at value : ℕ) → at + 4 ≤ word_offset i →
    put_words i words (put_word bytes at value) ≡ put_word (put_words i words bytes) at value
past i [] bytes at value h = refl
past i (word ∷ words) bytes at value h =
    ap (put_words (i + 1) words) (sym (put-put_before bytes at value (word_offset i) word h))
    ∙ past (i + 1) words (put_word bytes (word_offset i) word) at value (omega arith)

-- a word of the block
put_over : (i t at : ℕ) (words bytes : List ℕ) (value : ℕ) → t < length words → at ≡ word_offset (i + t) →
    put_word (put_words i words bytes) at value ≡ put_words i (set words t value) bytes
put_over i t at [] bytes value h e = absurd (omega arith)
put_over i zero at (word ∷ words) bytes value h e =
    let same : at ≡ word_offset i = omega arith in
    ap (λ a. put_word (put_words (i + 1) words (put_word bytes (word_offset i) word)) a value) same
    ∙ sym (past (i + 1) words (put_word bytes (word_offset i) word) (word_offset i) value (omega arith))
    ∙ ap (put_words (i + 1) words) (put-put_same bytes (word_offset i) word value)
put_over i (suc t) at (word ∷ words) bytes value h e =
    put_over (i + 1) t at words (put_word bytes (word_offset i) word) value (omega arith) (omega arith)

-- the words as they are seen
put_seen : (i n : ℕ) (bytes : List ℕ) → AreBytes bytes → put_words i (map (λ k. word_at bytes (word_offset k)) (range_with_len i n)) bytes ≡ bytes
put_seen i zero bytes all = refl
put_seen i (suc n) bytes all =
    ap (put_words (i + 1) (map (λ k. word_at bytes (word_offset k)) (range_with_len (i + 1) n))) (put-word_at bytes (word_offset i) all)
    ∙ put_seen (i + 1) n bytes all

pub length-range : (a n : ℕ) → length (range_with_len a n) ≡ n
length-range a zero = refl
length-range a (suc n) = ap suc (length-range (a + 1) n)

pub get_or-map_range : {A : Type 0} (f : ℕ → A) (a n i : ℕ) (d : A) → i < n → get_or (map f (range_with_len a n)) i d ≡ f (a + i)
get_or-map_range f a zero i d h = absurd (omega arith)
get_or-map_range f a (suc n) zero d h = ap f (omega arith)
get_or-map_range f a (suc n) (suc i) d h = get_or-map_range f (a + 1) n i d (omega arith) ∙ ap f (omega arith)

-- The bytes that a buffer began with have come to these, and the block's words are these.
pub record Holds (members : ℕ) (began : List ℕ) (words bytes : List ℕ) : Type 0 where
  pub put : bytes ≡ put_words 0 words began
  pub at : (i : ℕ) → i < members → word_at bytes (word_offset i) ≡ get_or words i 0
  pub count : length words ≡ members
  pub small : (i : ℕ) → get_or words i 0 < 2 ^ 32
  pub room : word_offset members ≤ length bytes

word_small : (bytes : List ℕ) (at : ℕ) → AreBytes bytes → word_at bytes at < 2 ^ 32
unfolding word_at
word_small bytes at all =
    let a : get_or bytes at 0 < 256 = byte_small bytes all at in
    let b : get_or bytes (at + 1) 0 < 256 = byte_small bytes all (at + 1) in
    let c : get_or bytes (at + 2) 0 < 256 = byte_small bytes all (at + 2) in
    let d : get_or bytes (at + 3) 0 < 256 = byte_small bytes all (at + 3) in
    omega arith

seen_small : (a n i : ℕ) (bytes : List ℕ) → AreBytes bytes → get_or (map (λ k. word_at bytes (word_offset k)) (range_with_len a n)) i 0 < 2 ^ 32
seen_small a zero i bytes all = omega arith
seen_small a (suc n) zero bytes all = word_small bytes (word_offset a) all
seen_small a (suc n) (suc i) bytes all = seen_small (a + 1) n i bytes all

-- a block as it is seen
pub holds_seen : (members : ℕ) (bytes : List ℕ) → AreBytes bytes → word_offset members ≤ length bytes → Holds members bytes (seen members bytes) bytes
holds_seen members bytes all room = record {
  put = sym (put_seen 0 members bytes all);
  at = λ i h. sym (get_or-map_range (λ k. word_at bytes (word_offset k)) 0 members i 0 h ∙ ap (λ k. word_at bytes (word_offset k)) (omega arith));
  count = length-map (range_with_len 0 members) (λ k. word_at bytes (word_offset k)) ∙ length-range 0 members;
  small = λ i. seen_small 0 members i bytes all;
  room = room;
}

module _ (members : ℕ) (began words bytes : List ℕ) (holds : Holds members began words bytes) (target value : ℕ) (within : target < members) (fits : value < 2 ^ 32) where
  count_kept : length (set words target value) ≡ members
  count_kept = length-set words target value ∙ holds.count

  inside : target < length words
  inside = omega (arith, holds.count)

  at_kept : (i : ℕ) → i < members → (i ≡ target) → word_at (put_word bytes (word_offset target) value) (word_offset i) ≡ get_or (set words target value) i 0
  at_kept i h e =
      ap (λ k. word_at (put_word bytes (word_offset target) value) (word_offset k)) e
      ∙ word_at-put bytes (word_offset target) value (omega (arith, holds.room)) fits
      ∙ sym (ap (λ k. get_or (set words target value) k 0) e ∙ get_or-set_same words target value 0 inside)

  other : (i : ℕ) → i < members → i ≢ target → get_or words i 0 ≡ get_or (set words target value) i 0
  other i h ne = sym (get_or-set_other words target i value 0 ne)

  at_all : (i : ℕ) → i < members → word_at (put_word bytes (word_offset target) value) (word_offset i) ≡ get_or (set words target value) i 0
  at_all i h = by_order (cases_lt i target)
    where
      by_order : (i < target) ⊎ (target ≤ i) → word_at (put_word bytes (word_offset target) value) (word_offset i) ≡ get_or (set words target value) i 0
      by_order (inl low) = word_before bytes (word_offset target) value (word_offset i) (omega arith) ∙ holds.at i h ∙ other i h (omega arith)
      by_order (inr high) = by_equal (cases_eq i target)
        where
          by_equal : (i ≡ target) ⊎ (i ≢ target) → word_at (put_word bytes (word_offset target) value) (word_offset i) ≡ get_or (set words target value) i 0
          by_equal (inl e) = at_kept i h e
          by_equal (inr ne) = word_behind bytes (word_offset target) value (word_offset i) (omega arith) ∙ holds.at i h ∙ other i h ne

  small_all : (i : ℕ) → get_or (set words target value) i 0 < 2 ^ 32
  small_all i = by_equal (cases_eq i target)
    where
      by_equal : (i ≡ target) ⊎ (i ≢ target) → get_or (set words target value) i 0 < 2 ^ 32
      by_equal (inl e) =
          let same : get_or (set words target value) i 0 ≡ value = ap (λ k. get_or (set words target value) k 0) e ∙ get_or-set_same words target value 0 inside in
          omega arith
      by_equal (inr ne) = let same = get_or-set_other words target i value 0 ne in omega (arith, holds.small i)

  -- a word of the block that is put
  pub holds_put : Holds members began (set words target value) (put_word bytes (word_offset target) value)
  holds_put = record {
    put =
        ap (λ b. put_word b (word_offset target) value) holds.put
        ∙ put_over 0 target (word_offset target) words began value inside (ap word_offset (omega arith));
    at = at_all;
    count = count_kept;
    small = small_all;
    room = omega (arith, holds.room, put-length bytes (word_offset target) value);
  }

-- Buffers ------------------------------------------------------------------------------------------------

module _ (s b : ℕ) where
  pub bytes_at-with_bytes : (buffers : List Buffer) (old bytes : List ℕ) → bytes_at buffers s b ≡ Some old → bytes_at (with_bytes buffers s b bytes) s b ≡ Some bytes
  bytes_at-with_bytes [] old bytes e = absurd cc
  bytes_at-with_bytes (buffer ∷ buffers) old bytes e = by_test (is_at s b buffer) refl (bytes_at-with_bytes buffers old bytes) e
    where
      by_test : (t : Bool) → is_at s b buffer ≡ t → (bytes_at buffers s b ≡ Some old → bytes_at (with_bytes buffers s b bytes) s b ≡ Some bytes) → cond t (Some buffer.bytes) (bytes_at buffers s b) ≡ Some old →
          bytes_at (cond t (record buffer { bytes = bytes } ∷ buffers) (buffer ∷ with_bytes buffers s b bytes)) s b ≡ Some bytes
      by_test true h again e = ap (λ t. cond t (Some bytes) (bytes_at buffers s b)) h
      by_test false h again e = ap (λ t. cond t (Some buffer.bytes) (bytes_at (with_bytes buffers s b bytes) s b)) h ∙ again e

  pub with_bytes-with_bytes : (buffers : List Buffer) (old bytes : List ℕ) → with_bytes (with_bytes buffers s b old) s b bytes ≡ with_bytes buffers s b bytes
  with_bytes-with_bytes [] old bytes = refl
  with_bytes-with_bytes (buffer ∷ buffers) old bytes = by_test (is_at s b buffer) refl (with_bytes-with_bytes buffers old bytes)
    where
      by_test : (t : Bool) → is_at s b buffer ≡ t → with_bytes (with_bytes buffers s b old) s b bytes ≡ with_bytes buffers s b bytes →
          with_bytes (cond t (record buffer { bytes = old } ∷ buffers) (buffer ∷ with_bytes buffers s b old)) s b bytes ≡ cond t (record buffer { bytes = bytes } ∷ buffers) (buffer ∷ with_bytes buffers s b bytes)
      by_test true h again = ap (λ t. cond t (record buffer { bytes = bytes } ∷ buffers) (record buffer { bytes = old } ∷ with_bytes buffers s b bytes)) h
      by_test false h again =
          ap (λ t. cond t (record buffer { bytes = bytes } ∷ with_bytes buffers s b old) (buffer ∷ with_bytes (with_bytes buffers s b old) s b bytes)) h
          ∙ ap (λ l. buffer ∷ l) again

  pub with_bytes-same : (buffers : List Buffer) (bytes : List ℕ) → bytes_at buffers s b ≡ Some bytes → with_bytes buffers s b bytes ≡ buffers
  with_bytes-same [] bytes e = absurd cc
  with_bytes-same (buffer ∷ buffers) bytes e = by_test (is_at s b buffer) (with_bytes-same buffers bytes) e
    where
      by_test : (t : Bool) → (bytes_at buffers s b ≡ Some bytes → with_bytes buffers s b bytes ≡ buffers) → cond t (Some buffer.bytes) (bytes_at buffers s b) ≡ Some bytes →
          cond t (record buffer { bytes = bytes } ∷ buffers) (buffer ∷ with_bytes buffers s b bytes) ≡ buffer ∷ buffers
      by_test true again e = let same : bytes ≡ buffer.bytes = cc in ap (λ l. record buffer { bytes = l } ∷ buffers) same
      by_test false again e = ap (λ l. buffer ∷ l) (again e)

  pub bytes_of_buffer : (buffers : List Buffer) (bytes : List ℕ) → AllByRecursion FitsBuffer buffers → bytes_at buffers s b ≡ Some bytes → AreBytes bytes
  bytes_of_buffer [] bytes all e = absurd cc
  bytes_of_buffer (buffer ∷ buffers) bytes all e = by_test (is_at s b buffer) (bytes_of_buffer buffers bytes all.1) e
    where
      by_test : (t : Bool) → (bytes_at buffers s b ≡ Some bytes → AreBytes bytes) → cond t (Some buffer.bytes) (bytes_at buffers s b) ≡ Some bytes → AreBytes bytes
      by_test true again e = let same : buffer.bytes ≡ bytes = cc in subst AreBytes same all.0.bytes
      by_test false again e = again e
