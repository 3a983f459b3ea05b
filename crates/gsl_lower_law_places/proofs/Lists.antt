-- Items that are put in lists, and bytes that are put in buffers.
use Rattle.std.proofs.Common.{◌≡◌, refl, sym, ap, ◌∙◌, ℕ, zero, suc, ◌+◌, Bool, true, false, if◌then◌else◌, List, [], ◌∷◌, length, set, Option, Some, None}
use Rattle.std.specs.Prelude.{slice_get}
use Rattle.gsl_base.specs.declared.input.Buffer.{Buffer}
use Rattle.gsl_views.specs.Buffers.{bytes_at, is_at, put_words, with_bytes}
use Rattle.gsl_words.proofs.Bytes.{put-length}
use Rattle.gsl_words.specs.Words.{put_word}

module _ {A : Type 0} where
  pub get_put : (xs : List A) (k : ℕ) (x y : A) → slice_get xs k ≡ Some x → slice_get (set xs k y) k ≡ Some y
  get_put [] k x y e = absurd (let z : ◌≡◌ {A = Option A} None (Some x) = e in cc)
  get_put (a ∷ xs) zero x y e = refl
  get_put (a ∷ xs) (suc k) x y e = get_put xs k x y e

  pub put_twice : (xs : List A) (k : ℕ) (x y : A) → set (set xs k x) k y ≡ set xs k y
  put_twice [] k x y = refl
  put_twice (a ∷ xs) zero x y = refl
  put_twice (a ∷ xs) (suc k) x y = ap (λ l. a ∷ l) (put_twice xs k x y)

  some_is : (x y : A) → Some x ≡ Some y → x ≡ y
  some_is x y e = cc

  pub put_same : (xs : List A) (k : ℕ) (x : A) → slice_get xs k ≡ Some x → set xs k x ≡ xs
  put_same [] k x e = refl
  put_same (a ∷ xs) zero x e = ap (λ y. y ∷ xs) (sym (some_is a x e))
  put_same (a ∷ xs) (suc k) x e = ap (λ l. a ∷ l) (put_same xs k x e)

-- ---- buffers

pub bytes_put : (buffers : List Buffer) (set binding : ℕ) (bytes new : List ℕ) → bytes_at buffers set binding ≡ Some bytes → bytes_at (with_bytes buffers set binding new) set binding ≡ Some new
bytes_put [] set binding bytes new e = absurd (let z : ◌≡◌ {A = Option (List ℕ)} None (Some bytes) = e in cc)
bytes_put (buffer ∷ buffers) set binding bytes new e = by (bytes_put buffers set binding bytes new) (is_at set binding buffer) refl e
  where
    by : (bytes_at buffers set binding ≡ Some bytes → bytes_at (with_bytes buffers set binding new) set binding ≡ Some new) → (b : Bool) → is_at set binding buffer ≡ b → (if b then Some buffer.bytes else bytes_at buffers set binding) ≡ Some bytes
        → bytes_at (if b then record buffer { bytes = new } ∷ buffers else buffer ∷ with_bytes buffers set binding new) set binding ≡ Some new
    by later true is e = ap (λ b. if b then Some new else bytes_at buffers set binding) is
    by later false is e = ap (λ b. if b then Some buffer.bytes else bytes_at (with_bytes buffers set binding new) set binding) is ∙ later e

pub bytes_twice : (buffers : List Buffer) (set binding : ℕ) (new last : List ℕ) → with_bytes (with_bytes buffers set binding new) set binding last ≡ with_bytes buffers set binding last
bytes_twice [] set binding new last = refl
bytes_twice (buffer ∷ buffers) set binding new last = by (bytes_twice buffers set binding new last) (is_at set binding buffer) refl
  where
    by : with_bytes (with_bytes buffers set binding new) set binding last ≡ with_bytes buffers set binding last → (b : Bool) → is_at set binding buffer ≡ b
        → with_bytes (if b then record buffer { bytes = new } ∷ buffers else buffer ∷ with_bytes buffers set binding new) set binding last ≡ (if b then record buffer { bytes = last } ∷ buffers else buffer ∷ with_bytes buffers set binding last)
    by later true is = ap (λ b. if b then record buffer { bytes = last } ∷ buffers else record buffer { bytes = new } ∷ with_bytes buffers set binding last) is
    by later false is = ap (λ b. if b then record buffer { bytes = last } ∷ with_bytes buffers set binding new else buffer ∷ with_bytes (with_bytes buffers set binding new) set binding last) is
        ∙ ap (λ l. buffer ∷ l) later

pub bytes_same : (buffers : List Buffer) (set binding : ℕ) (bytes : List ℕ) → bytes_at buffers set binding ≡ Some bytes → with_bytes buffers set binding bytes ≡ buffers
bytes_same [] set binding bytes e = refl
bytes_same (buffer ∷ buffers) set binding bytes e = by (bytes_same buffers set binding bytes) (is_at set binding buffer) e
  where
    by : (bytes_at buffers set binding ≡ Some bytes → with_bytes buffers set binding bytes ≡ buffers) → (b : Bool) → (if b then Some buffer.bytes else bytes_at buffers set binding) ≡ Some bytes → (if b then record buffer { bytes = bytes } ∷ buffers else buffer ∷ with_bytes buffers set binding bytes) ≡ buffer ∷ buffers
    by later true e = ap (λ bs. record buffer { bytes = bs } ∷ buffers) (sym (some_is buffer.bytes bytes e))
    by later false e = ap (λ l. buffer ∷ l) (later e)

pub words_length : (at : ℕ) (words bytes : List ℕ) → length (put_words at words bytes) ≡ length bytes
words_length at [] bytes = refl
words_length at (word ∷ words) bytes = words_length (at + 4) words (put_word bytes at word) ∙ put-length bytes at word
