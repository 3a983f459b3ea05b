-- Words in bytes, and bytes of buffers, step by step.
use Rattle.std.proofs.Common.{◌≡◌, refl, sym, ap, ◌∙◌, ℕ, zero, suc, ◌+◌, ◌-◌, ◌<◌, ◌≤◌, true, false, if◌then◌else◌, List, [], ◌∷◌, ◌++◌, map, length, drop, get_or, set, slice_get, Some, arith, append_assoc}
use Rattle.std.specs.List.{range_with_len}
use Rattle.std.proofs.lemmas.List.{drop_all}
use Rattle.gsl_base.specs.declared.input.Buffer.{Buffer}
use Rattle.gsl_views.specs.Buffers.{is_at, put_words, with_bytes}
use Rattle.gsl_words.specs.Words.{put_word}
use Rattle.gsl_enact_fits.proofs.Loops.{opened}
use Rattle.gsl_enact_memory.specs.Reaching.{bytes_changed}

-- one word more of those in a row
pub run_on : (f : ℕ → ℕ) (words new : List ℕ) (k size word : ℕ) (whole : List ℕ) → k < size → new ≡ words ++ word ∷ [] → word ≡ f k → words ++ map f (range_with_len k (size - k)) ≡ whole
    → new ++ map f (range_with_len (k + 1) (size - (k + 1))) ≡ whole
run_on f words new k size word whole below pushed is so_far =
    ap (λ l. l ++ map f (range_with_len (k + 1) (size - (k + 1)))) (pushed ∙ ap (λ w. words ++ w ∷ []) is) ∙ append_assoc words (f k ∷ []) (map f (range_with_len (k + 1) (size - (k + 1))))
    ∙ ap (λ n. words ++ map f (range_with_len k n)) (let e : suc (size - (k + 1)) ≡ size - k = omega (arith, below) in e) ∙ so_far

-- one word more that is put
pub put_on : (words bytes new : List ℕ) (at k word : ℕ) (whole : List ℕ) → slice_get words k ≡ Some word → new ≡ put_word bytes at word → put_words at (drop k words) bytes ≡ whole
    → put_words (at + 4) (drop (k + 1) words) new ≡ whole
put_on words bytes new at k word whole at_k is so_far =
    ap (put_words (at + 4) (drop (k + 1) words)) is ∙ ap (λ l. put_words at l bytes) (sym (opened words k word at_k)) ∙ so_far

pub put_end : (words bytes : List ℕ) (at k : ℕ) (whole : List ℕ) → length words ≤ k → put_words at (drop k words) bytes ≡ whole → bytes ≡ whole
put_end words bytes at k whole past so_far = sym (ap (λ l. put_words at l bytes) (drop_all k words past)) ∙ so_far

-- ---- the first buffer at a set and binding

-- what changes from here on changes in the whole
abbrev pub Leads : List Buffer → ℕ → ℕ → ℕ → Type 0
Leads buffers set binding k = (j : ℕ) (bytes : List ℕ) → bytes_changed (drop k buffers) j bytes ≡ with_bytes (drop k buffers) set binding bytes → bytes_changed buffers (k + j) bytes ≡ with_bytes buffers set binding bytes

pub leads_on : (buffers : List Buffer) (set binding k : ℕ) (b : Buffer) → slice_get buffers k ≡ Some b → is_at set binding b ≡ false → Leads buffers set binding k → Leads buffers set binding (k + 1)
leads_on buffers set binding k b at_k differs leads j bytes here =
    ap (λ n. bytes_changed buffers n bytes) (let e : k + 1 + j ≡ k + suc j = omega arith in e)
    ∙ leads (suc j) bytes
    (ap (λ l. bytes_changed l (suc j) bytes) (opened buffers k b at_k) ∙ ap (λ l. b ∷ l) here
    ∙ sym (ap (λ l. with_bytes l set binding bytes) (opened buffers k b at_k) ∙ ap (λ t. if t then record b { bytes = bytes } ∷ drop (k + 1) buffers else b ∷ with_bytes (drop (k + 1) buffers) set binding bytes) differs))

pub leads_here : (buffers : List Buffer) (set binding k : ℕ) (b : Buffer) → slice_get buffers k ≡ Some b → is_at set binding b ≡ true → Leads buffers set binding k → (bytes : List ℕ) → bytes_changed buffers k bytes ≡ with_bytes buffers set binding bytes
leads_here buffers set binding k b at_k same leads bytes =
    ap (λ n. bytes_changed buffers n bytes) (let e : k ≡ k + 0 = omega arith in e)
    ∙ leads 0 bytes
    (ap (λ l. bytes_changed l 0 bytes) (opened buffers k b at_k)
    ∙ sym (ap (λ l. with_bytes l set binding bytes) (opened buffers k b at_k) ∙ ap (λ t. if t then record b { bytes = bytes } ∷ drop (k + 1) buffers else b ∷ with_bytes (drop (k + 1) buffers) set binding bytes) same))

pub leads_nowhere : (buffers : List Buffer) (set binding k : ℕ) → length buffers ≤ k → Leads buffers set binding k → (bytes : List ℕ) → bytes_changed buffers k bytes ≡ with_bytes buffers set binding bytes
leads_nowhere buffers set binding k past leads bytes =
    ap (λ n. bytes_changed buffers n bytes) (let e : k ≡ k + 0 = omega arith in e)
    ∙ leads 0 bytes (ap (λ l. bytes_changed l 0 bytes) (drop_all k buffers past) ∙ sym (ap (λ l. with_bytes l set binding bytes) (drop_all k buffers past)))

pub changed_is : (buffers : List Buffer) (k : ℕ) (b : Buffer) (bytes : List ℕ) → k < length buffers → b ≡ get_or buffers k b → bytes_changed buffers k bytes ≡ set buffers k (record b { bytes = bytes })
changed_is [] k b bytes below e = refl
changed_is (x ∷ buffers) zero b bytes below e = ap (λ (y : Buffer). record y { bytes = bytes } ∷ buffers) (sym e)
changed_is (x ∷ buffers) (suc k) b bytes below e = ap (λ l. x ∷ l) (changed_is buffers k b bytes (omega (arith, below)) e)

pub changed_none : (buffers : List Buffer) (k : ℕ) (bytes : List ℕ) → length buffers ≤ k → bytes_changed buffers k bytes ≡ buffers
changed_none [] k bytes past = refl
changed_none (x ∷ buffers) zero bytes past = absurd (omega (arith, past))
changed_none (x ∷ buffers) (suc k) bytes past = ap (λ l. x ∷ l) (changed_none buffers k bytes (omega (arith, past)))

pub leads_past : (buffers : List Buffer) (set binding k n : ℕ) → length buffers ≤ k → length buffers ≤ n → Leads buffers set binding k → (bytes : List ℕ) → bytes_changed buffers n bytes ≡ with_bytes buffers set binding bytes
leads_past buffers set binding k n past beyond leads bytes = changed_none buffers n bytes beyond ∙ sym (changed_none buffers k bytes past) ∙ leads_nowhere buffers set binding k past leads bytes
