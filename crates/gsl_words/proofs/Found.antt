-- Words that are read from bytes, and instructions from words.
use Rattle.std.proofs.Common.{◌≡◌, ℕ, zero, suc, ◌+◌, ◌*◌, ◌/◌, ◌%◌, ◌-◌, ◌^◌, ◌<◌, ◌≤◌, true, false, ◌&&◌, leb, List, [], ◌∷◌, ◌++◌, length, get_or, take, drop, Some, refl, ap, sym, subst, ◌∙◌, arith, append_assoc, append-nil, length-append, length-drop, take-append-drop, inr}
use Rattle.std.proofs.lemmas.Bool.{true≢false, and_parts, leb-true}
use Rattle.std.proofs.lemmas.List.Elements.{All-nil, All-cons, All-head, All-tail}
use Rattle.std.specs.Prelude.{All}
use Rattle.std.specs.List.{flat_map, AllByRecursion}
use Rattle.std.specs.Int.{w32, from_le_bytes}
use Rattle.gsl_base.specs.Ranges.{AreWords}
use Rattle.gsl_instr.specs.declared.form.Form.{Form}
use Rattle.gsl_instr.specs.Forms.{form_of, allows_words}
use Rattle.gsl_instr.specs.Fitting.{Fits, fits_text}
use Rattle.gsl_instr.proofs.Fittings.{passed, passes}
use Rattle.gsl_words.specs.declared.module.Instr.{Instr}
use Rattle.gsl_words.specs.Instructions.{IsInTable, word_count}
use Rattle.gsl_words.specs.Bytes.{instr_words}
use Rattle.gsl_words.specs.Flat.{starts_from, parts, kept_words, IsFlat}
use Rattle.gsl_words.proofs.Flattened.{parts_of, words_are}
use Rattle.gsl_words.specs.declared.fault.WordFault.{WordFault}
use Rattle.gsl_words.specs.Faults.{words_of, op_of, count_of, args_of, counted, Breaks, IsHead, AreRead, Ends}

-- a word by its place
pub word_at : (bytes : List ℕ) (k : ℕ) → 4 * k + 4 ≤ length bytes →
    get_or (words_of bytes) k 0 ≡ from_le_bytes w32 (get_or bytes (4 * k) 0 ∷ get_or bytes (4 * k + 1) 0 ∷ get_or bytes (4 * k + 2) 0 ∷ get_or bytes (4 * k + 3) 0 ∷ [])
word_at [] k within = absurd (omega arith)
word_at (a ∷ []) k within = absurd (omega arith)
word_at (a ∷ b ∷ []) k within = absurd (omega arith)
word_at (a ∷ b ∷ c ∷ []) k within = absurd (omega arith)
word_at (a ∷ b ∷ c ∷ d ∷ bytes) zero within = refl
word_at (a ∷ b ∷ c ∷ d ∷ bytes) (suc k) within =
    let e0 : 4 * suc k ≡ suc (suc (suc (suc (4 * k)))) = omega arith in
    let e1 : 4 * suc k + 1 ≡ suc (suc (suc (suc (4 * k + 1)))) = omega arith in
    let e2 : 4 * suc k + 2 ≡ suc (suc (suc (suc (4 * k + 2)))) = omega arith in
    let e3 : 4 * suc k + 3 ≡ suc (suc (suc (suc (4 * k + 3)))) = omega arith in
    let all : List ℕ = a ∷ b ∷ c ∷ d ∷ bytes in
    word_at bytes k (omega arith)
    ∙ sym (ap (λ n. from_le_bytes w32 (get_or all n 0 ∷ get_or all (4 * suc k + 1) 0 ∷ get_or all (4 * suc k + 2) 0 ∷ get_or all (4 * suc k + 3) 0 ∷ [])) e0
    ∙ ap (λ n. from_le_bytes w32 (get_or bytes (4 * k) 0 ∷ get_or all n 0 ∷ get_or all (4 * suc k + 2) 0 ∷ get_or all (4 * suc k + 3) 0 ∷ [])) e1
    ∙ ap (λ n. from_le_bytes w32 (get_or bytes (4 * k) 0 ∷ get_or bytes (4 * k + 1) 0 ∷ get_or all n 0 ∷ get_or all (4 * suc k + 3) 0 ∷ [])) e2
    ∙ ap (λ n. from_le_bytes w32 (get_or bytes (4 * k) 0 ∷ get_or bytes (4 * k + 1) 0 ∷ get_or bytes (4 * k + 2) 0 ∷ get_or all n 0 ∷ [])) e3)

-- words that fit one by one
pub are_words : (words : List ℕ) → ((i : ℕ) → get_or words i 0 < 2 ^ 32) → AreWords words
are_words [] each = tt
are_words (w ∷ words) each = (each 0, are_words words (λ i. each (suc i)))

words_take : (k : ℕ) (words : List ℕ) → AreWords words → AreWords (take k words)
words_take zero words fit = tt
words_take (suc k) [] fit = tt
words_take (suc k) (w ∷ words) fit = (fit.0, words_take k words fit.1)

words_drop : (k : ℕ) (words : List ℕ) → AreWords words → AreWords (drop k words)
words_drop zero words fit = fit
words_drop (suc k) [] fit = tt
words_drop (suc k) (w ∷ words) fit = words_drop k words fit.1

-- what the test of a count says
pub record Counted (form : Form) (words : List ℕ) : Type 0 where
  pub some : 1 ≤ count_of words
  pub within : count_of words ≤ length words
  pub args : length (args_of words) ≡ count_of words - 1
  pub allowed : allows_words form (length (args_of words)) ≡ true

pub counted_is : (form : Form) (words : List ℕ) → counted form words ≡ true → Counted form words
counted_is form words e =
    let p = and_parts (leb 1 (count_of words) && leb (count_of words) (length words)) (allows_words form (count_of words - 1)) e in
    let q = and_parts (leb 1 (count_of words)) (leb (count_of words) (length words)) p.0 in
    let some = leb-true _ _ q.0 in
    let within = leb-true _ _ q.1 in
    let n : length (args_of words) ≡ count_of words - 1 = taken (count_of words - 1) (drop 1 words) (omega (arith, length-drop 1 words)) in
    record { some = some; within = within; args = n; allowed = ap (allows_words form) n ∙ p.1 }
  where
    taken : (k : ℕ) (l : List ℕ) → k ≤ length l → length (take k l) ≡ k
    taken zero l enough = refl
    taken (suc k) [] enough = absurd (omega arith)
    taken (suc k) (x ∷ l) enough = ap suc (taken k l (omega arith))

head_small : (words : List ℕ) → AreWords words → count_of words < 65536
head_small [] fit = omega arith
head_small (w ∷ words) fit = small w fit.0
  where
    small : (w : ℕ) → w < 2 ^ 32 → w / 65536 < 65536
    small w h = omega arith

-- an instruction that passes the tests
pub head_is : (form : Form) (words : List ℕ) → AreWords words → form_of (op_of words) ≡ Some form → counted form words ≡ true → fits_text form (args_of words) ≡ true → IsHead words (count_of words)
head_is form words fit found count texted =
    let c = counted_is form words count in
    let short : 1 + length (args_of words) < 2 ^ 16 = omega (arith, head_small words fit, c.args, c.some) in
    record {
      is = refl;
      some = c.some;
      within = c.within;
      fits = passed (op_of words) form (args_of words) (words_take _ _ (words_drop 1 words fit)) found short (c.allowed, texted);
    }

-- one whose text does not
pub text_breaks : (form : Form) (words : List ℕ) → form_of (op_of words) ≡ Some form → fits_text form (args_of words) ≡ false → Fits (op_of words) (args_of words) → ⊥
text_breaks form words found bad fits = true≢false (sym (passes (op_of words) form (args_of words) found fits).1 ∙ bad)

-- the first instruction of some words
abbrev pub first_of : List ℕ → Instr
first_of words = record { op = op_of words; args = args_of words }

first_word : (words : List ℕ) (count : ℕ) → IsHead words count → take count words ≡ instr_words (first_of words)
first_word [] count head = absurd (omega (arith, head.some, head.within))
first_word (w ∷ words) count head =
    let n : length (take (w / 65536 - 1) words) ≡ w / 65536 - 1 = taken (w / 65536 - 1) words (omega (arith, head.is, head.within, head.some)) in
    let first : (1 + length (take (w / 65536 - 1) words)) * 65536 + w % 65536 ≡ w = omega (arith, n, head.is, head.some) in
    let c : count ≡ suc (w / 65536 - 1) = omega (arith, head.is, head.some) in
    ap (λ k. take k (w ∷ words)) c ∙ ap (λ x. x ∷ take (w / 65536 - 1) words) (sym first)
  where
    taken : (k : ℕ) (l : List ℕ) → k ≤ length l → length (take k l) ≡ k
    taken zero l enough = refl
    taken (suc k) [] enough = absurd (omega arith)
    taken (suc k) (x ∷ l) enough = ap suc (taken k l (omega arith))

-- one instruction more was read
flat-append : (code : List Instr) (i : Instr) → flat_map instr_words (code ++ i ∷ []) ≡ flat_map instr_words code ++ instr_words i
flat-append [] i = append-nil (instr_words i)
flat-append (j ∷ code) i = ap (λ l. instr_words j ++ l) (flat-append code i) ∙ sym (append_assoc (instr_words j) (flat_map instr_words code) (instr_words i))

starts-append : (at : ℕ) (code : List Instr) (i : Instr) → starts_from at (code ++ i ∷ []) ≡ starts_from at code ++ (at + length (flat_map instr_words code)) ∷ []
starts-append at [] i = ap (λ k. k ∷ []) (omega arith)
starts-append at (j ∷ code) i =
    let n : at + length (instr_words j ++ flat_map instr_words code) ≡ at + word_count j + length (flat_map instr_words code) = omega (arith, length-append (instr_words j) (flat_map instr_words code)) in
    ap (λ l. at ∷ l) (starts-append (at + word_count j) code i ∙ ap (λ k. starts_from (at + word_count j) code ++ k ∷ []) (sym n))

all-append : (P : Instr → Type 0) (code : List Instr) (i : Instr) → All P code → P i → All P (code ++ i ∷ [])
all-append P [] i all one = All-cons P i [] one (All-nil P)
all-append P (j ∷ code) i all one = All-cons P j (code ++ i ∷ []) (All-head P j code all) (all-append P code i (All-tail P j code all) one)

ops-append : (code : List Instr) (i : Instr) → AllByRecursion (λ instr. instr.op < 2 ^ 16) code → i.op < 2 ^ 16 → AllByRecursion (λ instr. instr.op < 2 ^ 16) (code ++ i ∷ [])
ops-append [] i ops small = (small, tt)
ops-append (j ∷ code) i ops small = (ops.0, ops-append code i ops.1 small)

pub none_read : AreRead [] []
none_read = record { code = []; whole = All-nil IsInTable; ops = tt; words_are = refl; starts_are = refl }

take_more : (n k : ℕ) (l : List ℕ) → take (n + k) l ≡ take n l ++ take k (drop n l)
take_more zero k l = let e : zero + k ≡ k = omega arith in ap (λ m. take m l) e
take_more (suc n) k [] = no_take (suc n + k) ∙ sym (no_take k)
  where
    no_take : (k : ℕ) → take {A = ℕ} k [] ≡ []
    no_take zero = refl
    no_take (suc k) = refl
take_more (suc n) k (x ∷ l) = ap (λ m. take m (x ∷ l)) (let e : suc n + k ≡ suc (n + k) = omega arith in e) ∙ ap (λ r. x ∷ r) (take_more n k l)

pub one_more : (words starts more : List ℕ) (at count : ℕ) → at ≤ length words → AreRead (take at words) starts → IsHead (drop at words) count → more ≡ starts ++ at ∷ [] → AreRead (take (at + count) words) more
one_more words starts more at count within read head pushed =
    let i = first_of (drop at words) in
    let small : i.op < 2 ^ 16 = small_op (get_or (drop at words) 0 0) in
    let n : length (flat_map instr_words read.code) ≡ at = sym (ap length read.words_are) ∙ taken at words within in
    let cut : take (at + count) words ≡ take at words ++ instr_words i = take_more at count words ∙ ap (λ l. take at words ++ l) (first_word (drop at words) count head) in
    record {
      code = read.code ++ i ∷ [];
      whole = all-append IsInTable read.code i read.whole head.fits;
      ops = ops-append read.code i read.ops small;
      words_are = cut ∙ ap (λ l. l ++ instr_words i) read.words_are ∙ sym (flat-append read.code i);
      starts_are = pushed ∙ ap (λ l. l ++ at ∷ []) read.starts_are ∙ ap (λ k. starts_from 0 read.code ++ k ∷ []) (sym (let z : 0 + length (flat_map instr_words read.code) ≡ at = omega (arith, n) in z)) ∙ sym (starts-append 0 read.code i);
    }
  where
    small_op : (w : ℕ) → w % 65536 < 2 ^ 16
    small_op w = omega arith

    taken : (k : ℕ) (l : List ℕ) → k ≤ length l → length (take k l) ≡ k
    taken zero l enough = refl
    taken (suc k) [] enough = absurd (omega arith)
    taken (suc k) (x ∷ l) enough = ap suc (taken k l (omega arith))

-- an instruction is wrong
pub stopped : (words starts : List ℕ) (at place : ℕ) (fault : WordFault) → at < length words → AreRead (take at words) starts → place ≡ at + 5 → Breaks (drop at words) place fault → Ends words fault
stopped words starts at place fault within read is breaks =
    let n : length (flat_map instr_words read.code) ≡ at = sym (ap length read.words_are) ∙ taken at words (omega arith) in
    let p : place ≡ 5 + length (flat_map instr_words read.code) = omega (arith, n) in
    inr
    (record {
      code = read.code;
      whole = read.whole;
      rest = drop at words;
      words_are = sym (take-append-drop at words) ∙ ap (λ l. l ++ drop at words) read.words_are;
      some = omega (arith, length-drop at words);
      breaks = subst (λ q. Breaks (drop at words) q fault) p breaks;
    })
  where
    taken : (k : ℕ) (l : List ℕ) → k ≤ length l → length (take k l) ≡ k
    taken zero l enough = refl
    taken (suc k) [] enough = absurd (omega arith)
    taken (suc k) (x ∷ l) enough = ap suc (taken k l (omega arith))

-- the words behind a header as instructions
pub record Flat (words starts : List ℕ) : Type 0 where
  pub code : List Instr
  pub view : parts words starts ≡ code
  pub whole : All IsInTable code
  pub words_are : words ≡ flat_map instr_words code
  pub flat : IsFlat words starts

short_all : (code : List Instr) → All IsInTable code → All (λ instr. word_count instr < 2 ^ 16) code
short_all [] all = All-nil (λ instr. word_count instr < 2 ^ 16)
short_all (i ∷ code) all = All-cons (λ instr. word_count instr < 2 ^ 16) i code ((All-head IsInTable i code all).short) (short_all code (All-tail IsInTable i code all))

pub flat_read : (words starts : List ℕ) → AreRead words starts → Flat words starts
flat_read words starts read =
    let same : words ≡ flat_map kept_words read.code = read.words_are ∙ sym (words_are read.code (short_all read.code read.whole)) in
    let view : parts words starts ≡ read.code = ap (λ w. parts w starts) same ∙ ap (parts (flat_map kept_words read.code)) read.starts_are ∙ parts_of [] 0 read.code refl read.ops in
    record {
      code = read.code;
      view = view;
      whole = read.whole;
      words_are = read.words_are;
      flat = record {
        ops = subst (λ code. AllByRecursion (λ instr. instr.op < 2 ^ 16) code) (sym view) read.ops;
        words_are = same ∙ ap (flat_map kept_words) (sym view);
        starts_are = read.starts_are ∙ ap (starts_from 0) (sym view);
      };
    }

pub more_within : (words : List ℕ) (at count : ℕ) → at ≤ length words → IsHead (drop at words) count → at + count ≤ length words
more_within words at count within head = omega (arith, head.within, length-drop at words)
