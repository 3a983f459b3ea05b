-- Bytes are the file of one module, or have one fault.
use Rattle.std.proofs.Common.{◌≡◌, ◌≢◌, ℕ, zero, suc, ◌+◌, ◌%◌, ◌^◌, ◌<◌, ◌≤◌, true, false, Bool, List, [], ◌∷◌, ◌++◌, length, get_or, take, drop, Option, Some, None, Result, Ok, Err, refl, ap, sym, subst, ◌∙◌, arith, append_assoc, length-append, inl, inr, ◌⊎◌}
use Rattle.std.proofs.lemmas.Bool.{true≢false, cases_lt}
use Rattle.std.proofs.lemmas.List.Elements.{All-head, All-tail}
use Rattle.std.specs.Prelude.{All}
use Rattle.std.specs.List.{flat_map, AllByRecursion}
use Rattle.gsl_base.specs.Ranges.{AreWords, AreBytes}
use Rattle.gsl_instr.specs.declared.form.Form.{Form}
use Rattle.gsl_instr.specs.Forms.{form_of}
use Rattle.gsl_instr.specs.Fitting.{fits_text}
use Rattle.gsl_words.specs.declared.module.Instr.{Instr}
use Rattle.gsl_words.specs.declared.module.Module.{Module}
use Rattle.gsl_words.specs.declared.fault.WordFault.{WordFault}
use Rattle.gsl_words.specs.declared.fault.WordFault.TheVariants.{NotWhole, BigEndian, BadMagic, BadHeader, UnknownOpcode, BadCount, BadString, Memory}
use Rattle.gsl_words.specs.declared.target.TheConstants.{VERSION_1_0, VERSION_1_3}
use Rattle.gsl_words.specs.declared.target.Target.TheVariants.{V10, V13}
use Rattle.gsl_words.specs.Instructions.{IsInTable, HasFile}
use Rattle.gsl_words.specs.declared.target.Target.{Target}
use Rattle.gsl_words.specs.Versions.{IsKnown, version_of}
use Rattle.gsl_words.specs.Bytes.{instr_words, bytes_of}
use Rattle.gsl_words.specs.Faults.{words_of, word_of, AreWhole, HasHeader, magic, magic_turned, op_of, count_of, args_of, counted, Breaks, StopsAt, HasFault, Ends, AreRead, FitsTypes, Judges}
use Rattle.gsl_words.proofs.Decoded.{strip, small_op, never_breaks, no_fault, of_file, header_is, behind_header, IsRead, read_is, read_only, module_of, words_small, words_behind}
use Rattle.gsl_words.proofs.Found.{head_is, text_breaks, none_read, one_more, stopped, more_within}

-- ---- at most one

same_form : {f g : Form} {found : Option Form} → found ≡ Some f → found ≡ Some g → f ≡ g
same_form a b = let e = sym a ∙ b in cc

-- what is wrong at one place is one thing
breaks_one : (words : List ℕ) (place : ℕ) (f g : WordFault) → f ≢ Memory → g ≢ Memory → Breaks words place f → Breaks words place g → f ≡ g
breaks_one words place (UnknownOpcode x) (UnknownOpcode y) nf ng b c = ap UnknownOpcode (b.0 ∙ sym c.0)
breaks_one words place (UnknownOpcode x) (BadCount y) nf ng b c = absurd (let e : None ≡ Some c.1 = sym b.1 ∙ c.2 in cc)
breaks_one words place (UnknownOpcode x) (BadString y) nf ng b c = absurd (let e : None ≡ Some c.1 = sym b.1 ∙ c.2 in cc)
breaks_one words place (BadCount x) (UnknownOpcode y) nf ng b c = absurd (let e : None ≡ Some b.1 = sym c.1 ∙ b.2 in cc)
breaks_one words place (BadCount x) (BadCount y) nf ng b c = ap BadCount (b.0 ∙ sym c.0)
breaks_one words place (BadCount x) (BadString y) nf ng b c =
    absurd (true≢false (sym c.3 ∙ ap (λ (form : Form). counted form words) (same_form c.2 b.2) ∙ b.3))
breaks_one words place (BadString x) (UnknownOpcode y) nf ng b c = absurd (let e : None ≡ Some b.1 = sym c.1 ∙ b.2 in cc)
breaks_one words place (BadString x) (BadCount y) nf ng b c =
    absurd (true≢false (sym b.3 ∙ ap (λ (form : Form). counted form words) (same_form b.2 c.2) ∙ c.3))
breaks_one words place (BadString x) (BadString y) nf ng b c = ap BadString (b.0 ∙ sym c.0)
breaks_one words place NotWhole g nf ng b c = absurd b
breaks_one words place BigEndian g nf ng b c = absurd b
breaks_one words place BadMagic g nf ng b c = absurd b
breaks_one words place BadHeader g nf ng b c = absurd b
breaks_one words place Memory g nf ng b c = absurd (nf refl)
breaks_one words place (UnknownOpcode x) NotWhole nf ng b c = absurd c
breaks_one words place (UnknownOpcode x) BigEndian nf ng b c = absurd c
breaks_one words place (UnknownOpcode x) BadMagic nf ng b c = absurd c
breaks_one words place (UnknownOpcode x) BadHeader nf ng b c = absurd c
breaks_one words place (UnknownOpcode x) Memory nf ng b c = absurd (ng refl)
breaks_one words place (BadCount x) NotWhole nf ng b c = absurd c
breaks_one words place (BadCount x) BigEndian nf ng b c = absurd c
breaks_one words place (BadCount x) BadMagic nf ng b c = absurd c
breaks_one words place (BadCount x) BadHeader nf ng b c = absurd c
breaks_one words place (BadCount x) Memory nf ng b c = absurd (ng refl)
breaks_one words place (BadString x) NotWhole nf ng b c = absurd c
breaks_one words place (BadString x) BigEndian nf ng b c = absurd c
breaks_one words place (BadString x) BadMagic nf ng b c = absurd c
breaks_one words place (BadString x) BadHeader nf ng b c = absurd c
breaks_one words place (BadString x) Memory nf ng b c = absurd (ng refl)

-- where two runs of good instructions end at a bad one, they are the same
stops_from : (f g : WordFault) (nf : f ≢ Memory) (ng : g ≢ Memory) (n : ℕ) (a b : List Instr) (x y : List ℕ) → All IsInTable a → All IsInTable b →
    flat_map instr_words a ++ x ≡ flat_map instr_words b ++ y → Breaks x (n + length (flat_map instr_words a)) f → Breaks y (n + length (flat_map instr_words b)) g → f ≡ g
stops_from f g nf ng n [] [] x y aa ab e p q = breaks_one x (n + 0) f g nf ng p (subst (λ words. Breaks words (n + 0) g) (sym e) q)
stops_from f g nf ng n [] (j ∷ b) x y aa ab e p q =
    absurd (nf (never_breaks j (flat_map instr_words b ++ y) (n + 0) f (All-head IsInTable j b ab)
    (subst (λ words. Breaks words (n + 0) f) (e ∙ append_assoc (instr_words j) (flat_map instr_words b) y) p)))
stops_from f g nf ng n (i ∷ a) [] x y aa ab e p q =
    absurd (ng (never_breaks i (flat_map instr_words a ++ x) (n + 0) g (All-head IsInTable i a aa)
    (subst (λ words. Breaks words (n + 0) g) (sym e ∙ append_assoc (instr_words i) (flat_map instr_words a) x) q)))
stops_from f g nf ng n (i ∷ a) (j ∷ b) x y aa ab e p q =
    let s = strip i j (flat_map instr_words a ++ x) (flat_map instr_words b ++ y) (small_op i (All-head IsInTable i a aa)) (small_op j (All-head IsInTable j b ab))
    (sym (append_assoc (instr_words i) (flat_map instr_words a) x) ∙ e ∙ append_assoc (instr_words j) (flat_map instr_words b) y) in
    let long : (k : Instr) (c : List Instr) → n + length (flat_map instr_words (k ∷ c)) ≡ n + length (instr_words k) + length (flat_map instr_words c) =
    λ k c. omega (arith, length-append (instr_words k) (flat_map instr_words c)) in
    stops_from f g nf ng (n + length (instr_words i)) a b x y (All-tail IsInTable i a aa) (All-tail IsInTable j b ab) s.1
    (subst (λ k. Breaks x k f) (long i a) p)
    (subst (λ k. Breaks y k g) (long j b ∙ ap (λ (k : Instr). n + length (instr_words k) + length (flat_map instr_words b)) (sym s.0)) q)

one_stop : (words : List ℕ) (f g : WordFault) → f ≢ Memory → g ≢ Memory → StopsAt words f → StopsAt words g → f ≡ g
one_stop words f g nf ng s t =
    stops_from f g nf ng 5 s.code t.code s.rest t.rest s.whole t.whole (sym s.words_are ∙ t.words_are) s.breaks t.breaks

-- How far bytes are in order before a fault, and what it is that is not.
abbrev rank : WordFault → ℕ
rank NotWhole = 0
rank BigEndian = 1
rank BadMagic = 2
rank BadHeader = 3
rank (UnknownOpcode at) = 4
rank (BadCount at) = 4
rank (BadString at) = 4
rank Memory = 4

abbrev Level : List ℕ → ℕ → Type 0
Level bytes zero = AreWhole bytes
Level bytes (suc zero) = word_of bytes 0 ≢ magic_turned
Level bytes (suc (suc zero)) = word_of bytes 0 ≡ magic
Level bytes (suc (suc (suc zero))) = HasHeader bytes
Level bytes (suc (suc (suc (suc k)))) = Unit {0}

not_turned : (w : ℕ) → w ≡ magic → w ≢ magic_turned
not_turned w e = λ t. absurd (omega (arith, e, t))

record Behind (bytes : List ℕ) : Type 0 where
  whole : AreWhole bytes
  first : word_of bytes 0 ≡ magic
  header : HasHeader bytes

all_levels : (bytes : List ℕ) → Behind bytes → (k : ℕ) → Level bytes k
all_levels bytes b zero = b.whole
all_levels bytes b (suc zero) = not_turned _ b.first
all_levels bytes b (suc (suc zero)) = b.first
all_levels bytes b (suc (suc (suc zero))) = b.header
all_levels bytes b (suc (suc (suc (suc k)))) = tt

before : (bytes : List ℕ) (f : WordFault) → f ≢ Memory → HasFault bytes f → (k : ℕ) → k < rank f → Level bytes k
before bytes NotWhole nf h k low = absurd (omega arith)
before bytes BigEndian nf h zero low = h.0
before bytes BigEndian nf h (suc k) low = absurd (omega arith)
before bytes BadMagic nf h zero low = h.0
before bytes BadMagic nf h (suc zero) low = h.1
before bytes BadMagic nf h (suc (suc k)) low = absurd (omega arith)
before bytes BadHeader nf h zero low = h.0
before bytes BadHeader nf h (suc zero) low = not_turned _ h.1
before bytes BadHeader nf h (suc (suc zero)) low = h.1
before bytes BadHeader nf h (suc (suc (suc k))) low = absurd (omega arith)
before bytes (UnknownOpcode at) nf h k low = all_levels bytes (record { whole = h.0; first = h.1; header = h.2 }) k
before bytes (BadCount at) nf h k low = all_levels bytes (record { whole = h.0; first = h.1; header = h.2 }) k
before bytes (BadString at) nf h k low = all_levels bytes (record { whole = h.0; first = h.1; header = h.2 }) k
before bytes Memory nf h k low = absurd (nf refl)

fails : (bytes : List ℕ) (f : WordFault) → f ≢ Memory → HasFault bytes f → rank f < 4 → Level bytes (rank f) → ⊥
fails bytes NotWhole nf h low level = h level
fails bytes BigEndian nf h low level = level h.1
fails bytes BadMagic nf h low level = h.2 level
fails bytes BadHeader nf h low level = h.2 level
fails bytes (UnknownOpcode at) nf h low level = omega arith
fails bytes (BadCount at) nf h low level = omega arith
fails bytes (BadString at) nf h low level = omega arith
fails bytes Memory nf h low level = nf refl

rank_high : (f : WordFault) → rank f ≤ 4
rank_high NotWhole = omega arith
rank_high BigEndian = omega arith
rank_high BadMagic = omega arith
rank_high BadHeader = omega arith
rank_high (UnknownOpcode at) = omega arith
rank_high (BadCount at) = omega arith
rank_high (BadString at) = omega arith
rank_high Memory = omega arith

same_rank : (bytes : List ℕ) (f g : WordFault) → f ≢ Memory → g ≢ Memory → HasFault bytes f → HasFault bytes g → rank f ≡ rank g
same_rank bytes f g nf ng hf hg =
    elim (cases_lt (rank f) (rank g)) [
      | inl less ↦ absurd (fails bytes f nf hf (omega (arith, rank_high g)) (before bytes g ng hg (rank f) less))
      | inr more ↦ elim (cases_lt (rank g) (rank f)) [
        | inl less ↦ absurd (fails bytes g ng hg (omega (arith, rank_high f)) (before bytes f nf hf (rank g) less))
        | inr less ↦ omega arith
      ]
    ]

abbrev Stops : List ℕ → WordFault → Type 0
Stops bytes f = StopsAt (drop 5 (words_of bytes)) f

stops_in : (bytes : List ℕ) (f : WordFault) → f ≢ Memory → HasFault bytes f → rank f ≡ 4 → Stops bytes f
stops_in bytes NotWhole nf h r = absurd (omega arith)
stops_in bytes BigEndian nf h r = absurd (omega arith)
stops_in bytes BadMagic nf h r = absurd (omega arith)
stops_in bytes BadHeader nf h r = absurd (omega arith)
stops_in bytes (UnknownOpcode at) nf h r = h.3
stops_in bytes (BadCount at) nf h r = h.3
stops_in bytes (BadString at) nf h r = h.3
stops_in bytes Memory nf h r = absurd (nf refl)

one_low : (f g : WordFault) → rank f ≡ rank g → rank f < 4 → f ≡ g
one_low NotWhole NotWhole e low = refl
one_low NotWhole BigEndian e low = absurd (omega arith)
one_low NotWhole BadMagic e low = absurd (omega arith)
one_low NotWhole BadHeader e low = absurd (omega arith)
one_low NotWhole (UnknownOpcode x) e low = absurd (omega arith)
one_low NotWhole (BadCount x) e low = absurd (omega arith)
one_low NotWhole (BadString x) e low = absurd (omega arith)
one_low NotWhole Memory e low = absurd (omega arith)
one_low BigEndian NotWhole e low = absurd (omega arith)
one_low BigEndian BigEndian e low = refl
one_low BigEndian BadMagic e low = absurd (omega arith)
one_low BigEndian BadHeader e low = absurd (omega arith)
one_low BigEndian (UnknownOpcode x) e low = absurd (omega arith)
one_low BigEndian (BadCount x) e low = absurd (omega arith)
one_low BigEndian (BadString x) e low = absurd (omega arith)
one_low BigEndian Memory e low = absurd (omega arith)
one_low BadMagic NotWhole e low = absurd (omega arith)
one_low BadMagic BigEndian e low = absurd (omega arith)
one_low BadMagic BadMagic e low = refl
one_low BadMagic BadHeader e low = absurd (omega arith)
one_low BadMagic (UnknownOpcode x) e low = absurd (omega arith)
one_low BadMagic (BadCount x) e low = absurd (omega arith)
one_low BadMagic (BadString x) e low = absurd (omega arith)
one_low BadMagic Memory e low = absurd (omega arith)
one_low BadHeader NotWhole e low = absurd (omega arith)
one_low BadHeader BigEndian e low = absurd (omega arith)
one_low BadHeader BadMagic e low = absurd (omega arith)
one_low BadHeader BadHeader e low = refl
one_low BadHeader (UnknownOpcode x) e low = absurd (omega arith)
one_low BadHeader (BadCount x) e low = absurd (omega arith)
one_low BadHeader (BadString x) e low = absurd (omega arith)
one_low BadHeader Memory e low = absurd (omega arith)
one_low (UnknownOpcode x) g e low = absurd (omega arith)
one_low (BadCount x) g e low = absurd (omega arith)
one_low (BadString x) g e low = absurd (omega arith)
one_low Memory g e low = absurd (omega arith)

one_fault : (bytes : List ℕ) (f g : WordFault) → f ≢ Memory → g ≢ Memory → HasFault bytes f → HasFault bytes g → f ≡ g
one_fault bytes f g nf ng hf hg =
    let same = same_rank bytes f g nf ng hf hg in
    elim (cases_lt (rank f) 4) [
      | inl low ↦ one_low f g same low
      | inr high ↦
          let rf : rank f ≡ 4 = omega (arith, rank_high f) in
          one_stop (drop 5 (words_of bytes)) f g nf ng (stops_in bytes f nf hf rf) (stops_in bytes g ng hg (sym same ∙ rf))
    ]

ops_of : (code : List Instr) → All IsInTable code → AllByRecursion (λ instr. instr.op < 2 ^ 16) code
ops_of [] all = tt
ops_of (i ∷ code) all = (small_op i (All-head IsInTable i code all), ops_of code (All-tail IsInTable i code all))

is_read : (bytes : List ℕ) (m : Module) → HasFile m → FitsTypes m → bytes ≡ bytes_of m → IsRead bytes m.version m.bound m.instrs
is_read bytes m file fits is =
    let f = of_file bytes m file fits is in
    record {
      whole = f.whole;
      first = ap (λ l. get_or l 0 0) f.words;
      header = header_is bytes m file f.words;
      version_is = sym (ap (λ l. get_or l 1 0) f.words);
      bound_is = sym (ap (λ l. get_or l 3 0) f.words);
      all = file.instrs;
      words_are = ap (drop 5) f.words;
      ops = ops_of m.instrs file.instrs;
    }

pub one : (bytes : List ℕ) (v w : Result Module WordFault) → Judges bytes v → Judges bytes w → v ≡ w
one bytes (Ok m) (Ok n) jm jn = ap Ok (read_only bytes m.version m.bound m.instrs (is_read bytes m jm.0 jm.1 jm.2) n jn.0 jn.1 jn.2)
one bytes (Ok m) (Err g) jm jg = absurd (jg.0 (no_fault bytes m g jm.0 jm.1 jm.2 jg.1))
one bytes (Err f) (Ok n) jf jn = absurd (jf.0 (no_fault bytes n f jn.0 jn.1 jn.2 jf.1))
one bytes (Err f) (Err g) jf jg = ap Err (one_fault bytes f g jf.0 jg.0 jf.1 jg.1)

-- ---- at least one

-- the words are read to their end, or up to what is wrong
abbrev Walked : List ℕ → Type 0
Walked words = ((starts : List ℕ) × AreRead words starts) ⊎ ((fault : WordFault) × (fault ≢ Memory) × StopsAt words fault)

stop : (words : List ℕ) (fault : WordFault) → fault ≢ Memory → Ends words fault → Walked words
stop words fault never (inl e) = absurd (never e)
stop words fault never (inr s) = inr (fault, never, s)

take_all : (k : ℕ) (l : List ℕ) → length l ≤ k → take k l ≡ l
take_all zero [] e = refl
take_all zero (x ∷ l) e = absurd (omega arith)
take_all (suc k) [] e = refl
take_all (suc k) (x ∷ l) e = ap (λ r. x ∷ r) (take_all k l (omega arith))

module _ (words starts : List ℕ) (at : ℕ) (fit : AreWords words) (within : at ≤ length words) (read : AreRead (take at words) starts) where
  abbrev rest : List ℕ
  rest = drop at words

  abbrev place : ℕ
  place = at + 5

  -- what is read behind a good instruction is walked already
  abbrev Later : Type 0
  Later = (count : ℕ) → 1 ≤ count → at + count ≤ length words → AreRead (take (at + count) words) (starts ++ at ∷ []) → Walked words

  texted : Later → (form : Form) (good : Bool) → fits_text form (args_of rest) ≡ good → form_of (op_of rest) ≡ Some form → counted form rest ≡ true → at < length words → Walked words
  texted later form true t found count some =
      let head = head_is form rest (words_behind at words fit) found count t in
      later (count_of rest) head.some (more_within words at (count_of rest) within head)
      (one_more words starts (starts ++ at ∷ []) at (count_of rest) within read head refl)
  texted later form false t found count some =
      stop words (BadString place) (λ e. cc) (stopped words starts at place (BadString place) some read refl (refl, form, found, count, text_breaks form rest found t))

  counts : Later → (form : Form) (good : Bool) → counted form rest ≡ good → form_of (op_of rest) ≡ Some form → at < length words → Walked words
  counts later form true count found some = texted later form (fits_text form (args_of rest)) refl found count some
  counts later form false count found some = stop words (BadCount place) (λ e. cc) (stopped words starts at place (BadCount place) some read refl (refl, form, found, count))

  found_at : Later → (found : Option Form) → form_of (op_of rest) ≡ found → at < length words → Walked words
  found_at later None e some = stop words (UnknownOpcode place) (λ e. cc) (stopped words starts at place (UnknownOpcode place) some read refl (refl, e))
  found_at later (Some form) e some = counts later form (counted form rest) refl e some

walk : (fuel : ℕ) (words starts : List ℕ) (at : ℕ) → AreWords words → at ≤ length words → length words ≤ at + fuel → AreRead (take at words) starts → Walked words
walk zero words starts at fit within all read = inl (starts, subst (λ l. AreRead l starts) (take_all at words (omega arith)) read)
walk (suc fuel) words starts at fit within all read =
    elim (cases_lt at (length words)) [
      | inr done ↦ inl (starts, subst (λ l. AreRead l starts) (take_all at words done) read)
      | inl some ↦ found_at words starts at fit within read
          (λ count least inside more. walk fuel words (starts ++ at ∷ []) (at + count) fit inside (omega arith) more)
          (form_of (op_of (drop at words))) refl some
    ]

-- the tests of a header
abbrev Decided : Type 0 → Type 0
Decided P = P ⊎ (P → ⊥)

both : (P Q : Type 0) → Decided P → Decided Q → Decided (P × Q)
both P Q (inl p) (inl q) = inl (p, q)
both P Q (inl p) (inr never) = inr (λ h. never h.1)
both P Q (inr never) d = inr (λ h. never h.0)

nat_same : (m n : ℕ) → Decided (m ≡ n)
nat_same m n =
    elim (cases_lt m n) [
      | inl less ↦ inr (λ e. omega (arith, e, less))
      | inr more ↦ elim (cases_lt n m) [
        | inl less ↦ inr (λ e. omega (arith, e, less))
        | inr less ↦ inl (omega arith)
      ]
    ]

nat_long : (m n : ℕ) → Decided (m ≤ n)
nat_long m n =
    elim (cases_lt n m) [
      | inl less ↦ inr (λ e. omega (arith, e, less))
      | inr more ↦ inl more
    ]

whole : (bytes : List ℕ) → Decided (AreWhole bytes)
whole bytes =
    elim (both _ _ (nat_long 20 (length bytes)) (nat_same (length bytes % 4) 0)) [
      | inl (enough, words) ↦ inl (record { enough = enough; words = words })
      | inr other ↦ inr (λ w. other (w.enough, w.words))
    ]

known : (v : ℕ) → Decided (IsKnown v)
known v =
    elim (nat_same v VERSION_1_0) [
      | inl e ↦ inl (V10, e)
      | inr other ↦ elim (nat_same v VERSION_1_3) [
        | inl e ↦ inl (V13, e)
        | inr never ↦ inr (λ k. neither k.0 k.1 other never)
      ]
    ]
  where
    neither : (t : Target) → v ≡ version_of t → v ≢ VERSION_1_0 → v ≢ VERSION_1_3 → ⊥
    neither V10 e old new = old e
    neither V13 e old new = new e

header : (bytes : List ℕ) → Decided (HasHeader bytes)
header bytes =
    elim (both _ _ (known (word_of bytes 1)) (both _ _ (nat_same (word_of bytes 2) 0) (nat_same (word_of bytes 4) 0))) [
      | inl (v, (g, l)) ↦ inl (record { version = v; generator = g; last = l })
      | inr other ↦ inr (λ h. other (h.version, (h.generator, h.last)))
    ]

abbrev Verdict : List ℕ → Type 0
Verdict bytes = (verdict : Result Module WordFault) × Judges bytes verdict

read_verdict : (bytes starts : List ℕ) → AreBytes bytes → AreWhole bytes → word_of bytes 0 ≡ magic → HasHeader bytes → AreRead (drop 5 (words_of bytes)) starts → Verdict bytes
read_verdict bytes starts fit w first h read =
    let m = module_of (word_of bytes 1) (word_of bytes 3) read.code in (
      Ok m,
      read_is bytes (word_of bytes 1) (word_of bytes 3) read.code fit (record {
        whole = w;
        first = first;
        header = h;
        version_is = refl;
        bound_is = refl;
        all = read.whole;
        words_are = read.words_are;
        ops = read.ops;
      }),
    )

behind : (bytes : List ℕ) → AreBytes bytes → AreWhole bytes → word_of bytes 0 ≡ magic → HasHeader bytes → Walked (drop 5 (words_of bytes)) → Verdict bytes
behind bytes fit w first h (inl (starts, read)) = read_verdict bytes starts fit w first h read
behind bytes fit w first h (inr (fault, never, s)) = (Err fault, (never, behind_header bytes fault w first h (inr s)))

pub some : (bytes : List ℕ) → AreBytes bytes → (verdict : Result Module WordFault) × Judges bytes verdict
some bytes fit =
    elim (whole bytes) [
      | inr other ↦ (Err NotWhole, (λ e. cc, other))
      | inl w ↦ elim (nat_same (word_of bytes 0) magic) [
        | inr other ↦ elim (nat_same (word_of bytes 0) magic_turned) [
          | inl turned ↦ (Err BigEndian, (λ e. cc, (w, turned)))
          | inr never ↦ (Err BadMagic, (λ e. cc, (w, never, other)))
        ]
        | inl first ↦ elim (header bytes) [
          | inr other ↦ (Err BadHeader, (λ e. cc, (w, first, other)))
          | inl h ↦ behind bytes fit w first h (walk (length (drop 5 (words_of bytes))) (drop 5 (words_of bytes)) [] 0
              (words_behind 5 (words_of bytes) (words_small bytes fit)) (omega arith) (omega arith) none_read)
        ]
      ]
    ]
