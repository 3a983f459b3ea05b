-- A file is read as the module whose file it is, and as nothing else.
use Rattle.std.proofs.Common.{◌≡◌, ℕ, zero, suc, ◌+◌, ◌*◌, ◌%◌, ◌-◌, ◌^◌, ◌<◌, ◌≤◌, true, List, [], ◌∷◌, ◌++◌, length, get_or, take, drop, Some, None, refl, ap, sym, subst, ◌∙◌, arith, append_assoc, length-append, length-drop, inl, inr, lit<}
use Rattle.std.proofs.lemmas.Bool.{true≢false, and_from, le-leb}
use Rattle.std.proofs.lemmas.List.{take_at, take_rest}
use Rattle.std.proofs.lemmas.List.Elements.{All-head, All-tail}
use Rattle.std.proofs.lemmas.Nat.{le_bytes_4, from_le_bytes-to_le_bytes_4}
use Rattle.std.specs.Prelude.{All}
use Rattle.std.specs.List.{flat_map, AllByRecursion}
use Rattle.std.specs.Int.{w32, from_le_bytes, to_le_bytes}
use Rattle.gsl_base.specs.Ranges.{AreWords, AreBytes}
use Rattle.gsl_instr.specs.declared.form.Form.{Form}
use Rattle.gsl_instr.specs.Forms.{form_of, allows_words}
use Rattle.gsl_instr.specs.Fitting.{Fits}
use Rattle.gsl_instr.proofs.Fittings.{passes}
use Rattle.gsl_instr.proofs.Opcodes.{op_small}
use Rattle.gsl_words.specs.declared.module.Instr.{Instr}
use Rattle.gsl_words.specs.declared.module.Module.{Module}
use Rattle.gsl_words.specs.declared.fault.WordFault.{WordFault}
use Rattle.gsl_words.specs.declared.fault.WordFault.TheVariants.{NotWhole, BigEndian, BadMagic, BadHeader, UnknownOpcode, BadCount, BadString, Memory}
use Rattle.gsl_words.specs.Instructions.{IsInTable, HasFile, word_count}
use Rattle.gsl_words.specs.declared.target.Target.{Target}
use Rattle.gsl_words.specs.declared.target.Target.TheVariants.{V10, V13}
use Rattle.gsl_words.specs.Versions.{IsKnown, version_of}
use Rattle.gsl_words.specs.Bytes.{instr_words, module_words, bytes_of}
use Rattle.gsl_words.specs.Faults.{words_of, word_of, AreWhole, HasHeader, magic, magic_turned, op_of, count_of, args_of, is_counted, counted, Breaks, StopsAt, HasFault, Ends, FitsInstr, FitsTypes}

-- Bytes and words ------------------------------------------------------------------------------------------------

pub words_drop : (bytes : List ℕ) → 20 ≤ length bytes → words_of (drop 20 bytes) ≡ drop 5 (words_of bytes)
words_drop [] h = absurd (omega arith)
words_drop (a ∷ []) h = absurd (omega arith)
words_drop (a ∷ b ∷ []) h = absurd (omega arith)
words_drop (a ∷ b ∷ c ∷ []) h = absurd (omega arith)
words_drop (a ∷ b ∷ c ∷ d ∷ bytes) h = four bytes (omega arith)
  where
    one : (bytes : List ℕ) → 4 ≤ length bytes → words_of (drop 4 bytes) ≡ drop 1 (words_of bytes)
    one [] h = absurd (omega arith)
    one (a ∷ []) h = absurd (omega arith)
    one (a ∷ b ∷ []) h = absurd (omega arith)
    one (a ∷ b ∷ c ∷ []) h = absurd (omega arith)
    one (a ∷ b ∷ c ∷ d ∷ bytes) h = refl

    two : (bytes : List ℕ) → 8 ≤ length bytes → words_of (drop 8 bytes) ≡ drop 2 (words_of bytes)
    two [] h = absurd (omega arith)
    two (a ∷ []) h = absurd (omega arith)
    two (a ∷ b ∷ []) h = absurd (omega arith)
    two (a ∷ b ∷ c ∷ []) h = absurd (omega arith)
    two (a ∷ b ∷ c ∷ d ∷ bytes) h = one bytes (omega arith)

    three : (bytes : List ℕ) → 12 ≤ length bytes → words_of (drop 12 bytes) ≡ drop 3 (words_of bytes)
    three [] h = absurd (omega arith)
    three (a ∷ []) h = absurd (omega arith)
    three (a ∷ b ∷ []) h = absurd (omega arith)
    three (a ∷ b ∷ c ∷ []) h = absurd (omega arith)
    three (a ∷ b ∷ c ∷ d ∷ bytes) h = two bytes (omega arith)

    four : (bytes : List ℕ) → 16 ≤ length bytes → words_of (drop 16 bytes) ≡ drop 4 (words_of bytes)
    four [] h = absurd (omega arith)
    four (a ∷ []) h = absurd (omega arith)
    four (a ∷ b ∷ []) h = absurd (omega arith)
    four (a ∷ b ∷ c ∷ []) h = absurd (omega arith)
    four (a ∷ b ∷ c ∷ d ∷ bytes) h = three bytes (omega arith)

pub words_few : (bytes : List ℕ) → 4 * length (words_of bytes) ≤ length bytes
words_few [] = omega arith
words_few (a ∷ []) = omega arith
words_few (a ∷ b ∷ []) = omega arith
words_few (a ∷ b ∷ c ∷ []) = omega arith
words_few (a ∷ b ∷ c ∷ d ∷ bytes) = omega (arith, words_few bytes)

-- four more bytes are one word more
less_four : (n : ℕ) → suc (suc (suc (suc n))) % 4 ≡ 0 → n % 4 ≡ 0
less_four n h = omega arith

bytes_again : (bytes : List ℕ) → AreBytes bytes → length bytes % 4 ≡ 0 → flat_map (to_le_bytes w32) (words_of bytes) ≡ bytes
bytes_again [] fit whole = refl
bytes_again (a ∷ []) fit whole = absurd (omega arith)
bytes_again (a ∷ b ∷ []) fit whole = absurd (omega arith)
bytes_again (a ∷ b ∷ c ∷ []) fit whole = absurd (omega arith)
bytes_again (a ∷ b ∷ c ∷ d ∷ bytes) fit whole =
    let four : List ℕ = a ∷ b ∷ c ∷ d ∷ [] in
    let e : to_le_bytes w32 (from_le_bytes w32 four) ≡ four = le_bytes_4 four _ refl (small a b c d fit.0 fit.1.0 fit.1.1.0 fit.1.1.1.0) refl in
    ap (λ l. l ++ flat_map (to_le_bytes w32) (words_of bytes)) e
    ∙ ap (λ l. a ∷ b ∷ c ∷ d ∷ l) (bytes_again bytes fit.1.1.1.1 (less_four (length bytes) whole))
  where
    small : (a b c d : ℕ) → a < 256 → b < 256 → c < 256 → d < 256 → (i : ℕ) → get_or (a ∷ b ∷ c ∷ d ∷ []) i 0 < 256
    small a b c d ha hb hc hd zero = ha
    small a b c d ha hb hc hd (suc zero) = hb
    small a b c d ha hb hc hd (suc (suc zero)) = hc
    small a b c d ha hb hc hd (suc (suc (suc zero))) = hd
    small a b c d ha hb hc hd (suc (suc (suc (suc i)))) = omega arith

words_again : (words : List ℕ) → AreWords words → words_of (flat_map (to_le_bytes w32) words) ≡ words
words_again [] fit = refl
words_again (w ∷ words) fit = ap (λ n. n ∷ words_of (flat_map (to_le_bytes w32) words)) (from_le_bytes-to_le_bytes_4 w fit.0) ∙ ap (λ l. w ∷ l) (words_again words fit.1)

-- Instructions one after the other ----------------------------------------------------------------------------------

-- instructions whose numbers fit
abbrev pub Ops : List Instr → Type 0
Ops code = AllByRecursion (λ instr. instr.op < 2 ^ 16) code

same_halves : (m n a b : ℕ) → a < 65536 → b < 65536 → m * 65536 + a ≡ n * 65536 + b → (m ≡ n) × (a ≡ b)
same_halves m n a b ha hb e = (omega arith, omega arith)

-- lists of one length in front
same_front : (xs ys us vs : List ℕ) → length xs ≡ length ys → xs ++ us ≡ ys ++ vs → (xs ≡ ys) × (us ≡ vs)
same_front [] [] us vs n e = (refl, e)
same_front [] (y ∷ ys) us vs n e = absurd (omega arith)
same_front (x ∷ xs) [] us vs n e = absurd (omega arith)
same_front (x ∷ xs) (y ∷ ys) us vs n e =
    let h : x ≡ y = ap (λ l. get_or l 0 0) e in
    let rest = same_front xs ys us vs (omega arith) (ap (drop 1) e) in
    (ap (λ z. z ∷ xs) h ∙ ap (λ l. y ∷ l) rest.0, rest.1)

-- what two instructions and what follows have in common
pub strip : (i j : Instr) (x y : List ℕ) → i.op < 2 ^ 16 → j.op < 2 ^ 16 → instr_words i ++ x ≡ instr_words j ++ y → (i ≡ j) × (x ≡ y)
strip i j x y hi hj e =
    let first : word_count i * 65536 + i.op ≡ word_count j * 65536 + j.op = ap (λ l. get_or l 0 0) e in
    let h = same_halves (word_count i) (word_count j) i.op j.op hi hj first in
    let rest = same_front i.args j.args x y (omega (arith, h.0)) (ap (drop 1) e) in
    (ap (λ op. record { op = op; args = i.args }) h.1 ∙ ap (λ args. record { op = j.op; args = args }) rest.0, rest.1)

pub none_words : (i : Instr) (x : List ℕ) → [] ≡ instr_words i ++ x → ⊥
none_words i x e = let n : 0 ≡ suc (length i.args + length x) = ap length e ∙ ap suc (length-append i.args x) in omega (arith, n)

pub same_code : (a b : List Instr) → Ops a → Ops b → flat_map instr_words a ≡ flat_map instr_words b → a ≡ b
same_code [] [] oa ob e = refl
same_code [] (j ∷ b) oa ob e = absurd (none_words j (flat_map instr_words b) e)
same_code (i ∷ a) [] oa ob e = absurd (none_words i (flat_map instr_words a) (sym e))
same_code (i ∷ a) (j ∷ b) oa ob e =
    let s = strip i j (flat_map instr_words a) (flat_map instr_words b) oa.0 ob.0 e in
    ap (λ k. k ∷ a) s.0 ∙ ap (λ l. j ∷ l) (same_code a b oa.1 ob.1 s.1)

-- opcodes of the table are small
pub small_op : (i : Instr) → IsInTable i → i.op < 2 ^ 16
small_op i fits = op_small i.op fits.form fits.found

-- What begins as the words of some instructions of the table, and as others, has the next of those behind.
record Next (whole : List Instr) (rest : List ℕ) : Type 0 where
  next : Instr
  inside : IsInTable next
  more : List ℕ
  are : rest ≡ instr_words next ++ more

next_of : (code whole : List Instr) (rest : List ℕ) → All IsInTable code → All IsInTable whole → 0 < length rest → flat_map instr_words code ++ rest ≡ flat_map instr_words whole → Next whole rest
next_of [] [] rest ac aw some e = absurd (omega (arith, ap length e))
next_of [] (j ∷ whole) rest ac aw some e = record { next = j; inside = All-head IsInTable j whole aw; more = flat_map instr_words whole; are = e }
next_of (i ∷ code) [] rest ac aw some e = absurd (none_words i (flat_map instr_words code ++ rest) (sym e ∙ append_assoc (instr_words i) (flat_map instr_words code) rest))
next_of (i ∷ code) (j ∷ whole) rest ac aw some e =
    let s = strip i j (flat_map instr_words code ++ rest) (flat_map instr_words whole) (small_op i (All-head IsInTable i code ac)) (small_op j (All-head IsInTable j whole aw))
    (sym (append_assoc (instr_words i) (flat_map instr_words code) rest) ∙ e) in
    let n = next_of code whole rest (All-tail IsInTable i code ac) (All-tail IsInTable j whole aw) some s.1 in
    record { next = n.next; inside = n.inside; more = n.more; are = n.are }

-- the first instruction of some words
head_op : (i : Instr) (more : List ℕ) → i.op < 2 ^ 16 → op_of (instr_words i ++ more) ≡ i.op
head_op i more small = omega arith

head_count : (i : Instr) (more : List ℕ) → i.op < 2 ^ 16 → count_of (instr_words i ++ more) ≡ word_count i
head_count i more small = omega arith

head_args : (i : Instr) (more : List ℕ) → i.op < 2 ^ 16 → args_of (instr_words i ++ more) ≡ i.args
head_args i more small =
    let n : count_of (instr_words i ++ more) - 1 ≡ length i.args = omega (arith, head_count i more small) in
    ap (λ k. take k (i.args ++ more)) n ∙ take_at i.args more (length i.args) refl

head_counted : (i : Instr) (more : List ℕ) (form : Form) → IsInTable i → form_of i.op ≡ Some form → counted form (instr_words i ++ more) ≡ true
head_counted i more form fits found =
    let small = small_op i fits in
    let c = head_count i more small in
    let p = passes i.op form i.args found fits in
    let n : word_count i - 1 ≡ length i.args = omega arith in
    let long : word_count i ≤ length (instr_words i ++ more) = omega (arith, length-append (instr_words i) more) in
    ap (λ k. is_counted form k (length (instr_words i ++ more))) c
    ∙ and_from _ _ (and_from _ _ (le-leb 1 (word_count i) (omega arith)) (le-leb _ _ long)) (ap (allows_words form) n ∙ p.0)

-- nothing is wrong with an instruction of the table
pub never_breaks : (i : Instr) (more : List ℕ) (place : ℕ) (fault : WordFault) → IsInTable i → Breaks (instr_words i ++ more) place fault → fault ≡ Memory
never_breaks i more place NotWhole fits b = absurd b
never_breaks i more place BigEndian fits b = absurd b
never_breaks i more place BadMagic fits b = absurd b
never_breaks i more place BadHeader fits b = absurd b
never_breaks i more place (UnknownOpcode at) fits b =
    let e : form_of i.op ≡ None = ap form_of (sym (head_op i more (small_op i fits))) ∙ b.1 in
    absurd (let f : None ≡ Some fits.form = sym e ∙ fits.found in cc)
never_breaks i more place (BadCount at) fits b =
    let e : form_of i.op ≡ Some b.1 = ap form_of (sym (head_op i more (small_op i fits))) ∙ b.2 in
    absurd (true≢false (sym (head_counted i more b.1 fits e) ∙ b.3))
never_breaks i more place (BadString at) fits b =
    absurd (b.4 (subst (λ op. Fits op (args_of (instr_words i ++ more))) (sym (head_op i more (small_op i fits))) (subst (Fits i.op) (sym (head_args i more (small_op i fits))) fits)))
never_breaks i more place Memory fits b = refl

pub never_stops : (whole : List Instr) (words : List ℕ) (fault : WordFault) → All IsInTable whole → words ≡ flat_map instr_words whole → StopsAt words fault → fault ≡ Memory
never_stops whole words fault all is s =
    let n = next_of s.code whole s.rest s.whole all s.some (sym s.words_are ∙ is) in
    never_breaks n.next n.more _ fault n.inside (subst (λ r. Breaks r (5 + length (flat_map instr_words s.code)) fault) n.are s.breaks)

-- Files ----------------------------------------------------------------------------------------------------------

words_fit : (code : List Instr) → AllByRecursion FitsInstr code → All IsInTable code → AreWords (flat_map instr_words code)
words_fit [] fit all = tt
words_fit (i ∷ code) fit all =
    let inside = All-head IsInTable i code all in
    (first (word_count i) i.op inside.short fit.0.0, both i.args (flat_map instr_words code) fit.0.1 (words_fit code fit.1 (All-tail IsInTable i code all)))
  where
    first : (n op : ℕ) → n < 2 ^ 16 → op < 2 ^ 16 → n * 65536 + op < 2 ^ 32
    first n op hn ho = omega arith

    both : (xs ys : List ℕ) → AreWords xs → AreWords ys → AreWords (xs ++ ys)
    both [] ys a b = b
    both (x ∷ xs) ys a b = (a.0, both xs ys a.1 b)

-- the words of a module's file
pub record OfFile (bytes : List ℕ) (m : Module) : Type 0 where
  pub whole : AreWhole bytes
  pub words : words_of bytes ≡ module_words m

bytes_many : (words : List ℕ) → length (flat_map (to_le_bytes w32) words) ≡ 4 * length words
bytes_many [] = refl
bytes_many (w ∷ words) = omega (arith, bytes_many words)

known_small : (v : ℕ) → IsKnown v → v < 2 ^ 32
known_small v known = subst (λ n. n < 2 ^ 32) (sym known.1) (target_small known.0)
  where
    target_small : (t : Target) → version_of t < 2 ^ 32
    target_small V10 = lit< tt
    target_small V13 = lit< tt

pub of_file : (bytes : List ℕ) (m : Module) → HasFile m → FitsTypes m → bytes ≡ bytes_of m → OfFile bytes m
of_file bytes m file fits is =
    let n : length bytes ≡ 4 * length (module_words m) = ap length is ∙ bytes_many (module_words m) in
    let long : 5 ≤ length (module_words m) = omega arith in
    let fit : AreWords (module_words m) = (lit< tt, (known_small m.version file.version, (lit< tt, (fits.bound, (lit< tt, words_fit m.instrs fits.instrs file.instrs))))) in
    record { whole = record { enough = omega arith; words = fours (length (module_words m)) n }; words = ap words_of is ∙ words_again (module_words m) fit }
  where
    fours : (k : ℕ) {n : ℕ} → n ≡ 4 * k → n % 4 ≡ 0
    fours k e = omega arith

pub header_is : (bytes : List ℕ) (m : Module) → HasFile m → words_of bytes ≡ module_words m → HasHeader bytes
header_is bytes m file is = record {
  version = subst IsKnown (sym (ap (λ l. get_or l 1 0) is)) file.version;
  generator = ap (λ l. get_or l 2 0) is;
  last = ap (λ l. get_or l 4 0) is;
}

-- a file has no fault
pub no_fault : (bytes : List ℕ) (m : Module) (fault : WordFault) → HasFile m → FitsTypes m → bytes ≡ bytes_of m → HasFault bytes fault → fault ≡ Memory
no_fault bytes m fault file fits is bad =
    let f = of_file bytes m file fits is in
    let first : word_of bytes 0 ≡ magic = ap (λ l. get_or l 0 0) f.words in
    let behind : drop 5 (words_of bytes) ≡ flat_map instr_words m.instrs = ap (drop 5) f.words in
    by_fault fault f.whole first (header_is bytes m file f.words) behind bad
  where
    by_fault : (fault : WordFault) → AreWhole bytes → word_of bytes 0 ≡ magic → HasHeader bytes → drop 5 (words_of bytes) ≡ flat_map instr_words m.instrs → HasFault bytes fault → fault ≡ Memory
    by_fault NotWhole whole first header behind bad = absurd (bad whole)
    by_fault BigEndian whole first header behind bad = absurd (differ (sym bad.1 ∙ first))
      where
        differ : magic_turned ≡ magic → ⊥
        differ e = omega arith
    by_fault BadMagic whole first header behind bad = absurd (bad.2 first)
    by_fault BadHeader whole first header behind bad = absurd (bad.2 header)
    by_fault (UnknownOpcode at) whole first header behind bad = never_stops m.instrs _ _ file.instrs behind bad.3
    by_fault (BadCount at) whole first header behind bad = never_stops m.instrs _ _ file.instrs behind bad.3
    by_fault (BadString at) whole first header behind bad = never_stops m.instrs _ _ file.instrs behind bad.3
    by_fault Memory whole first header behind bad = refl

-- what was read
pub record IsRead (bytes : List ℕ) (version bound : ℕ) (code : List Instr) : Type 0 where
  pub whole : AreWhole bytes
  pub first : word_of bytes 0 ≡ magic
  pub header : HasHeader bytes
  pub version_is : version ≡ word_of bytes 1
  pub bound_is : bound ≡ word_of bytes 3
  pub all : All IsInTable code
  pub words_are : drop 5 (words_of bytes) ≡ flat_map instr_words code
  pub ops : Ops code

abbrev pub module_of : ℕ → ℕ → List Instr → Module
module_of version bound code = record { version = version; bound = bound; instrs = code }

long_words : (k : ℕ) (bytes : List ℕ) → 4 * k ≤ length bytes → k ≤ length (words_of bytes)
long_words zero bytes h = omega arith
long_words (suc k) [] h = absurd (omega arith)
long_words (suc k) (a ∷ []) h = absurd (omega arith)
long_words (suc k) (a ∷ b ∷ []) h = absurd (omega arith)
long_words (suc k) (a ∷ b ∷ c ∷ []) h = absurd (omega arith)
long_words (suc k) (a ∷ b ∷ c ∷ d ∷ bytes) h = omega (arith, long_words k bytes (omega arith))

header_cut : (words : List ℕ) → 5 ≤ length words → words ≡ get_or words 0 0 ∷ get_or words 1 0 ∷ get_or words 2 0 ∷ get_or words 3 0 ∷ get_or words 4 0 ∷ drop 5 words
header_cut [] h = absurd (omega arith)
header_cut (a ∷ []) h = absurd (omega arith)
header_cut (a ∷ b ∷ []) h = absurd (omega arith)
header_cut (a ∷ b ∷ c ∷ []) h = absurd (omega arith)
header_cut (a ∷ b ∷ c ∷ d ∷ []) h = absurd (omega arith)
header_cut (a ∷ b ∷ c ∷ d ∷ e ∷ words) h = refl

read_words : (bytes : List ℕ) (version bound : ℕ) (code : List Instr) → IsRead bytes version bound code → words_of bytes ≡ module_words (module_of version bound code)
read_words bytes version bound code r =
    header_cut (words_of bytes) (long_words 5 bytes r.whole.enough)
    ∙ ap (λ w. w ∷ word_of bytes 1 ∷ word_of bytes 2 ∷ word_of bytes 3 ∷ word_of bytes 4 ∷ drop 5 (words_of bytes)) r.first
    ∙ ap (λ w. magic ∷ w ∷ word_of bytes 2 ∷ word_of bytes 3 ∷ word_of bytes 4 ∷ drop 5 (words_of bytes)) (sym r.version_is)
    ∙ ap (λ w. magic ∷ version ∷ w ∷ word_of bytes 3 ∷ word_of bytes 4 ∷ drop 5 (words_of bytes)) r.header.generator
    ∙ ap (λ w. magic ∷ version ∷ 0 ∷ w ∷ word_of bytes 4 ∷ drop 5 (words_of bytes)) (sym r.bound_is)
    ∙ ap (λ w. magic ∷ version ∷ 0 ∷ bound ∷ w ∷ drop 5 (words_of bytes)) r.header.last
    ∙ ap (λ l. magic ∷ version ∷ 0 ∷ bound ∷ 0 ∷ l) r.words_are

-- the numbers of what was read
pub words_small : (bytes : List ℕ) → AreBytes bytes → AreWords (words_of bytes)
words_small [] fit = tt
words_small (a ∷ []) fit = tt
words_small (a ∷ b ∷ []) fit = tt
words_small (a ∷ b ∷ c ∷ []) fit = tt
words_small (a ∷ b ∷ c ∷ d ∷ bytes) fit = (four a b c d fit.0 fit.1.0 fit.1.1.0 fit.1.1.1.0, words_small bytes fit.1.1.1.1)
  where
    four : (a b c d : ℕ) → a < 256 → b < 256 → c < 256 → d < 256 → from_le_bytes w32 (a ∷ b ∷ c ∷ d ∷ []) < 2 ^ 32
    four a b c d ha hb hc hd = omega arith

word_small : (words : List ℕ) → AreWords words → (k : ℕ) → get_or words k 0 < 2 ^ 32
word_small [] fit k = lit< tt
word_small (w ∷ words) fit zero = fit.0
word_small (w ∷ words) fit (suc k) = word_small words fit.1 k

pub words_behind : (k : ℕ) (words : List ℕ) → AreWords words → AreWords (drop k words)
words_behind zero words fit = fit
words_behind (suc k) [] fit = tt
words_behind (suc k) (w ∷ words) fit = words_behind k words fit.1

halves : (xs ys : List ℕ) → AreWords (xs ++ ys) → AreWords xs × AreWords ys
halves [] ys fit = (tt, fit)
halves (x ∷ xs) ys fit = let both = halves xs ys fit.1 in ((fit.0, both.0), both.1)

code_fits : (code : List Instr) → Ops code → AreWords (flat_map instr_words code) → AllByRecursion FitsInstr code
code_fits [] ops fit = tt
code_fits (i ∷ code) ops fit =
    let both = halves i.args (flat_map instr_words code) fit.1 in ((ops.0, both.0), code_fits code ops.1 both.1)

-- what was read has this file
pub read_is : (bytes : List ℕ) (version bound : ℕ) (code : List Instr) → AreBytes bytes → IsRead bytes version bound code →
    HasFile (module_of version bound code) × FitsTypes (module_of version bound code) × (bytes ≡ bytes_of (module_of version bound code))
read_is bytes version bound code fit r =
    let words = words_small bytes fit in (
      record { version = subst IsKnown (sym r.version_is) r.header.version; instrs = r.all },
      record {
        bound = subst (λ n. n < 2 ^ 32) (sym r.bound_is) (word_small (words_of bytes) words 3);
        instrs = code_fits code r.ops (subst AreWords r.words_are (words_behind 5 (words_of bytes) words));
      },
      sym (bytes_again bytes fit r.whole.words) ∙ ap (flat_map (to_le_bytes w32)) (read_words bytes version bound code r),
    )

-- and no other module has
pub read_only : (bytes : List ℕ) (version bound : ℕ) (code : List Instr) → IsRead bytes version bound code → (m : Module) → HasFile m → FitsTypes m → bytes ≡ bytes_of m → module_of version bound code ≡ m
read_only bytes version bound code r m file fits is =
    let f = of_file bytes m file fits is in
    let same : module_words (module_of version bound code) ≡ module_words m = sym (read_words bytes version bound code r) ∙ f.words in
    let v : version ≡ m.version = ap (λ l. get_or l 1 0) same in
    let b : bound ≡ m.bound = ap (λ l. get_or l 3 0) same in
    let c : code ≡ m.instrs = same_code code m.instrs r.ops (ops_of m.instrs fits.instrs) (ap (drop 5) same) in
    ap (λ x. module_of x bound code) v ∙ ap (λ x. module_of m.version x code) b ∙ ap (module_of m.version m.bound) c
  where
    ops_of : (code : List Instr) → AllByRecursion FitsInstr code → Ops code
    ops_of [] fit = tt
    ops_of (i ∷ code) fit = (fit.0.0, ops_of code fit.1)

-- what is wrong behind a header is wrong with the file
pub behind_header : (bytes : List ℕ) (fault : WordFault) → AreWhole bytes → word_of bytes 0 ≡ magic → HasHeader bytes → Ends (drop 5 (words_of bytes)) fault → HasFault bytes fault
behind_header bytes fault whole first header (inl e) = subst (HasFault bytes) (sym e) tt
behind_header bytes NotWhole whole first header (inr s) = absurd s.breaks
behind_header bytes BigEndian whole first header (inr s) = absurd s.breaks
behind_header bytes BadMagic whole first header (inr s) = absurd s.breaks
behind_header bytes BadHeader whole first header (inr s) = absurd s.breaks
behind_header bytes (UnknownOpcode at) whole first header (inr s) = (whole, first, header, s)
behind_header bytes (BadCount at) whole first header (inr s) = (whole, first, header, s)
behind_header bytes (BadString at) whole first header (inr s) = (whole, first, header, s)
behind_header bytes Memory whole first header (inr s) = tt

-- bytes that fit one by one
pub are_bytes : (bytes : List ℕ) → ((i : ℕ) → get_or bytes i 0 < 256) → AreBytes bytes
are_bytes [] each = tt
are_bytes (b ∷ bytes) each = (each 0, are_bytes bytes (λ i. each (suc i)))

-- the words behind the header
pub body_words : (bytes words : List ℕ) → 20 ≤ length bytes → words ≡ words_of (take (length bytes - 20) (drop 20 bytes)) → words ≡ drop 5 (words_of bytes)
body_words bytes words long is = is ∙ ap words_of (take_rest bytes 20) ∙ words_drop bytes long

pub body_few : (bytes words : List ℕ) → length bytes < 2 ^ 32 → words ≡ words_of (take (length bytes - 20) (drop 20 bytes)) → length words < 2 ^ 30
body_few bytes words few is =
    let cut : words_of (take (length bytes - 20) (drop 20 bytes)) ≡ words_of (drop 20 bytes) = ap words_of (take_rest bytes 20) in
    omega (arith, ap length (is ∙ cut), words_few (drop 20 bytes), length-drop 20 bytes)
