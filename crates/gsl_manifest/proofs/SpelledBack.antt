-- What is read may be spelled so: the format allows no other lines.
use Rattle.std.proofs.Common.{◌≡◌, ◌≢◌, ℕ, zero, suc, ◌+◌, ◌-◌, ◌%◌, ◌<◌, ◌≤◌, ◌^◌, Bool, true, false, cond, ◌&&◌, List, [], ◌∷◌, ◌++◌, length, get_or, take, drop, Option, Some, None, refl, ap, sym, subst, ◌∙◌, arith, eqb, ltb, leb, length-append, codes, one-add, take-append-drop, append-nil}
use Rattle.std.proofs.lemmas.Bool.{and_parts, ltb-true, leb-true, eqb-true, eq-eqb, true≢false}
use Rattle.std.proofs.lemmas.Fmt.{decimal-digits_value}
use Rattle.std.proofs.lemmas.Slice.Eq.{bytes_eq-Decides}
use Rattle.std.proofs.lemmas.Str.Parse.{IsNumeralModel}
use Rattle.std.specs.List.{AllByRecursion}
use Rattle.std.specs.Fmt.{decimal}
use Rattle.std.specs.Str.{is_utf8, bytes_eq}
use Rattle.std.specs.Str.Parse.{AllDigits, digits_value}
use Rattle.gsl_manifest.specs.declared.meaning.Keyword.{Keyword}
use Rattle.gsl_manifest.specs.declared.meaning.Keyword.TheVariants as word
use Rattle.gsl_manifest.specs.declared.meaning.Meaning.{Meaning}
use Rattle.gsl_manifest.specs.declared.meaning.Meaning.TheVariants.{Nothing, Buffer, Push, In, Group, Local, Groups, Vertex, Instance, Choice, Steps}
use Rattle.gsl_text.specs.Numbers.{◌>>=◌, are_digits, natural}
use Rattle.gsl_manifest.specs.Numbers.{leads_with_zero, decimal_of, below_zero, unsigned, number}
use Rattle.gsl_manifest.specs.Fields.{gap_len, field_len, field_at, behind_gap, next_field, number_at, unsigned_at, last, three_at, numbers_at, some_numbers_at, path_at}
use Rattle.gsl_manifest.specs.Meanings.{keyword_of, fields_say, buffer_at, in_at, choice_at, steps_at, sentence, is_blank, meaning_of, most_steps}
use Rattle.gsl_manifest.specs.Spelling.{IsGap, IsPathText, WritesUnsigned, WritesWord, WritesWords, Spells}
use Rattle.gsl_manifest.proofs.Inverted.{bind_all, guard_all, numbers_few}

-- ---- gaps and fields

spaces_of : (bytes : List ℕ) → AllByRecursion (λ byte. byte ≡ 32) (take (gap_len bytes) bytes)
spaces_of [] = tt
spaces_of (b ∷ bytes) =
    elim (eqb b 32) as (λ t. eqb b 32 ≡ t → AllByRecursion (λ byte. byte ≡ 32) (take (cond t (1 + gap_len bytes) 0) (b ∷ bytes))) [
      | true ↦ λ e. subst (λ k. AllByRecursion (λ byte. byte ≡ 32) (take k (b ∷ bytes))) (sym (one-add (gap_len bytes))) (eqb-true b 32 e, spaces_of bytes)
      | false ↦ λ e. tt
    ] refl

no_more_spaces : (bytes : List ℕ) → gap_len (drop (gap_len bytes) bytes) ≡ 0
no_more_spaces [] = refl
no_more_spaces (b ∷ bytes) =
    elim (eqb b 32) as (λ t. eqb b 32 ≡ t → gap_len (drop (cond t (1 + gap_len bytes) 0) (b ∷ bytes)) ≡ 0) [
      | true ↦ λ e. ap (λ k. gap_len (drop k (b ∷ bytes))) (one-add (gap_len bytes)) ∙ no_more_spaces bytes
      | false ↦ λ e. ap (λ t. cond t (1 + gap_len bytes) 0) e
    ] refl

some_taken : (n : ℕ) (bytes : List ℕ) → 0 < n → n < length bytes → 0 < length (take n bytes)
some_taken zero bytes some more = absurd (omega arith)
some_taken (suc n) [] some more = absurd (omega arith)
some_taken (suc n) (b ∷ bytes) some more = omega arith

some_left : (n : ℕ) (bytes : List ℕ) → n < length bytes → 0 < length (drop n bytes)
some_left n bytes more = omega (arith, ap length (take-append-drop n bytes), length-append (take n bytes) (drop n bytes), taken n bytes)
  where
    taken : (n : ℕ) (bytes : List ℕ) → length (take n bytes) ≤ n
    taken zero bytes = omega arith
    taken (suc n) [] = omega arith
    taken (suc n) (b ∷ bytes) = omega (arith, taken n bytes)

-- The bytes are a gap and the rest, which begins with no space.
record Behind (bytes rest : List ℕ) : Type 0 where
  gap : List ℕ
  is : IsGap gap
  splits : gap ++ rest ≡ bytes
  some : 0 < length rest
  begins : gap_len rest ≡ 0

behind : (bytes rest : List ℕ) → behind_gap bytes ≡ Some rest → Behind bytes rest
unfolding behind_gap
behind bytes rest e =
    let met = guard_all (ltb 0 (gap_len bytes) && ltb (gap_len bytes) (length bytes)) (drop (gap_len bytes) bytes) rest e in
    let parts = and_parts (ltb 0 (gap_len bytes)) _ met.0 in
    let more : gap_len bytes < length bytes = ltb-true _ _ parts.1 in
    record {
      gap = take (gap_len bytes) bytes;
      is = record { some = some_taken (gap_len bytes) bytes (ltb-true 0 (gap_len bytes) parts.0) more; spaces = spaces_of bytes };
      splits = ap (λ r. take (gap_len bytes) bytes ++ r) (sym met.1) ∙ take-append-drop (gap_len bytes) bytes;
      some = subst (λ r. 0 < length r) met.1 (some_left (gap_len bytes) bytes more);
      begins = ap gap_len (sym met.1) ∙ no_more_spaces bytes;
    }

-- The bytes are a gap, a field and the rest.
record Next (bytes field rest : List ℕ) : Type 0 where
  gap : List ℕ
  is : IsGap gap
  splits : gap ++ (field ++ rest) ≡ bytes

next : (bytes : List ℕ) (f : List ℕ × List ℕ) → next_field bytes ≡ Some f → Next bytes f.0 f.1
unfolding next_field
next bytes f e =
    bind_all (behind_gap bytes) (λ field. Some (field_at field)) f (Next bytes f.0 f.1)
    (λ rest found is.
    let b = behind bytes rest found in
    let same : field_at rest ≡ f = cc in
    let whole : f.0 ++ f.1 ≡ rest = ap (λ (p : List ℕ × List ℕ). p.0 ++ p.1) (sym same) ∙ take-append-drop (field_len rest) rest in
    record { gap = b.gap; is = b.is; splits = ap (λ r. b.gap ++ r) whole ∙ b.splits }) e

-- ---- numbers

digits_of : (radix : ℕ) (ds : List ℕ) → are_digits radix ds ≡ true → AllDigits radix ds
digits_of radix [] all = tt
digits_of radix (d ∷ ds) all = let parts = and_parts _ _ all in (ltb-true _ _ parts.0, digits_of radix ds parts.1)

record Natural (radix : ℕ) (ds : List ℕ) (n : ℕ) : Type 0 where
  some : 0 < length ds
  all : AllDigits radix ds
  small : digits_value radix ds < 2 ^ 32
  value : digits_value radix ds ≡ n

natural_of : (radix : ℕ) (ds : List ℕ) (n : ℕ) → natural radix ds ≡ Some n → Natural radix ds n
unfolding natural
natural_of radix ds n e =
    let met = guard_all ((ltb 0 (length ds) && are_digits radix ds) && ltb (digits_value radix ds) (2 ^ 32)) (digits_value radix ds) n e in
    let parts = and_parts (ltb 0 (length ds) && are_digits radix ds) _ met.0 in
    let first = and_parts (ltb 0 (length ds)) _ parts.0 in
    record { some = ltb-true 0 (length ds) first.0; all = digits_of radix ds first.1; small = ltb-true _ _ parts.1; value = met.1 }

own : IsNumeralModel (AllDigits 10) (digits_value 10)
own = record { to = λ ds p. p; from = λ ds p. p; same = λ ds p. refl }

one_zero : (ds : List ℕ) → leads_with_zero ds ≡ false → 0 < length ds → get_or ds 0 0 ≡ 48 → length ds ≡ 1
one_zero [] plain some e = absurd (omega arith)
one_zero (d ∷ []) plain some e = refl
one_zero (d ∷ c ∷ ds) plain some e = absurd (true≢false (sym (eq-eqb d 48 e) ∙ plain))

decimal_back : (ds : List ℕ) (n : ℕ) → decimal_of ds ≡ Some n → (decimal n ≡ ds) × (n < 2 ^ 32)
unfolding decimal_of
decimal_back ds n e =
    elim (leads_with_zero ds) as (λ t. leads_with_zero ds ≡ t → cond t None (natural 10 ds) ≡ Some n → (decimal n ≡ ds) × (n < 2 ^ 32)) [
      | true ↦ λ zero_first absent. absurd (cc)
      | false ↦ λ plain found.
          let d = natural_of 10 ds n found in
          (ap decimal (sym d.value) ∙ decimal-digits_value own ds d.all d.some (one_zero ds plain d.some) (omega (arith, d.small)), omega (arith, d.small, d.value))
    ] refl e

-- the text in front, where a test found it
front_is : (k : ℕ) (field text : List ℕ) → bytes_eq (take k field) text ≡ true → text ++ drop k field ≡ field
front_is k field text e = ap (λ t. t ++ drop k field) (sym ((bytes_eq-Decides (take k field) text).0 e)) ∙ take-append-drop k field

unsigned_back : (field : List ℕ) (n : ℕ) → unsigned field ≡ Some n → WritesUnsigned field n
unsigned_back field n e =
    elim (bytes_eq (take 2 field) (codes "0x")) as (λ t. bytes_eq (take 2 field) (codes "0x") ≡ t → cond t (natural 16 (drop 2 field)) (decimal_of field) ≡ Some n → WritesUnsigned field n) [
      | true ↦ λ hex found.
          let d = natural_of 16 (drop 2 field) n found in
          subst (λ f. WritesUnsigned f n) (front_is 2 field (codes "0x") hex)
          (subst (λ v. WritesUnsigned (codes "0x" ++ drop 2 field) v) d.value (WritesUnsigned.hexadecimal (drop 2 field) d.some d.all d.small))
      | false ↦ λ other found. let d = decimal_back field n found in subst (λ f. WritesUnsigned f n) d.0 (WritesUnsigned.decimal_digits n d.1)
    ] refl e

number_back : (field : List ℕ) (n : ℕ) → number field ≡ Some n → WritesWord field n
number_back field n e =
    elim (bytes_eq (take 1 field) (codes "-")) as (λ t. bytes_eq (take 1 field) (codes "-") ≡ t → cond t (decimal_of (drop 1 field) >>= below_zero) (unsigned field) ≡ Some n → WritesWord field n) [
      | true ↦ λ minus found.
          bind_all (decimal_of (drop 1 field)) below_zero n (WritesWord field n)
          (λ k is below.
          let d = decimal_back (drop 1 field) k is in
          let met = guard_all (leb k (2 ^ 31)) ((2 ^ 32 - k) % 2 ^ 32) n below in
          subst (λ f. WritesWord f n) (ap (λ r. codes "-" ++ r) d.0 ∙ front_is 1 field (codes "-") minus)
          (subst (λ v. WritesWord (codes "-" ++ decimal k) v) met.1 (WritesWord.negative k (leb-true _ _ met.0)))) found
      | false ↦ λ other found. WritesWord.unsigned (unsigned_back field n found)
    ] refl e

-- ---- the fields of a line

-- The bytes are a gap, a field that writes the number, and the rest.
record Word (bytes : List ℕ) (n : ℕ) (rest : List ℕ) : Type 0 where
  gap : List ℕ
  field : List ℕ
  is : IsGap gap
  writes : WritesWord field n
  splits : gap ++ (field ++ rest) ≡ bytes

record Plain (bytes : List ℕ) (n : ℕ) (rest : List ℕ) : Type 0 where
  gap : List ℕ
  field : List ℕ
  is : IsGap gap
  writes : WritesUnsigned field n
  splits : gap ++ (field ++ rest) ≡ bytes

word_at : (bytes : List ℕ) (n : ℕ × List ℕ) → number_at bytes ≡ Some n → Word bytes n.0 n.1
unfolding number_at
word_at bytes n e =
    bind_all (next_field bytes) (λ field. number field.0 >>= λ m. Some (m, field.1)) n (Word bytes n.0 n.1)
    (λ f found later. bind_all (number f.0) (λ m. Some (m, f.1)) n (Word bytes n.0 n.1)
    (λ m is same.
    let s = next bytes f found in
    let pair : (m, f.1) ≡ n = cc in
    subst (λ (p : ℕ × List ℕ). Word bytes p.0 p.1) pair (record { gap = s.gap; field = f.0; is = s.is; writes = number_back f.0 m is; splits = s.splits })) later) e

plain_at : (bytes : List ℕ) (n : ℕ × List ℕ) → unsigned_at bytes ≡ Some n → Plain bytes n.0 n.1
unfolding unsigned_at
plain_at bytes n e =
    bind_all (next_field bytes) (λ field. unsigned field.0 >>= λ m. Some (m, field.1)) n (Plain bytes n.0 n.1)
    (λ f found later. bind_all (unsigned f.0) (λ m. Some (m, f.1)) n (Plain bytes n.0 n.1)
    (λ m is same.
    let s = next bytes f found in
    let pair : (m, f.1) ≡ n = cc in
    subst (λ (p : ℕ × List ℕ). Plain bytes p.0 p.1) pair (record { gap = s.gap; field = f.0; is = s.is; writes = unsigned_back f.0 m is; splits = s.splits })) later) e

-- one word in front of others
onto_words : (bytes : List ℕ) (n : ℕ × List ℕ) (ns : List ℕ) → Word bytes n.0 n.1 → WritesWords n.1 ns → WritesWords bytes (n.0 ∷ ns)
onto_words bytes n ns w ws = subst (λ t. WritesWords t (n.0 ∷ ns)) w.splits (WritesWords.more w.is w.writes ws)

pub words_back : (most : ℕ) (bytes ns : List ℕ) → numbers_at most bytes ≡ Some ns → WritesWords bytes ns
unfolding numbers_at
words_back zero [] ns e = let same : [] ≡ ns = cc in subst (WritesWords []) same WritesWords.none
words_back zero (b ∷ bytes) ns e = absurd (cc)
words_back (suc most) [] ns e = let same : [] ≡ ns = cc in subst (WritesWords []) same WritesWords.none
words_back (suc most) (b ∷ bytes) ns e =
    bind_all (number_at (b ∷ bytes)) (λ n. numbers_at most n.1 >>= λ ms. Some (n.0 ∷ ms)) ns (WritesWords (b ∷ bytes) ns)
    (λ n found later. bind_all (numbers_at most n.1) (λ ms. Some (n.0 ∷ ms)) ns (WritesWords (b ∷ bytes) ns)
    (λ ms is same.
    let whole : n.0 ∷ ms ≡ ns = cc in
    subst (WritesWords (b ∷ bytes)) whole (onto_words (b ∷ bytes) n ms (word_at (b ∷ bytes) n found) (words_back most n.1 ms is))) later) e

pub some_back : (most : ℕ) (bytes ns : List ℕ) → some_numbers_at most bytes ≡ Some ns → WritesWords bytes ns × (1 ≤ length ns)
some_back most bytes ns e =
    bind_all (numbers_at most bytes) (λ ms. cond (ltb 0 (length ms)) (Some ms) None) ns (WritesWords bytes ns × (1 ≤ length ns))
    (λ ms found is.
    let met = guard_all (ltb 0 (length ms)) ms ns is in
    (subst (WritesWords bytes) met.1 (words_back most bytes ms found), subst (λ l. 1 ≤ length l) met.1 (let some : 0 < length ms = ltb-true 0 (length ms) met.0 in omega arith))) e

some_few : (most : ℕ) (bytes ns : List ℕ) → some_numbers_at most bytes ≡ Some ns → length ns ≤ most
some_few most bytes ns e =
    bind_all (numbers_at most bytes) (λ ms. cond (ltb 0 (length ms)) (Some ms) None) ns (length ns ≤ most)
    (λ ms found is. let met = guard_all (ltb 0 (length ms)) ms ns is in subst (λ l. length l ≤ most) met.1 (numbers_few most bytes ms found)) e

no_bytes : (bytes : List ℕ) → eqb (length bytes) 0 ≡ true → [] ≡ bytes
no_bytes [] e = refl
no_bytes (b ∷ bytes) e = absurd (omega (arith, eqb-true _ _ e))

-- what is the last of its line
last_of : (found : Option (ℕ × List ℕ)) (n : ℕ) → last found ≡ Some n → (m : ℕ × List ℕ) × (found ≡ Some m) × (m.0 ≡ n) × ([] ≡ m.1)
last_of None n e = absurd (cc)
last_of (Some m) n e = let met = guard_all (eqb (length m.1) 0) m.0 n e in (m, refl, met.1, no_bytes m.1 met.0)

pub last_back : (bytes : List ℕ) (n : ℕ) → last (number_at bytes) ≡ Some n → WritesWords bytes (n ∷ [])
last_back bytes n e =
    let l = last_of (number_at bytes) n e in
    subst (λ k. WritesWords bytes (k ∷ [])) l.2 (onto_words bytes l.0 [] (word_at bytes l.0 l.1) (subst (λ r. WritesWords r []) l.3 WritesWords.none))

pub three_back : (bytes ids : List ℕ) → three_at bytes ≡ Some ids → WritesWords bytes ids × (length ids ≡ 3)
unfolding three_at
three_back bytes ids e =
    bind_all (number_at bytes) (λ x. number_at x.1 >>= λ y. last (number_at y.1) >>= λ z. Some (x.0 ∷ y.0 ∷ z ∷ [])) ids (WritesWords bytes ids × (length ids ≡ 3))
    (λ x first more. bind_all (number_at x.1) (λ y. last (number_at y.1) >>= λ z. Some (x.0 ∷ y.0 ∷ z ∷ [])) ids (WritesWords bytes ids × (length ids ≡ 3))
    (λ y second rest. bind_all (last (number_at y.1)) (λ z. Some (x.0 ∷ y.0 ∷ z ∷ [])) ids (WritesWords bytes ids × (length ids ≡ 3))
    (λ z third is.
    let same : x.0 ∷ y.0 ∷ z ∷ [] ≡ ids = cc in
    let words : WritesWords bytes (x.0 ∷ y.0 ∷ z ∷ []) = onto_words bytes x _ (word_at bytes x first) (onto_words x.1 y _ (word_at x.1 y second) (last_back y.1 z third)) in
    (subst (WritesWords bytes) same words, ap length (sym same))) rest) more) e

record PathBehind (bytes path : List ℕ) : Type 0 where
  gap : List ℕ
  is : IsGap gap
  path_is : IsPathText path
  splits : gap ++ path ≡ bytes

no_space_first : (path : List ℕ) → 0 < length path → gap_len path ≡ 0 → get_or path 0 32 ≢ 32
no_space_first [] some none e = omega arith
no_space_first (b ∷ path) some none e =
    let more : 1 + gap_len path ≡ 0 = sym (ap (λ t. cond t (1 + gap_len path) 0) (eq-eqb b 32 e)) ∙ none in
    omega (arith, more)

path_back : (bytes path : List ℕ) → path_at bytes ≡ Some path → PathBehind bytes path
unfolding path_at
path_back bytes path e =
    bind_all (behind_gap bytes) (λ p. cond (is_utf8 p) (Some p) None) path (PathBehind bytes path)
    (λ p found is.
    let met = guard_all (is_utf8 p) p path is in
    let b = behind bytes p found in
    subst (PathBehind bytes) met.1 (record { gap = b.gap; is = b.is; path_is = record { some = b.some; text = met.0; begins = no_space_first p b.some b.begins }; splits = b.splits })) e

-- ---- lines

-- how each line begins
abbrev pub text_of : Keyword → List ℕ
text_of word.Buffer = codes "buffer"
text_of word.Push = codes "push"
text_of word.In = codes "in"
text_of word.Group = codes "group"
text_of word.Local = codes "local"
text_of word.Groups = codes "groups"
text_of word.Vertex = codes "vertex"
text_of word.Instance = codes "instance"
text_of word.Choice = codes "choice"
text_of word.Steps = codes "steps"

step : (bytes : List ℕ) (w k : Keyword) (rest : Option Keyword) → (rest ≡ Some k → text_of k ≡ bytes) → cond (bytes_eq bytes (text_of w)) (Some w) rest ≡ Some k → text_of k ≡ bytes
step bytes w k rest later e =
    elim (bytes_eq bytes (text_of w)) as (λ t. bytes_eq bytes (text_of w) ≡ t → cond t (Some w) rest ≡ Some k → text_of k ≡ bytes) [
      | true ↦ λ here found. let same : w ≡ k = cc in ap text_of (sym same) ∙ sym ((bytes_eq-Decides bytes (text_of w)).0 here)
      | false ↦ λ other found. later found
    ] refl e

keyword_back : (bytes : List ℕ) (k : Keyword) → keyword_of bytes ≡ Some k → text_of k ≡ bytes
unfolding keyword_of
keyword_back bytes k e =
    step bytes word.Buffer k _ (step bytes word.Push k _ (step bytes word.In k _ (step bytes word.Group k _ (step bytes word.Local k _ (step bytes word.Groups k _
    (step bytes word.Vertex k _ (step bytes word.Instance k _ (step bytes word.Choice k _ (step bytes word.Steps k None (λ absent. absurd (cc))))))))))) e

said : (line : List ℕ) (m k : Meaning) → Some m ≡ Some k → Spells line m → Spells line k
said line m k e s = let same : m ≡ k = cc in subst (Spells line) same s

fields_back : (k : Keyword) (rest : List ℕ) (m : Meaning) → fields_say k rest ≡ Some m → Spells (text_of k ++ rest) m
unfolding buffer_at in_at choice_at steps_at
fields_back word.Buffer rest m e =
    bind_all (unsigned_at rest) _ m (Spells (codes "buffer" ++ rest) m)
    (λ set first more. bind_all (unsigned_at set.1) _ m (Spells (codes "buffer" ++ rest) m)
    (λ binding second later. bind_all (path_at binding.1) _ m (Spells (codes "buffer" ++ rest) m)
    (λ path third is.
    let a = plain_at rest set first in
    let b = plain_at set.1 binding second in
    let c = path_back binding.1 path third in
    said _ (Buffer set.0 binding.0 path) m is
    (subst (λ t. Spells (codes "buffer" ++ t) (Buffer set.0 binding.0 path))
    (ap (λ t. a.gap ++ (a.field ++ t)) (ap (λ t. b.gap ++ (b.field ++ t)) c.splits ∙ b.splits) ∙ a.splits)
    (Spells.buffer a.is a.writes b.is b.writes c.is c.path_is))) later) more) e
fields_back word.Push rest m e =
    bind_all (path_at rest) _ m (Spells (codes "push" ++ rest) m)
    (λ path found is. let c = path_back rest path found in said _ (Push path) m is (subst (λ t. Spells (codes "push" ++ t) (Push path)) c.splits (Spells.push c.is c.path_is))) e
fields_back word.In rest m e =
    bind_all (unsigned_at rest) _ m (Spells (codes "in" ++ rest) m)
    (λ location first more. bind_all (some_numbers_at 4 location.1) _ m (Spells (codes "in" ++ rest) m)
    (λ words second is.
    let a = plain_at rest location first in
    let ws = some_back 4 location.1 words second in
    said _ (In location.0 words) m is
    (subst (λ t. Spells (codes "in" ++ t) (In location.0 words)) a.splits (Spells.values a.is a.writes ws.0 ws.1 (some_few 4 location.1 words second)))) more) e
fields_back word.Group rest m e =
    bind_all (three_at rest) _ m (Spells (codes "group" ++ rest) m) (λ ids found is. let t = three_back rest ids found in said _ (Group ids) m is (Spells.group t.0 t.1)) e
fields_back word.Local rest m e =
    bind_all (three_at rest) _ m (Spells (codes "local" ++ rest) m) (λ ids found is. let t = three_back rest ids found in said _ (Local ids) m is (Spells.local t.0 t.1)) e
fields_back word.Groups rest m e =
    bind_all (three_at rest) _ m (Spells (codes "groups" ++ rest) m) (λ ids found is. let t = three_back rest ids found in said _ (Groups ids) m is (Spells.groups t.0 t.1)) e
fields_back word.Vertex rest m e =
    bind_all (last (number_at rest)) _ m (Spells (codes "vertex" ++ rest) m) (λ id found is. said _ (Vertex id) m is (Spells.vertex (last_back rest id found))) e
fields_back word.Instance rest m e =
    bind_all (last (number_at rest)) _ m (Spells (codes "instance" ++ rest) m) (λ id found is. said _ (Instance id) m is (Spells.instance (last_back rest id found))) e
fields_back word.Choice rest m e =
    bind_all (some_numbers_at (length rest) rest) _ m (Spells (codes "choice" ++ rest) m)
    (λ words found is. let ws = some_back (length rest) rest words found in said _ (Choice words) m is (Spells.choice ws.0 ws.1)) e
fields_back word.Steps rest m e =
    bind_all (last (unsigned_at rest)) (λ n. cond (leb n most_steps) (Some (Steps n)) None) m (Spells (codes "steps" ++ rest) m)
    (λ n found is.
    let l = last_of (unsigned_at rest) n found in
    let a = plain_at rest l.0 l.1 in
    let met = guard_all (leb n most_steps) (Steps n) m is in
    let text : a.gap ++ a.field ≡ rest = ap (λ f. a.gap ++ f) (sym (append-nil a.field) ∙ ap (λ r. a.field ++ r) l.3) ∙ a.splits in
    subst (Spells (codes "steps" ++ rest)) met.1
    (subst (λ t. Spells (codes "steps" ++ t) (Steps n)) text (Spells.steps a.is (subst (WritesUnsigned a.field) l.2 a.writes) (leb-true _ _ met.0)))) e

sentence_back : (line : List ℕ) (m : Meaning) → sentence line ≡ Some m → Spells line m
unfolding sentence
sentence_back line m e =
    bind_all (keyword_of (field_at line).0) (λ k. fields_say k (field_at line).1) m (Spells line m)
    (λ k found says.
    let whole : text_of k ++ (field_at line).1 ≡ line = ap (λ t. t ++ (field_at line).1) (keyword_back (field_at line).0 k found) ∙ take-append-drop (field_len line) line in
    subst (λ l. Spells l m) whole (fields_back k (field_at line).1 m says)) e

blank_back : (line : List ℕ) → is_utf8 line ≡ true → is_blank line ≡ true → Spells line Nothing
blank_back [] fine blank = Spells.empty
blank_back (b ∷ line) fine blank =
    let hash : 35 ≡ b = sym (eqb-true b 35 blank) in
    subst (λ c. Spells (c ∷ line) Nothing) hash (Spells.comment line (ap (λ c. is_utf8 (c ∷ line)) hash ∙ fine))

pub line_back : (line : List ℕ) (m : Meaning) → meaning_of line ≡ Some m → Spells line m
unfolding meaning_of
line_back line m e = text (is_utf8 line) (is_blank line) refl refl e
  where
    text : (utf8 blank : Bool) → is_utf8 line ≡ utf8 → is_blank line ≡ blank → cond utf8 (cond blank (Some Nothing) (sentence line)) None ≡ Some m → Spells line m
    text true true fine hash found = said line Nothing m found (blank_back line fine hash)
    text true false fine hash found = sentence_back line m found
    text false blank fine hash found = absurd (cc)
