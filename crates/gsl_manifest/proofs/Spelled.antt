-- What may be spelled is read as it is meant.
use Rattle.std.proofs.Common.{◌≡◌, ◌≢◌, ℕ, zero, suc, ◌+◌, ◌<◌, ◌≤◌, ◌^◌, true, cond, not, List, [], ◌∷◌, ◌++◌, length, get_or, take, drop, Some, None, refl, ap, ◌∙◌, arith, eqb, ltb, length-append, one-add, inl, inr}
use Rattle.std.proofs.lemmas.Bool.{and_parts, and_from, lt-ltb, le-leb, ne_eqb, eq-eqb, cond-true, cond-false, not_from_false, not-true, ltb-false, cases_Bool}
use Rattle.std.proofs.lemmas.Bool.Decides.{nat_tests}
use Rattle.std.proofs.lemmas.List.{take_at, drop_at}
use Rattle.std.specs.List.{list_all, AllByRecursion}
use Rattle.std.specs.Char.{digit_value}
use Rattle.std.specs.Fmt.{decimal}
use Rattle.std.specs.Str.{is_utf8}
use Rattle.std.specs.Str.Parse.{AllDigits}
use Rattle.gsl_text.specs.Numbers.{◌>>=◌}
use Rattle.gsl_manifest.specs.Numbers.{below_zero, unsigned, number}
use Rattle.gsl_manifest.specs.Fields.{gap_len, field_len, field_at, behind_gap, next_field, number_at, unsigned_at, last, three_at, numbers_at, some_numbers_at, path_at}
use Rattle.gsl_manifest.specs.Spelling.{IsGap, IsPathText, WritesUnsigned, WritesWord, WritesWords}
use Rattle.gsl_manifest.proofs.Printed.{natural_is, decimal_digits, decimal_digits_of, unsigned_digits, number_digits}

-- ---- gaps and fields

gap_len_is : (gap rest : List ℕ) → AllByRecursion (λ byte. byte ≡ 32) gap → gap_len rest ≡ 0 → gap_len (gap ++ rest) ≡ length gap
gap_len_is [] rest all none = none
gap_len_is (b ∷ gap) rest all none =
    cond-true (eqb b 32) (1 + gap_len (gap ++ rest)) 0 (eq-eqb b 32 all.0) ∙ one-add (gap_len (gap ++ rest)) ∙ ap suc (gap_len_is gap rest all.1 none)

behind_is : (gap rest : List ℕ) → IsGap gap → 0 < length rest → gap_len rest ≡ 0 → behind_gap (gap ++ rest) ≡ Some rest
unfolding behind_gap
behind_is gap rest is some none =
    let len : gap_len (gap ++ rest) ≡ length gap = gap_len_is gap rest is.spaces none in
    let first : ltb 0 (gap_len (gap ++ rest)) ≡ true = ap (ltb 0) len ∙ lt-ltb _ _ is.some in
    let more : ltb (gap_len (gap ++ rest)) (length (gap ++ rest)) ≡ true = ap (λ k. ltb k (length (gap ++ rest))) len ∙ lt-ltb _ _ (omega (arith, length-append gap rest)) in
    cond-true _ _ _ (and_from _ _ first more) ∙ ap (λ k. Some (drop k (gap ++ rest))) len ∙ ap Some (drop_at gap rest (length gap) refl)

-- where a field ends
abbrev pub Stops : List ℕ → Type 0
Stops rest = field_len rest ≡ 0

pub gap_stops : (gap rest : List ℕ) → IsGap gap → Stops (gap ++ rest)
gap_stops [] rest is = absurd (omega (arith, is.some))
gap_stops (b ∷ gap) rest is = cond-false (not (eqb b 32)) (1 + field_len (gap ++ rest)) 0 (ap not (eq-eqb b 32 is.spaces.0))

-- bytes with no space among them
abbrev pub Solid : List ℕ → Type 0
Solid field = list_all (λ b. not (eqb b 32)) field ≡ true

field_len_is : (field rest : List ℕ) → Solid field → Stops rest → field_len (field ++ rest) ≡ length field
field_len_is [] rest solid stop = stop
field_len_is (b ∷ field) rest solid stop =
    let parts = and_parts (not (eqb b 32)) _ solid in
    cond-true (not (eqb b 32)) (1 + field_len (field ++ rest)) 0 parts.0 ∙ one-add (field_len (field ++ rest)) ∙ ap suc (field_len_is field rest parts.1 stop)

pub field_at_is : (field rest : List ℕ) → Solid field → Stops rest → field_at (field ++ rest) ≡ (field, rest)
field_at_is field rest solid stop =
    let len : field_len (field ++ rest) ≡ length field = field_len_is field rest solid stop in
    ap (λ k. (take k (field ++ rest), drop k (field ++ rest))) len ∙ ap (λ f. (f, drop (length field) (field ++ rest))) (take_at field rest (length field) refl)
    ∙ ap (λ r. (field, r)) (drop_at field rest (length field) refl)

-- A field: bytes of ASCII with no space among them.
pub record IsField (field : List ℕ) : Type 0 where
  pub some : 0 < length field
  pub solid : Solid field
  pub ascii : list_all (λ b. ltb b 128) field ≡ true

begins_solid : (field rest : List ℕ) → IsField field → gap_len (field ++ rest) ≡ 0
begins_solid [] rest is = absurd (omega (arith, is.some))
begins_solid (b ∷ field) rest is = cond-false (eqb b 32) (1 + gap_len (field ++ rest)) 0 (not-true _ (and_parts (not (eqb b 32)) _ is.solid).0)

next_is : (gap field rest : List ℕ) → IsGap gap → IsField field → Stops rest → next_field (gap ++ (field ++ rest)) ≡ Some (field, rest)
unfolding next_field
next_is gap field rest is f stop =
    ap (λ found. found >>= λ field. Some (field_at field)) (behind_is gap (field ++ rest) is (omega (arith, f.some, length-append field rest)) (begins_solid field rest f))
    ∙ ap Some (field_at_is field rest f.solid stop)

-- ---- numbers

too_large : (v : ℕ) → v < 16 → v ≡ 36 → ⊥
too_large v low same = omega arith

digit_solid : (c : ℕ) → digit_value c < 16 → not (eqb c 32) ≡ true
digit_solid c low = not_from_false _ (ne_eqb c 32 (λ e. too_large (digit_value c) low (ap digit_value e)))

digit_high : (c : ℕ) → 128 ≤ c → digit_value c ≡ 36
digit_high c high = grind (arith, nat_tests)

digit_ascii : (c : ℕ) → digit_value c < 16 → ltb c 128 ≡ true
digit_ascii c low = elim (cases_Bool (ltb c 128)) [
  | inl yes_low ↦ yes_low
  | inr high ↦ absurd (too_large (digit_value c) low (digit_high c (ltb-false c 128 high)))
]

digits_solid : (ds : List ℕ) → AllDigits 16 ds → Solid ds
digits_solid [] all = refl
digits_solid (d ∷ ds) all = and_from _ _ (digit_solid d all.0) (digits_solid ds all.1)

digits_ascii : (ds : List ℕ) → AllDigits 16 ds → list_all (λ b. ltb b 128) ds ≡ true
digits_ascii [] all = refl
digits_ascii (d ∷ ds) all = and_from _ _ (digit_ascii d all.0) (digits_ascii ds all.1)

widen : (ds : List ℕ) → AllDigits 10 ds → AllDigits 16 ds
widen [] all = tt
widen (d ∷ ds) all = (omega (arith, all.0), widen ds all.1)

pub unsigned_field : {field : List ℕ} {n : ℕ} → WritesUnsigned field n → IsField field
unsigned_field (WritesUnsigned.decimal_digits n small) =
    let d = decimal_digits n small in
    record { some = d.some; solid = digits_solid (decimal n) (widen (decimal n) d.all); ascii = digits_ascii (decimal n) (widen (decimal n) d.all) }
unsigned_field (WritesUnsigned.hexadecimal digits some all small) =
    record { some = omega arith; solid = digits_solid digits all; ascii = digits_ascii digits all }

pub unsigned_is : {field : List ℕ} {n : ℕ} → WritesUnsigned field n → unsigned field ≡ Some n
unsigned_is (WritesUnsigned.decimal_digits n small) = unsigned_digits n (decimal n) small (decimal_digits n small)
unsigned_is (WritesUnsigned.hexadecimal digits some all small) = natural_is 16 digits some all small

pub word_field : {field : List ℕ} {n : ℕ} → WritesWord field n → IsField field
word_field (WritesWord.unsigned w) = unsigned_field w
word_field (WritesWord.negative n few) =
    let d = decimal_digits n (omega arith) in
    record { some = omega arith; solid = digits_solid (decimal n) (widen (decimal n) d.all); ascii = digits_ascii (decimal n) (widen (decimal n) d.all) }

number_unsigned : {field : List ℕ} {n : ℕ} → WritesUnsigned field n → number field ≡ Some n
number_unsigned (WritesUnsigned.decimal_digits n small) = number_digits n (decimal n) small (decimal_digits n small)
number_unsigned (WritesUnsigned.hexadecimal digits some all small) = natural_is 16 digits some all small

number_is : {field : List ℕ} {n : ℕ} → WritesWord field n → number field ≡ Some n
number_is (WritesWord.unsigned w) = number_unsigned w
number_is (WritesWord.negative n few) =
    let small : n < 2 ^ 32 = omega arith in
    ap (λ found. found >>= below_zero) (decimal_digits_of n (decimal n) small (decimal_digits n small)) ∙ cond-true _ _ _ (le-leb _ _ few)

-- ---- the fields of a line

number_next : {gap field : List ℕ} {n : ℕ} (rest : List ℕ) → IsGap gap → WritesWord field n → Stops rest → number_at (gap ++ (field ++ rest)) ≡ Some (n, rest)
unfolding number_at
number_next {gap} {field} {n} rest is w stop =
    ap (λ found. found >>= λ field. number field.0 >>= λ m. Some (m, field.1)) (next_is gap field rest is (word_field w) stop)
    ∙ ap (λ found. found >>= λ m. Some (m, rest)) (number_is w)

pub unsigned_next : {gap field : List ℕ} {n : ℕ} (rest : List ℕ) → IsGap gap → WritesUnsigned field n → Stops rest → unsigned_at (gap ++ (field ++ rest)) ≡ Some (n, rest)
unfolding unsigned_at
unsigned_next {gap} {field} {n} rest is w stop =
    ap (λ found. found >>= λ field. unsigned field.0 >>= λ m. Some (m, field.1)) (next_is gap field rest is (unsigned_field w) stop)
    ∙ ap (λ found. found >>= λ m. Some (m, rest)) (unsigned_is w)

pub words_stop : {text ns : List ℕ} → WritesWords text ns → Stops text
words_stop WritesWords.none = refl
words_stop (WritesWords.more {gap} {field} {rest} is w ws) = gap_stops gap (field ++ rest) is

-- one step of the numbers
numbers_first : (most : ℕ) (text : List ℕ) → 0 < length text → numbers_at (suc most) text ≡ (number_at text >>= λ n. numbers_at most n.1 >>= λ ns. Some (n.0 ∷ ns))
unfolding numbers_at
numbers_first most [] some = absurd (omega arith)
numbers_first most (b ∷ text) some = refl

numbers_none : (most : ℕ) → numbers_at most [] ≡ Some []
unfolding numbers_at
numbers_none zero = refl
numbers_none (suc most) = refl

numbers_are : {text ns : List ℕ} → WritesWords text ns → (most : ℕ) → length ns ≤ most → numbers_at most text ≡ Some ns
numbers_are WritesWords.none most few = numbers_none most
numbers_are (WritesWords.more is w ws) zero few = absurd (omega arith)
numbers_are (WritesWords.more {gap} {field} {rest} {n} {ns} is w ws) (suc most) few =
    numbers_first most (gap ++ (field ++ rest)) (omega (arith, is.some, length-append gap (field ++ rest)))
    ∙ ap (λ found. found >>= λ n. numbers_at most n.1 >>= λ ns. Some (n.0 ∷ ns)) (number_next rest is w (words_stop ws))
    ∙ ap (λ found. found >>= λ ms. Some (n ∷ ms)) (numbers_are ws most (omega arith))

pub some_are : {text ns : List ℕ} → WritesWords text ns → (most : ℕ) → 1 ≤ length ns → length ns ≤ most → some_numbers_at most text ≡ Some ns
some_are {text} {ns} ws most some few =
    ap (λ found. found >>= λ ns. cond (ltb 0 (length ns)) (Some ns) None) (numbers_are ws most few) ∙ cond-true _ _ _ (lt-ltb 0 (length ns) some)

pub words_within : {text ns : List ℕ} → WritesWords text ns → length ns ≤ length text
words_within WritesWords.none = omega arith
words_within (WritesWords.more {gap} {field} {rest} is w ws) =
    omega (arith, is.some, words_within ws, length-append gap (field ++ rest), length-append field rest)

pub last_is : {text : List ℕ} {n : ℕ} → WritesWords text (n ∷ []) → last (number_at text) ≡ Some n
last_is (WritesWords.more is w WritesWords.none) = ap last (number_next [] is w refl)

pub three_are : {text ids : List ℕ} → WritesWords text ids → length ids ≡ 3 → three_at text ≡ Some ids
unfolding three_at
three_are WritesWords.none three = absurd (omega arith)
three_are (WritesWords.more is w WritesWords.none) three = absurd (omega arith)
three_are (WritesWords.more is w (WritesWords.more js v WritesWords.none)) three = absurd (omega arith)
three_are (WritesWords.more {n = x} is w (WritesWords.more {n = y} js v (WritesWords.more {n = z} ks u WritesWords.none))) three =
    ap (λ found. found >>= λ a. number_at a.1 >>= λ b. last (number_at b.1) >>= λ c. Some (a.0 ∷ b.0 ∷ c ∷ [])) (number_next _ is w (words_stop (WritesWords.more js v (WritesWords.more ks u WritesWords.none))))
    ∙ ap (λ found. found >>= λ b. last (number_at b.1) >>= λ c. Some (x ∷ b.0 ∷ c ∷ [])) (number_next _ js v (words_stop (WritesWords.more ks u WritesWords.none)))
    ∙ ap (λ found. found >>= λ c. Some (x ∷ y ∷ c ∷ [])) (last_is (WritesWords.more ks u WritesWords.none))
three_are (WritesWords.more is w (WritesWords.more js v (WritesWords.more ks u (WritesWords.more ls t ws)))) three = absurd (omega arith)

pub path_is : {gap path : List ℕ} → IsGap gap → IsPathText path → path_at (gap ++ path) ≡ Some path
unfolding path_at
path_is {gap} {path} is p =
    ap (λ found. found >>= λ q. cond (is_utf8 q) (Some q) None) (behind_is gap path is p.some (first path p.some p.begins)) ∙ cond-true _ _ _ p.text
  where
    first : (path : List ℕ) → 0 < length path → get_or path 0 32 ≢ 32 → gap_len path ≡ 0
    first [] some begins = absurd (omega arith)
    first (b ∷ path) some begins = cond-false (eqb b 32) (1 + gap_len path) 0 (ne_eqb b 32 begins)
