-- A listing tells what it shows: equal listings show equal outputs.
use Rattle.std.proofs.Common.{◌≡◌, ℕ, ◌+◌, ◌*◌, ◌/◌, ◌%◌, ◌^◌, ◌<◌, ◌≤◌, Bool, true, false, cond, List, [], ◌∷◌, ◌++◌, get_or, take, drop, refl, ap, sym, subst, ◌∙◌, arith, ltb, append_assoc, codes, inl, inr}
use Rattle.std.proofs.lemmas.Bool.{ltb-true, cond-true, cond-false, cases_Bool, and_parts, true≢false}
use Rattle.std.proofs.lemmas.Fmt.{decimal_injective, digits_decimal}
use Rattle.std.proofs.lemmas.Str.Parse.{IsNumeralModel, numerals_by_value, tells_all_ascii_digits}
use Rattle.std.specs.Str.{all_ascii_digits}
use Rattle.std.specs.Str.Parse.{digits_value}
use Rattle.std.specs.Char.{is_ascii_digit}
use Rattle.std.specs.List.{flat_map, AllByRecursion}
use Rattle.std.specs.Fmt.{decimal}
use Rattle.gsl_base.specs.declared.input.Buffer.{Buffer}
use Rattle.gsl_base.specs.declared.input.Located.{Located}
use Rattle.gsl_base.specs.declared.input.Output.{Output}
use Rattle.gsl_manifest.specs.Listing.{hex_digit, hex_byte, hex_word, behind_word, word_lines, words_of, left_over, byte_field, left_line, buffer_text, out_text, ending, listing_of, FitsOutput, SameShown}
use Rattle.gsl_base.specs.Ranges.{FitsBuffer, FitsLocated, AreBytes, AreWords}

-- a digit is at most `f`
hex_small : (d : ℕ) → d < 16 → hex_digit d ≤ 102
hex_small d low = elim (cases_Bool (ltb d 10)) [
  | inl small ↦ subst (λ c. c ≤ 102) (sym (cond-true _ (48 + d) (87 + d) small)) (omega (arith, ltb-true d 10 small))
  | inr large ↦ subst (λ c. c ≤ 102) (sym (cond-false _ (48 + d) (87 + d) large)) (omega arith)
]

hex_same : (d e : ℕ) → d < 16 → e < 16 → hex_digit d ≡ hex_digit e → d ≡ e
hex_same d e dl el same = elim (cases_Bool (ltb d 10)) [
  | inl ds ↦ elim (cases_Bool (ltb e 10)) [
    | inl es ↦ let k : 48 + d ≡ 48 + e = sym (cond-true _ _ _ ds) ∙ same ∙ cond-true _ _ _ es in omega arith
    | inr eb ↦ let k : 48 + d ≡ 87 + e = sym (cond-true _ _ _ ds) ∙ same ∙ cond-false _ _ _ eb in absurd (omega (arith, ltb-true d 10 ds))
  ]
  | inr db ↦ elim (cases_Bool (ltb e 10)) [
    | inl es ↦ let k : 87 + d ≡ 48 + e = sym (cond-false _ _ _ db) ∙ same ∙ cond-true _ _ _ es in absurd (omega (arith, ltb-true e 10 es))
    | inr eb ↦ let k : 87 + d ≡ 87 + e = sym (cond-false _ _ _ db) ∙ same ∙ cond-false _ _ _ eb in omega arith
  ]
]

hex_low : (m n : ℕ) → hex_digit (m % 16) ≡ hex_digit (n % 16) → m % 16 ≡ n % 16
hex_low m n same = hex_same (m % 16) (n % 16) (omega arith) (omega arith) same

same_quotient : (a b c d : ℕ) → a / 16 ≡ c → b / 16 ≡ d → c ≡ d → a % 16 ≡ b % 16 → a ≡ b
same_quotient a b c d p q r e = omega arith

-- A word is told by its digits.
record SameDigits (v w : ℕ) : Type 0 where
  d7 : hex_digit (v / 2 ^ 28 % 16) ≡ hex_digit (w / 2 ^ 28 % 16)
  d6 : hex_digit (v / 2 ^ 24 % 16) ≡ hex_digit (w / 2 ^ 24 % 16)
  d5 : hex_digit (v / 2 ^ 20 % 16) ≡ hex_digit (w / 2 ^ 20 % 16)
  d4 : hex_digit (v / 2 ^ 16 % 16) ≡ hex_digit (w / 2 ^ 16 % 16)
  d3 : hex_digit (v / 2 ^ 12 % 16) ≡ hex_digit (w / 2 ^ 12 % 16)
  d2 : hex_digit (v / 2 ^ 8 % 16) ≡ hex_digit (w / 2 ^ 8 % 16)
  d1 : hex_digit (v / 2 ^ 4 % 16) ≡ hex_digit (w / 2 ^ 4 % 16)
  d0 : hex_digit (v % 16) ≡ hex_digit (w % 16)

word_same : (v w : ℕ) → v < 2 ^ 32 → w < 2 ^ 32 → SameDigits v w → v ≡ w
word_same v w vl wl s =
    let e7 : v / 2 ^ 28 ≡ w / 2 ^ 28 = same_quotient (v / 2 ^ 28) (w / 2 ^ 28) 0 0 (omega arith) (omega arith) refl (hex_low _ _ s.d7) in
    let e6 : v / 2 ^ 24 ≡ w / 2 ^ 24 = same_quotient (v / 2 ^ 24) (w / 2 ^ 24) (v / 2 ^ 28) (w / 2 ^ 28) (omega arith) (omega arith) e7 (hex_low _ _ s.d6) in
    let e5 : v / 2 ^ 20 ≡ w / 2 ^ 20 = same_quotient (v / 2 ^ 20) (w / 2 ^ 20) (v / 2 ^ 24) (w / 2 ^ 24) (omega arith) (omega arith) e6 (hex_low _ _ s.d5) in
    let e4 : v / 2 ^ 16 ≡ w / 2 ^ 16 = same_quotient (v / 2 ^ 16) (w / 2 ^ 16) (v / 2 ^ 20) (w / 2 ^ 20) (omega arith) (omega arith) e5 (hex_low _ _ s.d4) in
    let e3 : v / 2 ^ 12 ≡ w / 2 ^ 12 = same_quotient (v / 2 ^ 12) (w / 2 ^ 12) (v / 2 ^ 16) (w / 2 ^ 16) (omega arith) (omega arith) e4 (hex_low _ _ s.d3) in
    let e2 : v / 2 ^ 8 ≡ w / 2 ^ 8 = same_quotient (v / 2 ^ 8) (w / 2 ^ 8) (v / 2 ^ 12) (w / 2 ^ 12) (omega arith) (omega arith) e3 (hex_low _ _ s.d2) in
    let e1 : v / 2 ^ 4 ≡ w / 2 ^ 4 = same_quotient (v / 2 ^ 4) (w / 2 ^ 4) (v / 2 ^ 8) (w / 2 ^ 8) (omega arith) (omega arith) e2 (hex_low _ _ s.d1) in
    same_quotient v w (v / 2 ^ 4) (w / 2 ^ 4) refl refl e1 (hex_low _ _ s.d0)

byte_same : (a b : ℕ) → a < 256 → b < 256 → hex_byte a ≡ hex_byte b → a ≡ b
byte_same a b al bl same =
    let high : hex_digit (a / 16 % 16) ≡ hex_digit (b / 16 % 16) = cc in
    let low : hex_digit (a % 16) ≡ hex_digit (b % 16) = cc in
    let e1 : a / 16 ≡ b / 16 = same_quotient (a / 16) (b / 16) 0 0 (omega arith) (omega arith) refl (hex_low _ _ high) in
    same_quotient a b (a / 16) (b / 16) refl refl e1 (hex_low _ _ low)

-- eight digits and what stands behind them
digits_same : (v w : ℕ) (r s : List ℕ) → hex_word v ++ r ≡ hex_word w ++ s → SameDigits v w × (r ≡ s)
digits_same v w r s e = (record { d7 = cc; d6 = cc; d5 = cc; d4 = cc; d3 = cc; d2 = cc; d1 = cc; d0 = cc }, cc)

-- What follows the lines of words: its second byte is no digit, and it is no line of bytes that are left over.
record Follows (rest : List ℕ) : Type 0 where
  no_word : 102 < get_or rest 1 120
  no_bytes : get_or rest 1 120 ≡ 121 → ⊥

second_digit : (w : ℕ) (r s : List ℕ) → r ≡ hex_word w ++ s → get_or r 1 120 ≤ 102
second_digit w r s e = subst (λ c. c ≤ 102) (sym (ap (λ l. get_or l 1 120) e)) (hex_small (w / 2 ^ 24 % 16) (omega arith))

lines_same : (i j : ℕ) (vs ws r s : List ℕ) → AreWords vs → AreWords ws → 102 < get_or r 1 120 → 102 < get_or s 1 120 → word_lines i vs ++ r ≡ word_lines j ws ++ s → (vs ≡ ws) × (r ≡ s)
lines_same i j [] [] r s vf wf rl sl e = (refl, e)
lines_same i j [] (w ∷ ws) r s vf wf rl sl e = absurd (omega (arith, second_digit w r (behind_word j ws ∷ (word_lines (j + 1) ws ++ s)) e))
lines_same i j (v ∷ vs) [] r s vf wf rl sl e = absurd (omega (arith, second_digit v s (behind_word i vs ∷ (word_lines (i + 1) vs ++ r)) (sym e)))
lines_same i j (v ∷ vs) (w ∷ ws) r s vf wf rl sl e =
    let d = digits_same v w (behind_word i vs ∷ (word_lines (i + 1) vs ++ r)) (behind_word j ws ∷ (word_lines (j + 1) ws ++ s)) e in
    let first : v ≡ w = word_same v w vf.0 wf.0 d.0 in
    let behind : word_lines (i + 1) vs ++ r ≡ word_lines (j + 1) ws ++ s = ap (drop 1) d.1 in
    let rest = lines_same (i + 1) (j + 1) vs ws r s vf.1 wf.1 rl sl behind in
    (ap (λ x. x ∷ vs) first ∙ ap (λ xs. w ∷ xs) rest.0, rest.1)

line_goes_on : ◌≡◌ {A = ℕ} 32 10 → ⊥
line_goes_on e = omega arith

fields_same : (us bs r s : List ℕ) → AreBytes us → AreBytes bs → (flat_map byte_field us ++ 10 ∷ []) ++ r ≡ (flat_map byte_field bs ++ 10 ∷ []) ++ s → (us ≡ bs) × (r ≡ s)
fields_same [] [] r s af bf e = (refl, ap (drop 1) e)
fields_same [] (b ∷ bs) r s af bf e = absurd (line_goes_on (sym (ap (λ l. get_or l 0 0) e)))
fields_same (a ∷ us) [] r s af bf e = absurd (line_goes_on (ap (λ l. get_or l 0 0) e))
fields_same (a ∷ us) (b ∷ bs) r s af bf e =
    let here : a ≡ b = byte_same a b af.0 bf.0 (ap (λ l. take 2 (drop 1 l)) e) in
    let rest = fields_same us bs r s af.1 bf.1 (ap (drop 3) e) in
    (ap (λ x. x ∷ us) here ∙ ap (λ xs. b ∷ xs) rest.0, rest.1)

left_same : (us bs r s : List ℕ) → AreBytes us → AreBytes bs → (get_or r 1 120 ≡ 121 → ⊥) → (get_or s 1 120 ≡ 121 → ⊥) → left_line us ++ r ≡ left_line bs ++ s → (us ≡ bs) × (r ≡ s)
left_same [] [] r s af bf rl sl e = (refl, e)
left_same [] (b ∷ bs) r s af bf rl sl e = absurd (rl (ap (λ l. get_or l 1 120) e))
left_same (a ∷ us) [] r s af bf rl sl e = absurd (sl (ap (λ l. get_or l 1 120) (sym e)))
left_same (a ∷ us) (b ∷ bs) r s af bf rl sl e = fields_same (a ∷ us) (b ∷ bs) r s af bf (ap (drop 5) e)

-- the bytes of words and those that are left over
bytes_in : ℕ → List ℕ
bytes_in w = w % 2 ^ 8 ∷ w / 2 ^ 8 % 2 ^ 8 ∷ w / 2 ^ 16 % 2 ^ 8 ∷ w / 2 ^ 24 ∷ []

word_bytes : (a b c d : ℕ) → a < 256 → b < 256 → c < 256 → d < 256 → bytes_in (a + 2 ^ 8 * b + 2 ^ 16 * c + 2 ^ 24 * d) ≡ a ∷ b ∷ c ∷ d ∷ []
unfolding bytes_in
word_bytes a b c d al bl cl dl =
    let w : ℕ = a + 2 ^ 8 * b + 2 ^ 16 * c + 2 ^ 24 * d in
    let e0 : w % 2 ^ 8 ≡ a = omega arith in
    let e1 : w / 2 ^ 8 % 2 ^ 8 ≡ b = omega arith in
    let e2 : w / 2 ^ 16 % 2 ^ 8 ≡ c = omega arith in
    let e3 : w / 2 ^ 24 ≡ d = omega arith in
    cc

joined : (bytes : List ℕ) → AreBytes bytes → flat_map bytes_in (words_of bytes) ++ left_over bytes ≡ bytes
joined [] fit = refl
joined (a ∷ []) fit = refl
joined (a ∷ b ∷ []) fit = refl
joined (a ∷ b ∷ c ∷ []) fit = refl
joined (a ∷ b ∷ c ∷ d ∷ bytes) fit =
    append_assoc (bytes_in (a + 2 ^ 8 * b + 2 ^ 16 * c + 2 ^ 24 * d)) (flat_map bytes_in (words_of bytes)) (left_over bytes)
    ∙ ap (λ front. front ++ (flat_map bytes_in (words_of bytes) ++ left_over bytes)) (word_bytes a b c d fit.0 fit.1.0 fit.1.1.0 fit.1.1.1.0)
    ∙ ap (λ rest. a ∷ b ∷ c ∷ d ∷ rest) (joined bytes fit.1.1.1.1)

words_fit : (bytes : List ℕ) → AreBytes bytes → AreWords (words_of bytes)
words_fit [] fit = tt
words_fit (a ∷ []) fit = tt
words_fit (a ∷ b ∷ []) fit = tt
words_fit (a ∷ b ∷ c ∷ []) fit = tt
words_fit (a ∷ b ∷ c ∷ d ∷ bytes) fit =
    let al : a < 256 = fit.0 in
    let bl : b < 256 = fit.1.0 in
    let cl : c < 256 = fit.1.1.0 in
    let dl : d < 256 = fit.1.1.1.0 in
    (omega arith, words_fit bytes fit.1.1.1.1)

left_fit : (bytes : List ℕ) → AreBytes bytes → AreBytes (left_over bytes)
left_fit [] fit = tt
left_fit (a ∷ []) fit = fit
left_fit (a ∷ b ∷ []) fit = fit
left_fit (a ∷ b ∷ c ∷ []) fit = fit
left_fit (a ∷ b ∷ c ∷ d ∷ bytes) fit = left_fit bytes fit.1.1.1.1

-- decimal digits and what stands behind them
numeral : IsNumeralModel (λ ds. all_ascii_digits ds ≡ true) (digits_value 10)
numeral = numerals_by_value _ tells_all_ascii_digits

digits_cut : (ds es r s : List ℕ) (x y : ℕ) → all_ascii_digits ds ≡ true → all_ascii_digits es ≡ true → is_ascii_digit x ≡ false → is_ascii_digit y ≡ false →
    ds ++ x ∷ r ≡ es ++ y ∷ s → (ds ≡ es) × (r ≡ s)
digits_cut [] [] r s x y da ea xn yn e = (refl, ap (drop 1) e)
digits_cut [] (c ∷ es) r s x y da ea xn yn e =
    let same : x ≡ c = ap (λ l. get_or l 0 0) e in
    absurd (true≢false (sym (and_parts _ _ ea).0 ∙ sym (ap is_ascii_digit same) ∙ xn))
digits_cut (d ∷ ds) [] r s x y da ea xn yn e =
    let same : d ≡ y = ap (λ l. get_or l 0 0) e in
    absurd (true≢false (sym (and_parts _ _ da).0 ∙ ap is_ascii_digit same ∙ yn))
digits_cut (d ∷ ds) (c ∷ es) r s x y da ea xn yn e =
    let same : d ≡ c = ap (λ l. get_or l 0 0) e in
    let rest = digits_cut ds es r s x y (and_parts (is_ascii_digit d) _ da).1 (and_parts (is_ascii_digit c) _ ea).1 xn yn (ap (drop 1) e) in
    (ap (λ z. z ∷ ds) same ∙ ap (λ zs. c ∷ zs) rest.0, rest.1)

decimal_cut : (m n : ℕ) (r s : List ℕ) (x : ℕ) → m < 2 ^ 32 → n < 2 ^ 32 → is_ascii_digit x ≡ false → decimal m ++ x ∷ r ≡ decimal n ++ x ∷ s → (m ≡ n) × (r ≡ s)
decimal_cut m n r s x ml nl xn e =
    let mw : m < 2 ^ 64 = omega arith in
    let nw : n < 2 ^ 64 = omega arith in
    let cut = digits_cut (decimal m) (decimal n) r s x x (digits_decimal numeral m mw) (digits_decimal numeral n nw) xn xn e in
    (decimal_injective m n mw nw cut.0, cut.1)

abbrev buffer_of : ℕ → ℕ → List ℕ → Buffer
buffer_of set binding bytes = record { set = set; binding = binding; bytes = bytes }

one_buffer : (a b : Buffer) → a.set ≡ b.set → a.binding ≡ b.binding → a.bytes ≡ b.bytes → a ≡ b
one_buffer a b one two three = ap (λ x. buffer_of x a.binding a.bytes) one ∙ ap (λ x. buffer_of b.set x a.bytes) two ∙ ap (buffer_of b.set b.binding) three

abbrev located_of : ℕ → List ℕ → Located
located_of location words = record { location = location; words = words }

one_located : (a b : Located) → a.location ≡ b.location → a.words ≡ b.words → a ≡ b
one_located a b one two = ap (λ x. located_of x a.words) one ∙ ap (located_of b.location) two

-- the text of a buffer by its parts
buffer_parts : (b : Buffer) (r : List ℕ) → buffer_text b ++ r ≡ codes "buffer " ++ (decimal b.set ++ 32 ∷ (decimal b.binding ++ 10 ∷ (word_lines 0 (words_of b.bytes) ++ (left_line (left_over b.bytes) ++ r))))
buffer_parts b r = simp append_assoc

buffer_same : (a b : Buffer) (r s : List ℕ) → FitsBuffer a → FitsBuffer b → Follows r → Follows s → buffer_text a ++ r ≡ buffer_text b ++ s → (a ≡ b) × (r ≡ s)
buffer_same a b r s af bf rf sf e =
    let set = decimal_cut a.set b.set _ _ 32 af.set bf.set refl (ap (drop 7) (sym (buffer_parts a r) ∙ e ∙ buffer_parts b s)) in
    let binding = decimal_cut a.binding b.binding _ _ 10 af.binding bf.binding refl set.1 in
    let words = lines_same 0 0 (words_of a.bytes) (words_of b.bytes) _ _ (words_fit a.bytes af.bytes) (words_fit b.bytes bf.bytes)
    (behind_left (left_over a.bytes) r rf.no_word) (behind_left (left_over b.bytes) s sf.no_word) binding.1 in
    let left = left_same (left_over a.bytes) (left_over b.bytes) r s (left_fit a.bytes af.bytes) (left_fit b.bytes bf.bytes) rf.no_bytes sf.no_bytes words.1 in
    let bytes : a.bytes ≡ b.bytes = sym (joined a.bytes af.bytes) ∙ ap (λ ws. flat_map bytes_in ws ++ left_over a.bytes) words.0
    ∙ ap (λ l. flat_map bytes_in (words_of b.bytes) ++ l) left.0 ∙ joined b.bytes bf.bytes in
    (one_buffer a b set.0 binding.0 bytes, left.1)
  where
    behind_left : (left rest : List ℕ) → 102 < get_or rest 1 120 → 102 < get_or (left_line left ++ rest) 1 120
    behind_left [] rest low = low
    behind_left (byte ∷ left) rest low = omega arith

buffers_follow : (bs : List Buffer) (r : List ℕ) → Follows r → Follows (flat_map buffer_text bs ++ r)
buffers_follow [] r f = f
buffers_follow (b ∷ bs) r f = record { no_word = omega arith; no_bytes = λ e. let k : 117 ≡ 121 = e in absurd (omega arith) }

buffers_same : (us bs : List Buffer) (r s : List ℕ) → AllByRecursion FitsBuffer us → AllByRecursion FitsBuffer bs → Follows r → Follows s → (get_or r 0 0 ≡ 98 → ⊥) → (get_or s 0 0 ≡ 98 → ⊥) →
    flat_map buffer_text us ++ r ≡ flat_map buffer_text bs ++ s → (us ≡ bs) × (r ≡ s)
buffers_same [] [] r s af bf rf sf rn sn e = (refl, e)
buffers_same [] (b ∷ bs) r s af bf rf sf rn sn e = absurd (rn (ap (λ l. get_or l 0 0) e))
buffers_same (a ∷ us) [] r s af bf rf sf rn sn e = absurd (sn (ap (λ l. get_or l 0 0) (sym e)))
buffers_same (a ∷ us) (b ∷ bs) r s af bf rf sf rn sn e =
    let one = buffer_same a b (flat_map buffer_text us ++ r) (flat_map buffer_text bs ++ s) af.0 bf.0 (buffers_follow us r rf) (buffers_follow bs s sf)
    (sym (append_assoc (buffer_text a) (flat_map buffer_text us) r) ∙ e ∙ append_assoc (buffer_text b) (flat_map buffer_text bs) s) in
    let rest = buffers_same us bs r s af.1 bf.1 rf sf rn sn one.1 in
    (ap (λ x. x ∷ us) one.0 ∙ ap (λ xs. b ∷ xs) rest.0, rest.1)

out_parts : (o : Located) (r : List ℕ) → out_text o ++ r ≡ codes "out " ++ (decimal o.location ++ 10 ∷ (word_lines 0 o.words ++ r))
out_parts o r = simp append_assoc

out_same : (a b : Located) (r s : List ℕ) → FitsLocated a → FitsLocated b → 102 < get_or r 1 120 → 102 < get_or s 1 120 → out_text a ++ r ≡ out_text b ++ s → (a ≡ b) × (r ≡ s)
out_same a b r s af bf rf sf e =
    let location = decimal_cut a.location b.location _ _ 10 af.location bf.location refl (ap (drop 4) (sym (out_parts a r) ∙ e ∙ out_parts b s)) in
    let words = lines_same 0 0 a.words b.words r s af.words bf.words rf sf location.1 in
    (one_located a b location.0 words.0, words.1)

outs_follow : (os : List Located) → 102 < get_or (flat_map out_text os) 1 120
outs_follow [] = omega arith
outs_follow (o ∷ os) = omega arith

outs_same : (us bs : List Located) → AllByRecursion FitsLocated us → AllByRecursion FitsLocated bs → flat_map out_text us ≡ flat_map out_text bs → us ≡ bs
outs_same [] [] af bf e = refl
outs_same [] (b ∷ bs) af bf e = absurd (cc)
outs_same (a ∷ us) [] af bf e = absurd (cc)
outs_same (a ∷ us) (b ∷ bs) af bf e =
    let one = out_same a b (flat_map out_text us) (flat_map out_text bs) af.0 bf.0 (outs_follow us) (outs_follow bs) e in
    ap (λ x. x ∷ us) one.0 ∙ ap (λ xs. b ∷ xs) (outs_same us bs af.1 bf.1 one.1)

end_follows : (killed : Bool) (os : List Located) → Follows (cond killed (codes "discarded\n") (flat_map out_text os)) × (get_or (cond killed (codes "discarded\n") (flat_map out_text os)) 0 0 ≡ 98 → ⊥)
end_follows true os = (record { no_word = omega arith; no_bytes = λ e. let k : 105 ≡ 121 = e in absurd (omega arith) }, λ e. let k : 100 ≡ 98 = e in absurd (omega arith))
end_follows false [] = (record { no_word = omega arith; no_bytes = λ e. let k : 120 ≡ 121 = e in absurd (omega arith) }, λ e. let k : 0 ≡ 98 = e in absurd (omega arith))
end_follows false (o ∷ os) = (record { no_word = omega arith; no_bytes = λ e. let k : 117 ≡ 121 = e in absurd (omega arith) }, λ e. let k : 111 ≡ 98 = e in absurd (omega arith))

not_discarded : ◌≡◌ {A = ℕ} 111 100 → ⊥
not_discarded e = omega arith

end_same : (j k : Bool) (us bs : List Located) → AllByRecursion FitsLocated us → AllByRecursion FitsLocated bs →
    cond j (codes "discarded\n") (flat_map out_text us) ≡ cond k (codes "discarded\n") (flat_map out_text bs) → (j ≡ k) × (j ≡ false → us ≡ bs)
end_same true true us bs af bf e = (refl, λ f. absurd (true≢false f))
end_same false false us bs af bf e = (refl, λ f. outs_same us bs af bf e)
end_same true false us [] af bf e = absurd (cc)
end_same true false us (b ∷ bs) af bf e = absurd (not_discarded (sym (ap (λ l. get_or l 0 0) e)))
end_same false true [] bs af bf e = absurd (cc)
end_same false true (a ∷ us) bs af bf e = absurd (not_discarded (ap (λ l. get_or l 0 0) e))

-- equal listings show equal outputs
pub told : (o p : Output) → FitsOutput o → FitsOutput p → listing_of o ≡ listing_of p → SameShown o p
told o p ofit pfit e =
    let oe = end_follows o.killed o.outs in
    let pe = end_follows p.killed p.outs in
    let both = buffers_same o.buffers p.buffers (ending o) (ending p) ofit.buffers pfit.buffers oe.0 pe.0 oe.1 pe.1 e in
    let ends = end_same o.killed p.killed o.outs p.outs ofit.outs pfit.outs both.1 in
    record { buffers = both.0; killed = ends.0; outs = ends.1 }
