-- What the test of operand words finds is what the table has room for.
use Rattle.std.proofs.Common.{◌⊎◌, inl, inr, ⊎_elim, ◌≡◌, ◌≢◌, ℕ, zero, suc, ◌+◌, ◌/◌, ◌%◌, ◌-◌, ◌^◌, ◌<◌, ◌≤◌, Bool, true, false, not, cond, ◌&&◌, ◌||◌, eqb, ltb, leb, IsTrue, List, [], ◌∷◌, ◌++◌, length, take, drop, Option, Some, None, refl, ap, sym, subst, ◌∙◌, arith, length-append, length-drop, lit<}
use Rattle.std.proofs.lemmas.Bool.{true≢false, and_parts, and_from, or_from, lt-ltb, le-ltb, leb-true, le-leb, ltb-true, ltb-false, cond-true, cond-false, ne_eqb, eq-eqb, eqb-true}
use Rattle.std.proofs.lemmas.List.Elements.{All-nil, All-cons, All-head, All-tail}
use Rattle.std.proofs.lemmas.Str.{IsUtf8-from_is_utf8, is_utf8-from_IsUtf8}
use Rattle.std.specs.Prelude.{All, find}
use Rattle.std.specs.Option.{option_map}
use Rattle.std.specs.Str.{is_utf8}
use Rattle.gsl_base.specs.Ranges.{AreWords, AreBytes}
use Rattle.gsl_instr.specs.declared.slot.Slot.{Slot}
use Rattle.gsl_instr.specs.declared.slot.Slot.TheVariants.{Result, Id, Forward, Number, Named, OfDecoration, Text}
use Rattle.gsl_instr.specs.declared.form.Form.{Form}
use Rattle.gsl_instr.specs.declared.slot.Enumeration.TheVariants.{Model}
use Rattle.gsl_instr.specs.declared.form.Form.TheVariants as form
use Rattle.gsl_instr.specs.declared.form.TheConstants.{TABLE}
use Rattle.gsl_instr.specs.Strings.{word_of, string_words, IsText}
use Rattle.gsl_instr.specs.Texts.{bytes_of, is_full, last_len, onto, text_at}
use Rattle.gsl_instr.specs.Forms.{form_of, slots, rest, allows, is_text, has_text, allows_words}
use Rattle.gsl_instr.specs.Fitting.{TakesWord, Takes, Fill, Fits, is_text_of, fits_text}
use Rattle.gsl_instr.proofs.Utf8.{utf8_bytes}

-- no byte is zero
abbrev pub Nonzero : List ℕ → Type 0
Nonzero text = All (λ byte. byte ≢ 0) text

-- Words and their bytes ----------------------------------------------------------------------------------------

not_or : (a b : Bool) → not (a || b) ≡ true → (a ≡ false) × (b ≡ false)
not_or true b e = absurd (cc)
not_or false true e = absurd (cc)
not_or false false e = (refl, refl)

not_eqb : (n : ℕ) → eqb n 0 ≡ false → n ≢ 0
not_eqb n f e = true≢false (sym (eq-eqb n 0 e) ∙ f)

full_parts : (w : ℕ) → is_full w ≡ true → (w % 256 ≢ 0) × (w / 256 % 256 ≢ 0) × (w / 65536 % 256 ≢ 0)
full_parts w full =
    let p = not_or (eqb (w % 256) 0 || eqb (w / 256 % 256) 0) (eqb (w / 65536 % 256) 0) full in
    let q = not_or (eqb (w % 256) 0) (eqb (w / 256 % 256) 0) (ap not p.0) in
    (not_eqb _ q.0, not_eqb _ q.1, not_eqb _ p.1)

full_from : (w : ℕ) → w % 256 ≢ 0 → w / 256 % 256 ≢ 0 → w / 65536 % 256 ≢ 0 → is_full w ≡ true
full_from w a b c = ap not (or_from _ _ (or_from _ _ (ne_eqb _ _ a) (ne_eqb _ _ b)) (ne_eqb _ _ c))

word_full : (w : ℕ) → w < 2 ^ 32 → word_of (w % 256) (w / 256 % 256) (w / 65536 % 256) (w / 16777216 % 256) ≡ w
word_full w small = omega arith

chosen : {A : Type 0} (t : Bool) (x y z : A) → cond t x y ≡ z → ((t ≡ true) × (x ≡ z)) ⊎ ((t ≡ false) × (y ≡ z))
chosen true x y z e = inl (refl, e)
chosen false x y z e = inr (refl, e)

-- the last word of a text of so many bytes
abbrev Last : ℕ → ℕ → Type 0
Last w len = (string_words (take len (bytes_of w)) ≡ w ∷ []) × Nonzero (take len (bytes_of w))

nonzero_cons : (b : ℕ) (bytes : List ℕ) → b ≢ 0 → Nonzero bytes → Nonzero (b ∷ bytes)
nonzero_cons b bytes some all = All-cons (λ byte. byte ≢ 0) b bytes some all

nonzero_nil : Nonzero []
nonzero_nil = All-nil (λ byte. byte ≢ 0)

last_0 : (w : ℕ) → w ≡ 0 → Last w 0
last_0 w e = (ap (λ n. n ∷ []) (sym e), nonzero_nil)

last_1 : (w : ℕ) → w % 256 ≢ 0 → w < 256 → Last w 1
last_1 w a small = let e : word_of (w % 256) 0 0 0 ≡ w = omega arith in (ap (λ n. n ∷ []) e, nonzero_cons _ [] a nonzero_nil)

last_2 : (w : ℕ) → w % 256 ≢ 0 → w / 256 % 256 ≢ 0 → w < 65536 → Last w 2
last_2 w a b small = let e : word_of (w % 256) (w / 256 % 256) 0 0 ≡ w = omega arith in (ap (λ n. n ∷ []) e, nonzero_cons _ (w / 256 % 256 ∷ []) a (nonzero_cons _ [] b nonzero_nil))

last_3 : (w : ℕ) → w % 256 ≢ 0 → w / 256 % 256 ≢ 0 → 65536 ≤ w → w < 2 ^ 24 → Last w 3
last_3 w a b large small =
    let e : word_of (w % 256) (w / 256 % 256) (w / 65536 % 256) 0 ≡ w = omega arith in
    let c : w / 65536 % 256 ≢ 0 = omega arith in
    (ap (λ n. n ∷ []) e, nonzero_cons _ (w / 256 % 256 ∷ w / 65536 % 256 ∷ []) a (nonzero_cons _ (w / 65536 % 256 ∷ []) b (nonzero_cons _ [] c nonzero_nil)))

same_len : (w n len : ℕ) → Last w n → Some n ≡ Some len → Last w len
same_len w n len last e = let m : n ≡ len = cc in subst (Last w) m last

-- what the last word says is what it stands for
last_is : (w len : ℕ) → w < 2 ^ 24 → last_len w ≡ Some len → Last w len
last_is w len small e = ⊎_elim (λ p. same_len w 0 len (last_0 w (eqb-true _ _ p.0)) p.1) (λ p. ⊎_elim (λ q. absurd (none q.1)) (λ q. some_more (not_eqb _ q.0) q.1) (chosen _ _ _ _ p.1)) (chosen _ _ _ _ e)
  where
    none : {n : ℕ} → None ≡ Some n → ⊥
    none e = cc

    some_last : w % 256 ≢ 0 → 256 ≤ w → w / 256 % 256 ≢ 0 → cond (ltb w 65536) (Some 2) (Some 3) ≡ Some len → Last w len
    some_last a large b e = ⊎_elim (λ p. same_len w 2 len (last_2 w a b (ltb-true _ _ p.0)) p.1) (λ p. same_len w 3 len (last_3 w a b (ltb-false _ _ p.0) small) p.1) (chosen _ _ _ _ e)

    some_more : w % 256 ≢ 0 → cond (ltb w 256) (Some 1) (cond (eqb (w / 256 % 256) 0) None (cond (ltb w 65536) (Some 2) (Some 3))) ≡ Some len → Last w len
    some_more a e =
        ⊎_elim (λ p. same_len w 1 len (last_1 w a (ltb-true _ _ p.0)) p.1)
        (λ p. ⊎_elim (λ q. absurd (none q.1)) (λ q. some_last a (ltb-false _ _ p.0) (not_eqb _ q.0) q.1) (chosen _ _ _ _ p.1)) (chosen _ _ _ _ e)

-- Texts ----------------------------------------------------------------------------------------------------------

-- A text stands in front of some words.
abbrev pub Stands : List ℕ → List ℕ → List ℕ → Type 0
Stands words text more = (words ≡ string_words text ++ more) × Nonzero text

ended : (w : ℕ) (words text more : List ℕ) → w < 2 ^ 24 → (l : Option ℕ) → last_len w ≡ l → option_map {U = List ℕ × List ℕ} (λ (len : ℕ). (take len (bytes_of w), words)) l ≡ Some (text, more) → Stands (w ∷ words) text more
ended w words text more small None is e = absurd (cc)
ended w words text more small (Some len) is e =
    let last = last_is w len small is in
    let pair : (take len (bytes_of w), words) ≡ (text, more) = cc in
    let t : take len (bytes_of w) ≡ text = ap (λ (r : List ℕ × List ℕ). r.0) pair in
    let k : words ≡ more = ap (λ (r : List ℕ × List ℕ). r.1) pair in
    (ap (λ l. l ++ words) (sym last.0) ∙ ap (λ l. string_words l ++ words) t ∙ ap (λ l. string_words text ++ l) k, subst Nonzero t last.1)

top : (w : ℕ) → 2 ^ 24 ≤ w → w < 2 ^ 32 → w / 16777216 % 256 ≢ 0
top w large small = omega arith

further : (w : ℕ) (words text more : List ℕ) → 2 ^ 24 ≤ w → w < 2 ^ 32 → is_full w ≡ true → (found : Option (List ℕ × List ℕ)) →
    ((t k : List ℕ) → found ≡ Some (t, k) → Stands words t k) → onto (bytes_of w) found ≡ Some (text, more) → Stands (w ∷ words) text more
further w words text more large small full None there e = absurd (cc)
further w words text more large small full (Some r) there e =
    let pair : (bytes_of w ++ r.0, r.1) ≡ (text, more) = cc in
    let last : w / 16777216 % 256 ≢ 0 = top w large small in
    let t : bytes_of w ++ r.0 ≡ text = ap (λ (x : List ℕ × List ℕ). x.0) pair in
    let k : r.1 ≡ more = ap (λ (x : List ℕ × List ℕ). x.1) pair in
    let parts = full_parts w full in
    let rest = there r.0 r.1 refl in
    let all : Nonzero (bytes_of w ++ r.0) =
    nonzero_cons (w % 256) (w / 256 % 256 ∷ w / 65536 % 256 ∷ w / 16777216 % 256 ∷ r.0) parts.0
    (nonzero_cons (w / 256 % 256) (w / 65536 % 256 ∷ w / 16777216 % 256 ∷ r.0) parts.1
    (nonzero_cons (w / 65536 % 256) (w / 16777216 % 256 ∷ r.0) parts.2 (nonzero_cons (w / 16777216 % 256) r.0 last rest.1))) in (
      ap (λ n. n ∷ words) (sym (word_full w small)) ∙ ap (λ l. word_of (w % 256) (w / 256 % 256) (w / 65536 % 256) (w / 16777216 % 256) ∷ l) rest.0
          ∙ ap (λ l. string_words l ++ r.1) t ∙ ap (λ l. string_words text ++ l) k,
      subst Nonzero t all,
    )

-- a text that was read stands there
pub text_is : (words : List ℕ) (text more : List ℕ) → AreWords words → text_at words ≡ Some (text, more) → Stands words text more
unfolding text_at
text_is [] text more fit e = absurd (cc)
text_is (w ∷ words) text more fit e =
    ⊎_elim (λ p. ended w words text more (ltb-true _ _ p.0) (last_len w) refl p.1)
    (λ p. ⊎_elim (λ q. further w words text more (ltb-false _ _ p.0) fit.0 q.0 (text_at words) (λ t k is. text_is words t k fit.1 is) q.1) (λ q. absurd (none q.1)) (chosen _ _ _ _ p.1)) (chosen _ _ _ _ e)
  where
    none : {r : List ℕ × List ℕ} → None ≡ Some r → ⊥
    none e = cc

-- the four bytes of a word
record HasBytes (w a b c d : ℕ) : Type 0 where
  first : w % 256 ≡ a
  second : w / 256 % 256 ≡ b
  third : w / 65536 % 256 ≡ c
  fourth : w / 16777216 % 256 ≡ d

bytes_are : (a b c d : ℕ) → a < 256 → b < 256 → c < 256 → d < 256 → HasBytes (word_of a b c d) a b c d
bytes_are a b c d ha hb hc hd = record { first = omega arith; second = omega arith; third = omega arith; fourth = omega arith }

all_bytes : (w a b c d : ℕ) → HasBytes w a b c d → bytes_of w ≡ a ∷ b ∷ c ∷ d ∷ []
all_bytes w a b c d has = rw (has.first, has.second, has.third, has.fourth) refl

ne : (x y : ℕ) → x ≡ y → y ≢ 0 → x ≢ 0
ne x y e n f = n (sym e ∙ f)

reads_1 : (w a b c d : ℕ) → HasBytes w a b c d → a ≢ 0 → w < 256 → last_len w ≡ Some 1
reads_1 w a b c d has some small =
    cond-false _ _ _ (ne_eqb w 0 (λ e. ne _ a has.first some (omega arith))) ∙ cond-false _ _ _ (ne_eqb _ 0 (ne _ a has.first some)) ∙ cond-true _ _ _ (lt-ltb _ _ small)

reads_2 : (w a b c d : ℕ) → HasBytes w a b c d → a ≢ 0 → b ≢ 0 → 256 ≤ w → w < 65536 → last_len w ≡ Some 2
reads_2 w a b c d has some more large small =
    cond-false _ _ _ (ne_eqb w 0 (λ e. omega arith)) ∙ cond-false _ _ _ (ne_eqb _ 0 (ne _ a has.first some)) ∙ cond-false _ _ _ (le-ltb _ _ large)
    ∙ cond-false _ _ _ (ne_eqb _ 0 (ne _ b has.second more)) ∙ cond-true _ _ _ (lt-ltb _ _ small)

reads_3 : (w a b c d : ℕ) → HasBytes w a b c d → a ≢ 0 → b ≢ 0 → 65536 ≤ w → last_len w ≡ Some 3
reads_3 w a b c d has some more large =
    cond-false _ _ _ (ne_eqb w 0 (λ e. omega arith)) ∙ cond-false _ _ _ (ne_eqb _ 0 (ne _ a has.first some)) ∙ cond-false (ltb w 256) _ _ (le-ltb w 256 (omega arith))
    ∙ cond-false _ _ _ (ne_eqb _ 0 (ne _ b has.second more)) ∙ cond-false _ _ _ (le-ltb _ _ large)

end_gives : (w len : ℕ) (text more : List ℕ) → w < 2 ^ 24 → last_len w ≡ Some len → take len (bytes_of w) ≡ text → text_at (w ∷ more) ≡ Some (text, more)
unfolding text_at
end_gives w len text more small last is =
    cond-true _ _ _ (lt-ltb _ _ small) ∙ ap (λ l. option_map {U = List ℕ × List ℕ} (λ (n : ℕ). (take n (bytes_of w), more)) l) last ∙ ap (λ t. Some (t, more)) is

word_gives : (w a b c d : ℕ) (text words more : List ℕ) → HasBytes w a b c d → 2 ^ 24 ≤ w → a ≢ 0 → b ≢ 0 → c ≢ 0 → text_at words ≡ Some (text, more) → text_at (w ∷ words) ≡ Some (a ∷ b ∷ c ∷ d ∷ text, more)
unfolding text_at
word_gives w a b c d text words more has large na nb nc there =
    cond-false _ _ _ (le-ltb _ _ large) ∙ cond-true _ _ _ (full_from w (ne _ a has.first na) (ne _ b has.second nb) (ne _ c has.third nc))
    ∙ ap (onto (bytes_of w)) there ∙ ap (λ l. Some (l ++ text, more)) (all_bytes w a b c d has)

head_some : (b : ℕ) (text : List ℕ) → Nonzero (b ∷ text) → b ≢ 0
head_some b text all = All-head (λ byte. byte ≢ 0) b text all

tail_some : (b : ℕ) (text : List ℕ) → Nonzero (b ∷ text) → Nonzero text
tail_some b text all = All-tail (λ byte. byte ≢ 0) b text all

-- a text that stands there is read
pub text_gives : (text more : List ℕ) → Nonzero text → AreBytes text → text_at (string_words text ++ more) ≡ Some (text, more)
text_gives [] more all small = end_gives 0 0 [] more (lit< tt) refl refl
text_gives (a ∷ []) more all small =
    let has = bytes_are a 0 0 0 small.0 (lit< tt) (lit< tt) (lit< tt) in
    let ha : a < 256 = small.0 in
    end_gives _ 1 (a ∷ []) more (omega arith) (reads_1 _ _ _ _ _ has (head_some a [] all) (omega arith)) (ap (take 1) (all_bytes _ _ _ _ _ has))
text_gives (a ∷ b ∷ []) more all small =
    let has = bytes_are a b 0 0 small.0 small.1.0 (lit< tt) (lit< tt) in
    let ha : a < 256 = small.0 in
    let hb : b < 256 = small.1.0 in
    let na = head_some a (b ∷ []) all in
    let nb : b ≢ 0 = head_some b [] (tail_some a (b ∷ []) all) in
    end_gives _ 2 (a ∷ b ∷ []) more (omega arith) (reads_2 _ _ _ _ _ has na nb (omega arith) (omega arith)) (ap (take 2) (all_bytes _ _ _ _ _ has))
text_gives (a ∷ b ∷ c ∷ []) more all small =
    let has = bytes_are a b c 0 small.0 small.1.0 small.1.1.0 (lit< tt) in
    let ha : a < 256 = small.0 in
    let hb : b < 256 = small.1.0 in
    let hc : c < 256 = small.1.1.0 in
    let na = head_some a (b ∷ c ∷ []) all in
    let rest = tail_some a (b ∷ c ∷ []) all in
    let nb = head_some b (c ∷ []) rest in
    let nc : c ≢ 0 = head_some c [] (tail_some b (c ∷ []) rest) in
    end_gives _ 3 (a ∷ b ∷ c ∷ []) more (omega arith) (reads_3 _ _ _ _ _ has na nb (omega arith)) (ap (take 3) (all_bytes _ _ _ _ _ has))
text_gives (a ∷ b ∷ c ∷ d ∷ text) more all small =
    let has = bytes_are a b c d small.0 small.1.0 small.1.1.0 small.1.1.1.0 in
    let rest_a = tail_some a (b ∷ c ∷ d ∷ text) all in
    let rest_b = tail_some b (c ∷ d ∷ text) rest_a in
    let rest_c = tail_some c (d ∷ text) rest_b in
    let nd : d ≢ 0 = head_some d text rest_c in
    word_gives _ a b c d text (string_words text ++ more) more has (omega arith) (head_some a (b ∷ c ∷ d ∷ text) all) (head_some b (c ∷ d ∷ text) rest_a) (head_some c (d ∷ text) rest_b)
    (text_gives text more (tail_some d text rest_c) small.1.1.1.1)

-- Operands -------------------------------------------------------------------------------------------------------

-- whether none of some operands is a text
abbrev pub all_words : List Slot → Bool
all_words [] = true
all_words (slot ∷ slots) = not (is_text slot) && all_words slots

word_taken : (slot : Slot) (args : List ℕ) (Then : List ℕ → Type 0) → is_text slot ≡ false → Takes slot args Then → TakesWord args Then
word_taken Result args Then plain takes = takes
word_taken Id args Then plain takes = takes
word_taken Forward args Then plain takes = takes
word_taken Number args Then plain takes = takes
word_taken (Named e) args Then plain takes = takes
word_taken OfDecoration args Then plain takes = takes
word_taken Text args Then plain takes = absurd (cc)

word_takes : (slot : Slot) (args : List ℕ) (Then : List ℕ → Type 0) → is_text slot ≡ false → TakesWord args Then → Takes slot args Then
word_takes Result args Then plain takes = takes
word_takes Id args Then plain takes = takes
word_takes Forward args Then plain takes = takes
word_takes Number args Then plain takes = takes
word_takes (Named e) args Then plain takes = takes
word_takes OfDecoration args Then plain takes = takes
word_takes Text args Then plain takes = absurd (cc)

no_text : (slot : Slot) (slots : List Slot) → all_words (slot ∷ slots) ≡ true → (is_text slot ≡ false) × (all_words slots ≡ true)
no_text slot slots e = let p = and_parts (not (is_text slot)) (all_words slots) e in (flip (is_text slot) p.0, p.1)
  where
    flip : (b : Bool) → not b ≡ true → b ≡ false
    flip true e = absurd (cc)
    flip false e = refl

-- operands of one word each
pub fill_words : (slots : List Slot) (args more : List ℕ) → all_words slots ≡ true → length slots ≤ length args → more ≡ drop (length slots) args → Fill slots args more
fill_words [] args more plain enough is = sym is
fill_words (slot ∷ slots) [] more plain enough is = absurd (omega arith)
fill_words (slot ∷ slots) (a ∷ args) more plain enough is =
    let p = no_text slot slots plain in
    word_takes slot (a ∷ args) (λ behind. Fill slots behind more) p.0 (a, args, refl, fill_words slots args more p.1 (omega arith) is)

pub filled_words : (slots : List Slot) (args more : List ℕ) → all_words slots ≡ true → Fill slots args more → (length slots ≤ length args) × (more ≡ drop (length slots) args)
filled_words [] args more plain fill = (omega arith, sym fill)
filled_words (slot ∷ slots) args more plain fill =
    let p = no_text slot slots plain in
    let t = word_taken slot args (λ behind. Fill slots behind more) p.0 fill in
    let rest = filled_words slots t.1 more p.1 t.3 in
    let n : length args ≡ suc (length t.1) = ap length t.2 in
    (omega arith, rest.1 ∙ ap (drop (suc (length slots))) (sym t.2))

-- operands of one word each, and then a text
pub fill_text : (front : List Slot) (args text more : List ℕ) → all_words front ≡ true → IsText text → length front ≤ length args → drop (length front) args ≡ string_words text ++ more → Fill (front ++ Text ∷ []) args more
fill_text [] args text more plain is enough there = (text, more, is, there, refl)
fill_text (slot ∷ front) [] text more plain is enough there = absurd (omega arith)
fill_text (slot ∷ front) (a ∷ args) text more plain is enough there =
    let p = no_text slot front plain in
    word_takes slot (a ∷ args) (λ behind. Fill (front ++ Text ∷ []) behind more) p.0 (a, args, refl, fill_text front args text more p.1 is (omega arith) there)

-- what stands behind the first operands is a text and more
pub record TextBehind (front : List Slot) (args more : List ℕ) : Type 0 where
  pub text : List ℕ
  pub is : IsText text
  pub enough : length front < length args
  pub there : drop (length front) args ≡ string_words text ++ more

some_word : (text : List ℕ) → 0 < length (string_words text)
some_word [] = omega arith
some_word (a ∷ []) = omega arith
some_word (a ∷ b ∷ []) = omega arith
some_word (a ∷ b ∷ c ∷ []) = omega arith
some_word (a ∷ b ∷ c ∷ d ∷ text) = omega arith

pub filled_text : (front : List Slot) (args more : List ℕ) → all_words front ≡ true → Fill (front ++ Text ∷ []) args more → TextBehind front args more
filled_text [] args more plain fill =
    let there : args ≡ string_words fill.0 ++ more = fill.3 ∙ ap (λ m. string_words fill.0 ++ m) fill.4 in
    record { text = fill.0; is = fill.2; enough = omega (arith, some_word fill.0, ap length there, length-append (string_words fill.0) more); there = there }
filled_text (slot ∷ front) args more plain fill =
    let p = no_text slot front plain in
    let t = word_taken slot args (λ behind. Fill (front ++ Text ∷ []) behind more) p.0 fill in
    let rest = filled_text front t.1 more p.1 t.3 in
    let n : length args ≡ suc (length t.1) = ap length t.2 in
    record { text = rest.text; is = rest.is; enough = omega (arith, rest.enough); there = ap (drop (suc (length front))) t.2 ∙ rest.there }

-- a form with a text has it last
pub record Shape (form : Form) : Type 0 where
  pub front : List Slot
  pub slots_are : slots form ≡ front ++ Text ∷ []
  pub plain : all_words front ≡ true

-- a form without one has one word for each operand, and one with one ends with it
pub with_text : (form : Form) → has_text form ≡ true → Shape form
with_text form.Name e = record { front = Forward ∷ []; slots_are = refl; plain = refl }
with_text form.MemberName e = record { front = Forward ∷ Number ∷ []; slots_are = refl; plain = refl }
with_text form.ExtInstImport e = record { front = Result ∷ []; slots_are = refl; plain = refl }
with_text form.ExtInst e = absurd (cc)
with_text form.MemoryModel e = absurd (cc)
with_text form.EntryPoint e = record { front = (Named Model) ∷ Forward ∷ []; slots_are = refl; plain = refl }
with_text form.ExecutionMode e = absurd (cc)
with_text form.Capability e = absurd (cc)
with_text form.TypeVoid e = absurd (cc)
with_text form.TypeBool e = absurd (cc)
with_text form.TypeInt e = absurd (cc)
with_text form.TypeVector e = absurd (cc)
with_text form.TypeArray e = absurd (cc)
with_text form.TypeRuntimeArray e = absurd (cc)
with_text form.TypeStruct e = absurd (cc)
with_text form.TypePointer e = absurd (cc)
with_text form.TypeFunction e = absurd (cc)
with_text form.ConstantTrue e = absurd (cc)
with_text form.ConstantFalse e = absurd (cc)
with_text form.ConstantNull e = absurd (cc)
with_text form.Constant e = absurd (cc)
with_text form.ConstantComposite e = absurd (cc)
with_text form.CompositeConstruct e = absurd (cc)
with_text form.Function e = absurd (cc)
with_text form.FunctionParameter e = absurd (cc)
with_text form.FunctionEnd e = absurd (cc)
with_text form.FunctionCall e = absurd (cc)
with_text form.Variable e = absurd (cc)
with_text form.Load e = absurd (cc)
with_text form.Store e = absurd (cc)
with_text form.AccessChain e = absurd (cc)
with_text form.ArrayLength e = absurd (cc)
with_text form.Decorate e = absurd (cc)
with_text form.MemberDecorate e = absurd (cc)
with_text form.VectorExtractDynamic e = absurd (cc)
with_text form.VectorShuffle e = absurd (cc)
with_text form.CompositeExtract e = absurd (cc)
with_text form.CompositeInsert e = absurd (cc)
with_text form.Unary e = absurd (cc)
with_text form.Arithmetic e = absurd (cc)
with_text form.Shift e = absurd (cc)
with_text form.Logical e = absurd (cc)
with_text form.Comparison e = absurd (cc)
with_text form.Select e = absurd (cc)
with_text form.BitFieldInsert e = absurd (cc)
with_text form.BitFieldExtract e = absurd (cc)
with_text form.LoopMerge e = absurd (cc)
with_text form.SelectionMerge e = absurd (cc)
with_text form.Label e = absurd (cc)
with_text form.Branch e = absurd (cc)
with_text form.BranchConditional e = absurd (cc)
with_text form.Switch e = absurd (cc)
with_text form.Kill e = absurd (cc)
with_text form.Return e = absurd (cc)
with_text form.ReturnValue e = absurd (cc)

pub without_text : (form : Form) → has_text form ≡ false → all_words (slots form) ≡ true
without_text form.Name e = absurd (cc)
without_text form.MemberName e = absurd (cc)
without_text form.ExtInstImport e = absurd (cc)
without_text form.ExtInst e = refl
without_text form.MemoryModel e = refl
without_text form.EntryPoint e = absurd (cc)
without_text form.ExecutionMode e = refl
without_text form.Capability e = refl
without_text form.TypeVoid e = refl
without_text form.TypeBool e = refl
without_text form.TypeInt e = refl
without_text form.TypeVector e = refl
without_text form.TypeArray e = refl
without_text form.TypeRuntimeArray e = refl
without_text form.TypeStruct e = refl
without_text form.TypePointer e = refl
without_text form.TypeFunction e = refl
without_text form.ConstantTrue e = refl
without_text form.ConstantFalse e = refl
without_text form.ConstantNull e = refl
without_text form.Constant e = refl
without_text form.ConstantComposite e = refl
without_text form.CompositeConstruct e = refl
without_text form.Function e = refl
without_text form.FunctionParameter e = refl
without_text form.FunctionEnd e = refl
without_text form.FunctionCall e = refl
without_text form.Variable e = refl
without_text form.Load e = refl
without_text form.Store e = refl
without_text form.AccessChain e = refl
without_text form.ArrayLength e = refl
without_text form.Decorate e = refl
without_text form.MemberDecorate e = refl
without_text form.VectorExtractDynamic e = refl
without_text form.VectorShuffle e = refl
without_text form.CompositeExtract e = refl
without_text form.CompositeInsert e = refl
without_text form.Unary e = refl
without_text form.Arithmetic e = refl
without_text form.Shift e = refl
without_text form.Logical e = refl
without_text form.Comparison e = refl
without_text form.Select e = refl
without_text form.BitFieldInsert e = refl
without_text form.BitFieldExtract e = refl
without_text form.LoopMerge e = refl
without_text form.SelectionMerge e = refl
without_text form.Label e = refl
without_text form.Branch e = refl
without_text form.BranchConditional e = refl
without_text form.Switch e = refl
without_text form.Kill e = refl
without_text form.Return e = refl
without_text form.ReturnValue e = refl

words_drop : (k : ℕ) (words : List ℕ) → AreWords words → AreWords (drop k words)
words_drop zero words fit = fit
words_drop (suc k) [] fit = tt
words_drop (suc k) (w ∷ words) fit = words_drop k words fit.1

-- What fits ------------------------------------------------------------------------------------------------------

-- The words that the tests let through are those that the table has room for.
abbrev pub Passes : Form → List ℕ → Type 0
Passes form args = IsTrue (allows_words form (length args)) × (fits_text form args ≡ true)

passed_words : (op : ℕ) (form : Form) (args : List ℕ) → form_of op ≡ Some form → has_text form ≡ false → 1 + length args < 2 ^ 16 → IsTrue (allows_words form (length args)) → Fits op args
passed_words op form args found plain short counted =
    let e : allows_words form (length args) ≡ true = counted in
    let p = and_parts (leb (length (slots form)) (length args)) _ e in
    let enough = leb-true _ _ p.0 in
    let n : length args - length (slots form) ≡ length (drop (length (slots form)) args) = sym (length-drop (length (slots form)) args) in
    let follow : allows (rest form) (length args - length (slots form)) ≡ true = or_false (has_text form) _ plain p.1 in
    record {
      form = form;
      found = found;
      more = drop (length (slots form)) args;
      fixed = fill_words (slots form) args _ (without_text form plain) enough refl;
      follow = (ap (allows (rest form)) (sym n) ∙ follow);
      short = short;
    }
  where
    or_false : (a b : Bool) → a ≡ false → (a || b) ≡ true → b ≡ true
    or_false true b f e = absurd (cc)
    or_false false b f e = e

passed_text : (op : ℕ) (form : Form) (args : List ℕ) → AreWords args → form_of op ≡ Some form → has_text form ≡ true → 1 + length args < 2 ^ 16 → IsTrue (allows_words form (length args)) →
    (found : Option (List ℕ × List ℕ)) → text_at (drop (length (slots form) - 1) args) ≡ found → is_text_of form found ≡ true → Fits op args
passed_text op form args fit found some short counted None is good = absurd (cc)
passed_text op form args fit found some short counted (Some t) is good =
    let shape = with_text form some in
    let p = and_parts (is_utf8 t.0) (allows (rest form) (length t.1)) good in
    let n : length (slots form) ≡ length shape.front + 1 = ap length shape.slots_are ∙ length-append shape.front (Text ∷ []) in
    let e : allows_words form (length args) ≡ true = counted in
    let enough = leb-true _ _ (and_parts (leb (length (slots form)) (length args)) _ e).0 in
    let at : length (slots form) - 1 ≡ length shape.front = omega arith in
    let stands = text_is (drop (length shape.front) args) t.0 t.1 (words_drop (length shape.front) args fit) (ap (λ k. text_at (drop k args)) (sym at) ∙ is) in
    record {
      form = form;
      found = found;
      more = t.1;
      fixed = subst (λ s. Fill s args t.1) (sym shape.slots_are) (fill_text shape.front args t.0 t.1 shape.plain (IsUtf8-from_is_utf8 t.0 p.0, stands.1) (omega arith) stands.0);
      follow = p.1;
      short = short;
    }

pub passed : (op : ℕ) (form : Form) (args : List ℕ) → AreWords args → form_of op ≡ Some form → 1 + length args < 2 ^ 16 → Passes form args → Fits op args
unfolding fits_text
passed op form args fit found short (counted, texted) =
    ⊎_elim (λ p. passed_text op form args fit found p.0 short counted (text_at (drop (length (slots form) - 1) args)) refl p.1) (λ p. passed_words op form args found p.0 short counted)
    (chosen _ _ _ _ texted)

same_form : (op : ℕ) (a b : Form) → form_of op ≡ Some a → form_of op ≡ Some b → a ≡ b
same_form op a b e f = let g : Some a ≡ Some b = sym e ∙ f in cc

passes_words : (form : Form) (args more : List ℕ) → has_text form ≡ false → Fill (slots form) args more → IsTrue (allows (rest form) (length more)) → Passes form args
unfolding fits_text
passes_words form args more plain fixed follow =
    let w = filled_words (slots form) args more (without_text form plain) fixed in
    let n : length args - length (slots form) ≡ length more = sym (length-drop (length (slots form)) args) ∙ ap length (sym w.1) in
    ((and_from _ _ (le-leb _ _ w.0) (or_right (has_text form) _ (ap (allows (rest form)) n ∙ follow))), cond-false _ _ _ plain)
  where
    or_right : (a b : Bool) → b ≡ true → (a || b) ≡ true
    or_right true b e = refl
    or_right false b e = e

passes_text : (form : Form) (args more : List ℕ) → has_text form ≡ true → Fill (slots form) args more → IsTrue (allows (rest form) (length more)) → Passes form args
unfolding fits_text
passes_text form args more some fixed follow =
    let shape = with_text form some in
    let t = filled_text shape.front args more shape.plain (subst (λ s. Fill s args more) shape.slots_are fixed) in
    let n : length (slots form) ≡ length shape.front + 1 = ap length shape.slots_are ∙ length-append shape.front (Text ∷ []) in
    let at : length (slots form) - 1 ≡ length shape.front = omega arith in
    let there : text_at (drop (length (slots form) - 1) args) ≡ Some (t.text, more) = ap (λ k. text_at (drop k args)) at ∙ ap text_at t.there ∙ text_gives t.text more t.is.1 (utf8_bytes t.text t.is.0) in
    let enough : length (slots form) ≤ length args = omega (arith, t.enough) in (
      (and_from _ _ (le-leb _ _ enough) (ap (λ b. b || allows (rest form) (length args - length (slots form))) some)),
      cond-true _ _ _ some ∙ ap (is_text_of form) there ∙ and_from _ _ (is_utf8-from_IsUtf8 t.text t.is.0) (follow),
    )

pub passes : (op : ℕ) (form : Form) (args : List ℕ) → form_of op ≡ Some form → Fits op args → Passes form args
passes op form args found fits =
    let same : fits.form ≡ form = same_form op _ _ fits.found found in
    let fixed : Fill (slots form) args fits.more = subst (λ f. Fill (slots f) args fits.more) same fits.fixed in
    let follow : IsTrue (allows (rest form) (length fits.more)) = subst (λ f. IsTrue (allows (rest f) (length fits.more))) same fits.follow in
    ⊎_elim (λ some. passes_text form args fits.more some fixed follow) (λ plain. passes_words form args fits.more plain fixed follow) (either (has_text form))
  where
    either : (b : Bool) → (b ≡ true) ⊎ (b ≡ false)
    either true = inl refl
    either false = inr refl

-- Instructions of a literal opcode -------------------------------------------------------------------------------

-- the table's answer, which computes
abbrev pub looked_up : ℕ → Option Form
looked_up op = option_map (λ row. row.form) (find (λ row. eqb row.op op) TABLE)

pub form_found : (op : ℕ) (form : Form) → looked_up op ≡ Some form → form_of op ≡ Some form
unfolding form_of
form_found op form e = e

-- one without a text
pub words_fit : (op : ℕ) (form : Form) (args : List ℕ) → looked_up op ≡ Some form → has_text form ≡ false → allows_words form (length args) ≡ true → 1 + length args < 2 ^ 16 → Fits op args
words_fit op form args found plain counted short = passed_words op form args (form_found op form found) plain short counted
