-- What is read is a piece, and no longer first part of the text is one.
use Rattle.std.proofs.Common.{◌≡◌, ℕ, ◌<◌, true, false, cond, not, ◌&&◌, ◌||◌, ◌⊎◌, inl, inr, List, [], ◌∷◌, ◌++◌, length, drop, Some, refl, ap, sym, subst, ◌∙◌, arith, eqb}
use Rattle.std.specs.Char.{is_ascii_digit}
use Rattle.std.proofs.lemmas.Bool.{and_parts, and_from, or_cases, eqb-true, eq-eqb, cond-true, cond-false, true≢false}
use Rattle.gsl_base.specs.declared.token.RawKind.TheVariants as kind
use Rattle.gsl_lex.specs.declared.text.Char.{Char}
use Rattle.gsl_lex.specs.declared.piece.Run.{Run}
use Rattle.gsl_lex.specs.declared.piece.Run.TheVariants as run
use Rattle.gsl_lex.specs.declared.piece.Class.{Class}
use Rattle.gsl_lex.specs.declared.piece.Class.TheVariants as class
use Rattle.gsl_lex.specs.declared.piece.Lexeme.{Lexeme}
use Rattle.gsl_lex.specs.declared.piece.Lexeme.TheVariants.{LineEnd, Blank, Token}
use Rattle.gsl_lex.specs.Bytes.{is_space, is_letter, first_of, begins_number, number_run, goes_on, all_go_on, is_word_byte}
use Rattle.gsl_lex.specs.Reading.{Reading, next_of, run_of, after_run, after_close}
use Rattle.gsl_lex.specs.Pieces.{is_line_comment, is_number, IsPiece}
use Rattle.gsl_lex.specs.Cut.{bytes_of}
use Rattle.gsl_lex.proofs.Comments.{closes, ends, ends_is, block_is}
use Rattle.gsl_lex.proofs.Fronts.{taken, taken_is, taken_bytes, run_goes_on, close_front, some_is}
use Rattle.gsl_lex.proofs.Classes.{Kin}

-- The bytes are shorter than what is read, or the same.
abbrev pub Within : Lexeme → List ℕ → Lexeme → List ℕ → Type 0
Within what spelled other s = (length s < length spelled) ⊎ ((s ≡ spelled) × (other ≡ what))

-- What is read stands in front, is a piece, and no piece of the class is longer.
pub record Sound (k : Class) (a : ℕ) (text : List Char) (what : Lexeme) (rest : List Char) : Type 0 where
  pub front : List Char
  pub whole : text ≡ front ++ rest
  pub is : IsPiece what (a ∷ bytes_of front)
  pub best : (other : Lexeme) (s r : List ℕ) → bytes_of text ≡ s ++ r → Kin k a other (a ∷ s) → Within what (a ∷ bytes_of front) other (a ∷ s)

-- ---- runs

-- the bytes in front that go on
abbrev pub run_in : Run → ℕ → List ℕ → List ℕ
run_in run before [] = []
run_in run before (b ∷ bytes) = cond (goes_on run before b) (b ∷ run_in run b bytes) []

run_bytes : (run : Run) (before : ℕ) (text : List Char) → run_of run before text ≡ run_in run before (bytes_of text)
run_bytes run before [] = refl
run_bytes run before (c ∷ text) = ap (λ t. cond (goes_on run before c.byte) (c.byte ∷ t) []) (run_bytes run c.byte text)

none_or_some : (bytes : List ℕ) → (0 < length bytes) ⊎ ([] ≡ bytes)
none_or_some [] = inr refl
none_or_some (b ∷ bytes) = inl (omega arith)

-- bytes that go on are no longer than the run
run_within : (run : Run) (before : ℕ) (s r : List ℕ) → all_go_on run before s ≡ true → (length s < length (run_in run before (s ++ r))) ⊎ (s ≡ run_in run before (s ++ r))
run_within run before [] r all = none_or_some (run_in run before r)
run_within run before (b ∷ s) r all =
    let parts = and_parts (goes_on run before b) _ all in
    let here : run_in run before (b ∷ s ++ r) ≡ b ∷ run_in run b (s ++ r) = cond-true _ _ _ parts.0 in
    elim (run_within run b s r parts.1) [
      | inl less ↦ inl (omega (arith, less, ap length here))
      | inr same ↦ inr (ap (λ t. b ∷ t) same ∙ sym here)
    ]

-- the same of what is read as a run
run_best : (run : Run) (a : ℕ) (text : List Char) (s r : List ℕ) → bytes_of text ≡ s ++ r → all_go_on run a s ≡ true → (length s < length (bytes_of (taken run a text))) ⊎ (s ≡ bytes_of (taken run a text))
run_best run a text s r whole all =
    let same : bytes_of (taken run a text) ≡ run_in run a (s ++ r) = taken_bytes run a text ∙ run_bytes run a text ∙ ap (run_in run a) whole in
    elim (run_within run a s r all) [
      | inl less ↦ inl (omega (arith, less, ap length same))
      | inr here ↦ inr (here ∙ sym same)
    ]

within_on : (a : ℕ) (what other : Lexeme) (s front : List ℕ) → (length s < length front) ⊎ (s ≡ front) → (s ≡ front → other ≡ what) → Within what (a ∷ front) other (a ∷ s)
within_on a what other s front (inl less) same = inl (omega (arith, less))
within_on a what other s front (inr here) same = inr (ap (λ t. a ∷ t) here, same here)

taken_goes_on : (run : Run) (a : ℕ) (text : List Char) → all_go_on run a (bytes_of (taken run a text)) ≡ true
taken_goes_on run a text = ap (all_go_on run a) (taken_bytes run a text) ∙ run_goes_on run a text

read_pair : (x y : Lexeme) (rest later : List Char) → ◌≡◌ {A = Reading} (Some (x, rest)) (Some (y, later)) → (x ≡ y) × (rest ≡ later)
read_pair x y rest later e =
    let same : (x, rest) ≡ (y, later) = some_is _ _ e in (ap (λ r. r.0) same, ap (λ r. r.1) same)

-- it is enough to say it of what the reading gives
pub moved : (k : Class) (a : ℕ) (text : List Char) (x what : Lexeme) (rest later : List Char) → ◌≡◌ {A = Reading} (Some (x, rest)) (Some (what, later)) → Sound k a text x rest → Sound k a text what later
moved k a text x what rest later e sound =
    let same = read_pair x what rest later e in
    let P : Lexeme → Type 0 = λ w. Sound k a text w later in
    let Q : List Char → Type 0 = λ l. Sound k a text x l in
    subst P same.0 (subst Q same.1 sound)

pub sound_line_end : (a : ℕ) (text : List Char) → a ≡ 10 → Sound class.LineEnd a text LineEnd text
sound_line_end a text e = record {
  front = [];
  whole = refl;
  is = inl (ap (λ x. x ∷ []) e);
  best = λ other s r whole kin. inr (kin.1, kin.0);
}

pub sound_white : (a : ℕ) (text : List Char) → is_space a ≡ true → Sound class.Space a text Blank (after_run run.Space a text)
sound_white a text e = record {
  front = taken run.Space a text;
  whole = taken_is run.Space a text;
  is = inl (inl (and_from _ _ e (taken_goes_on run.Space a text)));
  best = λ other s r whole kin.
      within_on a Blank other s _ (run_best run.Space a text s r whole (and_parts (is_space a) _ kin.1).1) (λ same. kin.0);
}

pub sound_word : (a : ℕ) (text : List Char) → is_letter a ≡ true → Sound class.Word a text (Token (kind.Word (a ∷ run_of run.Word a text))) (after_run run.Word a text)
sound_word a text e = record {
  front = taken run.Word a text;
  whole = taken_is run.Word a text;
  is = inl (ap (λ t. a ∷ t) (sym (taken_bytes run.Word a text)), and_from _ _ e (taken_goes_on run.Word a text));
  best = λ other s r whole kin.
      within_on a _ other s _ (run_best run.Word a text s r whole (and_parts (is_letter a) _ kin.1).1)
      (λ same. kin.0 ∙ ap (λ t. Token (kind.Word (a ∷ t))) (same ∙ taken_bytes run.Word a text));
}

-- ---- numbers

digit_on : (b : ℕ) → is_ascii_digit b ≡ true → is_word_byte b ≡ true
digit_on b digit = rw digit refl

digit_goes_on : (a before b : ℕ) → is_ascii_digit b ≡ true → goes_on (number_run a b) before b ≡ true
digit_goes_on a before b digit =
    elim (eqb a 48 && (eqb b 120 || eqb b 88)) as (λ h. goes_on (cond h run.Hex run.Decimal) before b ≡ true) [
      | true ↦ rw (digit_on b digit) refl
      | false ↦ rw (digit_on b digit) refl
    ]

-- what begins a number is a digit, or a point before one
point_on : (a n : ℕ) → begins_number a n ≡ true → is_ascii_digit a ≡ false → is_ascii_digit n ≡ true
point_on a n begins none =
    elim (or_cases (is_ascii_digit a) _ begins) [ inl digit ↦ absurd (true≢false (sym digit ∙ none)) | inr point ↦ (and_parts (eqb a 46) _ point).1 ]

digit_begins : (a n : ℕ) → is_ascii_digit a ≡ true → begins_number a n ≡ true
digit_begins a n digit = ap (λ d. d || (eqb a 46 && is_ascii_digit n)) digit

number_front : (a : ℕ) (text : List Char) → begins_number a (next_of text) ≡ true → is_number (a ∷ bytes_of (taken (number_run a (next_of text)) a text)) ≡ true
unfolding taken
number_front a [] begins = and_from _ _ begins refl
number_front a (c ∷ text) begins =
    let how = number_run a c.byte in
    elim (goes_on how a c.byte) as (λ b. goes_on how a c.byte ≡ b → is_number (a ∷ bytes_of (cond b (c ∷ taken how c.byte text) [])) ≡ true) [
      | true ↦ λ on. and_from _ _ begins (and_from _ _ on (taken_goes_on how c.byte text))
      | false ↦ λ off.
          elim (is_ascii_digit a) as (λ d. is_ascii_digit a ≡ d → is_number (a ∷ []) ≡ true) [
            | true ↦ λ digit. and_from _ _ (digit_begins a 0 digit) refl
            | false ↦ λ none. absurd (true≢false (sym (digit_goes_on a a c.byte (point_on a c.byte begins none)) ∙ off))
          ] refl
    ] refl

number_more : (a : ℕ) (text : List Char) → begins_number a (next_of text) ≡ true → is_ascii_digit a ≡ false → 0 < length (bytes_of (taken (number_run a (next_of text)) a text))
unfolding taken
number_more a [] begins none = absurd (true≢false (sym (point_on a 0 begins none)))
number_more a (c ∷ text) begins none =
    let how = number_run a c.byte in
    let on : goes_on how a c.byte ≡ true = digit_goes_on a a c.byte (point_on a c.byte begins none) in
    omega (arith, ap (λ b. length (bytes_of (cond b (c ∷ taken how c.byte text) []))) on)

pub next_is : (text : List Char) → next_of text ≡ first_of (bytes_of text)
next_is [] = refl
next_is (c ∷ text) = refl

number_goes_on : (a n : ℕ) (s r : List ℕ) → n ≡ first_of (s ++ r) → all_go_on (number_run a (first_of s)) a s ≡ true → all_go_on (number_run a n) a s ≡ true
number_goes_on a n [] r here all = refl
number_goes_on a n (b ∷ s) r here all = ap (λ m. all_go_on (number_run a m) a (b ∷ s)) here ∙ all

number_best : (a : ℕ) (text : List Char) → begins_number a (next_of text) ≡ true → (other : Lexeme) (s r : List ℕ) → bytes_of text ≡ s ++ r → Kin class.Number a other (a ∷ s) →
    Within (Token (kind.Number (a ∷ run_of (number_run a (next_of text)) a text))) (a ∷ bytes_of (taken (number_run a (next_of text)) a text)) other (a ∷ s)
number_best a text begins other s r whole (inl (same, number)) =
    let how = number_run a (next_of text) in
    let all = number_goes_on a (next_of text) s r (next_is text ∙ ap first_of whole) (and_parts (begins_number a (first_of s)) _ number).1 in
    within_on a _ other s _ (run_best how a text s r whole all) (λ here. same ∙ ap (λ t. Token (kind.Number (a ∷ t))) (here ∙ taken_bytes how a text))
number_best a text begins other s r whole (inr (single, none)) =
    inl (omega (arith, ap length single, number_more a text begins none))

pub sound_number : (a : ℕ) (text : List Char) → begins_number a (next_of text) ≡ true →
    Sound class.Number a text (Token (kind.Number (a ∷ run_of (number_run a (next_of text)) a text))) (after_run (number_run a (next_of text)) a text)
sound_number a text begins = record {
  front = taken (number_run a (next_of text)) a text;
  whole = taken_is (number_run a (next_of text)) a text;
  is = inl (ap (λ t. a ∷ t) (sym (taken_bytes (number_run a (next_of text)) a text)), number_front a text begins);
  best = number_best a text begins;
}

-- ---- comments

line_front : (a : ℕ) (text : List Char) → a ≡ 47 → next_of text ≡ 47 → is_line_comment (a ∷ bytes_of (taken run.Line a text)) ≡ true
unfolding taken
line_front a [] first second = absurd (omega (arith, second))
line_front a (c ∷ text) first second =
    let on : not (eqb c.byte 10) ≡ true = ap (λ b. not (eqb b 10)) second in
    ap (λ b. is_line_comment (a ∷ bytes_of (cond b (c ∷ taken run.Line c.byte text) []))) on
    ∙ and_from _ _ (and_from _ _ (eq-eqb a 47 first) (eq-eqb c.byte 47 second)) (taken_goes_on run.Line c.byte text)

line_more : (a : ℕ) (bytes : List ℕ) → is_line_comment (a ∷ bytes) ≡ true → 0 < length bytes
line_more a [] is = absurd (true≢false (sym is))
line_more a (b ∷ bytes) is = omega arith

line_goes_on : (a : ℕ) (s : List ℕ) → is_line_comment (a ∷ s) ≡ true → all_go_on run.Line a s ≡ true
line_goes_on a [] is = refl
line_goes_on a (b ∷ s) is =
    let parts = and_parts (eqb a 47 && eqb b 47) _ is in
    let second : b ≡ 47 = eqb-true b 47 (and_parts (eqb a 47) _ parts.0).1 in
    and_from _ _ (ap (λ x. not (eqb x 10)) second) parts.1

line_best : (a : ℕ) (text : List Char) → a ≡ 47 → next_of text ≡ 47 → (other : Lexeme) (s r : List ℕ) → bytes_of text ≡ s ++ r → Kin class.LineComment a other (a ∷ s) →
    Within Blank (a ∷ bytes_of (taken run.Line a text)) other (a ∷ s)
line_best a text first second other s r whole (inl (same, is)) = within_on a _ other s _ (run_best run.Line a text s r whole (line_goes_on a s is)) (λ here. same)
line_best a text first second other s r whole (inr single) = inl (omega (arith, ap length single, line_more a _ (line_front a text first second)))

pub sound_line_comment : (a : ℕ) (text : List Char) → a ≡ 47 → next_of text ≡ 47 → Sound class.LineComment a text Blank (after_run run.Line a text)
sound_line_comment a text first second = record {
  front = taken run.Line a text;
  whole = taken_is run.Line a text;
  is = inl (inr (inl (line_front a text first second)));
  best = line_best a text first second;
}

-- a comment has one end
closes_once : (before : ℕ) (s r s' r' : List ℕ) → closes before s ≡ true → closes before s' ≡ true → s ++ r ≡ s' ++ r' → s ≡ s'
closes_once before [] r s' r' one two e = absurd (true≢false (sym one))
closes_once before (x ∷ s) r [] r' one two e = absurd (true≢false (sym two))
closes_once before (x ∷ s) r (y ∷ s') r' one two e =
    let head : x ≡ y = cc in
    let tail : s ++ r ≡ s' ++ r' = cc in
    elim (eqb before 42 && eqb x 47) as (λ b. (eqb before 42 && eqb x 47) ≡ b → x ∷ s ≡ y ∷ s') [
      | true ↦ λ here.
          let there : (eqb before 42 && eqb y 47) ≡ true = ap (λ z. eqb before 42 && eqb z 47) (sym head) ∙ here in
          let done : s ≡ [] = ends_is s (sym (cond-true _ (ends s) (closes x s) here) ∙ one) in
          let over : s' ≡ [] = ends_is s' (sym (cond-true _ (ends s') (closes y s') there) ∙ two) in
          cc
      | false ↦ λ here.
          let there : (eqb before 42 && eqb y 47) ≡ false = ap (λ z. eqb before 42 && eqb z 47) (sym head) ∙ here in
          let first : closes x s ≡ true = sym (cond-false _ (ends s) (closes x s) here) ∙ one in
          let second : closes x s' ≡ true = ap (λ z. closes z s') head ∙ sym (cond-false _ (ends s') (closes y s') there) ∙ two in
          let same : s ≡ s' = closes_once x s r s' r' first second tail in
          cc
    ] refl

pub bytes_append : (front rest : List Char) → bytes_of (front ++ rest) ≡ bytes_of front ++ bytes_of rest
bytes_append [] rest = refl
bytes_append (c ∷ front) rest = ap (λ t. c.byte ∷ t) (bytes_append front rest)

block_best : (a : ℕ) (c : Char) (front rest : List Char) → closes 0 (bytes_of front) ≡ true → (other : Lexeme) (s r : List ℕ) → bytes_of (c ∷ front ++ rest) ≡ s ++ r →
    Kin class.BlockComment a other (a ∷ s) → Within Blank (a ∷ c.byte ∷ bytes_of front) other (a ∷ s)
block_best a c front rest closed other [] r whole kin = inl (omega arith)
block_best a c front rest closed other (b ∷ s) r whole (inl (same, is)) =
    let second : closes 0 s ≡ true = (and_parts (eqb a 47 && eqb b 42) _ is).1 in
    let head : c.byte ≡ b = cc in
    let tail : bytes_of (front ++ rest) ≡ s ++ r = cc in
    let here : s ≡ bytes_of front = sym (closes_once 0 (bytes_of front) (bytes_of rest) s r closed second (sym (bytes_append front rest) ∙ tail)) in
    inr (ap (λ x. a ∷ x ∷ s) (sym head) ∙ ap (λ t. a ∷ c.byte ∷ t) here, same)
block_best a c front rest closed other (b ∷ s) r whole (inr single) = absurd (cc)

pub sound_block : (a : ℕ) (text : List Char) (rest : List Char) → a ≡ 47 → next_of text ≡ 42 → after_close 0 (drop 1 text) ≡ Some rest → Sound class.BlockComment a text Blank rest
sound_block a [] rest first second found = absurd (omega (arith, second))
sound_block a (c ∷ text) rest first second found =
    let met = close_front 0 text rest found in
    record {
      front = c ∷ met.0;
      whole = ap (λ t. c ∷ t) met.1;
      is = inl (inr (inr (block_is (a ∷ c.byte ∷ bytes_of met.0) (and_from _ _ (and_from _ _ (eq-eqb a 47 first) (eq-eqb c.byte 42 second)) met.2))));
      best = λ other s r whole kin. block_best a c met.0 rest met.2 other s r (sym (ap (λ t. bytes_of (c ∷ t)) met.1) ∙ whole) kin;
    }
