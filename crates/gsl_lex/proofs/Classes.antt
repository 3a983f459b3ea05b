-- Which pieces begin with which bytes.
use Rattle.std.proofs.Common.{◌≡◌, ℕ, ◌≤◌, Bool, true, false, cond, not, ◌&&◌, ◌||◌, ◌⊎◌, inl, inr, List, [], ◌∷◌, ◌++◌, Some, refl, ap, sym, subst, ◌∙◌, arith, eqb, leb}
use Rattle.std.specs.Char.{is_ascii_digit, is_ascii_alphabetic}
use Rattle.std.proofs.lemmas.Bool.{and_parts, or_cases, not-true, eqb-true, eq-eqb, leb-true, cond-true, cond-false, true≢false}
use Rattle.gsl_base.specs.declared.token.RawKind.TheVariants as kind
use Rattle.gsl_base.specs.declared.token.Punct.{Punct}
use Rattle.gsl_lex.specs.declared.piece.Class.{Class}
use Rattle.gsl_lex.specs.declared.piece.Class.TheVariants as class
use Rattle.gsl_lex.specs.declared.piece.Lexeme.{Lexeme}
use Rattle.gsl_lex.specs.declared.piece.Lexeme.TheVariants.{LineEnd, Blank, Token}
use Rattle.gsl_lex.specs.Bytes.{is_space, is_letter, first_of, begins_number}
use Rattle.gsl_lex.specs.Tables.{punct_of}
use Rattle.gsl_lex.specs.Reading.{class_of}
use Rattle.gsl_lex.specs.Pieces.{is_white, is_line_comment, is_word, is_number, IsFormed}
use Rattle.gsl_lex.proofs.Comments.{is_block_comment, block_from}
use Rattle.gsl_lex.proofs.Punctuators.{is_mark_byte, is_other, is_row, row_is}

-- a byte that a test takes is none that it does not take
not_at : (f : ℕ → Bool) (a v : ℕ) → f v ≡ false → f a ≡ true → eqb a v ≡ false
not_at f a v off on =
    elim (eqb a v) as (λ b. eqb a v ≡ b → b ≡ false) [
      | true ↦ λ e. let same : a ≡ v = eqb-true a v e in absurd (true≢false (sym on ∙ ap f same ∙ off))
      | false ↦ λ e. refl
    ] refl

or_none : (x y : Bool) → x ≡ false → y ≡ false → (x || y) ≡ false
or_none true y off none = absurd (true≢false off)
or_none false y off none = none

no_space : (f : ℕ → Bool) (a : ℕ) → f 32 ≡ false → f 9 ≡ false → f 11 ≡ false → f 12 ≡ false → f a ≡ true → is_space a ≡ false
no_space f a one two three four on =
    or_none _ _ (or_none _ _ (or_none _ _ (not_at f a 32 one on) (not_at f a 9 two on)) (not_at f a 11 three on)) (not_at f a 12 four on)

pub digit_no_letter : (a : ℕ) → is_ascii_digit a ≡ true → is_letter a ≡ false
digit_no_letter a digit =
    let parts = and_parts (leb 48 a) (leb a 57) digit in
    let high : a ≤ 57 = leb-true a 57 parts.1 in
    elim (is_letter a) as (λ b. is_letter a ≡ b → b ≡ false) [
      | false ↦ λ e. refl
      | true ↦ λ e. elim (or_cases (is_ascii_alphabetic a) _ e) [
        | inr low ↦ let same : a ≡ 95 = eqb-true a 95 low in absurd (omega (arith, same, high))
        | inl alpha ↦ elim (or_cases (leb 65 a && leb a 90) _ alpha) [
          | inl upper ↦ let more : 65 ≤ a = leb-true 65 a (and_parts (leb 65 a) _ upper).0 in absurd (omega (arith, more, high))
          | inr lower ↦ let more : 97 ≤ a = leb-true 97 a (and_parts (leb 97 a) _ lower).0 in absurd (omega (arith, more, high))
        ]
      ]
    ] refl

number_no_letter : (a n : ℕ) → begins_number a n ≡ true → is_letter a ≡ false
number_no_letter a n begins =
    elim (or_cases (is_ascii_digit a) _ begins) [
      | inl digit ↦ digit_no_letter a digit
      | inr point ↦ let same : a ≡ 46 = eqb-true a 46 (and_parts (eqb a 46) _ point).0 in ap is_letter same
    ]

-- the class that a first byte, or the first two, determine
pub class_space : (a n : ℕ) → is_space a ≡ true → class_of a n ≡ class.Space
class_space a n on = cond-false _ _ _ (not_at is_space a 10 refl on) ∙ cond-true _ _ _ on

pub class_word : (a n : ℕ) → is_letter a ≡ true → class_of a n ≡ class.Word
class_word a n on =
    cond-false _ _ _ (not_at is_letter a 10 refl on) ∙ cond-false _ _ _ (no_space is_letter a refl refl refl refl on) ∙ cond-true _ _ _ on

pub class_number : (a n : ℕ) → begins_number a n ≡ true → class_of a n ≡ class.Number
class_number a n on =
    let test : ℕ → Bool = λ b. begins_number b n in
    cond-false _ _ _ (not_at test a 10 refl on) ∙ cond-false _ _ _ (no_space test a refl refl refl refl on)
    ∙ cond-false _ _ _ (number_no_letter a n on) ∙ cond-true _ _ _ on

-- What a class says of the first two bytes.
abbrev pub Facts : Class → ℕ → ℕ → Type 0
Facts class.LineEnd a n = a ≡ 10
Facts class.Space a n = is_space a ≡ true
Facts class.Word a n = is_letter a ≡ true
Facts class.Number a n = begins_number a n ≡ true
Facts class.LineComment a n = (a ≡ 47) × (n ≡ 47)
Facts class.BlockComment a n = (a ≡ 47) × (n ≡ 42)
Facts class.Other a n = (eqb a 10 ≡ false) × (is_space a ≡ false) × (is_letter a ≡ false) × (begins_number a n ≡ false)

pub facts_of : (a n : ℕ) → Facts (class_of a n) a n
facts_of a n =
    elim (eqb a 10) as (λ b. eqb a 10 ≡ b → Facts (cond b class.LineEnd (cond (is_space a) class.Space (cond (is_letter a) class.Word (cond (begins_number a n) class.Number (cond (eqb a 47 && eqb n 47) class.LineComment (cond (eqb a 47 && eqb n 42) class.BlockComment class.Other)))))) a n) [
      | true ↦ λ e. eqb-true a 10 e
      | false ↦ λ e.
          elim (is_space a) as (λ b. is_space a ≡ b → Facts (cond b class.Space (cond (is_letter a) class.Word (cond (begins_number a n) class.Number (cond (eqb a 47 && eqb n 47) class.LineComment (cond (eqb a 47 && eqb n 42) class.BlockComment class.Other))))) a n) [
            | true ↦ λ f. f
            | false ↦ λ f.
                elim (is_letter a) as (λ b. is_letter a ≡ b → Facts (cond b class.Word (cond (begins_number a n) class.Number (cond (eqb a 47 && eqb n 47) class.LineComment (cond (eqb a 47 && eqb n 42) class.BlockComment class.Other)))) a n) [
                  | true ↦ λ g. g
                  | false ↦ λ g.
                      elim (begins_number a n) as (λ b. begins_number a n ≡ b → Facts (cond b class.Number (cond (eqb a 47 && eqb n 47) class.LineComment (cond (eqb a 47 && eqb n 42) class.BlockComment class.Other))) a n) [
                        | true ↦ λ h. h
                        | false ↦ λ h.
                            elim (eqb a 47 && eqb n 47) as (λ b. (eqb a 47 && eqb n 47) ≡ b → Facts (cond b class.LineComment (cond (eqb a 47 && eqb n 42) class.BlockComment class.Other)) a n) [
                              | true ↦ λ i. let parts = and_parts (eqb a 47) _ i in (eqb-true a 47 parts.0, eqb-true n 47 parts.1)
                              | false ↦ λ i.
                                  elim (eqb a 47 && eqb n 42) as (λ b. (eqb a 47 && eqb n 42) ≡ b → Facts (cond b class.BlockComment class.Other) a n) [
                                    | true ↦ λ j. let parts = and_parts (eqb a 47) _ j in (eqb-true a 47 parts.0, eqb-true n 42 parts.1)
                                    | false ↦ λ j. (e, f, g, h)
                                  ] refl
                            ] refl
                      ] refl
                ] refl
          ] refl
    ] refl

-- What a piece is like that begins with bytes of the class; a punctuator of one byte may stand before others.
abbrev pub Kin : Class → ℕ → Lexeme → List ℕ → Type 0
Kin class.LineEnd a what s = (what ≡ LineEnd) × (s ≡ a ∷ [])
Kin class.Space a what s = (what ≡ Blank) × (is_white s ≡ true)
Kin class.LineComment a what s = ((what ≡ Blank) × (is_line_comment s ≡ true)) ⊎ (s ≡ a ∷ [])
Kin class.BlockComment a what s = ((what ≡ Blank) × (is_block_comment s ≡ true)) ⊎ (s ≡ a ∷ [])
Kin class.Word a what s = (what ≡ Token (kind.Word s)) × (is_word s ≡ true)
Kin class.Number a what s = ((what ≡ Token (kind.Number s)) × (is_number s ≡ true)) ⊎ ((s ≡ a ∷ []) × (is_ascii_digit a ≡ false))
Kin class.Other a what s = (p : Punct) × (what ≡ Token (kind.Punct p)) × (punct_of s ≡ Some p)

kin_line_end : (a : ℕ) (s r : List ℕ) → a ∷ s ≡ 10 ∷ [] → Kin (class_of a (first_of (s ++ r))) a LineEnd (a ∷ s)
kin_line_end a s r e =
    let byte : a ≡ 10 = cc in
    let none : s ≡ [] = cc in
    let P : ℕ → Type 0 = λ x. Kin (class_of x (first_of (s ++ r))) x LineEnd (x ∷ s) in
    subst P (sym byte) (refl, ap (λ t. 10 ∷ t) none)

kin_white : (a : ℕ) (s r : List ℕ) → is_white (a ∷ s) ≡ true → Kin (class_of a (first_of (s ++ r))) a Blank (a ∷ s)
kin_white a s r on =
    let P : Class → Type 0 = λ k. Kin k a Blank (a ∷ s) in
    subst P (sym (class_space a (first_of (s ++ r)) (and_parts (is_space a) _ on).0)) (refl, on)

kin_word : (a : ℕ) (s r : List ℕ) → is_word (a ∷ s) ≡ true → Kin (class_of a (first_of (s ++ r))) a (Token (kind.Word (a ∷ s))) (a ∷ s)
kin_word a s r on =
    let P : Class → Type 0 = λ k. Kin k a (Token (kind.Word (a ∷ s))) (a ∷ s) in
    subst P (sym (class_word a (first_of (s ++ r)) (and_parts (is_letter a) _ on).0)) (refl, on)

begins_on : (a : ℕ) (s r : List ℕ) → begins_number a (first_of s) ≡ true → begins_number a (first_of (s ++ r)) ≡ true
begins_on a [] r on =
    elim (or_cases (is_ascii_digit a) _ on) [
      | inl digit ↦ ap (λ b. b || (eqb a 46 && is_ascii_digit (first_of r))) digit
      | inr point ↦ absurd (true≢false (sym (and_parts (eqb a 46) _ point).1))
    ]
begins_on a (b ∷ s) r on = on

kin_number : (a : ℕ) (s r : List ℕ) → is_number (a ∷ s) ≡ true → Kin (class_of a (first_of (s ++ r))) a (Token (kind.Number (a ∷ s))) (a ∷ s)
kin_number a s r on =
    let P : Class → Type 0 = λ k. Kin k a (Token (kind.Number (a ∷ s))) (a ∷ s) in
    subst P (sym (class_number a (first_of (s ++ r)) (begins_on a s r (and_parts (begins_number a (first_of s)) _ on).0))) (inl (refl, on))

kin_line_comment : (a : ℕ) (s r : List ℕ) → is_line_comment (a ∷ s) ≡ true → Kin (class_of a (first_of (s ++ r))) a Blank (a ∷ s)
kin_line_comment a [] r on = absurd (true≢false (sym on))
kin_line_comment a (b ∷ s) r on =
    let parts = and_parts (eqb a 47) (eqb b 47) (and_parts (eqb a 47 && eqb b 47) _ on).0 in
    let first : a ≡ 47 = eqb-true a 47 parts.0 in
    let second : b ≡ 47 = eqb-true b 47 parts.1 in
    let class : class_of a b ≡ class.LineComment = ap (λ x. class_of x b) first ∙ ap (λ y. class_of 47 y) second in
    let P : Class → Type 0 = λ k. Kin k a Blank (a ∷ b ∷ s) in
    subst P (sym class) (inl (refl, on))

kin_block_comment : (a : ℕ) (s r : List ℕ) → is_block_comment (a ∷ s) ≡ true → Kin (class_of a (first_of (s ++ r))) a Blank (a ∷ s)
kin_block_comment a [] r on = absurd (true≢false (sym on))
kin_block_comment a (b ∷ s) r on =
    let parts = and_parts (eqb a 47) (eqb b 42) (and_parts (eqb a 47 && eqb b 42) _ on).0 in
    let first : a ≡ 47 = eqb-true a 47 parts.0 in
    let second : b ≡ 42 = eqb-true b 42 parts.1 in
    let class : class_of a b ≡ class.BlockComment = ap (λ x. class_of x b) first ∙ ap (λ y. class_of 47 y) second in
    let P : Class → Type 0 = λ k. Kin k a Blank (a ∷ b ∷ s) in
    subst P (sym class) (inl (refl, on))

other_is : (k : Class) → is_other k ≡ true → k ≡ class.Other
other_is class.LineEnd e = absurd (true≢false (sym e))
other_is class.Space e = absurd (true≢false (sym e))
other_is class.LineComment e = absurd (true≢false (sym e))
other_is class.BlockComment e = absurd (true≢false (sym e))
other_is class.Word e = absurd (true≢false (sym e))
other_is class.Number e = absurd (true≢false (sym e))
other_is class.Other e = refl

-- a punctuator of one byte stands before any byte
kin_single : (a n : ℕ) (p : Punct) (k : Class) → Facts k a n → is_mark_byte a ≡ true → punct_of (a ∷ []) ≡ Some p → Kin k a (Token (kind.Punct p)) (a ∷ [])
kin_single a n p k facts mark found =
    let three = and_parts (not (eqb a 10) && not (is_space a) && not (is_letter a)) _ mark in
    let two = and_parts (not (eqb a 10) && not (is_space a)) _ three.0 in
    let one = and_parts (not (eqb a 10)) _ two.0 in
    elim k as (λ k. Facts k a n → Kin k a (Token (kind.Punct p)) (a ∷ [])) [
      | class.LineEnd ↦ λ f. absurd (true≢false (sym (eq-eqb a 10 f) ∙ not-true _ one.0))
      | class.Space ↦ λ f. absurd (true≢false (sym f ∙ not-true _ one.1))
      | class.LineComment ↦ λ f. inr refl
      | class.BlockComment ↦ λ f. inr refl
      | class.Word ↦ λ f. absurd (true≢false (sym f ∙ not-true _ two.1))
      | class.Number ↦ λ f. inr (refl, not-true _ three.1)
      | class.Other ↦ λ f. (p, refl, found)
    ] facts

kin_longer : (a b : ℕ) (more : List ℕ) (p : Punct) → is_other (class_of a b) ≡ true → punct_of (a ∷ b ∷ more) ≡ Some p → Kin (class_of a b) a (Token (kind.Punct p)) (a ∷ b ∷ more)
kin_longer a b more p other found =
    let P : Class → Type 0 = λ k. Kin k a (Token (kind.Punct p)) (a ∷ b ∷ more) in
    subst P (sym (other_is _ other)) (p, refl, found)

kin_punct : (a : ℕ) (s r : List ℕ) (p : Punct) → is_row (a ∷ s) ≡ true → punct_of (a ∷ s) ≡ Some p → Kin (class_of a (first_of (s ++ r))) a (Token (kind.Punct p)) (a ∷ s)
kin_punct a [] r p row found = kin_single a (first_of r) p _ (facts_of a (first_of r)) row found
kin_punct a (b ∷ []) r p row found = kin_longer a b [] p (and_parts (is_other (class_of a b)) _ row).0 found
kin_punct a (b ∷ c ∷ []) r p row found = kin_longer a b (c ∷ []) p (and_parts (is_other (class_of a b)) _ row).0 found
kin_punct a (b ∷ c ∷ d ∷ more) r p row found = absurd (true≢false (sym row))

-- a piece is of the class of its first bytes, whatever comes after it
pub kin : (what : Lexeme) (a : ℕ) (s r : List ℕ) → IsFormed what (a ∷ s) → Kin (class_of a (first_of (s ++ r))) a what (a ∷ s)
kin LineEnd a s r is = kin_line_end a s r is
kin Blank a s r (inl white) = kin_white a s r white
kin Blank a s r (inr (inl line)) = kin_line_comment a s r line
kin Blank a s r (inr (inr block)) = kin_block_comment a s r (block_from (a ∷ s) block)
kin (Token (kind.Word text)) a s r (same, is) =
    let P : List ℕ → Type 0 = λ t. Kin (class_of a (first_of (s ++ r))) a (Token (kind.Word t)) (a ∷ s) in
    subst P (sym same) (kin_word a s r is)
kin (Token (kind.Number text)) a s r (same, is) =
    let P : List ℕ → Type 0 = λ t. Kin (class_of a (first_of (s ++ r))) a (Token (kind.Number t)) (a ∷ s) in
    subst P (sym same) (kin_number a s r is)
kin (Token (kind.Punct p)) a s r is = kin_punct a s r p (row_is (a ∷ s) p is) is
kin (Token (kind.Stray b)) a s r is = absurd is

-- no piece is empty
pub some_bytes : (what : Lexeme) → IsFormed what [] → ⊥
some_bytes LineEnd is = cc
some_bytes Blank (inl white) = true≢false (sym white)
some_bytes Blank (inr (inl line)) = true≢false (sym line)
some_bytes Blank (inr (inr block)) = true≢false (sym (block_from [] block))
some_bytes (Token (kind.Word text)) (same, is) = true≢false (sym is)
some_bytes (Token (kind.Number text)) (same, is) = true≢false (sym is)
some_bytes (Token (kind.Punct p)) is = true≢false (sym (row_is [] p is))
some_bytes (Token (kind.Stray b)) is = is
