-- The lines of a text rise, and so do those of its raw tokens.
use Rattle.std.proofs.Common.{◌≡◌, ℕ, ◌+◌, ◌<◌, ◌≤◌, Bool, true, false, cond, inl, inr, List, [], ◌∷◌, ◌++◌, refl, sym, subst, arith, eqb}
use Rattle.std.proofs.lemmas.Bool.{eq-eqb, cond-true, true≢false}
use Rattle.gsl_lex.specs.declared.text.Char.{Char}
use Rattle.gsl_lex.specs.declared.piece.Lexeme.{Lexeme}
use Rattle.gsl_lex.specs.declared.piece.Lexeme.TheVariants.{LineEnd, Blank, Token}
use Rattle.gsl_lex.specs.Lines.{one_ends, numbered, is_join, joined, text_from, text_of}
use Rattle.gsl_lex.specs.Pieces.{IsPiece}
use Rattle.gsl_lex.specs.Cut.{Piece, bytes_of, CutTo}
use Rattle.gsl_lex.specs.Raws.{raws_from, tokens_of, starts_after, is_space, line_of}
use Rattle.gsl_lex.specs.Ordered.{Rise, FirstStarts, InLines}
use Rattle.gsl_lex.proofs.Cuts.{no_empty}

-- the line that may come after a byte
abbrev pub line_after : Char → ℕ
line_after c = cond (eqb c.byte 10) (c.line + 1) c.line

-- The lines of the text rise from this one on, and after each line end.
abbrev pub Rises : ℕ → List Char → Type 0
Rises line [] = Unit {0}
Rises line (c ∷ text) = (line ≤ c.line) × Rises (line_after c) text

after_line : (c : Char) → c.line ≤ line_after c
after_line c = elim (eqb c.byte 10) as (λ b. c.line ≤ cond b (c.line + 1) c.line) [ true ↦ omega arith | false ↦ omega arith ]

rises_less : (less line : ℕ) (text : List Char) → less ≤ line → Rises line text → Rises less text
rises_less less line [] le rises = tt
rises_less less line (c ∷ text) le (here, later) = (omega (arith, le, here), later)

numbered_rises : (line : ℕ) (bytes : List ℕ) → Rises line (numbered line bytes)
numbered_rises line [] = tt
numbered_rises line (a ∷ bytes) = (omega arith, numbered_rises (cond (eqb a 10) (line + 1) line) bytes)

joined_rises : (line : ℕ) (text : List Char) → Rises line text → Rises line (joined text)
joined_rises line [] rises = tt
joined_rises line (a ∷ []) rises = rises
joined_rises line (a ∷ b ∷ text) (first, (second, later)) =
    elim (is_join a b) as (λ j. Rises line (cond j (joined text) (a ∷ joined (b ∷ text)))) [
      | true ↦
          let over : line ≤ line_after b = omega (arith, first, after_line a, second, after_line b) in
          joined_rises line text (rises_less line (line_after b) text over later)
      | false ↦ (first, joined_rises (line_after a) (b ∷ text) (second, later))
    ]

pub text_rises : (bytes : List ℕ) → Rises 1 (text_of bytes)
unfolding text_from
text_rises bytes = joined_rises 1 (numbered 1 (one_ends bytes)) (numbered_rises 1 (one_ends bytes))

-- what comes after a stretch stands on no earlier line than its first byte
rest_rises : (line : ℕ) (front rest : List Char) → Rises line (front ++ rest) → (later : ℕ) × (line ≤ later) × Rises later rest
rest_rises line [] rest rises = (line, omega arith, rises)
rest_rises line (c ∷ front) rest (here, more) =
    let met = rest_rises (line_after c) front rest more in
    (met.0, omega (arith, here, after_line c, met.1), met.2)

-- ---- tokens

line_end_is : (chars : List Char) → IsPiece LineEnd (bytes_of chars) → (c : Char) × (chars ≡ c ∷ []) × (c.byte ≡ 10)
line_end_is [] is = absurd (no_empty LineEnd is)
line_end_is (c ∷ []) (inl one) = (c, refl, cc)
line_end_is (c ∷ []) (inr stray) = absurd stray
line_end_is (c ∷ d ∷ chars) (inl one) = absurd (cc)
line_end_is (c ∷ d ∷ chars) (inr stray) = absurd stray

-- what is known of the text after a piece: the line before it, and that of its first token
abbrev pub Known : ℕ → ℕ → Bool → List Char → Type 0
Known before line starts text = (before ≤ line) × (starts ≡ true → before < line) × Rises line text

abbrev pub Ahead : ℕ → Bool → List Char → Type 0
Ahead before starts text = (line : ℕ) × Known before line starts text

ahead_of_line_end : (before line : ℕ) (starts : Bool) (chars later : List Char) → IsPiece LineEnd (bytes_of chars) → Known before line starts (chars ++ later) → Ahead before true later
ahead_of_line_end before line starts chars later is (one, two, rises) =
    let met = line_end_is chars is in
    let all : Rises line (met.0 ∷ later) = subst (λ t. Rises line (t ++ later)) met.1 rises in
    let after : line_after met.0 ≡ met.0.line + 1 = cond-true _ _ _ (eq-eqb met.0.byte 10 met.2) in
    (line_after met.0, (omega (arith, one, all.0, after), λ e. omega (arith, one, all.0, after), all.1))

ahead_of_blank : (before line : ℕ) (starts : Bool) (chars later : List Char) → Known before line starts (chars ++ later) → Ahead before starts later
ahead_of_blank before line starts chars later (one, two, rises) =
    let met = rest_rises line chars later rises in
    (met.0, (omega (arith, one, met.1), λ e. omega (arith, two e, met.1), met.2))

-- a token, and what is known after it
abbrev pub TokenAhead : ℕ → Bool → List Char → List Char → Type 0
TokenAhead before starts chars later = (before ≤ line_of chars) × (starts ≡ true → before < line_of chars) × Ahead (line_of chars) false later

ahead_of_token : (before line : ℕ) (starts : Bool) (what : Lexeme) (chars later : List Char) → IsPiece what (bytes_of chars) → Known before line starts (chars ++ later) → TokenAhead before starts chars later
ahead_of_token before line starts what [] later is known = absurd (no_empty what is)
ahead_of_token before line starts what (c ∷ chars) later is (one, two, (here, more)) =
    let met = rest_rises (line_after c) chars later more in
    (omega (arith, one, here), λ e. omega (arith, two e, here), (met.0, (omega (arith, after_line c, met.1), λ e. absurd (true≢false (sym e)), met.2)))

piece_rises : (what : Lexeme) (chars : List Char) (pieces : List Piece) (later rest : List Char) (unit before : ℕ) (starts spaced : Bool) → IsPiece what (bytes_of chars) → Ahead before starts (chars ++ later) →
    ((before : ℕ) (starts spaced : Bool) → Ahead before starts later → Rise before (raws_from unit starts spaced pieces)) →
    Rise before (tokens_of unit starts spaced what (line_of chars) ++ raws_from unit (starts_after what starts) (is_space what) pieces)
piece_rises LineEnd chars pieces later rest unit before starts spaced is (line, known) go = go before true true (ahead_of_line_end before line starts chars later is known)
piece_rises Blank chars pieces later rest unit before starts spaced is (line, known) go = go before starts true (ahead_of_blank before line starts chars later known)
piece_rises (Token kind) chars pieces later rest unit before starts spaced is (line, known) go =
    let met = ahead_of_token before line starts (Token kind) chars later is known in
    (met.0, met.1, go (line_of chars) false false met.2)

raws_rise : (pieces : List Piece) (text rest : List Char) (unit before : ℕ) (starts spaced : Bool) → CutTo pieces text rest → Ahead before starts text → Rise before (raws_from unit starts spaced pieces)
unfolding raws_from
raws_rise [] text rest unit before starts spaced cut ahead = tt
raws_rise (piece ∷ pieces) text rest unit before starts spaced (later, whole, longest, closed, cut) ahead =
    piece_rises piece.what piece.chars pieces later rest unit before starts spaced longest.is (subst (Ahead before starts) whole ahead)
    (λ before starts spaced ahead. raws_rise pieces later rest unit before starts spaced cut ahead)

first_on : (unit : ℕ) (spaced : Bool) (what : Lexeme) (line : ℕ) (pieces : List Piece) → ((spaced : Bool) → FirstStarts (raws_from unit true spaced pieces)) →
    FirstStarts (tokens_of unit true spaced what line ++ raws_from unit (starts_after what true) (is_space what) pieces)
first_on unit spaced LineEnd line pieces go = go true
first_on unit spaced Blank line pieces go = go true
first_on unit spaced (Token kind) line pieces go = refl

first_starts : (unit : ℕ) (spaced : Bool) (pieces : List Piece) → FirstStarts (raws_from unit true spaced pieces)
unfolding raws_from
first_starts unit spaced [] = tt
first_starts unit spaced (piece ∷ pieces) = first_on unit spaced piece.what (line_of piece.chars) pieces (λ spaced. first_starts unit spaced pieces)

pub raws_in_lines : (unit : ℕ) (bytes : List ℕ) (pieces : List Piece) (rest : List Char) → CutTo pieces (text_of bytes) rest → InLines (raws_from unit true false pieces)
raws_in_lines unit bytes pieces rest cut = record {
  first = first_starts unit false pieces;
  rise = raws_rise pieces (text_of bytes) rest unit 0 true false cut (1, (omega arith, λ e. omega arith, text_rises bytes));
}
