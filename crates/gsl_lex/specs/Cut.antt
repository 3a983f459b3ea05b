-- The cut of a text into its pieces, each the longest at its place.
use Rattle.std.specs.Prelude.{◌≡◌, ℕ, ◌≤◌, Bool, false, ◌==◌, ◌&&◌, IsTrue, List, [], ◌∷◌, ◌++◌, length, map, Result, Ok, Err}
use Rattle.gsl_lex.specs.declared.text.Char.{Char}
use Rattle.gsl_lex.specs.declared.piece.Lexeme.{Lexeme}
use Rattle.gsl_lex.specs.Ascii.{star, slash}
use Rattle.gsl_lex.specs.Pieces.{IsPiece, IsBlockComment}

-- a stretch of a text, and what it is
pub record Piece : Type 0 where
  pub what : Lexeme
  pub chars : List Char

abbrev pub bytes_of : List Char → List ℕ
bytes_of text = map (λ c. c.byte) text

-- The stretch is a piece, and no longer first part of the text is one.
pub record Longest (piece : Piece) (rest : List Char) : Type 0 where
  pub is : IsPiece piece.what (bytes_of piece.chars)
  pub longest : (what : Lexeme) (front later : List Char) → piece.chars ++ rest ≡ front ++ later → IsPiece what (bytes_of front) → length front ≤ length piece.chars

-- whether a block comment is opened
abbrev pub opens : List Char → Bool
opens [] = false
opens (c ∷ []) = false
opens (c ∷ d ∷ text) = c.byte == slash && d.byte == star

-- The text opens a comment and does not close it.
pub record Unclosed (text : List Char) : Type 0 where
  pub opened : IsTrue (opens text)
  pub never : (front later : List Char) → text ≡ front ++ later → IsBlockComment (bytes_of front) → ⊥

-- The text is these pieces, each the longest at its place and none in place of a comment that is not closed,
-- and then the rest.
abbrev pub CutTo : List Piece → List Char → List Char → Type 0
CutTo [] text rest = text ≡ rest
CutTo (piece ∷ pieces) text rest =
    (later : List Char) × (text ≡ piece.chars ++ later) × Longest piece later × (Unclosed text → ⊥) × CutTo pieces later rest

-- the pieces put together
abbrev pub chars_of : List Piece → List Char
chars_of [] = []
chars_of (piece ∷ pieces) = piece.chars ++ chars_of pieces

-- the pieces of a text, or the rest of it that opens a comment and does not close it
abbrev pub Cutting : Type 0
Cutting = Result (List Piece) (List Char)

-- The cutting is one of the text: it is cut up to its end, or up to a comment that is not closed.
abbrev pub IsCutting : List Char → Cutting → Type 0
IsCutting text (Ok pieces) = CutTo pieces text []
IsCutting text (Err rest) = (pieces : List Piece) × CutTo pieces text rest × Unclosed rest
