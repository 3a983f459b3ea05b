-- The raw tokens of a source file: its pieces without white space and comments.
use Rattle.std.specs.Prelude.{◌≡◌, ℕ, Bool, true, false, List, [], ◌∷◌, ◌++◌, Result, Ok, Err}
use Rattle.gsl_base.specs.declared.fault.Fault.{Fault}
use Rattle.gsl_base.specs.declared.fault.Code.TheVariants.{E0102}
use Rattle.gsl_base.specs.declared.fault.Refusal.{Refusal}
use Rattle.gsl_base.specs.declared.fault.Refusal.TheVariants.{Source, Memory}
use Rattle.gsl_base.specs.declared.token.Raw.{Raw}
use Rattle.gsl_base.specs.Checked.{Checked}
use Rattle.gsl_lex.specs.declared.text.Char.{Char}
use Rattle.gsl_lex.specs.declared.piece.Lexeme.{Lexeme}
use Rattle.gsl_lex.specs.declared.piece.Lexeme.TheVariants.{LineEnd, Blank, Token}
use Rattle.gsl_lex.specs.Lines.{text_of}
use Rattle.gsl_lex.specs.Cut.{Piece, Cutting, IsCutting}
use Rattle.gsl_lex.specs.Reading.{cut_from}

-- whether the next token starts a line: a line end stands between it and the token before it, if there is
-- one. A line end in a comment does not count.
abbrev pub starts_after : Lexeme → Bool → Bool
starts_after LineEnd starts_line = true
starts_after Blank starts_line = starts_line
starts_after (Token kind) starts_line = false

-- whether the piece is no token
abbrev pub is_space : Lexeme → Bool
is_space LineEnd = true
is_space Blank = true
is_space (Token kind) = false

-- the line of the first byte
abbrev pub line_of : List Char → ℕ
line_of [] = 0
line_of (c ∷ text) = c.line

-- the raw token that a piece is, if it is one
abbrev pub tokens_of : ℕ → Bool → Bool → Lexeme → ℕ → List Raw
tokens_of unit starts_line spaced LineEnd line = []
tokens_of unit starts_line spaced Blank line = []
tokens_of unit starts_line spaced (Token kind) line =
    record { place = record { unit = unit; line = line }; kind = kind; starts_line = starts_line; spaced = spaced } ∷ []

-- the raw tokens of pieces, where the first would start a line or have white space before it
unfoldable pub raws_from : ℕ → Bool → Bool → List Piece → List Raw
raws_from unit starts_line spaced [] = []
raws_from unit starts_line spaced (piece ∷ pieces) =
    tokens_of unit starts_line spaced piece.what (line_of piece.chars)
    ++ raws_from unit (starts_after piece.what starts_line) (is_space piece.what) pieces

-- the fault of a comment that is not closed
abbrev pub unclosed_at : ℕ → List Char → Fault
unclosed_at unit rest = record { place = record { unit = unit; line = line_of rest }; code = E0102 }

abbrev pub raws_on : ℕ → Bool → Bool → Cutting → Checked (List Raw)
raws_on unit starts_line spaced (Ok pieces) = Ok (raws_from unit starts_line spaced pieces)
raws_on unit starts_line spaced (Err rest) = Err (unclosed_at unit rest)

-- the raw tokens of a source file, or the place of its first comment that is not closed
unfoldable pub raws_of : ℕ → List ℕ → Checked (List Raw)
raws_of unit bytes = raws_on unit true false (cut_from (text_of bytes) 0)

-- The answer is that of the one cutting of the text.
abbrev pub IsLexed : ℕ → List ℕ → Checked (List Raw) → Type 0
IsLexed unit bytes answer = (cutting : Cutting) × IsCutting (text_of bytes) cutting × (answer ≡ raws_on unit true false cutting)

-- Unless the call wanted memory, its answer is such.
abbrev pub Answers : {A : Type 0} → (Checked A → Type 0) → Result A Refusal → Type 0
Answers Is (Ok value) = Is (Ok value)
Answers Is (Err (Source fault)) = Is (Err fault)
Answers Is (Err Memory) = Unit {0}
