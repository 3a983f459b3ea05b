-- Reading a text from left to right, as the code does: the piece at its front and the text after it. This is not the rule, which
-- stands in `Cut.antt` and `Raws.antt`.
use Rattle.std.specs.Prelude.{ℕ, zero, suc, ◌-◌, ◌==◌, ◌&&◌, List, [], ◌∷◌, length, take, drop, Option, Some, None, Ok, Err, if◌then◌else◌}
use Rattle.std.specs.Option.{option_map}
use Rattle.gsl_base.specs.declared.token.Punct.{Punct}
use Rattle.gsl_base.specs.declared.token.RawKind.TheVariants as kind
use Rattle.gsl_lex.specs.declared.text.Char.{Char}
use Rattle.gsl_lex.specs.declared.piece.Run.{Run}
use Rattle.gsl_lex.specs.declared.piece.Run.TheVariants as run
use Rattle.gsl_lex.specs.declared.piece.Class.{Class}
use Rattle.gsl_lex.specs.declared.piece.Class.TheVariants.{LineEnd, Space, LineComment, BlockComment, Word, Number, Other}
use Rattle.gsl_lex.specs.declared.piece.Lexeme.{Lexeme}
use Rattle.gsl_lex.specs.declared.piece.Lexeme.TheVariants as piece
use Rattle.gsl_lex.specs.Ascii.{line_feed, star, slash}
use Rattle.gsl_lex.specs.Bytes.{is_space, is_letter, goes_on, begins_number, number_run}
use Rattle.gsl_lex.specs.Tables.{punct_of}
use Rattle.gsl_lex.specs.Cut.{Piece, Cutting}

-- the byte that comes next, or 0 at the end
abbrev pub next_of : List Char → ℕ
next_of [] = 0
next_of (c ∷ text) = c.byte

-- what a piece is that begins with the two bytes
abbrev pub class_of : ℕ → ℕ → Class
class_of a next =
    if a == line_feed then LineEnd
    else (if is_space a then Space
    else (if is_letter a then Word
    else (if begins_number a next then Number
    else (if a == slash && next == slash then LineComment
    else (if a == slash && next == star then BlockComment
    else Other)))))

-- the bytes in front that go on from the one before them
abbrev pub run_of : Run → ℕ → List Char → List ℕ
run_of run before [] = []
run_of run before (c ∷ text) = if goes_on run before c.byte then c.byte ∷ run_of run c.byte text else []

-- the text after them
abbrev pub after_run : Run → ℕ → List Char → List Char
after_run run before [] = []
after_run run before (c ∷ text) = if goes_on run before c.byte then after_run run c.byte text else c ∷ text

-- the text after the next `*/`, if there is one
abbrev pub after_close : ℕ → List Char → Option (List Char)
after_close before [] = None
after_close before (c ∷ text) = if before == star && c.byte == slash then Some text else after_close c.byte text

-- punctuators of three bytes, of two and of one
abbrev pub three_at : ℕ → List Char → Option (Punct × List Char)
three_at a [] = None
three_at a (c ∷ []) = None
three_at a (c ∷ d ∷ text) = option_map (λ p. (p, text)) (punct_of (a ∷ c.byte ∷ d.byte ∷ []))

abbrev pub two_at : ℕ → List Char → Option (Punct × List Char)
two_at a [] = None
two_at a (c ∷ text) = option_map (λ p. (p, text)) (punct_of (a ∷ c.byte ∷ []))

abbrev pub one_at : ℕ → List Char → Option (Punct × List Char)
one_at a text = option_map (λ p. (p, text)) (punct_of (a ∷ []))

abbrev pub or_else : {A : Type 0} → Option A → Option A → Option A
or_else (Some x) other = Some x
or_else None other = other

unfoldable pub punct_at : ℕ → List Char → Option (Punct × List Char)
punct_at a text = or_else (three_at a text) (or_else (two_at a text) (one_at a text))

-- a piece and the text after it, or none where a comment is not closed
abbrev pub Reading : Type 0
Reading = Option (Lexeme × List Char)

abbrev pub mark : ℕ → List Char → Option (Punct × List Char) → Reading
mark a text None = Some (piece.Token (kind.Stray a), text)
mark a text (Some found) = Some (piece.Token (kind.Punct found.0), found.1)

abbrev pub read_as : Class → ℕ → List Char → Reading
read_as LineEnd a text = Some (piece.LineEnd, text)
read_as Space a text = Some (piece.Blank, after_run run.Space a text)
read_as LineComment a text = Some (piece.Blank, after_run run.Line a text)
read_as BlockComment a text = option_map (λ rest. (piece.Blank, rest)) (after_close 0 (drop 1 text))
read_as Word a text = Some (piece.Token (kind.Word (a ∷ run_of run.Word a text)), after_run run.Word a text)
read_as Number a text =
    let how = number_run a (next_of text) in Some (piece.Token (kind.Number (a ∷ run_of how a text)), after_run how a text)
read_as Other a text = mark a text (punct_at a text)

-- what a text gives that begins with the byte
unfoldable pub read : ℕ → List Char → Reading
read a text = read_as (class_of a (next_of text)) a text

-- ---- the whole text, piece by piece

abbrev pub put : Piece → Cutting → Cutting
put piece (Ok pieces) = Ok (piece ∷ pieces)
put piece (Err rest) = Err rest

-- the cutting of a text, of which what was read in front is known, and that of the text after so many bytes
abbrev pub cut_on : (ℕ → Cutting) → Char → List Char → Reading → Cutting
cut_on later c text None = Err (c ∷ text)
cut_on later c text (Some found) =
    let taken = length text - length found.1 in put (record { what = found.0; chars = c ∷ take taken text }) (later taken)

-- the cutting of the text after so many bytes
unfoldable pub cut_from : List Char → ℕ → Cutting
cut_from [] skipped = Ok []
cut_from (c ∷ text) zero = cut_on (cut_from text) c text (read c.byte text)
cut_from (c ∷ text) (suc skipped) = cut_from text skipped
