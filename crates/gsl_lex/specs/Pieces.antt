-- What a piece of a text is (GLSL 4.50, 3.1 to 3.7): a line end, white space, a comment, a word, a number, a
-- punctuator, or a stray byte.
use Rattle.std.specs.Prelude.{◌≡◌, ℕ, Bool, false, ◌==◌, ◌&&◌, ◌||◌, ◌⊎◌, IsTrue, List, [], ◌∷◌, ◌++◌, codes, Some}
use Rattle.gsl_base.specs.declared.token.RawKind.TheVariants.{Word, Number, Punct, Stray}
use Rattle.gsl_lex.specs.declared.piece.Run.TheVariants as run
use Rattle.gsl_lex.specs.declared.piece.Lexeme.{Lexeme}
use Rattle.gsl_lex.specs.declared.piece.Lexeme.TheVariants.{LineEnd, Blank, Token}
use Rattle.gsl_lex.specs.Ascii.{line_feed, star, slash}
use Rattle.gsl_lex.specs.Bytes.{is_space, is_letter, all_go_on, first_of, begins_number, number_run}
use Rattle.gsl_lex.specs.Tables.{punct_of}

-- whether the bytes are white space of one line
abbrev pub is_white : List ℕ → Bool
is_white [] = false
is_white (a ∷ bytes) = is_space a && all_go_on run.Space a bytes

-- whether the bytes are `//` and others of its line
abbrev pub is_line_comment : List ℕ → Bool
is_line_comment [] = false
is_line_comment (a ∷ []) = false
is_line_comment (a ∷ b ∷ bytes) = a == slash && b == slash && all_go_on run.Line b bytes

-- whether `*/` stands in the bytes
abbrev pub has_close : List ℕ → Bool
has_close [] = false
has_close (a ∷ bytes) = (a == star && first_of bytes == slash) || has_close bytes

-- `/*`, what goes up to the next `*/`, and that `*/`
pub record IsBlockComment (bytes : List ℕ) : Type 0 where
  pub inside : List ℕ
  pub spelled : bytes ≡ codes "/*" ++ (inside ++ codes "*/")
  pub first : has_close inside ≡ false

-- whether the bytes are a letter or `_`, and letters, digits and `_`
abbrev pub is_word : List ℕ → Bool
is_word [] = false
is_word (a ∷ bytes) = is_letter a && all_go_on run.Word a bytes

-- whether the bytes begin as a number does and go on as one
abbrev pub is_number : List ℕ → Bool
is_number [] = false
is_number (a ∷ bytes) = begins_number a (first_of bytes) && all_go_on (number_run a (first_of bytes)) a bytes

-- The bytes are a piece of the kind, and no stray byte.
abbrev pub IsFormed : Lexeme → List ℕ → Type 0
IsFormed LineEnd bytes = bytes ≡ line_feed ∷ []
IsFormed Blank bytes = IsTrue (is_white bytes) ⊎ (IsTrue (is_line_comment bytes) ⊎ IsBlockComment bytes)
IsFormed (Token (Word text)) bytes = (text ≡ bytes) × IsTrue (is_word bytes)
IsFormed (Token (Number text)) bytes = (text ≡ bytes) × IsTrue (is_number bytes)
IsFormed (Token (Punct punct)) bytes = punct_of bytes ≡ Some punct
IsFormed (Token (Stray a)) bytes = ⊥

-- The bytes are one that begins no other piece.
abbrev pub IsStray : Lexeme → List ℕ → Type 0
IsStray LineEnd bytes = ⊥
IsStray Blank bytes = ⊥
IsStray (Token (Word text)) bytes = ⊥
IsStray (Token (Number text)) bytes = ⊥
IsStray (Token (Punct punct)) bytes = ⊥
IsStray (Token (Stray a)) bytes = (bytes ≡ a ∷ []) × ((what : Lexeme) (more : List ℕ) → IsFormed what (a ∷ more) → ⊥)

abbrev pub IsPiece : Lexeme → List ℕ → Type 0
IsPiece what bytes = IsFormed what bytes ⊎ IsStray what bytes
