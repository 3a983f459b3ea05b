-- The text of a source file (GLSL 4.50, 3.1 and 3.2): its bytes with their physical lines, one line feed
-- for each line end, and joined lines as one.
use Rattle.std.specs.Prelude.{ℕ, ◌+◌, Bool, not, ◌==◌, ◌&&◌, ◌||◌, nat_lt, List, [], ◌∷◌, drop, if◌then◌else◌, Option, Some, None}
use Rattle.gsl_lex.specs.declared.text.Char.{Char}
use Rattle.gsl_lex.specs.Ascii.{line_feed, carriage_return, backslash}

-- whether the byte ends a line: CR or LF
abbrev pub is_end : ℕ → Bool
is_end a = a == carriage_return || a == line_feed

-- whether two bytes are one line end: CR LF or LF CR
abbrev pub is_pair : ℕ → ℕ → Bool
is_pair a b = (a == carriage_return && b == line_feed) || (a == line_feed && b == carriage_return)

-- whether the byte is no line end and no backslash
abbrev pub is_plain : ℕ → Bool
is_plain a = not (a == backslash) && (not (a == carriage_return) && not (a == line_feed))

-- the byte, or LF for one that ends a line
abbrev pub unified : ℕ → ℕ
unified a = if is_end a then line_feed else a

-- the bytes with one LF for each line end
abbrev pub one_ends : List ℕ → List ℕ
one_ends [] = []
one_ends (a ∷ []) = unified a ∷ []
one_ends (a ∷ b ∷ rest) = if is_pair a b then line_feed ∷ one_ends rest else unified a ∷ one_ends (b ∷ rest)

-- each byte with the line that it stands on, where the first stands on this line
abbrev pub numbered : ℕ → List ℕ → List Char
numbered line [] = []
numbered line (a ∷ rest) = record { byte = a; line = line } ∷ numbered (if a == line_feed then line + 1 else line) rest

-- whether a backslash stands directly before a line end
abbrev pub is_join : Char → Char → Bool
is_join a b = a.byte == backslash && b.byte == line_feed

-- the text without each backslash directly before a line end, and without that line end
abbrev pub joined : List Char → List Char
joined [] = []
joined (a ∷ []) = a ∷ []
joined (a ∷ b ∷ rest) = if is_join a b then joined rest else a ∷ joined (b ∷ rest)

-- the text of the bytes, where the first stands on this line
unfoldable pub text_from : ℕ → List ℕ → List Char
text_from line bytes = joined (numbered line (one_ends bytes))

-- the text of a source file
abbrev pub text_of : List ℕ → List Char
text_of bytes = text_from 1 bytes

-- how many bytes the line end has that the bytes begin with, and 0 where they begin with none
abbrev pub end_len : List ℕ → ℕ
end_len [] = 0
end_len (a ∷ []) = if is_end a then 1 else 0
end_len (a ∷ b ∷ rest) = if is_pair a b then 2 else (if is_end a then 1 else 0)

-- the bytes after a backslash and the line end directly behind it, if they begin so
abbrev pub after_join : List ℕ → Option (List ℕ)
after_join [] = None
after_join (a ∷ rest) = if a == backslash && nat_lt 0 (end_len rest) then Some (drop (end_len rest) rest) else None
