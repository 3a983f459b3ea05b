-- The lines of a text.
use Rattle.std.specs.Prelude.{ℕ, ◌==◌, if◌then◌else◌, List, [], ◌∷◌, length}

-- a byte in front of the first piece
abbrev pub onto : ℕ → List (List ℕ) → List (List ℕ)
onto byte [] = (byte ∷ []) ∷ []
onto byte (piece ∷ pieces) = (byte ∷ piece) ∷ pieces

-- the pieces between the LFs of a text, which are one more than its LFs
abbrev pub pieces : List ℕ → List (List ℕ)
pieces [] = [] ∷ []
pieces (byte ∷ bytes) = if byte == 10 then [] ∷ pieces bytes else onto byte (pieces bytes)

-- a piece without the CR at its end, if it has one
abbrev pub without_cr : List ℕ → List ℕ
without_cr [] = []
without_cr (byte ∷ []) = if byte == 13 then [] else byte ∷ []
without_cr (byte ∷ next ∷ bytes) = byte ∷ without_cr (next ∷ bytes)

-- Each piece is a line. A CR before an LF is no part of it, and where nothing stands behind the last LF,
-- that is no line.
abbrev pub ended : List (List ℕ) → List (List ℕ)
ended [] = []
ended (last ∷ []) = if length last == 0 then [] else last ∷ []
ended (piece ∷ next ∷ pieces) = without_cr piece ∷ ended (next ∷ pieces)

-- the lines of a text
unfoldable pub lines_of : List ℕ → List (List ℕ)
lines_of bytes = ended (pieces bytes)
