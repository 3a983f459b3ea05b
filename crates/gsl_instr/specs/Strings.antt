-- Texts as operand words (SPIR-V 1.0, 2.2.1): UTF-8, ended by a zero byte, padded with zero bytes, the
-- least byte of a word first.
use Rattle.std.specs.Prelude.{◌≢◌, ℕ, ◌+◌, ◌*◌, List, [], ◌∷◌, All}
use Rattle.std.specs.Str.{IsUtf8}

-- the word of four bytes, the least first
abbrev pub word_of : ℕ → ℕ → ℕ → ℕ → ℕ
word_of a b c d = a + 256 * b + 65536 * c + 16777216 * d

-- the words of a text
abbrev pub string_words : List ℕ → List ℕ
string_words [] = 0 ∷ []
string_words (a ∷ []) = word_of a 0 0 0 ∷ []
string_words (a ∷ b ∷ []) = word_of a b 0 0 ∷ []
string_words (a ∷ b ∷ c ∷ []) = word_of a b c 0 ∷ []
string_words (a ∷ b ∷ c ∷ d ∷ text) = word_of a b c d ∷ string_words text

-- The bytes can stand as a text in a module.
abbrev pub IsText : List ℕ → Type 0
IsText text = IsUtf8 text × All (λ byte. byte ≢ 0) text
