-- Texts among operand words (SPIR-V 1.0, 2.2.1): where they end, and what they say.
use Rattle.std.specs.Prelude.{ℕ, ◌/◌, ◌%◌, ◌^◌, Bool, ◌==◌, ◌||◌, not, nat_lt, List, [], ◌∷◌, ◌++◌, take, Option, Some, None, if◌then◌else◌}
use Rattle.std.specs.Option.{option_map}

-- The last word of a text is the first one whose highest byte is zero.
abbrev pub text_words : List ℕ → List ℕ
text_words [] = []
text_words (w ∷ words) = if nat_lt w (2 ^ 24) then w ∷ [] else w ∷ text_words words

-- the operands behind a text
abbrev pub after_text : List ℕ → List ℕ
after_text [] = []
after_text (w ∷ words) = if nat_lt w (2 ^ 24) then words else after_text words

-- the bytes of a word, the least first
abbrev pub bytes_of : ℕ → List ℕ
bytes_of w = w % 256 ∷ w / 256 % 256 ∷ w / 65536 % 256 ∷ w / 16777216 % 256 ∷ []

-- whether none of its three lower bytes is zero
abbrev pub is_full : ℕ → Bool
is_full w = not (w % 256 == 0 || w / 256 % 256 == 0 || w / 65536 % 256 == 0)

-- how many bytes of a text its last word has, with zeros alone behind them
abbrev pub last_len : ℕ → Option ℕ
last_len w =
    if w == 0 then Some 0 else if w % 256 == 0 then None else if nat_lt w 256 then Some 1 else if w / 256 % 256 == 0
    then None else if nat_lt w 65536 then Some 2 else Some 3

-- a text that ends with this word, and the words behind it
abbrev pub ends_with : ℕ → List ℕ → Option (List ℕ × List ℕ)
ends_with w words = option_map (λ len. (take len (bytes_of w), words)) (last_len w)

-- bytes in front of a text
abbrev pub onto : List ℕ → Option (List ℕ × List ℕ) → Option (List ℕ × List ℕ)
onto front found = option_map (λ text. (front ++ text.0, text.1)) found

-- the bytes that words begin with up to a zero byte, and the words behind, if only zeros fill the last word
unfoldable pub text_at : List ℕ → Option (List ℕ × List ℕ)
text_at [] = None
text_at (w ∷ words) = if nat_lt w (2 ^ 24) then ends_with w words else if is_full w then onto (bytes_of w) (text_at words) else None
