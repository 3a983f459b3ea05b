-- The words of a line.
use Rattle.std.specs.Prelude.{◌≡◌, ℕ, Bool, true, ◌==◌, ◌||◌, not, if◌then◌else◌, List, [], ◌∷◌, ◌++◌}
use Rattle.std.specs.List.{flat_map, list_all}
use Rattle.gsl_asm.specs.declared.word.Word.{Word}
use Rattle.gsl_asm.specs.declared.word.Word.TheVariants.{Plain, Quoted}

-- a space or a tab
abbrev pub is_blank : ℕ → Bool
is_blank byte = byte == 32 || byte == 9

-- a byte of a plain word: no blank, no `;` and no quote
abbrev pub is_plain : ℕ → Bool
is_plain byte = not (is_blank byte || byte == 59 || byte == 34)

-- A quote, a backslash, LF and CR are written behind a backslash.
abbrev pub escape : ℕ → List ℕ
escape byte = if byte == 34 then 92 ∷ 34 ∷ [] else if byte == 92 then 92 ∷ 92 ∷ [] else if byte == 10 then 92 ∷ 110 ∷ [] else if byte == 13 then 92 ∷ 114 ∷ [] else byte ∷ []

-- characters as they stand between quotes
abbrev pub escaped : List ℕ → List ℕ
escaped text = flat_map escape text

-- and with the quotes
abbrev pub quoted : List ℕ → List ℕ
quoted text = 34 ∷ (escaped text ++ 34 ∷ [])

-- What a word ends before: a blank, a comment, or nothing.
abbrev pub ends : List ℕ → Bool
ends [] = true
ends (byte ∷ bytes) = is_blank byte || byte == 59

-- Bytes spell words with blanks between, before and behind; `;` outside quotes begins a comment to their end.
pub data Spells : List ℕ → List Word → Type 0 where
  end : Spells [] []
  comment : (bytes : List ℕ) → Spells (59 ∷ bytes) []
  blank : (byte : ℕ) (bytes : List ℕ) (words : List Word) → is_blank byte ≡ true → Spells bytes words → Spells (byte ∷ bytes) words
  plain : (byte : ℕ) (word rest bytes : List ℕ) (words : List Word) → is_plain byte ≡ true → list_all is_plain word ≡ true → ends rest ≡ true → bytes ≡ byte ∷ (word ++ rest) →
      Spells rest words → Spells bytes (Plain (byte ∷ word) ∷ words)
  string : (text rest bytes : List ℕ) (words : List Word) → ends rest ≡ true → bytes ≡ quoted text ++ rest → Spells rest words → Spells bytes (Quoted text ∷ words)
