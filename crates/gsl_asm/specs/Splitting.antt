-- How a line is cut into words.
use Rattle.std.specs.Prelude.{ℕ, zero, suc, ◌+◌, ◌-◌, false, ◌==◌, if◌then◌else◌, List, [], ◌∷◌, take, drop, slice_index, Option, Some, None}
use Rattle.std.specs.List.{prefix_len}
use Rattle.std.specs.Option.{option_map}
use Rattle.gsl_asm.specs.declared.word.Word.{Word}
use Rattle.gsl_asm.specs.declared.word.Word.TheVariants.{Plain, Quoted}
use Rattle.gsl_asm.specs.Escapes.{raw_len, unescaped}
use Rattle.gsl_asm.specs.Words.{is_blank, is_plain, ends}

-- a word and how many bytes it has, if it ends where a word may
abbrev pub sized : Word → ℕ → List ℕ → Option (Word × ℕ)
sized word len bytes = if ends (drop len bytes) then Some (word, len) else None

-- the string that bytes begin with, if so many stand before the quote that ends it
abbrev pub string_at : List ℕ → Option ℕ → Option (Word × ℕ)
string_at bytes None = None
string_at bytes (Some len) = sized (Quoted (unescaped false (take len (drop 1 bytes)))) (len + 2) bytes

-- the plain word of so many bytes that bytes begin with
abbrev pub plain_at : List ℕ → ℕ → Option (Word × ℕ)
plain_at bytes len = sized (Plain (take len bytes)) len bytes

-- the word that bytes begin with, and how many of them it takes
unfoldable pub word_at : List ℕ → Option (Word × ℕ)
word_at bytes = if slice_index bytes 0 == 34 then string_at bytes (raw_len false (drop 1 bytes)) else plain_at bytes (1 + prefix_len is_plain (drop 1 bytes))

-- a word in front of others
abbrev pub onto : Word → Option (List Word) → Option (List Word)
onto word found = option_map (λ words. word ∷ words) found

-- a word, and the words behind it by how many bytes it takes
abbrev pub with_word : Option (Word × ℕ) → (ℕ → Option (List Word)) → Option (List Word)
with_word None behind = None
with_word (Some found) behind = onto found.0 (behind found.1)

-- The words of bytes, if they spell some, behind those that are passed over. What a word takes is passed over.
unfoldable pub words_from : ℕ → List ℕ → Option (List Word)
words_from skip [] = Some []
words_from (suc skip) (byte ∷ bytes) = words_from skip bytes
words_from zero (byte ∷ bytes) =
    if is_blank byte then words_from zero bytes else if byte == 59 then Some []
    else with_word (word_at (byte ∷ bytes)) (λ len. words_from (len - 1) bytes)

-- the words of a line
abbrev pub words_of : List ℕ → Option (List Word)
words_of bytes = words_from 0 bytes

-- words, none where there are none
abbrev pub words_in : Option (List Word) → List Word
words_in None = []
words_in (Some words) = words
