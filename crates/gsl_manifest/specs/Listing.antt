-- The text that shows what a run gave: its buffers, and then its outputs.
use Rattle.std.specs.Prelude.{◌≡◌, ℕ, ◌+◌, ◌*◌, ◌/◌, ◌%◌, ◌^◌, false, ◌==◌, ◌||◌, if◌then◌else◌, nat_lt, List, [], ◌∷◌, ◌++◌, length, codes}
use Rattle.std.specs.List.{flat_map, AllByRecursion}
use Rattle.std.specs.Fmt.{decimal}
use Rattle.gsl_base.specs.declared.input.Buffer.{Buffer}
use Rattle.gsl_base.specs.declared.input.Located.{Located}
use Rattle.gsl_base.specs.declared.input.Output.{Output}
use Rattle.gsl_base.specs.Ranges.{FitsBuffer, FitsLocated}

-- a hexadecimal digit, in lower case
abbrev pub hex_digit : ℕ → ℕ
hex_digit d = if nat_lt d 10 then 48 + d else 87 + d

-- a byte as two digits
abbrev pub hex_byte : ℕ → List ℕ
hex_byte b = hex_digit (b / 16 % 16) ∷ hex_digit (b % 16) ∷ []

-- a word as eight digits
abbrev pub hex_word : ℕ → List ℕ
hex_word w =
    hex_digit (w / 2 ^ 28 % 16) ∷ hex_digit (w / 2 ^ 24 % 16) ∷ hex_digit (w / 2 ^ 20 % 16) ∷ hex_digit (w / 2 ^ 16 % 16)
    ∷ hex_digit (w / 2 ^ 12 % 16) ∷ hex_digit (w / 2 ^ 8 % 16) ∷ hex_digit (w / 2 ^ 4 % 16) ∷ hex_digit (w % 16) ∷ []

-- what stands behind a word: LF behind the eighth of a line and behind the last, else a space
abbrev pub behind_word : ℕ → List ℕ → ℕ
behind_word before more = if before % 8 == 7 || length more == 0 then 10 else 32

-- the lines of words, of which so many stand before these
abbrev pub word_lines : ℕ → List ℕ → List ℕ
word_lines before [] = []
word_lines before (w ∷ words) = hex_word w ++ behind_word before words ∷ word_lines (before + 1) words

-- the words of bytes, in each the least byte first
abbrev pub words_of : List ℕ → List ℕ
words_of [] = []
words_of (a ∷ []) = []
words_of (a ∷ b ∷ []) = []
words_of (a ∷ b ∷ c ∷ []) = []
words_of (a ∷ b ∷ c ∷ d ∷ bytes) = (a + 2 ^ 8 * b + 2 ^ 16 * c + 2 ^ 24 * d) ∷ words_of bytes

-- the bytes behind the last whole word
abbrev pub left_over : List ℕ → List ℕ
left_over [] = []
left_over (a ∷ []) = a ∷ []
left_over (a ∷ b ∷ []) = a ∷ b ∷ []
left_over (a ∷ b ∷ c ∷ []) = a ∷ b ∷ c ∷ []
left_over (a ∷ b ∷ c ∷ d ∷ bytes) = left_over bytes

-- a byte on the line of the bytes that are left over
abbrev pub byte_field : ℕ → List ℕ
byte_field byte = 32 ∷ hex_byte byte

-- the line of the bytes that are left over, if there are any
abbrev pub left_line : List ℕ → List ℕ
left_line [] = []
left_line (byte ∷ bytes) = codes "bytes" ++ flat_map byte_field (byte ∷ bytes) ++ codes "\n"

-- a buffer by its set and binding
abbrev pub buffer_text : Buffer → List ℕ
buffer_text b =
    codes "buffer " ++ decimal b.set ++ codes " " ++ decimal b.binding ++ codes "\n" ++ word_lines 0 (words_of b.bytes) ++ left_line (left_over b.bytes)

-- the words at a location
abbrev pub out_text : Located → List ℕ
out_text o = codes "out " ++ decimal o.location ++ codes "\n" ++ word_lines 0 o.words

-- the outputs, or that the invocation was discarded
abbrev pub ending : Output → List ℕ
ending o = if o.killed then codes "discarded\n" else flat_map out_text o.outs

-- the buffers, and then the end
abbrev pub listing_of : Output → List ℕ
listing_of o = flat_map buffer_text o.buffers ++ ending o

-- Each number of the output is in the range of its type.
pub record FitsOutput (o : Output) : Type 0 where
  pub buffers : AllByRecursion FitsBuffer o.buffers
  pub outs : AllByRecursion FitsLocated o.outs

-- Two outputs have all that a listing shows in common: the buffers, whether they were discarded, and
-- otherwise the outputs.
pub record SameShown (o p : Output) : Type 0 where
  pub buffers : o.buffers ≡ p.buffers
  pub killed : o.killed ≡ p.killed
  pub outs : o.killed ≡ false → o.outs ≡ p.outs
