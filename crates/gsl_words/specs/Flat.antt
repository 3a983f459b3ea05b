-- Instructions one after the other in one list of words, and the places in it where they start.
use Rattle.std.specs.Prelude.{◌≡◌, ℕ, ◌+◌, ◌*◌, ◌%◌, ◌^◌, ◌<◌, if◌then◌else◌, nat_lt, List, [], ◌∷◌, length, take, drop, slice_index}
use Rattle.std.specs.List.{flat_map, AllByRecursion}
use Rattle.gsl_words.specs.declared.module.Instr.{Instr}
use Rattle.gsl_words.specs.Instructions.{word_count}

-- An instruction's words. Its first one has the opcode in the low half and, as far as it has room, the
-- count of words in the high one.
abbrev pub kept_words : Instr → List ℕ
kept_words instr = (word_count instr % 65536 * 65536 + instr.op) ∷ instr.args

-- the instruction of such words
abbrev pub instr_of : List ℕ → Instr
instr_of [] = record { op = 0; args = [] }
instr_of (first ∷ args) = record { op = first % 65536; args = args }

-- the places where instructions start, the first of them here
abbrev pub starts_from : ℕ → List Instr → List ℕ
starts_from at [] = []
starts_from at (instr ∷ code) = at ∷ starts_from (at + word_count instr) code

-- the instructions that start at these places, each of them up to the next
unfoldable pub parts : List ℕ → List ℕ → List Instr
parts words [] = []
parts words (start ∷ []) = instr_of (drop start words) ∷ []
parts words (start ∷ next ∷ starts) = instr_of (drop start (take next words)) ∷ parts words (next ∷ starts)

-- where the instruction of this number ends
abbrev pub end_of : List ℕ → List ℕ → ℕ → ℕ
end_of words starts i = if nat_lt (i + 1) (length starts) then slice_index starts (i + 1) else length words

-- The words are those of the instructions that start at these places, and nothing else.
pub record IsFlat (words starts : List ℕ) : Type 0 where
  pub ops : AllByRecursion (λ instr. instr.op < 2 ^ 16) (parts words starts)
  pub words_are : words ≡ flat_map kept_words (parts words starts)
  pub starts_are : starts ≡ starts_from 0 (parts words starts)
