-- What stands next in a line.
use Rattle.std.specs.Prelude.{◌≡◌, ℕ, ◌<◌, List, [], Option, Some, None}
use Rattle.gsl_asm.specs.declared.word.Word.{Word as OneWord}
use Rattle.gsl_asm.specs.declared.word.Next.{Next}
use Rattle.gsl_asm.specs.declared.word.Next.TheVariants.{End, Bad, Word}
use Rattle.gsl_asm.specs.Splitting.{onto}

-- Of the words that a line had, this is the next, and these are left.
abbrev pub NextIs : Option (List OneWord) → Next → Option (List OneWord) → Type 0
NextIs words End left = words ≡ Some []
NextIs words Bad left = words ≡ None
NextIs words (Word word) left = words ≡ onto word left

-- A word leaves fewer bytes.
abbrev pub IsShorter : Next → ℕ → ℕ → Type 0
IsShorter End left bytes = Unit {0}
IsShorter Bad left bytes = Unit {0}
IsShorter (Word word) left bytes = left < bytes
