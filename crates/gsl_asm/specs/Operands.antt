-- What an operand is written as: one rule a kind of operand.
use Rattle.std.specs.Prelude.{◌≡◌, ◌≢◌, ℕ, ◌==◌, if◌then◌else◌, List, [], ◌∷◌, Option, Some, None}
use Rattle.gsl_instr.specs.declared.slot.Enumeration.{Enumeration}
use Rattle.gsl_instr.specs.declared.slot.Enumeration.TheVariants.{BuiltIn}
use Rattle.gsl_instr.specs.declared.slot.Slot.{Slot}
use Rattle.gsl_instr.specs.declared.slot.Slot.TheVariants.{Result, Id, Forward, Number, Named, OfDecoration, Text}
use Rattle.gsl_instr.specs.declared.enumerant.decoration.TheConstants as decoration
use Rattle.gsl_instr.specs.Strings.{string_words, IsText}
use Rattle.gsl_text.specs.Numbers.{natural, unsigned}
use Rattle.gsl_words.specs.declared.target.Target.{Target}
use Rattle.gsl_asm.specs.declared.word.Word.{Word}
use Rattle.gsl_asm.specs.declared.word.Word.TheVariants.{Plain, Quoted}
use Rattle.gsl_asm.specs.Names.{number_of, or_else}

-- an id: `%` and decimal digits
abbrev pub id_of : List ℕ → Option ℕ
id_of [] = None
id_of (byte ∷ digits) = if byte == 37 then natural 10 digits else None

-- an enumerant: a name of the enumeration, or a number
abbrev pub enumerant_of : Target → Enumeration → List ℕ → Option ℕ
enumerant_of target enumeration word = or_else (number_of target enumeration word) (unsigned word)

-- A word of a text stands for these words of a module. `last` is the operand word before it.
pub data IsOperand (target : Target) (last : ℕ) : Slot → Word → List ℕ → Type 0 where
  result : (word : List ℕ) (n : ℕ) → id_of word ≡ Some n → IsOperand target last Result (Plain word) (n ∷ [])
  id : (word : List ℕ) (n : ℕ) → id_of word ≡ Some n → IsOperand target last Id (Plain word) (n ∷ [])
  forward : (word : List ℕ) (n : ℕ) → id_of word ≡ Some n → IsOperand target last Forward (Plain word) (n ∷ [])
  number : (word : List ℕ) (n : ℕ) → unsigned word ≡ Some n → IsOperand target last Number (Plain word) (n ∷ [])
  enumerant : (enumeration : Enumeration) (word : List ℕ) (n : ℕ) → enumerant_of target enumeration word ≡ Some n → IsOperand target last (Named enumeration) (Plain word) (n ∷ [])
  built_in : (word : List ℕ) (n : ℕ) → last ≡ decoration.BUILT_IN → enumerant_of target BuiltIn word ≡ Some n → IsOperand target last OfDecoration (Plain word) (n ∷ [])
  literal : (word : List ℕ) (n : ℕ) → last ≢ decoration.BUILT_IN → unsigned word ≡ Some n → IsOperand target last OfDecoration (Plain word) (n ∷ [])
  text : (bytes : List ℕ) → IsText bytes → IsOperand target last Text (Quoted bytes) (string_words bytes)
