-- What a line with words says: the version and the bound, or an instruction.
use Rattle.std.specs.Prelude.{◌≡◌, ℕ, ◌+◌, ◌^◌, ◌<◌, Bool, true, false, not, List, [], ◌∷◌, ◌++◌, length, slice_index, Some, codes}
use Rattle.gsl_instr.specs.declared.form.Form.{Form}
use Rattle.gsl_instr.specs.declared.slot.Slot.{Slot}
use Rattle.gsl_instr.specs.declared.slot.Rest.{Rest}
use Rattle.gsl_instr.specs.Forms.{form_of, slots, rest, allows, next_of}
use Rattle.gsl_instr.specs.Parts.{is_result}
use Rattle.gsl_text.specs.Numbers.{unsigned}
use Rattle.gsl_words.specs.declared.target.Target.{Target}
use Rattle.gsl_words.specs.declared.target.Target.TheVariants.{V10, V13}
use Rattle.gsl_words.specs.declared.module.Instr.{Instr}
use Rattle.gsl_asm.specs.declared.word.Word.{Word}
use Rattle.gsl_asm.specs.declared.word.Word.TheVariants.{Plain}
use Rattle.gsl_asm.specs.declared.place.Place.{Place}
use Rattle.gsl_asm.specs.declared.place.Place.TheVariants.{Nowhere, First, Second}
use Rattle.gsl_asm.specs.Operands.{IsOperand}
use Rattle.gsl_asm.specs.Names.{opcode_of}

-- the word that an operand leaves for the one behind it: its first
abbrev pub last_of : List ℕ → ℕ
last_of args = slice_index args 0

-- Words of a text stand for the operands that follow those of every instruction of a form; `second` says whether they
-- begin with the second of a pair.
pub data AreMore (target : Target) (rest : Rest) : Bool → ℕ → List Word → List ℕ → Type 0 where
  end : (second : Bool) (last : ℕ) → AreMore target rest second last [] []
  more : (second : Bool) (last : ℕ) (word : Word) (words : List Word) (args more all : List ℕ) → IsOperand target last (next_of rest second) word args →
      AreMore target rest (not second) (last_of args) words more → all ≡ args ++ more → AreMore target rest second last (word ∷ words) all

-- Words of a text stand for the operands of an instruction: those that every one of a form has, and then as many as may
-- follow.
pub data AreOperands (target : Target) (rest : Rest) : List Slot → ℕ → List Word → List ℕ → Type 0 where
  behind : (last : ℕ) (words : List Word) (args : List ℕ) → AreMore target rest false last words args → allows rest (length args) ≡ true → AreOperands target rest [] last words args
  fixed : (slot : Slot) (slots : List Slot) (last : ℕ) (word : Word) (words : List Word) (args more all : List ℕ) → IsOperand target last slot word args →
      AreOperands target rest slots (last_of args) words more → all ≡ args ++ more → AreOperands target rest (slot ∷ slots) last (word ∷ words) all

-- the place of the result by the first two operands
abbrev pub place_by : Bool → Bool → Place
place_by true second = First
place_by false true = Second
place_by false false = Nowhere

abbrev pub place_of : List Slot → Place
place_of [] = Nowhere
place_of (slot ∷ []) = place_by (is_result slot) false
place_of (slot ∷ next ∷ slots) = place_by (is_result slot) (is_result next)

-- The words of a line are a name, `%R =` before it where the result has a place, and operands; the operands with the
-- result among them are these.
pub data IsLine : Place → List Word → List ℕ → List Word → Type 0 where
  nowhere : (name : List ℕ) (operands : List Word) → IsLine Nowhere (Plain name ∷ operands) name operands
  first : (result name : List ℕ) (operands : List Word) → IsLine First (Plain result ∷ Plain (codes "=") ∷ Plain name ∷ operands) name (Plain result ∷ operands)
  second : (result name : List ℕ) (type : Word) (operands : List Word) → IsLine Second (Plain result ∷ Plain (codes "=") ∷ Plain name ∷ type ∷ operands) name (type ∷ Plain result ∷ operands)

-- The words say an instruction.
pub record IsInstr (target : Target) (words : List Word) (instr : Instr) : Type 0 where
  pub name : List ℕ
  pub operands : List Word
  pub form : Form
  pub opcode : opcode_of name ≡ Some instr.op
  pub found : form_of instr.op ≡ Some form
  pub line : IsLine (place_of (slots form)) words name operands
  pub args : AreOperands target (rest form) (slots form) 0 operands instr.args
  pub short : 1 + length instr.args < 2 ^ 16

-- the names of the versions
abbrev pub version_name : Target → List ℕ
version_name V10 = codes "1.0"
version_name V13 = codes "1.3"

-- The words say the version and the bound.
pub record IsHead (words : List Word) (target : Target) (bound : ℕ) : Type 0 where
  pub number : List ℕ
  pub words_are : words ≡ Plain (codes "spirv") ∷ Plain (version_name target) ∷ Plain number ∷ []
  pub bound_is : unsigned number ≡ Some bound
