-- Which operand words an instruction may have.
use Rattle.std.specs.Prelude.{◌≡◌, ℕ, ◌+◌, ◌-◌, ◌^◌, ◌<◌, Bool, true, false, ◌&&◌, if◌then◌else◌, IsTrue, List, [], ◌∷◌, ◌++◌, length, drop, Option, Some, None}
use Rattle.std.specs.Str.{is_utf8}
use Rattle.gsl_instr.specs.declared.slot.Slot.{Slot}
use Rattle.gsl_instr.specs.declared.slot.Slot.TheVariants.{Result, Id, Forward, Number, Named, OfDecoration, Text}
use Rattle.gsl_instr.specs.declared.form.Form.{Form}
use Rattle.gsl_instr.specs.Strings.{string_words, IsText}
use Rattle.gsl_instr.specs.Texts.{text_at}
use Rattle.gsl_instr.specs.Forms.{form_of, slots, rest, allows, has_text}

-- The words begin with one word, and those behind it are as said.
abbrev pub TakesWord : List ℕ → (List ℕ → Type 0) → Type 0
TakesWord args Then = (word : ℕ) × (more : List ℕ) × (args ≡ word ∷ more) × Then more

-- The words begin with those of a text, and those behind it are as said.
abbrev pub TakesText : List ℕ → (List ℕ → Type 0) → Type 0
TakesText args Then = (text : List ℕ) × (more : List ℕ) × IsText text × (args ≡ string_words text ++ more) × Then more

-- The words begin with an operand, and those behind it are as said.
abbrev pub Takes : Slot → List ℕ → (List ℕ → Type 0) → Type 0
Takes Result args Then = TakesWord args Then
Takes Id args Then = TakesWord args Then
Takes Forward args Then = TakesWord args Then
Takes Number args Then = TakesWord args Then
Takes (Named enumeration) args Then = TakesWord args Then
Takes OfDecoration args Then = TakesWord args Then
Takes Text args Then = TakesText args Then

-- The words begin with these operands, and these words are left.
abbrev pub Fill : List Slot → List ℕ → List ℕ → Type 0
Fill [] args more = args ≡ more
Fill (slot ∷ slots) args more = Takes slot args (λ behind. Fill slots behind more)

-- The table has room for an instruction of this opcode with these operand words.
pub record Fits (op : ℕ) (args : List ℕ) : Type 0 where
  pub form : Form
  pub found : form_of op ≡ Some form
  pub more : List ℕ
  pub fixed : Fill (slots form) args more
  pub follow : IsTrue (allows (rest form) (length more))
  pub short : 1 + length args < 2 ^ 16

-- whether a text, if one was found, is one that may stand there
abbrev pub is_text_of : Form → Option (List ℕ × List ℕ) → Bool
is_text_of form None = false
is_text_of form (Some text) = is_utf8 text.0 && allows (rest form) (length text.1)

-- whether the text of a form stands among its operands, if it has one
unfoldable pub fits_text : Form → List ℕ → Bool
fits_text form args = if has_text form then is_text_of form (text_at (drop (length (slots form) - 1) args)) else true
