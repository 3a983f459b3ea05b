-- The operands of an instruction one by one.
use Rattle.std.specs.Prelude.{ℕ, Bool, true, false, not, if◌then◌else◌, List, [], ◌∷◌, take, drop, Option, Some, None}
use Rattle.std.specs.List.{flat_map}
use Rattle.gsl_instr.specs.declared.slot.Slot.{Slot}
use Rattle.gsl_instr.specs.declared.slot.Slot.TheVariants.{Result, Id, Forward, Number, Named, OfDecoration, Text}
use Rattle.gsl_instr.specs.declared.slot.Rest.{Rest}
use Rattle.gsl_instr.specs.declared.form.Form.{Form}
use Rattle.gsl_instr.specs.declared.parts.Part.{Part}
use Rattle.gsl_instr.specs.Texts.{text_words, after_text}
use Rattle.gsl_instr.specs.Forms.{slots, rest, next_of, is_text}

-- the words of the first operand
abbrev pub front_of : Slot → List ℕ → List ℕ
front_of slot args = if is_text slot then text_words args else take 1 args

-- and those behind it
abbrev pub behind : Slot → List ℕ → List ℕ
behind slot args = if is_text slot then after_text args else drop 1 args

-- what follows the operands that every instruction of a form has; of pairs, the first or the second comes next
abbrev pub more_parts : Rest → Bool → List ℕ → List Part
more_parts rest second [] = []
more_parts rest second (word ∷ words) = record { slot = next_of rest second; words = word ∷ [] } ∷ more_parts rest (not second) words

-- these operands, and what follows
abbrev pub parts_from : List Slot → Rest → Bool → List ℕ → List Part
parts_from [] rest second args = more_parts rest second args
parts_from (slot ∷ slots) rest second args = record { slot = slot; words = front_of slot args } ∷ parts_from slots rest second (behind slot args)

-- the operands of an instruction of a form
unfoldable pub parts_of : Form → List ℕ → List Part
parts_of form args = parts_from (slots form) (rest form) false args

-- the words of a part, if it is one that is looked for
abbrev pub words_if : (Slot → Bool) → Part → List ℕ
words_if wanted part = if wanted part.slot then part.words else []

-- all words of the operands that are looked for
abbrev pub words_of : (Slot → Bool) → Form → List ℕ → List ℕ
words_of wanted form args = flat_map (words_if wanted) (parts_of form args)

-- whether an operand is the result
abbrev pub is_result : Slot → Bool
is_result Result = true
is_result Id = false
is_result Forward = false
is_result Number = false
is_result (Named enumeration) = false
is_result OfDecoration = false
is_result Text = false

-- whether it is an id that is defined before
abbrev pub is_id : Slot → Bool
is_id Result = false
is_id Id = true
is_id Forward = false
is_id Number = false
is_id (Named enumeration) = false
is_id OfDecoration = false
is_id Text = false

-- whether it is an id that may be defined later
abbrev pub is_forward : Slot → Bool
is_forward Result = false
is_forward Id = false
is_forward Forward = true
is_forward Number = false
is_forward (Named enumeration) = false
is_forward OfDecoration = false
is_forward Text = false

-- an id, if there is one
abbrev pub ids_in : Option ℕ → List ℕ
ids_in None = []
ids_in (Some id) = id ∷ []
