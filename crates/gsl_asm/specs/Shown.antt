-- The text that shows a module: one space between words, decimal numbers, names where there are any.
use Rattle.std.specs.Prelude.{ℕ, ◌==◌, if◌then◌else◌, List, [], ◌∷◌, ◌++◌, Option, Some, None, slice_index, codes}
use Rattle.std.specs.List.{flat_map}
use Rattle.std.specs.Option.{unwrap_or}
use Rattle.std.specs.Fmt.{decimal}
use Rattle.gsl_instr.specs.declared.form.Form.{Form}
use Rattle.gsl_instr.specs.declared.parts.Part.{Part}
use Rattle.gsl_instr.specs.declared.slot.Enumeration.{Enumeration}
use Rattle.gsl_instr.specs.declared.slot.Enumeration.TheVariants.{BuiltIn}
use Rattle.gsl_instr.specs.declared.slot.Slot.{Slot}
use Rattle.gsl_instr.specs.declared.slot.Slot.TheVariants.{Result, Id, Forward, Number, Named, OfDecoration, Text}
use Rattle.gsl_instr.specs.declared.enumerant.decoration.TheConstants as decoration
use Rattle.gsl_instr.specs.Texts.{text_at}
use Rattle.gsl_instr.specs.Forms.{form_of, slots}
use Rattle.gsl_instr.specs.Parts.{parts_of}
use Rattle.gsl_words.specs.declared.target.Target.{Target}
use Rattle.gsl_words.specs.declared.target.Target.TheVariants.{V10}
use Rattle.gsl_words.specs.declared.module.Instr.{Instr}
use Rattle.gsl_words.specs.declared.module.Module.{Module}
use Rattle.gsl_words.specs.Versions.{target_of}
use Rattle.gsl_asm.specs.declared.place.Place.{Place}
use Rattle.gsl_asm.specs.declared.place.Place.TheVariants.{Nowhere, First, Second}
use Rattle.gsl_asm.specs.Words.{quoted}
use Rattle.gsl_asm.specs.Names.{name_of, opcode_name}
use Rattle.gsl_asm.specs.Instructions.{place_of, version_name}

-- an id
abbrev pub id_text : ℕ → List ℕ
id_text n = 37 ∷ decimal n

-- a name, or else a number
abbrev pub name_or : Option (List ℕ) → ℕ → List ℕ
name_or None n = decimal n
name_or (Some name) n = name

-- an enumerant
abbrev pub enumerant_text : Target → Enumeration → ℕ → List ℕ
enumerant_text target enumeration n = name_or (name_of target enumeration n) n

-- a string
abbrev pub string_text : Option (List ℕ × List ℕ) → List ℕ
string_text None = []
string_text (Some text) = quoted text.0

-- an operand, behind the operand word before it; the result stands elsewhere
abbrev pub operand_text : Target → ℕ → Slot → List ℕ → List ℕ
operand_text target last Result words = []
operand_text target last Id words = 32 ∷ id_text (slice_index words 0)
operand_text target last Forward words = 32 ∷ id_text (slice_index words 0)
operand_text target last Number words = 32 ∷ decimal (slice_index words 0)
operand_text target last (Named enumeration) words = 32 ∷ enumerant_text target enumeration (slice_index words 0)
operand_text target last OfDecoration words = if last == decoration.BUILT_IN then 32 ∷ enumerant_text target BuiltIn (slice_index words 0) else 32 ∷ decimal (slice_index words 0)
operand_text target last Text words = 32 ∷ string_text (text_at words)

-- operands
abbrev pub operands_text : Target → ℕ → List Part → List ℕ
operands_text target last [] = []
operands_text target last (part ∷ parts) = operand_text target last part.slot part.words ++ operands_text target (slice_index part.words 0) parts

-- the result in front of a name
abbrev pub result_text : Place → List ℕ → List ℕ
result_text Nowhere args = []
result_text First args = id_text (slice_index args 0) ++ codes " = "
result_text Second args = id_text (slice_index args 1) ++ codes " = "

-- an instruction of a form
abbrev pub formed_text : Target → ℕ → List ℕ → Option Form → List ℕ
formed_text target op args None = []
formed_text target op args (Some form) = result_text (place_of (slots form)) args ++ (unwrap_or (opcode_name op) [] ++ (operands_text target 0 (parts_of form args) ++ codes "\n"))

-- an instruction
unfoldable pub instr_text : Target → Instr → List ℕ
instr_text target instr = formed_text target instr.op instr.args (form_of instr.op)

-- the version and the bound
abbrev pub head_text : Target → ℕ → List ℕ
head_text target bound = codes "spirv " ++ (version_name target ++ (32 ∷ decimal bound ++ codes "\n"))

-- the text that shows a module of a target
abbrev pub shown_as : Target → Module → List ℕ
shown_as target m = head_text target m.bound ++ flat_map (instr_text target) m.instrs

-- the text that shows a module
abbrev pub shown : Module → List ℕ
shown m = shown_as (unwrap_or (target_of m.version) V10) m
