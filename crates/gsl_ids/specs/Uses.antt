-- Whether the ids that an instruction uses are such as they must be, operand by operand.
use Rattle.std.specs.Prelude.{ℕ, Bool, true, nat_lt, List, Option, Some, None}
use Rattle.std.specs.List.{list_all}
use Rattle.gsl_instr.specs.declared.form.Form.{Form}
use Rattle.gsl_instr.specs.declared.slot.Slot.{Slot}
use Rattle.gsl_instr.specs.declared.slot.Slot.TheVariants.{Result, Id, Forward, Number, Named, OfDecoration, Text}
use Rattle.gsl_instr.specs.declared.parts.Part.{Part}
use Rattle.gsl_instr.specs.Forms.{form_of}
use Rattle.gsl_instr.specs.Parts.{parts_of}
use Rattle.gsl_words.specs.declared.module.Instr.{Instr}
use Rattle.gsl_words.specs.declared.module.Module.{Module}
use Rattle.gsl_ids.specs.Table.{number_of, is_defined_in}

-- `needed` and `mentioned` say of an id whether it may be used, by an instruction that needs it or that mentions it.
module _ (needed mentioned : ℕ → Bool) where
  -- whether the words of an operand are ids that may be used, or no ids
  abbrev pub is_used : Slot → List ℕ → Bool
  is_used Result words = true
  is_used Id words = list_all needed words
  is_used Forward words = list_all mentioned words
  is_used Number words = true
  is_used (Named enumeration) words = true
  is_used OfDecoration words = true
  is_used Text words = true

  -- whether all operands of a form are
  abbrev pub form_used : List ℕ → Option Form → Bool
  form_used args None = true
  form_used args (Some form) = list_all (λ (part : Part). is_used part.slot part.words) (parts_of form args)

  -- whether all of an instruction are
  abbrev pub all_used : Instr → Bool
  all_used i = form_used i.args (form_of i.op)

-- whether what the instruction of a number uses is defined, and before it where it must be
abbrev pub uses_numbered : Module → ℕ → Instr → Bool
uses_numbered m at i = all_used (is_defined_in m at) (λ id. nat_lt 0 (number_of m id)) i
