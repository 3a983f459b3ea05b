-- Which modules have a file that is not too long, as a test.
use Rattle.std.specs.Prelude.{ℕ, ◌+◌, ◌^◌, Bool, true, false, ◌&&◌, nat_lt, List, [], ◌∷◌, length, Option, Some, None, is_some}
use Rattle.gsl_instr.specs.declared.form.Form.{Form}
use Rattle.gsl_instr.specs.Fitting.{fits_text}
use Rattle.gsl_instr.specs.Forms.{allows_words, form_of}
use Rattle.gsl_valid.specs.Placed.{count_of_words}
use Rattle.gsl_words.specs.declared.module.Instr.{Instr}
use Rattle.gsl_words.specs.declared.module.Module.{Module}
use Rattle.gsl_words.specs.Versions.{target_of}

abbrev pub fits_form : Option Form → List ℕ → Bool
fits_form None args = false
fits_form (Some form) args = nat_lt (1 + length args) (2 ^ 16) && (allows_words form (length args) && fits_text form args)

-- whether the table has room for an instruction of this opcode with these operand words
unfoldable pub fits : ℕ → List ℕ → Bool
fits op args = fits_form (form_of op) args

-- the same for each of some instructions
abbrev pub all_fit : List Instr → Bool
all_fit [] = true
all_fit (i ∷ code) = fits i.op i.args && all_fit code

-- whether a module has a file of fewer than 2^32 words
abbrev pub is_writable : Module → Bool
is_writable m = is_some (target_of m.version) && (nat_lt (count_of_words m) (2 ^ 32) && all_fit m.instrs)
