-- What `dis` and `asm` make of the bytes of a file.
use Rattle.std.specs.Prelude.{◌≡◌, ℕ, List, Result, Ok, Err}
use Rattle.gsl_text.specs.Lines.{lines_of}
use Rattle.gsl_words.specs.declared.fault.WordFault.{WordFault}
use Rattle.gsl_words.specs.declared.module.Module.{Module}
use Rattle.gsl_words.specs.Bytes.{bytes_of}
use Rattle.gsl_asm.specs.Shown.{shown}
use Rattle.gsl_asm.specs.Texts.{IsTextOf, IsWrong}
use Rattle.gsl_plan.specs.Plan.{Name, Plan}
use Rattle.gsl_cmd.specs.declared.converting.Conversion.{Conversion}
use Rattle.gsl_cmd.specs.declared.converting.Conversion.TheVariants.{Disassemble, Assemble}
use Rattle.gsl_cmd.specs.Texts.{line_text, long_text}
use Rattle.gsl_exec.specs.Judged.{JudgesFile}
use Rattle.gsl_exec.specs.Texts.{word_text, module_long_text}

-- The bytes that are written, or the line that says why there are none.
abbrev pub Made : Type 0
Made = Result (List ℕ) (List ℕ)

abbrev pub shown_of : Result Module WordFault → Made
shown_of (Ok m) = Ok (shown m)
shown_of (Err fault) = Err (word_text fault)

-- the text of a module's file, or its fault
abbrev pub Shows : List ℕ → Made → Type 0
Shows bytes made = (verdict : Result Module WordFault) × JudgesFile bytes verdict × (made ≡ shown_of verdict)

-- the module of a text, or the line that is wrong
abbrev pub JudgesText : List ℕ → Result Module ℕ → Type 0
JudgesText text (Ok m) = IsTextOf text m
JudgesText text (Err line) = IsWrong (lines_of text) line

abbrev pub assembled_of : Name → Result Module ℕ → Made
assembled_of name (Ok m) = Ok (bytes_of m)
assembled_of name (Err line) = Err (line_text name line)

-- the file of a text's module, or the line that is wrong
abbrev pub Assembles : Name → List ℕ → Made → Type 0
Assembles name text made = (verdict : Result Module ℕ) × JudgesText text verdict × (made ≡ assembled_of name verdict)

-- what is made of the file of this name with these bytes
abbrev pub Makes : Conversion → Name → List ℕ → Made → Type 0
Makes Disassemble name bytes made = Shows bytes made
Makes Assemble name bytes made = Assembles name bytes made

-- the line that says that the file is too long
abbrev pub too_long : Conversion → Name → List ℕ
too_long Disassemble name = module_long_text
too_long Assemble name = long_text name

-- the plan of a conversion
abbrev pub plan_for : Conversion → Name → Name → Plan
plan_for Disassemble file out = Plan.Disassemble file out
plan_for Assemble file out = Plan.Assemble file out
