-- What is read up to the first line with a word.
use Rattle.std.specs.Prelude.{◌≡◌, ℕ, ◌+◌, ◌≤◌, length, Result, Ok, Err}
use Rattle.gsl_text.specs.Lines.{lines_of}
use Rattle.gsl_words.specs.declared.module.Module.{Module}
use Rattle.gsl_asm.specs.declared.assembling.Head.{Head}
use Rattle.gsl_asm.specs.declared.fault.AsmFault.{AsmFault}
use Rattle.gsl_asm.specs.declared.fault.AsmFault.TheVariants.{Line, Memory}
use Rattle.gsl_asm.specs.Reading.{body, with_head}

-- Behind the line stands what is left of the text, and its instructions are to come.
abbrev pub HeadGives : Result Head AsmFault → ℕ → Result Module ℕ → Type 0
HeadGives (Ok head) most whole = (whole ≡ with_head (head.target, head.bound) (body head.target (head.line + 1) (lines_of head.rest.now))) × (head.line + length head.rest.now ≤ most)
HeadGives (Err (Line n)) most whole = whole ≡ Err n
HeadGives (Err Memory) most whole = Unit {0}
