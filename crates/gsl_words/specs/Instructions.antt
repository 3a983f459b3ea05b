-- Which modules have a file.
use Rattle.std.specs.Prelude.{ℕ, ◌+◌, length, All}
use Rattle.gsl_instr.specs.Fitting.{Fits}
use Rattle.gsl_words.specs.declared.module.Instr.{Instr}
use Rattle.gsl_words.specs.declared.module.Module.{Module}
use Rattle.gsl_words.specs.Versions.{IsKnown}

-- The table has room for the instruction.
abbrev pub IsInTable : Instr → Type 0
IsInTable instr = Fits instr.op instr.args

-- how many words an instruction has
abbrev pub word_count : Instr → ℕ
word_count instr = 1 + length instr.args

-- The module has a file: its version is known, and the table has room for each of its instructions.
pub record HasFile (m : Module) : Type 0 where
  pub version : IsKnown m.version
  pub instrs : All IsInTable m.instrs
