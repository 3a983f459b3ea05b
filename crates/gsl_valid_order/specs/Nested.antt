-- Whether the blocks of functions are structured, by the numbers of the instructions that begin them.
use Rattle.std.specs.Prelude.{ℕ, Bool, ◌||◌, not, drop, Option}
use Rattle.gsl_words.specs.declared.module.Instr.{Instr}
use Rattle.gsl_words.specs.declared.module.Module.{Module}
use Rattle.gsl_blocks.specs.Blocks.{blocks_of}
use Rattle.gsl_blocks.specs.Reading.{nesting_of}
use Rattle.gsl_valid.specs.Instruction.{read}
use Rattle.gsl_valid.specs.StructureRules.{is_structured}
use Rattle.gsl_valid.specs.Types.{function_begins}

-- how many constructs stand within each other in the function that begins with the instruction of a number, if its blocks are structured
abbrev pub nesting_at : Module → ℕ → Option ℕ
nesting_at m at = nesting_of (blocks_of (drop at m.instrs))

-- whether the instruction of a number keeps V12
abbrev pub passes : Module → ℕ → Instr → Bool
passes m at i = not (function_begins (read i)) || is_structured (nesting_at m at)

-- what a pass keeps: the module
abbrev pub behind : Module → ℕ → Instr → Module
behind m at i = m
