-- V12: the blocks of each function are structured.
use Rattle.std.specs.Prelude.{ℕ, Bool, true, false, ◌||◌, not, Option, Some, None}
use Rattle.gsl_words.specs.declared.module.Instr.{Instr}
use Rattle.gsl_words.specs.declared.module.Module.{Module}
use Rattle.gsl_blocks.specs.Blocks.{blocks_of}
use Rattle.gsl_blocks.specs.Reading.{nesting_of}
use Rattle.gsl_valid.specs.Instruction.{read}
use Rattle.gsl_valid.specs.Placed.{Code}
use Rattle.gsl_valid.specs.Search.{first_broken, from_here}
use Rattle.gsl_valid.specs.Types.{function_begins}

-- how many constructs stand within each other in the function that begins behind some code, if its blocks are structured
abbrev pub nesting : Module → Code → Option ℕ
nesting m before = nesting_of (blocks_of (from_here m before))

-- whether blocks are structured
abbrev pub is_structured : Option ℕ → Bool
is_structured None = false
is_structured (Some depth) = true

-- whether V12 is kept by an instruction
abbrev pub begins_structured : Module → Code → Instr → Bool
begins_structured m before i = not (function_begins (read i)) || is_structured (nesting m before)

-- the first Function that breaks V12
abbrev pub structure : Module → Option ℕ
structure m = first_broken (begins_structured m) m
