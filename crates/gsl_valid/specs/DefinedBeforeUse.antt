-- V3: each id that is used is defined by an earlier instruction, or where that may come later, by any.
use Rattle.std.specs.Prelude.{ℕ, Bool, ◌&&◌, Option}
use Rattle.std.specs.List.{list_all}
use Rattle.gsl_words.specs.declared.module.Instr.{Instr}
use Rattle.gsl_words.specs.declared.module.Module.{Module}
use Rattle.gsl_valid.specs.Instruction.{read}
use Rattle.gsl_valid.specs.Placed.{Code}
use Rattle.gsl_valid.specs.Search.{first_broken}
use Rattle.gsl_valid.specs.Ids.{defined, needs, mentions}

-- whether V3 is kept by an instruction
abbrev pub uses_defined : Module → Code → Instr → Bool
uses_defined m before i = list_all (defined before) (needs (read i)) && list_all (defined m.instrs) (mentions (read i))

-- the first instruction that breaks V3
abbrev pub defined_before_use : Module → Option ℕ
defined_before_use m = first_broken (uses_defined m) m
