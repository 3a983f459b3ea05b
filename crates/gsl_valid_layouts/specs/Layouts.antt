-- V8 by the number of an instruction.
use Rattle.std.specs.Prelude.{ℕ, Bool, List, map}
use Rattle.gsl_kinds.specs.Runtimes.{front}
use Rattle.gsl_words.specs.declared.module.Instr.{Instr}
use Rattle.gsl_words.specs.declared.module.Module.{Module}
use Rattle.gsl_valid.specs.LayoutRules.{laid}
use Rattle.gsl_valid.specs.Placed.{Code, Placed}

-- whether the instruction of a number keeps V8
abbrev pub passes : Module → ℕ → Instr → Bool
passes m at i = laid m (front m at) i

-- what a pass keeps: the module
abbrev pub behind : Module → ℕ → Instr → Module
behind m at i = m

-- the instructions of places
abbrev pub instrs_of : List Placed → Code
instrs_of placed = map (λ p. p.instr) placed
