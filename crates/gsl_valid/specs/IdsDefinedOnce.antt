-- V2: each result id is at least 1, below the bound, and defined once.
use Rattle.std.specs.Prelude.{ℕ, Bool, true, ◌&&◌, not, nat_le, nat_lt, Option, Some, None}
use Rattle.gsl_words.specs.declared.module.Instr.{Instr}
use Rattle.gsl_words.specs.declared.module.Module.{Module}
use Rattle.gsl_valid.specs.Instruction.{read}
use Rattle.gsl_valid.specs.Placed.{Code}
use Rattle.gsl_valid.specs.Search.{first_broken}
use Rattle.gsl_valid.specs.Ids.{result, defined}

-- whether the id, if there is one, is new behind some code
abbrev pub is_new : ℕ → Code → Option ℕ → Bool
is_new bound before None = true
is_new bound before (Some id) = nat_le 1 id && nat_lt id bound && not (defined before id)

-- whether V2 is kept by an instruction
abbrev pub defines_once : ℕ → Code → Instr → Bool
defines_once bound before i = is_new bound before (result (read i))

-- the first instruction that breaks V2
abbrev pub ids_defined_once : Module → Option ℕ
ids_defined_once m = first_broken (defines_once m.bound) m
