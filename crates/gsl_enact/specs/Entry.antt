-- The entry, as the code looks for it.
use Rattle.std.specs.Prelude.{ℕ, List, [], ◌∷◌, Option, None}
use Rattle.gsl_valid.specs.Instruction.{read}
use Rattle.gsl_valid.specs.Kinds.{kind}
use Rattle.gsl_valid.specs.Placed.{Placed}
use Rattle.gsl_machine.specs.Machine.{entry_in, or_else}

-- the function that the first entry point names in some code
unfoldable pub entry_from : List Placed → Option ℕ
entry_from [] = None
entry_from (p ∷ code) = or_else (entry_in (kind (read p.instr))) (entry_from code)
