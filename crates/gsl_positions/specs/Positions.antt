-- Places in the code of a module, as numbers of its instructions.
use Rattle.std.specs.Prelude.{ℕ, ◌+◌, ◌==◌, if◌then◌else◌, List, [], drop, take}
use Rattle.gsl_instr.specs.declared.op.TheConstants as ops
use Rattle.gsl_words.specs.declared.module.Module.{Module}
use Rattle.gsl_valid.specs.Placed.{Placed, header_size, placed, words_from}
use Rattle.gsl_machine.specs.Functions.{up_to_end}

-- what is still to come of a function from the instruction of a number on: those up to its end
unfoldable pub left : Module → ℕ → List Placed
left m at = up_to_end (drop at (placed m))

-- what is still to come behind an instruction of an opcode
abbrev pub behind : Module → ℕ → ℕ → List Placed
behind m at op = if op == ops.FUNCTION_END then [] else left m (at + 1)

-- the place of the instruction of a number
unfoldable pub place_of : Module → ℕ → ℕ
place_of m at = words_from header_size (take at m.instrs)
