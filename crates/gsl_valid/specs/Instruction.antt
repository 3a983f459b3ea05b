-- An instruction of a module by the roles of its operands.
use Rattle.std.specs.Prelude.{Bool, true, false, Option, Some, None}
use Rattle.gsl_words.specs.declared.module.Instr.{Instr}
use Rattle.gsl_instr.specs.declared.instruction.Instruction.{Instruction}
use Rattle.gsl_instr.specs.Instructions as table

-- The instruction, if its opcode is in the table. The table gives it the operands that it needs.
abbrev pub read : Instr → Option Instruction
read i = table.read i.op i.args

-- whether there is an instruction, and it passes
abbrev pub is_such : (Instruction → Bool) → Option Instruction → Bool
is_such test None = false
is_such test (Some i) = test i

-- whether an instruction passes, if there is one
abbrev pub passes_if : (Instruction → Bool) → Option Instruction → Bool
passes_if test None = true
passes_if test (Some i) = test i
