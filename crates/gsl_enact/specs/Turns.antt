-- Which function of the code an instruction comes to, counted from 0 in their order; 8 where it stands outside blocks.
use Rattle.std.specs.Prelude.{ℕ}
use Rattle.gsl_instr.specs.declared.instruction.Instruction.{Instruction}
use Rattle.gsl_instr.specs.declared.instruction.Instruction.TheVariants as instruction

abbrev pub turn : Instruction → ℕ
turn (instruction.Load type result pointer) = 0
turn (instruction.Store pointer value) = 0
turn (instruction.AccessChain type result base indexes) = 0
turn (instruction.ArrayLength type result pointer member) = 0
turn (instruction.Variable type result class initialiser) = 1
turn (instruction.LoopMerge merge continue_target control) = 2
turn (instruction.SelectionMerge merge control) = 2
turn (instruction.Label result) = 2
turn (instruction.Branch target) = 2
turn (instruction.BranchConditional condition on_true on_false) = 2
turn (instruction.Switch selector default targets) = 2
turn (instruction.FunctionCall type result function arguments) = 3
turn instruction.Kill = 3
turn instruction.Return = 3
turn (instruction.ReturnValue value) = 3
turn (instruction.Unary op type result a) = 4
turn (instruction.Arithmetic op type result a b) = 4
turn (instruction.Shift op type result a b) = 4
turn (instruction.Logical op type result a b) = 4
turn (instruction.Comparison op type result a b) = 4
turn (instruction.Select type result condition a b) = 5
turn (instruction.BitFieldInsert type result base insert offset count) = 5
turn (instruction.BitFieldExtract op type result base offset count) = 5
turn (instruction.CompositeExtract type result composite indexes) = 6
turn (instruction.CompositeInsert type result part composite indexes) = 6
turn (instruction.VectorExtractDynamic type result vector index) = 6
turn (instruction.VectorShuffle type result first second components) = 7
turn (instruction.CompositeConstruct type result parts) = 7
turn (instruction.ExtInst type result set number operands) = 7
turn _ = 8
