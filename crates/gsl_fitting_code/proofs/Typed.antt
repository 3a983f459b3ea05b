-- The operands, the memory and the extended instructions of functions (V14, V15, V17), and what they return (V16).
use Rattle.std.proofs.Common.{◌≡◌, ℕ, true, Option, Some, None, refl, ap, ◌∙◌}
use Rattle.gsl_words.specs.declared.module.Instr.{Instr}
use Rattle.gsl_words.specs.declared.module.Module.{Module}
use Rattle.gsl_instr.specs.declared.instruction.Instruction.{Instruction}
use Rattle.gsl_instr.specs.declared.instruction.Instruction.TheVariants as instruction
use Rattle.gsl_valid.specs.ExtendedRules.{extended_kept, extended_of}
use Rattle.gsl_valid.specs.Instruction.{passes_if, read}
use Rattle.gsl_valid.specs.MemoryRules.{memory_kept, memory_of}
use Rattle.gsl_valid.specs.OperandRules.{operands_typed, typed}
use Rattle.gsl_valid.specs.Placed.{Code}
use Rattle.gsl_valid.specs.ReturnRules.{gives_value, gives_void, may_return, returns_kept}
use Rattle.gsl_valid.specs.Where.{where_at}
use Rattle.gsl_fitting.specs.Fits.{Frame, may_leave}
use Rattle.gsl_fitting_code.proofs.Places.{Plays}
use Rattle.gsl_fitting_code.proofs.Places.Plays.{starting, parameter, opening, variable, inside, ending}

module _ (m : Module) (rank : ℕ → ℕ) where
  pub typed_passes : (before : Code) (i : Instr) → Plays m rank before i → typed m before i ≡ true
  typed_passes before i (starting p) = ap (passes_if (operands_typed m)) p.reads
  typed_passes before i (parameter p) = ap (passes_if (operands_typed m)) p.reads
  typed_passes before i (opening p) = ap (passes_if (operands_typed m)) p.reads
  typed_passes before i (variable p) = ap (passes_if (operands_typed m)) p.holds.reads
  typed_passes before i (inside p) = p.sits.operands
  typed_passes before i (ending p) = ap (passes_if (operands_typed m)) p.reads

  pub memory_passes : (before : Code) (i : Instr) → Plays m rank before i → memory_kept m before i ≡ true
  memory_passes before i (starting p) = ap (passes_if (memory_of m)) p.reads
  memory_passes before i (parameter p) = ap (passes_if (memory_of m)) p.reads
  memory_passes before i (opening p) = ap (passes_if (memory_of m)) p.reads
  memory_passes before i (variable p) = ap (passes_if (memory_of m)) p.holds.reads
  memory_passes before i (inside p) = p.sits.memory
  memory_passes before i (ending p) = ap (passes_if (memory_of m)) p.reads

  pub extended_passes : (before : Code) (i : Instr) → Plays m rank before i → extended_kept m before i ≡ true
  extended_passes before i (starting p) = ap (passes_if (extended_of m)) p.reads
  extended_passes before i (parameter p) = ap (passes_if (extended_of m)) p.reads
  extended_passes before i (opening p) = ap (passes_if (extended_of m)) p.reads
  extended_passes before i (variable p) = ap (passes_if (extended_of m)) p.holds.reads
  extended_passes before i (inside p) = p.sits.extended
  extended_passes before i (ending p) = ap (passes_if (extended_of m)) p.reads

  leaves_as : (f : Frame) (before : Code) (d : Option Instruction) → (where_at m before).function ≡ Some f.function → passes_if (may_leave m f) d ≡ true → passes_if (may_return m before) d ≡ true
  leaves_as f before None in_it h = refl
  leaves_as f before (Some instruction.Kill) in_it h = h
  leaves_as f before (Some instruction.Return) in_it h = ap (gives_void m) in_it ∙ h
  leaves_as f before (Some (instruction.ReturnValue value)) in_it h = ap (gives_value m value) in_it ∙ h
  leaves_as f before (Some _) in_it h = refl

  pub returns_pass : (before : Code) (i : Instr) → Plays m rank before i → returns_kept m before i ≡ true
  returns_pass before i (starting p) = ap (passes_if (may_return m before)) p.reads
  returns_pass before i (parameter p) = ap (passes_if (may_return m before)) p.reads
  returns_pass before i (opening p) = ap (passes_if (may_return m before)) p.reads
  returns_pass before i (variable p) = ap (passes_if (may_return m before)) p.holds.reads
  returns_pass before i (inside p) = leaves_as p.frame before (read i) p.block.within.holder p.sits.leaves
  returns_pass before i (ending p) = ap (passes_if (may_return m before)) p.reads
