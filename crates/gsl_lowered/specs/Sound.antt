-- Which valid module a program is lowered to (SPIR-V 1.0, 2.16).
use Rattle.std.specs.Prelude.{◌≡◌, ℕ, ◌^◌, ◌<◌, Option, Some, None, Result, Ok, Err}
use Rattle.std.specs.List.{AllByRecursion}
use Rattle.gsl_base.specs.declared.memory.Memory.{Memory}
use Rattle.gsl_lower_flow.specs.Programs.{module_for}
use Rattle.gsl_tree.specs.declared.program.Program.{Program}
use Rattle.gsl_valid.specs.Placed.{count_of_words}
use Rattle.gsl_valid.specs.Valid.{Valid}
use Rattle.gsl_words.specs.declared.module.Module.{Module}
use Rattle.gsl_words.specs.declared.target.Target.{Target}
use Rattle.gsl_words.specs.Faults.{FitsInstr}

-- A valid module whose file has fewer than 2^32 words; the numbers of its instructions are in the ranges of their types.
pub record IsSound (m : Module) : Type 0 where
  pub types : AllByRecursion FitsInstr m.instrs
  pub valid : Valid m
  pub few : count_of_words m < 2 ^ 32

-- The program is lowered to this module for a target, and it is valid.
pub record IsLowered (target : Target) (p : Program) (m : Module) : Type 0 where
  pub made : module_for target p ≡ Some m
  pub sound : IsSound m

-- What is judged of a module: it is handed back, or it is not valid, unless memory was wanting.
abbrev pub Judges : Module → Result (Option Module) Memory → Type 0
Judges m (Ok (Some n)) = (n ≡ m) × IsSound m
Judges m (Ok None) = IsSound m → ⊥
Judges m (Err memory) = Unit {0}

-- What is answered of a program: its module, or that it has none that is valid, unless memory was wanting.
abbrev pub Answers : Target → Program → Result (Option Module) Memory → Type 0
Answers target p (Ok (Some m)) = IsLowered target p m
Answers target p (Ok None) = (m : Module) → IsLowered target p m → ⊥
Answers target p (Err memory) = Unit {0}
