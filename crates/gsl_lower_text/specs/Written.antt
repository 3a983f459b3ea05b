-- A module that some sections are part of, and what lasts while its functions run.
use Rattle.std.specs.Prelude.{◌≡◌, ℕ, None}
use Rattle.std.specs.List.{Contains}
use Rattle.gsl_words.specs.declared.module.Instr.{Instr}
use Rattle.gsl_words.specs.declared.module.Module.{Module}
use Rattle.gsl_valid.specs.Kinds.{Gives, kind}
use Rattle.gsl_valid.specs.Types.{defined_as}
use Rattle.gsl_machine.specs.Interfaces.{globals}
use Rattle.gsl_machine.specs.State.{Ids}
use Rattle.gsl_spv.specs.Sections.{Sections}
use Rattle.gsl_lower_law.specs.Values.{Keeps}

-- The module has the types, constants, variables and functions of the sections.
pub record Written (m : Module) (sections : Sections) : Type 0 where
  pub globals : (i : Instr) → Contains sections.globals i → Contains m.instrs i
  pub functions : (i : Instr) → Contains sections.functions i → Contains m.instrs i

-- These ids last for a function: constants and the module's variables stand for what they stand for in all functions, and what the
-- instructions of its blocks give is none of them.
pub record Lasts (m : Module) (own : Ids) : Type 0 where
  pub keeps : Keeps (globals m) own
  pub apart : (id type : ℕ) → kind (defined_as m id) ≡ Gives type → own id ≡ None
