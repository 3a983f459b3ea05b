-- That sections only grow, and where an id is defined.
use Rattle.std.specs.Prelude.{◌≡◌, ℕ, ◌≤◌, true, List, ◌++◌, Some, option_and_then}
use Rattle.std.specs.List.{Contains, IsDistinct}
use Rattle.std.specs.Map.{keys_of}
use Rattle.gsl_words.specs.declared.module.Instr.{Instr}
use Rattle.gsl_instr.specs.Instructions.{read, result_of}
use Rattle.gsl_spv.specs.Once.{entries, same}
use Rattle.gsl_spv.specs.Declarations.{Declaration, defining}
use Rattle.gsl_spv.specs.Sections.{Sections}
use Rattle.gsl_spv.specs.Calls.{Out}

-- The longer list begins with the shorter.
pub record Begins {A : Type 0} (shorter longer : List A) : Type 0 where
  pub more : List A
  pub is : longer ≡ shorter ++ more

-- The sections after some calls are those before, with more behind them.
pub record Extends (before after : Sections) : Type 0 where
  pub stage : after.stage ≡ before.stage
  pub target : after.target ≡ before.target
  pub imports : Begins before.imports after.imports
  pub names : Begins before.names after.names
  pub decorations : Begins before.decorations after.decorations
  pub globals : Begins before.globals after.globals
  pub functions : Begins before.functions after.functions
  pub last : before.last ≤ after.last
  pub wanting : before.wanting ≡ true → after.wanting ≡ true

-- These instructions have this one as the definition of the id.
pub record Defines (code : List Instr) (id : ℕ) (i : Instr) : Type 0 where
  pub stands : Contains code i
  pub result : option_and_then result_of (read i.op i.args) ≡ Some id

-- all instructions of the sections
abbrev pub all_of : Sections → List Instr
all_of s = s.imports ++ s.names ++ s.decorations ++ s.globals ++ s.functions

-- No two instructions declare the same of what is declared once.
abbrev pub AreOnce : List Instr → Type 0
AreOnce code = IsDistinct same (keys_of (entries code))

-- A call's answer is defined by this declaration.
abbrev pub IsDefined : Declaration → Out → Type 0
IsDefined d o = Defines (all_of o.sections) o.id (defining d o.id)
