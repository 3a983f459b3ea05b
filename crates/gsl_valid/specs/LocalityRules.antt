-- V13: what a block defines is used in that block only, and a function's variables and parameters in that function only.
use Rattle.std.specs.Prelude.{ℕ, Bool, true, false, ◌||◌, ◌&&◌, ◌==◌, not, Option, if◌then◌else◌}
use Rattle.std.specs.List.{list_all}
use Rattle.gsl_words.specs.declared.module.Instr.{Instr}
use Rattle.gsl_words.specs.declared.module.Module.{Module}
use Rattle.gsl_instr.specs.declared.instruction.Instruction.{Instruction}
use Rattle.gsl_instr.specs.declared.enumerant.storage_class.TheConstants as storage_class
use Rattle.gsl_valid.specs.Instruction.{read}
use Rattle.gsl_valid.specs.Kinds.{Kind, Asks, Imports, Sets, Enters, Modes, Debugs, Decorates, Declares, Fixes, Holds, Begins, Takes, Calls, Gives, Does, Opens, Merges, Leaves, Ended, Absent, kind}
use Rattle.gsl_valid.specs.Placed.{Code}
use Rattle.gsl_valid.specs.Search.{first_broken}
use Rattle.gsl_valid.specs.Ids.{defined, needs, mentions}
use Rattle.gsl_valid.specs.Types.{defined_as}
use Rattle.gsl_valid.specs.Where.{Where, where_at}

-- whether an instruction is one that defines an id for its block only
abbrev pub gives_value : Kind → Bool
gives_value Asks = false
gives_value Imports = false
gives_value Sets = false
gives_value (Enters model function name interface) = false
gives_value (Modes function mode parts) = false
gives_value Debugs = false
gives_value (Decorates d) = false
gives_value (Declares shape) = false
gives_value (Fixes type value) = false
gives_value (Holds v) = false
gives_value (Begins type id function_type) = false
gives_value (Takes type) = false
gives_value (Calls type function arguments) = true
gives_value (Gives type) = true
gives_value Does = false
gives_value Opens = false
gives_value Merges = false
gives_value Leaves = false
gives_value Ended = false
gives_value Absent = false

abbrev pub of_block : Option Instruction → Bool
of_block d = gives_value (kind d)

-- whether it is one that defines an id for its function only
abbrev pub is_local : Kind → Bool
is_local Asks = false
is_local Imports = false
is_local Sets = false
is_local (Enters model function name interface) = false
is_local (Modes function mode parts) = false
is_local Debugs = false
is_local (Decorates d) = false
is_local (Declares shape) = false
is_local (Fixes type value) = false
is_local (Holds v) = v.class == storage_class.FUNCTION
is_local (Begins type id function_type) = false
is_local (Takes type) = true
is_local (Calls type function arguments) = false
is_local (Gives type) = false
is_local Does = false
is_local Opens = false
is_local Merges = false
is_local Leaves = false
is_local Ended = false
is_local Absent = false

abbrev pub of_function : Option Instruction → Bool
of_function d = is_local (kind d)

-- whether an id that an instruction defines may be used where an instruction stands
abbrev pub near_as : Where → ℕ → Option Instruction → Bool
near_as w id d =
    if of_block d then defined w.block id
    else (not (of_function d) || not w.inside || defined w.body id)

-- whether an id may be used behind some code
abbrev pub is_near : Module → Code → ℕ → Bool
is_near m before id = near_as (where_at m before) id (defined_as m id)

-- whether V13 is kept by an instruction
abbrev pub uses_near : Module → Code → Instr → Bool
uses_near m before i = list_all (is_near m before) (needs (read i)) && list_all (is_near m before) (mentions (read i))

-- the first instruction that breaks V13
abbrev pub locality : Module → Option ℕ
locality m = first_broken (uses_near m) m
