-- Instructions that leave the slots of their function as they are.
use Rattle.std.specs.Prelude.{Bool, true, false}
use Rattle.gsl_valid.specs.Kinds.{Kind, Asks, Imports, Sets, Enters, Modes, Debugs, Decorates, Declares, Fixes, Holds, Begins, Takes, Calls, Gives, Does, Opens, Merges, Leaves, Ended, Absent}

-- whether an instruction of a block gives nothing, and the block goes on: a variable, a store, a merge
abbrev pub passes : Kind → Bool
passes Asks = false
passes Imports = false
passes Sets = false
passes (Enters model function name interface) = false
passes (Modes function mode parts) = false
passes Debugs = false
passes (Decorates d) = false
passes (Declares shape) = false
passes (Fixes type value) = false
passes (Holds v) = true
passes (Begins type id function_type) = false
passes (Takes type) = false
passes (Calls type function arguments) = false
passes (Gives type) = false
passes Does = true
passes Opens = false
passes Merges = true
passes Leaves = false
passes Ended = false
passes Absent = false
