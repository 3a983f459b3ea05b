-- Where the words of operands stand: those of constants in front of all slots, those of any other id in the slots of its function.
use Rattle.std.specs.Prelude.{ℕ, zero, suc, ◌+◌, List, [], ◌++◌, length, Option, Some, None}
use Rattle.gsl_words.specs.declared.module.Module.{Module}
use Rattle.gsl_valid.specs.Kinds.{Value, constant_is}
use Rattle.gsl_valid.specs.Types.{defined_as}
use Rattle.gsl_machine.specs.Constants.{constant}
use Rattle.gsl_region.specs.Flat.{flat}
use Rattle.gsl_frames.specs.Frames.{place}

-- the words of the constants whose ids are below one, in the order of their ids
unfoldable pub constants_below : Module → ℕ → List ℕ
constants_below m zero = []
constants_below m (suc id) = constants_below m id ++ flat (constant m id)

-- the words of all constants: the ids of a module are below its bound
abbrev pub constants : Module → List ℕ
constants m = constants_below m m.bound

abbrev pub if_constant : Option (ℕ × Value) → ℕ → Option ℕ
if_constant None first = None
if_constant (Some value) first = Some first

-- where the words of a constant begin among those of all
abbrev pub first : Module → ℕ → Option ℕ
first m id = if_constant (constant_is (defined_as m id)) (length (constants_below m id))

abbrev pub stands_at : Option ℕ → ℕ → ℕ
stands_at None place = place
stands_at (Some first) place = first

-- where the words of an operand begin, in a function whose slots begin at a place
abbrev pub stands : Module → ℕ → ℕ → ℕ
stands m slots id = stands_at (first m id) (slots + place m id)
