-- Where pointers lead among the words of all variables.
use Rattle.std.specs.Prelude.{◌≡◌, ℕ, ◌+◌, ◌*◌, ◌^◌, ◌<◌, ◌≤◌, ◌==◌, Bool, false, if◌then◌else◌, List, length, slice_index, Option, Some, None}
use Rattle.gsl_instr.specs.declared.enumerant.storage_class.TheConstants as storage_class
use Rattle.gsl_words.specs.declared.module.Module.{Module}
use Rattle.gsl_valid.specs.CallRules.{target}
use Rattle.gsl_valid.specs.Kinds.{Variable, variable_is}
use Rattle.gsl_valid.specs.Types.{Target, defined_as, is_block_class}
use Rattle.gsl_leaves.specs.Table.{most}
use Rattle.gsl_frames.specs.Frames.{place}
use Rattle.gsl_operands.specs.Operands.{stands}
use Rattle.gsl_step.specs.declared.machine.Machine.{Machine}

-- ---- pointers by their types

-- whether what a pointer type points to, if a type is one, stands in blocks
abbrev pub is_block_target : Option Target → Bool
is_block_target None = false
is_block_target (Some target) = is_block_class target.class

-- whether an id is a pointer into a block
abbrev pub into_block : Module → ℕ → Bool
into_block m id = is_block_target (target m id)

-- ---- where pointers out of blocks lead

-- a count of up to 64 bits, whose lower word stands first
abbrev pub long_at : List ℕ → ℕ → ℕ
long_at words at = slice_index words at + 2 ^ 32 * slice_index words (at + 1)

-- behind how many words of all variables those of a class begin: of a function, behind those that were there before it
abbrev pub begin_of : ℕ → ℕ → ℕ
begin_of class variables = if class == storage_class.FUNCTION then variables else 0

-- Behind how many words of all variables that begins to which an id leads: if it is a variable, where this stands; and what the slots say of any other.
abbrev pub led_as : Module → Machine → ℕ → Option Variable → ℕ
led_as m machine id None = long_at machine.slots (stands m machine.standing.slots id + 1)
led_as m machine id (Some v) = begin_of v.class machine.standing.variables + place m id

abbrev pub led_to : Module → Machine → ℕ → ℕ
led_to m machine id = led_as m machine id (variable_is (defined_as m id))

-- It is told: a place of a variable as far as all places are, and what slots say where they say something.
abbrev pub IsToldAs : Module → Machine → ℕ → Option Variable → Type 0
IsToldAs m machine id None = (id < m.bound) × (stands m machine.standing.slots id + 2 < length machine.slots) × (length machine.slots ≤ most)
IsToldAs m machine id (Some v) = begin_of v.class machine.standing.variables + place m id ≤ most

abbrev pub IsTold : Module → Machine → ℕ → Type 0
IsTold m machine id = IsToldAs m machine id (variable_is (defined_as m id))
