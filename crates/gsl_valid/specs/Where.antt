-- Where an instruction stands: its section, its function and its block, by one fold over the instructions before it.
use Rattle.std.specs.Prelude.{ℕ, Bool, true, false, List, [], ◌∷◌, drop, Option, None, if◌then◌else◌}
use Rattle.gsl_words.specs.declared.module.Instr.{Instr}
use Rattle.gsl_words.specs.declared.module.Module.{Module}
use Rattle.gsl_instr.specs.declared.instruction.Instruction.{Instruction}
use Rattle.gsl_valid.specs.Instruction.{read}
use Rattle.gsl_valid.specs.Kinds.{Kind, Asks, Imports, Sets, Enters, Modes, Debugs, Decorates, Declares, Fixes, Holds, Begins, Takes, Calls, Gives, Does, Opens, Merges, Leaves, Ended, Absent, kind}
use Rattle.gsl_valid.specs.Placed.{Code}
use Rattle.gsl_valid.specs.Types.{defined_as, function_begins, parameters_of}

-- Sections ------------------------------------------------------------------------------------------------------

-- The sections, by their numbers.
abbrev pub capabilities : ℕ
capabilities = 1

abbrev pub imports : ℕ
imports = 2

abbrev pub memory_models : ℕ
memory_models = 3

abbrev pub entry_points : ℕ
entry_points = 4

abbrev pub modes : ℕ
modes = 5

abbrev pub names : ℕ
names = 6

abbrev pub decorations : ℕ
decorations = 7

-- types, constants and global variables
abbrev pub globals : ℕ
globals = 8

abbrev pub functions : ℕ
functions = 9

-- the section to which an instruction belongs, in a function or outside: a Variable belongs to one or to the globals
abbrev pub section_in : Bool → Kind → ℕ
section_in inside Asks = capabilities
section_in inside Imports = imports
section_in inside Sets = memory_models
section_in inside (Enters model function name interface) = entry_points
section_in inside (Modes function mode parts) = modes
section_in inside Debugs = names
section_in inside (Decorates d) = decorations
section_in inside (Declares shape) = globals
section_in inside (Fixes type value) = globals
section_in inside (Holds v) = if inside then functions else globals
section_in inside (Begins type id function_type) = functions
section_in inside (Takes type) = functions
section_in inside (Calls type function arguments) = functions
section_in inside (Gives type) = functions
section_in inside Does = functions
section_in inside Opens = functions
section_in inside Merges = functions
section_in inside Leaves = functions
section_in inside Ended = functions
section_in inside Absent = functions

abbrev pub section_of : Bool → Option Instruction → ℕ
section_of inside d = section_in inside (kind d)

-- Functions -----------------------------------------------------------------------------------------------------

-- whether code stands in a function behind an instruction, where it did so, or not, before
abbrev pub inside_after : Bool → Kind → Bool
inside_after inside Asks = inside
inside_after inside Imports = inside
inside_after inside Sets = inside
inside_after inside (Enters model function name interface) = inside
inside_after inside (Modes function mode parts) = inside
inside_after inside Debugs = inside
inside_after inside (Decorates d) = inside
inside_after inside (Declares shape) = inside
inside_after inside (Fixes type value) = inside
inside_after inside (Holds v) = inside
inside_after inside (Begins type id function_type) = true
inside_after inside (Takes type) = inside
inside_after inside (Calls type function arguments) = inside
inside_after inside (Gives type) = inside
inside_after inside Does = inside
inside_after inside Opens = inside
inside_after inside Merges = inside
inside_after inside Leaves = inside
inside_after inside Ended = false
inside_after inside Absent = inside

abbrev pub in_function_after : Bool → Option Instruction → Bool
in_function_after inside d = inside_after inside (kind d)

-- Where the code stands in a function.
pub data Standing : Type 0 where
  -- between functions, or before the first
  Outside : Standing
  -- behind a Function, with parameters of these types still to come
  Begun : (parameters : List ℕ) → Standing
  -- in a function's first block, where nothing but variables has come
  AtHead : Standing
  -- in a block
  InBlock : Standing
  -- behind a merge, where the last instruction of the block must come
  AtMerge : Standing
  -- behind the last instruction of a block
  Behind : Standing

-- where the code stands behind the label of a block
abbrev pub block_begun : Standing → Standing
block_begun Outside = InBlock
block_begun (Begun parameters) = AtHead
block_begun AtHead = InBlock
block_begun InBlock = InBlock
block_begun AtMerge = InBlock
block_begun Behind = InBlock

-- where it stands behind a parameter
abbrev pub one_taken : Standing → Standing
one_taken Outside = Outside
one_taken (Begun parameters) = Begun (drop 1 parameters)
one_taken AtHead = AtHead
one_taken InBlock = InBlock
one_taken AtMerge = AtMerge
one_taken Behind = Behind

-- where the code stands behind an instruction
abbrev pub stands_after : Module → Standing → Kind → Standing
stands_after m standing Asks = standing
stands_after m standing Imports = standing
stands_after m standing Sets = standing
stands_after m standing (Enters model function name interface) = standing
stands_after m standing (Modes function mode parts) = standing
stands_after m standing Debugs = standing
stands_after m standing (Decorates d) = standing
stands_after m standing (Declares shape) = standing
stands_after m standing (Fixes type value) = standing
stands_after m standing (Holds v) = standing
stands_after m standing (Begins type id function_type) = Begun (parameters_of (defined_as m function_type))
stands_after m standing (Takes type) = one_taken standing
stands_after m standing (Calls type function arguments) = InBlock
stands_after m standing (Gives type) = InBlock
stands_after m standing Does = InBlock
stands_after m standing Opens = block_begun standing
stands_after m standing Merges = AtMerge
stands_after m standing Leaves = Behind
stands_after m standing Ended = Outside
stands_after m standing Absent = standing

abbrev pub standing_after : Module → Standing → Option Instruction → Standing
standing_after m standing d = stands_after m standing (kind d)

-- Blocks --------------------------------------------------------------------------------------------------------

-- whether a block ends with an instruction
abbrev pub leaves : Kind → Bool
leaves Asks = false
leaves Imports = false
leaves Sets = false
leaves (Enters model function name interface) = false
leaves (Modes function mode parts) = false
leaves Debugs = false
leaves (Decorates d) = false
leaves (Declares shape) = false
leaves (Fixes type value) = false
leaves (Holds v) = false
leaves (Begins type id function_type) = false
leaves (Takes type) = false
leaves (Calls type function arguments) = false
leaves (Gives type) = false
leaves Does = false
leaves Opens = false
leaves Merges = false
leaves Leaves = true
leaves Ended = false
leaves Absent = false

abbrev pub ends_block : Option Instruction → Bool
ends_block d = leaves (kind d)

-- whether a block begins or ends with an instruction
abbrev pub bounds : Kind → Bool
bounds Asks = false
bounds Imports = false
bounds Sets = false
bounds (Enters model function name interface) = false
bounds (Modes function mode parts) = false
bounds Debugs = false
bounds (Decorates d) = false
bounds (Declares shape) = false
bounds (Fixes type value) = false
bounds (Holds v) = false
bounds (Begins type id function_type) = true
bounds (Takes type) = false
bounds (Calls type function arguments) = false
bounds (Gives type) = false
bounds Does = false
bounds Opens = true
bounds Merges = false
bounds Leaves = true
bounds Ended = true
bounds Absent = false

abbrev pub bounds_block : Option Instruction → Bool
bounds_block d = bounds (kind d)

-- whether a function does
abbrev pub bounds_one : Kind → Bool
bounds_one Asks = false
bounds_one Imports = false
bounds_one Sets = false
bounds_one (Enters model function name interface) = false
bounds_one (Modes function mode parts) = false
bounds_one Debugs = false
bounds_one (Decorates d) = false
bounds_one (Declares shape) = false
bounds_one (Fixes type value) = false
bounds_one (Holds v) = false
bounds_one (Begins type id function_type) = true
bounds_one (Takes type) = false
bounds_one (Calls type function arguments) = false
bounds_one (Gives type) = false
bounds_one Does = false
bounds_one Opens = false
bounds_one Merges = false
bounds_one Leaves = false
bounds_one Ended = true
bounds_one Absent = false

abbrev pub bounds_function : Option Instruction → Bool
bounds_function d = bounds_one (kind d)

-- The fold ------------------------------------------------------------------------------------------------------

-- Where an instruction stands.
pub record Where : Type 0 where
  -- the section of the instruction before it, 0 where there is none
  pub section : ℕ
  -- whether it stands in a function
  pub inside : Bool
  -- the nearest Function before it, if there is one
  pub function : Option Instruction
  -- where it stands in its function
  pub standing : Standing
  -- the instructions of its function so far, the last first
  pub body : Code
  -- and those of its block
  pub block : Code

-- the first instruction
abbrev pub at_first : Where
at_first = record { section = 0; inside = false; function = None; standing = Outside; body = []; block = [] }

-- behind an instruction that stands somewhere
abbrev pub where_after : Module → Where → Instr → Where
where_after m w i =
    record {
      section = section_of w.inside (read i);
      inside = in_function_after w.inside (read i);
      function = if function_begins (read i) then read i else w.function;
      standing = standing_after m w.standing (read i);
      body = if bounds_function (read i) then [] else i ∷ w.body;
      block = if bounds_block (read i) then [] else i ∷ w.block;
    }

-- behind these instructions, the last first
abbrev pub where_at : Module → Code → Where
where_at m [] = at_first
where_at m (i ∷ before) = where_after m (where_at m before) i
