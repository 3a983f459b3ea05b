-- Tables of the types that the variables of blocks reach.
use Rattle.std.specs.Prelude.{◌≡◌, ℕ, ◌+◌, Bool, true, false, ◌||◌, not, nat_lt, List, [], ◌∷◌, replicate, slice_index_or, slice_set, Option, Some, None, if◌then◌else◌}
use Rattle.gsl_words.specs.declared.module.Module.{Module}
use Rattle.gsl_ids.specs.Table.{number_of, is_defined_in}
use Rattle.gsl_valid.specs.Instruction.{read}
use Rattle.gsl_valid.specs.Ids.{result}
use Rattle.gsl_valid.specs.Kinds.{Variable, variable_is}
use Rattle.gsl_valid.specs.Placed.{Code}
use Rattle.gsl_valid.specs.Types.{is_block_class, function_begins, parts_of}
use Rattle.gsl_valid.specs.DecorationRules.{pointee}
use Rattle.gsl_valid.specs.LayoutRules.{is_storage, is_in_block, may_grow}

-- whether a row of a table is marked
abbrev pub is_marked : List Bool → ℕ → Bool
is_marked rows id = slice_index_or rows id false

-- a table with one more mark, if there is an id
abbrev pub marked : List Bool → Option ℕ → List Bool
marked rows None = rows
marked rows (Some id) = slice_set rows id true

-- an id, if it is defined in a module
abbrev pub if_defined : Module → ℕ → Option ℕ
if_defined m id = if nat_lt 0 (number_of m id) then Some id else None

-- the type that a variable points to, if it is that of a block
abbrev pub block_pointee : Module → Option Variable → Option ℕ
block_pointee m None = None
block_pointee m (Some v) = if is_block_class v.class then if_defined m (pointee m v.type) else None

-- the same, if it is not that of a storage block
abbrev pub bare_pointee : Module → Option Variable → Option ℕ
bare_pointee m None = None
bare_pointee m (Some v) = if is_storage m v then None else block_pointee m (Some v)

-- a table with one more mark, or not
abbrev pub marked_if : Bool → List Bool → ℕ → List Bool
marked_if marks rows id = if marks then slice_set rows id true else rows

-- a table with a mark for each of these ids that is defined among so many instructions at the front of a module
abbrev pub marked_all : Module → ℕ → List Bool → List ℕ → List Bool
marked_all m count rows [] = rows
marked_all m count rows (id ∷ ids) = marked_all m count (marked_if (is_defined_in m count id) rows id) ids

-- a table with the marks of some code up to its first function
abbrev pub marked_by : (Option Variable → Option ℕ) → List Bool → Code → List Bool
marked_by mark_of rows [] = rows
marked_by mark_of rows (i ∷ code) = if function_begins (read i) then rows else marked_by mark_of (marked rows (mark_of (variable_is (read i)))) code

-- the tables of what variables of blocks point to, and those that are not of storage blocks
abbrev pub pointees : Module → List Bool
pointees m = marked_by (block_pointee m) (replicate m.bound false) m.instrs

abbrev pub bare : Module → List Bool
bare m = marked_by (bare_pointee m) (replicate m.bound false) m.instrs

-- whether what an instruction defines, if anything, is marked in one of two tables
abbrev pub is_reached : List Bool → List Bool → Option ℕ → Bool
is_reached pointees parts None = false
is_reached pointees parts (Some id) = is_marked pointees id || is_marked parts id

-- The parts that are marked when some code was gone over from its end, which begins with the instruction of this number: those of each type that is
-- pointed to or marked.
abbrev pub parts_marked : Module → List Bool → ℕ → Code → List Bool
parts_marked m pointees at [] = replicate m.bound false
parts_marked m pointees at (i ∷ code) =
    let parts = parts_marked m pointees (at + 1) code in
    if is_reached pointees parts (result (read i)) then marked_all m at parts (parts_of (read i)) else parts

-- Three tables tell which types are reached, and which structs may grow: of what variables of blocks point to, of what those point to that are not of storage
-- blocks, and of what is a part of a type that is reached.
pub record Tells (m : Module) (pointees bare parts : List Bool) : Type 0 where
  pub reached : (id : ℕ) → is_in_block m id ≡ (is_marked pointees id || is_marked parts id)
  pub grows : (id : ℕ) → may_grow m id ≡ not (is_marked bare id || is_marked parts id)
