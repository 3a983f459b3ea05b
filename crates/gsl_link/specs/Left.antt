-- The fault of linking of the rows from one on, where none before them applies.
use Rattle.std.specs.Prelude.{List, drop, Option, Some, None}
use Rattle.gsl_base.specs.declared.fault.Code.{Code}
use Rattle.gsl_base.specs.declared.fault.Fault.{Fault}
use Rattle.gsl_base.specs.declared.fault.Place.{Place}
use Rattle.gsl_tree.specs.declared.program.Program.{Program}
use Rattle.gsl_tree.specs.declared.unit.LocalSize.{LocalSize}
use Rattle.gsl_link_units.specs.Declarations.{Side}
use Rattle.gsl_link.specs.Joined.{rows, first_fault}

-- the fault of a row, or else the later one
abbrev pub fault_or : Code → Option Fault → Option Place → Option Fault
fault_or code later None = later
fault_or code later (Some place) = Some (record { place = place; code = code })

unfoldable pub from_first : List LocalSize → List Side → Program → Option Fault
from_first sizes sides p = first_fault (rows sizes sides p)

-- from calls without a definition on
unfoldable pub from_calls : List LocalSize → List Side → Program → Option Fault
from_calls sizes sides p = first_fault (drop 3 (rows sizes sides p))

-- from locations that are used twice on
unfoldable pub from_slots : List LocalSize → List Side → Program → Option Fault
from_slots sizes sides p = first_fault (drop 6 (rows sizes sides p))

-- from the depth of calls on
unfoldable pub from_depth : List LocalSize → List Side → Program → Option Fault
from_depth sizes sides p = first_fault (drop 8 (rows sizes sides p))
