-- Linking (GLSL 4.50, 3.3 and 4.3): the program that units make, or their first fault.
use Rattle.std.specs.Prelude.{◌≡◌, ℕ, List, [], ◌∷◌, Option, Some, None, Ok, Err}
use Rattle.gsl_base.specs.Checked.{Checked}
use Rattle.gsl_base.specs.declared.fault.Code.{Code}
use Rattle.gsl_base.specs.declared.fault.Code.TheVariants.{E0801, E0802, E0803, E0804, E0805, E0806, E0807, E0903, E0906, E0907}
use Rattle.gsl_base.specs.declared.fault.Fault.{Fault}
use Rattle.gsl_base.specs.declared.fault.Place.{Place}
use Rattle.gsl_base.specs.declared.stage.Stage.{Stage}
use Rattle.gsl_base.specs.declared.stage.Stage.TheVariants.{Vertex, Fragment, Compute}
use Rattle.gsl_tree.specs.declared.program.Program.{Program}
use Rattle.gsl_tree.specs.declared.unit.LocalSize.{LocalSize}
use Rattle.gsl_tree.specs.declared.unit.TypedUnit.{TypedUnit}
use Rattle.gsl_tree.specs.WellTyped.{IsProgram}
use Rattle.gsl_link_units.specs.Declarations.{Side, sides_of}
use Rattle.gsl_link_whole.specs.Whole.{whole, all_sizes}
use Rattle.gsl_link.specs.Rows.{at_start, disagreement, second_definition, no_main, undefined_call, recursion, size_disagreement, used_twice, too_many_leaves, too_deep, too_heavy}

-- a row of the table of faults: its code, and the first place where it applies
abbrev pub Row : Type 0
Row = Code × Option Place

-- the rows in their order
abbrev pub rows : List LocalSize → List Side → Program → List Row
rows sizes sides p =
    (E0804, disagreement p.structs sides)
    ∷ (E0802, second_definition p)
    ∷ (E0801, no_main p)
    ∷ (E0803, undefined_call p sides)
    ∷ (E0805, recursion p)
    ∷ (E0806, size_disagreement p.stage sizes)
    ∷ (E0807, used_twice p sides)
    ∷ (E0903, too_many_leaves p sides)
    ∷ (E0907, too_deep p)
    ∷ (E0906, too_heavy p)
    ∷ []

-- the fault of the first row that applies
abbrev pub first_fault : List Row → Option Fault
first_fault [] = None
first_fault ((code, None) ∷ rest) = first_fault rest
first_fault ((code, Some place) ∷ rest) = Some (record { place = place; code = code })

-- the first fault of units
abbrev pub fault_of : Stage → List TypedUnit → Option Fault
fault_of stage units = first_fault (rows (all_sizes units) (sides_of units) (whole stage units))

abbrev pub unless_faulty : Program → Option Fault → Checked Program
unless_faulty p None = Ok p
unless_faulty p (Some fault) = Err fault

-- The program that units of a stage make, or their first fault.
unfoldable pub joined : Stage → List TypedUnit → Checked Program
joined stage units = unless_faulty (whole stage units) (fault_of stage units)

-- ---- what a program keeps

abbrev pub sizes_of : Stage → List ℕ → List LocalSize
sizes_of Vertex parts = []
sizes_of Fragment parts = []
sizes_of Compute parts = record { parts = parts; place = at_start } ∷ []

-- a program, taken as one unit
abbrev pub as_unit : Program → TypedUnit
as_unit p = record {
  structs = p.structs;
  globals = p.globals;
  blocks = p.blocks;
  interfaces = p.interfaces;
  prototypes = p.prototypes;
  functions = p.functions;
  local_sizes = sizes_of p.stage p.local_size;
}

-- A program that was linked: it is well typed, within the limits, and has no fault of linking, taken as one unit.
pub record IsLinked (p : Program) : Type 0 where
  pub typed : IsProgram p
  pub faultless : fault_of p.stage (as_unit p ∷ []) ≡ None
