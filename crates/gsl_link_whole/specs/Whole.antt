-- The program that units make together: their lists joined, whatever faults there are.
use Rattle.std.specs.Prelude.{ℕ, ◌+◌, Bool, true, false, ◌&&◌, bytes_eq, List, [], ◌∷◌, ◌++◌, map, filter, flat_map, slice_get, Option, Some, None}
use Rattle.std.specs.List.{position_or_len}
use Rattle.gsl_base.specs.declared.stage.Stage.{Stage}
use Rattle.gsl_base.specs.declared.stage.Stage.TheVariants.{Vertex, Fragment, Compute}
use Rattle.gsl_types.specs.declared.ty.Direction.{Direction}
use Rattle.gsl_types.specs.declared.ty.Ty.{Ty}
use Rattle.gsl_types.specs.declared.ty.Ty.TheVariants.{Void}
use Rattle.gsl_tree.specs.declared.program.Program.{Program}
use Rattle.gsl_tree.specs.declared.unit.Function.{Function}
use Rattle.gsl_tree.specs.declared.unit.GlobalVar.{GlobalVar}
use Rattle.gsl_tree.specs.declared.unit.LocalSize.{LocalSize}
use Rattle.gsl_tree.specs.declared.unit.Prototype.{Prototype}
use Rattle.gsl_tree.specs.declared.unit.TypedUnit.{TypedUnit}
use Rattle.gsl_link_units.specs.Types.{same_type}
use Rattle.gsl_link_units.specs.Structs.{joined_structs}
use Rattle.gsl_link_units.specs.Declarations.{Side, sides_of}
use Rattle.gsl_link_whole.specs.Numbers.{Sited, numbering, all_globals, sited_from, stands, joined_blocks, joined_interfaces, joined_heads}
use Rattle.gsl_link_whole.specs.Renumbering.{renumbered_global, renumbered_function}

-- ---- the parts that name others, unit by unit

-- the global variables for which a unit's declarations stand
abbrev pub globals_of : List Side → ℕ → Side → List GlobalVar
globals_of sides unit side =
    map (λ (a : Sited). renumbered_global (numbering sides unit side) a.global) (filter (stands (all_globals sides)) (sited_from unit 0 side.unit.globals))

abbrev pub functions_of : List Side → ℕ → Side → List Function
functions_of sides unit side = map (renumbered_function (numbering sides unit side)) side.unit.functions

-- what each unit gives, by its number, one behind the other
abbrev pub from_each : {A : Type 0} → (ℕ → Side → List A) → ℕ → List Side → List A
from_each part unit [] = []
from_each part unit (side ∷ sides) = part unit side ++ from_each part (unit + 1) sides

abbrev pub joined_globals : List Side → List GlobalVar
joined_globals sides = from_each (globals_of sides) 0 sides

abbrev pub joined_functions : List Side → List Function
joined_functions sides = from_each (functions_of sides) 0 sides

-- ---- `main`

abbrev pub main_name : List ℕ
main_name = 109 ∷ 97 ∷ 105 ∷ 110 ∷ []

abbrev pub has_no_params : List (Direction × Ty) → Bool
has_no_params [] = true
has_no_params (param ∷ params) = false

abbrev pub is_main_head : Option Prototype → Bool
is_main_head None = false
is_main_head (Some p) = bytes_eq p.name main_name && has_no_params p.params && same_type p.result Void

-- whether a function is `main`, which has no parameters and no result
abbrev pub is_main : List Prototype → Function → Bool
is_main heads f = is_main_head (slice_get heads f.prototype)

-- ---- the local size

abbrev pub all_sizes : List TypedUnit → List LocalSize
all_sizes units = flat_map (λ (unit : TypedUnit). unit.local_sizes) units

abbrev pub one_one_one : List ℕ
one_one_one = 1 ∷ 1 ∷ 1 ∷ []

abbrev pub first_size : List LocalSize → List ℕ
first_size [] = one_one_one
first_size (size ∷ sizes) = size.parts

-- the first that is stated; outside compute 1 1 1
abbrev pub local_size : Stage → List LocalSize → List ℕ
local_size Vertex sizes = one_one_one
local_size Fragment sizes = one_one_one
local_size Compute sizes = first_size sizes

-- ---- the program

abbrev pub whole_by : Stage → List TypedUnit → List Side → Program
whole_by stage units sides = record {
  stage = stage;
  structs = joined_structs units;
  globals = joined_globals sides;
  blocks = joined_blocks sides;
  interfaces = joined_interfaces sides;
  prototypes = joined_heads sides;
  functions = joined_functions sides;
  main = position_or_len (is_main (joined_heads sides)) (joined_functions sides);
  local_size = local_size stage (all_sizes units);
}

-- the lists of the units joined
abbrev pub whole : Stage → List TypedUnit → Program
whole stage units = whole_by stage units (sides_of units)
