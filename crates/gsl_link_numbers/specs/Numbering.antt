-- The numbers of units, as the code finds them in tables of names, and what they give joined.
use Rattle.std.specs.Prelude.{ℕ, ◌+◌, List, [], ◌∷◌, ◌++◌, map, flat_map, Option, Some, None, if◌then◌else◌}
use Rattle.std.specs.List.{position_or_len}
use Rattle.indexmap.specs.IndexSet.{insert_all}
use Rattle.gsl_base.specs.declared.stage.Stage.{Stage}
use Rattle.gsl_types.specs.declared.ty.StructType.{StructType}
use Rattle.gsl_tree.specs.declared.program.Program.{Program}
use Rattle.gsl_tree.specs.declared.unit.Function.{Function}
use Rattle.gsl_tree.specs.declared.unit.GlobalVar.{GlobalVar}
use Rattle.gsl_tree.specs.declared.unit.LocalSize.{LocalSize}
use Rattle.gsl_link_units.specs.Declarations.{Side}
use Rattle.gsl_link_whole.specs.Numbers.{Numbering, numbering, joined_blocks, joined_interfaces, joined_heads}
use Rattle.gsl_link_whole.specs.Renumbering.{renumbered_global, renumbered_function}
use Rattle.gsl_link_whole.specs.Whole.{joined_globals, joined_functions, is_main, local_size}
use Rattle.gsl_link_numbers.specs.declared.site.Site.{Site}
use Rattle.gsl_link_numbers.specs.Joining.{block_names, interface_names, head_keys, block_places, interface_places, head_places}
use Rattle.gsl_link_numbers.specs.Standing.{Spots, site_eq, noted_all, standing_all, stands_there, places_behind}

-- ---- the numbers of each unit

-- the names of blocks, of inputs and outputs, the keys of heads, and the declarations that stand for variables
pub record Tables : Type 0 where
  pub blocks : List (List ℕ)
  pub interfaces : List (List ℕ)
  pub heads : List (List ℕ)
  pub spots : Spots
  pub sites : List Site

-- those of all units
abbrev pub tables_of : List Side → Tables
tables_of sides = record {
  blocks = block_names (joined_blocks sides);
  interfaces = interface_names (joined_interfaces sides);
  heads = head_keys (joined_heads sides);
  spots = noted_all [] 0 sides;
  sites = insert_all site_eq [] (standing_all (noted_all [] 0 sides) 0 sides);
}

abbrev pub numbering_by : Tables → ℕ → Side → Numbering
numbering_by t unit side = record {
  structs = side.structs;
  globals = places_behind [] t.spots t.sites unit 0 side.unit.globals;
  blocks = block_places t.blocks side.unit.blocks;
  interfaces = interface_places t.interfaces side.unit.interfaces;
  heads = head_places t.heads side.unit.prototypes;
}

abbrev pub numberings_behind : List Numbering → Tables → ℕ → List Side → List Numbering
numberings_behind numbers t unit [] = numbers
numberings_behind numbers t unit (side ∷ sides) = numberings_behind (numbers ++ numbering_by t unit side ∷ []) t (unit + 1) sides

abbrev pub numberings_from : List Side → ℕ → List Side → List Numbering
numberings_from sides unit [] = []
numberings_from sides unit (side ∷ rest) = numbering sides unit side ∷ numberings_from sides (unit + 1) rest

-- the new numbers of each unit
abbrev pub numberings : List Side → List Numbering
numberings sides = numberings_from sides 0 sides

-- ---- what units give, by their numbers

abbrev pub globals_behind : List GlobalVar → Spots → Numbering → ℕ → ℕ → List GlobalVar → List GlobalVar
globals_behind all spots n unit index [] = all
globals_behind all spots n unit index (g ∷ globals) =
    globals_behind (if stands_there spots unit index g then all ++ renumbered_global n g ∷ [] else all) spots n unit (index + 1) globals

abbrev pub all_globals_behind : List GlobalVar → Tables → ℕ → List Side → List GlobalVar
all_globals_behind all t unit [] = all
all_globals_behind all t unit (side ∷ sides) =
    all_globals_behind (globals_behind all t.spots (numbering_by t unit side) unit 0 side.unit.globals) t (unit + 1) sides

abbrev pub all_functions_behind : List Function → Tables → ℕ → List Side → List Function
all_functions_behind all t unit [] = all
all_functions_behind all t unit (side ∷ sides) =
    all_functions_behind (all ++ map (renumbered_function (numbering_by t unit side)) side.unit.functions) t (unit + 1) sides

-- ---- the program

abbrev pub sizes_in : List Side → List LocalSize
sizes_in sides = flat_map (λ (side : Side). side.unit.local_sizes) sides

abbrev pub parts_of : Option LocalSize → Option (List ℕ)
parts_of None = None
parts_of (Some size) = Some size.parts

-- the lists of units joined, where their structs are joined already
abbrev pub whole_from : Stage → List StructType → List Side → Program
whole_from stage structs sides = record {
  stage = stage;
  structs = structs;
  globals = joined_globals sides;
  blocks = joined_blocks sides;
  interfaces = joined_interfaces sides;
  prototypes = joined_heads sides;
  functions = joined_functions sides;
  main = position_or_len (is_main (joined_heads sides)) (joined_functions sides);
  local_size = local_size stage (sizes_in sides);
}
