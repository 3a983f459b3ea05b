-- What the tables of all units give is what the definitions say.
use Rattle.std.proofs.Common.{◌≡◌, refl, sym, ap, ◌∙◌, ℕ, ◌+◌, Bool, true, false, cond, List, [], ◌∷◌, ◌++◌, append_assoc, append-nil}
use Rattle.std.specs.Prelude.{map, filter, if◌then◌else◌}
use Rattle.std.specs.List.{AllByRecursion}
use Rattle.gsl_base.specs.declared.stage.Stage.{Stage}
use Rattle.gsl_tree.specs.declared.unit.Block.{Block}
use Rattle.gsl_tree.specs.declared.unit.Function.{Function}
use Rattle.gsl_tree.specs.declared.unit.GlobalVar.{GlobalVar}
use Rattle.gsl_tree.specs.declared.unit.Interface.{Interface}
use Rattle.gsl_tree.specs.declared.unit.Prototype.{Prototype}
use Rattle.gsl_tree.specs.declared.unit.TypedUnit.{TypedUnit}
use Rattle.gsl_types.specs.declared.ty.StructType.{StructType}
use Rattle.gsl_link_units.specs.Declarations.{Side, sides_by, sides_of}
use Rattle.gsl_link_units.specs.Structs.{with_structs, numbers_behind, joined_structs}
use Rattle.gsl_link_whole.specs.Numbers.{Sited, sited_from, all_from, all_globals, stands, Numbering, numbering, block_number, interface_number, head_number, joined_blocks, joined_interfaces, joined_heads}
use Rattle.gsl_link_whole.specs.Renumbering.{renumbered_global, renumbered_function}
use Rattle.gsl_link_whole.specs.Whole.{globals_of, functions_of, from_each, joined_globals, joined_functions, all_sizes, local_size, whole}
use Rattle.gsl_link_numbers.specs.Joining.{block_names, interface_names, head_keys, block_places, interface_places, head_places}
use Rattle.gsl_link_numbers.specs.Standing.{noted_all, places_behind}
use Rattle.gsl_link_numbers.specs.Numbering.{tables_of, numbering_by, numberings_behind, numberings_from, numberings, globals_behind, all_globals_behind, all_functions_behind, sizes_in, whole_from}
use Rattle.gsl_link_numbers.proofs.Joined.{block_place, interface_place, head_place}
use Rattle.gsl_link_numbers.proofs.Chosen.{Stands, all_stand}
use Rattle.gsl_link_numbers.proofs.Stood.{all_first, all_second, stand_there, set_is, places_are}

module _ (sides : List Side) where
  blocks_are : (blocks : List Block) → block_places (block_names (joined_blocks sides)) blocks ≡ map (block_number sides) blocks
  blocks_are [] = refl
  blocks_are (x ∷ xs) = λ j. block_place x (joined_blocks sides) j ∷ blocks_are xs j

  interfaces_are : (interfaces : List Interface) → interface_places (interface_names (joined_interfaces sides)) interfaces ≡ map (interface_number sides) interfaces
  interfaces_are [] = refl
  interfaces_are (x ∷ xs) = λ j. interface_place x (joined_interfaces sides) j ∷ interfaces_are xs j

  heads_are : (heads : List Prototype) → head_places (head_keys (joined_heads sides)) heads ≡ map (head_number sides) heads
  heads_are [] = refl
  heads_are (x ∷ xs) = λ j. head_place x (joined_heads sides) j ∷ heads_are xs j

  numbering_is : (unit : ℕ) (side : Side) → AllByRecursion (Stands sides) (sited_from unit 0 side.unit.globals) → numbering_by (tables_of sides) unit side ≡ numbering sides unit side
  numbering_is unit side all =
      λ j. record {
        structs = side.structs;
        globals = (ap (λ s. places_behind [] (noted_all [] 0 sides) s unit 0 side.unit.globals) (set_is sides) ∙ places_are sides [] unit 0 side.unit.globals all) j;
        blocks = blocks_are side.unit.blocks j;
        interfaces = interfaces_are side.unit.interfaces j;
        heads = heads_are side.unit.prototypes j;
      }

  abbrev AllStand : ℕ → List Side → Type 0
  AllStand unit rest = AllByRecursion (Stands sides) (all_from unit rest)

  first_stand : (unit : ℕ) (side : Side) (rest : List Side) → AllStand unit (side ∷ rest) → AllByRecursion (Stands sides) (sited_from unit 0 side.unit.globals)
  first_stand unit side rest all = all_first sides (Stands sides) (sited_from unit 0 side.unit.globals) (all_from (unit + 1) rest) all

  others_stand : (unit : ℕ) (side : Side) (rest : List Side) → AllStand unit (side ∷ rest) → AllStand (unit + 1) rest
  others_stand unit side rest all = all_second sides (Stands sides) (sited_from unit 0 side.unit.globals) (all_from (unit + 1) rest) all

  numberings_from_is : (before : List Numbering) (unit : ℕ) (rest : List Side) → AllStand unit rest
      → numberings_behind before (tables_of sides) unit rest ≡ before ++ numberings_from sides unit rest
  numberings_from_is before unit [] all = sym (append-nil before)
  numberings_from_is before unit (side ∷ rest) all =
      ap (λ n. numberings_behind (before ++ n ∷ []) (tables_of sides) (unit + 1) rest) (numbering_is unit side (first_stand unit side rest all))
      ∙ numberings_from_is (before ++ numbering sides unit side ∷ []) (unit + 1) rest (others_stand unit side rest all)
      ∙ append_assoc before (numbering sides unit side ∷ []) (numberings_from sides (unit + 1) rest)

  abbrev given : Numbering → List Sited → List GlobalVar
  given n xs = map (λ (a : Sited). renumbered_global n a.global) (filter (stands (all_globals sides)) xs)

  globals_from_is : (n : Numbering) (before : List GlobalVar) (unit index : ℕ) (globals : List GlobalVar) → AllByRecursion (Stands sides) (sited_from unit index globals)
      → globals_behind before (noted_all [] 0 sides) n unit index globals ≡ before ++ given n (sited_from unit index globals)
  globals_from_is n before unit index [] all = sym (append-nil before)
  globals_from_is n before unit index (g ∷ globals) all =
      ap (λ b. globals_behind (if b then before ++ renumbered_global n g ∷ [] else before) (noted_all [] 0 sides) n unit (index + 1) globals) (sym (stand_there sides a all.0))
      ∙ by_cases (stands (all_globals sides) a) (λ l. globals_from_is n l unit (index + 1) globals all.1)
    where
      a : Sited
      a = record { unit = unit; index = index; global = g }

      later : List GlobalVar
      later = given n (sited_from unit (index + 1) globals)

      by_cases : (b : Bool)
          → ((l : List GlobalVar) → globals_behind l (noted_all [] 0 sides) n unit (index + 1) globals ≡ l ++ later)
          → globals_behind (if b then before ++ renumbered_global n g ∷ [] else before) (noted_all [] 0 sides) n unit (index + 1) globals
          ≡ before ++ map (λ (x : Sited). renumbered_global n x.global) (cond b (a ∷ filter (stands (all_globals sides)) (sited_from unit (index + 1) globals)) (filter (stands (all_globals sides)) (sited_from unit (index + 1) globals)))
      by_cases true is = is (before ++ renumbered_global n g ∷ []) ∙ append_assoc before (renumbered_global n g ∷ []) later
      by_cases false is = is before

  all_globals_from : (before : List GlobalVar) (unit : ℕ) (rest : List Side) → AllStand unit rest
      → all_globals_behind before (tables_of sides) unit rest ≡ before ++ from_each (globals_of sides) unit rest
  all_globals_from before unit [] all = sym (append-nil before)
  all_globals_from before unit (side ∷ rest) all =
      ap (λ l. all_globals_behind l (tables_of sides) (unit + 1) rest)
      (ap (λ n. globals_behind before (noted_all [] 0 sides) n unit 0 side.unit.globals) (numbering_is unit side (first_stand unit side rest all))
      ∙ globals_from_is (numbering sides unit side) before unit 0 side.unit.globals (first_stand unit side rest all))
      ∙ all_globals_from (before ++ globals_of sides unit side) (unit + 1) rest (others_stand unit side rest all)
      ∙ append_assoc before (globals_of sides unit side) (from_each (globals_of sides) (unit + 1) rest)

  all_functions_from : (before : List Function) (unit : ℕ) (rest : List Side) → AllStand unit rest
      → all_functions_behind before (tables_of sides) unit rest ≡ before ++ from_each (functions_of sides) unit rest
  all_functions_from before unit [] all = sym (append-nil before)
  all_functions_from before unit (side ∷ rest) all =
      ap (λ n. all_functions_behind (before ++ map (renumbered_function n) side.unit.functions) (tables_of sides) (unit + 1) rest) (numbering_is unit side (first_stand unit side rest all))
      ∙ all_functions_from (before ++ functions_of sides unit side) (unit + 1) rest (others_stand unit side rest all)
      ∙ append_assoc before (functions_of sides unit side) (from_each (functions_of sides) (unit + 1) rest)

  pub numberings_are : numberings_behind [] (tables_of sides) 0 sides ≡ numberings sides
  numberings_are = numberings_from_is [] 0 sides (all_stand sides)

  pub globals_are : all_globals_behind [] (tables_of sides) 0 sides ≡ joined_globals sides
  globals_are = all_globals_from [] 0 sides (all_stand sides)

  pub functions_are : all_functions_behind [] (tables_of sides) 0 sides ≡ joined_functions sides
  functions_are = all_functions_from [] 0 sides (all_stand sides)

-- ---- sizes of work groups

sizes_by : (joined : List StructType) (units : List TypedUnit) → sizes_in (sides_by (numbers_behind joined units) units) ≡ all_sizes units
sizes_by joined [] = refl
sizes_by joined (unit ∷ units) = ap (λ l. unit.local_sizes ++ l) (sizes_by (with_structs joined [] unit.structs).0 units)

pub sizes_are : (units : List TypedUnit) → sizes_in (sides_of units) ≡ all_sizes units
sizes_are units = sizes_by [] units

pub whole_is : (stage : Stage) (units : List TypedUnit) → whole_from stage (joined_structs units) (sides_of units) ≡ whole stage units
whole_is stage units = ap (λ sizes. record (whole stage units) { local_size = local_size stage sizes }) (sizes_are units)
