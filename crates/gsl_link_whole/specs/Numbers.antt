-- What the declarations of many units stand for together: each variable, block, input, output and function once, and their numbers.
use Rattle.std.specs.Prelude.{ℕ, ◌+◌, Bool, not, ◌&&◌, ◌||◌, nat_eq, bytes_eq, is_some, List, [], ◌∷◌, ◌++◌, map, filter, find, flat_map, Option, Some, None, if◌then◌else◌}
use Rattle.std.specs.List.{position_or_len}
use Rattle.gsl_tree.specs.declared.unit.Block.{Block}
use Rattle.gsl_tree.specs.declared.unit.GlobalVar.{GlobalVar}
use Rattle.gsl_tree.specs.declared.unit.Interface.{Interface}
use Rattle.gsl_tree.specs.declared.unit.Prototype.{Prototype}
use Rattle.gsl_tree.specs.WellTyped.{comes_before}
use Rattle.gsl_link_units.specs.Firsts.{firsts}
use Rattle.gsl_link_units.specs.Declarations.{Side}
use Rattle.gsl_link_units.specs.Agreement.{same_function}

-- ---- blocks, inputs and outputs, functions: the first declaration of each

abbrev pub same_block : Block → Block → Bool
same_block a b = bytes_eq a.name b.name

abbrev pub same_interface : Interface → Interface → Bool
same_interface a b = bytes_eq a.name b.name

-- the blocks, in the order of their declarations
abbrev pub declared_blocks : List Side → List Block
declared_blocks sides = firsts same_block (flat_map (λ (side : Side). side.unit.blocks) sides)

abbrev pub put_block : Block → List Block → List Block
put_block block [] = block ∷ []
put_block block (first ∷ blocks) = if comes_before first block then first ∷ put_block block blocks else block ∷ first ∷ blocks

abbrev pub in_order : List Block → List Block
in_order [] = []
in_order (block ∷ blocks) = put_block block (in_order blocks)

-- the blocks in ascending order of set and binding, the push constant block last
abbrev pub joined_blocks : List Side → List Block
joined_blocks sides = in_order (declared_blocks sides)

abbrev pub joined_interfaces : List Side → List Interface
joined_interfaces sides = firsts same_interface (flat_map (λ (side : Side). side.unit.interfaces) sides)

-- the heads of functions: those that are of one function are one
abbrev pub joined_heads : List Side → List Prototype
joined_heads sides = firsts same_function (flat_map (λ (side : Side). side.unit.prototypes) sides)

-- ---- global variables

-- a global variable, with the number of its unit and its number there
pub record Sited : Type 0 where
  pub unit : ℕ
  pub index : ℕ
  pub global : GlobalVar

abbrev pub sited_from : ℕ → ℕ → List GlobalVar → List Sited
sited_from unit index [] = []
sited_from unit index (g ∷ globals) = record { unit = unit; index = index; global = g } ∷ sited_from unit (index + 1) globals

abbrev pub all_from : ℕ → List Side → List Sited
all_from unit [] = []
all_from unit (side ∷ sides) = sited_from unit 0 side.unit.globals ++ all_from (unit + 1) sides

-- the declarations of global variables, in their order
abbrev pub all_globals : List Side → List Sited
all_globals sides = all_from 0 sides

abbrev pub same_site : Sited → Sited → Bool
same_site a b = nat_eq a.unit b.unit && nat_eq a.index b.index

abbrev pub same_shared : GlobalVar → GlobalVar → Bool
same_shared a b = not a.constant && not b.constant && bytes_eq a.name b.name

-- Two declarations are of one variable. A `const` variable has one declaration alone.
abbrev pub same_variable : Sited → Sited → Bool
same_variable a b = same_site a b || same_shared a.global b.global

-- a declaration of this variable that has an initialiser
abbrev pub begins : Sited → Sited → Bool
begins a b = same_variable a b && is_some b.global.init

abbrev pub or_else : Sited → Option Sited → Sited
or_else a None = a
or_else a (Some b) = b

-- The declaration that stands for a variable: its first one with an initialiser, else its first one. So the `const` variables that an
-- initialiser names stand before it.
abbrev pub stands_for : List Sited → Sited → Sited
stands_for all a = or_else (or_else a (find (same_variable a) all)) (find (begins a) all)

-- whether a declaration stands for its variable
abbrev pub stands : List Sited → Sited → Bool
stands all a = same_site (stands_for all a) a

-- the declarations that stand for the variables
abbrev pub standing : List Side → List Sited
standing sides = filter (stands (all_globals sides)) (all_globals sides)

-- ---- new numbers

-- the new numbers of what a unit declares, each list by the unit's own numbers
pub record Numbering : Type 0 where
  pub structs : List ℕ
  pub globals : List ℕ
  pub blocks : List ℕ
  pub interfaces : List ℕ
  pub heads : List ℕ

abbrev pub global_number : List Side → Sited → ℕ
global_number sides a = position_or_len (same_site (stands_for (all_globals sides) a)) (standing sides)

abbrev pub block_number : List Side → Block → ℕ
block_number sides block = position_or_len (same_block block) (joined_blocks sides)

abbrev pub interface_number : List Side → Interface → ℕ
interface_number sides i = position_or_len (same_interface i) (joined_interfaces sides)

abbrev pub head_number : List Side → Prototype → ℕ
head_number sides p = position_or_len (same_function p) (joined_heads sides)

-- the new numbers of a unit, by its number among the units
abbrev pub numbering : List Side → ℕ → Side → Numbering
numbering sides unit side = record {
  structs = side.structs;
  globals = map (global_number sides) (sited_from unit 0 side.unit.globals);
  blocks = map (block_number sides) side.unit.blocks;
  interfaces = map (interface_number sides) side.unit.interfaces;
  heads = map (head_number sides) side.unit.prototypes;
}
