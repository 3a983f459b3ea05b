-- What a unit declares to the other units, with types by the joined structs.
use Rattle.std.specs.Prelude.{ℕ, Bool, not, List, [], ◌∷◌, ◌++◌, map, filter}
use Rattle.gsl_base.specs.declared.fault.Place.{Place}
use Rattle.gsl_types.specs.declared.ty.Direction.{Direction}
use Rattle.gsl_types.specs.declared.ty.Ty.{Ty}
use Rattle.gsl_tree.specs.declared.unit.Block.{Block}
use Rattle.gsl_tree.specs.declared.unit.BlockMember.{BlockMember}
use Rattle.gsl_tree.specs.declared.unit.GlobalVar.{GlobalVar}
use Rattle.gsl_tree.specs.declared.unit.Interface.{Interface}
use Rattle.gsl_tree.specs.declared.unit.Prototype.{Prototype}
use Rattle.gsl_tree.specs.declared.unit.TypedUnit.{TypedUnit}
use Rattle.gsl_link_units.specs.Types.{retyped}
use Rattle.gsl_link_units.specs.Structs.{struct_numbers}

-- ---- declarations by the joined structs

abbrev pub retyped_global : List ℕ → GlobalVar → GlobalVar
retyped_global numbers g = record g { ty = retyped numbers g.ty }

abbrev pub retyped_block_member : List ℕ → BlockMember → BlockMember
retyped_block_member numbers member = record member { ty = retyped numbers member.ty }

abbrev pub retyped_block : List ℕ → Block → Block
retyped_block numbers block = record block { members = map (retyped_block_member numbers) block.members }

abbrev pub retyped_interface : List ℕ → Interface → Interface
retyped_interface numbers i = record i { ty = retyped numbers i.ty }

abbrev pub retyped_param : List ℕ → Direction × Ty → Direction × Ty
retyped_param numbers param = (param.0, retyped numbers param.1)

abbrev pub retyped_prototype : List ℕ → Prototype → Prototype
retyped_prototype numbers p = record p { result = retyped numbers p.result; params = map (retyped_param numbers) p.params }

-- A unit whose declarations have the new numbers of its structs; its initialisers and functions are still as they were. `structs` has these
-- numbers.
pub record Side : Type 0 where
  pub structs : List ℕ
  pub unit : TypedUnit

abbrev pub side_of : List ℕ → TypedUnit → Side
side_of numbers unit = record {
  structs = numbers;
  unit = record unit {
    globals = map (retyped_global numbers) unit.globals;
    blocks = map (retyped_block numbers) unit.blocks;
    interfaces = map (retyped_interface numbers) unit.interfaces;
    prototypes = map (retyped_prototype numbers) unit.prototypes;
  };
}

abbrev pub sides_by : List (List ℕ) → List TypedUnit → List Side
sides_by (numbers ∷ rest) (unit ∷ units) = side_of numbers unit ∷ sides_by rest units
sides_by _ _ = []

-- the units with their declarations by the joined structs
abbrev pub sides_of : List TypedUnit → List Side
sides_of units = sides_by (struct_numbers units) units

-- ---- declarations of all kinds

-- A declaration that is shared with other units. A `const` global variable belongs to its unit.
pub data Declaration : Type 0 where
  OfVariable : GlobalVar → Declaration
  OfInterface : Interface → Declaration
  OfBlock : Block → Declaration
  OfFunction : Prototype → Declaration

abbrev pub name_of : Declaration → List ℕ
name_of (OfVariable g) = g.name
name_of (OfInterface i) = i.name
name_of (OfBlock block) = block.name
name_of (OfFunction p) = p.name

abbrev pub declared_at : Declaration → Place
declared_at (OfVariable g) = g.place
declared_at (OfInterface i) = i.place
declared_at (OfBlock block) = block.place
declared_at (OfFunction p) = p.place

abbrev pub is_shared : GlobalVar → Bool
is_shared g = not g.constant

-- the declarations of a unit that it shares, kind by kind
abbrev pub declarations : Side → List Declaration
declarations side =
    map OfVariable (filter is_shared side.unit.globals) ++ map OfInterface side.unit.interfaces ++ map OfBlock side.unit.blocks
    ++ map OfFunction side.unit.prototypes
