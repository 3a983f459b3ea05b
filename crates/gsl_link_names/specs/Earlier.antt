-- Declarations that are against one of an earlier unit.
use Rattle.std.specs.Prelude.{List, [], ◌∷◌, ◌++◌, filter}
use Rattle.std.specs.List.{AllByRecursion}
use Rattle.gsl_types.specs.declared.ty.StructType.{StructType}
use Rattle.gsl_tree.specs.WellTyped.{IsBlock}
use Rattle.gsl_link_units.specs.Declarations.{Side, Declaration, declarations}
use Rattle.gsl_link_units.specs.Agreement.{is_against_any}

-- the declarations of units that are against one of an earlier unit, where these stand in front
abbrev pub against_earlier : List StructType → List Declaration → List Side → List Declaration
against_earlier structs earlier [] = []
against_earlier structs earlier (side ∷ sides) =
    filter (is_against_any structs earlier) (declarations side) ++ against_earlier structs (earlier ++ declarations side) sides

-- the blocks of a unit are well typed, by the joined structs
abbrev pub AreTypedBlocks : List StructType → Side → Type 0
AreTypedBlocks structs side = AllByRecursion (IsBlock structs) side.unit.blocks
