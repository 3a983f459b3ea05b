-- What is asked of units that are linked, as the checker's answers have it.
use Rattle.std.specs.Prelude.{◌≡◌, ℕ, ◌≤◌, Bool, not, ◌&&◌, List, [], filter, length}
use Rattle.std.specs.List.{AllByRecursion}
use Rattle.gsl_base.specs.declared.stage.Stage.{Stage}
use Rattle.gsl_types.specs.Known.{AreStructs}
use Rattle.gsl_types.specs.declared.ty.StructType.{StructType}
use Rattle.gsl_layout.specs.Extents.{ArePlain}
use Rattle.gsl_tree.specs.declared.unit.Prototype.{Prototype}
use Rattle.gsl_tree.specs.declared.unit.TypedUnit.{TypedUnit}
use Rattle.gsl_tree.specs.WellTyped.{IsUnit}
use Rattle.gsl_link_units.specs.Firsts.{again}
use Rattle.gsl_link_units.specs.Declarations.{Side, is_shared, sides_of}
use Rattle.gsl_link_units.specs.Agreement.{agree_functions, same_function}
use Rattle.gsl_link_names.specs.Earlier.{AreTypedBlocks}
use Rattle.gsl_link_whole.specs.Numbers.{same_block, same_interface, same_shared}

-- two heads of one function that do not agree
abbrev pub is_other_head : Prototype → Prototype → Bool
is_other_head a b = same_function a b && not (agree_functions a b)

-- Within a unit each variable, block, input and output has a name of its own, and the heads of a function agree.
pub record IsNamedOnce (side : Side) : Type 0 where
  pub variables : again same_shared (filter is_shared side.unit.globals) ≡ []
  pub blocks : again same_block side.unit.blocks ≡ []
  pub interfaces : again same_interface side.unit.interfaces ≡ []
  pub heads : again is_other_head side.unit.prototypes ≡ []

-- so many units at most
abbrev pub most_units : ℕ
most_units = 64

-- units of a stage that may be linked
pub record AreUnits (stage : Stage) (units : List TypedUnit) : Type 0 where
  pub few : length units ≤ most_units
  pub typed : AllByRecursion (IsUnit stage) units
  pub named : AllByRecursion IsNamedOnce (sides_of units)

-- What the rows ask of units: the joined structs are well formed, and so are the blocks by them.
pub record AreKnown (joined : List StructType) (sides : List Side) : Type 0 where
  pub structs : AreStructs joined
  pub plain : ArePlain joined
  pub blocks : AllByRecursion (AreTypedBlocks joined) sides
