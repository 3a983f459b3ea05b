-- Units that declare neither structs nor blocks.
use Rattle.std.specs.Prelude.{◌≡◌, List, []}
use Rattle.std.specs.List.{AllByRecursion}
use Rattle.gsl_tree.specs.declared.unit.TypedUnit.{TypedUnit}

abbrev pub IsBare : TypedUnit → Type 0
IsBare unit = (unit.structs ≡ []) × (unit.blocks ≡ [])

abbrev pub AreBare : List TypedUnit → Type 0
AreBare units = AllByRecursion IsBare units
