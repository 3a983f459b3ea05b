-- What is asked of the structs of units, where the units are well typed.
use Rattle.std.proofs.Common.{List, [], ◌∷◌}
use Rattle.std.specs.List.{AllByRecursion}
use Rattle.gsl_base.specs.declared.stage.Stage.{Stage}
use Rattle.gsl_tree.specs.declared.unit.TypedUnit.{TypedUnit}
use Rattle.gsl_tree.specs.WellTyped.{IsUnit}
use Rattle.gsl_link_law.proofs.Structs.{KnowsStructs}
use Rattle.gsl_link_law.proofs.Declared.{HasStructs}

pub known_units : (stage : Stage) (units : List TypedUnit) → AllByRecursion (IsUnit stage) units → AllByRecursion KnowsStructs units
known_units stage [] all = tt
known_units stage (unit ∷ units) all = (all.0.typed.structs, known_units stage units all.1)

pub declared_units : (stage : Stage) (units : List TypedUnit) → AllByRecursion (IsUnit stage) units → AllByRecursion HasStructs units
declared_units stage [] all = tt
declared_units stage (unit ∷ units) all = ((all.0.typed.structs, all.0.typed.declared), declared_units stage units all.1)
