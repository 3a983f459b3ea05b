-- Well typed units have what the rows of linking ask of them.
use Rattle.std.proofs.Common.{◌≡◌, sym, ◌∙◌, List, [], ◌∷◌, IsTrue}
use Rattle.std.specs.List.{AllByRecursion}
use Rattle.gsl_base.specs.declared.stage.Stage.{Stage}
use Rattle.gsl_types.specs.declared.ty.Member.{Member}
use Rattle.gsl_types.specs.declared.ty.StructType.{StructType}
use Rattle.gsl_layout.specs.Extents.{ArePlain, plain}
use Rattle.gsl_tree.specs.declared.unit.TypedUnit.{TypedUnit}
use Rattle.gsl_tree.specs.WellTyped.{IsVariableType, IsStructDeclared, IsUnit}
use Rattle.gsl_check_decl.proofs.Plain.{same_plain}
use Rattle.gsl_link_units.specs.Structs.{joined_structs}
use Rattle.gsl_link_units.specs.Declarations.{sides_of}
use Rattle.gsl_link.specs.Units.{AreKnown}
use Rattle.gsl_link_law.proofs.Blocked.{sides_blocks}
use Rattle.gsl_link_law.proofs.Declared.{joined_structs_declared}
use Rattle.gsl_link_law.proofs.Members.{all_in, in_get}
use Rattle.gsl_link_law.proofs.Structs.{joined_structs_are}
use Rattle.gsl_link_law.proofs.Typed.{known_units, declared_units}

plain_members : (structs : List StructType) (members : List Member) → AllByRecursion (λ (m : Member). IsVariableType structs m.ty) members → AllByRecursion (λ (m : Member). IsTrue (plain m.ty)) members
plain_members structs [] all = tt
plain_members structs (m ∷ members) all = (sym (same_plain m.ty) ∙ all.0.plain, plain_members structs members all.1)

declared_plain : (structs : List StructType) → AllByRecursion (IsStructDeclared structs) structs → ArePlain structs
declared_plain structs all number struct at = plain_members structs struct.members (all_in (IsStructDeclared structs) structs all struct (in_get structs number struct at)).types

pub units_known : (stage : Stage) (units : List TypedUnit) → AllByRecursion (IsUnit stage) units → AreKnown (joined_structs units) (sides_of units)
units_known stage units all = record {
  structs = joined_structs_are units (known_units stage units all);
  plain = declared_plain (joined_structs units) (joined_structs_declared units (declared_units stage units all));
  blocks = sides_blocks stage units all;
}
