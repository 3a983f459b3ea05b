-- Units without structs and blocks may be linked.
use Rattle.std.proofs.Common.{◌≡◌, refl, sym, ap, subst, ◌∙◌, List, [], ◌∷◌, map}
use Rattle.std.specs.List.{AllByRecursion}
use Rattle.gsl_types.specs.Known.{AreStructs}
use Rattle.gsl_types.specs.declared.ty.StructType.{StructType}
use Rattle.gsl_layout.specs.Extents.{ArePlain}
use Rattle.gsl_tree.specs.declared.unit.Block.{Block}
use Rattle.gsl_tree.specs.declared.unit.TypedUnit.{TypedUnit}
use Rattle.gsl_tree.specs.WellTyped.{IsBlock}
use Rattle.gsl_link_units.specs.Structs.{with_structs, with_units, joined_structs, numbers_behind}
use Rattle.gsl_link_units.specs.Declarations.{retyped_block, sides_by, sides_of}
use Rattle.gsl_link_names.specs.Earlier.{AreTypedBlocks}
use Rattle.gsl_link.specs.Units.{AreKnown}
use Rattle.gsl_tests_link.specs.Bare.{AreBare}

no_structs : (units : List TypedUnit) → AreBare units → with_units [] units ≡ []
no_structs [] bare = refl
no_structs (unit ∷ units) bare = ap (λ (structs : List StructType). with_units (with_structs [] [] structs).0 units) bare.0.0 ∙ no_structs units bare.1

none_known : AreStructs []
none_known number struct there = cc

none_plain : ArePlain []
none_plain number struct there = cc

module _ (structs : List StructType) where
  no_blocks : (joined : List StructType) (units : List TypedUnit) → AreBare units → AllByRecursion (AreTypedBlocks structs) (sides_by (numbers_behind joined units) units)
  no_blocks joined [] bare = tt
  no_blocks joined (unit ∷ units) bare = (
    subst (λ (blocks : List Block). AllByRecursion (IsBlock structs) (map (retyped_block (with_structs joined [] unit.structs).1) blocks)) (sym bare.0.1) tt,
    no_blocks (with_structs joined [] unit.structs).0 units bare.1,
  )

pub bare_known : (units : List TypedUnit) → AreBare units → AreKnown (joined_structs units) (sides_of units)
bare_known units bare = record {
  structs = subst (λ (structs : List StructType). AreStructs structs) (sym (no_structs units bare)) none_known;
  plain = subst (λ (structs : List StructType). ArePlain structs) (sym (no_structs units bare)) none_plain;
  blocks = no_blocks (joined_structs units) [] units bare;
}
