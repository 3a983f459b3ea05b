-- Values whose words are below 2^32, and types whose arrays have as many elements as a word counts.
use Rattle.std.specs.Prelude.{◌^◌, Bool, true, ◌&&◌, nat_lt, IsTrue, List, [], ◌∷◌}
use Rattle.std.specs.List.{AllByRecursion}
use Rattle.gsl_types.specs.declared.ty.Direction.{Direction}
use Rattle.gsl_types.specs.declared.ty.Member.{Member}
use Rattle.gsl_types.specs.declared.ty.StructType.{StructType}
use Rattle.gsl_tree.specs.declared.unit.Block.{Block}
use Rattle.gsl_tree.specs.declared.unit.BlockMember.{BlockMember}
use Rattle.gsl_tree.specs.declared.unit.GlobalVar.{GlobalVar}
use Rattle.gsl_tree.specs.declared.unit.Interface.{Interface}
use Rattle.gsl_tree.specs.declared.unit.Prototype.{Prototype}
use Rattle.gsl_typing.specs.declared.scene.Scene.{Scene}
use Rattle.gsl_types.specs.declared.ty.Ty.{Ty}
use Rattle.gsl_types.specs.declared.ty.Ty.TheOpen.{Ty-F}
use Rattle.gsl_types.specs.declared.ty.Ty.TheFolds.{fold-Ty}
use Rattle.gsl_values.specs.declared.value.Value.{Value}
use Rattle.gsl_values.specs.declared.value.Value.TheOpen.{Value-F}
use Rattle.gsl_values.specs.declared.value.Value.TheFolds.{fold-Value}
use Rattle.gsl_tree.specs.declared.folded.Folded.{Folded}
use Rattle.gsl_tree.specs.declared.folded.Folded.TheVariants.{Known, NotConstant, Free}

abbrev pub all_small : List Bool → Bool
all_small [] = true
all_small (b ∷ bs) = b && all_small bs

abbrev pub small_layer : Value-F Bool → Bool
small_layer (Value-F.Word word) = nat_lt word (2 ^ 32)
small_layer (Value-F.Many parts) = all_small parts

-- each word in a value is below 2^32
abbrev pub is_small : Value → Bool
is_small = fold-Value Bool small_layer

abbrev pub IsSmall : Value → Type 0
IsSmall v = IsTrue (is_small v)

-- what is known is so
abbrev pub IsSmallFolded : Folded → Type 0
IsSmallFolded (Known v) = IsSmall v
IsSmallFolded NotConstant = Unit {0}
IsSmallFolded Free = Unit {0}

abbrev pub counted_layer : Ty-F Bool → Bool
counted_layer Ty-F.Void = true
counted_layer (Ty-F.One s) = true
counted_layer (Ty-F.Vector s n) = true
counted_layer (Ty-F.Array element n) = nat_lt n (2 ^ 32) && element
counted_layer (Ty-F.Runtime element) = element
counted_layer (Ty-F.Struct number) = true

-- each array in a type has as many elements as a word counts
abbrev pub is_counted : Ty → Bool
is_counted = fold-Ty Bool counted_layer

abbrev pub IsCounted : Ty → Type 0
IsCounted t = IsTrue (is_counted t)

-- The types in the lists of a scene are such types, and what is known of its variables has words alone.
pub record IsCountedScene (scene : Scene) : Type 0 where
  pub structs : AllByRecursion (λ (s : StructType). AllByRecursion (λ (m : Member). IsCounted m.ty) s.members) scene.structs
  pub globals : AllByRecursion (λ (g : GlobalVar). IsCounted g.ty) scene.globals
  pub blocks : AllByRecursion (λ (b : Block). AllByRecursion (λ (m : BlockMember). IsCounted m.ty) b.members) scene.blocks
  pub interfaces : AllByRecursion (λ (i : Interface). IsCounted i.ty) scene.interfaces
  pub prototypes : AllByRecursion (λ (p : Prototype). IsCounted p.result) scene.prototypes
  pub params : AllByRecursion (λ (param : Direction × Ty). IsCounted param.1) scene.params
  pub locals : AllByRecursion IsCounted scene.locals
  pub known_globals : AllByRecursion IsSmallFolded scene.consts.globals
  pub known_locals : AllByRecursion IsSmallFolded scene.consts.locals
