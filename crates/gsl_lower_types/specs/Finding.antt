-- Whether lowering finds the types of values: arrays and structs among those that are known, and what a program declares of them.
use Rattle.std.specs.Prelude.{ℕ, ◌<◌, Bool, true, IsTrue, is_some, length}
use Rattle.std.specs.List.{AllByRecursion}
use Rattle.gsl_types.specs.declared.ty.Direction.{Direction}
use Rattle.gsl_types.specs.declared.ty.Member.{Member}
use Rattle.gsl_types.specs.declared.ty.StructType.{StructType}
use Rattle.gsl_types.specs.declared.ty.Ty.{Ty}
use Rattle.gsl_types.specs.declared.ty.Ty.TheOpen.{Ty-F}
use Rattle.gsl_types.specs.declared.ty.Ty.TheVariants as ty
use Rattle.gsl_types.specs.declared.ty.Ty.TheViews.{out-Ty}
use Rattle.gsl_tree.specs.declared.program.Program.{Program}
use Rattle.gsl_tree.specs.declared.unit.Block.{Block}
use Rattle.gsl_tree.specs.declared.unit.BlockMember.{BlockMember}
use Rattle.gsl_tree.specs.declared.unit.Function.{Function}
use Rattle.gsl_tree.specs.declared.unit.GlobalVar.{GlobalVar}
use Rattle.gsl_tree.specs.declared.unit.Prototype.{Prototype}
use Rattle.gsl_lower_holders.specs.Flow.{find_type}
use Rattle.gsl_lower_types.specs.Known.{Known}

-- types of few operands need not be known
abbrev pub known_by : Known → Ty → Ty-F Ty → Bool
known_by known t (Ty-F.Array element count) = is_some (find_type t known)
known_by known t (Ty-F.Struct number) = is_some (find_type t known)
known_by known t _ = true

abbrev pub found_by : Known → Ty → Ty-F Ty → Bool
found_by known t (Ty-F.Runtime element) = known_by known element (out-Ty element)
found_by known t layer = known_by known t layer

-- The type of a value is found, and of a runtime array that of its elements.
abbrev pub IsFound : Known → Ty → Type 0
IsFound known t = IsTrue (found_by known t (out-Ty t))

-- The elements of each array that is known are found.
abbrev pub AreWhole : Known → Type 0
AreWhole known = (element : Ty) (count : ℕ) → IsTrue (is_some (find_type (ty.Array element count) known)) → IsFound known element

abbrev pub IsStructFound : Known → StructType → Type 0
IsStructFound known struct = AllByRecursion (λ (member : Member). IsFound known member.ty) struct.members

abbrev pub IsBlockFound : Known → Block → Type 0
IsBlockFound known block = AllByRecursion (λ (member : BlockMember). IsFound known member.ty) block.members

abbrev pub IsPrototypeFound : Known → Prototype → Type 0
IsPrototypeFound known prototype = IsFound known prototype.result × AllByRecursion (λ (parameter : Direction × Ty). IsFound known parameter.1) prototype.params

abbrev pub IsFunctionFound : Known → Function → Type 0
IsFunctionFound known function = AllByRecursion (IsFound known) function.locals

-- All types that a program declares are found: its structs, and those of variables, of members, of parameters and results.
pub record AreFound (known : Known) (p : Program) : Type 0 where
  pub structs : (number : ℕ) → number < length p.structs → IsFound known (ty.Struct number)
  pub members : AllByRecursion (IsStructFound known) p.structs
  pub globals : AllByRecursion (λ (g : GlobalVar). IsFound known g.ty) p.globals
  pub blocks : AllByRecursion (IsBlockFound known) p.blocks
  pub prototypes : AllByRecursion (IsPrototypeFound known) p.prototypes
  pub functions : AllByRecursion (IsFunctionFound known) p.functions
