-- What the new numbers of a unit name is what the old ones named.
use Rattle.std.specs.Prelude.{◌≡◌, ℕ, ◌<◌, List, map, length, slice_get, Some}
use Rattle.gsl_base.specs.declared.stage.Stage.TheVariants.{Compute}
use Rattle.gsl_types.specs.Known.{AreStructs, IsSound}
use Rattle.gsl_types.specs.declared.ty.Direction.{Direction}
use Rattle.gsl_types.specs.declared.ty.Ty.{Ty}
use Rattle.gsl_tree.specs.declared.unit.Block.{Block}
use Rattle.gsl_tree.specs.declared.unit.BlockMember.{BlockMember}
use Rattle.gsl_tree.specs.declared.unit.GlobalVar.{GlobalVar}
use Rattle.gsl_tree.specs.declared.unit.Interface.{Interface}
use Rattle.gsl_tree.specs.declared.unit.Prototype.{Prototype}
use Rattle.gsl_tree.specs.Around.{Around, known_value}
use Rattle.gsl_tree.specs.WellTyped.{IsResult}
use Rattle.gsl_link_units.specs.Types.{new_number, retyped}
use Rattle.gsl_link_units.specs.Declarations.{retyped_param}
use Rattle.gsl_link_whole.specs.Numbers.{Numbering}
use Rattle.gsl_link_law.specs.Placed.{ArePlaced}

-- ---- declarations that stand for others, whose types have old numbers of structs

-- a variable of the same type, `const` where the other is, and then of its value
pub record IsVariable (numbers : List ℕ) (old new : GlobalVar) : Type 0 where
  pub type : new.ty ≡ retyped numbers old.ty
  pub constant : new.constant ≡ old.constant
  pub known : known_value new.constant new.value ≡ known_value old.constant old.value

pub record IsMember (numbers : List ℕ) (old new : BlockMember) : Type 0 where
  pub type : new.ty ≡ retyped numbers old.ty
  pub readonly : new.readonly ≡ old.readonly
  pub writeonly : new.writeonly ≡ old.writeonly

pub record IsSameBlock (numbers : List ℕ) (old new : Block) : Type 0 where
  pub kind : new.kind ≡ old.kind
  pub members : (k : ℕ) (m : BlockMember) → slice_get old.members k ≡ Some m → (other : BlockMember) × (slice_get new.members k ≡ Some other) × IsMember numbers m other

pub record IsSameInterface (numbers : List ℕ) (old new : Interface) : Type 0 where
  pub type : new.ty ≡ retyped numbers old.ty
  pub output : new.output ≡ old.output

pub record IsHead (numbers : List ℕ) (old new : Prototype) : Type 0 where
  pub result : new.result ≡ retyped numbers old.result
  pub params : new.params ≡ map (retyped_param numbers) old.params

-- Under each new number stands what stands for the one of the old number.
abbrev pub Stands : {A : Type 0} → (A → A → Type 0) → List ℕ → List A → List A → Type 0
Stands {A} R numbers olds news = (k : ℕ) (old : A) → slice_get olds k ≡ Some old → (k < length numbers) × (new : A) × (slice_get news (new_number numbers k) ≡ Some new) × R old new

-- ---- what stands around expressions of a unit, and around them by the new numbers

pub record IsRenumbered (n : Numbering) (few many : Around) : Type 0 where
  pub stage : few.stage ≡ many.stage
  pub own : AreStructs few.structs
  pub known : AreStructs many.structs
  pub count : length n.structs ≡ length few.structs
  pub structs : ArePlaced few.structs many.structs n.structs
  pub globals : Stands (IsVariable n.structs) n.globals few.globals many.globals
  pub blocks : Stands (IsSameBlock n.structs) n.blocks few.blocks many.blocks
  pub interfaces : Stands (IsSameInterface n.structs) n.interfaces few.interfaces many.interfaces
  pub prototypes : Stands (IsHead n.structs) n.heads few.prototypes many.prototypes
  pub sizes : many.stage ≡ Compute → (k : ℕ) (size : List ℕ) → slice_get few.sizes k ≡ Some size → (j : ℕ) × (slice_get many.sizes j ≡ Some size)
  pub params : many.params ≡ map (retyped_param n.structs) few.params
  pub locals : many.locals ≡ map (retyped n.structs) few.locals

-- ---- types of declarations

-- The types of what is declared are types over the structs.
pub record HasTypes (around : Around) : Type 0 where
  pub globals : (k : ℕ) (g : GlobalVar) → slice_get around.globals k ≡ Some g → IsSound (length around.structs) g.ty
  pub blocks : (k : ℕ) (block : Block) → slice_get around.blocks k ≡ Some block → (j : ℕ) (m : BlockMember) → slice_get block.members j ≡ Some m → IsSound (length around.structs) m.ty
  pub interfaces : (k : ℕ) (i : Interface) → slice_get around.interfaces k ≡ Some i → IsSound (length around.structs) i.ty
  pub prototypes : (k : ℕ) (p : Prototype) → slice_get around.prototypes k ≡ Some p → IsResult around.structs p.result
  pub params : (k : ℕ) (param : Direction × Ty) → slice_get around.params k ≡ Some param → IsSound (length around.structs) param.1
  pub locals : (k : ℕ) (t : Ty) → slice_get around.locals k ≡ Some t → IsSound (length around.structs) t
