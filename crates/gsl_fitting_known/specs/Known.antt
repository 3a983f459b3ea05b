-- What the place and the module know for the body of a function.
use Rattle.std.specs.Prelude.{◌≡◌, ℕ, ◌<◌, Bool, true, false, not, List, [], replicate, slice_get, Option, Some, None}
use Rattle.gsl_instr.specs.declared.enumerant.storage_class.TheConstants as storage_class
use Rattle.gsl_types.specs.declared.ty.StructType.{StructType}
use Rattle.gsl_types.specs.declared.ty.Ty.{Ty}
use Rattle.gsl_types.specs.declared.ty.Ty.TheOpen.{Ty-F}
use Rattle.gsl_types.specs.declared.ty.Ty.TheViews.{out-Ty}
use Rattle.gsl_words.specs.declared.module.Module.{Module}
use Rattle.gsl_tree.specs.Around.{Around, block_member, is_writeonly, may_write_member}
use Rattle.gsl_tree.specs.Expressions.{HasGlobalType, HasMemberType, HasParamType, is_runtime_layer, member_types}
use Rattle.gsl_tree.specs.Shapes.{shape_of}
use Rattle.gsl_tree.specs.declared.expr.StageVar.{StageVar}
use Rattle.gsl_tree.specs.declared.unit.Interface.{Interface}
use Rattle.gsl_valid.specs.ConstantRules.{is_whole}
use Rattle.gsl_valid.specs.Kinds as kinds
use Rattle.gsl_valid.specs.LimitRules.{most_indexes}
use Rattle.gsl_valid.specs.MemoryRules.{is_moved}
use Rattle.gsl_valid.specs.Sections.{is_class}
use Rattle.gsl_valid.specs.Types.{defined_as}
use Rattle.gsl_spv.specs.Sections.{Sections}
use Rattle.gsl_lower_places.specs.Reached.{is_block_class}
use Rattle.gsl_lower_holders.specs.Flow.{Flow}
use Rattle.gsl_lower_holders.specs.declared.place.FlowPlace.{FlowPlace}
use Rattle.gsl_lower_expr.specs.Parts.{interface_class, shape_or, stage_number}
use Rattle.gsl_fitting.specs.Fits.{Frame}
use Rattle.gsl_fitting_types.specs.Making.{AreSorted, made}
use Rattle.gsl_fitting_places.specs.Leading.{IsValueType}
use Rattle.gsl_fitting_flow.specs.Flowing.{IsTypeFor}
use Rattle.gsl_fitting_rows.specs.Rows.{HasParts}
use Rattle.gsl_fitting_reaching.specs.Reached.{IsMember, IsVariable, May, Stands}
use Rattle.gsl_fitting_reads.specs.Moving.{both}
use Rattle.gsl_fitting_passed.specs.Arguments.{AreDifferent, IsResult}
use Rattle.gsl_fitting_kinds.specs.Lengths.{HasLength}
use Rattle.gsl_fitting_known.specs.Ids.{is_in_block, type_for, types_for}
use Rattle.gsl_fitting_known.specs.Lying.{Lies}

-- what may be done with an input, and with an output
abbrev pub may_interface : Bool → May
may_interface output = record { reads = true; stores = output }

-- what may be done with a member of a block
abbrev pub may_member : Around → ℕ → ℕ → May
may_member around block number = record { reads = not (is_writeonly (block_member around block number)); stores = may_write_member around block number }

abbrev pub types_of_members : Option StructType → List Ty
types_of_members None = []
types_of_members (Some of) = member_types of.members

-- the types of the parts that an array or a struct is built from
abbrev pub part_types : List StructType → Ty-F Ty → List Ty
part_types structs (Ty-F.Array element n) = replicate n element
part_types structs (Ty-F.Struct number) = types_of_members (slice_get structs number)
part_types structs layer = []

module _ (whole : Sections) (main : ℕ) (local_size : List ℕ) (rank : ℕ → ℕ) (f : Frame) (s : Flow) (structs : List StructType) where
  abbrev m : Module
  m = made whole main local_size rank f

  -- The type of what an expression gives has an id, which is declared.
  abbrev pub HasId : Ty → Type 0
  HasId t = IsResult whole main local_size rank f s t (type_for whole s.place t)

  -- A type stands for an array or a struct of the program outside blocks: its values may be built, copied and begun as zeros, and its parts
  -- stand for their types wherever it is.
  pub record IsWhole (t : Ty) (type : ℕ) : Type 0 where
    pub declared : IsValueType s.sections type
    pub fixed : is_runtime_layer (out-Ty t) ≡ false
    pub has_value : is_whole m type ≡ true
    pub moved : (class : ℕ) → is_block_class class ≡ false → is_moved m (record { class = class; pointee = type }) ≡ true
    pub built : HasParts m (types_for whole s.place (part_types structs (out-Ty t))) (kinds.shape_of (defined_as m type))
    pub room : ℕ
    pub small : room < most_indexes
    pub lies : (home : Option ℕ) → is_in_block home ≡ false → Lies whole main local_size rank f s.place structs home both room t type

  -- A name has a variable of a class, with what stands for its type.
  pub record IsNamed (class : ℕ) (may : May) (list : FlowPlace → List ℕ) (number : ℕ) (t : Ty) : Type 0 where
    pub room : ℕ
    pub type : ℕ
    pub is : (id : ℕ) → slice_get (list s.place) number ≡ Some id → IsVariable whole main local_size rank f may class type room id
    pub lies : Lies whole main local_size rank f s.place structs (Some class) may room t type

  -- So has a member of a block.
  pub record IsMemberNamed (may : May) (block number : ℕ) (t : Ty) : Type 0 where
    pub class : ℕ
    pub room : ℕ
    pub type : ℕ
    pub blocked : is_block_class class ≡ true
    pub is : (id other : ℕ) → slice_get s.place.blocks block ≡ Some id → slice_get s.place.classes block ≡ Some other → (other ≡ class) × IsMember whole main local_size rank f may class number type room id
    pub lies : Lies whole main local_size rank f s.place structs (Some class) may room t type

  -- A built-in variable is an input that may be read.
  pub record IsStage (var : StageVar) (t : Ty) : Type 0 where
    pub pointee : ℕ
    pub stands : Stands whole main local_size rank f (Some storage_class.INPUT) (Some (shape_or t)) pointee
    pub room : ℕ
    pub may : May
    pub reads : may.reads ≡ true
    pub is : (id : ℕ) → slice_get s.place.stage_vars (stage_number var) ≡ Some id → IsVariable whole main local_size rank f may storage_class.INPUT pointee room id

  -- What is known for the body of a function, where this stands around it: variables for its names, what stands for the arrays and structs that
  -- have ids, and that no two of its holders are the same.
  pub record Knows (around : Around) : Type 0 where
    pub sorted : AreSorted whole
    pub functions_own : is_class m.version storage_class.FUNCTION ≡ true
    pub apart : AreDifferent s.place.holders
    pub wholes : (t : Ty) → shape_of t ≡ None → IsTypeFor whole main local_size rank f s.place t (type_for whole s.place t) → IsWhole t (type_for whole s.place t)
    pub locals : (number : ℕ) (t : Ty) → slice_get around.locals number ≡ Some t → IsNamed storage_class.FUNCTION both (λ place. place.locals) number t
    pub params : (number : ℕ) (t : Ty) → HasParamType around.params number t → IsNamed storage_class.FUNCTION both (λ place. place.params) number t
    pub globals : (number : ℕ) (t : Ty) → HasGlobalType around.globals number t → IsNamed storage_class.PRIVATE both (λ place. place.globals) number t
    pub interfaces : (number : ℕ) (i : Interface) → slice_get around.interfaces number ≡ Some i → IsNamed (interface_class (Some i)) (may_interface i.output) (λ place. place.interfaces) number i.ty
    pub members : (block number : ℕ) (t : Ty) → HasMemberType around block number t → IsMemberNamed (may_member around block number) block number t
    pub lengths : (block number : ℕ) (t : Ty) → HasMemberType around block number t → is_runtime_layer (out-Ty t) ≡ true → (id : ℕ) → slice_get s.place.blocks block ≡ Some id → HasLength whole main local_size rank f number id
