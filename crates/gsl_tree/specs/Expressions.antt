-- Which typed expressions are well typed: by cases on the tree. Nothing here knows of names, scopes or syntax.
use Rattle.std.specs.Prelude.{◌≡◌, ◌≢◌, ℕ, ◌-◌, ◌^◌, ◌≤◌, ◌⊎◌, Bool, true, false, not, ◌&&◌, ◌||◌, IsTrue, nat_eq, nat_lt, nat_le, List, [], ◌∷◌, map, length, replicate, slice_get, Option, Some, None}
use Rattle.std.specs.List.{AllByRecursion, list_all}
use Rattle.gsl_base.specs.declared.stage.Stage.TheVariants.{Compute}
use Rattle.gsl_types.specs.Conversions.{converts}
use Rattle.gsl_types.specs.Known.{IsSound, is_plain}
use Rattle.gsl_types.specs.declared.ty.Direction.{Direction}
use Rattle.gsl_types.specs.declared.ty.Direction.TheVariants.{In, Out, InOut}
use Rattle.gsl_types.specs.declared.ty.Member.{Member}
use Rattle.gsl_types.specs.declared.ty.Scalar.{Scalar}
use Rattle.gsl_types.specs.declared.ty.Scalar.TheVariants.{Bool as Boolean, Int, Uint}
use Rattle.gsl_types.specs.declared.ty.Ty.{Ty}
use Rattle.gsl_types.specs.declared.ty.Ty.TheOpen.{Ty-F}
use Rattle.gsl_types.specs.declared.ty.Ty.TheViews.{out-Ty}
use Rattle.gsl_types.specs.declared.ty.Ty.TheVariants as ty
use Rattle.gsl_types.specs.declared.ty.StructType.{StructType}
use Rattle.gsl_values.specs.declared.value.Value.{Value}
use Rattle.gsl_values.specs.declared.lane.Lanes.{Lanes}
use Rattle.gsl_values.specs.declared.op.UnaryOp.{UnaryOp}
use Rattle.gsl_values.specs.declared.op.BinaryOp.{BinaryOp}
use Rattle.gsl_values.specs.declared.function.Builtin.{Builtin}
use Rattle.gsl_values.specs.Vectors.{IsLanes, components as picked}
use Rattle.gsl_tree.specs.declared.expr.Expr.{Expr}
use Rattle.gsl_tree.specs.declared.expr.ExprKind.{ExprKind}
use Rattle.gsl_tree.specs.declared.expr.ExprKind.TheOpen.{ExprKind-F}
use Rattle.gsl_tree.specs.declared.folded.Folded.{Folded}
use Rattle.gsl_tree.specs.declared.folded.Folded.TheVariants.{Known, NotConstant, Free}
use Rattle.gsl_tree.specs.declared.unit.GlobalVar.{GlobalVar}
use Rattle.gsl_tree.specs.declared.unit.BlockMember.{BlockMember}
use Rattle.gsl_tree.specs.declared.unit.Interface.{Interface}
use Rattle.gsl_tree.specs.declared.unit.Prototype.{Prototype}
use Rattle.gsl_tree.specs.Values.{word_in, parts_in, is_value_of}
use Rattle.gsl_tree.specs.Constants.{constant_of}
use Rattle.gsl_tree.specs.Trees.{type_of, form_of, Throughout}
use Rattle.gsl_tree.specs.Shapes.{Shape, shape_of, of_shape, is_integer, unary_shape, binary_shape, may_update, is_equality, built_shape}
use Rattle.gsl_tree.specs.Around.{Around, uvec3, stage_var_type, stage_of, block_member, consts_of}
use Rattle.gsl_tree.specs.Weights.{height_of, most_high}
use Rattle.gsl_tree.specs.Paths.{is_unreadable, is_writable, is_whole_copy, is_small, is_aggregate, read_parts, written_parts}

abbrev pub boolean : Ty
boolean = ty.One Boolean

-- ---- types of values

abbrev pub is_value_layer : Ty-F Ty → Bool
is_value_layer Ty-F.Void = false
is_value_layer (Ty-F.Runtime element) = false
is_value_layer _ = true

-- A value may have this type: neither `void` nor a runtime array. (A runtime array is the part of nothing but a block.)
abbrev pub is_value_type : Ty → Bool
is_value_type t = is_value_layer (out-Ty t)

-- an `int` or `uint`
abbrev pub IsIndex : Ty → Type 0
IsIndex t = (t ≡ ty.One Int) ⊎ (t ≡ ty.One Uint)

-- ---- constants and names

-- each part of a size is 1 to 1,024
abbrev pub is_size : List ℕ → Bool
is_size parts = list_all (λ part. nat_le 1 part && nat_le part 1024) parts

abbrev pub StatesSize : Around → List ℕ → Type 0
StatesSize around size = (k : ℕ) × (slice_get around.sizes k ≡ Some size)

-- A literal is a scalar. The size of the work group is a constant that a declaration states.
abbrev pub IsConst : Around → Value → Ty → Type 0
IsConst around v t = IsTrue (is_value_of around.structs t v)
    × (((s : Scalar) × (t ≡ ty.One s)) ⊎ ((t ≡ uvec3) × (around.stage ≡ Compute) × StatesSize around (map word_in (parts_in v))))

abbrev pub HasGlobalType : List GlobalVar → ℕ → Ty → Type 0
HasGlobalType globals number t = (g : GlobalVar) × (slice_get globals number ≡ Some g) × (g.ty ≡ t)

abbrev pub HasParamType : List (Direction × Ty) → ℕ → Ty → Type 0
HasParamType params number t = (way : Direction) × (slice_get params number ≡ Some (way, t))

abbrev pub HasMemberType : Around → ℕ → ℕ → Ty → Type 0
HasMemberType around block number t = (member : BlockMember) × (block_member around block number ≡ Some member) × (member.ty ≡ t)

abbrev pub HasInterfaceType : List Interface → ℕ → Ty → Type 0
HasInterfaceType interfaces number t = (i : Interface) × (slice_get interfaces number ≡ Some i) × (i.ty ≡ t)

-- ---- members, indexes and swizzles

-- the member of a struct
abbrev pub HasPartType : List StructType → Ty → ℕ → Ty → Type 0
HasPartType structs base number t =
    (n : ℕ) × (struct : StructType) × (member : Member) × (base ≡ ty.Struct n) × (slice_get structs n ≡ Some struct) × (slice_get struct.members number ≡ Some member) × (member.ty ≡ t)

abbrev pub element_kind : Ty-F Ty → Option Ty
element_kind (Ty-F.Vector s n) = Some (ty.One s)
element_kind (Ty-F.Array element n) = Some element
element_kind (Ty-F.Runtime element) = Some element
element_kind _ = None

-- what an index into a type gives
abbrev pub element_of : Ty → Option Ty
element_of t = element_kind (out-Ty t)

abbrev pub is_in_range_kind : Ty-F Ty → Ty-F Ty → ℕ → Bool
is_in_range_kind (Ty-F.Vector s n) i word = nat_lt word n
is_in_range_kind (Ty-F.Array element n) i word = nat_lt word n
is_in_range_kind (Ty-F.Runtime element) (Ty-F.One Int) word = nat_lt word (2 ^ 31)
is_in_range_kind _ i word = true

abbrev pub in_range_by : Folded → Ty → Ty → Bool
in_range_by (Known v) base i = is_in_range_kind (out-Ty base) (out-Ty i) (word_in v)
in_range_by NotConstant base i = true
in_range_by Free base i = true

-- a constant index is in the range of its array or vector, or not negative where that is a runtime array
abbrev pub is_in_range : Around → Expr → Expr → Bool
is_in_range around a i = in_range_by (constant_of (consts_of around.globals) i) (type_of a) (type_of i)

-- The positions are those of components of a scalar or vector.
abbrev pub IsSwizzle : Ty → Lanes → Ty → Type 0
IsSwizzle base lanes t =
    (shape : Shape) × (shape_of base ≡ Some shape) × IsLanes lanes × IsTrue (list_all (λ position. nat_lt position shape.1) (picked lanes)) × (of_shape (shape.0, lanes.count) ≡ t)

abbrev pub has_length_kind : Ty-F Ty → Bool
has_length_kind (Ty-F.Vector s n) = true
has_length_kind (Ty-F.Array element n) = true
has_length_kind (Ty-F.Runtime element) = true
has_length_kind _ = false

-- ---- operators

abbrev pub IsUnary : UnaryOp → Ty → Ty → Type 0
IsUnary op a t = (x : Shape) × (y : Shape) × (shape_of a ≡ Some x) × (unary_shape op x ≡ Some y) × (of_shape y ≡ t)

abbrev pub IsOperation : BinaryOp → Ty → Ty → Ty → Type 0
IsOperation op a b t = (x : Shape) × (y : Shape) × (z : Shape) × (shape_of a ≡ Some x) × (shape_of b ≡ Some y) × (binary_shape op x y ≡ Some z) × (of_shape z ≡ t)

-- Values of one type are equal or not; arrays and structs only where they have few leaves.
abbrev pub IsEquality : Around → Ty → Ty → Ty → Type 0
IsEquality around a b t = (a ≡ b) × (t ≡ boolean) × IsTrue (is_value_type a) × IsTrue (not (is_aggregate a) || is_small around a)

abbrev pub IsBinary : Around → BinaryOp → Ty → Ty → Ty → Type 0
IsBinary around op a b t = (IsTrue (is_equality op) × IsEquality around a b t) ⊎ IsOperation op a b t

-- ---- calls and constructors

-- an argument fits its parameter, conversions of what goes in written out
abbrev pub IsArgument : Around → Direction → Ty → Expr → Type 0
IsArgument around In t arg = type_of arg ≡ t
IsArgument around Out t arg = ((type_of arg ≡ t) ⊎ IsTrue (converts t (type_of arg))) × IsTrue (is_writable around arg)
IsArgument around InOut t arg = (type_of arg ≡ t) × IsTrue (is_writable around arg)

abbrev pub AreArguments : Around → List (Direction × Ty) → List Expr → Type 0
AreArguments around [] [] = Unit {0}
AreArguments around [] (arg ∷ args) = ⊥
AreArguments around (param ∷ params) [] = ⊥
AreArguments around (param ∷ params) (arg ∷ args) = IsArgument around param.0 param.1 arg × AreArguments around params args

abbrev pub IsCall : Around → ℕ → List Expr → Ty → Type 0
IsCall around number args t = (p : Prototype) × (slice_get around.prototypes number ≡ Some p) × (p.result ≡ t) × AreArguments around p.params args

abbrev pub shapes_with : Option Shape → Option (List Shape) → Option (List Shape)
shapes_with (Some shape) (Some shapes) = Some (shape ∷ shapes)
shapes_with _ _ = None

-- the shapes of expressions that are all scalars or vectors
abbrev pub shapes_of : List Expr → Option (List Shape)
shapes_of [] = Some []
shapes_of (e ∷ es) = shapes_with (shape_of (type_of e)) (shapes_of es)

abbrev pub IsBuilt : Builtin → List Expr → Ty → Type 0
IsBuilt which args t = (shapes : List Shape) × (shape : Shape) × (shapes_of args ≡ Some shapes) × (built_shape which shapes ≡ Some shape) × (of_shape shape ≡ t)

-- Whether arguments in a row supply the components that are wanted: none too few, and no argument that is not used at all.
abbrev pub supplies : ℕ → List Shape → Bool
supplies wanted [] = nat_eq wanted 0
supplies wanted (shape ∷ shapes) = nat_lt 0 wanted && supplies (wanted - shape.1) shapes

abbrev pub is_one_scalar : List Shape → Bool
is_one_scalar (shape ∷ []) = nat_eq shape.1 1
is_one_scalar _ = false

-- the types of the members of a struct
abbrev pub member_types : List Member → List Ty
member_types [] = []
member_types (member ∷ members) = member.ty ∷ member_types members

abbrev pub types_of : List Expr → List Ty
types_of [] = []
types_of (e ∷ es) = type_of e ∷ types_of es

-- An array has one argument for each element, and a struct one for each member.
abbrev pub IsBuildKind : Around → Ty-F Ty → List Expr → Type 0
IsBuildKind around Ty-F.Void args = ⊥
IsBuildKind around (Ty-F.One s) args = (shape : Shape) × (shapes_of args ≡ Some (shape ∷ []))
IsBuildKind around (Ty-F.Vector s n) args = (shapes : List Shape) × (shapes_of args ≡ Some shapes) × IsTrue (is_one_scalar shapes || supplies n shapes)
IsBuildKind around (Ty-F.Array element n) args = types_of args ≡ replicate n element
IsBuildKind around (Ty-F.Runtime element) args = ⊥
IsBuildKind around (Ty-F.Struct number) args = (struct : StructType) × (slice_get around.structs number ≡ Some struct) × (types_of args ≡ member_types struct.members)

-- a constructor or initialiser list has at most so many parts
abbrev pub most_parts : ℕ
most_parts = 16383

-- a constructor or an initialiser list of a type, in which nothing is `void`
abbrev pub IsBuild : Around → List Expr → Ty → Type 0
IsBuild around args t = IsBuildKind around (out-Ty t) args × (length args ≤ most_parts) × IsSound (length around.structs) t × (height_of around.structs t ≤ most_high) × IsTrue (is_plain t)

abbrev pub last_type : List Expr → Option Ty
last_type [] = None
last_type (e ∷ []) = Some (type_of e)
last_type (e ∷ next ∷ es) = last_type (next ∷ es)

-- ---- one expression over its parts

-- By its kind, an expression over well typed parts has this type.
abbrev pub HasType : Around → ExprKind-F ExprKind Expr → Ty → Type 0
HasType around (ExprKind-F.Const v) t = IsConst around v t
HasType around (ExprKind-F.Local number) t = slice_get around.locals number ≡ Some t
HasType around (ExprKind-F.Global number) t = HasGlobalType around.globals number t
HasType around (ExprKind-F.Param number) t = HasParamType around.params number t
HasType around (ExprKind-F.BlockMember block number) t = HasMemberType around block number t
HasType around (ExprKind-F.Stage var) t = (stage_of var ≡ around.stage) × (stage_var_type var ≡ t)
HasType around (ExprKind-F.Interface number) t = HasInterfaceType around.interfaces number t
HasType around (ExprKind-F.Member a number) t = HasPartType around.structs (type_of a) number t
HasType around (ExprKind-F.Index a i) t = (element_of (type_of a) ≡ Some t) × IsIndex (type_of i) × IsTrue (is_in_range around a i)
HasType around (ExprKind-F.Swizzle a lanes) t = IsSwizzle (type_of a) lanes t
HasType around (ExprKind-F.Length a) t = (t ≡ ty.One Int) × IsTrue (has_length_kind (out-Ty (type_of a)))
HasType around (ExprKind-F.Unary op a) t = IsUnary op (type_of a) t
HasType around (ExprKind-F.Binary op a b) t = IsBinary around op (type_of a) (type_of b) t
HasType around (ExprKind-F.Logic op a b) t = (type_of a ≡ boolean) × (type_of b ≡ boolean) × (t ≡ boolean)
HasType around (ExprKind-F.Choose test a b) t = (type_of test ≡ boolean) × (type_of a ≡ t) × (type_of b ≡ t) × IsTrue (is_value_type t)
HasType around (ExprKind-F.Assign a b) t = (type_of a ≡ t) × (type_of b ≡ t) × IsTrue (is_value_type t) × IsTrue (is_writable around a)
HasType around (ExprKind-F.Update op a b) t = (type_of a ≡ t) × IsTrue (may_update op) × IsOperation op t (type_of b) t × IsTrue (is_writable around a)
HasType around (ExprKind-F.Step op a) t = (type_of a ≡ t) × ((shape : Shape) × (shape_of t ≡ Some shape) × IsTrue (is_integer shape.0)) × IsTrue (is_writable around a)
HasType around (ExprKind-F.Call number args) t = IsCall around number args t
HasType around (ExprKind-F.Built which args) t = IsBuilt which args t
HasType around (ExprKind-F.Build args) t = IsBuild around args t
HasType around (ExprKind-F.Convert a) t = IsTrue (converts (type_of a) t) × (type_of a ≢ t)
HasType around (ExprKind-F.Comma items) t = (2 ≤ length items) × (last_type items ≡ Some t)

abbrev pub is_runtime_layer : Ty-F Ty → Bool
is_runtime_layer (Ty-F.Runtime element) = true
is_runtime_layer _ = false

-- What is read may be read and is no runtime array, and is copied whole only where it has few leaves.
abbrev pub MayBeRead : Around → Expr → Type 0
MayBeRead around e = IsTrue (not (is_unreadable around e)) × IsTrue (not (is_runtime_layer (out-Ty (type_of e)))) × IsTrue (not (is_whole_copy e) || is_small around (type_of e))

-- what is written whole has few leaves
abbrev pub MayBeWritten : Around → Expr → Type 0
MayBeWritten around e = IsTrue (not (is_whole_copy e) || is_small around (type_of e))

-- An expression over its parts: it has the type of its kind, and its parts are read and written as they may be.
pub record IsNode (around : Around) (e : Expr) : Type 0 where
  pub type : HasType around (form_of e) (type_of e)
  pub reads : AllByRecursion (MayBeRead around) (read_parts around (form_of e))
  pub writes : AllByRecursion (MayBeWritten around) (written_parts around (form_of e))

-- An expression is well typed where it and each expression in it is one over its parts.
abbrev pub IsExpr : Around → Expr → Type 0
IsExpr around e = Throughout (IsNode around) e
