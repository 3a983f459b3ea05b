-- What expressions of one kind each are lowered to, over what their parts are lowered to (GLSL 4.50, chapter 5 and 6.1).
use Rattle.std.specs.Prelude.{ℕ, Bool, true, false, not, ◌==◌, ◌||◌, if◌then◌else◌, List, [], ◌∷◌, ◌++◌, Option, Some, None, unwrap_or}
use Rattle.gsl_instr.specs.declared.op.TheConstants as op
use Rattle.gsl_instr.specs.declared.enumerant.storage_class.TheConstants as storage_class
use Rattle.gsl_types.specs.declared.ty.Scalar.{Scalar}
use Rattle.gsl_types.specs.declared.ty.Scalar.TheVariants.{Bool as Boolean, Int, Uint}
use Rattle.gsl_types.specs.declared.ty.StructType.{StructType}
use Rattle.gsl_types.specs.declared.ty.Ty.{Ty}
use Rattle.gsl_types.specs.declared.ty.Ty.TheVariants as ty
use Rattle.gsl_values.specs.Vectors.{components as positions_of}
use Rattle.gsl_values.specs.declared.function.Builtin.{Builtin}
use Rattle.gsl_values.specs.declared.lane.Lanes.{Lanes}
use Rattle.gsl_values.specs.declared.op.BinaryOp.{BinaryOp}
use Rattle.gsl_values.specs.declared.value.Value.{Value}
use Rattle.gsl_tree.specs.Operations.{has_fixed_length, is_postfix, length_of}
use Rattle.gsl_tree.specs.Shapes.{Shape, shape_of}
use Rattle.gsl_tree.specs.Values.{components_in, word_in}
use Rattle.gsl_tree.specs.declared.expr.LogicOp.{LogicOp}
use Rattle.gsl_tree.specs.declared.expr.StageVar.{StageVar}
use Rattle.gsl_tree.specs.declared.expr.StageVar.TheVariants as stage
use Rattle.gsl_tree.specs.declared.expr.StepOp.{StepOp}
use Rattle.gsl_tree.specs.declared.unit.Interface.{Interface}
use Rattle.gsl_lower_values.specs.Building as steps
use Rattle.gsl_lower_values.specs.Builtins.{called}
use Rattle.gsl_lower_values.specs.Constructors.{built, operand}
use Rattle.gsl_lower_values.specs.Operators as operators
use Rattle.gsl_lower_values.specs.Types as types
use Rattle.gsl_lower_values.specs.declared.operand.Operand.{Operand}
use Rattle.gsl_lower_places.specs.declared.reached.Base.{Base}
use Rattle.gsl_lower_places.specs.declared.reached.Base.TheVariants.{Variable, Value as Loose}
use Rattle.gsl_lower_places.specs.declared.reached.Part.{Part}
use Rattle.gsl_lower_places.specs.declared.reached.Part.TheVariants.{Fixed, By}
use Rattle.gsl_lower_places.specs.declared.reached.Reached.{Reached}
use Rattle.gsl_lower_places.specs.Reached.{component_at, is_block_class, loose, part_of, swizzled, whole}
use Rattle.gsl_lower_places.specs.Reading.{extracted, pointer, read}
use Rattle.gsl_lower_places.specs.Writing.{stored}
use Rattle.gsl_lower_places.specs.Pointed.{pointed, to_renew}
use Rattle.gsl_lower_leaves.specs.Leaves.{leaves_of}
use Rattle.gsl_lower_leaves.specs.Copies.{compared_whole, read_whole, store_whole}
use Rattle.gsl_lower_leaves.specs.declared.leaf.Leaf.{Leaf}
use Rattle.gsl_lower_holders.specs.declared.place.FlowPlace.{FlowPlace}
use Rattle.gsl_lower_traits.specs.declared.traits.Traits.{Traits}
use Rattle.gsl_lower_expr.specs.declared.updates.Kept.{Kept}
use Rattle.gsl_lower_holders.specs.Ways.{begin_choice, begin_short, join, other_way}
use Rattle.gsl_lower_traits.specs.Traits.{Known, is_selected, is_short, spills}
use Rattle.gsl_lower_holders.specs.Flow.{Emit, ◌>>=◌, given, giving_here, lift, putting_here, told, type_id}
use Rattle.gsl_lower_holders.specs.Waiting.{fetch, fetch_reached, hold, hold_reached, holder, keep}

-- What an expression is lowered to: as something that is read or stored, and as the id of its value; and the count that `.length()` gives
-- of a runtime array. Beside that its type, and what is known of it before.
pub record Lower : Type 0 where
  pub ty : Ty
  pub traits : Traits
  pub reach : Emit Reached
  pub value : Emit ℕ
  pub length : Emit ℕ

abbrev pub known_of : Lower → Known
known_of e = record { ty = e.ty; traits = e.traits }

abbrev pub shape_or : Ty → Shape
shape_or t = unwrap_or (shape_of t) (Int, 1)

abbrev pub of_type : Lower → ℕ → Operand
of_type e id = operand (shape_or e.ty) id

-- ---- what is read and stored whole

-- from a block leaf by leaf, by way of a holder
abbrev pub read_block : List StructType → Ty → ℕ → ℕ → List Part → Emit ℕ
read_block structs t id class parts = holder >>= (λ h. type_id t >>= (λ type. lift (read_whole id class parts h type (leaves_of structs t))))

abbrev pub read_own : Ty → ℕ → ℕ → List Part → Emit ℕ
read_own t id class parts = type_id t >>= (λ type. lift (pointer id class type parts) >>= (λ from. giving_here op.LOAD (from ∷ []) type))

abbrev pub read_loose : Ty → ℕ → List Part → Emit ℕ
read_loose t id parts = type_id t >>= (λ type. lift (extracted id type parts))

-- what is no scalar and no vector
abbrev pub read_composite : List StructType → Ty → Base → List Part → Emit ℕ
read_composite structs t (Variable id class) parts = if is_block_class class then read_block structs t id class parts else read_own t id class parts
read_composite structs t (Loose id of_whole) parts = read_loose t id parts

abbrev pub read_by : List StructType → Ty → Reached → Option Shape → Emit ℕ
read_by structs t r (Some shape) = lift (read shape r)
read_by structs t r None = read_composite structs t r.base r.path

-- the value of a type that is read
unfoldable pub reads : List StructType → Ty → Reached → Emit ℕ
reads structs t r = read_by structs t r (shape_of t)

abbrev pub store_block : List StructType → Ty → ℕ → ℕ → List Part → ℕ → steps.Step (Unit {0})
store_block structs t id class parts v = store_whole id class parts v (leaves_of structs t)

abbrev pub store_own : Ty → ℕ → ℕ → List Part → ℕ → Emit (Unit {0})
store_own t id class parts v = type_id t >>= (λ type. lift (pointer id class type parts) >>= (λ to. putting_here op.STORE (to ∷ v ∷ [])))

abbrev pub store_composite : List StructType → Ty → Base → List Part → ℕ → Emit (Unit {0})
store_composite structs t (Variable id class) parts v = if is_block_class class then lift (store_block structs t id class parts v) else store_own t id class parts v
store_composite structs t (Loose id of_whole) parts v = given tt

abbrev pub store_by : List StructType → Ty → Reached → ℕ → Option Shape → Emit (Unit {0})
store_by structs t r v (Some shape) = lift (stored shape r v)
store_by structs t r v None = store_composite structs t r.base r.path v

-- a value of a type is stored
unfoldable pub stores : List StructType → Ty → Reached → ℕ → Emit (Unit {0})
stores structs t r v = store_by structs t r v (shape_of t)

-- ---- indexes are tested before what may end the invocation or go on for ever

-- what an expression leads to, down to a leaf
abbrev pub leaf_of : Reached → Leaf → Reached
leaf_of r one = record { base = r.base; path = r.path ++ one.path; picked = None }

abbrev pub dropped : steps.Step ℕ → steps.Step (Unit {0})
dropped step = steps.◌>>=◌ step (λ v. steps.given tt)

-- In a variable a pointer is enough, which is allowed where nothing may be read.
abbrev pub tested : Base → Shape → Reached → steps.Step (Unit {0})
tested (Variable id class) shape r = steps.◌>>=◌ (pointed shape r) (λ to. steps.given tt)
tested (Loose id of_whole) shape r = dropped (read shape r)

abbrev pub first_leaf : Reached → List Leaf → steps.Step (Unit {0})
first_leaf r [] = steps.given tt
first_leaf r (one ∷ more) = tested r.base one.shape (leaf_of r one)

abbrev pub probe_by : List StructType → Ty → Reached → Option Shape → steps.Step (Unit {0})
probe_by structs t r (Some shape) = tested r.base shape r
probe_by structs t r None = first_leaf r (leaves_of structs t)

-- a leaf is reached where what follows has calls, so that an index that is out of bounds strays here
unfoldable pub probe : List StructType → Bool → Ty → Reached → steps.Step (Unit {0})
probe structs false t r = steps.given tt
probe structs true t r = probe_by structs t r (shape_of t)

-- ---- names, and parts of what is named

-- an expression that gives a value, which is in no variable
abbrev pub loose_value : Ty → ℕ → Emit Reached
loose_value t id = type_id t >>= (λ type. given (loose id type))

abbrev pub accessed : List StructType → Ty → Emit Reached → Emit ℕ
accessed structs t reach = reach >>= reads structs t

abbrev pub named : (FlowPlace → List ℕ) → ℕ → ℕ → Emit Reached
named list class number = told list number >>= (λ id. given (whole (Variable id class)))

abbrev pub in_block : ℕ → ℕ → Emit Reached
in_block block number = told (λ place. place.blocks) block >>= (λ id. told (λ place. place.classes) block >>= (λ class. given (part_of (whole (Variable id class)) (Fixed number))))

abbrev pub counted_in : ℕ → ℕ → steps.Step ℕ
counted_in id number =
    steps.◌>>=◌ (steps.◌>>=◌ (types.type_of (Uint, 1)) (steps.giving op.ARRAY_LENGTH (id ∷ number ∷ []))) (λ count. operators.converted Int (operand (Uint, 1) count))

abbrev pub block_length : ℕ → ℕ → Emit ℕ
block_length block number = told (λ place. place.blocks) block >>= (λ id. lift (counted_in id number))

abbrev pub class_by : Bool → ℕ
class_by true = storage_class.OUTPUT
class_by false = storage_class.INPUT

abbrev pub interface_class : Option Interface → ℕ
interface_class None = storage_class.INPUT
interface_class (Some i) = class_by i.output

abbrev pub stage_number : StageVar → ℕ
stage_number stage.NumWorkGroups = 0
stage_number stage.WorkGroupId = 1
stage_number stage.LocalInvocationId = 2
stage_number stage.GlobalInvocationId = 3
stage_number stage.LocalInvocationIndex = 4
stage_number stage.VertexIndex = 5
stage_number stage.InstanceIndex = 6

abbrev pub stage_value : StageVar → Ty → Emit ℕ
stage_value var t = told (λ place. place.stage_vars) (stage_number var) >>= (λ id. lift (read (shape_or t) (whole (Variable id storage_class.INPUT))))

abbrev pub constant_by : Shape → Value → steps.Step ℕ
constant_by shape v = if shape.1 == 1 then types.scalar_constant shape.0 (word_in v) else types.vector_constant shape (components_in v)

-- ---- indexes

abbrev pub spilled : List StructType → Bool → Ty → Reached → Emit Reached
spilled structs false t r = given r
spilled structs true t r = reads structs t r >>= keep >>= (λ h. given (whole (Variable h storage_class.FUNCTION)))

abbrev pub scalar_of : Ty → Scalar
scalar_of t = (shape_or t).0

abbrev pub index_by : Lower → Option ℕ → Emit Part
index_by i (Some number) = given (Fixed number)
index_by i None = i.value >>= (λ id. given (By (scalar_of i.ty) id))

abbrev pub step_into : Option Shape → Part → Reached → steps.Step Reached
step_into (Some shape) part r = component_at shape part r
step_into None part r = steps.given (part_of r part)

-- what is indexed, before the index: it waits where that has labels
abbrev pub before_index : List StructType → Known → Traits → Reached → Emit Reached
before_index structs a i r = spilled structs (spills a i) a.ty r >>= (λ x. lift (probe structs i.calls a.ty x) >>= (λ done. hold_reached i.splits x))

abbrev pub after_index : Ty → Traits → Reached → Part → Emit Reached
after_index t i kept part = fetch_reached i.splits kept >>= (λ to. lift (step_into (shape_of t) part to))

abbrev pub indexed : List StructType → Lower → Lower → Emit Reached
indexed structs a i = a.reach >>= before_index structs (known_of a) i.traits >>= (λ kept. index_by i i.traits.literal >>= after_index a.ty i.traits kept)

abbrev pub swizzled_by : Lower → Lanes → Emit Reached
swizzled_by a lanes = a.reach >>= (λ r. given (swizzled (shape_or a.ty) (positions_of lanes) r))

abbrev pub member : Lower → ℕ → Emit Reached
member a number = a.reach >>= (λ r. given (part_of r (Fixed number)))

-- ---- operands

abbrev pub any_splits : List Lower → Bool
any_splits [] = false
any_splits (e ∷ es) = e.traits.splits || any_splits es

-- values from left to right, each of which waits where a later one has labels
unfoldable pub keeps : List Lower → Emit (List ℕ)
keeps [] = given []
keeps (e ∷ es) = e.value >>= (λ x. hold (any_splits es) x >>= (λ kept. keeps es >>= (λ others. given (kept ∷ others))))

-- these values again
unfoldable pub fetches : List Lower → List ℕ → Emit (List ℕ)
fetches (e ∷ es) (kept ∷ others) = fetch (any_splits es) e.ty kept >>= (λ x. fetches es others >>= (λ more. given (x ∷ more)))
fetches _ _ = given []

abbrev pub operands : List Lower → Emit (List ℕ)
operands es = keeps es >>= fetches es

abbrev pub typed : List Lower → List ℕ → List Operand
typed (e ∷ es) (id ∷ ids) = of_type e id ∷ typed es ids
typed _ _ = []

-- two operands: the first waits where the second has labels
abbrev pub of_two : Lower → Lower → (ℕ → ℕ → Emit ℕ) → Emit ℕ
of_two a b go = a.value >>= (λ x. hold b.traits.splits x >>= (λ kept. b.value >>= (λ y. fetch b.traits.splits a.ty kept >>= (λ again. go again y))))

-- the operator on two values of types
abbrev pub binary_by : List StructType → BinaryOp → Ty → Ty → ℕ → ℕ → Option Shape → steps.Step ℕ
binary_by structs which left right x y (Some shape) = operators.binary which (operand (shape_or left) x) (operand (shape_or right) y)
binary_by structs which left right x y None = compared_whole which x y (leaves_of structs left)

abbrev pub binary_of : List StructType → BinaryOp → Ty → Ty → ℕ → ℕ → steps.Step ℕ
binary_of structs which left right x y = binary_by structs which left right x y (shape_of left)

abbrev pub binary : List StructType → BinaryOp → Lower → Lower → Emit ℕ
binary structs which a b = of_two a b (λ x y. lift (binary_of structs which a.ty b.ty x y))

-- ---- `&&`, `||` and `?:`

abbrev pub short : LogicOp → Lower → Lower → Emit ℕ
short which a b = a.value >>= begin_short which >>= (λ f. b.value >>= join (ty.One Boolean) f)

abbrev pub both : LogicOp → Lower → Lower → Emit ℕ
both which a b = of_two a b (λ x y. lift (operators.logical which x y))

abbrev pub logical : LogicOp → Lower → Lower → Emit ℕ
logical which a b = if is_short which b.traits then short which a b else both which a b

-- one of two values, each evaluated in a block of its own
abbrev pub forked : Ty → Lower → Lower → Lower → Emit ℕ
forked t test a b = test.value >>= begin_choice >>= (λ f. a.value >>= other_way f >>= (λ done. b.value >>= join t f))

-- the condition, then both values, neither of which has labels
abbrev pub picked_one : Ty → Lower → Lower → Lower → Emit ℕ
picked_one t test a b = test.value >>= (λ x. a.value >>= (λ y. b.value >>= (λ z. lift (operators.selected (shape_or t) x y z))))

abbrev pub chosen : Ty → Lower → Lower → Lower → Emit ℕ
chosen t test a b = if is_selected t a.traits b.traits then picked_one t test a b else forked t test a b

-- ---- assignments

-- what is assigned to, before the right side
abbrev pub before_assign : List StructType → Ty → Traits → Reached → Emit Reached
before_assign structs t b r = lift (probe structs b.calls t r) >>= (λ done. hold_reached b.splits r)

abbrev pub after_assign : List StructType → Ty → Traits → Reached → ℕ → Emit ℕ
after_assign structs t b kept y = fetch_reached b.splits kept >>= (λ to. stores structs t to y >>= (λ done. given y))

abbrev pub assigned : List StructType → Lower → Lower → Emit ℕ
assigned structs a b = a.reach >>= before_assign structs a.ty b.traits >>= (λ kept. b.value >>= after_assign structs a.ty b.traits kept)

-- where nothing has to wait, one pointer serves to read and to store, but for several components
abbrev pub pointed_if : Bool → Shape → Reached → steps.Step Reached
pointed_if false shape r = steps.given r
pointed_if true shape r = to_renew shape r

-- `op=` reads the old value before the right side
unfoldable pub before_update : List StructType → Ty → Traits → Reached → Emit Kept
before_update structs t b r =
    lift (pointed_if (not b.splits) (shape_or t) r) >>= (λ to. reads structs t to >>= (λ old. hold b.splits old >>= (λ before. hold_reached b.splits to >>= (λ kept. given (record { old = before; to = kept })))))

unfoldable pub after_update : List StructType → BinaryOp → Ty → Ty → Traits → Kept → ℕ → Emit ℕ
after_update structs which t right b kept y =
    fetch b.splits t kept.old >>= (λ x. fetch_reached b.splits kept.to >>= (λ to.
    lift (operators.binary which (operand (shape_or t) x) (operand (shape_or right) y)) >>= (λ new. stores structs t to new >>= (λ done. given new))))

abbrev pub updated : List StructType → BinaryOp → Lower → Lower → Emit ℕ
updated structs which a b = a.reach >>= before_update structs a.ty b.traits >>= (λ kept. b.value >>= after_update structs which a.ty b.ty b.traits kept)

unfoldable pub stepped_at : List StructType → StepOp → Ty → Reached → Emit ℕ
stepped_at structs which t r =
    lift (pointed_if true (shape_or t) r) >>= (λ to. reads structs t to >>= (λ old. lift (operators.stepped which (operand (shape_or t) old)) >>= (λ new.
    stores structs t to new >>= (λ done. given (if is_postfix which then old else new)))))

abbrev pub stepped : List StructType → StepOp → Lower → Emit ℕ
stepped structs which a = a.reach >>= stepped_at structs which a.ty

-- ---- the rest

abbrev pub counted : Lower → Emit ℕ
counted a = if has_fixed_length a.ty then lift (types.scalar_constant Int (length_of a.ty)) else a.length

abbrev pub built_from : Ty → Option Shape → List ℕ → List Operand → Emit ℕ
built_from t (Some shape) ids args = lift (built shape args)
built_from t None ids args = type_id t >>= giving_here op.COMPOSITE_CONSTRUCT ids

abbrev pub constructed : Ty → List Lower → Emit ℕ
constructed t args = operands args >>= (λ ids. built_from t (shape_of t) ids (typed args ids))

abbrev pub called_of : Builtin → List Lower → Emit ℕ
called_of which args = operands args >>= (λ ids. lift (called which (typed args ids)))

-- each in its turn; the last is the value
unfoldable pub sequence : ℕ → List Lower → Emit ℕ
sequence last [] = given last
sequence last (e ∷ es) = e.value >>= (λ id. sequence id es)
