-- Variables and their parts, as expressions name them: what is read there and what is stored (GLSL 4.50, 5.5, 5.7 and 5.8).
use Rattle.std.specs.Prelude.{ℕ, Bool, true, false, List, [], ◌∷◌, ◌++◌, map, set, length, slice_index, slice_index_or, Option, Some, None, if◌then◌else◌}
use Rattle.gsl_types.specs.declared.ty.Ty.{Ty}
use Rattle.gsl_types.specs.declared.ty.Ty.TheOpen.{Ty-F}
use Rattle.gsl_types.specs.declared.ty.Scalar.{Scalar}
use Rattle.gsl_types.specs.declared.ty.StructType.{StructType}
use Rattle.gsl_types.specs.Structs.{Meaning, meaning}
use Rattle.gsl_values.specs.declared.value.Value.{Value}
use Rattle.gsl_values.specs.declared.value.Value.TheVariants.{Word, Many}
use Rattle.gsl_tree.specs.Operations.{converted, value_at, with_value_at}
use Rattle.gsl_tree.specs.Values.{components_in, of_components, parts_in, word_in}
use Rattle.gsl_meaning.specs.State.{State}

-- What an access begins at: a variable by its number, or a value that is in none.
pub data Root : Type 0 where
  Global : (number : ℕ) → Root
  Block : (number : ℕ) → Root
  Interface : (number : ℕ) → Root
  Param : (number : ℕ) → Root
  Local : (number : ℕ) → Root
  Loose : (value : Value) → Root

-- A root, the numbers of the members, elements and components that lead to a part of it, and of that part, where it is swizzled, the
-- positions that are picked.
pub record Access : Type 0 where
  pub root : Root
  pub path : List ℕ
  pub picked : Option (List ℕ)

abbrev pub whole : Root → Access
whole root = record { root = root; path = []; picked = None }

-- ---- parts of parts

abbrev pub member_of : Access → ℕ → Access
member_of access number = record access { path = access.path ++ number ∷ [] }

abbrev pub index_in : Access → Option (List ℕ) → ℕ → Access
index_in access None index = record access { path = access.path ++ index ∷ [] }
index_in access (Some positions) index = record access { picked = Some (slice_index positions index ∷ []) }

-- The part at an index. Of a swizzle it picks the one component at that position; a swizzle of a scalar has no part that a path could lead to.
abbrev pub index_of : Access → ℕ → Access
index_of access index = index_in access access.picked index

-- a swizzle of a swizzle picks of the positions that are picked
abbrev pub picked_of : Option (List ℕ) → List ℕ → List ℕ
picked_of None positions = positions
picked_of (Some before) positions = map (slice_index before) positions

abbrev pub swizzle_of : Access → List ℕ → Access
swizzle_of access positions = record access { picked = Some (picked_of access.picked positions) }

-- ---- what is read

abbrev pub nothing : Value
nothing = Many []

abbrev pub root_value : Root → State → Value
root_value (Global number) state = slice_index_or state.globals number nothing
root_value (Block number) state = slice_index_or state.blocks number nothing
root_value (Interface number) state = slice_index_or state.interfaces number nothing
root_value (Param number) state = slice_index_or state.params number nothing
root_value (Local number) state = slice_index_or state.locals number nothing
root_value (Loose value) state = value

abbrev pub pick : Option (List ℕ) → Value → Value
pick None v = v
pick (Some positions) v = of_components (map (slice_index (components_in v)) positions)

-- the words that stand there
abbrev pub found : Access → State → Value
found access state = pick access.picked (value_at (root_value access.root state) access.path)

-- how many parts an index may name
abbrev pub count_parts : Option (List ℕ) → Value → ℕ
count_parts None v = length (parts_in v)
count_parts (Some positions) v = length positions

abbrev pub parts_at : Access → State → ℕ
parts_at access state = count_parts access.picked (value_at (root_value access.root state) access.path)

-- ---- `bool` leaves of blocks

abbrev pub told_scalar : Scalar → Value → Value
told_scalar s v = Word (converted s (word_in v))

abbrev pub told_kind : Ty-F (Value → Value) → Value → Value
told_kind Ty-F.Void v = v
told_kind (Ty-F.One s) v = told_scalar s v
told_kind (Ty-F.Vector s n) v = Many (map (told_scalar s) (parts_in v))
told_kind (Ty-F.Array element n) v = Many (map element (parts_in v))
told_kind (Ty-F.Runtime element) v = Many (map element (parts_in v))
told_kind (Ty-F.Struct number) v = v

abbrev pub each_told : List (List ℕ × (Value → Value)) → List Value → List Value
each_told (member ∷ members) (v ∷ vs) = member.1 v ∷ each_told members vs
each_told _ _ = []

abbrev pub told_meaning : Meaning (Value → Value)
told_meaning = record { kind = told_kind; struct = λ name members v. Many (each_told members (parts_in v)); none = λ v. v }

-- The value of a type that the words of its leaves tell: a word of a `bool` that is not 0 is true.
abbrev pub told : List StructType → Ty → Value → Value
told structs ty = meaning told_meaning structs ty

abbrev pub is_block : Root → Bool
is_block (Block number) = true
is_block _ = false

-- the value that an access of a type reads
abbrev pub read : List StructType → Ty → Access → State → Value
read structs ty access state = if is_block access.root then told structs ty (found access state) else found access state

-- ---- what is stored

abbrev pub put_each : List ℕ → List ℕ → List ℕ → List ℕ
put_each (position ∷ positions) (word ∷ words) old = put_each positions words (set old position word)
put_each _ _ old = old

-- a value with other components at the positions that are picked
abbrev pub with_picked : Option (List ℕ) → Value → Value → Value
with_picked None old v = v
with_picked (Some positions) old v = of_components (put_each positions (components_in v) (components_in old))

abbrev pub with_root : Root → Value → State → State
with_root (Global number) v state = record state { globals = set state.globals number v }
with_root (Block number) v state = record state { blocks = set state.blocks number v }
with_root (Interface number) v state = record state { interfaces = set state.interfaces number v }
with_root (Param number) v state = record state { params = set state.params number v }
with_root (Local number) v state = record state { locals = set state.locals number v }
with_root (Loose value) v state = state

abbrev pub stored_in : Value → Access → Value → Value
stored_in old access v = with_value_at old access.path (with_picked access.picked (value_at old access.path) v)

-- the state with a value stored where an access leads
abbrev pub stored : Access → Value → State → State
stored access v state = with_root access.root (stored_in (root_value access.root state) access v) state
