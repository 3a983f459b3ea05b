-- Leaves in the bytes of a block, and values that are filled from them and put into them (GLSL 4.50, 5.8; SPIR-V 1.0, 3.32.8).
use Rattle.std.specs.Prelude.{◌≡◌, ℕ, List, [], ◌∷◌, ◌++◌, length, map, Some}
use Rattle.gsl_base.specs.declared.input.Input.{Input}
use Rattle.gsl_words.specs.declared.module.Module.{Module}
use Rattle.gsl_values.specs.declared.value.Value.{Value}
use Rattle.gsl_tree.specs.Operations.{with_value_at}
use Rattle.gsl_tree.specs.Values.{components_in, of_components}
use Rattle.gsl_views.specs.Buffers.{put_words}
use Rattle.gsl_machine.specs.Memory.{bytes_of, words_at}
use Rattle.gsl_machine.specs.State.{InBlock, Pointer, State}
use Rattle.gsl_lower_places.specs.Reached.{stored_shape}
use Rattle.gsl_lower_places.specs.Reading.{number_in}
use Rattle.gsl_lower_places.specs.declared.reached.Part.{Part}
use Rattle.gsl_lower_places.specs.declared.reached.Part.TheVariants.{Fixed, By}
use Rattle.gsl_lower_leaves.specs.declared.leaf.Leaf.{Leaf}
use Rattle.gsl_lower_law.specs.Operands.{converted_value}
use Rattle.gsl_lower_law.specs.Values.{IsOf}
use Rattle.gsl_lower_law_leaves.specs.Equal.{leaf_in}
use Rattle.gsl_lower_law_picks.specs.Outside.{HasPart}
use Rattle.gsl_lower_law_places.specs.Leading.{LeadsTo}

-- the numbers that lead to a leaf
abbrev pub numbers_of : Leaf → List ℕ
numbers_of one = map number_in one.path

-- The numbers of parts are known.
abbrev pub AreFixed : List Part → Type 0
AreFixed [] = Unit {0}
AreFixed (Fixed number ∷ parts) = AreFixed parts
AreFixed (By s id ∷ parts) = ⊥

-- ---- leaves in bytes

-- In each state in which the variable of a block has so many bytes, words lead from a pointer to another.
abbrev pub LeadsIn : Module → Input → ℕ → ℕ → Pointer → List ℕ → Pointer → Type 0
LeadsIn m input variable size from words to = (state : State) (bytes : List ℕ) → bytes_of m input state variable ≡ Some bytes → length bytes ≡ size → LeadsTo m input state from words to

-- where a leaf lies: its offset in the bytes of its block, and its type in the module
pub record Place : Type 0 where
  pub offset : ℕ
  pub pointee : ℕ

-- A leaf of that to which words lead from a pointer lies at a place.
pub record Lies (m : Module) (input : Input) (variable size : ℕ) (from : Pointer) (words : List ℕ) (one : Leaf) (place : Place) : Type 0 where
  pub fixed : AreFixed one.path
  pub leads : LeadsIn m input variable size from (words ++ numbers_of one) (InBlock variable place.offset place.pointee)

-- Leaves lie at places, in their order.
abbrev pub LieEach : Module → Input → ℕ → ℕ → Pointer → List ℕ → List Leaf → List Place → Type 0
LieEach m input variable size from words [] [] = Unit {0}
LieEach m input variable size from words [] (place ∷ places) = ⊥
LieEach m input variable size from words (one ∷ more) [] = ⊥
LieEach m input variable size from words (one ∷ more) (place ∷ places) = Lies m input variable size from words one place × LieEach m input variable size from words more places

-- ---- out of a block

-- The words at the places of leaves are those of a value, as scalars and vectors that lie in a class.
abbrev pub ShowEach : Module → ℕ → List ℕ → Value → List Leaf → List Place → Type 0
ShowEach m class bytes v [] places = Unit {0}
ShowEach m class bytes v (one ∷ more) [] = ⊥
ShowEach m class bytes v (one ∷ more) (place ∷ places) =
    ((leaf_in v one ≡ of_components (words_at m place.offset place.pointee bytes)) × IsOf (stored_shape class one.shape) (leaf_in v one)) × ShowEach m class bytes v more places

-- a value with one leaf of another, by the scalar type of the leaf: a truth value is a number other than 0
abbrev pub with_leaf : Value → Value → Leaf → Value
with_leaf old v one = with_value_at old (numbers_of one) (converted_value one.shape.0 (leaf_in v one))

-- a value with the leaves of another, one after the other
abbrev pub filled : Value → Value → List Leaf → Value
filled old v [] = old
filled old v (one ∷ more) = filled (with_leaf old v one) v more

-- Each leaf has a place in the value that is filled.
abbrev pub Fits : Value → Value → List Leaf → Type 0
Fits old v [] = Unit {0}
Fits old v (one ∷ more) = HasPart old (numbers_of one) × Fits (with_leaf old v one) v more

-- ---- into a block

-- the bytes with the words of the leaves of a value put at their places, as they lie in a class
abbrev pub put_leaves : ℕ → Value → List Leaf → List Place → List ℕ → List ℕ
put_leaves class v (one ∷ more) (place ∷ places) bytes =
    put_leaves class v more places (put_words place.offset (components_in (converted_value (stored_shape class one.shape).0 (leaf_in v one))) bytes)
put_leaves class v _ _ bytes = bytes
