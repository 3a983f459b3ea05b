-- Where an expression leads in a variable or a value, in numbers, and what it is to lead to a part that is there, or to none (GLSL 4.50, 5.5, 5.7
-- and 5.8).
use Rattle.std.specs.Prelude.{◌≡◌, ℕ, ◌<◌, ◌≤◌, ◌⊎◌, Bool, true, false, List, [], ◌∷◌, ◌++◌, length, map, slice_get, Option, Some, None}
use Rattle.std.specs.List.{AllByRecursion}
use Rattle.gsl_types.specs.Known.{IsSound}
use Rattle.gsl_types.specs.declared.ty.StructType.{StructType}
use Rattle.gsl_types.specs.declared.ty.Ty.{Ty}
use Rattle.gsl_tree.specs.Expressions.{element_of}
use Rattle.gsl_tree.specs.Operations.{length_of}
use Rattle.gsl_tree.specs.Paths.{repeats}
use Rattle.gsl_tree.specs.Shapes.{Shape, shape_of}
use Rattle.gsl_tree.specs.WellTyped.{is_push}
use Rattle.gsl_tree.specs.declared.unit.Block.{Block as Declared}
use Rattle.gsl_typed_law.specs.Parts.{IsPart, LeadsTo}
use Rattle.gsl_meaning.specs.Accesses.{Access, Block, Loose, Root}
use Rattle.gsl_lower_law_places.specs.Components.{AreWithin, chosen}

-- What is picked of a scalar or vector of a shape: its components at some positions; or, where one is picked by a word, that one as often as there
-- are positions.
pub record Chosen : Type 0 where
  pub shape : Shape
  pub word : Option ℕ
  pub positions : List ℕ

-- What an expression leads to: the root of its access, and the numbers in front, which lead from there to what the words begin at, of a type; the words; and what is
-- picked where they lead. In a block all numbers that are in bounds stand in front.
pub record Trail : Type 0 where
  pub root : Root
  pub front : List ℕ
  pub ty : Ty
  pub words : List ℕ
  pub picks : Option Chosen

-- the positions that are picked
abbrev pub effective : Chosen → List ℕ
effective c = map (chosen c.word) c.positions

-- One of the numbers is an index that is not below the count of components or elements where it leads on.
abbrev pub LeadsOut : List StructType → Ty → List ℕ → Type 0
LeadsOut structs base [] = ⊥
LeadsOut structs base (number ∷ path) =
    ((element : Ty) × (element_of base ≡ Some element) × (length_of base ≤ number)) ⊎ ((part : Ty) × IsPart structs base number part × LeadsOut structs part path)

-- ---- components

-- The components at these positions, of a vector of so many to which numbers lead, are what an access picks: it is a swizzle of the vector, or a component, or a
-- swizzle of a component.
pub data ArePicked (count : ℕ) (numbers positions path : List ℕ) (picked : Option (List ℕ)) : Type 0 where
  swizzled : path ≡ numbers → picked ≡ Some positions → ArePicked count numbers positions path picked
  component : (k : ℕ) → 2 ≤ count → path ≡ numbers ++ k ∷ [] → picked ≡ None → positions ≡ k ∷ [] → ArePicked count numbers positions path picked
  repeated : (k : ℕ) (firsts : List ℕ) → 2 ≤ count → path ≡ numbers ++ k ∷ [] → picked ≡ Some firsts → AllByRecursion (λ first. first < 1) firsts → positions ≡ map (λ first. k) firsts → ArePicked count numbers positions path picked

-- Components that are there, of what is of a type, make what is of another.
pub record IsChosen (whole t : Ty) (numbers : List ℕ) (c : Chosen) (path : List ℕ) (picked : Option (List ℕ)) : Type 0 where
  pub of : shape_of whole ≡ Some c.shape
  pub gives : shape_of t ≡ Some (c.shape.0, length c.positions)
  pub some : 1 ≤ length c.positions
  pub within : AreWithin c.shape.1 c.word c.positions
  pub are : ArePicked c.shape.1 numbers (effective c) path picked

abbrev pub IsPicked : Ty → Ty → List ℕ → Option Chosen → List ℕ → Option (List ℕ) → Type 0
IsPicked whole t numbers None path picked = (whole ≡ t) × (path ≡ numbers) × (picked ≡ None)
IsPicked whole t numbers (Some c) path picked = IsChosen whole t numbers c path picked

-- An access begins at a variable that is in no block.
abbrev pub IsOfVariable : Root → Type 0
IsOfVariable (Loose v) = ⊥
IsOfVariable (Block number) = ⊥
IsOfVariable _ = Unit {0}

-- What may be stored to begins at a variable, or in a block of a program's that is none of push constants.
abbrev pub MayStore : List Declared → Root → Type 0
MayStore blocks (Loose v) = ⊥
MayStore blocks (Block number) = (block : Declared) → slice_get blocks number ≡ Some block → is_push block.kind ≡ false
MayStore blocks _ = Unit {0}

-- What may be written picks no component twice.
abbrev pub MayWrite : Bool → Option Chosen → Type 0
MayWrite writes None = Unit {0}
MayWrite writes (Some c) = writes ≡ true → repeats c.positions ≡ false

-- A trail leads to a part of a type that is there, and is that of an access. What may be written begins where may be stored.
pub record IsInside (structs : List StructType) (blocks : List Declared) (writes : Bool) (t : Ty) (a : Access) (l : Trail) : Type 0 where
  pub begins : a.root ≡ l.root
  pub whole : Ty
  pub sound : IsSound (length structs) whole
  pub leads : LeadsTo structs l.ty l.words whole
  pub picks : IsPicked whole t (l.front ++ l.words) l.picks a.path a.picked
  pub may : MayWrite writes l.picks
  pub named : writes ≡ true → MayStore blocks l.root

-- ---- out of bounds

-- Positions are those of components of a shape; where a component is picked by a word, each is the first of that component.
abbrev pub ArePositions : ℕ → Option ℕ → List ℕ → Type 0
ArePositions count None positions = AllByRecursion (λ position. position < count) positions
ArePositions count (Some word) positions = AllByRecursion (λ position. position < 1) positions

-- The words lead to a vector, and the component that is picked by a word is not there.
pub record LacksComponent (structs : List StructType) (ty : Ty) (words : List ℕ) (c : Chosen) : Type 0 where
  pub whole : Ty
  pub sound : IsSound (length structs) whole
  pub leads : LeadsTo structs ty words whole
  pub of : shape_of whole ≡ Some c.shape
  pub word : ℕ
  pub is : c.word ≡ Some word
  pub several : 2 ≤ c.shape.1
  pub outside : c.shape.1 ≤ word

-- Components would make what is of a type, but are not there.
pub record IsMissing (structs : List StructType) (ty t : Ty) (words : List ℕ) (c : Chosen) : Type 0 where
  pub gives : shape_of t ≡ Some (c.shape.0, length c.positions)
  pub some : 1 ≤ length c.positions
  pub within : ArePositions c.shape.1 c.word c.positions
  pub out : LeadsOut structs ty words ⊎ LacksComponent structs ty words c

abbrev pub IsOut : List StructType → Ty → Ty → List ℕ → Option Chosen → Type 0
IsOut structs ty t words None = LeadsOut structs ty words
IsOut structs ty t words (Some c) = IsMissing structs ty t words c

-- A trail would lead to a part of a type that is not there.
pub record IsOutside (structs : List StructType) (blocks : List Declared) (writes : Bool) (t : Ty) (l : Trail) : Type 0 where
  pub out : IsOut structs l.ty t l.words l.picks
  pub may : MayWrite writes l.picks
  pub named : writes ≡ true → MayStore blocks l.root
