-- Operands from left to right, each of which waits where a later one has labels.
use Rattle.std.specs.Prelude.{◌≡◌, true, ℕ, ◌+◌, ◌≤◌, ◌⊎◌, List, [], ◌∷◌, ◌++◌, Some, length, map}
use Rattle.std.specs.List.{AllByRecursion}
use Rattle.gsl_tree.specs.Shapes.{Shape}
use Rattle.gsl_words.specs.declared.module.Module.{Module}
use Rattle.gsl_valid.specs.Ids.{defined}
use Rattle.gsl_valid.specs.Kinds as kinds
use Rattle.gsl_valid.specs.Kinds.{shape_of, value_of}
use Rattle.gsl_valid.specs.Types.{defined_as, outside_of}
use Rattle.gsl_spv.specs.Sections.{Sections}
use Rattle.gsl_lower_holders.specs.Flow.{Flow}
use Rattle.gsl_lower_expr.specs.Parts.{Lower, any_splits, shape_or}
use Rattle.gsl_fitting.specs.Fits.{Frame}
use Rattle.gsl_fitting_flow.specs.Flowing.{IsOf, IsTypeFor, asked_if}
use Rattle.gsl_fitting_expr.specs.Evaluating.{Evaluates, IsPlain}

-- For each operand the id of its type, and the types of the holders that it takes.
abbrev pub Row : Type 0
Row = List (ℕ × List ℕ)

-- the types of the operands
abbrev pub types_in : Row → List ℕ
types_in row = map (λ (one : ℕ × List ℕ). one.0) row

-- the types of the holders that operands take together: where a later one has labels, one takes a holder to wait in
abbrev pub asked_in : List Lower → Row → List ℕ
asked_in [] row = []
asked_in (e ∷ es) [] = []
asked_in (e ∷ es) (one ∷ row) = one.1 ++ (asked_if (any_splits es) one.0 ++ asked_in es row)

-- of those that are evaluated each in its turn, and none of which waits
abbrev pub asked_in_turn : Row → List ℕ
asked_in_turn [] = []
asked_in_turn (one ∷ row) = one.1 ++ asked_in_turn row

-- the type of the last one
abbrev pub last_type : ℕ → Row → ℕ
last_type type [] = type
last_type type (one ∷ row) = last_type one.0 row

-- how many components scalars and vectors have in a row
abbrev pub components_of : List Lower → ℕ
components_of [] = 0
components_of (e ∷ es) = (shape_or e.ty).1 + components_of es

-- They have as many components as a shape, or one for all of them.
abbrev pub Fill : Shape → List Lower → Type 0
Fill shape es = (shape.1 ≤ components_of es) ⊎ (components_of es ≡ 1)

-- An array has so many elements of one type, and a struct members of these types.
abbrev pub HasParts : Module → List ℕ → kinds.Shape → Type 0
HasParts m types (kinds.OfArray element count) = (value_of (defined_as m count) ≡ Some (length types)) × AllByRecursion (λ type. type ≡ element) types
HasParts m types (kinds.OfStruct id members) = types ≡ members
HasParts m types _ = ⊥

-- A type that is declared is that of an array or struct with parts of these types.
pub record IsMadeOf (m : Module) (types : List ℕ) (type : ℕ) : Type 0 where
  pub declared : defined (outside_of m) type ≡ true
  pub parts : HasParts m types (shape_of (defined_as m type))

module _ (whole : Sections) (main : ℕ) (local_size : List ℕ) (rank : ℕ → ℕ) (f : Frame) where
  -- Each operand gives a value of its type.
  abbrev pub EvaluateEach : Flow → ℕ → List Lower → Row → Type 0
  EvaluateEach s deep [] [] = Unit {0}
  EvaluateEach s deep [] (one ∷ row) = ⊥
  EvaluateEach s deep (e ∷ es) [] = ⊥
  EvaluateEach s deep (e ∷ es) (one ∷ row) = Evaluates whole main local_size rank f s one.1 deep e.traits.splits one.0 e.value × EvaluateEach s deep es row

  -- These are the ids of their types.
  abbrev pub HaveTypes : Flow → List Lower → Row → Type 0
  HaveTypes s [] row = Unit {0}
  HaveTypes s (e ∷ es) [] = Unit {0}
  HaveTypes s (e ∷ es) (one ∷ row) = IsTypeFor whole main local_size rank f s.place e.ty one.0 × HaveTypes s es row

  -- They are scalars and vectors.
  abbrev pub ArePlain : List Lower → Row → Type 0
  ArePlain [] row = Unit {0}
  ArePlain (e ∷ es) [] = Unit {0}
  ArePlain (e ∷ es) (one ∷ row) = IsPlain whole main local_size rank f (shape_or e.ty) one.0 × ArePlain es row

  -- Ids stand for values of these types.
  abbrev pub AreOf : List ℕ → Row → List ℕ → Type 0
  AreOf given [] [] = Unit {0}
  AreOf given [] (id ∷ ids) = ⊥
  AreOf given (one ∷ row) [] = ⊥
  AreOf given (one ∷ row) (id ∷ ids) = IsOf whole main local_size rank f given one.0 id × AreOf given row ids
