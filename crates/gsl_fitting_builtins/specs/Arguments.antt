-- Arguments of built-in functions and constructors, and positions that are picked.
use Rattle.std.specs.Prelude.{◌≡◌, ℕ, ◌+◌, ◌<◌, ◌≤◌, ◌⊎◌, List, [], ◌∷◌}
use Rattle.std.specs.List.{AllByRecursion}
use Rattle.gsl_tree.specs.Shapes.{Shape}
use Rattle.gsl_spv.specs.Sections.{Sections}
use Rattle.gsl_lower_values.specs.declared.operand.Operand.{Operand}
use Rattle.gsl_fitting.specs.Fits.{Frame}
use Rattle.gsl_fitting_types.specs.Making.{IsSized, IsValue}

-- Each position is below a count.
abbrev pub AreBelow : ℕ → List ℕ → Type 0
AreBelow count positions = AllByRecursion (λ position. position < count) positions

-- how many components operands have in a row
abbrev pub in_all : List Operand → ℕ
in_all [] = 0
in_all (a ∷ args) = a.shape.1 + in_all args

-- Operands have as many components as a shape, or one for all of them.
abbrev pub AreEnough : Shape → List Operand → Type 0
AreEnough shape args = (shape.1 ≤ in_all args) ⊎ (in_all args ≡ 1)

module _ (whole : Sections) (main : ℕ) (local_size : List ℕ) (rank : ℕ → ℕ) (f : Frame) where
  -- An operand is a scalar or vector that a block may use which has given these ids.
  pub record IsArgument (given : List ℕ) (a : Operand) : Type 0 where
    pub sized : IsSized a.shape
    pub value : IsValue whole main local_size rank f given a.shape a.id

  abbrev pub AreArguments : List ℕ → List Operand → Type 0
  AreArguments given args = AllByRecursion (IsArgument given) args
