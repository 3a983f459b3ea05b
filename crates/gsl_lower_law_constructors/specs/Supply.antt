-- What constructors of scalars and vectors take (GLSL 4.50, 5.4.2).
use Rattle.std.specs.Prelude.{◌≡◌, ℕ, ◌+◌, ◌≤◌, ◌⊎◌, List, [], ◌∷◌}
use Rattle.std.specs.List.{AllByRecursion}
use Rattle.gsl_lower_values.specs.declared.operand.Operand.{Operand}

-- how many components arguments have in a row
abbrev pub supplied : List Operand → ℕ
supplied [] = 0
supplied (a ∷ args) = a.shape.1 + supplied args

-- scalars and vectors that serve so many components: they have as many, or one scalar fills all of them
pub record Serve (count : ℕ) (args : List Operand) : Type 0 where
  pub each : AllByRecursion (λ a. 1 ≤ a.shape.1) args
  pub all : (count ≤ supplied args) ⊎ (supplied args ≡ 1)
