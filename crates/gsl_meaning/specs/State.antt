-- What a shader works on while it runs.
use Rattle.std.specs.Prelude.{ℕ, List}
use Rattle.gsl_values.specs.declared.value.Value.{Value}

-- The values of the variables by their numbers, and the choices that are left. Of blocks it is the words of their leaves, as they are seen
-- in their buffers; a word of a `bool` leaf may be any word there. Parameters and local variables are those of the function that runs.
pub record State : Type 0 where
  pub globals : List Value
  pub blocks : List Value
  pub interfaces : List Value
  pub params : List Value
  pub locals : List Value
  pub choices : List ℕ
