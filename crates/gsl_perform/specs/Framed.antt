-- What stays as a shader runs.
use Rattle.std.specs.Prelude.{ℕ}
use Rattle.gsl_base.specs.declared.input.Input.{Input}
use Rattle.gsl_tree.specs.declared.program.Program.{Program}
use Rattle.gsl_meaning.specs.Expressions.{Setting}
use Rattle.gsl_meaning.specs.Shader.{calls, setting_of}

pub record Framed : Type 0 where
  pub program : Program
  pub input : Input

-- what expressions stand in, where calls nest at most so deep
unfoldable pub around : Framed → ℕ → Setting
around f depth = setting_of f.program f.input (calls f.program f.input depth)
