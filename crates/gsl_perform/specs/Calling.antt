-- A function value that calls functions of the program.
use Rattle.std.specs.Prelude.{◌≡◌, ℕ, List, Result}
use Rattle.std.specs.declared.alloc.Global.{Global}
use denote.Ref.{Bor, MutBor}
use Rattle.gsl_values.specs.declared.value.Value.{Value}
use Rattle.gsl_meaning.specs.Running.{Run, ◌>>=◌}
use Rattle.gsl_meaning.specs.Expressions.{Called, Passed, Setting, returning, values_of}
use Rattle.gsl_meaning.specs.Shader.{calls}
use Rattle.gsl_perform.specs.declared.stop.Stop.{Stop}
use Rattle.gsl_perform.specs.declared.world.World.{World}
use Rattle.gsl_perform.specs.Does.{Does}
use Rattle.gsl_perform.specs.Framed.{Framed}

-- It may be called where calls nest at most so deep, and answers what they do.
pub record Calls (f : Framed) (depth : ℕ) (pre : Global → Bor Framed → ℕ → ℕ → List Value → MutBor World → Type 0)
    (post : Global → Bor Framed → ℕ → ℕ → List Value → MutBor World → Result Called Stop → MutBor World → Type 0) : Type 0 where
  pub callable : (alloc : Global) (frame : Bor Framed) (number : ℕ) (args : List Value) (old : MutBor World) → pre alloc frame depth number args old
  pub answers : (alloc : Global) (frame : Bor Framed) (number : ℕ) (args : List Value) (old new : MutBor World) (r : Result Called Stop) → frame.now ≡ f
      → post alloc frame depth number args old r new → Does r new.now (calls f.program f.input depth number args old.now.store old.now.units)

-- a call of a function on arguments that were evaluated
abbrev pub calls_with : Setting → ℕ → List Passed → Run Value
calls_with setting number passed = setting.call number (values_of passed) >>= returning passed
