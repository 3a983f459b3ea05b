-- How the functions of a program call each other (GLSL 4.50, 6.1).
use Rattle.std.specs.Prelude.{◌≡◌, ℕ, true, false, nat_eq, slice_get, Some}
use Rattle.std.specs.List.{list_any}
use Rattle.gsl_tree.specs.Weights.{calls_of}
use Rattle.gsl_tree.specs.declared.program.Program.{Program}
use Rattle.gsl_tree.specs.declared.unit.Function.{Function}
use Rattle.gsl_link_calls.specs.Calls.{any_nest}
use Rattle.gsl_link_calls.specs.Ranks.{IsIn}

-- Calls nest at most so deep as a shader runs, and each leads to a function of the program.
pub record MayNest (p : Program) : Type 0 where
  pub deep : any_nest p.functions 65 ≡ false
  pub defined : (number head : ℕ) (f : Function) → slice_get p.functions number ≡ Some f → IsIn (calls_of f) head → list_any (λ (g : Function). nat_eq g.prototype head) p.functions ≡ true

-- No two functions of the program have one head.
abbrev pub AreOnce : Program → Type 0
AreOnce p = (j k : ℕ) (f g : Function) → slice_get p.functions j ≡ Some f → slice_get p.functions k ≡ Some g → f.prototype ≡ g.prototype → j ≡ k
