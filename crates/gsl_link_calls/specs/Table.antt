-- The heads that each function calls, in a table by the functions' heads.
use Rattle.std.specs.Prelude.{◌≡◌, ℕ, ◌+◌, List, [], ◌∷◌, map, max, replicate, slice_set, get_or}
use Rattle.gsl_tree.specs.declared.unit.Function.{Function}
use Rattle.gsl_tree.specs.Weights.{calls_of}

-- the heads of functions are below this
abbrev pub heads_of : List Function → ℕ
heads_of [] = 0
heads_of (f ∷ functions) = max (f.prototype + 1) (heads_of functions)

-- By its head, one more than the number of the first function, and 0 where there is none; before these functions stand so many.
abbrev pub firsts_from : ℕ → ℕ → List Function → List ℕ
firsts_from size at [] = replicate size 0
firsts_from size at (f ∷ functions) = slice_set (firsts_from size (at + 1) functions) f.prototype (at + 1)

-- no calls, and then those of each function
abbrev pub lists_of : List Function → List (List ℕ)
lists_of functions = [] ∷ map calls_of functions

pub record IsTable (functions : List Function) (firsts : List ℕ) (lists : List (List ℕ)) : Type 0 where
  pub firsts_are : firsts ≡ firsts_from (heads_of functions) 0 functions
  pub lists_are : lists ≡ lists_of functions
