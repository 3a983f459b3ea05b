-- Ranks of functions: no function calls one of a higher rank.
use Rattle.std.specs.Prelude.{◌≡◌, ℕ, ◌≤◌, Bool, true, nat_eq, nat_le, List, slice_index}
use Rattle.std.specs.List.{list_all, list_any}
use Rattle.gsl_tree.specs.declared.unit.Function.{Function}
use Rattle.gsl_link_calls.specs.Calls.{called_by}

abbrev pub IsIn : List ℕ → ℕ → Type 0
IsIn l x = list_any (nat_eq x) l ≡ true

abbrev pub RankedAt : List ℕ → List Function → ℕ → Type 0
RankedAt ranks functions head = (next : ℕ) → IsIn (called_by functions head) next → slice_index ranks next ≤ slice_index ranks head

abbrev pub Ranked : List ℕ → List Function → Type 0
Ranked ranks functions = (head : ℕ) → RankedAt ranks functions head

-- the same as a test
abbrev pub is_ranked : List ℕ → List Function → ℕ → Bool
is_ranked ranks functions head = list_all (λ next. nat_le (slice_index ranks next) (slice_index ranks head)) (called_by functions head)

abbrev pub are_ranked : List ℕ → List Function → Bool
are_ranked ranks functions = list_all (λ (f : Function). is_ranked ranks functions f.prototype) functions

-- whether a function calls one of no lower rank
abbrev pub may_return : List ℕ → List Function → ℕ → Bool
may_return ranks functions head = list_any (λ next. nat_le (slice_index ranks head) (slice_index ranks next)) (called_by functions head)
