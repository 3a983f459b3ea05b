-- Ranks of functions: no function calls one of a higher rank.
use Rattle.std.specs.Prelude.{◌≡◌, ℕ, ◌≤◌, Bool, true, nat_le, nat_eq, List, slice_index}
use Rattle.std.specs.List.{list_all, list_any}
use Rattle.gsl_words.specs.declared.module.Module.{Module}
use Rattle.gsl_valid.specs.Instruction.{read}
use Rattle.gsl_valid.specs.Kinds.{Kind, Asks, Imports, Sets, Enters, Modes, Debugs, Decorates, Declares, Fixes, Holds, Begins, Takes, Calls, Gives, Does, Opens, Merges, Leaves, Ended, Absent, kind}
use Rattle.gsl_valid.specs.Placed.{Code}
use Rattle.gsl_valid.specs.CallRules.{called_by}

-- whether what a function calls is of no higher rank, if an instruction begins one
abbrev pub is_ranked : List ℕ → Code → Kind → Bool
is_ranked ranks code Asks = true
is_ranked ranks code Imports = true
is_ranked ranks code Sets = true
is_ranked ranks code (Enters model function name interface) = true
is_ranked ranks code (Modes function mode parts) = true
is_ranked ranks code Debugs = true
is_ranked ranks code (Decorates d) = true
is_ranked ranks code (Declares shape) = true
is_ranked ranks code (Fixes type value) = true
is_ranked ranks code (Holds v) = true
is_ranked ranks code (Begins type id function_type) = list_all (λ next. nat_le (slice_index ranks next) (slice_index ranks id)) (called_by code id)
is_ranked ranks code (Takes type) = true
is_ranked ranks code (Calls type function arguments) = true
is_ranked ranks code (Gives type) = true
is_ranked ranks code Does = true
is_ranked ranks code Opens = true
is_ranked ranks code Merges = true
is_ranked ranks code Leaves = true
is_ranked ranks code Ended = true
is_ranked ranks code Absent = true

-- whether this holds of all functions
abbrev pub are_ranked : List ℕ → Module → Bool
are_ranked ranks m = list_all (λ i. is_ranked ranks m.instrs (kind (read i))) m.instrs

-- the same as a fact
abbrev pub Ranked : List ℕ → Module → Type 0
Ranked ranks m = (id next : ℕ) → list_any (nat_eq next) (called_by m.instrs id) ≡ true → slice_index ranks next ≤ slice_index ranks id
