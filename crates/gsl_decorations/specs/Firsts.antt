-- Tables of the first instructions that have a key.
use Rattle.std.specs.Prelude.{ℕ, ◌+◌, nat_lt, Bool, false, if◌then◌else◌, [], ◌∷◌, Option, Some, None}
use Rattle.gsl_words.specs.declared.module.Instr.{Instr}
use Rattle.gsl_valid.specs.Placed.{Code}

-- whether there is a key, and it is this
abbrev pub is_key : {K : Type 0} → (K → K → Bool) → K → Option K → Bool
is_key eq key None = false
is_key eq key (Some k) = eq k key

-- the number of the first instruction that passes a test, where the code begins with the instruction of this number
unfoldable pub first_from : (Instr → Bool) → ℕ → Code → Option ℕ
first_from test at [] = None
first_from test at (i ∷ code) = if test i then Some at else first_from test (at + 1) code

-- whether there is a number, and it is below this one
abbrev pub is_below : ℕ → Option ℕ → Bool
is_below count None = false
is_below count (Some number) = nat_lt number count
