-- How a head is found in the table of heads.
use Rattle.std.specs.Prelude.{ℕ, Bool, false, List, [], ◌∷◌, slice_get, Option, Some, None, if◌then◌else◌}
use Rattle.gsl_types.specs.declared.ty.Direction.{Direction}
use Rattle.gsl_types.specs.declared.ty.Ty.{Ty}
use Rattle.gsl_names.specs.declared.entry.Entry.{Entry}
use Rattle.gsl_names.specs.declared.entry.Entry.TheVariants as entry
use Rattle.gsl_tree.specs.declared.unit.Prototype.{Prototype}
use Rattle.gsl_check_heads.specs.Heads.{is_of}

abbrev pub is_head_of : List ℕ → List (Direction × Ty) → Option Prototype → Bool
is_head_of name params None = false
is_head_of name params (Some p) = is_of name params p

-- whether the head of a number is of the function
abbrev pub is_numbered : List Prototype → List ℕ → List (Direction × Ty) → ℕ → Bool
is_numbered prototypes name params number = is_head_of name params (slice_get prototypes number)

abbrev pub found_at : (ℕ → Bool) → Option ℕ → Entry → Option ℕ
found_at test found (entry.Function number) = if test number then Some number else found
found_at test found _ = found

-- the number of the last entry of a function that passes a test, or what was found before
unfoldable pub oldest : (ℕ → Bool) → Option ℕ → List Entry → Option ℕ
oldest test found [] = found
oldest test found (one ∷ entries) = oldest test (found_at test found one) entries
