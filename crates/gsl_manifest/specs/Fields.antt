-- Computes what the format says; the rule is in `Spelling.antt`.
-- The fields of a line: a word, and then fields with one or more spaces before each.
use Rattle.std.specs.Prelude.{ℕ, zero, suc, ◌==◌, ◌&&◌, not, if◌then◌else◌, nat_lt, List, [], ◌∷◌, length, take, drop, Option, Some, None}
use Rattle.std.specs.List.{prefix_len}
use Rattle.std.specs.Str.{is_utf8}
use Rattle.gsl_text.specs.Numbers.{◌>>=◌}
use Rattle.gsl_manifest.specs.Numbers.{number, unsigned}

-- a value that was read, and the bytes behind it
abbrev pub Reading : Type 0 → Type 0
Reading A = Option (A × List ℕ)

-- how many spaces the bytes begin with
abbrev pub gap_len : List ℕ → ℕ
gap_len bytes = prefix_len (λ byte. byte == 32) bytes

-- how many bytes stand before the first space
abbrev pub field_len : List ℕ → ℕ
field_len bytes = prefix_len (λ byte. not (byte == 32)) bytes

-- a field and what stands behind it
abbrev pub field_at : List ℕ → List ℕ × List ℕ
field_at bytes = (take (field_len bytes) bytes, drop (field_len bytes) bytes)

-- what stands behind one or more spaces, if anything does
unfoldable pub behind_gap : List ℕ → Option (List ℕ)
behind_gap bytes = if nat_lt 0 (gap_len bytes) && nat_lt (gap_len bytes) (length bytes) then Some (drop (gap_len bytes) bytes) else None

-- the next field
unfoldable pub next_field : List ℕ → Reading (List ℕ)
next_field bytes = behind_gap bytes >>= λ field. Some (field_at field)

-- the next field is a number
unfoldable pub number_at : List ℕ → Reading ℕ
number_at bytes = next_field bytes >>= λ field. number field.0 >>= λ n. Some (n, field.1)

-- the next field is a number without sign
unfoldable pub unsigned_at : List ℕ → Reading ℕ
unsigned_at bytes = next_field bytes >>= λ field. unsigned field.0 >>= λ n. Some (n, field.1)

-- what was read is the last of its line
abbrev pub last : Reading ℕ → Option ℕ
last found = found >>= λ n. if length n.1 == 0 then Some n.0 else None

-- the last three fields are numbers
unfoldable pub three_at : List ℕ → Option (List ℕ)
three_at bytes = number_at bytes >>= λ x. number_at x.1 >>= λ y. last (number_at y.1) >>= λ z. Some (x.0 ∷ y.0 ∷ z ∷ [])

-- the fields that are left are numbers, and at most so many
unfoldable pub numbers_at : ℕ → List ℕ → Option (List ℕ)
numbers_at zero [] = Some []
numbers_at zero (byte ∷ bytes) = None
numbers_at (suc most) [] = Some []
numbers_at (suc most) (byte ∷ bytes) = number_at (byte ∷ bytes) >>= λ n. numbers_at most n.1 >>= λ ns. Some (n.0 ∷ ns)

-- and there is one at least
abbrev pub some_numbers_at : ℕ → List ℕ → Option (List ℕ)
some_numbers_at most bytes = numbers_at most bytes >>= λ ns. if nat_lt 0 (length ns) then Some ns else None

-- a path: all that stands behind the spaces
unfoldable pub path_at : List ℕ → Option (List ℕ)
path_at bytes = behind_gap bytes >>= λ path. if is_utf8 path then Some path else None
