-- Macros by their names, and the lines and file numbers that a program sees.
use Rattle.std.specs.Prelude.{ℕ, ◌+◌, ◌-◌, ◌%◌, ◌^◌, List, Option, Some, None, position}
use Rattle.std.specs.Map.{lookup, keys_of}
use Rattle.std.specs.Str.{bytes_eq}
use Rattle.gsl_macros.specs.declared.table.Macro.{Macro}
use Rattle.gsl_macros.specs.declared.table.Shift.{Shift}

-- the macros with their names; the number of a macro is its place
abbrev pub Entries : Type 0
Entries = List (List ℕ × Macro)

abbrev pub both : Option ℕ → Option Macro → Option (ℕ × Macro)
both None m = None
both (Some i) None = None
both (Some i) (Some m) = Some (i, m)

-- the macro of a name, with its number
abbrev pub found : Entries → List ℕ → Option (ℕ × Macro)
found entries name = both (position (bytes_eq name) (keys_of entries)) (lookup (bytes_eq name) entries)

-- What `__LINE__` gives on a physical line. The line behind `after` has the number that the last `#line` said, and later lines
-- count on from there in 32 bits.
abbrev pub line_shown : Shift → ℕ → ℕ
line_shown shift line = (shift.number + (line - shift.after - 1)) % 2 ^ 32
