-- The texts that the program prints.
use Rattle.std.specs.Prelude.{ℕ, ◌+◌, ◌/◌, ◌%◌, List, [], ◌∷◌, ◌++◌, codes, slice_index_or}
use Rattle.std.specs.Fmt.{decimal}
use Rattle.gsl_base.specs.declared.fault.Fault.{Fault}
use Rattle.gsl_base.specs.Code.{number_of}
use Rattle.gsl_form.specs.Form.{Name}

-- the last four decimal digits
abbrev pub four_digits : ℕ → List ℕ
four_digits n = (48 + n / 1000 % 10) ∷ (48 + n / 100 % 10) ∷ (48 + n / 10 % 10) ∷ (48 + n % 10) ∷ []

-- the line that reports a fault
abbrev pub fault_text : Name → Fault → List ℕ
fault_text file fault =
    codes "ERROR: " ++ file ++ codes ":" ++ decimal fault.place.line ++ codes ": E" ++ four_digits (number_of fault.code) ++ codes "\n"

-- the same, where these are the files of a command
abbrev pub told_fault : List Name → Fault → List ℕ
told_fault names fault = fault_text (slice_index_or names fault.place.unit []) fault

-- what is printed where a text is too long
abbrev pub long_text : Name → List ℕ
long_text file = file ++ codes ": too long\n"

-- what is printed of a valid module
abbrev pub valid_text : List ℕ
valid_text = codes "valid\n"

-- the line that tells which line of a text is wrong
abbrev pub line_text : Name → ℕ → List ℕ
line_text file line = file ++ codes ": line " ++ decimal line ++ codes "\n"
