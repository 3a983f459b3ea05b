-- Computes what the format says; the rule is in `Spelling.antt`.
-- The numbers of a manifest and the words that they write.
use Rattle.std.specs.Prelude.{ℕ, ◌-◌, ◌%◌, ◌^◌, Bool, false, ◌==◌, if◌then◌else◌, nat_le, List, [], ◌∷◌, take, drop, Option, Some, None, codes}
use Rattle.std.specs.Str.{bytes_eq}
use Rattle.gsl_text.specs.Numbers.{◌>>=◌, natural}

-- whether the digits begin with a zero that others follow
abbrev pub leads_with_zero : List ℕ → Bool
leads_with_zero [] = false
leads_with_zero (d ∷ []) = false
leads_with_zero (d ∷ e ∷ digits) = d == 48

-- a decimal number, which has no zero in front of its digits
unfoldable pub decimal_of : List ℕ → Option ℕ
decimal_of digits = if leads_with_zero digits then None else natural 10 digits

-- a number without sign: decimal, or hexadecimal behind `0x`, whose digits may begin with zeros
abbrev pub unsigned : List ℕ → Option ℕ
unsigned field = if bytes_eq (take 2 field) (codes "0x") then natural 16 (drop 2 field) else decimal_of field

-- the word of a number below zero, down to -2^31
abbrev pub below_zero : ℕ → Option ℕ
below_zero n = if nat_le n (2 ^ 31) then Some ((2 ^ 32 - n) % 2 ^ 32) else None

-- the word of a number: one without sign, or `-` and decimal digits
abbrev pub number : List ℕ → Option ℕ
number field = if bytes_eq (take 1 field) (codes "-") then (decimal_of (drop 1 field) >>= below_zero) else unsigned field
