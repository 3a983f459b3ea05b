-- Numbers without sign and the words that they write.
use Rattle.std.specs.Prelude.{ℕ, ◌^◌, Bool, true, ◌&&◌, if◌then◌else◌, nat_lt, List, [], ◌∷◌, length, take, drop, Option, Some, None, codes}
use Rattle.std.specs.Char.{digit_value}
use Rattle.std.specs.Str.{bytes_eq}
use Rattle.std.specs.Str.Parse.{digits_value}

-- goes on with the value, if there is one
infixl 10 ◌>>=◌
abbrev pub ◌>>=◌ : {A B : Type 0} → Option A → (A → Option B) → Option B
(Some x) >>= f = f x
None >>= f = None

-- whether each byte is a digit in the base
abbrev pub are_digits : ℕ → List ℕ → Bool
are_digits base [] = true
are_digits base (byte ∷ bytes) = nat_lt (digit_value byte) base && are_digits base bytes

-- the number that one digit or more write in the base, if a word holds it
unfoldable pub natural : ℕ → List ℕ → Option ℕ
natural base digits =
    if nat_lt 0 (length digits) && are_digits base digits && nat_lt (digits_value base digits) (2 ^ 32)
    then Some (digits_value base digits) else None

-- a number without sign: decimal, or hexadecimal behind `0x`
abbrev pub unsigned : List ℕ → Option ℕ
unsigned field = if bytes_eq (take 2 field) (codes "0x") then natural 16 (drop 2 field) else natural 10 field
