-- What a number stands for (GLSL 4.50, 4.1.3): a decimal, octal or hexadecimal literal below 2^32.
use Rattle.std.specs.Prelude.{ℕ, ◌+◌, ◌-◌, ◌*◌, ◌^◌, Bool, true, false, not, ◌==◌, ◌&&◌, ◌||◌, nat_lt, List, [], ◌∷◌, length, take, drop, slice_index, Option, Some, None, if◌then◌else◌}
use Rattle.std.specs.Char.{digit_value}
use Rattle.std.specs.List.{list_any, list_all}
use Rattle.std.specs.Option.{option_map}
use Rattle.gsl_base.specs.declared.token.Kind.{Kind}
use Rattle.gsl_base.specs.declared.token.Kind.TheVariants.{Signed, Unsigned}
use Rattle.gsl_lex.specs.Ascii.{point, digit_0, upper_e, upper_f, upper_u, upper_x, lower_e, lower_f, lower_u, lower_x}

-- whether the number begins with `0x` or `0X`
abbrev pub is_hex : List ℕ → Bool
is_hex text = slice_index text 0 == digit_0 && (slice_index text 1 == lower_x || slice_index text 1 == upper_x)

abbrev pub is_point : ℕ → Bool
is_point a = a == point

-- `e`, `E`, `f`, `F`
abbrev pub is_mark : ℕ → Bool
is_mark a = a == lower_e || a == upper_e || a == lower_f || a == upper_f

-- whether the number is a floating literal: it has a point, or a mark of one where the base is not 16
abbrev pub is_floating : List ℕ → Bool
is_floating text = list_any is_point text || (not (is_hex text) && list_any is_mark text)

-- whether the last byte is `u` or `U`
abbrev pub has_suffix : List ℕ → Bool
has_suffix text = slice_index text (length text - 1) == lower_u || slice_index text (length text - 1) == upper_u

abbrev pub without_suffix : List ℕ → List ℕ
without_suffix text = if has_suffix text then take (length text - 1) text else text

-- 16 after `0x`, 8 after another 0, else 10
abbrev pub base_of : List ℕ → ℕ
base_of text = if is_hex text then 16 else (if slice_index text 0 == digit_0 then 8 else 10)

abbrev pub digits_of : List ℕ → List ℕ
digits_of text = if is_hex text then drop 2 text else text

-- the value of digits by their places
abbrev pub value_of : ℕ → List ℕ → ℕ
value_of base [] = 0
value_of base (d ∷ digits) = digit_value d * base ^ length digits + value_of base digits

abbrev pub is_digit_of : ℕ → ℕ → Bool
is_digit_of base d = nat_lt (digit_value d) base

abbrev pub if_word : ℕ → Option ℕ
if_word n = if nat_lt n (2 ^ 32) then Some n else None

-- the value of some digits of the base, if it is below 2^32
abbrev pub word_of : ℕ → List ℕ → Option ℕ
word_of base digits =
    if nat_lt 0 (length digits) && list_all (is_digit_of base) digits then if_word (value_of base digits) else None

abbrev pub kind_of : Bool → ℕ → Kind
kind_of false value = Signed value
kind_of true value = Unsigned value

-- the literal that a number writes, if it writes one
unfoldable pub literal_of : List ℕ → Option Kind
literal_of text =
    let number = without_suffix text in option_map (kind_of (has_suffix text)) (word_of (base_of number) (digits_of number))
