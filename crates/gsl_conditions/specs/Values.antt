-- What operators give in conditions: 32-bit words, which are signed and wrap.
use Rattle.std.specs.Prelude.{ℕ, ◌+◌, ◌-◌, ◌*◌, ◌^◌, ◌%◌, Bool, not, ◌==◌, nat_lt, Option, Some, None, Ok, Err, ℤ, int_lt, int_rem, bit_and, bit_or, bit_xor, if◌then◌else◌}
use Rattle.std.specs.Int.{w32, cast_signed, cast_unsigned, int_wrapping_div, int_shr}
use Rattle.gsl_base.specs.Checked.{Checked, ◌>>=◌}
use Rattle.gsl_base.specs.declared.fault.Code.TheVariants.{E0206}
use Rattle.gsl_base.specs.declared.fault.Place.{Place}
use Rattle.gsl_base.specs.declared.token.Kind.{Kind}
use Rattle.gsl_base.specs.declared.token.Kind.TheVariants as kind
use Rattle.gsl_base.specs.declared.token.RawKind.{RawKind}
use Rattle.gsl_base.specs.declared.token.Token.{Token}
use Rattle.gsl_macros.specs.Expanding.{at}
use Rattle.gsl_macros.specs.Spelling.{live}
use Rattle.gsl_conditions.specs.declared.operator.Unary.{Unary}
use Rattle.gsl_conditions.specs.declared.operator.Unary.TheVariants.{Keep, Negate, Flip, Not}
use Rattle.gsl_conditions.specs.declared.operator.Binary.{Binary}
use Rattle.gsl_conditions.specs.declared.operator.Binary.TheVariants.{Mul, Div, Rem, Add, Sub, Shl, Shr, Less, Greater, LessEq, GreaterEq, Equal, Unequal, And, Xor, Or, Both, Either}

-- the word of a part of a condition, or the first fault in the order of evaluation
abbrev pub Value : Type 0
Value = Checked ℕ

abbrev pub truth : Bool → ℕ
truth b = if b then 1 else 0

abbrev pub minus : ℕ → ℕ → ℕ
minus a b = (a + (2 ^ 32 - b)) % 2 ^ 32

-- what an operator gives on one word
abbrev pub unary_word : Unary → ℕ → ℕ
unary_word Keep a = a
unary_word Negate a = minus 0 a
unary_word Flip a = 2 ^ 32 - 1 - a
unary_word Not a = truth (a == 0)

abbrev pub int : ℕ → ℤ
int a = cast_signed w32 a

abbrev pub less : ℕ → ℕ → Bool
less a b = int_lt (int a) (int b)

-- A quotient is cut off, and a rest is that of this quotient; there is none by 0.
abbrev pub quotient : Place → ℕ → ℕ → Value
quotient place a b = if b == 0 then Err (at place E0206) else Ok (cast_unsigned w32 (int_wrapping_div w32 (int a) (int b)))

abbrev pub rest : Place → ℕ → ℕ → Value
rest place a b = if b == 0 then Err (at place E0206) else Ok (cast_unsigned w32 (int_rem (int a) (int b)))

-- A word is shifted by 0 to 31; to the right the sign stays.
abbrev pub shifted_left : Place → ℕ → ℕ → Value
shifted_left place a b = if nat_lt b 32 then Ok ((a * 2 ^ b) % 2 ^ 32) else Err (at place E0206)

abbrev pub shifted_right : Place → ℕ → ℕ → Value
shifted_right place a b = if nat_lt b 32 then Ok (cast_unsigned w32 (int_shr (int a) b)) else Err (at place E0206)

-- what an operator gives on two words; the faults are at its place
abbrev pub binary_word : Binary → Place → ℕ → ℕ → Value
binary_word Mul place a b = Ok ((a * b) % 2 ^ 32)
binary_word Div place a b = quotient place a b
binary_word Rem place a b = rest place a b
binary_word Add place a b = Ok ((a + b) % 2 ^ 32)
binary_word Sub place a b = Ok (minus a b)
binary_word Shl place a b = shifted_left place a b
binary_word Shr place a b = shifted_right place a b
binary_word Less place a b = Ok (truth (less a b))
binary_word Greater place a b = Ok (truth (less b a))
binary_word LessEq place a b = Ok (truth (not (less b a)))
binary_word GreaterEq place a b = Ok (truth (not (less a b)))
binary_word Equal place a b = Ok (truth (a == b))
binary_word Unequal place a b = Ok (truth (not (a == b)))
binary_word And place a b = Ok (bit_and a b)
binary_word Xor place a b = Ok (bit_xor a b)
binary_word Or place a b = Ok (bit_or a b)
binary_word Both place a b = Ok (truth (not (b == 0)))
binary_word Either place a b = Ok (truth (not (b == 0)))

-- What `&&` and `||` give without a look at their right operand, if they do.
abbrev pub settles : Binary → ℕ → Option ℕ
settles Both a = if a == 0 then Some 0 else None
settles Either a = if a == 0 then None else Some 1
settles _ a = None

abbrev pub or_right : Binary → Place → ℕ → Value → Option ℕ → Value
or_right op place a y (Some n) = Ok n
or_right op place a y None = y >>= λ b. binary_word op place a b

abbrev pub unary_value : Unary → Value → Value
unary_value op x = x >>= λ a. Ok (unary_word op a)

-- The left operand goes first, and one that `&&` or `||` skips has no fault.
abbrev pub binary_value : Binary → Place → Value → Value → Value
binary_value op place x y = x >>= λ a. or_right op place a y (settles op a)

abbrev pub word_in : Kind → Option ℕ
word_in (kind.Name text) = None
word_in (kind.Key key) = None
word_in (kind.Signed n) = Some n
word_in (kind.Unsigned n) = Some n
word_in (kind.Punct punct) = None

abbrev pub literal_in : Checked Token → Option ℕ
literal_in (Ok token) = word_in token.kind
literal_in (Err fault) = None

-- the word of a number that is an integer literal; a suffix changes nothing
abbrev pub literal : Place → RawKind → Option ℕ
literal place kind = literal_in (live place kind)
