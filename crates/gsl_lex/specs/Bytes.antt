-- Which bytes belong together (GLSL 4.50, 3.1, 3.2, 3.4, 3.7 and 4.1.3).
use Rattle.std.specs.Prelude.{ℕ, Bool, true, false, not, ◌==◌, ◌&&◌, ◌||◌, List, [], ◌∷◌, if◌then◌else◌}
use Rattle.std.specs.Char.{is_ascii_digit, is_ascii_alphabetic, is_ascii_alphanumeric}
use Rattle.gsl_lex.specs.declared.piece.Run.{Run}
use Rattle.gsl_lex.specs.declared.piece.Run.TheVariants.{Space, Line, Word, Decimal, Hex}
use Rattle.gsl_lex.specs.Ascii.{horizontal_tab, line_feed, vertical_tab, form_feed, space, plus, dash, point, digit_0, upper_e, upper_x, underscore, lower_e, lower_x}

-- space, horizontal tab, vertical tab, form feed
abbrev pub is_space : ℕ → Bool
is_space a = a == space || a == horizontal_tab || a == vertical_tab || a == form_feed

abbrev pub is_letter : ℕ → Bool
is_letter a = is_ascii_alphabetic a || a == underscore

abbrev pub is_word_byte : ℕ → Bool
is_word_byte a = is_ascii_alphanumeric a || a == underscore

-- whether a byte may follow another in a run: of white space, of what a line comment takes, of a word, or
-- of a number, in which a sign stands directly after `e` or `E` where it does not begin with `0x` or `0X`
abbrev pub goes_on : Run → ℕ → ℕ → Bool
goes_on Space before a = is_space a
goes_on Line before a = not (a == line_feed)
goes_on Word before a = is_word_byte a
goes_on Decimal before a = is_word_byte a || a == point || ((before == lower_e || before == upper_e) && (a == plus || a == dash))
goes_on Hex before a = is_word_byte a || a == point

-- whether the run is that of a token
abbrev pub is_spelled : Run → Bool
is_spelled Space = false
is_spelled Line = false
is_spelled Word = true
is_spelled Decimal = true
is_spelled Hex = true

-- whether each of the bytes may follow the one before it
abbrev pub all_go_on : Run → ℕ → List ℕ → Bool
all_go_on run before [] = true
all_go_on run before (a ∷ bytes) = goes_on run before a && all_go_on run a bytes

-- the first byte, or 0 where there is none
abbrev pub first_of : List ℕ → ℕ
first_of [] = 0
first_of (a ∷ bytes) = a

-- whether a number begins with the two bytes
abbrev pub begins_number : ℕ → ℕ → Bool
begins_number a next = is_ascii_digit a || (a == point && is_ascii_digit next)

-- how a number that begins with the two bytes goes on
abbrev pub number_run : ℕ → ℕ → Run
number_run a next = if a == digit_0 && (next == lower_x || next == upper_x) then Hex else Decimal
