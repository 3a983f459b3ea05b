-- The bytes of ASCII that the rules speak of, by their names.
use Rattle.std.specs.Prelude.{ℕ}

abbrev pub horizontal_tab : ℕ
horizontal_tab = 9

abbrev pub line_feed : ℕ
line_feed = 10

abbrev pub vertical_tab : ℕ
vertical_tab = 11

abbrev pub form_feed : ℕ
form_feed = 12

abbrev pub carriage_return : ℕ
carriage_return = 13

abbrev pub space : ℕ
space = 32

abbrev pub star : ℕ
star = 42

abbrev pub plus : ℕ
plus = 43

abbrev pub dash : ℕ
dash = 45

abbrev pub point : ℕ
point = 46

abbrev pub slash : ℕ
slash = 47

abbrev pub digit_0 : ℕ
digit_0 = 48

abbrev pub upper_e : ℕ
upper_e = 69

abbrev pub upper_f : ℕ
upper_f = 70

abbrev pub upper_u : ℕ
upper_u = 85

abbrev pub upper_x : ℕ
upper_x = 88

abbrev pub backslash : ℕ
backslash = 92

abbrev pub underscore : ℕ
underscore = 95

abbrev pub lower_a : ℕ
lower_a = 97

abbrev pub lower_e : ℕ
lower_e = 101

abbrev pub lower_f : ℕ
lower_f = 102

abbrev pub lower_u : ℕ
lower_u = 117

abbrev pub lower_x : ℕ
lower_x = 120

abbrev pub lower_z : ℕ
lower_z = 122
