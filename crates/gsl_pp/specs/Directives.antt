-- What a directive does to the macros, the groups, the lines and the count (GLSL 4.50, 3.3).
use Rattle.std.specs.Prelude.{ℕ, Bool, true, false, not, ◌&&◌, ◌||◌, codes, List, [], ◌∷◌, map, Option, Some, None, Ok, Err, if◌then◌else◌}
use Rattle.std.specs.Option.{is_some}
use Rattle.std.specs.Str.{bytes_eq}
use Rattle.gsl_base.specs.Checked.{Checked, ◌>>=◌}
use Rattle.gsl_base.specs.declared.fault.Code.TheVariants.{E0201, E0202, E0211, E0212, E0213}
use Rattle.gsl_base.specs.declared.fault.Place.{Place}
use Rattle.gsl_base.specs.declared.token.Raw.{Raw}
use Rattle.gsl_macros.specs.declared.table.Shift.{Shift}
use Rattle.gsl_macros.specs.Expanding.{Seen, at, fresh, traced, whole}
use Rattle.gsl_macros.specs.Spelling.{word_of}
use Rattle.gsl_macros.specs.Tables.{Entries, found}
use Rattle.gsl_conditions.specs.Conditions.{condition}
use Rattle.gsl_conditions.specs.Values.{literal}
use Rattle.gsl_pp.specs.declared.group.Group.{Group}
use Rattle.gsl_pp.specs.declared.state.State.{State}
use Rattle.gsl_pp.specs.declared.word.Conditional.{Conditional}
use Rattle.gsl_pp.specs.declared.word.Conditional.TheVariants.{If, Ifdef, Ifndef, Elif, Else, Endif}
use Rattle.gsl_pp.specs.declared.word.Other.{Other}
use Rattle.gsl_pp.specs.declared.word.Other.TheVariants.{Define, Undef, Error, Pragma, Extension, Version, Line}
use Rattle.gsl_pp.specs.Words.{is_colon, conditional_of, other_of}
use Rattle.gsl_pp.specs.Definitions.{one_name, define, undef}

-- ---- groups

-- Whether text is live: the innermost group is. A group that is opened in text that is skipped never gets live.
abbrev pub is_live : List Group → Bool
is_live [] = true
is_live (g ∷ outer) = g.live

-- the group that was opened first
abbrev pub outermost : List Group → Option Group
outermost [] = None
outermost (g ∷ []) = Some g
outermost (g ∷ h ∷ outer) = outermost (h ∷ outer)

abbrev pub with_groups : State → List Group → State
with_groups s groups = record { macros = s.macros; groups = groups; left = s.left }

abbrev pub with_left : State → ℕ → State
with_left s left = record { macros = s.macros; groups = s.groups; left = left }

abbrev pub with_table : State → Entries → State
with_table s table = record { macros = record { table = table; shift = s.macros.shift }; groups = s.groups; left = s.left }

abbrev pub with_shift : State → Shift → State
with_shift s shift = record { macros = record { table = s.macros.table; shift = shift }; groups = s.groups; left = s.left }

-- a group is opened in text that is skipped: it counts as taken
abbrev pub skipped_group : Place → Group
skipped_group place = record { place = place; live = false; taken = true; last = false }

abbrev pub group : Place → Bool → Group
group place b = record { place = place; live = b; taken = b; last = false }

abbrev pub opened : State → Place → Bool → State
opened s place b = with_groups s (group place b ∷ s.groups)

abbrev pub skipped : State → Place → State
skipped s place = with_groups s (skipped_group place ∷ s.groups)

-- a condition is looked at only where it decides
abbrev pub open_if : State → Place → List Raw → Checked State
open_if s place more =
    if is_live s.groups then (condition s.macros place more s.left >>= λ r. Ok (opened (with_left s r.1) place r.0)) else Ok (skipped s place)

abbrev pub open_by : State → Place → List Raw → Bool → Checked State
open_by s place more b =
    if is_live s.groups then (one_name place more >>= λ name. Ok (opened s place (if b then is_some (found s.macros.table name) else not (is_some (found s.macros.table name))))) else Ok (skipped s place)

abbrev pub turned : Group → Bool → Bool → Group
turned g live taken = record { place = g.place; live = live; taken = taken; last = false }

abbrev pub elif_on : State → Place → List Raw → List Group → Checked State
elif_on s place more [] = Err (at place E0202)
elif_on s place more (g ∷ outer) =
    if g.last then Err (at place E0202)
    else (if g.taken then Ok (with_groups s (turned g false true ∷ outer))
    else (condition s.macros place more s.left >>= λ r. Ok (with_groups (with_left s r.1) (turned g r.0 r.0 ∷ outer))))

abbrev pub else_on : State → Place → List Group → Checked State
else_on s place [] = Err (at place E0202)
else_on s place (g ∷ outer) =
    if g.last then Err (at place E0202)
    else Ok (with_groups s (record { place = g.place; live = not g.taken; taken = true; last = true } ∷ outer))

abbrev pub endif_on : State → Place → List Group → Checked State
endif_on s place [] = Err (at place E0202)
endif_on s place (g ∷ outer) = Ok (with_groups s outer)

-- nothing stands behind the word
abbrev pub bare : Place → List Raw → Checked State → Checked State
bare place [] later = later
bare place (r ∷ more) later = Err (at place E0201)

abbrev pub grouped : State → Place → List Raw → Conditional → Checked State
grouped s place more If = open_if s place more
grouped s place more Ifdef = open_by s place more true
grouped s place more Ifndef = open_by s place more false
grouped s place more Elif = elif_on s place more s.groups
grouped s place more Else = bare place more (else_on s place s.groups)
grouped s place more Endif = bare place more (endif_on s place s.groups)

-- ---- extensions

-- how an extension is asked for
abbrev pub is_behaviour : List ℕ → Bool
is_behaviour word = bytes_eq word (codes "require") || bytes_eq word (codes "enable") || bytes_eq word (codes "warn") || bytes_eq word (codes "disable")

-- whether what is asked for is not there
abbrev pub is_wanting : List ℕ → List ℕ → Bool
is_wanting name behaviour =
    if bytes_eq name (codes "all") then bytes_eq behaviour (codes "require") || bytes_eq behaviour (codes "enable")
    else bytes_eq behaviour (codes "require") && not (bytes_eq name (codes "GL_KHR_vulkan_glsl"))

abbrev pub asked_for : Place → Option (List ℕ) → Option (List ℕ) → Checked (Unit {0})
asked_for place None behaviour = Err (at place E0201)
asked_for place (Some name) None = Err (at place E0201)
asked_for place (Some name) (Some behaviour) =
    if is_behaviour behaviour then (if is_wanting name behaviour then Err (at place E0212) else Ok tt) else Err (at place E0201)

-- whether `NAME : behaviour` stands there, and is there
abbrev pub extension : Place → List Raw → Checked (Unit {0})
extension place (name ∷ colon ∷ behaviour ∷ []) =
    if is_colon colon.kind then asked_for place (word_of name.kind) (word_of behaviour.kind) else Err (at place E0201)
extension place _ = Err (at place E0201)

-- ---- `#line`

-- the physical line of the last token of a line
abbrev pub last_line : ℕ → List Raw → ℕ
last_line line [] = line
last_line line (r ∷ more) = last_line r.place.line more

abbrev pub line_by : Place → ℕ → Option ℕ → ℕ → Checked Shift
line_by place after None file = Err (at place E0201)
line_by place after (Some number) file = Ok (record { after = after; number = number; file = file })

abbrev pub line_and_file : Place → ℕ → Option ℕ → Option ℕ → Checked Shift
line_and_file place after number None = Err (at place E0201)
line_and_file place after number (Some file) = line_by place after number file

-- what one number says, or two, each a literal
abbrev pub line_of : Place → ℕ → ℕ → Seen → Checked Shift
line_of place after file [] = Err (at place E0201)
line_of place after file (n ∷ []) = line_by place after (literal n.place n.spelled) file
line_of place after file (n ∷ m ∷ []) = line_and_file place after (literal n.place n.spelled) (literal m.place m.spelled)
line_of place after file (n ∷ m ∷ k ∷ more) = Err (at place E0201)

-- macros are replaced first
abbrev pub line : State → Place → List Raw → Checked State
line s place more =
    whole (traced s.macros 256 (map fresh more) s.left) >>= λ step.
    line_of place (last_line place.line more) s.macros.shift.file step.0 >>= λ shift. Ok (with_shift (with_left s step.1) shift)

-- ---- directives

abbrev pub tabled : State → Checked Entries → Checked State
tabled s table = table >>= λ table. Ok (with_table s table)

abbrev pub other : State → Place → List Raw → Option Other → Checked State
other s place more None = Err (at place E0201)
other s place more (Some Define) = tabled s (define place s.macros.table more)
other s place more (Some Undef) = tabled s (undef place s.macros.table more)
other s place more (Some Error) = Err (at place E0213)
other s place more (Some Pragma) = Ok s
other s place more (Some Extension) = extension place more >>= λ _. Ok s
other s place more (Some Version) = Err (at place E0211)
other s place more (Some Line) = line s place more

-- in text that is skipped only the directives of groups are looked at
abbrev pub unless_skipped : State → Place → List Raw → List ℕ → Option Conditional → Checked State
unless_skipped s place more word (Some conditional) = grouped s place more conditional
unless_skipped s place more word None = if is_live s.groups then other s place more (other_of word) else Ok s

abbrev pub directed_by : State → Place → List Raw → Option (List ℕ) → Checked State
directed_by s place more None = if is_live s.groups then Err (at place E0201) else Ok s
directed_by s place more (Some word) = unless_skipped s place more word (conditional_of word)

-- the state after a directive, of which this stands behind the `#`; `#` alone does nothing
unfoldable pub directed : State → Place → List Raw → Checked State
directed s place [] = Ok s
directed s place (r ∷ more) = directed_by s place more (word_of r.kind)
