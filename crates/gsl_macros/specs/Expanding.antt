-- Replacement of macros in a list of tokens, each with the macros that it hides (GLSL 4.50, 3.3).
use Rattle.std.specs.Prelude.{ℕ, zero, suc, ◌+◌, ◌-◌, Bool, true, false, ◌==◌, ◌||◌, ◌&&◌, nat_lt, nat_eq, List, [], ◌∷◌, ◌++◌, length, Option, Some, None, Ok, Err, if◌then◌else◌}
use Rattle.std.specs.Option.{option_map}
use Rattle.std.specs.Str.{bytes_eq}
use Rattle.gsl_base.specs.Checked.{Checked, ◌>>=◌}
use Rattle.gsl_base.specs.declared.fault.Code.{Code}
use Rattle.gsl_base.specs.declared.fault.Code.TheVariants.{E0207, E0208, E0901, E0902}
use Rattle.gsl_base.specs.declared.fault.Fault.{Fault}
use Rattle.gsl_base.specs.declared.fault.Place.{Place}
use Rattle.gsl_base.specs.declared.token.Raw.{Raw}
use Rattle.gsl_base.specs.declared.token.RawKind.{RawKind}
use Rattle.gsl_macros.specs.declared.spelled.Mark.{Mark}
use Rattle.gsl_macros.specs.declared.spelled.Mark.TheVariants.{Opens, Closes, Parts, Stands}
use Rattle.gsl_macros.specs.declared.stream.Hid.{Hid}
use Rattle.gsl_macros.specs.declared.table.Macro.{Macro}
use Rattle.gsl_macros.specs.declared.table.Macro.TheVariants.{Line, File, Number, Object, Function}
use Rattle.gsl_macros.specs.declared.table.Macros.{Macros}
use Rattle.gsl_macros.specs.Spelling.{number, word_of, mark_of}
use Rattle.gsl_macros.specs.Hiding.{among, shared, joined}
use Rattle.gsl_macros.specs.Tables.{Entries, found, line_shown}

-- tokens that are still to be looked at
abbrev pub Seen : Type 0
Seen = List Hid

-- a token that hides nothing
abbrev pub plain : Place → RawKind → Hid
plain place kind = record { spelled = kind; place = place; hides = []; fresh = false }

-- a token as it stands in a segment, where it was not counted yet
abbrev pub fresh : Raw → Hid
fresh raw = record { spelled = raw.kind; place = raw.place; hides = []; fresh = true }

abbrev pub at : Place → Code → Fault
at place code = record { place = place; code = code }

-- ---- which macro is replaced

-- a macro with its number
abbrev pub Numbered : Type 0
Numbered = ℕ × Macro

abbrev pub unless_hidden : List ℕ → Option Numbered → Option Numbered
unless_hidden hides None = None
unless_hidden hides (Some m) = if among m.0 hides then None else Some m

abbrev pub named_by : Entries → List ℕ → Option (List ℕ) → Option Numbered
named_by table hides None = None
named_by table hides (Some name) = unless_hidden hides (found table name)

-- the macro that a token names and does not hide
abbrev pub named : Entries → Hid → Option Numbered
named table t = named_by table t.hides (word_of t.spelled)

abbrev pub is_open : Mark → Bool
is_open Opens = true
is_open Closes = false
is_open Parts = false
is_open Stands = false

-- whether the next token is `(`
abbrev pub opens : Seen → Bool
opens [] = false
opens (t ∷ rest) = is_open (mark_of t.spelled)

-- whether a macro is replaced where this stands behind its name
abbrev pub is_used : Macro → Seen → Bool
is_used Line rest = true
is_used File rest = true
is_used (Number n) rest = true
is_used (Object body) rest = true
is_used (Function params body) rest = opens rest

abbrev pub if_used : Option Numbered → Seen → Option Numbered
if_used None rest = None
if_used (Some m) rest = if is_used m.1 rest then Some m else None

-- the macro that is replaced at a token, where this stands behind it
unfoldable pub use_of : Entries → Hid → Seen → Option Numbered
use_of table t rest = if_used (named table t) rest

-- ---- the count

-- what is left of the count once a token is taken: one that stands in the source and was not counted takes one
abbrev pub taken : Hid → ℕ → Checked ℕ
taken t left = if t.fresh then (if nat_lt 0 left then Ok (left - 1) else Err (at t.place E0901)) else Ok left

-- a token that was taken
abbrev pub settled : Hid → Hid
settled t = record { spelled = t.spelled; place = t.place; hides = t.hides; fresh = false }

-- ---- arguments

-- The first argument, the others, the hides of the parenthesis that closes them, what stands behind it, and what is left of
-- the count.
pub record Split : Type 0 where
  pub first : Seen
  pub others : List Seen
  pub hides : List ℕ
  pub rest : Seen
  pub left : ℕ

-- the token belongs to the first argument
abbrev pub within : Hid → Option Split → Option Split
within t later = option_map (λ (s : Split). record { first = settled t ∷ s.first; others = s.others; hides = s.hides; rest = s.rest; left = s.left }) later

-- an argument ends
abbrev pub ends_one : Option Split → Option Split
ends_one later = option_map (λ (s : Split). record { first = []; others = s.first ∷ s.others; hides = s.hides; rest = s.rest; left = s.left }) later

-- what is known of the arguments, if there is no fault before
abbrev pub Parted : Type 0
Parted = Checked (Option Split)

abbrev pub parted : (Option Split → Option Split) → Parted → Parted
parted f (Ok s) = Ok (f s)
parted f (Err fault) = Err fault

abbrev pub split_on : (ℕ → Parted) → Hid → Seen → ℕ → ℕ → Mark → Parted
split_on later t rest inner left Opens = parted (within t) (later (inner + 1))
split_on later t rest inner left Closes =
    if inner == 0 then Ok (Some (record { first = []; others = []; hides = t.hides; rest = rest; left = left })) else parted (within t) (later (inner - 1))
split_on later t rest inner left Parts = if inner == 0 then parted ends_one (later inner) else parted (within t) (later inner)
split_on later t rest inner left Stands = parted (within t) (later inner)

-- What stands behind `(`, split at top-level commas, where so many parentheses are open in the argument; none where the
-- segment ends first.
unfoldable pub split : Seen → ℕ → ℕ → Parted
split [] inner left = Ok None
split (t ∷ rest) inner left = taken t left >>= λ now. split_on (λ inner. split rest inner now) t rest inner now (mark_of t.spelled)

-- the same with the `(` in front
abbrev pub arguments : Seen → ℕ → Parted
arguments [] left = Ok None
arguments (open_ ∷ rest) left = taken open_ left >>= λ now. split rest 0 now

abbrev pub is_one_empty : List Seen → Bool
is_one_empty [] = false
is_one_empty ([] ∷ []) = true
is_one_empty ([] ∷ b ∷ args) = false
is_one_empty ((t ∷ a) ∷ args) = false

-- whether there are as many arguments as parameters; one empty argument serves a macro without parameters
abbrev pub fits : List (List ℕ) → List Seen → Bool
fits params args = nat_eq (length args) (length params) || (nat_eq (length params) 0 && is_one_empty args)

-- ---- one replacement

-- the tokens as a macro puts them: at the place of its use, and hiding more
abbrev pub hidden : Place → List ℕ → Seen → Seen
hidden place more [] = []
hidden place more (t ∷ tokens) = record { spelled = t.spelled; place = place; hides = joined t.hides more; fresh = false } ∷ hidden place more tokens

-- the argument of a parameter
abbrev pub arg_of : List (List ℕ) → List Seen → List ℕ → Option Seen
arg_of [] args name = None
arg_of (p ∷ params) [] name = None
arg_of (p ∷ params) (a ∷ args) name = if bytes_eq p name then Some a else arg_of params args name

abbrev pub arg_by : List (List ℕ) → List Seen → Option (List ℕ) → Option Seen
arg_by params args None = None
arg_by params args (Some name) = arg_of params args name

abbrev pub or_plain : Place → RawKind → Option Seen → Seen
or_plain place kind None = plain place kind ∷ []
or_plain place kind (Some arg) = arg

-- what a token of a body gives
abbrev pub piece : List (List ℕ) → List Seen → Place → RawKind → Seen
piece params args place kind = or_plain place kind (arg_by params args (word_of kind))

-- the body with the arguments in place
unfoldable pub filled : List (List ℕ) → List Seen → Place → List ℕ → List RawKind → Seen
filled params args place more [] = []
filled params args place more (kind ∷ body) = hidden place more (piece params args place kind) ++ filled params args place more body

-- what is looked at next, and what is left of the count
abbrev pub Step : Type 0
Step = Seen × ℕ

-- A replacement counts one and the tokens that it puts.
abbrev pub put : Place → Seen → Seen → ℕ → Checked Step
put place tokens rest left =
    if nat_lt (length tokens) left then Ok (tokens ++ rest, left - (length tokens + 1)) else Err (at place E0901)

-- expands an argument of a use at a place alone, with what is left of the count
abbrev pub Expander : Type 0
Expander = Place → Seen → ℕ → Checked Step

-- each argument, from left to right
unfoldable pub each : Expander → Place → List Seen → ℕ → Checked (List Seen × ℕ)
each expand place [] left = Ok ([], left)
each expand place (a ∷ args) left =
    expand place a left >>= λ first. each expand place args first.1 >>= λ others. Ok (first.0 ∷ others.0, others.1)

abbrev pub called_on : Expander → Hid → ℕ → List (List ℕ) → List RawKind → Option Split → Checked Step
called_on expand t number params body None = Err (at t.place E0208)
called_on expand t number params body (Some s) =
    if fits params (s.first ∷ s.others) then
    (each expand t.place (s.first ∷ s.others) s.left >>= λ r.
    put t.place (filled params r.0 t.place (number ∷ shared t.hides s.hides) body) s.rest r.1)
    else Err (at t.place E0207)

-- a function macro is used
abbrev pub called : Expander → Hid → ℕ → List (List ℕ) → List RawKind → Parted → Checked Step
called expand t number params body parted = parted >>= λ s. called_on expand t number params body s

-- a macro without parameters is used
abbrev pub object : Hid → ℕ → List RawKind → Seen → ℕ → Checked Step
object t number body rest left = put t.place (filled [] [] t.place (number ∷ t.hides) body) rest left

abbrev pub replaced_by : Expander → Macros → Hid → ℕ → Seen → ℕ → Macro → Checked Step
replaced_by expand macros t n rest left Line = object t n (number (line_shown macros.shift t.place.line) ∷ []) rest left
replaced_by expand macros t n rest left File = object t n (number macros.shift.file ∷ []) rest left
replaced_by expand macros t n rest left (Number value) = object t n (number value ∷ []) rest left
replaced_by expand macros t n rest left (Object body) = object t n body rest left
replaced_by expand macros t n rest left (Function params body) = called expand t n params body (arguments rest left)

-- the token, which names the macro, is replaced
unfoldable pub replaced : Expander → Macros → Hid → Numbered → Seen → ℕ → Checked Step
replaced expand macros t m rest left = replaced_by expand macros t m.0 rest left m.1

-- ---- moves

-- the tokens that are given out, and then the end with what is left of the count, or the first fault
pub record Trace : Type 0 where
  pub given : Seen
  pub ends : Checked ℕ

abbrev pub ended : ℕ → Trace
ended left = record { given = []; ends = Ok left }

abbrev pub faulted : Fault → Trace
faulted fault = record { given = []; ends = Err fault }

abbrev pub give : Hid → Trace → Trace
give t later = record { given = t ∷ later.given; ends = later.ends }

abbrev pub after : {A : Type 0} → (A → Trace) → Checked A → Trace
after later (Ok x) = later x
after later (Err fault) = faulted fault

abbrev pub move_by : (Seen → ℕ → Trace) → Expander → Macros → Hid → Seen → ℕ → Option Numbered → Trace
move_by later expand macros t rest left None = give t (later rest left)
move_by later expand macros t rest left (Some m) = after (λ (step : Step). later step.0 step.1) (replaced expand macros t m rest left)

-- One move: the first token is counted, and then given out or replaced.
abbrev pub move : (Seen → ℕ → Trace) → Expander → Macros → Hid → Seen → ℕ → Trace
move later expand macros t rest left = after (λ now. move_by later expand macros t rest now (use_of macros.table t rest)) (taken t left)

-- at most so many moves
unfoldable pub moves : Expander → Macros → ℕ → Seen → ℕ → Trace
moves expand macros zero tokens left = ended left
moves expand macros (suc n) [] left = ended left
moves expand macros (suc n) (t ∷ rest) left = move (moves expand macros n) expand macros t rest left

-- All moves: each takes a token away for good, or takes one and what it puts from the count.
abbrev pub run : Expander → Macros → Seen → ℕ → Trace
run expand macros tokens left = moves expand macros (left + length tokens) tokens left

abbrev pub whole : Trace → Checked Step
whole trace = trace.ends >>= λ left. Ok (trace.given, left)

-- expands arguments, which may nest so deep
unfoldable pub expander : Macros → ℕ → Expander
expander macros zero place tokens left = Err (at place E0902)
expander macros (suc depth) place tokens left = whole (run (expander macros depth) macros tokens left)

-- the expansion of tokens, in which arguments may nest so deep
unfoldable pub traced : Macros → ℕ → Seen → ℕ → Trace
traced macros depth tokens left = run (expander macros depth) macros tokens left
