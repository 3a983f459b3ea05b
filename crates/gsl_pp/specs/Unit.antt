-- The live tokens of a unit: `#version`, then text lines, of which the longest runs without a directive are segments, and directives.
use Rattle.std.specs.Prelude.{◌≡◌, ℕ, zero, suc, Bool, false, not, ◌&&◌, codes, List, [], ◌∷◌, ◌++◌, map, take, Option, Some, None, Ok, Err, if◌then◌else◌}
use Rattle.std.specs.List.{prefix_len}
use Rattle.std.specs.Str.{bytes_eq}
use Rattle.gsl_base.specs.Checked.{Checked, ◌>>=◌}
use Rattle.gsl_base.specs.declared.fault.Code.TheVariants.{E0201, E0203, E0211}
use Rattle.gsl_base.specs.declared.fault.Fault.{Fault}
use Rattle.gsl_base.specs.declared.fault.Place.{Place}
use Rattle.gsl_base.specs.declared.token.Raw.{Raw}
use Rattle.gsl_base.specs.declared.token.RawKind.{RawKind}
use Rattle.gsl_base.specs.declared.token.RawKind.TheVariants as raw
use Rattle.gsl_base.specs.declared.token.Token.{Token}
use Rattle.gsl_macros.specs.declared.stream.Hid.{Hid}
use Rattle.gsl_macros.specs.declared.table.Macro.TheVariants.{Line, File, Number}
use Rattle.gsl_macros.specs.Expanding.{Seen, Trace, at, fresh, ended, faulted, after, traced}
use Rattle.gsl_macros.specs.Spelling.{word_of, live}
use Rattle.gsl_macros.specs.Tables.{Entries}
use Rattle.gsl_pp.specs.declared.group.Group.{Group}
use Rattle.gsl_pp.specs.declared.state.State.{State}
use Rattle.gsl_pp.specs.Words.{is_text, is_hash}
use Rattle.gsl_pp.specs.Directives.{is_live, outermost, with_left, directed}

-- whether a directive begins with the token
abbrev pub is_directive : Raw → Bool
is_directive r = r.starts_line && is_hash r.kind

abbrev pub goes_on_text : Raw → Bool
goes_on_text r = not (is_directive r)

abbrev pub goes_on_line : Raw → Bool
goes_on_line r = not r.starts_line

-- ---- the unit behind `#version`

abbrev pub then_on : Seen → Checked ℕ → (ℕ → Trace) → Trace
then_on given (Ok left) later = record { given = given ++ (later left).given; ends = (later left).ends }
then_on given (Err fault) later = record { given = given; ends = Err fault }

-- goes on where a trace ends
unfoldable pub then_from : Trace → (ℕ → Trace) → Trace
then_from trace later = then_on trace.given trace.ends later

abbrev pub at_end : State → Option Group → Trace
at_end s None = ended s.left
at_end s (Some g) = faulted (at g.place E0203)

-- The unit after so many tokens. At the end no group is open; of several the one that was opened first counts.
unfoldable pub unit_from : List Raw → ℕ → State → Trace
unit_from [] skipped s = at_end s (outermost s.groups)
unit_from (r ∷ raws) (suc skipped) s = unit_from raws skipped s
unit_from (r ∷ raws) zero s =
    if is_directive r then
    (let n = prefix_len goes_on_line raws in after (λ s. unit_from raws n s) (directed s r.place (take n raws)))
    else
    (let n = prefix_len goes_on_text raws in
    if is_live s.groups then then_from (traced s.macros 256 (map fresh (r ∷ take n raws)) s.left) (λ left. unit_from raws n (with_left s left))
    else unit_from raws n s)

-- what is given out where some of a segment is still to be looked at, and then a part of the unit
unfoldable pub rest_of : State → Seen → List Raw → Trace
rest_of s tokens raws = then_from (traced s.macros 256 tokens s.left) (λ left. unit_from raws 0 (with_left s left))

-- ---- the start

-- the macros that every unit has
abbrev pub predefined : Entries
predefined =
    (codes "__LINE__", Line) ∷ (codes "__FILE__", File) ∷ (codes "__VERSION__", Number 450) ∷ (codes "GL_core_profile", Number 1) ∷ (codes "VULKAN", Number 100) ∷ []

-- the state of a unit of this number behind `#version`
abbrev pub initial : ℕ → State
initial unit = record { macros = record { table = predefined; shift = record { after = 0; number = 1; file = unit } }; groups = []; left = 1000000 }

abbrev pub is_number : List ℕ → RawKind → Bool
is_number text (raw.Word word) = false
is_number text (raw.Number number) = bytes_eq number text
is_number text (raw.Punct punct) = false
is_number text (raw.Stray byte) = false

-- nothing, or the profile, stands behind the number
abbrev pub profiled : Place → List Raw → Checked (Unit {0})
profiled place [] = Ok tt
profiled place (core ∷ []) = if is_text (codes "core") (word_of core.kind) then Ok tt else Err (at place E0211)
profiled place (core ∷ r ∷ more) = if is_text (codes "core") (word_of core.kind) then Err (at place E0201) else Err (at place E0211)

abbrev pub numbered : Place → List Raw → Checked (Unit {0})
numbered place [] = Err (at place E0211)
numbered place (n ∷ more) = if is_number (codes "450") n.kind then profiled place more else Err (at place E0211)

-- whether a directive is `#version 450` or `#version 450 core`, of which this stands behind the `#`
unfoldable pub versioned : Place → List Raw → Checked (Unit {0})
versioned place [] = Err (at place E0211)
versioned place (word ∷ more) = if is_text (codes "version") (word_of word.kind) then numbered place more else Err (at place E0211)

-- what a unit of this number gives out
unfoldable pub unit_of : ℕ → List Raw → Trace
unit_of unit [] = faulted (at (record { unit = unit; line = 1 }) E0211)
unit_of unit (r ∷ raws) =
    if is_directive r then (let n = prefix_len goes_on_line raws in after (λ _. unit_from raws n (initial unit)) (versioned r.place (take n raws)))
    else faulted (at r.place E0211)

-- ---- live tokens

-- a token is looked at as it is given out
unfoldable pub live_of : Hid → Checked Token
live_of t = live t.place t.spelled

unfoldable pub live_tokens : Seen → Checked ℕ → Checked (List Token)
live_tokens [] ends = ends >>= λ left. Ok []
live_tokens (t ∷ given) ends = live_of t >>= λ first. live_tokens given ends >>= λ others. Ok (first ∷ others)

abbrev pub live_trace : Trace → Checked (List Token)
live_trace trace = live_tokens trace.given trace.ends

-- the live tokens of a unit of this number, or its first fault
unfoldable pub preprocessed : ℕ → List Raw → Checked (List Token)
preprocessed unit raws = live_trace (unit_of unit raws)

-- how a unit of this number begins: with a fault, or with the state behind `#version` and what stands behind it
abbrev pub Starts : Option Fault → List Raw → ℕ → List Raw → Type 0
Starts None rest unit raws = unit_of unit raws ≡ unit_from rest 0 (initial unit)
Starts (Some fault) rest unit raws = unit_of unit raws ≡ faulted fault
