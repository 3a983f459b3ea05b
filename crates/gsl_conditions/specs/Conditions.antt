-- Conditions of `#if` and `#elif`: `defined` is replaced first, then macros; then the limit on nesting counts, then the form, then
-- the value.
use Rattle.std.specs.Prelude.{ℕ, zero, suc, ◌+◌, ◌-◌, Bool, true, false, not, ◌==◌, List, [], ◌∷◌, Option, Some, None, Ok, Err, if◌then◌else◌}
use Rattle.std.specs.Option.{is_some}
use Rattle.gsl_base.specs.Checked.{Checked, ◌>>=◌}
use Rattle.gsl_base.specs.declared.fault.Code.TheVariants.{E0205, E0902}
use Rattle.gsl_base.specs.declared.fault.Place.{Place}
use Rattle.gsl_base.specs.declared.token.Punct.{Punct}
use Rattle.gsl_base.specs.declared.token.Raw.{Raw}
use Rattle.gsl_macros.specs.declared.spelled.Mark.TheVariants.{Opens, Closes, Parts, Stands}
use Rattle.gsl_macros.specs.declared.spelled.Mark.{Mark}
use Rattle.gsl_macros.specs.declared.stream.Hid.{Hid}
use Rattle.gsl_macros.specs.declared.table.Macros.{Macros}
use Rattle.gsl_macros.specs.Expanding.{Seen, at, plain, fresh, taken, traced, whole}
use Rattle.gsl_macros.specs.Spelling.{number, word_of, punct_of, mark_of}
use Rattle.gsl_macros.specs.Tables.{Entries, found}
use Rattle.gsl_conditions.specs.Operators.{nests}
use Rattle.gsl_conditions.specs.Values.{Value, truth}
use Rattle.gsl_conditions.specs.Reading.{is_defined, start, read}

-- ---- `defined`

abbrev pub is_defined_on : Option (List ℕ) → Bool
is_defined_on None = false
is_defined_on (Some word) = is_defined word

-- a name that is asked for, and how many tokens ask for it
abbrev pub Asked : Type 0
Asked = Option (List ℕ × ℕ)

abbrev pub if_closed : Option (List ℕ) → Mark → Asked
if_closed None mark = None
if_closed (Some name) Closes = Some (name, 3)
if_closed (Some name) Opens = None
if_closed (Some name) Parts = None
if_closed (Some name) Stands = None

abbrev pub asked_within : List Raw → Asked
asked_within [] = None
asked_within (a ∷ []) = None
asked_within (a ∷ b ∷ raws) = if_closed (word_of a.kind) (mark_of b.kind)

abbrev pub asked_by : List Raw → Option (List ℕ) → Mark → Asked
asked_by raws (Some name) mark = Some (name, 1)
asked_by raws None Opens = asked_within raws
asked_by raws None Closes = None
asked_by raws None Parts = None
asked_by raws None Stands = None

-- what stands behind `defined`: a word, or a word in parentheses
abbrev pub asked : List Raw → Asked
asked [] = None
asked (a ∷ raws) = asked_by raws (word_of a.kind) (mark_of a.kind)

abbrev pub answer : Entries → List ℕ → ℕ
answer table name = truth (is_some (found table name))

abbrev pub unasked_on : Entries → (ℕ → Seen) → Raw → Asked → Seen
unasked_on table later r None = plain r.place r.kind ∷ later 0
unasked_on table later r (Some a) = plain r.place (number (answer table a.0)) ∷ later a.1

-- The tokens of a condition once `defined` is replaced, after so many tokens; one that is malformed is left.
unfoldable pub unasked : Entries → List Raw → ℕ → Seen
unasked table [] skipped = []
unasked table (r ∷ raws) (suc skipped) = unasked table raws skipped
unasked table (r ∷ raws) zero =
    if is_defined_on (word_of r.kind) then unasked_on table (unasked table raws) r (asked raws) else plain r.place r.kind ∷ unasked table raws 0

-- what is left of the count once all of the tokens are taken
unfoldable pub counted : List Raw → ℕ → Checked ℕ
counted [] left = Ok left
counted (r ∷ raws) left = taken (fresh r) left >>= λ now. counted raws now

-- ---- the condition

abbrev pub nests_on : Option Punct → Bool
nests_on None = false
nests_on (Some punct) = nests punct

-- the first token that passes the limit on nesting, of which so much is left
unfoldable pub too_nested : ℕ → Seen → Option Hid
too_nested left [] = None
too_nested left (t ∷ tokens) =
    if nests_on (punct_of t.spelled) then (if left == 0 then Some t else too_nested (left - 1) tokens) else too_nested left tokens

abbrev pub decided : Place → Option Value → Checked Bool
decided place None = Err (at place E0205)
decided place (Some x) = x >>= λ n. Ok (not (n == 0))

abbrev pub judged_on : Place → Seen → Option Hid → Checked Bool
judged_on place tokens None = decided place (read start tokens)
judged_on place tokens (Some t) = Err (at t.place E0902)

-- whether a condition holds, once macros are replaced in it
abbrev pub judged : Place → Seen → Checked Bool
judged place tokens = judged_on place tokens (too_nested 256 tokens)

-- whether a condition holds, and what is left of the count
unfoldable pub condition : Macros → Place → List Raw → ℕ → Checked (Bool × ℕ)
condition macros place raws left =
    counted raws left >>= λ now. whole (traced macros 256 (unasked macros.table raws 0) now) >>= λ step. judged place step.0 >>= λ b. Ok (b, step.1)
