-- What calls that change a list of tokens and a count have to do with the definition.
use Rattle.std.specs.Prelude.{◌≡◌, ℕ, ◌<◌, Bool, false, not, nat_lt, List, [], ◌∷◌, ◌++◌, length, if◌then◌else◌, Option, Some, None, is_some, Result, Ok, Err}
use Rattle.gsl_base.specs.Checked.{Checked, Refuses}
use Rattle.gsl_base.specs.declared.fault.Code.TheVariants.{E0901}
use Rattle.gsl_base.specs.declared.fault.Place.{Place}
use Rattle.gsl_base.specs.declared.fault.Refusal.{Refusal}
use Rattle.gsl_base.specs.declared.fault.Refusal.TheVariants.{Source, Memory}
use Rattle.gsl_base.specs.declared.token.Raw.{Raw}
use Rattle.gsl_macros.specs.declared.stream.Hid.{Hid}
use Rattle.gsl_macros.specs.Tables.{Entries}
use Rattle.gsl_macros.specs.Expanding.{Seen, Split, Parted, Trace, at, fresh, named, ended, faulted, give}

-- whether the next token of a segment names no macro
abbrev pub is_plain : Entries → List Raw → Bool
is_plain table [] = false
is_plain table (raw ∷ rest) = not (is_some (named table (fresh raw)))

-- Unless it wanted memory, the answer is what a call gave, with what it left behind.
abbrev pub Leaves : {A B : Type 0} → Result A Refusal → (A → B) → Checked B → Type 0
Leaves (Ok x) with answer = answer ≡ Ok (with x)
Leaves (Err refusal) with answer = Refuses refusal answer

-- What a call drew is the next of the tokens that a trace gives out, and another trace is what then follows; or this
-- much of the count is left at the end, where it stays.
abbrev pub Draws : Result (Option Hid) Refusal → Trace → Trace → ℕ → Type 0
Draws (Ok (Some t)) before later left = before ≡ give t later
Draws (Ok None) before later left = (before ≡ ended left) × (later ≡ before)
Draws (Err (Source fault)) before later left = before ≡ faulted fault
Draws (Err Memory) before later left = Unit {0}

-- the tokens, if they and one more are within what is left of the count
abbrev pub counted : Place → ℕ → Seen → Checked Seen
counted place left tokens = if nat_lt (length tokens) left then Ok tokens else Err (at place E0901)

-- arguments, the hides of the parenthesis that closes them, what stands behind it, and what is left of the count
abbrev pub Called : Type 0
Called = List Seen × List ℕ × Seen × ℕ

abbrev pub front_on : List Seen → Seen → Option Split → Option Called
front_on args arg None = None
front_on args arg (Some s) = Some (args ++ (arg ++ s.first) ∷ s.others, s.hides, s.rest, s.left)

-- all arguments, where some and a part of the next were split off before
abbrev pub front : List Seen → Seen → Parted → Checked (Option Called)
front args arg (Ok s) = Ok (front_on args arg s)
front args arg (Err fault) = Err fault

-- some of the list was made before
abbrev pub behind : {A : Type 0} → List A → Checked (List A × ℕ) → Checked (List A × ℕ)
behind made (Ok r) = Ok (made ++ r.0, r.1)
behind made (Err fault) = Err fault

-- less is left, of the count and the tokens together, where a token was drawn
abbrev pub Less : Result (Option Hid) Refusal → ℕ → ℕ → Type 0
Less (Ok (Some t)) now before = now < before
Less (Ok None) now before = Unit {0}
Less (Err refusal) now before = Unit {0}
