-- What a feed still has to give out.
use Rattle.std.specs.Prelude.{◌≡◌, ◌⊎◌, ℕ, List, ◌++◌, Option, Some, None, Result, Ok, Err}
use Rattle.gsl_base.specs.Checked.{Checked}
use Rattle.gsl_base.specs.declared.fault.Fault.{Fault}
use Rattle.gsl_base.specs.declared.fault.Refusal.{Refusal}
use Rattle.gsl_base.specs.declared.fault.Refusal.TheVariants.{Source, Memory}
use Rattle.gsl_base.specs.declared.token.Token.{Token}
use Rattle.gsl_macros.specs.declared.stream.Hid.{Hid}
use Rattle.gsl_macros.specs.Expanding.{Trace, ended, faulted, give}
use Rattle.gsl_pp.specs.declared.feed.Feed.{Feed}
use Rattle.gsl_pp.specs.Unit.{rest_of, live_of}

-- what stands behind the tokens that were given out, where nothing was refused
abbrev pub goes_on : Feed → Trace
goes_on f = rest_of f.state f.stream f.rest

abbrev pub feeds_on : Feed → Option Refusal → Trace
feeds_on f None = goes_on f
feeds_on f (Some (Source fault)) = faulted fault
feeds_on f (Some Memory) = goes_on f

-- what a feed still has to give out
abbrev pub feeds : Feed → Trace
feeds f = feeds_on f f.refused

-- the fault is met next
abbrev pub Faults : Fault → Trace → Type 0
Faults fault before = (before ≡ faulted fault) ⊎ ((t : Hid) × (later : Trace) × (before ≡ give t later) × (live_of t ≡ Err fault))

-- What a feed answers is the next of the tokens that are given out, looked at, and another trace is what follows; or none
-- is left, now and ever; or there is a fault at the next token or in place of it.
abbrev pub Tells : Result (Option Token) Refusal → Trace → Trace → Type 0
Tells (Ok (Some x)) before later = (t : Hid) × (before ≡ give t later) × (live_of t ≡ Ok x)
Tells (Ok None) before later = (left : ℕ) × (before ≡ ended left) × (later ≡ before)
Tells (Err (Source fault)) before later = Faults fault before
Tells (Err Memory) before later = Unit {0}

-- after a step that gives nothing out
abbrev pub Turns : {A : Type 0} → Result A Refusal → Trace → Trace → Type 0
Turns (Ok x) before later = before ≡ later
Turns (Err (Source fault)) before later = before ≡ faulted fault
Turns (Err Memory) before later = Unit {0}

-- A token of this segment was drawn; or it has no more, and this is what follows.
abbrev pub DrawsHere : Result (Option Hid) Refusal → Trace → Trace → Trace → Type 0
DrawsHere (Ok (Some t)) before later next = before ≡ give t later
DrawsHere (Ok None) before later next = (before ≡ next) × (later ≡ next)
DrawsHere (Err (Source fault)) before later next = before ≡ faulted fault
DrawsHere (Err Memory) before later next = Unit {0}

-- some of the list was made before
abbrev pub onto : {A : Type 0} → List A → Checked (List A) → Checked (List A)
onto made (Ok later) = Ok (made ++ later)
onto made (Err fault) = Err fault
