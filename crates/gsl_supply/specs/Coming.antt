-- Tokens that are still to come, and the fault that goes before any of theirs.
use Rattle.std.specs.Prelude.{ℕ, List, [], ◌∷◌, Option, Some, None, Ok, Err}
use Rattle.gsl_base.specs.Checked.{Checked}
use Rattle.gsl_base.specs.declared.fault.Code.TheVariants.{E0902}
use Rattle.gsl_base.specs.declared.fault.Fault.{Fault}
use Rattle.gsl_base.specs.declared.fault.Place.{Place}
use Rattle.gsl_base.specs.declared.token.Token.{Token}
use Rattle.gsl_macros.specs.Expanding.{Seen, Trace}
use Rattle.gsl_nesting.specs.Passing.{Passed, passed}
use Rattle.gsl_pp.specs.Unit.{live_of}
use Rattle.gsl_syntax.specs.Nesting.{goes_on}

pub record Coming : Type 0 where
  pub tokens : List Token
  pub fault : Option Fault

abbrev pub none_comes : Coming
none_comes = record { tokens = []; fault = None }

abbrev pub fault_comes : Fault → Coming
fault_comes fault = record { tokens = []; fault = Some fault }

-- a token, and then these
abbrev pub first_comes : Token → Coming → Coming
first_comes t c = record { tokens = t ∷ c.tokens; fault = c.fault }

-- ---- of a trace

abbrev pub looked : Checked Token → Coming → Coming
looked (Ok t) c = first_comes t c
looked (Err fault) c = fault_comes fault

abbrev pub ends_so : Checked ℕ → Coming
ends_so (Ok left) = none_comes
ends_so (Err fault) = fault_comes fault

-- each token is looked at as it is given out
unfoldable pub live_from : Seen → Checked ℕ → Coming
live_from [] ends = ends_so ends
live_from (t ∷ given) ends = looked (live_of t) (live_from given ends)

abbrev pub live_in : Trace → Coming
live_in trace = live_from trace.given trace.ends

-- what it all is: the tokens, or the fault
abbrev pub all_by : List Token → Option Fault → Checked (List Token)
all_by tokens None = Ok tokens
all_by tokens (Some fault) = Err fault

abbrev pub all_of : Coming → Checked (List Token)
all_of c = all_by c.tokens c.fault

-- ---- before the first token that nests too deeply

abbrev pub too_deep_at : Place → Fault
too_deep_at place = record { place = place; code = E0902 }

abbrev pub shallow_on : Token → (Passed → List Token) → Option Passed → List Token
shallow_on t later None = []
shallow_on t later (Some next) = t ∷ later next

-- the tokens before the first that nests too deeply, behind those that were passed
unfoldable pub shallow : Passed → List Token → List Token
shallow p [] = []
shallow p (t ∷ ts) = shallow_on t (λ next. shallow next ts) (passed p (goes_on ts) t.kind)

abbrev pub deep_on : Token → (Passed → Option Fault) → Option Passed → Option Fault
deep_on t later None = Some (too_deep_at t.place)
deep_on t later (Some next) = later next

-- the fault of the first that does
unfoldable pub deep : Passed → List Token → Option Fault
deep p [] = None
deep p (t ∷ ts) = deep_on t (λ next. deep next ts) (passed p (goes_on ts) t.kind)

-- the first, if there is one, else the second
abbrev pub before : Option Fault → Option Fault → Option Fault
before (Some fault) other = Some fault
before None other = other

-- what the grammar is asked of: tokens up to where they nest too deeply; the fault of the source goes first
unfoldable pub seen : Passed → Coming → Coming
seen p c = record { tokens = shallow p c.tokens; fault = before c.fault (deep p c.tokens) }
