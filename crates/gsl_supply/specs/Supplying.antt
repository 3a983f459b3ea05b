-- What a supply still has to give.
use Rattle.std.specs.Prelude.{◌≡◌, ◌⊎◌, Bool, false, ◌+◌, List, [], ◌++◌, Option, Some, None, Result, Ok, Err}
use Rattle.gsl_base.specs.declared.fault.Fault.{Fault}
use Rattle.gsl_base.specs.declared.fault.Place.{Place}
use Rattle.gsl_base.specs.declared.fault.Refusal.{Refusal}
use Rattle.gsl_base.specs.declared.fault.Refusal.TheVariants as refusal
use Rattle.gsl_base.specs.declared.memory.Memory.{Memory as WantOfMemory}
use Rattle.gsl_base.specs.declared.token.Token.{Token}
use Rattle.gsl_nesting.specs.Passing.{Passed}
use Rattle.gsl_pp.specs.Feeding.{feeds}
use Rattle.gsl_syntax.specs.Nesting.{is_continuation}
use Rattle.gsl_supply.specs.declared.source.Source.{Source}
use Rattle.gsl_supply.specs.declared.supply.Supply.{Supply}
use Rattle.gsl_supply.specs.Coming.{Coming, none_comes, fault_comes, first_comes, live_in, too_deep_at, before, seen}

-- tokens, and then others
abbrev pub behind_all : List Token → Coming → Coming
behind_all ts c = record { tokens = ts ++ c.tokens; fault = c.fault }

-- what is not drawn yet
unfoldable pub undrawn : Source → Coming
undrawn s = behind_all s.listed.now (live_in (feeds s.feed))

-- nothing is drawn behind a fault
abbrev pub unless : Option Fault → Coming → Coming
unless None c = c
unless (Some fault) c = fault_comes fault

-- what comes behind the token that was drawn and not given, or nothing where there is none
abbrev pub held_first : Option Token → Coming → Coming
held_first None c = record { tokens = []; fault = c.fault }
held_first (Some t) c = first_comes t c

-- the fault of a token that nests too deeply
abbrev pub depth_fault : Option Passed → Place → Option Fault
depth_fault None place = Some (too_deep_at place)
depth_fault (Some p) place = None

-- what is given of it: nothing where a token at this place nests too deeply
abbrev pub given_of : Option Passed → Place → Coming → Coming
given_of (Some p) place c = seen p c
given_of None place c = record { tokens = []; fault = before c.fault (Some (too_deep_at place)) }

-- what was drawn and not given, and what is still drawn
abbrev pub waits : Option Token → Option Fault → Coming → Coming
waits held fault later = held_first held (unless fault later)

-- what a supply still has to give, and the fault that goes before any of the grammar's
unfoldable pub comes : Supply → Coming
comes s = given_of s.nesting s.place (waits s.held s.fault (undrawn s.source))

abbrev pub goes_on_with : Option Token → Bool
goes_on_with None = false
goes_on_with (Some t) = is_continuation t.kind

-- A token was drawn, or there is none any more, or a fault in its place.
abbrev pub Drawn : Result (Option Token) Refusal → Coming → Coming → Type 0
Drawn (Ok (Some t)) old new = old ≡ first_comes t new
Drawn (Ok None) old new = (old ≡ none_comes) × (new ≡ none_comes)
Drawn (Err (refusal.Source fault)) old new = old ≡ fault_comes fault
Drawn (Err refusal.Memory) old new = Unit {0}

-- The next token nests too deeply, or there is none.
abbrev pub IsSpent : Supply → Type 0
IsSpent s = (s.nesting ≡ None) ⊎ (s.held ≡ None)

-- A token was given, one more than before; or there is none any more, and all is as before.
abbrev pub Given : Result (Option Token) WantOfMemory → Supply → Supply → Type 0
Given (Ok (Some t)) old new = (comes old ≡ first_comes t (comes new)) × (new.count ≡ old.count + 1)
Given (Ok None) old new = ((comes old).tokens ≡ []) × (comes new ≡ comes old) × (new.count ≡ old.count) × IsSpent new
Given (Err memory) old new = Unit {0}
