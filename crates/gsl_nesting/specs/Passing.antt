-- Tokens passed one by one.
use Rattle.std.specs.Prelude.{Bool, false, Option, Some, None, nat_lt, if◌then◌else◌}
use Rattle.gsl_base.specs.declared.token.Kind.{Kind}
use Rattle.gsl_syntax.specs.Nesting.{Counters, at_first, weight, begins_list, before_label, counted}

-- what is known behind a token: whether it begins a list, whether a label may stand behind it, and the counters
pub record Passed : Type 0 where
  pub list : Bool
  pub label : Bool
  pub counters : Counters

abbrev pub at_start : Passed
at_start = record { list = false; label = false; counters = at_first }

-- what is known, unless the weight passes 256
abbrev pub within : Bool → Bool → Counters → Option Passed
within list label n = if nat_lt 256 (weight n) then None else Some (record { list = list; label = label; counters = n })

-- behind one token more, unless the weight passes 256 there
abbrev pub passed : Passed → Bool → Kind → Option Passed
passed p on kind = within (begins_list kind) (before_label kind) (counted p.list p.label on kind p.counters)

-- the same where the weight may have passed it before
abbrev pub passed_on : Option Passed → Bool → Kind → Option Passed
passed_on None on kind = None
passed_on (Some p) on kind = passed p on kind
