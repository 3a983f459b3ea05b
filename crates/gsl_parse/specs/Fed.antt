-- What is answered of tokens that are drawn one at a time.
use Rattle.std.specs.Prelude.{◌≡◌, ⊤, ◌⊎◌, ◌<◌, ◌^◌, Bool, true, false, List, [], ◌∷◌, length, Option, Some, None, Result, Ok, Err}
use Rattle.gsl_base.specs.Checked.{Checked, ◌>>=◌}
use Rattle.gsl_base.specs.declared.fault.Place.{Place}
use Rattle.gsl_base.specs.declared.fault.Fault.{Fault}
use Rattle.gsl_base.specs.declared.fault.Code.TheVariants as code
use Rattle.gsl_base.specs.declared.fault.Refusal.{Refusal}
use Rattle.gsl_base.specs.declared.fault.Refusal.TheVariants as refusal
use Rattle.gsl_base.specs.declared.token.Token.{Token}
use Rattle.gsl_macros.specs.Expanding.{Trace}
use Rattle.gsl_pp.specs.Unit.{live_trace}
use Rattle.gsl_supply.specs.Coming.{Coming}
use Rattle.gsl_syntax.specs.declared.statement.Global.{Global}
use Rattle.gsl_expr.specs.InHand.{place_of_next}
use Rattle.gsl_expr.specs.Reading.{Tokens, Ahead}
use Rattle.gsl_parse.specs.Units.{globals}
use Rattle.gsl_parse.specs.Judged.{judged, unit_of}

-- the unit that all of the tokens of a feed read as, or the first fault
unfoldable pub unit_fed : Trace → Checked (List Global)
unit_fed trace = live_trace trace >>= unit_of

-- ---- how the code answers it

abbrev pub unless_fault : {A : Type 0} → Option Fault → Result A Fault → Result A Fault
unless_fault None answer = answer
unless_fault (Some fault) answer = Err fault

-- the fault that goes before any of the grammar's, or what the grammar says
unfoldable pub answer : Coming → Checked (List Global)
answer c = unless_fault c.fault (judged c.tokens None (globals (length c.tokens) c.tokens))

-- No token is left, or some are.
abbrev pub Ends : Bool → Tokens → Type 0
Ends true ts = ts ≡ []
Ends false ts = (t : Token) × (more : Tokens) × (ts ≡ t ∷ more)

abbrev pub fault_or : Option Fault → Place → Fault
fault_or (Some fault) place = fault
fault_or None place = record { place = place; code = code.E0301 }

-- The fault is that which goes first, or stands at the next token or the last.
abbrev pub Refuses : Refusal → Ahead → Type 0
Refuses (refusal.Source fault) a = (a.kept.total < 2 ^ 64) × (fault ≡ fault_or a.kept.fault (place_of_next a))
Refuses refusal.Memory a = ⊤

-- The tree is answered, or a fault goes first.
abbrev pub Accepts : Result (List Global) Refusal → List Global → Ahead → Type 0
Accepts (Ok found) tree a = (a.kept.total < 2 ^ 64) × (a.kept.fault ≡ None) × (found ≡ tree)
Accepts (Err (refusal.Source fault)) tree a = a.kept.fault ≡ Some fault
Accepts (Err refusal.Memory) tree a = ⊤

-- What is answered where a tree was read.
abbrev pub Over : Result (List Global) Refusal → List Global → Ahead → Type 0
Over (Ok found) tree a = (a.left ≡ []) × Accepts (Ok found) tree a
Over (Err r) tree a = ((a.left ≡ []) × Accepts (Err r) tree a) ⊎ ((t : Token) × (more : Tokens) × (a.left ≡ t ∷ more) × Refuses r a)
