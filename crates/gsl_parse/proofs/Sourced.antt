-- What is answered of a list of tokens, and of a feed.
use Rattle.std.proofs.Common.{◌≡◌, refl, sym, ap, ◌∙◌, length, List, Option, Some, None, Result, Ok, Err}
use Rattle.std.specs.Option.{option_map}
use Rattle.gsl_base.specs.Checked.{Checked, ◌>>=◌, Gives}
use Rattle.gsl_base.specs.declared.fault.Fault.{Fault}
use Rattle.gsl_base.specs.declared.fault.Refusal.{Refusal}
use Rattle.gsl_base.specs.declared.fault.Refusal.TheVariants as refusal
use Rattle.gsl_base.specs.declared.token.Token.{Token}
use Rattle.gsl_macros.specs.Expanding.{Trace}
use Rattle.gsl_nesting.specs.Passing.{at_start}
use Rattle.gsl_supply.specs.Coming.{Coming, live_in, all_of, all_by, too_deep_at, shallow, deep, before, seen}
use Rattle.gsl_supply.proofs.Supplied.{trace_all, deep_is, shallow_all}
use Rattle.gsl_syntax.specs.declared.statement.Global.{Global}
use Rattle.gsl_syntax.specs.Nesting.{first_deep}
use Rattle.gsl_expr.specs.Reading.{Tokens}
use Rattle.gsl_parse.specs.Units.{globals}
use Rattle.gsl_parse.specs.Judged.{place_of, judged, unit_of, Judges}
use Rattle.gsl_parse.specs.Fed.{unit_fed, unless_fault, answer}

abbrev from : Coming → Checked (List Global)
from c = all_of c >>= unit_of

judged_by : (ts : Tokens) (x : Option Token) → first_deep ts ≡ x → deep at_start ts ≡ option_map (λ (t : Token). too_deep_at t.place) x
    → unless_fault (deep at_start ts) (judged (shallow at_start ts) None (globals (length (shallow at_start ts)) (shallow at_start ts))) ≡ judged ts (option_map place_of x) (globals (length ts) ts)
judged_by ts (Some t) e h = ap (λ f. unless_fault f (judged (shallow at_start ts) None (globals (length (shallow at_start ts)) (shallow at_start ts)))) h
judged_by ts None e h =
    ap (λ f. unless_fault f (judged (shallow at_start ts) None (globals (length (shallow at_start ts)) (shallow at_start ts)))) h
    ∙ ap (λ (z : Tokens). judged z None (globals (length z) z)) (shallow_all at_start ts h)

deep_of : (ts : Tokens) → deep at_start ts ≡ option_map (λ (t : Token). too_deep_at t.place) (first_deep ts)
unfolding first_deep
deep_of ts = deep_is at_start ts

listed_by : (ts : Tokens) → unless_fault (deep at_start ts) (judged (shallow at_start ts) None (globals (length (shallow at_start ts)) (shallow at_start ts))) ≡ unit_of ts
listed_by ts = judged_by ts (first_deep ts) refl (deep_of ts)

source_by : (ts : Tokens) (x : Option Fault) → unless_fault (before x (deep at_start ts)) (judged (shallow at_start ts) None (globals (length (shallow at_start ts)) (shallow at_start ts))) ≡ (all_by ts x >>= unit_of)
source_by ts None = listed_by ts
source_by ts (Some f) = refl

pub source_answer : (c : Coming) → answer (seen at_start c) ≡ from c
unfolding answer seen
source_answer c = source_by c.tokens c.fault

pub list_answer : (ts : Tokens) → answer (seen at_start (record { tokens = ts; fault = None })) ≡ unit_of ts
list_answer ts = source_answer (record { tokens = ts; fault = None })

pub feed_answer : (trace : Trace) → answer (seen at_start (live_in trace)) ≡ unit_fed trace
unfolding unit_fed
feed_answer trace = source_answer (live_in trace) ∙ ap (λ (r : Checked Tokens). r >>= unit_of) (sym (trace_all trace))

-- what judges gives
pub given : {A : Type 0} (r : Result A Refusal) (a b : Checked A) → a ≡ b → Judges r a → Gives r b
given (Ok x) a b e j = sym e ∙ j
given (Err (refusal.Source f)) a b e j = sym e ∙ j
given (Err refusal.Memory) a b e j = tt
