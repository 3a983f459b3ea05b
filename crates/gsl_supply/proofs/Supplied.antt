-- What comes, step by step.
use Rattle.std.proofs.Common.{◌≡◌, ℕ, ◌⊎◌, inl, inr, Bool, true, false, List, [], ◌∷◌, Option, Some, None, is_some, Result, Ok, Err, nat_lt, if◌then◌else◌, refl, sym, ap, ◌∙◌, subst, append-nil}
use Rattle.std.specs.Option.{option_map}
use Rattle.gsl_base.specs.Checked.{Checked, ◌>>=◌}
use Rattle.gsl_base.specs.declared.fault.Fault.{Fault}
use Rattle.gsl_base.specs.declared.fault.Place.{Place}
use Rattle.gsl_base.specs.declared.fault.Refusal.{Refusal}
use Rattle.gsl_base.specs.declared.fault.Refusal.TheVariants as refusal
use Rattle.gsl_base.specs.declared.token.Token.{Token}
use Rattle.gsl_macros.specs.Expanding.{Trace, ended, faulted, give}
use Rattle.gsl_macros.specs.declared.stream.Hid.{Hid}
use Rattle.gsl_nesting.specs.Passing.{Passed, passed, passed_on}
use Rattle.gsl_pp.specs.Feeding.{Tells, Faults}
use Rattle.gsl_pp.specs.Unit.{live_of, live_tokens, live_trace}
use Rattle.gsl_syntax.specs.Nesting.{Counters, weight, begins_list, before_label, goes_on, counted, deep_from}
use Rattle.gsl_supply.specs.Coming.{Coming, none_comes, fault_comes, first_comes, looked, ends_so, live_from, live_in, all_by, all_of, too_deep_at, shallow_on, shallow, deep_on, deep, before, seen}
use Rattle.gsl_supply.specs.Supplying.{behind_all, unless, held_first, given_of, waits, depth_fault, goes_on_with, Drawn}

-- ---- of a feed

live_give : (t : Hid) (later : Trace) → live_in (give t later) ≡ looked (live_of t) (live_in later)
unfolding live_from
live_give t later = refl

live_ended : (left : ℕ) → live_in (ended left) ≡ none_comes
unfolding live_from
live_ended left = refl

live_faulted : (fault : Fault) → live_in (faulted fault) ≡ fault_comes fault
unfolding live_from
live_faulted fault = refl

met : (fault : Fault) (old : Trace) → Faults fault old → live_in old ≡ fault_comes fault
met fault old (inl e) = ap (λ (t : Trace). live_in t) e ∙ live_faulted fault
met fault old (inr w) = ap (λ (t : Trace). live_in t) w.2 ∙ live_give w.0 w.1 ∙ ap (λ x. looked x (live_in w.1)) w.3

pub fed : (r : Result (Option Token) Refusal) (old new : Trace) → Tells r old new → Drawn r (live_in old) (live_in new)
fed (Ok (Some x)) old new h = ap (λ (t : Trace). live_in t) h.1 ∙ live_give h.0 new ∙ ap (λ y. looked y (live_in new)) h.2
fed (Ok None) old new h =
    let none : live_in old ≡ none_comes = ap (λ (t : Trace). live_in t) h.1 ∙ live_ended h.0 in (none, ap (λ (t : Trace). live_in t) h.2 ∙ none)
fed (Err (refusal.Source fault)) old new h = met fault old h
fed (Err refusal.Memory) old new h = tt

fed_alone : (c : Coming) → behind_all [] c ≡ c
fed_alone c = refl

pub drawn_fed : (listed : List Token) (r : Result (Option Token) Refusal) (old new : Trace) → listed ≡ [] → Tells r old new → Drawn r (behind_all listed (live_in old)) (behind_all listed (live_in new))
drawn_fed listed r old new e h = subst (λ (ts : List Token). Drawn r (behind_all ts (live_in old)) (behind_all ts (live_in new))) (sym e) (fed r old new h)

pub drawn_listed : (listed rest : List Token) (t x : Token) (c : Coming) → listed ≡ t ∷ rest → x ≡ t → behind_all listed c ≡ first_comes x (behind_all rest c)
drawn_listed listed rest t x c e h = ap (λ (ts : List Token). behind_all ts c) e ∙ ap (λ (y : Token). first_comes y (behind_all rest c)) (sym h)

pub listed_all : (listed : List Token) (trace : Trace) → trace ≡ ended 0 → behind_all listed (live_in trace) ≡ record { tokens = listed; fault = None }
listed_all listed trace e =
    ap (λ (t : Trace). behind_all listed (live_in t)) e ∙ ap (behind_all listed) (live_ended 0)
    ∙ ap (λ (ts : List Token). (let c : Coming = record { tokens = ts; fault = None } in c)) (append-nil listed)

-- ---- one token more

pub seen_more : (p q : Passed) (t : Token) (c : Coming) → passed p (goes_on c.tokens) t.kind ≡ Some q → seen p (first_comes t c) ≡ first_comes t (seen q c)
unfolding seen shallow deep
seen_more p q t c h =
    let F : Option Passed → Coming = λ x. record { tokens = shallow_on t (λ next. shallow next c.tokens) x; fault = before c.fault (deep_on t (λ next. deep next c.tokens) x) } in
    ap F h

pub seen_deep : (p : Passed) (t : Token) (c : Coming) → passed p (goes_on c.tokens) t.kind ≡ None → seen p (first_comes t c) ≡ record { tokens = []; fault = before c.fault (Some (too_deep_at t.place)) }
unfolding seen shallow deep
seen_deep p t c h =
    let F : Option Passed → Coming = λ x. record { tokens = shallow_on t (λ next. shallow next c.tokens) x; fault = before c.fault (deep_on t (λ next. deep next c.tokens) x) } in
    ap F h

goes_on_held : (held : Option Token) (fault : Option Fault) (later : Coming) → goes_on (waits held fault later).tokens ≡ goes_on_with held
goes_on_held None fault later = refl
goes_on_held (Some t) fault later = refl

module _ (p : Passed) (t : Token) (place : Place) (fault after : Option Fault) (held : Option Token) (later more : Coming) (e : waits held after more ≡ unless fault later) where
  now : (x : Option Passed) → passed p (goes_on_with held) t.kind ≡ x → passed p (goes_on (waits held after more).tokens) t.kind ≡ x
  now x h = ap (λ b. passed p b t.kind) (goes_on_held held after more) ∙ h

  pub given_more : (q : Passed) (at : Place) → passed p (goes_on_with held) t.kind ≡ Some q
      → given_of (Some p) place (waits (Some t) fault later) ≡ first_comes t (given_of (Some q) at (waits held after more))
  given_more q at h = ap (λ (c : Coming). seen p (first_comes t c)) (sym e) ∙ seen_more p q t (waits held after more) (now (Some q) h)

  pub given_deep : passed p (goes_on_with held) t.kind ≡ None → given_of None t.place (waits held after more) ≡ given_of (Some p) place (waits (Some t) fault later)
  given_deep h = sym (ap (λ (c : Coming). seen p (first_comes t c)) (sym e) ∙ seen_deep p t (waits held after more) (now None h))

-- the same of a supply whose next token is this one
module _ (p : Passed) (t : Token) (place : Place) (nesting : Option Passed) (holds : Option Token) (fault after : Option Fault) (held : Option Token) (later more : Coming)
    (n : nesting ≡ Some p) (h : holds ≡ Some t) (e : waits held after more ≡ unless fault later) where
  is_at : given_of nesting place (waits holds fault later) ≡ given_of (Some p) place (waits (Some t) fault later)
  is_at = ap (λ x. given_of x place (waits holds fault later)) n ∙ ap (λ x. given_of (Some p) place (waits x fault later)) h

  pub next_given : (q : Passed) (at : Place) → passed p (goes_on_with held) t.kind ≡ Some q
      → given_of nesting place (waits holds fault later) ≡ first_comes t (given_of (Some q) at (waits held after more))
  next_given q at g = is_at ∙ given_more p t place fault after held later more e q at g

  pub next_deep : (now : Option Passed) → now ≡ None → passed p (goes_on_with held) t.kind ≡ None
      → ((given_of nesting place (waits holds fault later)).tokens ≡ []) × (given_of now t.place (waits held after more) ≡ given_of nesting place (waits holds fault later))
  next_deep now none g =
      let same : given_of None t.place (waits held after more) ≡ given_of nesting place (waits holds fault later) = given_deep p t place fault after held later more e g ∙ sym is_at in
      (sym (ap (λ (c : Coming). c.tokens) same), ap (λ x. given_of x t.place (waits held after more)) none ∙ same)

pub none_seen : (p : Passed) (place : Place) (fault : Option Fault) (later : Coming) → (given_of (Some p) place (waits None fault later)).tokens ≡ []
unfolding seen shallow
none_seen p place fault later = refl

-- ---- at the end

held_fault : (held : Option Token) (c : Coming) → (held_first held c).fault ≡ c.fault
held_fault None c = refl
held_fault (Some t) c = refl

-- where the next token nests too deeply, or there is none
spent_fault : (nesting : Option Passed) (place : Place) (held : Option Token) (c : Coming) → (nesting ≡ None) ⊎ (held ≡ None)
    → (given_of nesting place (held_first held c)).fault ≡ before c.fault (depth_fault nesting place)
unfolding seen deep
spent_fault None place None c s = refl
spent_fault None place (Some t) c s = refl
spent_fault (Some p) place None c s = refl
spent_fault (Some p) place (Some t) c (inl e) = absurd cc
spent_fault (Some p) place (Some t) c (inr e) = absurd cc

module _ (nesting : Option Passed) (place : Place) (held : Option Token) (fault : Option Fault) (later : Coming) (s : (nesting ≡ None) ⊎ (held ≡ None)) where
  pub met_fault : (f : Fault) → fault ≡ Some f → Some f ≡ (given_of nesting place (waits held fault later)).fault
  met_fault f e = sym (spent_fault nesting place held (unless fault later) s ∙ ap (λ x. before (unless x later).fault (depth_fault nesting place)) e)

  pub drawn_fault : (x : Option Fault) → fault ≡ None → x ≡ later.fault → before x (depth_fault nesting place) ≡ (given_of nesting place (waits held fault later)).fault
  drawn_fault x e h =
      ap (λ y. before y (depth_fault nesting place)) h
      ∙ sym (spent_fault nesting place held (unless fault later) s ∙ ap (λ x. before (unless x later).fault (depth_fault nesting place)) e)

-- none is given, and all stays
pub none_deep : (place : Place) (nesting now : Option Passed) (c : Coming) → nesting ≡ None → now ≡ None → ((given_of nesting place c).tokens ≡ []) × (given_of now place c ≡ given_of nesting place c)
none_deep place nesting now c e h = (ap (λ n. (given_of n place c).tokens) e, ap (λ n. given_of n place c) (h ∙ sym e))

pub none_held : (place : Place) (p : Passed) (nesting now : Option Passed) (held after : Option Token) (fault : Option Fault) (later : Coming) → nesting ≡ Some p → now ≡ nesting → held ≡ None → after ≡ None
    → ((given_of nesting place (waits held fault later)).tokens ≡ []) × (given_of now place (waits after fault later) ≡ given_of nesting place (waits held fault later))
none_held place p nesting now held after fault later n same h a = (
  ap (λ x. (given_of nesting place (waits x fault later)).tokens) h ∙ ap (λ x. (given_of x place (waits None fault later)).tokens) n ∙ none_seen p place fault later,
  ap (λ x. given_of x place (waits after fault later)) same ∙ ap (λ x. given_of nesting place (waits x fault later)) (a ∙ sym h),
)

-- ---- by whether a token nested too deeply before, and whether the next one does

none_of : (x : Option Passed) → false ≡ is_some x → x ≡ None
none_of None e = refl
none_of (Some p) e = absurd cc

pub depth_within : (nesting : Option Passed) (place : Place) → true ≡ is_some nesting → None ≡ depth_fault nesting place
depth_within None place e = absurd cc
depth_within (Some p) place e = refl

pub depth_beyond : (nesting : Option Passed) (place : Place) → false ≡ is_some nesting → Some (too_deep_at place) ≡ depth_fault nesting place
depth_beyond None place e = refl
depth_beyond (Some p) place e = absurd cc

pub none_beyond : (place : Place) (nesting : Option Passed) (c : Coming) → false ≡ is_some nesting
    → ((given_of nesting place c).tokens ≡ []) × (given_of nesting place c ≡ given_of nesting place c) × (nesting ≡ None)
none_beyond place nesting c e = let none = none_of nesting e in let n = none_deep place nesting nesting c none none in (n.0, n.1, none)

pub none_within : (place : Place) (nesting : Option Passed) (held after : Option Token) (fault : Option Fault) (later : Coming) → true ≡ is_some nesting → held ≡ None → after ≡ None
    → ((given_of nesting place (waits held fault later)).tokens ≡ []) × (given_of nesting place (waits after fault later) ≡ given_of nesting place (waits held fault later))
none_within place None held after fault later e h a = absurd cc
none_within place (Some p) held after fault later e h a = none_held place p (Some p) (Some p) held after fault later refl refl h a

module _ (t : Token) (place : Place) (holds : Option Token) (fault after : Option Fault) (held : Option Token) (later more : Coming) (h : holds ≡ Some t) (e : waits held after more ≡ unless fault later)
    (on : Bool) (g : on ≡ goes_on_with held) where
  passes : (p : Passed) (was now : Option Passed) → was ≡ Some p → now ≡ passed_on was on t.kind → passed p (goes_on_with held) t.kind ≡ now
  passes p was now w n = ap (λ b. passed p b t.kind) (sym g) ∙ sym (ap (λ x. passed_on x on t.kind) w) ∙ sym n

  pub passed_given : (at : Place) (nesting was now : Option Passed) → true ≡ is_some nesting → was ≡ nesting → now ≡ passed_on was on t.kind → true ≡ is_some now
      → given_of nesting place (waits holds fault later) ≡ first_comes t (given_of now at (waits held after more))
  passed_given at None was now s w n d = absurd cc
  passed_given at (Some p) was None s w n d = absurd cc
  passed_given at (Some p) was (Some q) s w n d = next_given p t place (Some p) holds fault after held later more refl h e q at (passes p was (Some q) w n)

  pub passed_deep : (nesting was now : Option Passed) → true ≡ is_some nesting → was ≡ nesting → now ≡ passed_on was on t.kind → false ≡ is_some now
      → ((given_of nesting place (waits holds fault later)).tokens ≡ []) × (given_of now t.place (waits held after more) ≡ given_of nesting place (waits holds fault later)) × (now ≡ None)
  passed_deep None was now s w n d = absurd cc
  passed_deep (Some p) was now s w n d =
      let none = none_of now d in
      let r = next_deep p t place (Some p) holds fault after held later more refl h e now none (passes p was now w n ∙ none) in
      (r.0, r.1, none)

-- ---- all of it

live_on : (t : Hid) (given : List Hid) (ends : Checked ℕ) (x : Checked Token) (c : Coming) (y : Checked (List Token)) → y ≡ all_of c
    → (x >>= λ first. y >>= λ others. Ok (first ∷ others)) ≡ all_of (looked x c)
live_on t given ends (Ok x) c y e = ap (λ z. z >>= λ others. Ok (x ∷ others)) e ∙ go c.fault
  where
    go : (f : Option Fault) → (all_by c.tokens f >>= λ others. Ok (x ∷ others)) ≡ all_by (x ∷ c.tokens) f
    go None = refl
    go (Some fault) = refl
live_on t given ends (Err fault) c y e = refl

ends_all : (ends : Checked ℕ) → (let none : List Token = [] in (ends >>= λ left. Ok none)) ≡ all_of (ends_so ends)
ends_all (Ok left) = refl
ends_all (Err fault) = refl

live_all : (given : List Hid) (ends : Checked ℕ) → live_tokens given ends ≡ all_of (live_from given ends)
unfolding live_tokens live_from
live_all [] ends = ends_all ends
live_all (t ∷ given) ends = live_on t given ends (live_of t) (live_from given ends) (live_tokens given ends) (live_all given ends)

-- what a trace gives as a whole
pub trace_all : (trace : Trace) → live_trace trace ≡ all_of (live_in trace)
trace_all trace = live_all trace.given trace.ends

-- ---- where tokens nest too deeply

abbrev deep_token : Option Token → Option Fault
deep_token d = option_map (λ (t : Token). too_deep_at t.place) d

deep_turn : (t : Token) (f : Passed → Option Fault) (g : Option Token) (next : Passed) (b : Bool) → f next ≡ deep_token g → deep_on t f (if b then None else Some next) ≡ deep_token (if b then Some t else g)
deep_turn t f g next true e = refl
deep_turn t f g next false e = e

-- the same as the rule says
pub deep_is : (p : Passed) (ts : List Token) → deep p ts ≡ deep_token (deep_from p.list p.label p.counters ts)
unfolding deep deep_from
deep_is p [] = refl
deep_is p (t ∷ ts) =
    let n : Counters = counted p.list p.label (goes_on ts) t.kind p.counters in
    let next : Passed = record { list = begins_list t.kind; label = before_label t.kind; counters = n } in
    deep_turn t (λ q. deep q ts) (deep_from next.list next.label n ts) next (nat_lt 256 (weight n)) (deep_is next ts)

shallow_turn : (t : Token) (ts : List Token) (x : Option Passed) → ((q : Passed) → deep q ts ≡ None → shallow q ts ≡ ts) → deep_on t (λ q. deep q ts) x ≡ None → shallow_on t (λ q. shallow q ts) x ≡ t ∷ ts
shallow_turn t ts None all e = absurd cc
shallow_turn t ts (Some q) all e = ap (λ (z : List Token). t ∷ z) (all q e)

-- where none does, all are given
pub shallow_all : (p : Passed) (ts : List Token) → deep p ts ≡ None → shallow p ts ≡ ts
unfolding deep shallow
shallow_all p [] h = refl
shallow_all p (t ∷ ts) h = shallow_turn t ts (passed p (goes_on ts) t.kind) (λ q. shallow_all q ts) h
