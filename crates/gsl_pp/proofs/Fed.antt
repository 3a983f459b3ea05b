-- What a feed still has to give out, step by step.
use Rattle.std.proofs.Common.{◌≡◌, ℕ, zero, suc, ◌<◌, Bool, true, false, List, [], ◌∷◌, ◌++◌, length, take, drop, map, Option, Some, None, MatchOption, Result, Ok, Err, if◌then◌else◌, refl, inl, inr, ap, sym, ◌∙◌, subst, arith, append_assoc, append-nil}
use Rattle.std.specs.List.{prefix_len}
use Rattle.std.specs.Option.{option_map}
use Rattle.gsl_base.specs.Checked.{Checked, ◌>>=◌, Refuses}
use Rattle.gsl_base.specs.declared.fault.Code.TheVariants.{E0211}
use Rattle.gsl_base.specs.declared.fault.Fault.{Fault}
use Rattle.gsl_base.specs.declared.fault.Refusal.{Refusal}
use Rattle.gsl_base.specs.declared.fault.Refusal.TheVariants.{Source, Memory}
use Rattle.gsl_base.specs.declared.token.Raw.{Raw}
use Rattle.gsl_base.specs.declared.token.Token.{Token}
use Rattle.gsl_macros.specs.declared.stream.Hid.{Hid}
use Rattle.gsl_macros.specs.Expanding.{Seen, Trace, at, fresh, ended, faulted, give, after, traced}
use Rattle.gsl_macros.specs.Steps.{Draws}
use Rattle.gsl_macros.proofs.Fuel.{traced_none}
use Rattle.gsl_pp.specs.declared.state.State.{State}
use Rattle.gsl_pp.specs.Directives.{is_live, outermost, with_left, directed}
use Rattle.gsl_pp.specs.Unit.{is_directive, goes_on_line, goes_on_text, then_on, then_from, at_end, unit_from, rest_of, live_of, live_tokens, live_trace, unit_of, versioned, initial, Starts}
use Rattle.gsl_pp.specs.declared.feed.Feed.{Feed}
use Rattle.gsl_pp.specs.Feeding.{feeds_on, feeds, Tells, Faults, DrawsHere, Turns, onto}

-- ---- traces one after the other

then_ended : (left : ℕ) (f : ℕ → Trace) → then_from (ended left) f ≡ f left
unfolding then_from
then_ended left f = refl

then_faulted : (fault : Fault) (f : ℕ → Trace) → then_from (faulted fault) f ≡ faulted fault
unfolding then_from
then_faulted fault f = refl

give_on : (t : Hid) (given : Seen) (ends : Checked ℕ) (f : ℕ → Trace) → then_on (t ∷ given) ends f ≡ give t (then_on given ends f)
give_on t given (Ok left) f = refl
give_on t given (Err fault) f = refl

then_give : (t : Hid) (later : Trace) (f : ℕ → Trace) → then_from (give t later) f ≡ give t (then_from later f)
unfolding then_from
then_give t later f = give_on t later.given later.ends f

same_on : (given : Seen) (ends : Checked ℕ) (f g : ℕ → Trace) → ((left : ℕ) → f left ≡ g left) → then_on given ends f ≡ then_on given ends g
same_on given (Ok left) f g e = ap (λ (t : Trace). record { given = given ++ t.given; ends = t.ends }) (e left)
same_on given (Err fault) f g e = refl

then_same : (trace : Trace) (f g : ℕ → Trace) → ((left : ℕ) → f left ≡ g left) → then_from trace f ≡ then_from trace g
unfolding then_from
then_same trace f g e = same_on trace.given trace.ends f g e

-- ---- the unit

unit_skips : (raws : List Raw) (n : ℕ) (s : State) → unit_from raws n s ≡ unit_from (drop n raws) 0 s
unfolding unit_from
unit_skips [] zero s = refl
unit_skips [] (suc n) s = refl
unit_skips (r ∷ raws) zero s = refl
unit_skips (r ∷ raws) (suc n) s = unit_skips raws n s

pub rest_none : (s : State) (raws : List Raw) → rest_of s [] raws ≡ unit_from raws 0 s
unfolding rest_of
rest_none s raws =
    ap (λ t. then_from t (λ left. unit_from raws 0 (with_left s left))) (traced_none s.macros 256 s.left) ∙ then_ended s.left (λ left. unit_from raws 0 (with_left s left))

pub unit_none : (s : State) → unit_from [] 0 s ≡ at_end s (outermost s.groups)
unfolding unit_from
unit_none s = refl

on_line : Raw → List Raw → State → Trace
on_line r raws s = let n = prefix_len goes_on_line raws in after (λ s. unit_from raws n s) (directed s r.place (take n raws))

on_live : Raw → List Raw → ℕ → State → Trace
on_live r raws n s = then_from (traced s.macros 256 (map fresh (r ∷ take n raws)) s.left) (λ left. unit_from raws n (with_left s left))

on_text : Raw → List Raw → State → Trace
on_text r raws s = let n = prefix_len goes_on_text raws in if is_live s.groups then on_live r raws n s else unit_from raws n s

unit_is : (r : Raw) (raws : List Raw) (s : State) → unit_from (r ∷ raws) 0 s ≡ if is_directive r then on_line r raws s else on_text r raws s
unfolding unit_from on_line on_text on_live
unit_is r raws s = refl

unit_line : (r : Raw) (raws : List Raw) (s : State) (n : ℕ) (x : Checked State) → true ≡ is_directive r → n ≡ prefix_len goes_on_line raws → directed s r.place (take n raws) ≡ x →
    unit_from (r ∷ raws) 0 s ≡ after (λ s. unit_from raws n s) x
unfolding on_line
unit_line r raws s n x d len e =
    unit_is r raws s ∙ ap (λ b. if b then on_line r raws s else on_text r raws s) (sym d)
    ∙ ap (λ n. after (λ s. unit_from raws n s) (directed s r.place (take n raws))) (sym len)
    ∙ ap (after (λ s. unit_from raws n s)) e

unit_text : (r : Raw) (raws : List Raw) (s : State) (n : ℕ) (b : Bool) → false ≡ is_directive r → n ≡ prefix_len goes_on_text raws → is_live s.groups ≡ b →
    unit_from (r ∷ raws) 0 s ≡ if b then on_live r raws n s else unit_from raws n s
unfolding on_text
unit_text r raws s n b d len e =
    unit_is r raws s ∙ ap (λ b. if b then on_line r raws s else on_text r raws s) (sym d)
    ∙ ap (λ n. if is_live s.groups then on_live r raws n s else unit_from raws n s) (sym len)
    ∙ ap (λ b. if b then on_live r raws n s else unit_from raws n s) e

-- ---- what a feed draws of its segment

pub draws_here : (s now : State) (tokens later : Seen) (raws : List Raw) (r : Result (Option Hid) Refusal) → now ≡ with_left s now.left → Draws r (traced s.macros 256 tokens s.left) (traced s.macros 256 later now.left) now.left →
    DrawsHere r (rest_of s tokens raws) (rest_of now later raws) (unit_from raws 0 now)
unfolding rest_of
draws_here s now tokens later raws (Ok (Some t)) e h =
    ap (λ t. then_from t (λ left. unit_from raws 0 (with_left s left))) h ∙ then_give t (traced s.macros 256 later now.left) (λ left. unit_from raws 0 (with_left s left))
    ∙ sym (ap (λ (n : State). give t (then_from (traced n.macros 256 later n.left) (λ left. unit_from raws 0 (with_left n left)))) e)
draws_here s now tokens later raws (Ok None) e h =
    let K : ℕ → Trace = λ left. unit_from raws 0 (with_left s left) in
    let none : then_from (ended now.left) K ≡ unit_from raws 0 now = then_ended now.left K ∙ sym (ap (λ (n : State). unit_from raws 0 n) e) in (
      ap (λ t. then_from t K) h.0 ∙ none,
      ap (λ (n : State). then_from (traced n.macros 256 later n.left) (λ left. unit_from raws 0 (with_left n left))) e ∙ ap (λ t. then_from t K) (h.1 ∙ h.0) ∙ none,
    )
draws_here s now tokens later raws (Err (Source fault)) e h =
    ap (λ t. then_from t (λ left. unit_from raws 0 (with_left s left))) h ∙ then_faulted fault (λ left. unit_from raws 0 (with_left s left))
draws_here s now tokens later raws (Err Memory) e h = tt

-- a token of the source that names no macro, where there is one
pub plain_here : (s now : State) (tokens later : Seen) (raws : List Raw) (x : Option Raw)
    → MatchOption x ((now ≡ s) × (later ≡ tokens)) (λ raw. (now ≡ with_left s now.left) × (traced s.macros 256 tokens s.left ≡ give (fresh raw) (traced s.macros 256 later now.left)))
    → MatchOption x (rest_of now later raws ≡ rest_of s tokens raws) (λ raw. rest_of s tokens raws ≡ give (fresh raw) (rest_of now later raws))
plain_here s now tokens later raws None h = ap (λ (n : State). rest_of n later raws) h.0 ∙ ap (λ t. rest_of s t raws) h.1
plain_here s now tokens later raws (Some raw) h = draws_here s now tokens later raws (Ok (Some (fresh raw))) h.0 h.1

pub turn_line : (r : Raw) (raws rest line : List Raw) (s now : State) (stream : Seen) (n : ℕ) → true ≡ is_directive r → n ≡ prefix_len goes_on_line raws → line ≡ take n raws → directed s r.place line ≡ Ok now → stream ≡ [] → rest ≡ drop n raws →
    unit_from (r ∷ raws) 0 s ≡ rest_of now stream rest
turn_line r raws rest line s now stream n d len front e none back =
    unit_line r raws s n (Ok now) d len (ap (directed s r.place) (sym front) ∙ e) ∙ unit_skips raws n now ∙ sym (rest_none now (drop n raws))
    ∙ ap (λ k. rest_of now k (drop n raws)) (sym none) ∙ ap (λ k. rest_of now stream k) (sym back)

pub turn_fault : (r : Raw) (raws line : List Raw) (s : State) (n : ℕ) (refusal : Refusal) (later : Trace) → true ≡ is_directive r → n ≡ prefix_len goes_on_line raws → line ≡ take n raws → Refuses refusal (directed s r.place line) →
    Turns {A = Unit {0}} (Err refusal) (unit_from (r ∷ raws) 0 s) later
turn_fault r raws line s n (Source fault) later d len front e = unit_line r raws s n (Err fault) d len (ap (directed s r.place) (sym front) ∙ e)
turn_fault r raws line s n Memory later d len front e = tt

text_on : (r : Raw) (raws : List Raw) (s : State) (n : ℕ) (b : Bool) →
    (if b then on_live r raws n s else unit_from raws n s) ≡ rest_of s (if b then map fresh (r ∷ take n raws) else []) (drop n raws)
unfolding on_live rest_of
text_on r raws s n true = then_same _ _ _ (λ now. unit_skips raws n (with_left s now))
text_on r raws s n false = unit_skips raws n s ∙ sym (rest_none s (drop n raws))

pub turn_text : (r : Raw) (raws rest text : List Raw) (s : State) (stream : Seen) (n : ℕ) → false ≡ is_directive r → n ≡ prefix_len goes_on_text raws → text ≡ take n raws →
    stream ≡ (if is_live s.groups then map fresh (r ∷ text) else []) → rest ≡ drop n raws → unit_from (r ∷ raws) 0 s ≡ rest_of s stream rest
turn_text r raws rest text s stream n d len front e back =
    unit_text r raws s n (is_live s.groups) d len refl ∙ text_on r raws s n (is_live s.groups)
    ∙ ap (λ (t : List Raw). rest_of s (if is_live s.groups then map fresh (r ∷ t) else []) (drop n raws)) (sym front)
    ∙ ap (λ k. rest_of s k (drop n raws)) (sym e) ∙ ap (λ k. rest_of s stream k) (sym back)

-- ---- the start

pub starts_none : (unit : ℕ) (raws : List Raw) (f : Fault) → raws ≡ [] → f ≡ at (record { unit = unit; line = 1 }) E0211 → unit_of unit raws ≡ faulted f
unfolding unit_of
starts_none unit raws f e h = ap (unit_of unit) e ∙ ap faulted (sym h)

starts_line_at : ℕ → Raw → List Raw → Trace
starts_line_at unit r raws = let n = prefix_len goes_on_line raws in after (λ _. unit_from raws n (initial unit)) (versioned r.place (take n raws))

starts_is : (unit : ℕ) (r : Raw) (raws : List Raw) → unit_of unit (r ∷ raws) ≡ if is_directive r then starts_line_at unit r raws else faulted (at r.place E0211)
unfolding unit_of starts_line_at
starts_is unit r raws = refl

pub starts_text : (unit : ℕ) (r : Raw) (raws all : List Raw) (f : Fault) → all ≡ r ∷ raws → false ≡ is_directive r → f ≡ at r.place E0211 → unit_of unit all ≡ faulted f
starts_text unit r raws all f e d h =
    ap (unit_of unit) e ∙ starts_is unit r raws ∙ ap (λ b. if b then starts_line_at unit r raws else faulted (at r.place E0211)) (sym d) ∙ ap faulted (sym h)

starts_line : (unit : ℕ) (r : Raw) (raws all line : List Raw) (n : ℕ) (x : Checked (Unit {0})) → all ≡ r ∷ raws → true ≡ is_directive r → n ≡ prefix_len goes_on_line raws → line ≡ take n raws → versioned r.place line ≡ x →
    unit_of unit all ≡ after (λ _. unit_from raws n (initial unit)) x
unfolding starts_line_at
starts_line unit r raws all line n x e d len front v =
    ap (unit_of unit) e ∙ starts_is unit r raws ∙ ap (λ b. if b then starts_line_at unit r raws else faulted (at r.place E0211)) (sym d)
    ∙ ap (λ n. after (λ _. unit_from raws n (initial unit)) (versioned r.place (take n raws))) (sym len)
    ∙ ap (after (λ _. unit_from raws n (initial unit))) (ap (versioned r.place) (sym front) ∙ v)

pub starts_fault : (unit : ℕ) (r : Raw) (raws all line : List Raw) (n : ℕ) (f : Fault) → all ≡ r ∷ raws → true ≡ is_directive r → n ≡ prefix_len goes_on_line raws → line ≡ take n raws → versioned r.place line ≡ Err f →
    unit_of unit all ≡ faulted f
starts_fault unit r raws all line n f e d len front v = starts_line unit r raws all line n (Err f) e d len front v

pub starts_fine : (unit : ℕ) (r : Raw) (raws all line rest : List Raw) (n : ℕ) (u : Unit {0}) → all ≡ r ∷ raws → true ≡ is_directive r → n ≡ prefix_len goes_on_line raws → line ≡ take n raws → versioned r.place line ≡ Ok u → rest ≡ drop n raws →
    unit_of unit all ≡ unit_from rest 0 (initial unit)
starts_fine unit r raws all line rest n u e d len front v back =
    starts_line unit r raws all line n (Ok u) e d len front v ∙ unit_skips raws n (initial unit) ∙ ap (λ k. unit_from k 0 (initial unit)) (sym back)

-- a feed at the start of a unit
pub feed_at : (unit : ℕ) (raws rest : List Raw) (fault : Option Fault) (state : State) (stream : Seen) (refused : Option Refusal) (feed : Feed) → Starts fault rest unit raws → state ≡ initial unit → stream ≡ [] →
    refused ≡ option_map (λ (f : Fault). Source f) fault → feed.state ≡ state → feed.stream ≡ stream → feed.rest ≡ rest → feed.refused ≡ refused → feeds feed ≡ unit_of unit raws
feed_at unit raws rest None state stream refused feed h s e r fs ft fr ff =
    ap (feeds_on feed) (ff ∙ r)
    ∙ ap (λ x. rest_of x feed.stream feed.rest) (fs ∙ s) ∙ ap (λ x. rest_of (initial unit) x feed.rest) (ft ∙ e) ∙ ap (λ x. rest_of (initial unit) [] x) fr
    ∙ rest_none (initial unit) rest ∙ sym h
feed_at unit raws rest (Some fault) state stream refused feed h s e r fs ft fr ff = ap (feeds_on feed) (ff ∙ r) ∙ sym h

-- nothing is left, and no group is open
pub ended_rest : (s : State) (tokens : Seen) (raws : List Raw) → tokens ≡ [] → raws ≡ [] → s.groups ≡ [] → rest_of s tokens raws ≡ ended s.left
ended_rest s tokens raws t r g =
    ap (λ x. rest_of s x raws) t ∙ ap (λ x. rest_of s [] x) r ∙ rest_none s [] ∙ unit_none s ∙ ap (λ x. at_end s (outermost x)) g

-- ---- live tokens

pub tells_fault : (before later next : Trace) (n : ℕ) (refusal : Refusal) → Draws (Err refusal) before later n → Tells (Err refusal) before next
tells_fault before later next n (Source fault) h = inl h
tells_fault before later next n Memory h = tt

pub tells_bad : (before later next : Trace) (t : Hid) (refusal : Refusal) → before ≡ give t later → Refuses refusal (live_of t) → Tells (Err refusal) before next
tells_bad before later next t (Source fault) h r = inr (t, later, h, r)
tells_bad before later next t Memory h r = tt

onto_none : {A : Type 0} (x : Checked (List A)) → onto [] x ≡ x
onto_none (Ok r) = refl
onto_none (Err fault) = refl

onto_more : {A : Type 0} (made : List A) (x : A) (later : Checked (List A)) → onto made (later >>= λ others. Ok (x ∷ others)) ≡ onto (made ++ x ∷ []) later
onto_more made x (Ok r) = ap Ok (sym (append_assoc made (x ∷ []) r))
onto_more made x (Err fault) = refl

live_give : (t : Hid) (later : Trace) → live_trace (give t later) ≡ (live_of t >>= λ first. live_trace later >>= λ others. Ok (first ∷ others))
unfolding live_tokens
live_give t later = refl

live_ended : (left : ℕ) → live_trace (ended left) ≡ Ok []
unfolding live_tokens
live_ended left = refl

live_faulted : (fault : Fault) → live_trace (faulted fault) ≡ Err fault
unfolding live_tokens
live_faulted fault = refl

pub feed_starts : (list : List Token) (trace whole : Trace) → list ≡ [] → trace ≡ whole → onto list (live_trace trace) ≡ live_trace whole
feed_starts list trace whole e h = ap (λ l. onto l (live_trace trace)) e ∙ onto_none (live_trace trace) ∙ ap (λ (t : Trace). live_trace t) h

pub feed_ends : (list : List Token) (answer : Checked (List Token)) (trace later : Trace) → Tells (Ok None) trace later → onto list (live_trace trace) ≡ answer → answer ≡ Ok list
feed_ends list answer trace later h i =
    sym i ∙ ap (λ (t : Trace). onto list (live_trace t)) h.1 ∙ ap (onto list) (live_ended h.0) ∙ ap Ok (append-nil list)

on_given : (list : List Token) (answer : Checked (List Token)) (trace later : Trace) (t : Hid) → trace ≡ give t later → onto list (live_trace trace) ≡ answer →
    onto list (live_of t >>= λ first. live_trace later >>= λ others. Ok (first ∷ others)) ≡ answer
on_given list answer trace later t e h = ap (onto list) (sym (live_give t later)) ∙ ap (λ (t : Trace). onto list (live_trace t)) (sym e) ∙ h

faults_on : (list : List Token) (answer : Checked (List Token)) (trace : Trace) (fault : Fault) → Faults fault trace → onto list (live_trace trace) ≡ answer → answer ≡ Err fault
faults_on list answer trace fault (inl e) h = sym h ∙ ap (λ (t : Trace). onto list (live_trace t)) e ∙ ap (onto list) (live_faulted fault)
faults_on list answer trace fault (inr w) h =
    sym (on_given list answer trace w.1 w.0 w.2 h) ∙ ap (λ x. onto list (x >>= λ first. live_trace w.1 >>= λ others. Ok (first ∷ others))) w.3

pub feed_faults : (list : List Token) (answer : Checked (List Token)) (trace later : Trace) (refusal : Refusal) → Tells (Err refusal) trace later → onto list (live_trace trace) ≡ answer → Refuses refusal answer
feed_faults list answer trace later (Source fault) h i = faults_on list answer trace fault h i
feed_faults list answer trace later Memory h i = tt

pub feed_more : (list more : List Token) (answer : Checked (List Token)) (trace later : Trace) (x : Token) → Tells (Ok (Some x)) trace later → more ≡ list ++ x ∷ [] → onto list (live_trace trace) ≡ answer → onto more (live_trace later) ≡ answer
feed_more list more answer trace later x h m i =
    ap (λ l. onto l (live_trace later)) m ∙ sym (onto_more list x (live_trace later))
    ∙ ap (λ y. onto list (y >>= λ first. live_trace later >>= λ others. Ok (first ∷ others))) (sym h.2)
    ∙ on_given list answer trace later h.0 h.1 i

pub feed_shrinks : (trace later : Trace) (x : Token) → Tells (Ok (Some x)) trace later → length later.given < length trace.given
feed_shrinks trace later x h = omega (arith, ap (λ (t : Trace). length t.given) h.1)

-- what was drawn of the same trace
pub draws_same : (r : Result (Option Hid) Refusal) (before other later : Trace) (n : ℕ) → before ≡ other → Draws r other later n → Draws r before later n
draws_same r before other later n e h = let P : Trace → Type 0 = λ t. Draws r t later n in subst P (sym e) h
