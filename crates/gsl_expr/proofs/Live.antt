-- What was taken before a fault begins what is read, and how that composes from reader to reader.
use Rattle.std.proofs.Common.{◌≡◌, ℕ, Bool, true, false, cond, [], ◌∷◌, ◌++◌, length, Ok, Err, refl, sym, ap, subst, ◌∙◌, append_assoc}
use Rattle.gsl_base.specs.declared.fault.Place.{Place}
use Rattle.gsl_base.specs.declared.token.Punct.{Punct}
use Rattle.gsl_base.specs.declared.token.Key.{Key}
use Rattle.gsl_base.specs.declared.token.Kind.{Kind}
use Rattle.gsl_base.specs.declared.token.Kind.TheVariants as kind
use Rattle.gsl_base.specs.declared.token.Token.{Token}
use Rattle.gsl_syntax.specs.Phrases.{token, sign, word}
use Rattle.gsl_syntax.specs.declared.declaration.Name.{Name}
use Rattle.gsl_expr.specs.Reading.{Tokens, Outcome, Parser, and_then, ◌>>=◌, pure, fail, take_one, sees, sees_key, expect, name_by, name}
use Rattle.gsl_expr.proofs.Taken.{Good, GoodTo, Starts, sees_is, sees_key_is}

-- what is known of tokens that begin something: whatever is cut off at their end, it is known of those before
pub record Front : Type 1 where
  pub holds : Tokens → Type 0
  pub closed : (xs ys : Tokens) → holds (xs ++ ys) → holds xs

-- the same of what stands behind these tokens
abbrev pub after : Tokens → Front → Front
after xs F = record { holds = λ ys. F.holds (xs ++ ys); closed = λ ys zs h. F.closed (xs ++ ys) zs (subst (λ (z : Tokens). F.holds z) (sym (append_assoc xs ys zs)) h) }

-- It is known of the tokens before these last ones.
pub record Reaches (F : Front) (ts bad : Tokens) : Type 0 where
  pub pre : Tokens
  pub splits : ts ≡ pre ++ bad
  pub holds : F.holds pre

abbrev pub Opened : {A : Type 0} → Front → Tokens → Outcome A → Type 0
Opened F ts (Ok x) = Unit {0}
Opened F ts (Err bad) = Reaches F ts bad

-- of a reader, whatever the tokens are
pub record Live {A : Type 0} (F : Front) (f : Parser A) : Type 0 where
  pub starts : F.holds []
  pub opened : (ts : Tokens) → Opened F ts (f ts)

-- Whatever stands for something, it is known of.
abbrev pub Leads : {A : Type 0} → (A → Tokens → Type 0) → Front → Type 0
Leads {A = A} C F = (a : A) (xs : Tokens) → C a xs → F.holds xs

pub fails : (F : Front) (ts : Tokens) → F.holds [] → Reaches F ts ts
fails F ts h = record { pre = []; splits = refl; holds = h }

pub live_pure : {A : Type 0} {F : Front} (a : A) → F.holds [] → Live F (pure a)
live_pure a h = record { starts = h; opened = λ ts. tt }

pub live_fail : {A : Type 0} {F : Front} → F.holds [] → Live {A = A} F fail
live_fail {F = F} h = record { starts = h; opened = λ ts. fails F ts h }

-- more tokens in front
pub opened_front : {A : Type 0} (F : Front) (ts xs rest : Tokens) (o : Outcome A) → ts ≡ xs ++ rest → Opened (after xs F) rest o → Opened F ts o
opened_front F ts xs rest (Ok x) e g = tt
opened_front F ts xs rest (Err bad) e g = record { pre = xs ++ g.pre; splits = e ∙ ap (λ (z : Tokens). xs ++ z) g.splits ∙ sym (append_assoc xs g.pre bad); holds = g.holds }

pub opened_to : {A B : Type 0} (F : Front) (C : A → Tokens → Tokens → Type 0) (ts : Tokens) (o : Outcome A) (f : A → Parser B) → GoodTo C ts o → Opened F ts o
    → ((a : A) (xs rest : Tokens) → ts ≡ xs ++ rest → C a xs rest → Opened (after xs F) rest (f a rest)) → Opened F ts (and_then o f)
opened_to F C ts (Ok x) f g o next = opened_front F ts g.xs x.1 (f x.0 x.1) g.splits (next x.0 g.xs x.1 g.splits g.stands)
opened_to F C ts (Err n) f g o next = o

pub opened_then : {A B : Type 0} (F : Front) (C : A → Tokens → Type 0) (ts : Tokens) (o : Outcome A) (f : A → Parser B) → Good C ts o → Opened F ts o
    → ((a : A) (xs rest : Tokens) → ts ≡ xs ++ rest → C a xs → Opened (after xs F) rest (f a rest)) → Opened F ts (and_then o f)
opened_then F C ts (Ok x) f g o next = opened_front F ts g.xs x.1 (f x.0 x.1) g.splits (next x.0 g.xs x.1 g.splits g.stands)
opened_then F C ts (Err n) f g o next = o

pub opened_map : {A B : Type 0} (F : Front) (g : A → B) (ts : Tokens) (o : Outcome A) → Opened F ts o → Opened F ts (and_then o (λ a rest. Ok (g a, rest)))
opened_map F g ts (Ok x) h = tt
opened_map F g ts (Err n) h = h

-- no fault
abbrev pub Quiet : {A : Type 0} → Outcome A → Type 0
Quiet (Ok x) = Unit {0}
Quiet (Err n) = ⊥

pub opened_quiet : {A B : Type 0} (F : Front) (ts : Tokens) (o : Outcome A) (f : A → Parser B) → Opened F ts o → ((a : A) (rest : Tokens) → Quiet (f a rest)) → Opened F ts (and_then o f)
opened_quiet {B = B} F ts (Ok x) f h q = go (f x.0 x.1) (q x.0 x.1)
  where
    go : (o : Outcome B) → Quiet o → Opened F ts o
    go (Ok y) v = tt
    go (Err n) v = absurd v
opened_quiet F ts (Err n) f h q = h

pub nil_off : (F : Front) (xs : Tokens) → F.holds (xs ++ []) → F.holds xs
nil_off F xs h = F.closed xs [] h

-- one reader behind another
pub live_then : {A B : Type 0} {F : Front} {f : Parser A} {g : A → Parser B} (C : A → Tokens → Type 0) → ((ts : Tokens) → Good C ts (f ts)) → (Leads C F → Live F f)
    → ((a : A) (xs : Tokens) → C a xs → Live (after xs F) (g a)) → Live F (f >>= g)
live_then {F = F} {f = f} {g = g} C good first next =
    let s = first (λ a xs c. nil_off F xs (next a xs c).starts) in
    record { starts = s.starts; opened = λ ts. opened_then F C ts (f ts) g (good ts) (s.opened ts) (λ a xs rest split c. (next a xs c).opened rest) }

pub live_map : {A B : Type 0} {F : Front} {f : Parser A} (g : A → B) → Live F f → Live F (f >>= λ a. pure (g a))
live_map {F = F} {f = f} g s = record { starts = s.starts; opened = λ ts. opened_map F g ts (f ts) (s.opened ts) }

-- ---- single tokens

abbrev pub no_place : Place
no_place = record { unit = 0; line = 0 }

pub opened_sign : {B : Type 0} (F : Front) (m : Punct) (ts : Tokens) (f : Place → Parser B) → sees m ts ≡ true
    → ((p : Place) (rest : Tokens) → ts ≡ sign p m ∷ rest → Opened (after (sign p m ∷ []) F) rest (f p rest)) → Opened F ts (and_then (take_one ts) f)
opened_sign F m ts f h next = go (sees_is m ts h)
  where
    go : Starts (λ p. sign p m) ts → Opened F ts (and_then (take_one ts) f)
    go s = subst (λ (us : Tokens). Opened F us (and_then (take_one us) f)) (sym s.is)
        (opened_front F (sign s.place m ∷ s.rest) (sign s.place m ∷ []) s.rest (f s.place s.rest) refl (next s.place s.rest s.is))

pub opened_word : {B : Type 0} (F : Front) (w : Key) (ts : Tokens) (f : Place → Parser B) → sees_key w ts ≡ true
    → ((p : Place) (rest : Tokens) → ts ≡ word p w ∷ rest → Opened (after (word p w ∷ []) F) rest (f p rest)) → Opened F ts (and_then (take_one ts) f)
opened_word F w ts f h next = go (sees_key_is w ts h)
  where
    go : Starts (λ p. word p w) ts → Opened F ts (and_then (take_one ts) f)
    go s = subst (λ (us : Tokens). Opened F us (and_then (take_one us) f)) (sym s.is)
        (opened_front F (word s.place w ∷ s.rest) (word s.place w ∷ []) s.rest (f s.place s.rest) refl (next s.place s.rest s.is))

pub live_expect : {B : Type 0} {F : Front} {f : Place → Parser B} (m : Punct) → ((p : Place) → Live (after (sign p m ∷ []) F) (f p)) → Live F (expect m >>= f)
unfolding expect
live_expect {B = B} {F = F} {f = f} m next = record { starts = start; opened = λ ts. go ts (sees m ts) refl }
  where
    start : F.holds []
    start = F.closed [] (sign no_place m ∷ []) (next no_place).starts

    go : (ts : Tokens) (b : Bool) → sees m ts ≡ b → Opened F ts (and_then (cond b (take_one ts) (Err ts)) f)
    go ts true h = opened_sign F m ts f h (λ p rest split. (next p).opened rest)
    go ts false h = fails F ts start

pub live_close : {B : Type 0} {F : Front} (m : Punct) (b : B) → ((p : Place) → F.holds (sign p m ∷ [])) → Live F (expect m >>= λ _. pure b)
live_close m b h = live_expect m (λ p. live_pure b (h p))

abbrev pub called : Name → Token
called n = token n.place (kind.Name n.text)

abbrev pub no_name : Name
no_name = record { place = no_place; text = [] }

pub live_name : {B : Type 0} {F : Front} {f : Name → Parser B} → ((n : Name) → Live (after (called n ∷ []) F) (f n)) → Live F (name >>= f)
unfolding name
live_name {B = B} {F = F} {f = f} next = record { starts = start; opened = opened }
  where
    start : F.holds []
    start = F.closed [] (called no_name ∷ []) (next no_name).starts

    by_kind : (t : Token) (ts : Tokens) (k : Kind) → t.kind ≡ k → Opened F (t ∷ ts) (and_then (name_by t ts k) f)
    by_kind t ts (kind.Name n) h =
        let m : Name = record { place = t.place; text = n } in
        opened_front F (t ∷ ts) (called m ∷ []) ts (f m ts) (ap (λ (k : Kind). token t.place k ∷ ts) h) ((next m).opened ts)
    by_kind t ts (kind.Key w) h = fails F (t ∷ ts) start
    by_kind t ts (kind.Signed n) h = fails F (t ∷ ts) start
    by_kind t ts (kind.Unsigned n) h = fails F (t ∷ ts) start
    by_kind t ts (kind.Punct m) h = fails F (t ∷ ts) start

    opened : (ts : Tokens) → Opened F ts (and_then (name ts) f)
    opened [] = fails F [] start
    opened (t ∷ ts) = by_kind t ts t.kind refl

-- what a punctuator opens, or something else
pub live_sees : {B : Type 0} {F : Front} {f : Place → Parser B} {g : Parser B} (m : Punct) → ((p : Place) → Live (after (sign p m ∷ []) F) (f p)) → Live F g
    → Live F (λ ts. cond (sees m ts) (and_then (take_one ts) f) (g ts))
live_sees {B = B} {F = F} {f = f} {g = g} m next other = record { starts = other.starts; opened = λ ts. go ts (sees m ts) refl }
  where
    go : (ts : Tokens) (b : Bool) → sees m ts ≡ b → Opened F ts (cond b (and_then (take_one ts) f) (g ts))
    go ts true h = opened_sign F m ts f h (λ p rest split. (next p).opened rest)
    go ts false h = other.opened ts

pub live_word : {B : Type 0} {F : Front} {f : Place → Parser B} {g : Parser B} (w : Key) → ((p : Place) → Live (after (word p w ∷ []) F) (f p)) → Live F g
    → Live F (λ ts. cond (sees_key w ts) (and_then (take_one ts) f) (g ts))
live_word {B = B} {F = F} {f = f} {g = g} w next other = record { starts = other.starts; opened = λ ts. go ts (sees_key w ts) refl }
  where
    go : (ts : Tokens) (b : Bool) → sees_key w ts ≡ b → Opened F ts (cond b (and_then (take_one ts) f) (g ts))
    go ts true h = opened_word F w ts f h (λ p rest split. (next p).opened rest)
    go ts false h = other.opened ts

-- one of two, whatever the test is
pub live_either : {B : Type 0} {F : Front} {f g : Parser B} (test : Tokens → Bool) → Live F f → Live F g → Live F (λ ts. cond (test ts) (f ts) (g ts))
live_either {F = F} {f = f} {g = g} test s r = record { starts = s.starts; opened = λ ts. go ts (test ts) }
  where
    go : (ts : Tokens) (b : Bool) → Opened F ts (cond b (f ts) (g ts))
    go ts true = s.opened ts
    go ts false = r.opened ts
