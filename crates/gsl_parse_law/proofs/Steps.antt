-- What a token does to the counters, seen from below: counters that count at least so much.
use Rattle.std.proofs.Common.{◌≡◌, refl, sym, ◌∙◌, subst, ℕ, ◌+◌, ◌≤◌, pred, Bool, true, false, ◌⊎◌, inl, inr, List, ◌∷◌, length, Option, Some, None, cond, arith}
use Rattle.std.specs.Prelude.{nat_lt, nat_eq}
use Rattle.std.proofs.lemmas.Bool.{ltb-false, eqb-true, true≢false}
use Rattle.gsl_base.specs.declared.fault.Place.{Place}
use Rattle.gsl_base.specs.declared.token.Punct.{Punct}
use Rattle.gsl_base.specs.declared.token.Punct.TheVariants as punct
use Rattle.gsl_base.specs.declared.token.Key.{Key}
use Rattle.gsl_base.specs.declared.token.Kind.{Kind}
use Rattle.gsl_base.specs.declared.token.Kind.TheVariants as kind
use Rattle.gsl_base.specs.declared.token.Token.{Token}
use Rattle.gsl_syntax.specs.declared.nesting.Counter.{Counter}
use Rattle.gsl_syntax.specs.Nesting.{Counters, counter, fresh, sum_of, weight, begins_list, before_label, goes_on, counted, deep_from}
use Rattle.gsl_syntax.specs.Phrases.{Tokens, token, sign, word}

-- one counter counts at least as much as another
pub record AtLeast (b c : Counter) : Type 0 where
  pub value : b.value ≤ c.value
  pub choices : b.choices ≤ c.choices
  pub words : b.words ≤ c.words
  pub list : c.list ≡ b.list

-- The tokens do not nest too deeply, from a top that counts at least this much on.
pub record At (list label : Bool) (b : Counter) (o : List Counter) (ts : Tokens) : Type 0 where
  pub top : Counter
  pub least : AtLeast b top
  pub small : weight (top, o) ≤ 256
  pub passes : deep_from list label (top, o) ts ≡ None

-- the same, whatever token stands before them
pub record Any (b : Counter) (o : List Counter) (ts : Tokens) : Type 0 where
  pub list : Bool
  pub label : Bool
  pub at : At list label b o ts

pub any : {list label : Bool} {b : Counter} {o : List Counter} {ts : Tokens} → At list label b o ts → Any b o ts
any {list = list} {label = label} at = record { list = list; label = label; at = at }

least_through : {a b c : Counter} → AtLeast a b → AtLeast b c → AtLeast a c
least_through h g = record { value = omega (arith, h.value, g.value); choices = omega (arith, h.choices, g.choices); words = omega (arith, h.words, g.words); list = g.list ∙ h.list }

pub at_weaker : {list label : Bool} {a b : Counter} {o : List Counter} {ts : Tokens} → AtLeast a b → At list label b o ts → At list label a o ts
at_weaker h at = record { top = at.top; least = least_through h at.least; small = at.small; passes = at.passes }

pub weaker : {a b : Counter} {o : List Counter} {ts : Tokens} → AtLeast a b → Any b o ts → Any a o ts
weaker h x = any (at_weaker h x.at)

-- a top over those outside of it
abbrev over : Counter → List Counter → Counters
over c o = (c, o)

-- so many arms fit
abbrev pub Room : Counter → List Counter → ℕ → Type 0
Room b o n = b.value + sum_of o + length o + n ≤ 256

pub none_fit : {b : Counter} {o : List Counter} {ts : Tokens} → Any b o ts → Room b o 0
none_fit x = let at = x.at in let small = at.small in let least = at.least.value in omega arith

-- ---- one token

passed_by : (r : Option Token) (t : Token) (b : Bool) (n : ℕ) → nat_lt 256 n ≡ b → cond b (Some t) r ≡ None → (n ≤ 256) × (r ≡ None)
passed_by r t true n is e = absurd cc
passed_by r t false n is e = (ltb-false 256 n is, e)

pub passed : (list label : Bool) (s : Counters) (t : Token) (ts : Tokens) → deep_from list label s (t ∷ ts) ≡ None
    → (let n = counted list label (goes_on ts) t.kind s in (weight n ≤ 256) × (deep_from (begins_list t.kind) (before_label t.kind) n ts ≡ None))
unfolding deep_from
passed list label s t ts e =
    let n = counted list label (goes_on ts) t.kind s in passed_by (deep_from (begins_list t.kind) (before_label t.kind) n ts) t (nat_lt 256 (weight n)) (weight n) refl e

-- the top stays, and counts at least so much then
pub stays : {list label : Bool} {b : Counter} {o : List Counter} {ts : Tokens} (next : Counter) (t : Token) → At list label b o (t ∷ ts)
    → ((c : Counter) → AtLeast b c → (d : Counter) × AtLeast next d × (counted list label (goes_on ts) t.kind (c, o) ≡ (d, o)))
    → At (begins_list t.kind) (before_label t.kind) next o ts
stays {list = list} {label = label} {o = o} {ts = ts} next t x f =
    let r = f x.top x.least in
    let p = passed list label (x.top, o) t ts x.passes in
    record {
      top = r.0;
      least = r.1;
      small = subst (λ (s : Counters). weight s ≤ 256) r.2 p.0;
      passes = subst (λ (s : Counters). deep_from (begins_list t.kind) (before_label t.kind) s ts ≡ None) r.2 p.1;
    }

-- a token that is not counted
pub quiet : {b : Counter} {o : List Counter} {ts : Tokens} (p : Place) (k : Kind) → ((list label on : Bool) (s : Counters) → counted list label on k s ≡ s) → Any b o (token p k ∷ ts) → At (begins_list k) (before_label k) b o ts
quiet {b = b} {o = o} {ts = ts} p k none x = stays b (token p k) x.at (λ c h. (c, h, none x.list x.label (goes_on ts) (c, o)))

pub after_name : {b : Counter} {o : List Counter} {ts : Tokens} (p : Place) (n : List ℕ) → Any b o (token p (kind.Name n) ∷ ts) → At true false b o ts
after_name p n x = quiet p (kind.Name n) (λ list label on s. refl) x

-- one more is counted
abbrev pub plus_one : Counter → Counter
plus_one b = counter (b.value + 1) b.choices b.words b.list

abbrev pub IsCounted : Punct → Type 0
IsCounted m = (list on : Bool) (s : Counters) → counted list false on (kind.Punct m) s ≡ (plus_one s.0, s.1)

plus_least : (b c : Counter) → AtLeast b c → AtLeast (plus_one b) (plus_one c)
plus_least b c h = record { value = omega (arith, h.value); choices = h.choices; words = h.words; list = h.list }

pub after_counted : {b : Counter} {o : List Counter} {ts : Tokens} (p : Place) (m : Punct) → IsCounted m → Any b o (sign p m ∷ ts) → At (begins_list (kind.Punct m)) (before_label (kind.Punct m)) (plus_one b) o ts
after_counted {b = b} {o = o} {ts = ts} p m is x = stays (plus_one b) (sign p m) x.at (λ c h. (plus_one c, plus_least b c h, is x.list (goes_on ts) (c, o)))

-- a choice opens, and closes
abbrev pub chosen : Counter → Counter
chosen b = counter (b.value + 1) (b.choices + 1) b.words b.list

pub after_question : {b : Counter} {o : List Counter} {ts : Tokens} (p : Place) → Any b o (sign p punct.Question ∷ ts) → At false false (chosen b) o ts
after_question {b = b} {o = o} {ts = ts} p x =
    stays (chosen b) (sign p punct.Question) x.at
    (λ c h. (chosen c, record { value = omega (arith, h.value); choices = omega (arith, h.choices); words = h.words; list = h.list }, refl))

abbrev pub decided : Counter → Counter
decided b = counter b.value (pred b.choices) b.words b.list

less_one : (n m : ℕ) → n ≤ m → pred n ≤ pred m
less_one n m h = omega arith

pub after_colon : {b : Counter} {o : List Counter} {ts : Tokens} (p : Place) → Any b o (sign p punct.Colon ∷ ts) → At false true (decided b) o ts
after_colon {b = b} {o = o} {ts = ts} p x =
    stays (decided b) (sign p punct.Colon) x.at
    (λ c h. (decided c, record { value = h.value; choices = less_one b.choices c.choices h.choices; words = h.words; list = h.list }, refl))

-- A comma takes nothing from what the words count, and nothing at all where a choice is open.
abbrev pub IsKept : Counter → Type 0
IsKept b = (b.value ≤ b.words) ⊎ (1 ≤ b.choices)

abbrev separated : Counter → Counter
separated c = counter c.words 0 c.words c.list

comma_by : (b c : Counter) (o : List Counter) (t : Bool) → nat_eq c.choices 0 ≡ t → AtLeast b c → IsKept b
    → (d : Counter) × AtLeast b d × (cond t (over (separated c) o) (over c o) ≡ over d o)
comma_by b c o false is h kept = (c, h, refl)
comma_by b c o true is h (inl kept) =
    let none = eqb-true c.choices 0 is in
    (separated c, record { value = omega (arith, h.words, kept); choices = omega (arith, none, h.choices); words = h.words; list = h.list }, refl)
comma_by b c o true is h (inr kept) = let none = eqb-true c.choices 0 is in absurd (omega (arith, none, kept, h.choices))

pub after_comma : {b : Counter} {o : List Counter} {ts : Tokens} (p : Place) → IsKept b → Any b o (sign p punct.Comma ∷ ts) → At true false b o ts
after_comma {b = b} {o = o} {ts = ts} p kept x = stays b (sign p punct.Comma) x.at (λ c h. comma_by b c o (nat_eq c.choices 0) refl h kept)

-- ---- words

abbrev pub worded : Counter → Counter
worded b = counter (b.value + 1) b.choices (b.words + 1) b.list

abbrev pub IsWord : Key → Type 0
IsWord w = (list label on : Bool) (s : Counters) → counted list label on (kind.Key w) s ≡ (worded s.0, s.1)

pub after_word : {b : Counter} {o : List Counter} {ts : Tokens} (p : Place) (w : Key) → IsWord w → Any b o (word p w ∷ ts) → At false false (worded b) o ts
after_word {b = b} {o = o} {ts = ts} p w is x =
    stays (worded b) (word p w) x.at
    (λ c h. (worded c, record { value = omega (arith, h.value); choices = h.choices; words = omega (arith, h.words); list = h.list }, is x.list x.label (goes_on ts) (c, o)))

-- a label may begin here, or nothing is counted that it would take away
abbrev pub IsLoose : Bool → Counter → Type 0
IsLoose label b = (label ≡ false) ⊎ AtLeast b (fresh b.list)

abbrev pub IsLabel : Key → Type 0
IsLabel w = (list label on : Bool) (s : Counters) → counted list label on (kind.Key w) s ≡ cond label (fresh s.0.list, s.1) s

label_by : (b c : Counter) (o : List Counter) (label : Bool) → AtLeast b c → IsLoose label b → (d : Counter) × AtLeast b d × (cond label (over (fresh c.list) o) (over c o) ≡ over d o)
label_by b c o false h loose = (c, h, refl)
label_by b c o true h (inl is) = absurd (true≢false is)
label_by b c o true h (inr low) = (fresh c.list, record { value = low.value; choices = low.choices; words = low.words; list = h.list }, refl)

pub after_label : {list label : Bool} {b : Counter} {o : List Counter} {ts : Tokens} (p : Place) (w : Key) → IsLabel w → IsLoose label b → At list label b o (word p w ∷ ts) → At false false b o ts
after_label {list = list} {label = label} {b = b} {o = o} {ts = ts} p w is loose x =
    stays b (word p w) x
    (λ c h. let r = label_by b c o label h loose in (r.0, r.1, is list label (goes_on ts) (c, o) ∙ r.2))

-- ---- ends of statements

-- what is left where a statement ends
abbrev pub left_by : Bool → Counter → Counter
left_by true b = b
left_by false b = fresh b.list

abbrev pub left : Counter → Tokens → Counter
left b ts = left_by (goes_on ts) b

left_least : (on : Bool) (b c : Counter) → AtLeast b c → AtLeast (left_by on b) c
left_least true b c h = h
left_least false b c h = record { value = omega arith; choices = omega arith; words = omega arith; list = h.list }

fresh_least : (b c : Counter) → AtLeast b c → AtLeast (fresh b.list) (fresh c.list)
fresh_least b c h = record { value = omega arith; choices = omega arith; words = omega arith; list = h.list }

ends_by : (b c : Counter) (o : List Counter) (on : Bool) → AtLeast b c → (d : Counter) × AtLeast (left_by on b) d × (cond on (over c o) (over (fresh c.list) o) ≡ over d o)
ends_by b c o true h = (c, h, refl)
ends_by b c o false h = (fresh c.list, fresh_least b c h, refl)

pub after_semicolon : {b : Counter} {o : List Counter} {ts : Tokens} (p : Place) → Any b o (sign p punct.Semicolon ∷ ts) → At false true (left b ts) o ts
after_semicolon {b = b} {o = o} {ts = ts} p x = stays (left b ts) (sign p punct.Semicolon) x.at (λ c h. ends_by b c o (goes_on ts) h)

-- ---- brackets

-- what is open outside of brackets, and what begins in them
pub record Entered (list label : Bool) (b : Counter) (o : List Counter) (ts : Tokens) : Type 0 where
  pub outer : Counter
  pub least : AtLeast b outer
  pub at : At false label (fresh list) (outer ∷ o) ts

pub least_of : (b : Counter) → AtLeast b b
least_of b = record { value = omega arith; choices = omega arith; words = omega arith; list = refl }

entered : {list label : Bool} {b : Counter} {o : List Counter} {ts : Tokens} (l : Bool) (t : Token) → (begins_list t.kind ≡ false) → At list label b o (t ∷ ts)
    → ((s : Counters) → counted list label (goes_on ts) t.kind s ≡ (fresh l, s.0 ∷ s.1)) → Entered l (before_label t.kind) b o ts
entered {list = list} {label = label} {o = o} {ts = ts} l t plain x is =
    let p = passed list label (x.top, o) t ts x.passes in
    record {
      outer = x.top;
      least = x.least;
      at = record {
        top = fresh l;
        least = least_of (fresh l);
        small = subst (λ (s : Counters). weight s ≤ 256) (is (x.top, o)) p.0;
        passes =
            subst (λ (f : Bool). deep_from f (before_label t.kind) (fresh l, x.top ∷ o) ts ≡ None) plain
            (subst (λ (s : Counters). deep_from (begins_list t.kind) (before_label t.kind) s ts ≡ None) (is (x.top, o)) p.1);
      };
    }

pub into_paren : {b : Counter} {o : List Counter} {ts : Tokens} (p : Place) → Any b o (sign p punct.LeftParen ∷ ts) → Entered false false b o ts
into_paren p x = entered false (sign p punct.LeftParen) refl x.at (λ s. refl)

pub into_bracket : {b : Counter} {o : List Counter} {ts : Tokens} (p : Place) → Any b o (sign p punct.LeftBracket ∷ ts) → Entered false false b o ts
into_bracket p x = entered false (sign p punct.LeftBracket) refl x.at (λ s. refl)

pub into_brace : {list label : Bool} {b : Counter} {o : List Counter} {ts : Tokens} (p : Place) → At list label b o (sign p punct.LeftBrace ∷ ts) → Entered list true b o ts
into_brace {list = list} p x = entered list (sign p punct.LeftBrace) refl x (λ s. refl)

-- the counter of the brackets goes
leaves : {list label : Bool} {inner : Counter} {c : Counter} {o : List Counter} {ts : Tokens} (next : Counter) (t : Token) → At list label inner (c ∷ o) (t ∷ ts)
    → ((top : Counter) → AtLeast inner top → (d : Counter) × AtLeast next d × (counted list label (goes_on ts) t.kind (top, c ∷ o) ≡ (d, o)))
    → At (begins_list t.kind) (before_label t.kind) next o ts
leaves {list = list} {label = label} {c = c} {o = o} {ts = ts} next t x f =
    let r = f x.top x.least in
    let p = passed list label (x.top, c ∷ o) t ts x.passes in
    record {
      top = r.0;
      least = r.1;
      small = subst (λ (s : Counters). weight s ≤ 256) r.2 p.0;
      passes = subst (λ (s : Counters). deep_from (begins_list t.kind) (before_label t.kind) s ts ≡ None) r.2 p.1;
    }

pub out_of_paren : {inner b c : Counter} {o : List Counter} {ts : Tokens} (p : Place) → AtLeast b c → Any inner (c ∷ o) (sign p punct.RightParen ∷ ts) → At false false (plus_one b) o ts
out_of_paren {b = b} {c = c} p h x = leaves (plus_one b) (sign p punct.RightParen) x.at (λ top _. (plus_one c, plus_least b c h, refl))

pub out_of_bracket : {inner b c : Counter} {o : List Counter} {ts : Tokens} (p : Place) → AtLeast b c → Any inner (c ∷ o) (sign p punct.RightBracket ∷ ts) → At false false (plus_one b) o ts
out_of_bracket {b = b} {c = c} p h x = leaves (plus_one b) (sign p punct.RightBracket) x.at (λ top _. (plus_one c, plus_least b c h, refl))

brace_by : (b c : Counter) (o : List Counter) (list on : Bool) → AtLeast b c → (d : Counter) × AtLeast (left_by on b) d × (cond list (over c o) (cond on (over c o) (over (fresh c.list) o)) ≡ over d o)
brace_by b c o true on h = (c, left_least on b c h, refl)
brace_by b c o false on h = ends_by b c o on h

-- the brace that closes statements
pub out_of_brace : {inner b c : Counter} {o : List Counter} {ts : Tokens} (p : Place) → AtLeast b c → Any inner (c ∷ o) (sign p punct.RightBrace ∷ ts) → At false true (left b ts) o ts
out_of_brace {b = b} {c = c} {o = o} {ts = ts} p h x = leaves (left b ts) (sign p punct.RightBrace) x.at (λ top _. brace_by b c o top.list (goes_on ts) h)

list_by : (c : Counter) (o : List Counter) (list : Bool) (other : Counters) → list ≡ true → cond list (over c o) other ≡ over c o
list_by c o true other is = refl
list_by c o false other is = absurd (true≢false (sym is))

-- the brace that closes a list
pub out_of_list : {inner b c : Counter} {o : List Counter} {ts : Tokens} (p : Place) → inner.list ≡ true → AtLeast b c → Any inner (c ∷ o) (sign p punct.RightBrace ∷ ts) → At false true b o ts
out_of_list {b = b} {c = c} {o = o} {ts = ts} p is h x =
    leaves b (sign p punct.RightBrace) x.at (λ top low. (c, h, list_by c o top.list (cond (goes_on ts) (c, o) (fresh c.list, o)) (low.list ∙ is)))

-- ---- where nothing is counted yet

-- it counts no more than one that is fresh
abbrev pub IsLow : Counter → Type 0
IsLow b = AtLeast b (fresh b.list)

pub low_fresh : (list : Bool) → IsLow (fresh list)
low_fresh list = least_of (fresh list)

low_by : (on : Bool) (b : Counter) → IsLow b → AtLeast b (left_by on b)
low_by true b low = least_of b
low_by false b low = low

-- so nothing is lost where a statement ends
pub low_left : {b : Counter} {o : List Counter} {ts : Tokens} (us : Tokens) → IsLow b → Any (left b us) o ts → Any b o ts
low_left {b = b} us low x = weaker (low_by (goes_on us) b low) x

less_by : (on : Bool) (a b : Counter) → AtLeast a b → AtLeast (left_by on a) (left_by on b)
less_by true a b h = h
less_by false a b h = record { value = omega arith; choices = omega arith; words = omega arith; list = h.list }

pub left_less : {a b : Counter} {o : List Counter} {ts : Tokens} (us : Tokens) → AtLeast a b → Any (left b us) o ts → Any (left a us) o ts
left_less {a = a} {b = b} us h x = weaker (less_by (goes_on us) a b h) x

all_by : (on : Bool) (b : Counter) → AtLeast (left_by on b) b
all_by true b = least_of b
all_by false b = record { value = omega arith; choices = omega arith; words = omega arith; list = refl }

pub all_left : {b : Counter} {o : List Counter} {ts : Tokens} (us : Tokens) → Any b o ts → Any (left b us) o ts
all_left {b = b} us x = weaker (all_by (goes_on us) b) x
