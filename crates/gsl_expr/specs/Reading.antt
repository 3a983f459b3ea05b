-- How the code reads, and not the rule, which stands in `Phrases.antt` of `gsl_syntax`.
-- Reading tokens from left to right. A fault is the tokens that are left, from the bad one on.
use Rattle.std.specs.Prelude.{◌≡◌, ℕ, Bool, false, List, [], ◌∷◌, Option, Result, Ok, Err, if◌then◌else◌}
use denote.Enum.Bare.{sameb}
use Rattle.gsl_base.specs.declared.fault.Fault.{Fault}
use Rattle.gsl_base.specs.declared.fault.Place.{Place}
use Rattle.gsl_base.specs.declared.token.Punct.{Punct}
use Rattle.gsl_base.specs.contracts.token.Punct.{the_type as punct_type}
use Rattle.gsl_base.specs.declared.token.Key.{Key}
use Rattle.gsl_base.specs.contracts.token.Key.{the_type as key_type}
use Rattle.gsl_base.specs.declared.token.Kind.{Kind}
use Rattle.gsl_base.specs.declared.token.Kind.TheVariants as kind
use Rattle.gsl_base.specs.declared.token.Token.{Token}
use Rattle.gsl_syntax.specs.declared.declaration.Name.{Name}
use Rattle.gsl_expr.specs.declared.stop.Stop.{Stop}
use Rattle.gsl_expr.specs.declared.stop.Stop.TheVariants as stop

abbrev pub Tokens : Type 0
Tokens = List Token

-- a tree and the tokens behind it, or a fault
abbrev pub Outcome : Type 0 → Type 0
Outcome A = Result (A × Tokens) Tokens

abbrev pub Parser : Type 0 → Type 0
Parser A = Tokens → Outcome A

abbrev pub and_then : {A B : Type 0} → Outcome A → (A → Parser B) → Outcome B
and_then (Ok p) f = f p.0 p.1
and_then (Err bad) f = Err bad

infixl 10 ◌>>=◌
abbrev pub ◌>>=◌ : {A B : Type 0} → Parser A → (A → Parser B) → Parser B
p >>= f = λ ts. and_then (p ts) f

abbrev pub pure : {A : Type 0} → A → Parser A
pure a = λ ts. Ok (a, ts)

abbrev pub fail : {A : Type 0} → Parser A
fail = λ ts. Err ts

-- takes a token, whatever it is, and gives its place
abbrev pub take_one : Parser Place
take_one [] = Err []
take_one (t ∷ ts) = Ok (t.place, ts)

abbrev pub is_punct : Punct → Kind → Bool
is_punct m (kind.Punct n) = sameb punct_type n m
is_punct m _ = false

abbrev pub is_key : Key → Kind → Bool
is_key w (kind.Key v) = sameb key_type v w
is_key w _ = false

-- whether the next token is this punctuator
unfoldable pub sees : Punct → Tokens → Bool
sees m [] = false
sees m (t ∷ ts) = is_punct m t.kind

-- whether the next token is this keyword
unfoldable pub sees_key : Key → Tokens → Bool
sees_key w [] = false
sees_key w (t ∷ ts) = is_key w t.kind

-- takes this punctuator
unfoldable pub expect : Punct → Parser Place
expect m ts = if sees m ts then take_one ts else Err ts

abbrev pub name_by : Token → Tokens → Kind → Outcome Name
name_by t ts (kind.Name n) = Ok (record { place = t.place; text = n }, ts)
name_by t ts _ = Err (t ∷ ts)

-- takes a name
unfoldable pub name : Parser Name
name [] = Err []
name (t ∷ ts) = name_by t ts t.kind

-- whether this punctuator stands behind the next token
unfoldable pub sees_behind : Punct → Tokens → Bool
sees_behind m [] = false
sees_behind m (t ∷ ts) = sees m ts

-- ---- what a function that reads ensures: this outcome, unless memory runs out

-- what stays as tokens are taken: how many there are, the place of the last, and the fault that goes before the grammar's
pub record Kept : Type 0 where
  pub total : ℕ
  pub ends : Place
  pub fault : Option Fault

-- the tokens that a cursor has left, and what stays
pub record Ahead : Type 0 where
  pub left : Tokens
  pub kept : Kept

abbrev pub Reads : {A : Type 0} → Outcome A → Result A Stop → Ahead → Ahead → Type 0
Reads outcome (Ok a) old new = (outcome ≡ Ok (a, new.left)) × (new.kept ≡ old.kept)
Reads outcome (Err stop.Bad) old new = (outcome ≡ Err new.left) × (new.kept ≡ old.kept)
Reads outcome (Err stop.Memory) old new = Unit {0}
