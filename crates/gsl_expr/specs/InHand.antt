-- How the code reads, and not the rule.
-- What a cursor has left: the tokens in hand, and then those that its supply has still to give.
use Rattle.std.specs.Prelude.{◌≡◌, ℕ, ◌+◌, List, [], ◌∷◌, length, Option, Some, None, Result, Ok, Err}
use Rattle.gsl_base.specs.declared.fault.Place.{Place}
use Rattle.gsl_base.specs.declared.memory.Memory.{Memory}
use Rattle.gsl_base.specs.declared.token.Token.{Token}
use Rattle.gsl_supply.specs.Coming.{Coming}
use Rattle.gsl_supply.specs.Supplying.{comes}
use Rattle.gsl_supply.specs.declared.supply.Supply.{Supply}
use Rattle.gsl_expr.specs.Reading.{Tokens, Ahead}

-- a token in hand and those behind it; where there is none, nothing is behind it
abbrev pub in_hand : Option Token → Tokens → Tokens
in_hand None ts = []
in_hand (Some t) ts = t ∷ ts

-- the place of the last of these tokens, or this one where there is none
unfoldable pub last_place : Place → Tokens → Place
last_place p [] = p
last_place p (t ∷ ts) = last_place t.place ts

-- these tokens are left, the last one before them stands here, and so many were given before what comes
abbrev pub ahead_of : Tokens → Place → ℕ → Coming → Ahead
ahead_of ts p count c = record { left = ts; kept = record { total = count + length c.tokens; ends = last_place p ts; fault = c.fault } }

abbrev pub ahead : Option Token → Option Token → Place → Supply → Ahead
ahead first second p s = ahead_of (in_hand first (in_hand second (comes s).tokens)) p s.count (comes s)

abbrev pub first_line : Place
first_line = record { unit = 0; line = 1 }

-- all that a supply has to give
abbrev pub all_ahead : Supply → Ahead
all_ahead s = ahead_of (comes s).tokens first_line s.count (comes s)

-- A token was drawn, or there was none.
abbrev pub Draws : Result (Option Token) Memory → Supply → Supply → Type 0
Draws (Ok x) old new =
    ((comes old).tokens ≡ in_hand x (comes new).tokens) × (new.count + length (comes new).tokens ≡ old.count + length (comes old).tokens) × ((comes new).fault ≡ (comes old).fault)
Draws (Err memory) old new = Unit {0}

-- The next token was taken, or there was none.
abbrev pub Advances : Result (Option Token) Memory → Ahead → Ahead → Type 0
Advances (Ok (Some t)) old new = (old.left ≡ t ∷ new.left) × (new.kept ≡ old.kept)
Advances (Ok None) old new = (old.left ≡ []) × (new ≡ old)
Advances (Err memory) old new = Unit {0}

abbrev pub place_by : Place → Tokens → Place
place_by p [] = p
place_by p (t ∷ ts) = t.place

-- the place of the next token, or of the last where there is none
abbrev pub place_of_next : Ahead → Place
place_of_next a = place_by a.kept.ends a.left
