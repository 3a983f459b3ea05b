-- What is in hand and what is drawn.
use Rattle.std.proofs.Common.{◌≡◌, ℕ, ◌+◌, ◌∷◌, [], length, Option, Some, None, Ok, refl, sym, ap, ◌∙◌, arith}
use Rattle.gsl_base.specs.declared.fault.Fault.{Fault}
use Rattle.gsl_base.specs.declared.fault.Place.{Place}
use Rattle.gsl_base.specs.declared.token.Token.{Token}
use Rattle.gsl_supply.specs.Coming.{Coming, first_comes}
use Rattle.gsl_supply.specs.Supplying.{comes}
use Rattle.gsl_supply.specs.declared.supply.Supply.{Supply}
use Rattle.gsl_expr.specs.Reading.{Tokens, Kept, Ahead}
use Rattle.gsl_expr.specs.InHand.{in_hand, last_place, ahead, Draws}

abbrev kept_of : ℕ → Place → Option Fault → Kept
kept_of n p f = record { total = n; ends = p; fault = f }

-- the next token is taken, the one behind it is held, and another is drawn
pub advanced : (now : Ahead) (first second held x : Option Token) (p : Place) (t : Token) (s u : Supply) → now ≡ ahead first second p s → first ≡ Some t → held ≡ second → Draws (Ok x) s u
    → (now.left ≡ t ∷ in_hand held (in_hand x (comes u).tokens)) × (kept_of (u.count + length (comes u).tokens) (last_place t.place (in_hand held (in_hand x (comes u).tokens))) (comes u).fault ≡ now.kept)
unfolding last_place
advanced now first second held x p t s u v f h d =
    let more : Tokens = in_hand held (in_hand x (comes u).tokens) in
    let left : in_hand first (in_hand second (comes s).tokens) ≡ t ∷ more =
    ap (λ z. in_hand z (in_hand second (comes s).tokens)) f ∙ ap (λ (z : Option Token). t ∷ in_hand z (comes s).tokens) (sym h) ∙ ap (λ (z : Tokens). t ∷ in_hand held z) d.0 in (
      ap (λ (a : Ahead). a.left) v ∙ left,
      ap (λ n. kept_of n (last_place t.place more) (comes u).fault) d.1 ∙ ap (λ (z : Tokens). kept_of (s.count + length (comes s).tokens) (last_place p z) (comes u).fault) (sym left)
          ∙ ap (λ f. kept_of (s.count + length (comes s).tokens) (last_place p (in_hand first (in_hand second (comes s).tokens))) f) d.2 ∙ ap (λ (a : Ahead). a.kept) (sym v),
    )
