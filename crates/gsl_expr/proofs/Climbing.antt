-- How operands with their operators are read, step by step.
use Rattle.std.proofs.Common.{◌≡◌, refl, ap, ◌∙◌, ℕ, zero, suc, ◌≤◌, ◌<◌, false, List, [], ◌∷◌, length, Ok, Err, max, nat_le, arith}
use Rattle.std.proofs.Math.Dec.{eqb-suc-zero}
use Rattle.std.proofs.lemmas.Bool.{lt-ltb, le-ltb, lt-leb}
use Rattle.gsl_base.specs.declared.fault.Place.{Place}
use Rattle.gsl_base.specs.declared.token.Punct.TheVariants as punct
use Rattle.gsl_base.specs.declared.token.Token.{Token}
use Rattle.gsl_syntax.specs.declared.expr.Expr.{Expr}
use Rattle.gsl_expr.specs.declared.rule.Tail.{Tail}
use Rattle.gsl_expr.specs.declared.rule.Tail.TheVariants as tail
use Rattle.gsl_expr.specs.Rules.{follow_at, binds, tail_at}
use Rattle.gsl_expr.specs.Reading.{Tokens, Outcome, Parser, and_then, ◌>>=◌, sees}
use Rattle.gsl_expr.specs.Expressions.{operand, operate, climb, tailed_as, tailed, further, sequence_of, sequenced, completed, expr}

-- an operand and the operators behind it that bind so tightly
unfoldable pub level : (ℕ → Parser Expr) → ℕ → Parser Expr
level next low = operand next >>= λ a ts. climb next low (length ts) a ts

-- an expression up to a comma
unfoldable pub single : (ℕ → Parser Expr) → ℕ → Parser Expr
single next least = level next (max least 3) >>= tailed next least

-- What was read so far is a, and the reader goes on from rest.
pub record Climbs (next : ℕ → Parser Expr) (low : ℕ) (ts : Tokens) (a : Expr) (rest : Tokens) : Type 0 where
  pub fuel : ℕ
  pub enough : length rest ≤ fuel
  pub is : level next low ts ≡ climb next low fuel a rest

pub climb_stop : (next : ℕ → Parser Expr) (low n : ℕ) (a : Expr) (rest : Tokens) → binds (follow_at rest) < low → climb next low n a rest ≡ Ok (a, rest)
unfolding climb
climb_stop next low zero a rest h = refl
climb_stop next low (suc n) a rest h = rw (lt-ltb _ _ h) refl

climb_once : (next : ℕ → Parser Expr) (low n : ℕ) (a : Expr) (ts : Tokens) (t : Expr) (rest : Tokens) → low ≤ binds (follow_at ts) → operate next a ts ≡ Ok (t, rest) → climb next low (suc n) a ts ≡ climb next low n t rest
unfolding climb
climb_once next low n a ts t rest h o = rw (le-ltb _ _ h) (ap (λ (r : Outcome Expr). and_then r (climb next low n)) o)

pub climb_step : (next : ℕ → Parser Expr) (low : ℕ) (ts : Tokens) (a : Expr) (tok : Token) (zs : Tokens) (t : Expr) (rest : Tokens) → Climbs next low ts a (tok ∷ zs) → low ≤ binds (follow_at (tok ∷ zs))
    → operate next a (tok ∷ zs) ≡ Ok (t, rest) → length rest ≤ length zs → Climbs next low ts t rest
climb_step next low ts a tok zs t rest c h o le = go c.fuel refl
  where
    go : (n : ℕ) → c.fuel ≡ n → Climbs next low ts t rest
    go zero e = let some = c.enough in absurd (omega arith)
    go (suc n) e = let enough = c.enough in record { fuel = n; enough = omega arith; is = c.is ∙ ap (λ m. climb next low m a (tok ∷ zs)) e ∙ climb_once next low n a (tok ∷ zs) t rest h o }

-- an operand that is read whole
pub climb_from : (next : ℕ → Parser Expr) (low : ℕ) (ts : Tokens) (a : Expr) (rest : Tokens) → operand next ts ≡ Ok (a, rest) → Climbs next low ts a rest
unfolding level
climb_from next low ts a rest o = record { fuel = length rest; enough = omega arith; is = ap (λ (r : Outcome Expr). and_then r (λ a ts. climb next low (length ts) a ts)) o }

pub climbs_at : {next : ℕ → Parser Expr} {low : ℕ} {ts us : Tokens} {a : Expr} {rest : Tokens} → us ≡ ts → Climbs next low ts a rest → Climbs next low us a rest
climbs_at {next = next} {low = low} e c = record { fuel = c.fuel; enough = c.enough; is = ap (level next low) e ∙ c.is }

climb_ends : (next : ℕ → Parser Expr) (low : ℕ) (ts : Tokens) (a : Expr) (rest : Tokens) → Climbs next low ts a rest → binds (follow_at rest) < low → level next low ts ≡ Ok (a, rest)
climb_ends next low ts a rest c h = c.is ∙ climb_stop next low c.fuel a rest h

-- ---- behind operands and their operators

pub climb_single : (next : ℕ → Parser Expr) (least : ℕ) (ts : Tokens) (a : Expr) (rest : Tokens) → Climbs next (max least 3) ts a rest → binds (follow_at rest) < max least 3 → single next least ts ≡ tailed next least a rest
unfolding single
climb_single next least ts a rest c h = ap (λ (r : Outcome Expr). and_then r (tailed next least)) (climb_ends next (max least 3) ts a rest c h)

pub tailed_end : (next : ℕ → Parser Expr) (least : ℕ) (a : Expr) (rest : Tokens) → tail_at rest ≡ tail.End → tailed next least a rest ≡ Ok (a, rest)
unfolding tailed
tailed_end next least a rest h = ap (λ (t : Tail). tailed_as next least a t rest) h

tailed_high_by : (next : ℕ → Parser Expr) (least : ℕ) (a : Expr) (rest : Tokens) (t : Tail) → nat_le least 2 ≡ false → nat_le least 1 ≡ false → tailed_as next least a t rest ≡ Ok (a, rest)
tailed_high_by next least a rest tail.Question h g = rw h refl
tailed_high_by next least a rest (tail.Assign o) h g = rw g refl
tailed_high_by next least a rest tail.End h g = refl

pub tailed_high : (next : ℕ → Parser Expr) (least : ℕ) (a : Expr) (rest : Tokens) → 3 ≤ least → tailed next least a rest ≡ Ok (a, rest)
unfolding tailed
tailed_high next least a rest h = tailed_high_by next least a rest (tail_at rest) (lt-leb least 2 (omega arith)) (lt-leb least 1 (omega arith))

pub further_stop : (next : ℕ → Parser Expr) (n : ℕ) (found : List (Place × Expr)) (ts : Tokens) → sees punct.Comma ts ≡ false → further next n found ts ≡ Ok (found, ts)
unfolding further
further_stop next zero found ts h = refl
further_stop next (suc n) found ts h = rw h refl

-- no more behind commas
pub sequenced_end : (next : ℕ → Parser Expr) (least : ℕ) (a : Expr) (rest : Tokens) → (least ≡ 0 → sees punct.Comma rest ≡ false) → sequenced next least a rest ≡ Ok (a, rest)
unfolding sequenced
sequenced_end next zero a rest h = ap (λ (r : Outcome (List (Place × Expr))). and_then r (λ bs rest. Ok (sequence_of a bs, rest))) (further_stop next (length rest) [] rest (h refl))
sequenced_end next (suc n) a rest h = rw (eqb-suc-zero n) refl

whole_by : (next : ℕ → Parser Expr) (least : ℕ) (r : Outcome Expr)
    → and_then r (completed next least) ≡ and_then (and_then (and_then r (λ a ts. climb next (max least 3) (length ts) a ts)) (tailed next least)) (sequenced next least)
unfolding completed
whole_by next least (Ok p) = refl
whole_by next least (Err n) = refl

pub expr_is : (d least : ℕ) (ts : Tokens) → expr (suc d) least ts ≡ and_then (single (expr d) least ts) (sequenced (expr d) least)
unfolding expr single level
expr_is d least ts = whole_by (expr d) least (operand (expr d) ts)

-- an expression with nothing more behind commas
pub expr_single : (d least : ℕ) (ts : Tokens) (a : Expr) (rest : Tokens) → single (expr d) least ts ≡ Ok (a, rest) → (least ≡ 0 → sees punct.Comma rest ≡ false) → expr (suc d) least ts ≡ Ok (a, rest)
expr_single d least ts a rest s h = expr_is d least ts ∙ ap (λ (r : Outcome Expr). and_then r (sequenced (expr d) least)) s ∙ sequenced_end (expr d) least a rest h
