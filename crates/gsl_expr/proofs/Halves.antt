-- An expression that begins with a name or a type is read in two halves.
use Rattle.std.proofs.Common.{◌≡◌, refl, sym, ap, ◌∙◌, ℕ, suc, ◌≤◌, Bool, true, false, List, [], ◌∷◌, ◌++◌, length, Ok, Err, if◌then◌else◌, arith}
use Rattle.gsl_base.specs.declared.fault.Place.{Place}
use Rattle.gsl_base.specs.declared.token.Punct.TheVariants as punct
use Rattle.gsl_base.specs.declared.token.Kind.{Kind}
use Rattle.gsl_base.specs.declared.token.Kind.TheVariants as kind
use Rattle.gsl_syntax.specs.declared.expr.Basic.{Basic}
use Rattle.gsl_syntax.specs.declared.expr.Expr.{Expr}
use Rattle.gsl_syntax.specs.declared.expr.Dim.{Dim}
use Rattle.gsl_syntax.specs.Phrases.{IsExpr}
use Rattle.gsl_expr.specs.declared.rule.Start.{Start}
use Rattle.gsl_expr.specs.declared.rule.Start.TheVariants as start
use Rattle.gsl_expr.specs.declared.rule.Base.{Base}
use Rattle.gsl_expr.specs.declared.rule.Base.TheVariants as base
use Rattle.gsl_expr.specs.declared.rule.Head.{Head}
use Rattle.gsl_expr.specs.Rules.{start_at, follow_at, tail_at}
use Rattle.gsl_expr.specs.Names.{is_name, sees_name}
use Rattle.gsl_expr.specs.Reading.{Tokens, Outcome, Parser, and_then, ◌>>=◌, fail, sees}
use Rattle.gsl_expr.specs.Expressions.{may_be_index, named_head, basic_head, indexed_by, applied, operand_as, operand, tailed, sequenced, completed, expr}
use Rattle.gsl_expr.proofs.Taken.{ok_is}
use Rattle.gsl_expr.proofs.Ends.{Ends}
use Rattle.gsl_expr.proofs.Signs.{end_binds}
use Rattle.gsl_expr.proofs.Climbing.{climb_stop, tailed_end, sequenced_end}
use Rattle.gsl_expr.proofs.Complete.{expr_complete}

-- A name or a type with its brackets was read, no name stands behind it, and the rest gives the expression.
pub record Halved (d : ℕ) (a : Expr) (rest : Tokens) (first : Outcome Head) : Type 0 where
  pub head : Head
  pub behind : Tokens
  pub begins : first ≡ Ok (head, behind)
  pub nameless : sees_name behind ≡ false
  pub goes_on : (applied (expr d) head >>= completed (expr d) 0) behind ≡ Ok (a, rest)

name_ends_by : (k : Kind) (ts : Tokens) (p : Place) → is_name k ≡ true → Ends 0 (record { place = p; kind = k } ∷ ts)
unfolding follow_at tail_at sees
name_ends_by (kind.Name n) ts p h = record { follow = refl; tail = refl; comma = λ z. refl; paren = refl }
name_ends_by (kind.Key w) ts p h = absurd cc
name_ends_by (kind.Signed n) ts p h = absurd cc
name_ends_by (kind.Unsigned n) ts p h = absurd cc
name_ends_by (kind.Punct m) ts p h = absurd cc

pub name_ends : (ts : Tokens) → sees_name ts ≡ true → Ends 0 ts
unfolding sees_name
name_ends [] h = absurd cc
name_ends (t ∷ ts) h = name_ends_by t.kind ts t.place h

completed_ends : (next : ℕ → Parser Expr) (a : Expr) (ts : Tokens) → Ends 0 ts → completed next 0 a ts ≡ Ok (a, ts)
unfolding completed
completed_ends next a ts ends =
    let none = end_binds ts ends.follow in
    ap (λ (r : Outcome Expr). and_then (and_then r (tailed next 0)) (sequenced next 0)) (climb_stop next 3 (length ts) a ts (omega arith))
    ∙ ap (λ (r : Outcome Expr). and_then r (sequenced next 0)) (tailed_end next 0 a ts ends.tail)
    ∙ sequenced_end next 0 a ts ends.comma

-- where no parenthesis stands behind a name with its brackets, nothing is taken
loose_same : (next : ℕ → Parser Expr) (c : Bool) (p : Place) (b : Base) (ds : List Dim) (ts : Tokens) (a : Expr) (rest : Tokens) → (if c then indexed_by next p b ds ts else fail ts) ≡ Ok (a, rest) → ts ≡ rest
loose_same next true p (base.Named n) ds ts a rest h = ap (λ (z : Expr × Tokens). z.1) (ok_is _ (a, rest) h)
loose_same next true p (base.Basic b) ds ts a rest h = absurd cc
loose_same next false p b ds ts a rest h = absurd cc

applied_loose : (next : ℕ → Parser Expr) (h : Head) (ts : Tokens) → sees punct.LeftParen ts ≡ false → applied next h ts ≡ (if may_be_index h.mode then indexed_by next h.place h.base h.dims ts else fail ts)
unfolding applied
applied_loose next h ts no_paren = rw no_paren refl

-- Where a name stands behind, all ends there.
stops_there : (next : ℕ → Parser Expr) (h : Head) (ts : Tokens) (a : Expr) (rest : Tokens) → Ends 0 ts → (applied next h >>= completed next 0) ts ≡ Ok (a, rest) → ts ≡ rest
stops_there next h ts a rest ends x = go (applied next h ts) refl
  where
    go : (r : Outcome Expr) → applied next h ts ≡ r → ts ≡ rest
    go (Ok y) e =
        let same : ts ≡ y.1 = loose_same next (may_be_index h.mode) h.place h.base h.dims ts y.0 y.1 (sym (applied_loose next h ts ends.paren) ∙ e) in
        let all : completed next 0 y.0 ts ≡ Ok (a, rest) = ap (completed next 0 y.0) same ∙ ap (λ (r : Outcome Expr). and_then r (completed next 0)) (sym e) ∙ x in
        ap (λ (z : Expr × Tokens). z.1) (ok_is (y.0, ts) (a, rest) (sym (completed_ends next y.0 ts ends) ∙ all))
    go (Err n) e = let bad : (let none : Outcome Expr = Err n in none ≡ Ok (a, rest)) = ap (λ (r : Outcome Expr). and_then r (completed next 0)) (sym e) ∙ x in absurd cc

no_name_behind : (d : ℕ) (h : Head) (ts : Tokens) (a : Expr) (rest : Tokens) → sees_name rest ≡ false → (applied (expr d) h >>= completed (expr d) 0) ts ≡ Ok (a, rest) → sees_name ts ≡ false
no_name_behind d h ts a rest none x = go (sees_name ts) refl
  where
    go : (c : Bool) → sees_name ts ≡ c → sees_name ts ≡ false
    go false e = e
    go true e = ap sees_name (stops_there (expr d) h ts a rest (name_ends ts e) x) ∙ none

halved_by : (d : ℕ) (a : Expr) (rest : Tokens) (r : Outcome Head) → sees_name rest ≡ false → and_then (and_then r (applied (expr d))) (completed (expr d) 0) ≡ Ok (a, rest) → Halved d a rest r
halved_by d a rest (Ok p) none x = record { head = p.0; behind = p.1; begins = refl; nameless = no_name_behind d p.0 p.1 a rest none x; goes_on = x }
halved_by d a rest (Err n) none x = absurd cc

by_start : (d : ℕ) (s : Start) (ts : Tokens) (a : Expr) (rest : Tokens) → start_at ts ≡ s → expr (suc d) 0 ts ≡ Ok (a, rest) → and_then (operand_as (expr d) s ts) (completed (expr d) 0) ≡ Ok (a, rest)
unfolding expr operand
by_start d s ts a rest h x = ap (λ (z : Start). and_then (operand_as (expr d) z ts) (completed (expr d) 0)) (sym h) ∙ x

pub name_halves : {a : Expr} {xs : Tokens} → IsExpr 0 a xs → (d : ℕ) (rest : Tokens) → length (xs ++ rest) ≤ suc d → Ends 0 rest → sees_name rest ≡ false → start_at (xs ++ rest) ≡ start.Name → Halved d a rest (named_head (expr d) (xs ++ rest))
name_halves {a = a} {xs = xs} x d rest fits ends none h =
    halved_by d a rest (named_head (expr d) (xs ++ rest)) none (by_start d start.Name (xs ++ rest) a rest h (expr_complete x (suc d) rest (omega arith) fits ends))

pub basic_halves : {a : Expr} {xs : Tokens} → IsExpr 0 a xs → (d : ℕ) (rest : Tokens) (b : Basic) → length (xs ++ rest) ≤ suc d → Ends 0 rest → sees_name rest ≡ false → start_at (xs ++ rest) ≡ start.Basic b
    → Halved d a rest (basic_head (expr d) b (xs ++ rest))
basic_halves {a = a} {xs = xs} x d rest b fits ends none h =
    halved_by d a rest (basic_head (expr d) b (xs ++ rest)) none (by_start d (start.Basic b) (xs ++ rest) a rest h (expr_complete x (suc d) rest (omega arith) fits ends))
