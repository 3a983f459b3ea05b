-- What the reader of expressions reads stands for the tokens that it took.
use Rattle.std.proofs.Common.{◌≡◌, ℕ, ◌≤◌, true, ◌++◌, Ok, subst, append_assoc, arith}
use Rattle.gsl_syntax.specs.declared.expr.Basic.{Basic}
use Rattle.gsl_syntax.specs.declared.expr.Expr.{Expr}
use Rattle.gsl_syntax.specs.Phrases.{IsExpr, IsDims}
use Rattle.gsl_expr.specs.declared.rule.Start.TheVariants as start
use Rattle.gsl_expr.specs.declared.rule.Head.{Head}
use Rattle.gsl_expr.specs.Rules.{start_at}
use Rattle.gsl_expr.specs.Reading.{Tokens, Outcome, and_then}
use Rattle.gsl_expr.specs.Expressions.{dims, may_be_open, basic_head, named_head, applied, completed, expr}
use Rattle.gsl_expr.proofs.Taken.{Good, Taken, good_weaken, good_then}
use Rattle.gsl_expr.proofs.SoundHeads.{Stands, dims_good, named_head_good, basic_open_good, basic_head_good}
use Rattle.gsl_expr.proofs.SoundOperands.{whole_ready, applied_good}
use Rattle.gsl_expr.proofs.SoundClimb.{completed_good, nested}

pub expr_sound : (d k : ℕ) (ts : Tokens) → k ≤ 2 → Good (IsExpr k) ts (expr d k ts)
expr_sound d k ts low = (nested d).low k ts low

-- what was read, and the tokens that it was read from
pub derived : (d k : ℕ) (ts rest : Tokens) (a : Expr) → k ≤ 2 → expr d k ts ≡ Ok (a, rest) → (xs : Tokens) × (ts ≡ xs ++ rest) × IsExpr k a xs
derived d k ts rest a low is =
    let taken : Taken (IsExpr k a) ts rest = subst (λ (r : Outcome Expr). Good (IsExpr k) ts r) is (expr_sound d k ts low) in
    (taken.xs, taken.splits, taken.stands)

pub dims_sound : (d : ℕ) (ts : Tokens) → Good IsDims ts (dims (expr d) ts)
dims_sound d ts = dims_good (expr d) (nested d).low ts

pub basic_open_sound : (d : ℕ) (b : Basic) (ts : Tokens) → start_at ts ≡ start.Basic b → Good (λ h xs. Stands h xs × (may_be_open h.mode ≡ true)) ts (basic_head (expr d) b ts)
basic_open_sound d b ts h = basic_open_good (expr d) (nested d).low b ts h

pub basic_head_sound : (d : ℕ) (b : Basic) (ts : Tokens) → start_at ts ≡ start.Basic b → Good Stands ts (basic_head (expr d) b ts)
basic_head_sound d b ts h = basic_head_good (expr d) (nested d).low b ts h

pub named_head_sound : (d : ℕ) (ts : Tokens) → Good Stands ts (named_head (expr d) ts)
named_head_sound d ts = named_head_good (expr d) (nested d).low ts

-- what goes on with a head
pub head_rest_sound : (d : ℕ) (h : Head) (xs ts : Tokens) → Stands h xs → Good (λ a ys. IsExpr 0 a (xs ++ ys)) ts (and_then (applied (expr d) h ts) (completed (expr d) 0))
head_rest_sound d h xs ts s =
    good_then (λ a ys. IsExpr 15 a (xs ++ ys)) (λ a ys. IsExpr 0 a (xs ++ ys)) ts (applied (expr d) h ts) (completed (expr d) 0) (applied_good (expr d) (nested d) h xs ts s)
    (λ a ys rest split w. good_weaken (λ b zs. IsExpr 0 b ((xs ++ ys) ++ zs)) (λ b zs. IsExpr 0 b (xs ++ (ys ++ zs))) rest (completed (expr d) 0 a rest)
    (completed_good (expr d) (nested d) 0 a (xs ++ ys) rest (omega arith) (whole_ready a (xs ++ ys) rest w))
    (λ b zs v. subst (λ (z : Tokens). IsExpr 0 b z) (append_assoc xs ys zs) v))
