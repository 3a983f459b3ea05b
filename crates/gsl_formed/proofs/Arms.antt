-- How many arms of an expression or an initialiser stand within each other, by what stands at its top.
use Rattle.std.proofs.Common.{◌≡◌, ℕ, ◌+◌, ◌≤◌, max, Bool, List, map, arith}
use Rattle.gsl_base.specs.declared.fault.Place.{Place}
use Rattle.gsl_syntax.specs.declared.operator.BinaryOp.{BinaryOp}
use Rattle.gsl_syntax.specs.declared.operator.BinaryOp.TheVariants.{LogicalAnd, LogicalOr}
use Rattle.gsl_syntax.specs.declared.operator.AssignOp.{AssignOp}
use Rattle.gsl_syntax.specs.declared.operator.UnaryOp.{UnaryOp}
use Rattle.gsl_syntax.specs.declared.operator.PostfixOp.{PostfixOp}
use Rattle.gsl_syntax.specs.declared.expr.Expr.{Expr}
use Rattle.gsl_syntax.specs.declared.expr.Expr.TheVariants as e
use Rattle.gsl_syntax.specs.declared.expr.TypeSpec.{TypeSpec}
use Rattle.gsl_syntax.specs.declared.declaration.Init.{Init}
use Rattle.gsl_syntax.specs.declared.declaration.Init.TheVariants as init
use Rattle.gsl_tree.specs.Statements.{deepest}
use Rattle.gsl_formed.specs.Nested.{binary_arms, rest_arms, expr_arms_by, expr_arms, init_arms_by, init_arms}
use Rattle.gsl_formed.proofs.Folds as at

abbrev pub item_arms : List Expr → ℕ
item_arms bs = deepest (map expr_arms bs)

abbrev pub further_arms : List (Place × Expr) → ℕ
further_arms bs = rest_arms (map (λ (n : Place × Expr). (n.0, expr_arms n.1)) bs)

pub arms_Name : (p : Place) (n : List ℕ) → expr_arms (e.Name p n) ≡ 0
unfolding expr_arms
arms_Name p n = at.at-Name (Unit {0}) ℕ (Unit {0}) (λ _. tt) expr_arms_by (λ _. tt) p n

pub arms_Signed : (p : Place) (n : ℕ) → expr_arms (e.Signed p n) ≡ 0
unfolding expr_arms
arms_Signed p n = at.at-Signed (Unit {0}) ℕ (Unit {0}) (λ _. tt) expr_arms_by (λ _. tt) p n

pub arms_Unsigned : (p : Place) (n : ℕ) → expr_arms (e.Unsigned p n) ≡ 0
unfolding expr_arms
arms_Unsigned p n = at.at-Unsigned (Unit {0}) ℕ (Unit {0}) (λ _. tt) expr_arms_by (λ _. tt) p n

pub arms_Bool : (p : Place) (b : Bool) → expr_arms (e.Bool p b) ≡ 0
unfolding expr_arms
arms_Bool p b = at.at-Bool (Unit {0}) ℕ (Unit {0}) (λ _. tt) expr_arms_by (λ _. tt) p b

pub arms_Paren : (p : Place) (a : Expr) → expr_arms (e.Paren p a) ≡ expr_arms a
unfolding expr_arms
arms_Paren p a = at.at-Paren (Unit {0}) ℕ (Unit {0}) (λ _. tt) expr_arms_by (λ _. tt) p a

pub arms_CallVoid : (t : TypeSpec) → expr_arms (e.CallVoid t) ≡ 0
unfolding expr_arms
arms_CallVoid t = at.at-CallVoid (Unit {0}) ℕ (Unit {0}) (λ _. tt) expr_arms_by (λ _. tt) t

pub arms_Call : (t : TypeSpec) (bs : List Expr) → expr_arms (e.Call t bs) ≡ item_arms bs
unfolding expr_arms
arms_Call t bs = at.at-Call (Unit {0}) ℕ (Unit {0}) (λ _. tt) expr_arms_by (λ _. tt) t bs

pub arms_Index : (p : Place) (a b : Expr) → expr_arms (e.Index p a b) ≡ max (expr_arms a) (expr_arms b)
unfolding expr_arms
arms_Index p a b = at.at-Index (Unit {0}) ℕ (Unit {0}) (λ _. tt) expr_arms_by (λ _. tt) p a b

pub arms_Member : (p : Place) (a : Expr) (n : List ℕ) → expr_arms (e.Member p a n) ≡ expr_arms a
unfolding expr_arms
arms_Member p a n = at.at-Member (Unit {0}) ℕ (Unit {0}) (λ _. tt) expr_arms_by (λ _. tt) p a n

pub arms_Method : (p : Place) (a : Expr) (n : List ℕ) → expr_arms (e.Method p a n) ≡ expr_arms a
unfolding expr_arms
arms_Method p a n = at.at-Method (Unit {0}) ℕ (Unit {0}) (λ _. tt) expr_arms_by (λ _. tt) p a n

pub arms_Postfix : (p : Place) (o : PostfixOp) (a : Expr) → expr_arms (e.Postfix p o a) ≡ expr_arms a
unfolding expr_arms
arms_Postfix p o a = at.at-Postfix (Unit {0}) ℕ (Unit {0}) (λ _. tt) expr_arms_by (λ _. tt) p o a

pub arms_Unary : (p : Place) (o : UnaryOp) (a : Expr) → expr_arms (e.Unary p o a) ≡ expr_arms a
unfolding expr_arms
arms_Unary p o a = at.at-Unary (Unit {0}) ℕ (Unit {0}) (λ _. tt) expr_arms_by (λ _. tt) p o a

pub arms_Binary : (p : Place) (o : BinaryOp) (a b : Expr) → expr_arms (e.Binary p o a b) ≡ binary_arms o (expr_arms a) (expr_arms b)
unfolding expr_arms
arms_Binary p o a b = at.at-Binary (Unit {0}) ℕ (Unit {0}) (λ _. tt) expr_arms_by (λ _. tt) p o a b

pub arms_Conditional : (p : Place) (a b c : Expr) → expr_arms (e.Conditional p a b c) ≡ max (expr_arms a) (1 + max (expr_arms b) (expr_arms c))
unfolding expr_arms
arms_Conditional p a b c = at.at-Conditional (Unit {0}) ℕ (Unit {0}) (λ _. tt) expr_arms_by (λ _. tt) p a b c

pub arms_Assign : (p : Place) (o : AssignOp) (a b : Expr) → expr_arms (e.Assign p o a b) ≡ max (expr_arms a) (expr_arms b)
unfolding expr_arms
arms_Assign p o a b = at.at-Assign (Unit {0}) ℕ (Unit {0}) (λ _. tt) expr_arms_by (λ _. tt) p o a b

pub arms_Sequence : (a : Expr) (bs : List (Place × Expr)) → expr_arms (e.Sequence a bs) ≡ max (expr_arms a) (further_arms bs)
unfolding expr_arms
arms_Sequence a bs = at.at-Sequence (Unit {0}) ℕ (Unit {0}) (λ _. tt) expr_arms_by (λ _. tt) a bs

-- an operator has no more than one arm
pub binary_most : (o : BinaryOp) (a b : ℕ) → binary_arms o a b ≤ max a (1 + b)
binary_most LogicalAnd a b = omega arith
binary_most LogicalOr a b = omega arith
binary_most o a b = omega arith

-- ---- initialisers

pub init_expr : (a : Expr) → init_arms (init.Expr a) ≡ expr_arms a
unfolding init_arms
init_expr a = at.init-Expr ℕ init_arms_by a

pub init_braces : (p : Place) (bs : List Init) → init_arms (init.Braces p bs) ≡ deepest (map init_arms bs)
unfolding init_arms
init_braces p bs = at.init-Braces ℕ init_arms_by p bs
