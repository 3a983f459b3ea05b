-- How tightly a tree binds: what is tight is also tight enough for less, and which trees are tight by their kind.
use Rattle.std.proofs.Common.{◌≡◌, ℕ, ◌≤◌, Bool, true, false, List, sym, ap, ◌∙◌, arith}
use Rattle.gsl_base.specs.declared.fault.Place.{Place}
use Rattle.gsl_syntax.specs.declared.expr.Expr.{Expr}
use Rattle.gsl_syntax.specs.declared.expr.Expr.TheVariants as e
use Rattle.gsl_syntax.specs.declared.operator.BinaryOp.{BinaryOp}
use Rattle.gsl_syntax.specs.declared.operator.BinaryOp.TheVariants as binary_op
use Rattle.gsl_syntax.specs.declared.operator.AssignOp.{AssignOp}
use Rattle.gsl_syntax.specs.Operators.{level_of}
use Rattle.gsl_syntax.specs.Phrases.{Tokens, IsExpr}
use Rattle.gsl_syntax.specs.Phrases.IsExpr.{name, signed, unsigned, truth, falsity, paren, call_void, call, index, member, method, postfix, unary, binary, conditional, assign, sequence}
use Rattle.gsl_expr.specs.declared.rule.Follow.{Follow}
use Rattle.gsl_expr.specs.declared.rule.Follow.TheVariants as follow
use Rattle.gsl_expr.specs.declared.rule.Mode.{Mode}
use Rattle.gsl_expr.specs.declared.rule.Mode.TheVariants as mode
use Rattle.gsl_expr.specs.Rules.{binds}
use Rattle.gsl_expr.specs.Expressions.{is_cond_layer, is_cond, is_tight_layer, is_tight, level_in}

pub level_least : (o : BinaryOp) → 3 ≤ level_of o
level_least binary_op.LogicalOr = omega arith
level_least o = omega arith

pub level_most : (o : BinaryOp) → level_of o ≤ 13
level_most binary_op.LogicalOr = omega arith
level_most o = omega arith

pub level_in_low : (m : Mode) → level_in m ≤ 2
level_in_low mode.Either = omega arith
level_in_low mode.Type = omega arith
level_in_low mode.Index = omega arith

pub binds_most : (f : Follow) → binds f ≤ 15
binds_most follow.Index = omega arith
binds_most follow.Member = omega arith
binds_most (follow.Postfix o) = omega arith
binds_most (follow.Binary o) = omega (arith, level_most o)
binds_most follow.End = omega arith

-- What binds less is asked for.
pub looser : {j k : ℕ} {a : Expr} {xs : Tokens} → j ≤ k → IsExpr k a xs → IsExpr j a xs
looser h name = name
looser h signed = signed
looser h unsigned = unsigned
looser h truth = truth
looser h falsity = falsity
looser h (paren q w) = paren q w
looser h (call_void o v q t) = call_void o v q t
looser h (call o q t bs) = call o q t bs
looser h (index q below a b) = index q (omega arith) a b
looser h (member q below a) = member q (omega arith) a
looser h (method q o c below a) = method q o c (omega arith) a
looser h (postfix m is below a) = postfix m is (omega arith) a
looser h (unary m is below a) = unary m is (omega arith) a
looser h (binary m is below a b) = binary m is (omega arith) a b
looser h (conditional q below a b c) = conditional q (omega arith) a b c
looser h (assign m is below a b) = assign m is (omega arith) a b
looser h (sequence below a bs) = sequence (omega arith) a bs

-- ---- the trees that are no condition, and those that may not be assigned to

assign_no_cond : (p : Place) (o : AssignOp) (a b : Expr) → is_cond (e.Assign p o a b) ≡ false
unfolding is_cond
assign_no_cond p o a b = ap is_cond_layer (e.outs-Assign p o a b)

sequence_no_cond : (a : Expr) (bs : List (Place × Expr)) → is_cond (e.Sequence a bs) ≡ false
unfolding is_cond
sequence_no_cond a bs = ap is_cond_layer (e.outs-Sequence a bs)

binary_no_tight : (p : Place) (o : BinaryOp) (a b : Expr) → is_tight (e.Binary p o a b) ≡ false
unfolding is_tight
binary_no_tight p o a b = ap is_tight_layer (e.outs-Binary p o a b)

conditional_no_tight : (p : Place) (a b c : Expr) → is_tight (e.Conditional p a b c) ≡ false
unfolding is_tight
conditional_no_tight p a b c = ap is_tight_layer (e.outs-Conditional p a b c)

assign_no_tight : (p : Place) (o : AssignOp) (a b : Expr) → is_tight (e.Assign p o a b) ≡ false
unfolding is_tight
assign_no_tight p o a b = ap is_tight_layer (e.outs-Assign p o a b)

sequence_no_tight : (a : Expr) (bs : List (Place × Expr)) → is_tight (e.Sequence a bs) ≡ false
unfolding is_tight
sequence_no_tight a bs = ap is_tight_layer (e.outs-Sequence a bs)

clash : {b : Bool} → b ≡ true → b ≡ false → ⊥
clash h i = let e : true ≡ false = sym h ∙ i in cc

-- A condition, by its kind.
pub cond_is : {k : ℕ} {a : Expr} {xs : Tokens} → is_cond a ≡ true → IsExpr k a xs → IsExpr 2 a xs
cond_is i name = name
cond_is i signed = signed
cond_is i unsigned = unsigned
cond_is i truth = truth
cond_is i falsity = falsity
cond_is i (paren q w) = paren q w
cond_is i (call_void o v q t) = call_void o v q t
cond_is i (call o q t bs) = call o q t bs
cond_is i (index q below a b) = index q (omega arith) a b
cond_is i (member q below a) = member q (omega arith) a
cond_is i (method q o c below a) = method q o c (omega arith) a
cond_is i (postfix m is below a) = postfix m is (omega arith) a
cond_is i (unary m is below a) = unary m is (omega arith) a
cond_is i (binary {o = o} m is below a b) = binary m is (omega (arith, level_least o)) a b
cond_is i (conditional q below a b c) = conditional q (omega arith) a b c
cond_is i (assign {p = p} {o = o} {a = a} {b = b} m is below l r) = absurd (clash i (assign_no_cond p o a b))
cond_is i (sequence {a = a} {bs = bs} below l r) = absurd (clash i (sequence_no_cond a bs))

-- What may be assigned to, by its kind.
pub tight_is : {k : ℕ} {a : Expr} {xs : Tokens} → is_tight a ≡ true → IsExpr k a xs → IsExpr 14 a xs
tight_is i name = name
tight_is i signed = signed
tight_is i unsigned = unsigned
tight_is i truth = truth
tight_is i falsity = falsity
tight_is i (paren q w) = paren q w
tight_is i (call_void o v q t) = call_void o v q t
tight_is i (call o q t bs) = call o q t bs
tight_is i (index q below a b) = index q (omega arith) a b
tight_is i (member q below a) = member q (omega arith) a
tight_is i (method q o c below a) = method q o c (omega arith) a
tight_is i (postfix m is below a) = postfix m is (omega arith) a
tight_is i (unary m is below a) = unary m is (omega arith) a
tight_is i (binary {p = p} {o = o} {a = a} {b = b} m is below l r) = absurd (clash i (binary_no_tight p o a b))
tight_is i (conditional {p = p} {a = a} {b = b} {c = c} q below x y z) = absurd (clash i (conditional_no_tight p a b c))
tight_is i (assign {p = p} {o = o} {a = a} {b = b} m is below l r) = absurd (clash i (assign_no_tight p o a b))
tight_is i (sequence {a = a} {bs = bs} below l r) = absurd (clash i (sequence_no_tight a bs))
