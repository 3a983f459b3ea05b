-- What the grammar derives is read, whatever stands behind it that does not go on with it.
use Rattle.std.proofs.Common.{◌≡◌, refl, sym, ap, ◌∙◌, ℕ, ◌≤◌, true, false, List, [], ◌++◌, length, Ok, append-nil, arith}
use Rattle.gsl_base.specs.declared.fault.Place.{Place}
use Rattle.gsl_base.specs.declared.token.Punct.TheVariants as punct
use Rattle.gsl_syntax.specs.declared.expr.Expr.{Expr}
use Rattle.gsl_syntax.specs.declared.expr.Expr.TheVariants as e
use Rattle.gsl_syntax.specs.declared.expr.TypeSpec.{TypeSpec}
use Rattle.gsl_syntax.specs.declared.expr.Dim.{Dim}
use Rattle.gsl_syntax.specs.Phrases.{IsExpr, IsFurther, IsArguments, IsItems, IsType, IsDims}
use Rattle.gsl_syntax.specs.Phrases.IsExpr.{name, signed, unsigned, truth, falsity, paren, call_void, call, index, member, method, postfix, unary, binary, conditional, assign, sequence}
use Rattle.gsl_syntax.specs.Phrases.IsFurther.{last, further}
use Rattle.gsl_syntax.specs.Phrases.IsArguments.{no_argument, arguments}
use Rattle.gsl_syntax.specs.Phrases.IsItems.{one, more}
use Rattle.gsl_syntax.specs.Phrases.IsType.{basic, named}
use Rattle.gsl_syntax.specs.Phrases.IsDims.{no_dims, open_pair, sized}
use Rattle.gsl_expr.specs.declared.rule.Mode.TheVariants as mode
use Rattle.gsl_expr.specs.Rules.{start_at}
use Rattle.gsl_expr.specs.Reading.{Tokens, sees}
use Rattle.gsl_expr.specs.Expressions.{is_cond_layer, is_cond, is_tight_layer, is_tight, dims, expr}
use Rattle.gsl_expr.proofs.Taken.{ok_is}
use Rattle.gsl_expr.proofs.Ends.{Ends, Heads, nothing_ends}
use Rattle.gsl_expr.proofs.Openings.{is_good, expr_opens, expr_filled, not_right_paren, not_right_brace, not_left_brace, not_semicolon}
use Rattle.gsl_expr.proofs.SoundLevels.{level_most}
use Rattle.gsl_expr.proofs.Pieces.{dims_read}
use Rattle.gsl_expr.proofs.Standing.{Stands, Given, stands_given}
use Rattle.gsl_expr.proofs.Forms.{Commas, Listed, Called, Sizes, Types, stands_name, stands_signed, stands_unsigned, stands_true, stands_false, stands_paren, stands_unary, stands_index, stands_member, stands_method, stands_postfix, stands_binary, stands_conditional, stands_assign, commas_last, commas_more, stands_sequence, listed_one, listed_more, called_none, called_some, sizes_none, sizes_open, sizes_sized, types_named, types_basic, stands_call, stands_call_void}

-- What binds so tightly may be assigned to.
pub tight_of : {k : ℕ} {a : Expr} {xs : Tokens} → IsExpr k a xs → 14 ≤ k → is_tight a ≡ true
unfolding is_tight
tight_of name h = ap is_tight_layer (e.outs-Name _ _)
tight_of signed h = ap is_tight_layer (e.outs-Signed _ _)
tight_of unsigned h = ap is_tight_layer (e.outs-Unsigned _ _)
tight_of truth h = ap is_tight_layer (e.outs-Bool _ _)
tight_of falsity h = ap is_tight_layer (e.outs-Bool _ _)
tight_of (paren q x) h = ap is_tight_layer (e.outs-Paren _ _)
tight_of (call_void o v q t) h = ap is_tight_layer (e.outs-CallVoid _)
tight_of (call o q t bs) h = ap is_tight_layer (e.outs-Call _ _)
tight_of (index q le x y) h = ap is_tight_layer (e.outs-Index _ _ _)
tight_of (member q le x) h = ap is_tight_layer (e.outs-Member _ _ _)
tight_of (method q o c le x) h = ap is_tight_layer (e.outs-Method _ _ _)
tight_of (postfix m is le x) h = ap is_tight_layer (e.outs-Postfix _ _ _)
tight_of (unary m is le x) h = ap is_tight_layer (e.outs-Unary _ _ _)
tight_of (binary {o = o} m is le x y) h = let high = level_most o in absurd (omega arith)
tight_of (conditional q le x y z) h = absurd (omega arith)
tight_of (assign m is le x y) h = absurd (omega arith)
tight_of (sequence le x y) h = absurd (omega arith)

-- What binds so tightly is a condition.
pub cond_of : {k : ℕ} {a : Expr} {xs : Tokens} → IsExpr k a xs → 2 ≤ k → is_cond a ≡ true
unfolding is_cond
cond_of name h = ap is_cond_layer (e.outs-Name _ _)
cond_of signed h = ap is_cond_layer (e.outs-Signed _ _)
cond_of unsigned h = ap is_cond_layer (e.outs-Unsigned _ _)
cond_of truth h = ap is_cond_layer (e.outs-Bool _ _)
cond_of falsity h = ap is_cond_layer (e.outs-Bool _ _)
cond_of (paren q x) h = ap is_cond_layer (e.outs-Paren _ _)
cond_of (call_void o v q t) h = ap is_cond_layer (e.outs-CallVoid _)
cond_of (call o q t bs) h = ap is_cond_layer (e.outs-Call _ _)
cond_of (index q le x y) h = ap is_cond_layer (e.outs-Index _ _ _)
cond_of (member q le x) h = ap is_cond_layer (e.outs-Member _ _ _)
cond_of (method q o c le x) h = ap is_cond_layer (e.outs-Method _ _ _)
cond_of (postfix m is le x) h = ap is_cond_layer (e.outs-Postfix _ _ _)
cond_of (unary m is le x) h = ap is_cond_layer (e.outs-Unary _ _ _)
cond_of (binary m is le x y) h = ap is_cond_layer (e.outs-Binary _ _ _ _)
cond_of (conditional q le x y z) h = ap is_cond_layer (e.outs-Conditional _ _ _ _)
cond_of (assign m is le x y) h = absurd (omega arith)
cond_of (sequence le x y) h = absurd (omega arith)

given_of : {k : ℕ} {a : Expr} {xs : Tokens} → IsExpr k a xs → Stands k a xs → Given k a xs
given_of x s = stands_given s (expr_filled x) (expr_opens x)

mutual
  pub stands : {k : ℕ} {a : Expr} {xs : Tokens} → IsExpr k a xs → Stands k a xs
  stands (name {k = k} {p = p} {n = n}) = stands_name k p n
  stands (signed {k = k} {p = p} {n = n}) = stands_signed k p n
  stands (unsigned {k = k} {p = p} {n = n}) = stands_unsigned k p n
  stands (truth {k = k} {p = p}) = stands_true k p
  stands (falsity {k = k} {p = p}) = stands_false k p
  stands (paren {k = k} {p = p} q x) = stands_paren k p q (given_of x (stands x))
  stands (call_void {k = k} o v q t) = stands_call_void k o v q (types t)
  stands (call {k = k} o q t bs) = stands_call k o q (types t) (called bs)
  stands (index {p = p} q le x y) = stands_index p q le (stands x) (given_of y (stands y))
  stands (member {p = p} {n = n} q le x) = stands_member p q n le (stands x)
  stands (method {p = p} {n = n} q o c le x) = stands_method p q o c n le (stands x)
  stands (postfix {p = p} {o = o} m is le x) = stands_postfix p m o is le (stands x)
  stands (unary {p = p} {o = o} m is le x) = stands_unary p m o is le (stands x) (expr_filled x)
  stands (binary {p = p} {o = o} m is le x y) = stands_binary p m o is le (stands x) (stands y) (expr_filled y)
  stands (conditional {p = p} q le x y z) = stands_conditional p q le (stands x) (given_of y (stands y)) (given_of z (stands z))
  stands (assign {p = p} {o = o} m is le x y) = stands_assign p m o is le (stands x) (tight_of x (omega arith)) (given_of y (stands y))
  stands (sequence le x y) = stands_sequence le (stands x) (commas y)

  pub commas : {bs : List (Place × Expr)} {xs : Tokens} → IsFurther bs xs → Commas bs xs
  commas (last {p = p} x) = commas_last p (given_of x (stands x))
  commas (further {p = p} x y) = commas_more p (given_of x (stands x)) (expr_filled x) (commas y)

  pub called : {bs : List Expr} {xs : Tokens} → IsArguments bs xs → Called bs xs
  called no_argument = called_none
  called (arguments x) = called_some (listed x)

  pub listed : {bs : List Expr} {xs : Tokens} → IsItems bs xs → Listed bs xs
  listed (one x) = listed_one (given_of x (stands x))
  listed (more p x y) = listed_more p (given_of x (stands x)) (listed y)

  pub types : {t : TypeSpec} {xs : Tokens} → IsType t xs → Types t xs
  types (basic {p = p} {b = b} w is y) = types_basic p w b is (sizes y)
  types (named {p = p} {n = n} y) = types_named p n (sizes y)

  pub sizes : {ds : List Dim} {xs : Tokens} → IsDims ds xs → Sizes ds xs
  sizes no_dims = sizes_none
  sizes (open_pair {p = p} q y) = sizes_open p q (sizes y)
  sizes (sized {p = p} q x y) = sizes_sized p q (given_of x (stands x)) (cond_of x (omega arith)) (sizes y)

-- ---- what readers above build on

pub expr_complete : {k : ℕ} {a : Expr} {xs : Tokens} → IsExpr k a xs → (d : ℕ) (rest : Tokens) → k ≤ 2 → length (xs ++ rest) ≤ d → Ends k rest → expr d k (xs ++ rest) ≡ Ok (a, rest)
expr_complete {k = k} x d rest two fits ends = let g = given_of x (stands x) in g.reads d k rest fits (omega arith) two ends

pub dims_complete : {ds : List Dim} {xs : Tokens} → IsDims ds xs → (d : ℕ) (rest : Tokens) → length (xs ++ rest) ≤ d → sees punct.LeftBracket rest ≡ false → dims (expr d) (xs ++ rest) ≡ Ok (ds, rest)
dims_complete {ds = ds} {xs = xs} y d rest fits apart =
    let s = sizes y in
    let c = s.reads d (length (xs ++ rest)) mode.Type [] rest (omega arith) (omega arith) refl apart in
    dims_read (expr d) ds c.behind (xs ++ rest) rest c.is

pub type_complete : {t : TypeSpec} {xs : Tokens} → IsType t xs → (d : ℕ) (rest : Tokens) → length (xs ++ rest) ≤ d → sees punct.LeftBracket rest ≡ false → Heads d t (xs ++ rest) rest
type_complete t d rest fits apart = let s = types t in s.heads d rest (omega arith) apart

pub expr_start : {k : ℕ} {a : Expr} {xs : Tokens} → IsExpr k a xs → (rest : Tokens) → is_good (start_at (xs ++ rest)) ≡ true
expr_start x rest = let o = expr_opens x rest in o.good

pub expr_not_right_paren : {k : ℕ} {a : Expr} {xs : Tokens} → IsExpr k a xs → (rest : Tokens) → sees punct.RightParen (xs ++ rest) ≡ false
expr_not_right_paren {xs = xs} x rest = not_right_paren (xs ++ rest) (expr_start x rest)

pub expr_not_right_brace : {k : ℕ} {a : Expr} {xs : Tokens} → IsExpr k a xs → (rest : Tokens) → sees punct.RightBrace (xs ++ rest) ≡ false
expr_not_right_brace {xs = xs} x rest = not_right_brace (xs ++ rest) (expr_start x rest)

pub expr_not_left_brace : {k : ℕ} {a : Expr} {xs : Tokens} → IsExpr k a xs → (rest : Tokens) → sees punct.LeftBrace (xs ++ rest) ≡ false
expr_not_left_brace {xs = xs} x rest = not_left_brace (xs ++ rest) (expr_start x rest)

pub expr_not_semicolon : {k : ℕ} {a : Expr} {xs : Tokens} → IsExpr k a xs → (rest : Tokens) → sees punct.Semicolon (xs ++ rest) ≡ false
expr_not_semicolon {xs = xs} x rest = not_semicolon (xs ++ rest) (expr_start x rest)

-- all of the tokens
expr_all : {k : ℕ} {a : Expr} {xs : Tokens} → k ≤ 2 → IsExpr k a xs → expr (length xs) k xs ≡ Ok (a, [])
expr_all {k = k} {xs = xs} two x =
    let same : xs ++ [] ≡ xs = append-nil xs in
    ap (expr (length xs) k) (sym same) ∙ expr_complete x (length xs) [] two (omega (arith, ap length same)) (nothing_ends k)

-- no tokens stand for two expressions
pub only_expr : {k : ℕ} {a b : Expr} {xs : Tokens} → k ≤ 2 → IsExpr k a xs → IsExpr k b xs → a ≡ b
only_expr {a = a} {b = b} two x y = ap (λ (z : Expr × Tokens). z.0) (ok_is (a, []) (b, []) (sym (expr_all two x) ∙ expr_all two y))
