-- How an expression begins.
use Rattle.std.proofs.Common.{◌≡◌, refl, ap, ◌∙◌, ℕ, ◌≤◌, Bool, true, false, ◌&&◌, List, [], ◌∷◌, ◌++◌, length, Some, append_assoc, arith}
use Rattle.std.proofs.Math.Bool.{and-false}
use Rattle.gsl_base.specs.declared.fault.Place.{Place}
use Rattle.gsl_base.specs.declared.token.Punct.{Punct}
use Rattle.gsl_base.specs.declared.token.Punct.TheVariants as punct
use Rattle.gsl_base.specs.declared.token.Key.{Key}
use Rattle.gsl_base.specs.declared.token.Key.TheVariants as key
use Rattle.gsl_base.specs.declared.token.Kind.TheVariants as kind
use Rattle.gsl_syntax.specs.declared.expr.Basic.{Basic}
use Rattle.gsl_syntax.specs.declared.expr.Expr.{Expr}
use Rattle.gsl_syntax.specs.declared.expr.TypeSpec.{TypeSpec}
use Rattle.gsl_syntax.specs.declared.expr.Dim.{Dim}
use Rattle.gsl_syntax.specs.declared.operator.UnaryOp.{UnaryOp}
use Rattle.gsl_syntax.specs.Operators.{unary_of, basic_of}
use Rattle.gsl_syntax.specs.Phrases.{token, sign, word, IsExpr, IsType, IsDims}
use Rattle.gsl_syntax.specs.Phrases.IsExpr.{name, signed, unsigned, truth, falsity, paren, call_void, call, index, member, method, postfix, unary, binary, conditional, assign, sequence}
use Rattle.gsl_syntax.specs.Phrases.IsType.{basic, named}
use Rattle.gsl_syntax.specs.Phrases.IsDims.{no_dims, open_pair, sized}
use Rattle.gsl_expr.specs.declared.rule.Start.{Start}
use Rattle.gsl_expr.specs.declared.rule.Start.TheVariants as start
use Rattle.gsl_expr.specs.Rules.{start_basic, start_unary, start_punct, start_key, start_by, start_at}
use Rattle.gsl_expr.specs.Reading.{Tokens, is_punct, is_key, sees, sees_key}
use Rattle.gsl_expr.specs.Expressions.{void_alone}
use Rattle.gsl_expr.proofs.Taken.{punct_is, key_is, other_kind}

abbrev pub is_good : Start → Bool
is_good start.Bad = false
is_good _ = true

-- how an expression begins: with an operand, and not with `void )`
pub record Opens (ts : Tokens) : Type 0 where
  pub good : is_good (start_at ts) ≡ true
  pub some_call : void_alone ts ≡ false

pub opens_at : {ts us : Tokens} → us ≡ ts → Opens ts → Opens us
opens_at e o = record { good = ap (λ (z : Tokens). is_good (start_at z)) e ∙ o.good; some_call = ap void_alone e ∙ o.some_call }

pub key_starts : (w : Key) (b : Basic) → basic_of w ≡ Some b → start_key w ≡ start.Basic b
key_starts key.True b h = absurd cc
key_starts key.False b h = absurd cc
key_starts w b h = ap start_basic h

pub unary_starts : (m : Punct) (o : UnaryOp) → unary_of m ≡ Some o → start_punct m ≡ start.Unary o
unary_starts punct.LeftParen o h = absurd cc
unary_starts m o h = ap start_unary h

pub basic_starts : (p : Place) (w : Key) (b : Basic) (zs : Tokens) → basic_of w ≡ Some b → start_at (word p w ∷ zs) ≡ start.Basic b
unfolding start_at
basic_starts p w b zs h = key_starts w b h

pub sign_starts : (p : Place) (m : Punct) (o : UnaryOp) (zs : Tokens) → unary_of m ≡ Some o → start_at (sign p m ∷ zs) ≡ start.Unary o
unfolding start_at
sign_starts p m o zs h = unary_starts m o h

-- what is no keyword is not `void`
sign_opens : (p : Place) (m : Punct) (o : UnaryOp) (zs : Tokens) → unary_of m ≡ Some o → Opens (sign p m ∷ zs)
unfolding void_alone sees_key
sign_opens p m o zs h = record { good = ap is_good (sign_starts p m o zs h); some_call = refl }

pub name_opens : (p : Place) (n : List ℕ) (zs : Tokens) → Opens (token p (kind.Name n) ∷ zs)
unfolding void_alone sees_key start_at
name_opens p n zs = record { good = refl; some_call = refl }

signed_opens : (p : Place) (n : ℕ) (zs : Tokens) → Opens (token p (kind.Signed n) ∷ zs)
unfolding void_alone sees_key start_at
signed_opens p n zs = record { good = refl; some_call = refl }

unsigned_opens : (p : Place) (n : ℕ) (zs : Tokens) → Opens (token p (kind.Unsigned n) ∷ zs)
unfolding void_alone sees_key start_at
unsigned_opens p n zs = record { good = refl; some_call = refl }

true_opens : (p : Place) (zs : Tokens) → Opens (word p key.True ∷ zs)
unfolding void_alone sees_key start_at
true_opens p zs = record { good = refl; some_call = refl }

false_opens : (p : Place) (zs : Tokens) → Opens (word p key.False ∷ zs)
unfolding void_alone sees_key start_at
false_opens p zs = record { good = refl; some_call = refl }

paren_opens : (p : Place) (zs : Tokens) → Opens (sign p punct.LeftParen ∷ zs)
unfolding void_alone sees_key start_at
paren_opens p zs = record { good = refl; some_call = refl }

basic_opens : (p : Place) (w : Key) (b : Basic) (zs : Tokens) → basic_of w ≡ Some b → sees punct.RightParen zs ≡ false → Opens (word p w ∷ zs)
unfolding void_alone sees_key
basic_opens p w b zs h c = record { good = ap is_good (basic_starts p w b zs h); some_call = ap (λ (z : Bool). is_key key.Void (kind.Key w) && z) c ∙ and-false (is_key key.Void (kind.Key w)) }

pub bracket_opens : (p : Place) (zs : Tokens) → sees punct.RightParen (sign p punct.LeftBracket ∷ zs) ≡ false
unfolding sees
bracket_opens p zs = refl

pub paren_no_close : (p : Place) (zs : Tokens) → sees punct.RightParen (sign p punct.LeftParen ∷ zs) ≡ false
unfolding sees
paren_no_close p zs = refl

dims_open : {ds : List Dim} {xs : Tokens} → IsDims ds xs → (rest : Tokens) → sees punct.RightParen rest ≡ false → sees punct.RightParen (xs ++ rest) ≡ false
dims_open no_dims rest h = h
dims_open (open_pair {p = p} {ys = ys} q y) rest h = bracket_opens p ((sign q punct.RightBracket ∷ ys) ++ rest)
dims_open (sized {p = p} {xs = xs} {ys = ys} q x y) rest h = bracket_opens p ((xs ++ sign q punct.RightBracket ∷ ys) ++ rest)

type_opens : {t : TypeSpec} {xs : Tokens} → IsType t xs → (rest : Tokens) → sees punct.RightParen rest ≡ false → Opens (xs ++ rest)
type_opens (basic {p = p} {b = b} {xs = xs} w is ds) rest h = basic_opens p w b (xs ++ rest) is (dims_open ds rest h)
type_opens (named {p = p} {n = n} {xs = xs} ds) rest h = name_opens p n (xs ++ rest)

pub expr_opens : {k : ℕ} {a : Expr} {xs : Tokens} → IsExpr k a xs → (rest : Tokens) → Opens (xs ++ rest)
expr_opens (name {p = p} {n = n}) rest = name_opens p n rest
expr_opens (signed {p = p} {n = n}) rest = signed_opens p n rest
expr_opens (unsigned {p = p} {n = n}) rest = unsigned_opens p n rest
expr_opens (truth {p = p}) rest = true_opens p rest
expr_opens (falsity {p = p}) rest = false_opens p rest
expr_opens (paren {p = p} {xs = xs} q x) rest = paren_opens p ((xs ++ sign q punct.RightParen ∷ []) ++ rest)
expr_opens (call_void {xs = xs} o v q t) rest =
    let us = word v key.Void ∷ (sign q punct.RightParen ∷ []) in
    opens_at (append_assoc xs (sign o punct.LeftParen ∷ us) rest) (type_opens t (sign o punct.LeftParen ∷ (us ++ rest)) (paren_no_close o (us ++ rest)))
expr_opens (call {xs = xs} {ys = ys} o q t bs) rest =
    let us = ys ++ sign q punct.RightParen ∷ [] in
    opens_at (append_assoc xs (sign o punct.LeftParen ∷ us) rest) (type_opens t (sign o punct.LeftParen ∷ (us ++ rest)) (paren_no_close o (us ++ rest)))
expr_opens (index {p = p} {xs = xs} {ys = ys} q le x y) rest =
    let us = sign p punct.LeftBracket ∷ (ys ++ sign q punct.RightBracket ∷ []) in
    opens_at (append_assoc xs us rest) (expr_opens x (us ++ rest))
expr_opens (member {p = p} {n = n} {xs = xs} q le x) rest =
    let us = sign p punct.Dot ∷ (token q (kind.Name n) ∷ []) in
    opens_at (append_assoc xs us rest) (expr_opens x (us ++ rest))
expr_opens (method {p = p} {n = n} {xs = xs} q o c le x) rest =
    let us = sign p punct.Dot ∷ (token q (kind.Name n) ∷ (sign o punct.LeftParen ∷ (sign c punct.RightParen ∷ []))) in
    opens_at (append_assoc xs us rest) (expr_opens x (us ++ rest))
expr_opens (postfix {p = p} {xs = xs} m is le x) rest = opens_at (append_assoc xs (sign p m ∷ []) rest) (expr_opens x (sign p m ∷ rest))
expr_opens (unary {p = p} {o = o} {xs = xs} m is le x) rest = sign_opens p m o (xs ++ rest) is
expr_opens (binary {p = p} {xs = xs} {ys = ys} m is le x y) rest = opens_at (append_assoc xs (sign p m ∷ ys) rest) (expr_opens x (sign p m ∷ (ys ++ rest)))
expr_opens (conditional {p = p} {xs = xs} {ys = ys} {zs = zs} q le x y z) rest =
    let us = sign p punct.Question ∷ (ys ++ sign q punct.Colon ∷ zs) in
    opens_at (append_assoc xs us rest) (expr_opens x (us ++ rest))
expr_opens (assign {p = p} {xs = xs} {ys = ys} m is le x y) rest = opens_at (append_assoc xs (sign p m ∷ ys) rest) (expr_opens x (sign p m ∷ (ys ++ rest)))
expr_opens (sequence {xs = xs} {ys = ys} le x y) rest = opens_at (append_assoc xs ys rest) (expr_opens x (ys ++ rest))

filled_by : (xs : Tokens) → is_good (start_at (xs ++ [])) ≡ true → 1 ≤ length xs
unfolding start_at
filled_by [] h = absurd cc
filled_by (x ∷ xs) h = omega arith

-- an expression has a token
pub expr_filled : {k : ℕ} {a : Expr} {xs : Tokens} → IsExpr k a xs → 1 ≤ length xs
expr_filled {xs = xs} x = let o = expr_opens x [] in filled_by xs o.good

pub not_sign : (ts : Tokens) (m : Punct) → is_good (start_punct m) ≡ false → is_good (start_at ts) ≡ true → sees m ts ≡ false
unfolding start_at sees
not_sign [] m b h = refl
not_sign (t ∷ ts) m b h = other_kind (λ k. is_good (start_by k)) (kind.Punct m) t.kind (is_punct m t.kind) (punct_is m t.kind) b h

pub not_right_paren : (ts : Tokens) → is_good (start_at ts) ≡ true → sees punct.RightParen ts ≡ false
not_right_paren ts h = not_sign ts punct.RightParen refl h

pub not_right_bracket : (ts : Tokens) → is_good (start_at ts) ≡ true → sees punct.RightBracket ts ≡ false
not_right_bracket ts h = not_sign ts punct.RightBracket refl h

pub not_right_brace : (ts : Tokens) → is_good (start_at ts) ≡ true → sees punct.RightBrace ts ≡ false
not_right_brace ts h = not_sign ts punct.RightBrace refl h

pub not_left_brace : (ts : Tokens) → is_good (start_at ts) ≡ true → sees punct.LeftBrace ts ≡ false
not_left_brace ts h = not_sign ts punct.LeftBrace refl h

pub not_semicolon : (ts : Tokens) → is_good (start_at ts) ≡ true → sees punct.Semicolon ts ≡ false
not_semicolon ts h = not_sign ts punct.Semicolon refl h

pub not_key : (ts : Tokens) (w : Key) → is_good (start_key w) ≡ false → is_good (start_at ts) ≡ true → sees_key w ts ≡ false
unfolding start_at sees_key
not_key [] w b h = refl
not_key (t ∷ ts) w b h = other_kind (λ k. is_good (start_by k)) (kind.Key w) t.kind (is_key w t.kind) (key_is w t.kind) b h
