-- What statements begin with, and their parts: tests, words, statements in braces.
use Rattle.std.proofs.Common.{◌≡◌, ℕ, zero, suc, Bool, true, false, cond, List, [], ◌∷◌, ◌++◌, length, Option, Some, None, Err, refl, sym, ap, subst, ◌∙◌, append_assoc, arith}
use Rattle.std.proofs.lemmas.List.{append-nil}
use mathlib.Core.Logic.{inl, inr, ◌⊎◌}
use Rattle.gsl_base.specs.declared.fault.Place.{Place}
use Rattle.gsl_base.specs.declared.token.Punct.{Punct}
use Rattle.gsl_base.specs.declared.token.Punct.TheVariants as punct
use Rattle.gsl_base.specs.declared.token.Key.{Key}
use Rattle.gsl_base.specs.declared.token.Key.TheVariants as key
use Rattle.gsl_base.specs.declared.token.Kind.{Kind}
use Rattle.gsl_base.specs.declared.token.Kind.TheVariants as kind
use Rattle.gsl_syntax.specs.declared.expr.Expr.{Expr}
use Rattle.gsl_syntax.specs.declared.statement.ForInit.{ForInit}
use Rattle.gsl_syntax.specs.declared.statement.Stmt.{Stmt}
use Rattle.gsl_syntax.specs.declared.statement.Stmt.TheVariants as s
use Rattle.gsl_syntax.specs.Phrases.{token, sign, word, IsExpr}
use Rattle.gsl_syntax.specs.Declarations as decls
use Rattle.gsl_syntax.specs.Statements.{IsForInit, IsOptional, IsStmt, IsStmts}
use Rattle.gsl_syntax.specs.Statements as stmts
use Rattle.gsl_expr.specs.Reading.{Tokens, Outcome, Parser, and_then, ◌>>=◌, pure, take_one, sees, sees_key, expect}
use Rattle.gsl_expr.specs.Expressions.{expr}
use Rattle.gsl_expr.proofs.Taken.{Good, GoodTo, to_of, good_ok, good_weaken, good_of, good_then, good_expect, good_sign, good_word, good_close}
use Rattle.gsl_expr.proofs.Sound.{expr_sound}
use Rattle.gsl_parse.specs.declared.opening.Opening.{Opening}
use Rattle.gsl_parse.specs.declared.opening.Opening.TheVariants as opening
use Rattle.gsl_parse.specs.Openings.{opening_punct, opening_key, opening_by, opening_at}
use Rattle.gsl_parse.specs.Statements as read
use Rattle.gsl_parse.specs.Statements.{expect_key, condition, optional, returned, stmt_of, statements, statements_of}

-- ---- what a statement begins with

-- the token that stands next, where one alone opens such a statement
abbrev pub Opens : Opening → Tokens → Type 0
Opens opening.Empty ts = sees punct.Semicolon ts ≡ true
Opens opening.Block ts = sees punct.LeftBrace ts ≡ true
Opens opening.If ts = sees_key key.If ts ≡ true
Opens opening.Switch ts = sees_key key.Switch ts ≡ true
Opens opening.Case ts = sees_key key.Case ts ≡ true
Opens opening.Default ts = sees_key key.Default ts ≡ true
Opens opening.While ts = sees_key key.While ts ≡ true
Opens opening.Do ts = sees_key key.Do ts ≡ true
Opens opening.For ts = sees_key key.For ts ≡ true
Opens opening.Break ts = sees_key key.Break ts ≡ true
Opens opening.Continue ts = sees_key key.Continue ts ≡ true
Opens opening.Discard ts = sees_key key.Discard ts ≡ true
Opens opening.Return ts = sees_key key.Return ts ≡ true
Opens opening.Local ts = Unit {0}
Opens opening.Phrase ts = Unit {0}

punct_opens : (p : Place) (m : Punct) (ts : Tokens) → Opens (opening_punct m) (sign p m ∷ ts)
unfolding sees sees_key
punct_opens p punct.Semicolon ts = refl
punct_opens p punct.LeftBrace ts = refl
punct_opens p m ts = tt

key_opens : (p : Place) (w : Key) (ts : Tokens) → Opens (opening_key w) (word p w ∷ ts)
unfolding sees sees_key
key_opens p key.If ts = refl
key_opens p key.Switch ts = refl
key_opens p key.Case ts = refl
key_opens p key.Default ts = refl
key_opens p key.While ts = refl
key_opens p key.Do ts = refl
key_opens p key.For ts = refl
key_opens p key.Break ts = refl
key_opens p key.Continue ts = refl
key_opens p key.Discard ts = refl
key_opens p key.Return ts = refl
key_opens p w ts = tt

kind_opens : (p : Place) (k : Kind) (ts : Tokens) → Opens (opening_by k) (token p k ∷ ts)
kind_opens p (kind.Punct m) ts = punct_opens p m ts
kind_opens p (kind.Key w) ts = key_opens p w ts
kind_opens p (kind.Name n) ts = tt
kind_opens p (kind.Signed n) ts = tt
kind_opens p (kind.Unsigned n) ts = tt

pub opens : (ts : Tokens) → Opens (opening_at ts) ts
unfolding opening_at
opens [] = tt
opens (t ∷ ts) = kind_opens t.place t.kind ts

-- ---- what is known of a statement that was read

-- An else behind it belongs to no if in it, or there is none.
abbrev pub Parted : Stmt → Tokens → Tokens → Type 0
Parted a xs rest = IsStmt true a xs ⊎ (sees_key key.Else rest ≡ false)

abbrev pub Ended : Stmt → Tokens → Tokens → Type 0
Ended a xs rest = IsStmt false a xs × Parted a xs rest

-- What an else may stand behind may stand anywhere.
pub any_is : {a : Stmt} {xs : Tokens} → IsStmt true a xs → IsStmt false a xs
any_is stmts.IsStmt.empty = stmts.IsStmt.empty
any_is (stmts.IsStmt.block q w) = stmts.IsStmt.block q w
any_is (stmts.IsStmt.decl w) = stmts.IsStmt.decl w
any_is (stmts.IsStmt.expr q w) = stmts.IsStmt.expr q w
any_is (stmts.IsStmt.if_else o c m w v u) = stmts.IsStmt.if_else o c m w v (any_is u)
any_is (stmts.IsStmt.switch o c m q w v) = stmts.IsStmt.switch o c m q w v
any_is (stmts.IsStmt.case q w) = stmts.IsStmt.case q w
any_is (stmts.IsStmt.default q) = stmts.IsStmt.default q
any_is (stmts.IsStmt.while o c w v) = stmts.IsStmt.while o c w (any_is v)
any_is (stmts.IsStmt.do_while w o c q v u) = stmts.IsStmt.do_while w o c q v u
any_is (stmts.IsStmt.for_loop o m c i a b u) = stmts.IsStmt.for_loop o m c i a b (any_is u)
any_is (stmts.IsStmt.break_out q) = stmts.IsStmt.break_out q
any_is (stmts.IsStmt.continue_on q) = stmts.IsStmt.continue_on q
any_is (stmts.IsStmt.discard q) = stmts.IsStmt.discard q
any_is (stmts.IsStmt.return_alone q) = stmts.IsStmt.return_alone q
any_is (stmts.IsStmt.return_value q w) = stmts.IsStmt.return_value q w

pub closed_ended : (ts : Tokens) (r : Outcome Stmt) → Good (IsStmt true) ts r → GoodTo Ended ts r
closed_ended ts r g = to_of (IsStmt true) Ended ts r g (λ a xs rest w. (any_is w, inl w))

-- Whatever ends in a statement ends as that does.
pub carried : {a b : Stmt} {xs ys : Tokens} (rest : Tokens) → ((k : Bool) → IsStmt k a xs → IsStmt k b ys) → Ended a xs rest → Ended b ys rest
carried {a = a} {b = b} {xs = xs} {ys = ys} rest f e = (f false e.0, go e.1)
  where
    go : Parted a xs rest → Parted b ys rest
    go (inl w) = inl (f true w)
    go (inr h) = inr h

pub before_else : (a : Stmt) (xs rest : Tokens) → Parted a xs rest → sees_key key.Else rest ≡ true → IsStmt true a xs
before_else a xs rest (inl w) h = w
before_else a xs rest (inr e) h = let clash : true ≡ false = sym h ∙ e in absurd cc

-- ---- parts of statements

pub good_key : {B : Type 0} (D : B → Tokens → Type 0) (w : Key) (ts : Tokens) (f : Place → Parser B)
    → ((p : Place) (rest : Tokens) → ts ≡ word p w ∷ rest → Good (λ b ys. D b (word p w ∷ ys)) rest (f p rest)) → Good D ts (and_then (expect_key w ts) f)
unfolding expect_key
good_key D w ts f next = go (sees_key w ts) refl
  where
    go : (b : Bool) → sees_key w ts ≡ b → Good D ts (and_then (cond b (take_one ts) (Err ts)) f)
    go true h = good_word D w ts f h next
    go false h = tt

-- an expression in parentheses
pub record Tested (a : Expr) (xs : Tokens) : Type 0 where
  pub open_at : Place
  pub close_at : Place
  pub inner : Tokens
  pub xs_is : xs ≡ sign open_at punct.LeftParen ∷ (inner ++ sign close_at punct.RightParen ∷ [])
  pub is : IsExpr 0 a inner

pub test_sound : (d : ℕ) (ts : Tokens) → Good Tested ts (condition d ts)
unfolding condition
test_sound d ts =
    good_expect Tested punct.LeftParen ts (λ _. expr d 0 >>= λ a. expect punct.RightParen >>= λ _. pure a)
    (λ o rest e. good_then (IsExpr 0) (λ b ys. Tested b (sign o punct.LeftParen ∷ ys)) rest (expr d 0 rest) (λ a. expect punct.RightParen >>= λ _. pure a) (expr_sound d 0 rest (omega arith))
    (λ a xs after e2 w. good_close (λ b ys. Tested b (sign o punct.LeftParen ∷ (xs ++ ys))) punct.RightParen a after (λ c. record { open_at = o; close_at = c; inner = xs; xs_is = refl; is = w })))

-- with what stands behind it
pub tested_is : {a : Expr} {xs : Tokens} (w : Tested a xs) (ys : Tokens) → xs ++ ys ≡ sign w.open_at punct.LeftParen ∷ (w.inner ++ sign w.close_at punct.RightParen ∷ ys)
tested_is w ys = ap (λ (z : Tokens). z ++ ys) w.xs_is ∙ ap (λ (z : Tokens). sign w.open_at punct.LeftParen ∷ z) (append_assoc w.inner (sign w.close_at punct.RightParen ∷ []) ys)

-- an expression or none, with what ends it
pub record Optioned (m : Punct) (a : Option Expr) (xs : Tokens) : Type 0 where
  pub place : Place
  pub inner : Tokens
  pub xs_is : xs ≡ inner ++ sign place m ∷ []
  pub is : IsOptional a inner

pub optional_sound : (d : ℕ) (m : Punct) (ts : Tokens) → Good (Optioned m) ts (optional d m ts)
unfolding optional
optional_sound d m ts = go (sees m ts) refl
  where
    go : (b : Bool) → sees m ts ≡ b
        → Good (Optioned m) ts (cond b (and_then (take_one ts) (λ _. pure None)) (and_then (expr d 0 ts) (λ a. expect m >>= λ _. pure (Some a))))
    go true h =
        good_sign (Optioned m) m ts (λ _. pure None) h
        (λ p rest e. good_ok (λ b ys. Optioned m b (sign p m ∷ ys)) rest None (record { place = p; inner = []; xs_is = refl; is = stmts.IsOptional.none }))
    go false h =
        good_then (IsExpr 0) (Optioned m) ts (expr d 0 ts) (λ a. expect m >>= λ _. pure (Some a)) (expr_sound d 0 ts (omega arith))
        (λ a xs rest e w. good_close (λ b ys. Optioned m b (xs ++ ys)) m (Some a) rest (λ p. record { place = p; inner = xs; xs_is = refl; is = stmts.IsOptional.some w }))

pub optioned_is : {m : Punct} {a : Option Expr} {xs : Tokens} (w : Optioned m a xs) (ys : Tokens) → xs ++ ys ≡ w.inner ++ sign w.place m ∷ ys
optioned_is {m = m} w ys = ap (λ (z : Tokens). z ++ ys) w.xs_is ∙ append_assoc w.inner (sign w.place m ∷ []) ys

-- a keyword with its semicolon
pub record Alone (w : Key) (p : Place) (xs : Tokens) : Type 0 where
  pub end : Place
  pub xs_is : xs ≡ word p w ∷ (sign end punct.Semicolon ∷ [])

pub word_sound : (w : Key) (ts : Tokens) → sees_key w ts ≡ true → Good (Alone w) ts (read.word ts)
word_sound w ts h =
    good_word (Alone w) w ts (λ p. expect punct.Semicolon >>= λ _. pure p) h
    (λ p rest e. good_close (λ q ys. Alone w q (word p w ∷ ys)) punct.Semicolon p rest (λ q. record { end = q; xs_is = refl }))

pub returned_sound : (d : ℕ) (p : Place) (ts : Tokens) → Good (λ b ys. IsStmt true b (word p key.Return ∷ ys)) ts (returned d p ts)
unfolding returned
returned_sound d p ts = go (sees punct.Semicolon ts) refl
  where
    go : (b : Bool) → sees punct.Semicolon ts ≡ b
        → Good (λ b ys. IsStmt true b (word p key.Return ∷ ys)) ts
        (cond b (and_then (take_one ts) (λ _. pure (s.Return p))) (and_then (expr d 0 ts) (λ a. expect punct.Semicolon >>= λ _. pure (s.ReturnValue p a))))
    go true h =
        good_sign (λ b ys. IsStmt true b (word p key.Return ∷ ys)) punct.Semicolon ts (λ _. pure (s.Return p)) h
        (λ q rest e. good_ok (λ b ys. IsStmt true b (word p key.Return ∷ (sign q punct.Semicolon ∷ ys))) rest (s.Return p) (stmts.IsStmt.return_alone q))
    go false h =
        good_then (IsExpr 0) (λ b ys. IsStmt true b (word p key.Return ∷ ys)) ts (expr d 0 ts) (λ a. expect punct.Semicolon >>= λ _. pure (s.ReturnValue p a)) (expr_sound d 0 ts (omega arith))
        (λ a xs rest e w. good_close (λ b ys. IsStmt true b (word p key.Return ∷ (xs ++ ys))) punct.Semicolon (s.ReturnValue p a) rest (λ q. stmts.IsStmt.return_value q w))

pub of_init : {i : ForInit} {xs : Tokens} → IsForInit i xs → IsStmt true (stmt_of i) xs
of_init stmts.IsForInit.empty = stmts.IsStmt.empty
of_init (stmts.IsForInit.expr q w) = stmts.IsStmt.expr q w
of_init (stmts.IsForInit.decl w) = stmts.IsStmt.decl (decls.IsLocal.variables w)

-- ---- statements in braces

-- Statements with the brace that closes them, behind those that were found before.
pub record Braced (found all : List Stmt) (zs : Tokens) : Type 0 where
  pub others : List Stmt
  pub ys : Tokens
  pub place : Place
  pub all_is : all ≡ found ++ others
  pub zs_is : zs ≡ ys ++ sign place punct.RightBrace ∷ []
  pub body : IsStmts others ys

-- the same, with none before
pub record Enclosed (bs : List Stmt) (zs : Tokens) : Type 0 where
  pub ys : Tokens
  pub place : Place
  pub zs_is : zs ≡ ys ++ sign place punct.RightBrace ∷ []
  pub body : IsStmts bs ys

pub last_braced : (found : List Stmt) (q : Place) → Braced found found (sign q punct.RightBrace ∷ [])
last_braced found q = record { others = []; ys = []; place = q; all_is = sym (append-nil found); zs_is = refl; body = stmts.IsStmts.done }

pub more_braced : (found : List Stmt) (a : Stmt) (xs : Tokens) (bs : List Stmt) (zs : Tokens) → IsStmt false a xs → Braced (found ++ a ∷ []) bs zs → Braced found bs (xs ++ zs)
more_braced found a xs bs zs w r = record {
  others = a ∷ r.others;
  ys = xs ++ r.ys;
  place = r.place;
  all_is = r.all_is ∙ append_assoc found (a ∷ []) r.others;
  zs_is = ap (λ (z : Tokens). xs ++ z) r.zs_is ∙ sym (append_assoc xs r.ys (sign r.place punct.RightBrace ∷ []));
  body = stmts.IsStmts.next w r.body;
}

module _ (stmt : Parser Stmt) (each : (ts : Tokens) → GoodTo Ended ts (stmt ts)) where
  braced_sound : (n : ℕ) (found : List Stmt) (ts : Tokens) → Good (Braced found) ts (statements stmt n found ts)
  unfolding statements
  braced_sound zero found ts = tt
  braced_sound (suc n) found ts = go (sees punct.RightBrace ts) refl (braced_sound n)
    where
      go : (b : Bool) → sees punct.RightBrace ts ≡ b → ((found : List Stmt) (us : Tokens) → Good (Braced found) us (statements stmt n found us))
          → Good (Braced found) ts (cond b (and_then (take_one ts) (λ _. pure found)) (and_then (stmt ts) (λ a. statements stmt n (found ++ a ∷ []))))
      go true h ih = good_sign (Braced found) punct.RightBrace ts (λ _. pure found) h (λ q rest e. good_ok (λ bs ys. Braced found bs (sign q punct.RightBrace ∷ ys)) rest found (last_braced found q))
      go false h ih =
          good_then (IsStmt false) (Braced found) ts (stmt ts) (λ a. statements stmt n (found ++ a ∷ [])) (good_of Ended (IsStmt false) ts (stmt ts) (each ts) (λ a xs rest w. w.0))
          (λ a xs rest e w. good_weaken (Braced (found ++ a ∷ [])) (λ bs zs. Braced found bs (xs ++ zs)) rest (statements stmt n (found ++ a ∷ []) rest) (ih (found ++ a ∷ []) rest)
          (λ bs zs r. more_braced found a xs bs zs w r))

  pub statements_of_sound : (ts : Tokens) → Good Enclosed ts (statements_of stmt ts)
  statements_of_sound ts =
      good_weaken (Braced []) Enclosed ts (statements stmt (length ts) [] ts) (braced_sound (length ts) [] ts)
      (λ bs zs r. record { ys = r.ys; place = r.place; zs_is = r.zs_is; body = subst (λ (cs : List Stmt). IsStmts cs r.ys) (sym r.all_is) r.body })
