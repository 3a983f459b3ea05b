-- Statements stand for the tokens that were taken.
use Rattle.std.proofs.Common.{◌≡◌, ℕ, zero, suc, Bool, true, false, cond, [], ◌∷◌, ◌++◌, Option, Ok, refl, sym, subst, arith}
use Rattle.std.proofs.lemmas.List.{append-nil}
use mathlib.Core.Logic.{inr}
use Rattle.gsl_base.specs.declared.fault.Place.{Place}
use Rattle.gsl_base.specs.declared.token.Punct.TheVariants as punct
use Rattle.gsl_base.specs.declared.token.Key.TheVariants as key
use Rattle.gsl_syntax.specs.declared.expr.Expr.{Expr}
use Rattle.gsl_syntax.specs.declared.statement.ForInit.{ForInit}
use Rattle.gsl_syntax.specs.declared.statement.Stmt.{Stmt}
use Rattle.gsl_syntax.specs.declared.statement.Stmt.TheVariants as s
use Rattle.gsl_syntax.specs.Phrases.{sign, word, IsExpr}
use Rattle.gsl_syntax.specs.Declarations.{Row, IsQual, IsLocal}
use Rattle.gsl_syntax.specs.Statements.{IsForInit, IsStmt}
use Rattle.gsl_syntax.specs.Statements as stmts
use Rattle.gsl_expr.specs.Reading.{Tokens, Parser, and_then, ◌>>=◌, pure, take_one, sees, sees_key, expect}
use Rattle.gsl_expr.specs.Expressions.{expr}
use Rattle.gsl_expr.proofs.Taken.{Good, GoodTo, to_ok, to_map, to_then, to_expect, to_word, to_of, good_ok, good_of, good_map, good_then, good_expect, good_sign, good_word, good_close}
use Rattle.gsl_expr.proofs.Sound.{expr_sound}
use Rattle.gsl_parse.specs.declared.opening.Opening.{Opening}
use Rattle.gsl_parse.specs.declared.opening.Opening.TheVariants as opening
use Rattle.gsl_parse.specs.Openings.{opening_at}
use Rattle.gsl_parse.specs.Qualifiers.{qualifiers}
use Rattle.gsl_parse.specs.Variables.{local_from, phrase, header}
use Rattle.gsl_parse.specs.Statements as read
use Rattle.gsl_parse.specs.Statements.{expect_key, condition, optional, returned, stmt_of, statements_of, alternative, statement_as, statement}
use Rattle.gsl_parse.proofs.SoundDeclarations.{qualifiers_sound, local_from_sound, phrase_sound, header_sound}
use Rattle.gsl_parse.proofs.SoundStatementParts.{Opens, opens, Ended, closed_ended, carried, before_else, good_key, Tested, test_sound, tested_is, Optioned, optional_sound, optioned_is, Alone, word_sound, returned_sound, of_init, Enclosed, statements_of_sound}

module _ (d : ℕ) (stmt : Parser Stmt) (each : (ts : Tokens) → GoodTo Ended ts (stmt ts)) where
  -- ---- statements with statements in them, which an else may follow

  -- behind `if`, its condition xs and its statement ys
  alternative_sound : (p : Place) (a : Expr) (xs : Tokens) (b : Stmt) (ys ts : Tokens) → Tested a xs → Ended b ys ts
      → GoodTo (λ c zs end. Ended c (word p key.If ∷ (xs ++ (ys ++ zs))) end) ts (alternative d stmt p a b ts)
  unfolding alternative
  alternative_sound p a xs b ys ts w v = go (sees_key key.Else ts) refl
    where
      -- what is known of a statement with its condition written out
      led : (c : Stmt) (us end : Tokens) → Ended c (word p key.If ∷ (sign w.open_at punct.LeftParen ∷ (w.inner ++ sign w.close_at punct.RightParen ∷ us))) end → Ended c (word p key.If ∷ (xs ++ us)) end
      led c us end u = subst (λ (z : Tokens). Ended c (word p key.If ∷ z) end) (sym (tested_is w us)) u

      go : (e : Bool) → sees_key key.Else ts ≡ e
          → GoodTo (λ c zs end. Ended c (word p key.If ∷ (xs ++ (ys ++ zs))) end) ts (cond e (and_then (take_one ts) (λ _. stmt >>= λ c. pure (s.IfElse p a b c))) (Ok (s.If p a b, ts)))
      go false h =
          to_ok (λ c zs end. Ended c (word p key.If ∷ (xs ++ (ys ++ zs))) end) ts (s.If p a b)
          (subst (λ (z : Tokens). Ended (s.If p a b) (word p key.If ∷ (xs ++ z)) ts) (sym (append-nil ys)) (led (s.If p a b) ys ts (stmts.IsStmt.if_alone w.open_at w.close_at w.is v.0, inr h)))
      go true h =
          to_word (λ c zs end. Ended c (word p key.If ∷ (xs ++ (ys ++ zs))) end) key.Else ts (λ _. stmt >>= λ c. pure (s.IfElse p a b c)) h
          (λ m rest e. to_map Ended (λ c zs end. Ended c (word p key.If ∷ (xs ++ (ys ++ word m key.Else ∷ zs))) end) (λ c. s.IfElse p a b c) rest (stmt rest) (each rest)
          (λ c zs end u. led (s.IfElse p a b c) (ys ++ word m key.Else ∷ zs) end (carried end (λ k x. stmts.IsStmt.if_else w.open_at w.close_at m w.is (before_else b ys ts v.1 h) x) u)))

  if_sound : (ts : Tokens) → sees_key key.If ts ≡ true → GoodTo Ended ts (statement_as d stmt opening.If ts)
  if_sound ts h =
      to_word Ended key.If ts (λ p. condition d >>= λ a. stmt >>= λ b. alternative d stmt p a b) h
      (λ p rest e. to_then (λ a xs after. Tested a xs) (λ b ys end. Ended b (word p key.If ∷ ys) end) rest (condition d rest) (λ a. stmt >>= λ b. alternative d stmt p a b)
      (to_of Tested (λ a xs after. Tested a xs) rest (condition d rest) (test_sound d rest) (λ a xs after w. w))
      (λ a xs after e2 w. to_then Ended (λ b ys end. Ended b (word p key.If ∷ (xs ++ ys)) end) after (stmt after) (λ b. alternative d stmt p a b) (each after)
      (λ b ys last e3 v. alternative_sound p a xs b ys last w v)))

  while_sound : (ts : Tokens) → sees_key key.While ts ≡ true → GoodTo Ended ts (statement_as d stmt opening.While ts)
  while_sound ts h =
      to_word Ended key.While ts (λ p. condition d >>= λ a. stmt >>= λ b. pure (s.While p a b)) h
      (λ p rest e. to_then (λ a xs after. Tested a xs) (λ b ys end. Ended b (word p key.While ∷ ys) end) rest (condition d rest) (λ a. stmt >>= λ b. pure (s.While p a b))
      (to_of Tested (λ a xs after. Tested a xs) rest (condition d rest) (test_sound d rest) (λ a xs after w. w))
      (λ a xs after e2 w. to_map Ended (λ b ys end. Ended b (word p key.While ∷ (xs ++ ys)) end) (λ b. s.While p a b) after (stmt after) (each after)
      (λ b ys end u. subst (λ (z : Tokens). Ended (s.While p a b) (word p key.While ∷ z) end) (sym (tested_is w ys)) (carried end (λ k x. stmts.IsStmt.while w.open_at w.close_at w.is x) u))))

  -- the tokens of `for`, with its parts as they were read
  pub for_is : {p o : Place} {i : ForInit} {a b : Option Expr} {c : Stmt} {ws xs ys zs : Tokens} (k : Bool) → IsForInit i ws → Optioned punct.Semicolon a xs → Optioned punct.RightParen b ys → IsStmt k c zs
      → IsStmt k (s.For p i a b c) (word p key.For ∷ (sign o punct.LeftParen ∷ (ws ++ (xs ++ (ys ++ zs)))))
  for_is {p = p} {o = o} {i = i} {a = a} {b = b} {c = c} {ws = ws} {xs = xs} {ys = ys} {zs = zs} k u w v x =
      subst (λ (z : Tokens). IsStmt k (s.For p i a b c) (word p key.For ∷ (sign o punct.LeftParen ∷ (ws ++ z)))) (sym (optioned_is w (ys ++ zs)))
      (subst (λ (z : Tokens). IsStmt k (s.For p i a b c) (word p key.For ∷ (sign o punct.LeftParen ∷ (ws ++ (w.inner ++ sign w.place punct.Semicolon ∷ z))))) (sym (optioned_is v zs))
      (stmts.IsStmt.for_loop o w.place v.place u w.is v.is x))

  for_sound : (ts : Tokens) → sees_key key.For ts ≡ true → GoodTo Ended ts (statement_as d stmt opening.For ts)
  for_sound ts h =
      to_word Ended key.For ts (λ p. expect punct.LeftParen >>= λ _. header d >>= λ i. optional d punct.Semicolon >>= λ a. optional d punct.RightParen >>= λ b. stmt >>= λ c. pure (s.For p i a b c)) h
      (λ p rest e. to_expect (λ c ys end. Ended c (word p key.For ∷ ys) end) punct.LeftParen rest (λ _. header d >>= λ i. optional d punct.Semicolon >>= λ a. optional d punct.RightParen >>= λ b. stmt >>= λ c. pure (s.For p i a b c))
      (λ o r2 e2. to_then (λ i ws end. IsForInit i ws) (λ c ys end. Ended c (word p key.For ∷ (sign o punct.LeftParen ∷ ys)) end) r2 (header d r2) (λ i. optional d punct.Semicolon >>= λ a. optional d punct.RightParen >>= λ b. stmt >>= λ c. pure (s.For p i a b c))
      (to_of IsForInit (λ i ws end. IsForInit i ws) r2 (header d r2) (header_sound d r2) (λ i ws end u. u))
      (λ i ws r3 e3 u. to_then (λ a xs end. Optioned punct.Semicolon a xs) (λ c ys end. Ended c (word p key.For ∷ (sign o punct.LeftParen ∷ (ws ++ ys))) end) r3 (optional d punct.Semicolon r3) (λ a. optional d punct.RightParen >>= λ b. stmt >>= λ c. pure (s.For p i a b c))
      (to_of (Optioned punct.Semicolon) (λ a xs end. Optioned punct.Semicolon a xs) r3 (optional d punct.Semicolon r3) (optional_sound d punct.Semicolon r3) (λ a xs end w. w))
      (λ a xs r4 e4 w. to_then (λ b ys end. Optioned punct.RightParen b ys) (λ c ys end. Ended c (word p key.For ∷ (sign o punct.LeftParen ∷ (ws ++ (xs ++ ys)))) end) r4 (optional d punct.RightParen r4) (λ b. stmt >>= λ c. pure (s.For p i a b c))
      (to_of (Optioned punct.RightParen) (λ b ys end. Optioned punct.RightParen b ys) r4 (optional d punct.RightParen r4) (optional_sound d punct.RightParen r4) (λ b ys end v. v))
      (λ b ys r5 e5 v. to_map Ended (λ c zs end. Ended c (word p key.For ∷ (sign o punct.LeftParen ∷ (ws ++ (xs ++ (ys ++ zs))))) end) (λ c. s.For p i a b c) r5 (stmt r5) (each r5)
      (λ c zs end x. carried end (λ k y. for_is k u w v y) x))))))

  -- ---- statements that end by a token of their own

  block_sound : (ts : Tokens) → sees punct.LeftBrace ts ≡ true → Good (IsStmt true) ts (statement_as d stmt opening.Block ts)
  block_sound ts h =
      good_sign (IsStmt true) punct.LeftBrace ts (λ p. statements_of stmt >>= λ bs. pure (s.Block p bs)) h
      (λ p rest e. good_map Enclosed (λ b ys. IsStmt true b (sign p punct.LeftBrace ∷ ys)) (λ bs. s.Block p bs) rest (statements_of stmt rest) (statements_of_sound stmt each rest)
      (λ bs zs r. subst (λ (z : Tokens). IsStmt true (s.Block p bs) (sign p punct.LeftBrace ∷ z)) (sym r.zs_is) (stmts.IsStmt.block r.place r.body)))

  switch_sound : (ts : Tokens) → sees_key key.Switch ts ≡ true → Good (IsStmt true) ts (statement_as d stmt opening.Switch ts)
  switch_sound ts h =
      good_word (IsStmt true) key.Switch ts (λ p. condition d >>= λ a. expect punct.LeftBrace >>= λ _. statements_of stmt >>= λ bs. pure (s.Switch p a bs)) h
      (λ p rest e. good_then Tested (λ b ys. IsStmt true b (word p key.Switch ∷ ys)) rest (condition d rest) (λ a. expect punct.LeftBrace >>= λ _. statements_of stmt >>= λ bs. pure (s.Switch p a bs)) (test_sound d rest)
      (λ a xs after e2 w. good_expect (λ b ys. IsStmt true b (word p key.Switch ∷ (xs ++ ys))) punct.LeftBrace after (λ _. statements_of stmt >>= λ bs. pure (s.Switch p a bs))
      (λ m last e3. good_map Enclosed (λ b ys. IsStmt true b (word p key.Switch ∷ (xs ++ sign m punct.LeftBrace ∷ ys))) (λ bs. s.Switch p a bs) last (statements_of stmt last) (statements_of_sound stmt each last)
      (λ bs zs r. subst (λ (z : Tokens). IsStmt true (s.Switch p a bs) (word p key.Switch ∷ z)) (sym (tested_is w (sign m punct.LeftBrace ∷ zs)))
      (subst (λ (z : Tokens). IsStmt true (s.Switch p a bs) (word p key.Switch ∷ (sign w.open_at punct.LeftParen ∷ (w.inner ++ sign w.close_at punct.RightParen ∷ (sign m punct.LeftBrace ∷ z))))) (sym r.zs_is)
      (stmts.IsStmt.switch w.open_at w.close_at m r.place w.is r.body))))))

  case_sound : (ts : Tokens) → sees_key key.Case ts ≡ true → Good (IsStmt true) ts (statement_as d stmt opening.Case ts)
  case_sound ts h =
      good_word (IsStmt true) key.Case ts (λ p. expr d 2 >>= λ a. expect punct.Colon >>= λ _. pure (s.Case p a)) h
      (λ p rest e. good_then (IsExpr 2) (λ b ys. IsStmt true b (word p key.Case ∷ ys)) rest (expr d 2 rest) (λ a. expect punct.Colon >>= λ _. pure (s.Case p a)) (expr_sound d 2 rest (omega arith))
      (λ a xs after e2 w. good_close (λ b ys. IsStmt true b (word p key.Case ∷ (xs ++ ys))) punct.Colon (s.Case p a) after (λ q. stmts.IsStmt.case q w)))

  default_sound : (ts : Tokens) → sees_key key.Default ts ≡ true → Good (IsStmt true) ts (statement_as d stmt opening.Default ts)
  default_sound ts h =
      good_word (IsStmt true) key.Default ts (λ p. expect punct.Colon >>= λ _. pure (s.Default p)) h
      (λ p rest e. good_close (λ b ys. IsStmt true b (word p key.Default ∷ ys)) punct.Colon (s.Default p) rest (λ q. stmts.IsStmt.default q))

  do_sound : (ts : Tokens) → sees_key key.Do ts ≡ true → Good (IsStmt true) ts (statement_as d stmt opening.Do ts)
  do_sound ts h =
      good_word (IsStmt true) key.Do ts (λ p. stmt >>= λ b. expect_key key.While >>= λ _. condition d >>= λ a. expect punct.Semicolon >>= λ _. pure (s.Do p b a)) h
      (λ p rest e. good_then (IsStmt false) (λ c ys. IsStmt true c (word p key.Do ∷ ys)) rest (stmt rest) (λ b. expect_key key.While >>= λ _. condition d >>= λ a. expect punct.Semicolon >>= λ _. pure (s.Do p b a))
      (good_of Ended (IsStmt false) rest (stmt rest) (each rest) (λ b xs after v. v.0))
      (λ b xs after e2 v. good_key (λ c ys. IsStmt true c (word p key.Do ∷ (xs ++ ys))) key.While after (λ _. condition d >>= λ a. expect punct.Semicolon >>= λ _. pure (s.Do p b a))
      (λ m r3 e3. good_then Tested (λ c ys. IsStmt true c (word p key.Do ∷ (xs ++ word m key.While ∷ ys))) r3 (condition d r3) (λ a. expect punct.Semicolon >>= λ _. pure (s.Do p b a)) (test_sound d r3)
      (λ a ys r4 e4 w. good_close (λ c zs. IsStmt true c (word p key.Do ∷ (xs ++ word m key.While ∷ (ys ++ zs)))) punct.Semicolon (s.Do p b a) r4
      (λ q. subst (λ (z : Tokens). IsStmt true (s.Do p b a) (word p key.Do ∷ (xs ++ word m key.While ∷ z))) (sym (tested_is w (sign q punct.Semicolon ∷ [])))
      (stmts.IsStmt.do_while m w.open_at w.close_at q v w.is))))))

  break_sound : (ts : Tokens) → sees_key key.Break ts ≡ true → Good (IsStmt true) ts (statement_as d stmt opening.Break ts)
  break_sound ts h =
      good_map (Alone key.Break) (IsStmt true) (λ p. s.Break p) ts (read.word ts) (word_sound key.Break ts h) (λ p xs w. subst (λ (z : Tokens). IsStmt true (s.Break p) z) (sym w.xs_is) (stmts.IsStmt.break_out w.end))

  continue_sound : (ts : Tokens) → sees_key key.Continue ts ≡ true → Good (IsStmt true) ts (statement_as d stmt opening.Continue ts)
  continue_sound ts h =
      good_map (Alone key.Continue) (IsStmt true) (λ p. s.Continue p) ts (read.word ts) (word_sound key.Continue ts h) (λ p xs w. subst (λ (z : Tokens). IsStmt true (s.Continue p) z) (sym w.xs_is) (stmts.IsStmt.continue_on w.end))

  discard_sound : (ts : Tokens) → sees_key key.Discard ts ≡ true → Good (IsStmt true) ts (statement_as d stmt opening.Discard ts)
  discard_sound ts h =
      good_map (Alone key.Discard) (IsStmt true) (λ p. s.Discard p) ts (read.word ts) (word_sound key.Discard ts h) (λ p xs w. subst (λ (z : Tokens). IsStmt true (s.Discard p) z) (sym w.xs_is) (stmts.IsStmt.discard w.end))

  local_sound : (ts : Tokens) → Good (IsStmt true) ts (statement_as d stmt opening.Local ts)
  local_sound ts =
      good_map IsLocal (IsStmt true) (λ x. s.Decl x) ts (and_then (qualifiers d ts) (local_from d))
      (good_then (Row IsQual) IsLocal ts (qualifiers d ts) (local_from d) (qualifiers_sound d ts) (λ qs us rest e u. local_from_sound d qs us rest u)) (λ x xs w. stmts.IsStmt.decl w)

  statement_at : (o : Opening) (ts : Tokens) → Opens o ts → GoodTo Ended ts (statement_as d stmt o ts)
  statement_at opening.Empty ts h =
      closed_ended ts (statement_as d stmt opening.Empty ts)
      (good_sign (IsStmt true) punct.Semicolon ts (λ p. pure (s.Empty p)) h (λ p rest e. good_ok (λ b ys. IsStmt true b (sign p punct.Semicolon ∷ ys)) rest (s.Empty p) stmts.IsStmt.empty))
  statement_at opening.Block ts h = closed_ended ts (statement_as d stmt opening.Block ts) (block_sound ts h)
  statement_at opening.If ts h = if_sound ts h
  statement_at opening.Switch ts h = closed_ended ts (statement_as d stmt opening.Switch ts) (switch_sound ts h)
  statement_at opening.Case ts h = closed_ended ts (statement_as d stmt opening.Case ts) (case_sound ts h)
  statement_at opening.Default ts h = closed_ended ts (statement_as d stmt opening.Default ts) (default_sound ts h)
  statement_at opening.While ts h = while_sound ts h
  statement_at opening.Do ts h = closed_ended ts (statement_as d stmt opening.Do ts) (do_sound ts h)
  statement_at opening.For ts h = for_sound ts h
  statement_at opening.Break ts h = closed_ended ts (statement_as d stmt opening.Break ts) (break_sound ts h)
  statement_at opening.Continue ts h = closed_ended ts (statement_as d stmt opening.Continue ts) (continue_sound ts h)
  statement_at opening.Discard ts h = closed_ended ts (statement_as d stmt opening.Discard ts) (discard_sound ts h)
  statement_at opening.Return ts h =
      closed_ended ts (statement_as d stmt opening.Return ts) (good_word (IsStmt true) key.Return ts (λ p. returned d p) h (λ p rest e. returned_sound d p rest))
  statement_at opening.Local ts h = closed_ended ts (statement_as d stmt opening.Local ts) (local_sound ts)
  statement_at opening.Phrase ts h =
      closed_ended ts (statement_as d stmt opening.Phrase ts) (good_map IsForInit (IsStmt true) (λ i. stmt_of i) ts (phrase d ts) (phrase_sound d ts) (λ i xs w. of_init w))

pub statement_ended : (d : ℕ) (ts : Tokens) → GoodTo Ended ts (statement d ts)
unfolding statement
statement_ended zero ts = tt
statement_ended (suc d) ts = statement_at d (statement d) (statement_ended d) (opening_at ts) ts (opens ts)

pub statements_sound : (d : ℕ) (ts : Tokens) → Good Enclosed ts (statements_of (statement d) ts)
statements_sound d ts = statements_of_sound (statement d) (statement_ended d) ts
