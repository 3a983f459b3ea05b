-- What the reader of statements took before a fault begins a statement.
use Rattle.std.proofs.Common.{◌≡◌, ℕ, zero, suc, Bool, true, false, cond, List, [], ◌∷◌, ◌++◌, length, Some, None, Ok, Err, refl, sym, subst, arith}
use Rattle.gsl_base.specs.declared.fault.Place.{Place}
use Rattle.gsl_base.specs.declared.token.Punct.{Punct}
use Rattle.gsl_base.specs.declared.token.Punct.TheVariants as punct
use Rattle.gsl_base.specs.declared.token.Key.{Key}
use Rattle.gsl_base.specs.declared.token.Key.TheVariants as key
use Rattle.gsl_syntax.specs.declared.expr.Expr.{Expr}
use Rattle.gsl_syntax.specs.declared.statement.Stmt.{Stmt}
use Rattle.gsl_syntax.specs.declared.statement.Stmt.TheVariants as s
use Rattle.gsl_syntax.specs.Phrases.{sign, word, IsExpr}
use Rattle.gsl_syntax.specs.Declarations.{Row, IsQual}
use Rattle.gsl_syntax.specs.Statements.{IsForInit, IsStmt, IsStmts}
use Rattle.gsl_syntax.specs.Statements as stmts
use Rattle.gsl_expr.specs.Reading.{Tokens, Parser, and_then, ◌>>=◌, pure, take_one, sees_key, expect}
use Rattle.gsl_expr.specs.Expressions.{expr}
use Rattle.gsl_expr.proofs.Taken.{Good, GoodTo, good_of}
use Rattle.gsl_expr.proofs.Sound.{expr_sound}
use Rattle.gsl_parse.specs.declared.opening.Opening.{Opening}
use Rattle.gsl_parse.specs.declared.opening.Opening.TheVariants as opening
use Rattle.gsl_parse.specs.Openings.{opening_at}
use Rattle.gsl_parse.specs.Variables.{header}
use Rattle.gsl_parse.specs.Statements as read
use Rattle.gsl_parse.specs.Statements.{expect_key, condition, optional, returned, stmt_of, statements, statements_of, alternative, statement_as, statement}
use Rattle.gsl_parse.proofs.SoundDeclarators.{qualifiers_sound}
use Rattle.gsl_parse.proofs.SoundDeclarations.{header_sound}
use Rattle.gsl_parse.proofs.SoundStatementParts.{Opens, opens, Ended, any_is, before_else, Tested, test_sound, tested_is, Optioned, optional_sound, of_init, Braced, Enclosed, last_braced, more_braced}
use Rattle.gsl_parse.proofs.SoundStatements.{for_is, statement_ended}
use Rattle.gsl_expr.proofs.Live.{Front, after, Opened, Live, Leads, fails, live_pure, live_fail, opened_to, opened_map, live_then, live_map, no_place, opened_sign, opened_word, live_expect, live_close, live_sees}
use Rattle.gsl_expr.proofs.LiveExpressions.{expr_live}
use Rattle.gsl_parse.proofs.LiveDeclarations.{qualifiers_live, local_from_live, phrase_live, header_live}

-- ---- parts of statements

live_expect_key : {B : Type 0} {F : Front} {f : Place → Parser B} (w : Key) → ((p : Place) → Live (after (word p w ∷ []) F) (f p)) → Live F (expect_key w >>= f)
unfolding expect_key
live_expect_key {B = B} {F = F} {f = f} w next = record { starts = start; opened = λ ts. go ts (sees_key w ts) refl }
  where
    start : F.holds []
    start = F.closed [] (word no_place w ∷ []) (next no_place).starts

    go : (ts : Tokens) (b : Bool) → sees_key w ts ≡ b → Opened F ts (and_then (cond b (take_one ts) (Err ts)) f)
    go ts true h = opened_word F w ts f h (λ p rest split. (next p).opened rest)
    go ts false h = fails F ts start

-- behind a word that was seen
worded : {B : Type 0} (F : Front) (w : Key) (ts : Tokens) (f : Place → Parser B) → sees_key w ts ≡ true → ((p : Place) → Live (after (word p w ∷ []) F) (f p)) → Opened F ts (and_then (take_one ts) f)
worded F w ts f h next = opened_word F w ts f h (λ p rest split. (next p).opened rest)

test_live : (d : ℕ) (F : Front) → Leads Tested F → Live F (condition d)
unfolding condition
test_live d F lead =
    live_expect punct.LeftParen (λ o. live_then (IsExpr 0) (λ ts. expr_sound d 0 ts (omega arith)) (expr_live d 0 (omega arith) (after (sign o punct.LeftParen ∷ []) F))
    (λ a xs w. live_close punct.RightParen a (λ c. lead a (sign o punct.LeftParen ∷ (xs ++ sign c punct.RightParen ∷ [])) (record { open_at = o; close_at = c; inner = xs; xs_is = refl; is = w }))))

optional_live : (d : ℕ) (m : Punct) (F : Front) → Leads (Optioned m) F → Live F (optional d m)
unfolding optional
optional_live d m F lead =
    live_sees m (λ p. live_pure None (lead None (sign p m ∷ []) (record { place = p; inner = []; xs_is = refl; is = stmts.IsOptional.none })))
    (live_then (IsExpr 0) (λ ts. expr_sound d 0 ts (omega arith)) (expr_live d 0 (omega arith) F)
    (λ a xs w. live_close m (Some a) (λ p. lead (Some a) (xs ++ sign p m ∷ []) (record { place = p; inner = xs; xs_is = refl; is = stmts.IsOptional.some w }))))

returned_live : (d : ℕ) (p : Place) (F : Front) → ((b : Stmt) (ys : Tokens) → IsStmt false b (word p key.Return ∷ ys) → F.holds ys) → Live F (returned d p)
unfolding returned
returned_live d p F lead =
    live_sees punct.Semicolon (λ q. live_pure (s.Return p) (lead (s.Return p) (sign q punct.Semicolon ∷ []) (stmts.IsStmt.return_alone q)))
    (live_then (IsExpr 0) (λ ts. expr_sound d 0 ts (omega arith)) (expr_live d 0 (omega arith) F)
    (λ a xs w. live_close punct.Semicolon (s.ReturnValue p a) (λ q. lead (s.ReturnValue p a) (xs ++ sign q punct.Semicolon ∷ []) (stmts.IsStmt.return_value q w))))

module _ (stmt : Parser Stmt) (each : (ts : Tokens) → GoodTo Ended ts (stmt ts)) (live : (F : Front) → Leads (IsStmt false) F → Live F stmt) where
  any_good : (ts : Tokens) → Good (IsStmt false) ts (stmt ts)
  any_good ts = good_of Ended (IsStmt false) ts (stmt ts) (each ts) (λ a xs rest w. w.0)

  braced_live : (n : ℕ) (found : List Stmt) (F : Front) → ((bs : List Stmt) (zs : Tokens) → Braced found bs zs → F.holds zs) → Live F (statements stmt n found)
  unfolding statements
  braced_live zero found F lead = live_fail (F.closed [] (sign no_place punct.RightBrace ∷ []) (lead found (sign no_place punct.RightBrace ∷ []) (last_braced found no_place)))
  braced_live (suc n) found F lead =
      live_sees punct.RightBrace (λ q. live_pure found (lead found (sign q punct.RightBrace ∷ []) (last_braced found q)))
      (live_then (IsStmt false) any_good (live F) (λ a xs w. braced_live n (found ++ a ∷ []) (after xs F) (λ bs zs r. lead bs (xs ++ zs) (more_braced found a xs bs zs w r))))

  pub statements_of_live : (F : Front) → Leads Enclosed F → Live F (statements_of stmt)
  statements_of_live F lead = record {
    starts = F.closed [] (sign no_place punct.RightBrace ∷ []) (lead [] (sign no_place punct.RightBrace ∷ []) (record { ys = []; place = no_place; zs_is = refl; body = stmts.IsStmts.done }));
    opened = λ ts. (braced_live (length ts) [] F (λ bs zs r. lead bs zs (record { ys = r.ys; place = r.place; zs_is = r.zs_is; body = subst (λ (cs : List Stmt). IsStmts cs r.ys) (sym r.all_is) r.body }))).opened ts;
  }

  -- ---- each statement

  module _ (d : ℕ) (F : Front) (lead : Leads (IsStmt false) F) where
    -- with its condition written out
    led : (p : Place) (w : Key) (c : Stmt) (a : Expr) (xs us : Tokens) (t : Tested a xs) → IsStmt false c (word p w ∷ (sign t.open_at punct.LeftParen ∷ (t.inner ++ sign t.close_at punct.RightParen ∷ us))) → IsStmt false c (word p w ∷ (xs ++ us))
    led p w c a xs us t h = subst (λ (z : Tokens). IsStmt false c (word p w ∷ z)) (sym (tested_is t us)) h

    alternative_opened : (p : Place) (a : Expr) (xs : Tokens) (b : Stmt) (ys ts : Tokens) → Tested a xs → Ended b ys ts → Opened (after ys (after xs (after (word p key.If ∷ []) F))) ts (alternative d stmt p a b ts)
    unfolding alternative
    alternative_opened p a xs b ys ts w v = go (sees_key key.Else ts) refl
      where
        go : (e : Bool) → sees_key key.Else ts ≡ e → Opened (after ys (after xs (after (word p key.If ∷ []) F))) ts (cond e (and_then (take_one ts) (λ _. stmt >>= λ c. pure (s.IfElse p a b c))) (Ok (s.If p a b, ts)))
        go false h = tt
        go true h =
            worded (after ys (after xs (after (word p key.If ∷ []) F))) key.Else ts (λ _. stmt >>= λ c. pure (s.IfElse p a b c)) h
            (λ m. live_map (λ c. s.IfElse p a b c) (live (after (word m key.Else ∷ []) (after ys (after xs (after (word p key.If ∷ []) F))))
            (λ c zs u. lead (s.IfElse p a b c) (word p key.If ∷ (xs ++ (ys ++ word m key.Else ∷ zs)))
            (led p key.If (s.IfElse p a b c) a xs (ys ++ word m key.Else ∷ zs) w (stmts.IsStmt.if_else w.open_at w.close_at m w.is (before_else b ys ts v.1 h) u)))))

    if_live : (p : Place) → Live (after (word p key.If ∷ []) F) (condition d >>= λ a. stmt >>= λ b. alternative d stmt p a b)
    if_live p = live_then Tested (test_sound d) (test_live d (after (word p key.If ∷ []) F)) behind
      where
        first : (a : Expr) (xs : Tokens) → Tested a xs → Live (after xs (after (word p key.If ∷ []) F)) stmt
        first a xs w = live (after xs (after (word p key.If ∷ []) F)) (λ b ys v. lead (s.If p a b) (word p key.If ∷ (xs ++ ys)) (led p key.If (s.If p a b) a xs ys w (stmts.IsStmt.if_alone w.open_at w.close_at w.is v)))

        behind : (a : Expr) (xs : Tokens) → Tested a xs → Live (after xs (after (word p key.If ∷ []) F)) (stmt >>= λ b. alternative d stmt p a b)
        behind a xs w = record {
          starts = (first a xs w).starts;
          opened = λ ts. opened_to (after xs (after (word p key.If ∷ []) F)) Ended ts (stmt ts) (λ b. alternative d stmt p a b) (each ts) ((first a xs w).opened ts) (λ b ys rest split v. alternative_opened p a xs b ys rest w v);
        }

    while_live : (p : Place) → Live (after (word p key.While ∷ []) F) (condition d >>= λ a. stmt >>= λ b. pure (s.While p a b))
    while_live p =
        live_then Tested (test_sound d) (test_live d (after (word p key.While ∷ []) F)) (λ a xs w. live_map (λ b. s.While p a b) (live (after xs (after (word p key.While ∷ []) F))
        (λ b ys v. lead (s.While p a b) (word p key.While ∷ (xs ++ ys)) (led p key.While (s.While p a b) a xs ys w (stmts.IsStmt.while w.open_at w.close_at w.is v)))))

    for_live : (p : Place) → Live (after (word p key.For ∷ []) F)
        (expect punct.LeftParen >>= λ _. header d >>= λ i. optional d punct.Semicolon >>= λ a. optional d punct.RightParen >>= λ b. stmt >>= λ c. pure (s.For p i a b c))
    for_live p =
        live_expect punct.LeftParen (λ o. live_then IsForInit (header_sound d) (header_live d (after (sign o punct.LeftParen ∷ []) (after (word p key.For ∷ []) F)))
        (λ i ws u. live_then (Optioned punct.Semicolon) (optional_sound d punct.Semicolon) (optional_live d punct.Semicolon (after ws (after (sign o punct.LeftParen ∷ []) (after (word p key.For ∷ []) F))))
        (λ a xs w. live_then (Optioned punct.RightParen) (optional_sound d punct.RightParen) (optional_live d punct.RightParen (after xs (after ws (after (sign o punct.LeftParen ∷ []) (after (word p key.For ∷ []) F)))))
        (λ b ys v. live_map (λ c. s.For p i a b c) (live (after ys (after xs (after ws (after (sign o punct.LeftParen ∷ []) (after (word p key.For ∷ []) F)))))
        (λ c zs x. lead (s.For p i a b c) (word p key.For ∷ (sign o punct.LeftParen ∷ (ws ++ (xs ++ (ys ++ zs))))) (for_is d stmt each false u w v x)))))))

    do_live : (p : Place) → Live (after (word p key.Do ∷ []) F) (stmt >>= λ b. expect_key key.While >>= λ _. condition d >>= λ a. expect punct.Semicolon >>= λ _. pure (s.Do p b a))
    do_live p =
        live_then (IsStmt false) any_good (live (after (word p key.Do ∷ []) F)) (λ b xs v. live_expect_key key.While
        (λ m. live_then Tested (test_sound d) (test_live d (after (word m key.While ∷ []) (after xs (after (word p key.Do ∷ []) F))))
        (λ a ys w. live_close punct.Semicolon (s.Do p b a) (λ q. lead (s.Do p b a) (word p key.Do ∷ (xs ++ word m key.While ∷ (ys ++ sign q punct.Semicolon ∷ [])))
        (subst (λ (z : Tokens). IsStmt false (s.Do p b a) (word p key.Do ∷ (xs ++ word m key.While ∷ z))) (sym (tested_is w (sign q punct.Semicolon ∷ []))) (stmts.IsStmt.do_while m w.open_at w.close_at q v w.is))))))

    switch_live : (p : Place) → Live (after (word p key.Switch ∷ []) F) (condition d >>= λ a. expect punct.LeftBrace >>= λ _. statements_of stmt >>= λ bs. pure (s.Switch p a bs))
    switch_live p =
        live_then Tested (test_sound d) (test_live d (after (word p key.Switch ∷ []) F)) (λ a xs w. live_expect punct.LeftBrace
        (λ m. live_map (λ bs. s.Switch p a bs) (statements_of_live (after (sign m punct.LeftBrace ∷ []) (after xs (after (word p key.Switch ∷ []) F)))
        (λ bs zs r. lead (s.Switch p a bs) (word p key.Switch ∷ (xs ++ sign m punct.LeftBrace ∷ zs))
        (led p key.Switch (s.Switch p a bs) a xs (sign m punct.LeftBrace ∷ zs) w
        (subst (λ (z : Tokens). IsStmt false (s.Switch p a bs) (word p key.Switch ∷ (sign w.open_at punct.LeftParen ∷ (w.inner ++ sign w.close_at punct.RightParen ∷ (sign m punct.LeftBrace ∷ z))))) (sym r.zs_is)
        (stmts.IsStmt.switch w.open_at w.close_at m r.place w.is r.body)))))))

    alone_opened : (w : Key) (made : Place → Stmt) (ts : Tokens) → sees_key w ts ≡ true → ((p q : Place) → IsStmt false (made p) (word p w ∷ (sign q punct.Semicolon ∷ []))) → Opened F ts (and_then (read.word ts) (λ p. pure (made p)))
    alone_opened w made ts h is =
        opened_map F made ts (read.word ts) (worded F w ts (λ p. expect punct.Semicolon >>= λ _. pure p) h (λ p. live_close punct.Semicolon p (λ q. lead (made p) (word p w ∷ (sign q punct.Semicolon ∷ [])) (is p q))))

    statement_at : (o : Opening) (ts : Tokens) → Opens o ts → Opened F ts (statement_as d stmt o ts)
    statement_at opening.Empty ts h = opened_sign F punct.Semicolon ts (λ p. pure (s.Empty p)) h (λ p rest split. tt)
    statement_at opening.Block ts h =
        opened_sign F punct.LeftBrace ts (λ p. statements_of stmt >>= λ bs. pure (s.Block p bs)) h
        (λ p rest split. (live_map (λ bs. s.Block p bs) (statements_of_live (after (sign p punct.LeftBrace ∷ []) F)
        (λ bs zs r. lead (s.Block p bs) (sign p punct.LeftBrace ∷ zs) (subst (λ (z : Tokens). IsStmt false (s.Block p bs) (sign p punct.LeftBrace ∷ z)) (sym r.zs_is) (stmts.IsStmt.block r.place r.body))))).opened rest)
    statement_at opening.If ts h = worded F key.If ts (λ p. condition d >>= λ a. stmt >>= λ b. alternative d stmt p a b) h if_live
    statement_at opening.Switch ts h = worded F key.Switch ts (λ p. condition d >>= λ a. expect punct.LeftBrace >>= λ _. statements_of stmt >>= λ bs. pure (s.Switch p a bs)) h switch_live
    statement_at opening.Case ts h =
        worded F key.Case ts (λ p. expr d 2 >>= λ a. expect punct.Colon >>= λ _. pure (s.Case p a)) h
        (λ p. live_then (IsExpr 2) (λ us. expr_sound d 2 us (omega arith)) (expr_live d 2 (omega arith) (after (word p key.Case ∷ []) F))
        (λ a xs w. live_close punct.Colon (s.Case p a) (λ q. lead (s.Case p a) (word p key.Case ∷ (xs ++ sign q punct.Colon ∷ [])) (stmts.IsStmt.case q w))))
    statement_at opening.Default ts h =
        worded F key.Default ts (λ p. expect punct.Colon >>= λ _. pure (s.Default p)) h (λ p. live_close punct.Colon (s.Default p) (λ q. lead (s.Default p) (word p key.Default ∷ (sign q punct.Colon ∷ [])) (stmts.IsStmt.default q)))
    statement_at opening.While ts h = worded F key.While ts (λ p. condition d >>= λ a. stmt >>= λ b. pure (s.While p a b)) h while_live
    statement_at opening.Do ts h = worded F key.Do ts (λ p. stmt >>= λ b. expect_key key.While >>= λ _. condition d >>= λ a. expect punct.Semicolon >>= λ _. pure (s.Do p b a)) h do_live
    statement_at opening.For ts h =
        worded F key.For ts (λ p. expect punct.LeftParen >>= λ _. header d >>= λ i. optional d punct.Semicolon >>= λ a. optional d punct.RightParen >>= λ b. stmt >>= λ c. pure (s.For p i a b c)) h for_live
    statement_at opening.Break ts h = alone_opened key.Break (λ p. s.Break p) ts h (λ p q. stmts.IsStmt.break_out q)
    statement_at opening.Continue ts h = alone_opened key.Continue (λ p. s.Continue p) ts h (λ p q. stmts.IsStmt.continue_on q)
    statement_at opening.Discard ts h = alone_opened key.Discard (λ p. s.Discard p) ts h (λ p q. stmts.IsStmt.discard q)
    statement_at opening.Return ts h = worded F key.Return ts (λ p. returned d p) h (λ p. returned_live d p (after (word p key.Return ∷ []) F) (λ b ys w. lead b (word p key.Return ∷ ys) w))
    statement_at opening.Local ts h =
        (live_map (λ x. s.Decl x) (live_then (Row IsQual) (qualifiers_sound d) (qualifiers_live d F) (λ qs us u. local_from_live d qs us (after us F) u (λ x ys w. lead (s.Decl x) (us ++ ys) (stmts.IsStmt.decl w))))).opened ts
    statement_at opening.Phrase ts h = (live_map (λ i. stmt_of i) (phrase_live d F (λ i xs w. lead (stmt_of i) xs (any_is (of_init w))))).opened ts

begins_stmt : (F : Front) → Leads (IsStmt false) F → F.holds []
begins_stmt F lead = F.closed [] (sign no_place punct.Semicolon ∷ []) (lead (s.Empty no_place) (sign no_place punct.Semicolon ∷ []) stmts.IsStmt.empty)

pub statement_live : (d : ℕ) (F : Front) → Leads (IsStmt false) F → Live F (statement d)
unfolding statement
statement_live zero F lead = live_fail (begins_stmt F lead)
statement_live (suc d) F lead = record { starts = begins_stmt F lead; opened = λ ts. statement_at (statement d) (statement_ended d) (statement_live d) d F lead (opening_at ts) ts (opens ts) }
