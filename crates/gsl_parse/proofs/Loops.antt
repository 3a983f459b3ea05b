-- Loops over items, beside the readers' count of turns.
use Rattle.std.proofs.Common.{◌≡◌, refl, sym, ap, ◌∙◌, ℕ, suc, ◌+◌, ◌<◌, ◌≤◌, Bool, true, false, List, [], ◌∷◌, ◌++◌, length, Ok, Err, cond, arith}
use Rattle.gsl_base.specs.declared.fault.Place.{Place}
use Rattle.gsl_base.specs.declared.token.Punct.TheVariants as punct
use Rattle.gsl_syntax.specs.declared.declaration.Init.{Init}
use Rattle.gsl_syntax.specs.declared.statement.Stmt.{Stmt}
use Rattle.gsl_expr.specs.Reading.{Tokens, Outcome, Parser, and_then, ◌>>=◌, pure, take_one, sees, expect}
use Rattle.gsl_expr.proofs.Turns.{one_left, Here, turned, ended, stopped, some_seen}
use Rattle.gsl_parse.specs.Lists.{row, further}
use Rattle.gsl_parse.specs.Statements.{statements}
use Rattle.gsl_parse.specs.Variables.{listed, initialisers}

some_of_test : (begins : Tokens → Bool) → begins [] ≡ false → (ts : Tokens) → begins ts ≡ true → 0 < length ts
some_of_test begins none [] h = let clash : false ≡ true = sym none ∙ h in absurd cc
some_of_test begins none (t ∷ ts) h = omega arith

-- where nothing is read at the end
some_read : {A : Type 0} (item : Parser A) → item [] ≡ Err [] → (ts us : Tokens) (a : A) → item ts ≡ Ok (a, us) → 0 < length ts
some_read item none [] us a e = let clash = sym none ∙ e in absurd cc
some_read item none (t ∷ ts) us a e = omega arith

-- a fault of one item is one of the list
listwise : {A B : Type 0} (u v : Tokens) → (let o : Outcome A = Err u in o ≡ Err v) → (let o : Outcome B = Err u in o ≡ Err v)
listwise {A = A} {B = B} u v e = ap (λ (o : Outcome A). and_then o (λ a ts. (let fault : Outcome B = Err ts in fault))) e

-- ---- as many as begin

module _ {A : Type 0} (n at : ℕ) (whole : Outcome (List A)) (begins : Tokens → Bool) (item : Parser A) (found : List A) (ts : Tokens) (h : Here whole (λ n. row begins item n found) n at ts) where
  pub row_end : begins ts ≡ false → whole ≡ Ok (found, ts)
  unfolding row
  row_end other = stopped whole (Ok (found, ts)) (λ n. row begins item n found) n at ts h (λ k. rw other refl) (λ e. ap (λ (us : Tokens). Ok (found, us)) (sym e))

  row_step : (k : ℕ) (o : Outcome A) → begins ts ≡ true → item ts ≡ o → row begins item (suc k) found ts ≡ and_then o (λ a. row begins item k (found ++ a ∷ []))
  unfolding row
  row_step k o seen e = rw seen (ap (λ (o : Outcome A). and_then o (λ a. row begins item k (found ++ a ∷ []))) e)

  pub row_bad : (bad : Tokens) → begins [] ≡ false → begins ts ≡ true → item ts ≡ Err bad → whole ≡ Err bad
  row_bad bad none seen e = ended whole (Err bad) (λ n. row begins item n found) n at ts h (some_of_test begins none ts seen) (λ k. row_step k (Err bad) seen e)

  pub row_turn : (us : Tokens) (a : A) (more : List A) → begins ts ≡ true → item ts ≡ Ok (a, us) → length us < length ts → more ≡ found ++ a ∷ [] → Here whole (λ n. row begins item n more) n (at + 1) us
  row_turn us a more seen e less is =
      turned whole (λ n. row begins item n found) (λ n. row begins item n more) n at ts us h less (λ k. row_step k (Ok (a, us)) seen e ∙ ap (λ (z : List A). row begins item k z us) (sym is))

-- ---- as many as stand behind commas

module _ {A : Type 0} (n at : ℕ) (whole : Outcome (List A)) (item : Parser A) (found : List A) (ts : Tokens) (h : Here whole (λ n. further item n found) n at ts) where
  pub further_end : sees punct.Comma ts ≡ false → whole ≡ Ok (found, ts)
  unfolding further
  further_end other = stopped whole (Ok (found, ts)) (λ n. further item n found) n at ts h (λ k. rw other refl) (λ e. ap (λ (us : Tokens). Ok (found, us)) (sym e))

  abbrev follows : ℕ → Place → Parser (List A)
  follows k p = item >>= λ a. further item k (found ++ a ∷ [])

  pub further_bad_one : (bad : Tokens) → sees punct.Comma ts ≡ true → take_one ts ≡ Err bad → whole ≡ Err bad
  unfolding further
  further_bad_one bad seen e = ended whole (Err bad) (λ n. further item n found) n at ts h (some_seen punct.Comma ts seen) (λ k. rw seen (ap (λ (o : Outcome Place). and_then o (follows k)) e))

  further_step : (k : ℕ) (p : Place) (us : Tokens) (o : Outcome A) → sees punct.Comma ts ≡ true → take_one ts ≡ Ok (p, us) → item us ≡ o → further item (suc k) found ts ≡ and_then o (λ a. further item k (found ++ a ∷ []))
  unfolding further
  further_step k p us o seen e b = rw seen (ap (λ (o : Outcome Place). and_then o (follows k)) e ∙ ap (λ (o : Outcome A). and_then o (λ a. further item k (found ++ a ∷ []))) b)

  pub further_bad : (p : Place) (us bad : Tokens) → sees punct.Comma ts ≡ true → take_one ts ≡ Ok (p, us) → item us ≡ Err bad → whole ≡ Err bad
  further_bad p us bad seen e b = ended whole (Err bad) (λ n. further item n found) n at ts h (some_seen punct.Comma ts seen) (λ k. further_step k p us (Err bad) seen e b)

  pub further_turn : (p : Place) (us vs : Tokens) (a : A) (more : List A) → sees punct.Comma ts ≡ true → take_one ts ≡ Ok (p, us) → item us ≡ Ok (a, vs) → length vs ≤ length us → more ≡ found ++ a ∷ []
      → Here whole (λ n. further item n more) n (at + 1) vs
  further_turn p us vs a more seen e x less is =
      turned whole (λ n. further item n found) (λ n. further item n more) n at ts vs h (omega (arith, one_left ts us p e))
      (λ k. further_step k p us (Ok (a, vs)) seen e x ∙ ap (λ (z : List A). further item k z vs) (sym is))

-- ---- statements

module _ (n at : ℕ) (whole : Outcome (List Stmt)) (stmt : Parser Stmt) (found : List Stmt) (ts : Tokens) (h : Here whole (λ n. statements stmt n found) n at ts) where
  statements_close : (k : ℕ) (o : Outcome Place) → sees punct.RightBrace ts ≡ true → take_one ts ≡ o → statements stmt (suc k) found ts ≡ and_then o (λ _. pure found)
  unfolding statements
  statements_close k o seen e = rw seen (ap (λ (o : Outcome Place). and_then o (λ _. pure found)) e)

  pub statements_bad_one : (bad : Tokens) → sees punct.RightBrace ts ≡ true → take_one ts ≡ Err bad → whole ≡ Err bad
  statements_bad_one bad seen e = ended whole (Err bad) (λ n. statements stmt n found) n at ts h (some_seen punct.RightBrace ts seen) (λ k. statements_close k (Err bad) seen e)

  pub statements_end : (p : Place) (us : Tokens) → sees punct.RightBrace ts ≡ true → take_one ts ≡ Ok (p, us) → whole ≡ Ok (found, us)
  statements_end p us seen e = ended whole (Ok (found, us)) (λ n. statements stmt n found) n at ts h (some_seen punct.RightBrace ts seen) (λ k. statements_close k (Ok (p, us)) seen e)

  statements_step : (k : ℕ) (o : Outcome Stmt) → sees punct.RightBrace ts ≡ false → stmt ts ≡ o → statements stmt (suc k) found ts ≡ and_then o (λ a. statements stmt k (found ++ a ∷ []))
  unfolding statements
  statements_step k o other e = rw other (ap (λ (o : Outcome Stmt). and_then o (λ a. statements stmt k (found ++ a ∷ []))) e)

  pub statements_bad : (bad : Tokens) → stmt [] ≡ Err [] → sees punct.RightBrace ts ≡ false → stmt ts ≡ Err bad → whole ≡ Err bad
  unfolding statements
  statements_bad bad none other e =
      stopped whole (Err bad) (λ n. statements stmt n found) n at ts h (λ k. statements_step k (Err bad) other e) (λ i. listwise {A = Stmt} [] bad (sym none ∙ ap stmt (sym i) ∙ e))

  pub statements_turn : (us : Tokens) (a : Stmt) (more : List Stmt) → sees punct.RightBrace ts ≡ false → stmt ts ≡ Ok (a, us) → length us < length ts → more ≡ found ++ a ∷ [] → Here whole (λ n. statements stmt n more) n (at + 1) us
  statements_turn us a more other e less is =
      turned whole (λ n. statements stmt n found) (λ n. statements stmt n more) n at ts us h less (λ k. statements_step k (Ok (a, us)) other e ∙ ap (λ (z : List Stmt). statements stmt k z us) (sym is))

-- ---- initialisers

module _ (n at : ℕ) (whole : Outcome (List Init)) (next : Parser Init) (found : List Init) (ts : Tokens) (h : Here whole (λ n. initialisers next n found) n at ts) (none : next [] ≡ Err []) where
  abbrev behind : ℕ → Init → Parser (List Init)
  behind k a us =
      cond (sees punct.Comma us) (and_then (take_one us) (λ _. listed (initialisers next k (found ++ a ∷ [])) (found ++ a ∷ []))) (and_then (expect punct.RightBrace us) (λ _. pure (found ++ a ∷ [])))

  pub inits_bad : (bad : Tokens) → next ts ≡ Err bad → whole ≡ Err bad
  unfolding initialisers
  inits_bad bad e =
      stopped whole (Err bad) (λ n. initialisers next n found) n at ts h (λ k. ap (λ (o : Outcome Init). and_then o (behind k)) e) (λ i. listwise {A = Init} [] bad (sym none ∙ ap next (sym i) ∙ e))

  inits_step : (k : ℕ) (us : Tokens) (a : Init) → next ts ≡ Ok (a, us) → initialisers next (suc k) found ts ≡ behind k a us
  unfolding initialisers
  inits_step k us a e = ap (λ (o : Outcome Init). and_then o (behind k)) e

  inits_over : (o : Outcome (List Init)) (us : Tokens) (a : Init) → next ts ≡ Ok (a, us) → ((k : ℕ) → behind k a us ≡ o) → whole ≡ o
  inits_over o us a e step = ended whole o (λ n. initialisers next n found) n at ts h (some_read next none ts us a e) (λ k. inits_step k us a e ∙ step k)

  pub inits_unclosed : (us bad : Tokens) (a : Init) → next ts ≡ Ok (a, us) → sees punct.Comma us ≡ false → expect punct.RightBrace us ≡ Err bad → whole ≡ Err bad
  inits_unclosed us bad a e other b = inits_over (Err bad) us a e (λ k. rw other (ap (λ (o : Outcome Place). and_then o (λ _. pure (found ++ a ∷ []))) b))

  pub inits_end : (us vs : Tokens) (a : Init) (p : Place) (more : List Init) → next ts ≡ Ok (a, us) → sees punct.Comma us ≡ false → expect punct.RightBrace us ≡ Ok (p, vs) → more ≡ found ++ a ∷ [] → whole ≡ Ok (more, vs)
  inits_end us vs a p more e other b is =
      inits_over (Ok (more, vs)) us a e (λ k. rw other (ap (λ (o : Outcome Place). and_then o (λ _. pure (found ++ a ∷ []))) b) ∙ ap (λ (z : List Init). Ok (z, vs)) (sym is))

  -- a comma, and what stands behind it
  comma_step : (k : ℕ) (us : Tokens) (a : Init) (o : Outcome Place) → sees punct.Comma us ≡ true → take_one us ≡ o → behind k a us ≡ and_then o (λ _. listed (initialisers next k (found ++ a ∷ [])) (found ++ a ∷ []))
  comma_step k us a o seen b = rw seen (ap (λ (o : Outcome Place). and_then o (λ _. listed (initialisers next k (found ++ a ∷ [])) (found ++ a ∷ []))) b)

  pub inits_bad_one : (us bad : Tokens) (a : Init) → next ts ≡ Ok (a, us) → sees punct.Comma us ≡ true → take_one us ≡ Err bad → whole ≡ Err bad
  inits_bad_one us bad a e seen b = inits_over (Err bad) us a e (λ k. comma_step k us a (Err bad) seen b)

  close_step : (k : ℕ) (vs : Tokens) (a : Init) (o : Outcome Place) → sees punct.RightBrace vs ≡ true → take_one vs ≡ o → listed (initialisers next k (found ++ a ∷ [])) (found ++ a ∷ []) vs ≡ and_then o (λ _. pure (found ++ a ∷ []))
  close_step k vs a o seen b = rw seen (ap (λ (o : Outcome Place). and_then o (λ _. pure (found ++ a ∷ []))) b)

  pub inits_bad_two : (us vs bad : Tokens) (a : Init) (p : Place) → next ts ≡ Ok (a, us) → sees punct.Comma us ≡ true → take_one us ≡ Ok (p, vs) → sees punct.RightBrace vs ≡ true → take_one vs ≡ Err bad → whole ≡ Err bad
  inits_bad_two us vs bad a p e seen b closes c = inits_over (Err bad) us a e (λ k. comma_step k us a (Ok (p, vs)) seen b ∙ close_step k vs a (Err bad) closes c)

  pub inits_closed : (us vs ws : Tokens) (a : Init) (p q : Place) (more : List Init) → next ts ≡ Ok (a, us) → sees punct.Comma us ≡ true → take_one us ≡ Ok (p, vs) → sees punct.RightBrace vs ≡ true → take_one vs ≡ Ok (q, ws) → more ≡ found ++ a ∷ []
      → whole ≡ Ok (more, ws)
  inits_closed us vs ws a p q more e seen b closes c is =
      inits_over (Ok (more, ws)) us a e (λ k. comma_step k us a (Ok (p, vs)) seen b ∙ close_step k vs a (Ok (q, ws)) closes c ∙ ap (λ (z : List Init). Ok (z, ws)) (sym is))

  pub inits_turn : (us vs : Tokens) (a : Init) (p : Place) (more : List Init) → next ts ≡ Ok (a, us) → length us ≤ length ts → sees punct.Comma us ≡ true → take_one us ≡ Ok (p, vs) → sees punct.RightBrace vs ≡ false → more ≡ found ++ a ∷ []
      → Here whole (λ n. initialisers next n more) n (at + 1) vs
  inits_turn us vs a p more e less seen b opens is =
      turned whole (λ n. initialisers next n found) (λ n. initialisers next n more) n at ts vs h (omega (arith, one_left us vs p b))
      (λ k. inits_step k us a e ∙ comma_step k us a (Ok (p, vs)) seen b ∙ rw opens (ap (λ (z : List Init). initialisers next k z vs) (sym is)))
