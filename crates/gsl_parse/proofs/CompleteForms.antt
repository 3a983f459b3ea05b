-- What the reader does with each form of a statement.
use Rattle.std.proofs.Common.{◌≡◌, refl, ap, ◌∙◌, ℕ, suc, ◌≤◌, true, false, List, [], ◌∷◌, ◌++◌, length, Option, Some, None, Ok, arith}
use Rattle.gsl_base.specs.declared.fault.Place.{Place}
use Rattle.gsl_base.specs.declared.token.Punct.{Punct}
use Rattle.gsl_base.specs.declared.token.Punct.TheVariants as punct
use Rattle.gsl_base.specs.declared.token.Key.TheVariants as key
use Rattle.gsl_syntax.specs.declared.expr.Expr.{Expr}
use Rattle.gsl_syntax.specs.declared.declaration.Decl.{Decl}
use Rattle.gsl_syntax.specs.declared.statement.ForInit.{ForInit}
use Rattle.gsl_syntax.specs.declared.statement.Stmt.{Stmt}
use Rattle.gsl_syntax.specs.declared.statement.Stmt.TheVariants as s
use Rattle.gsl_syntax.specs.Phrases.{sign, word, IsExpr}
use Rattle.gsl_syntax.specs.Statements.{IsOptional}
use Rattle.gsl_syntax.specs.Statements.IsOptional.{none, some}
use Rattle.gsl_expr.specs.Reading.{Tokens, Outcome, Parser, and_then, ◌>>=◌, pure, sees, sees_key, expect}
use Rattle.gsl_expr.specs.Expressions.{expr}
use Rattle.gsl_expr.proofs.Ends.{right_paren_ends, semicolon_ends}
use Rattle.gsl_expr.proofs.Complete.{expr_complete, expr_not_semicolon, expr_not_right_paren}
use Rattle.gsl_parse.specs.declared.opening.Opening.{Opening}
use Rattle.gsl_parse.specs.declared.opening.Opening.TheVariants as opening
use Rattle.gsl_parse.specs.Openings.{opening_at}
use Rattle.gsl_parse.specs.Qualifiers.{qualifiers}
use Rattle.gsl_parse.specs.Variables.{local_from, phrase, header}
use Rattle.gsl_parse.specs.Statements.{expect_key, condition, optional, returned, stmt_of, statements, statements_of, alternative, statement_as, statement_whole}

-- ---- parts of statements

test_reads : (d : ℕ) (o c : Place) (a : Expr) (ts rest : Tokens) → expr d 0 ts ≡ Ok (a, sign c punct.RightParen ∷ rest) → condition d (sign o punct.LeftParen ∷ ts) ≡ Ok (a, rest)
unfolding condition expect sees
test_reads d o c a ts rest x = ap (λ (r : Outcome Expr). and_then r (λ a. expect punct.RightParen >>= λ _. pure a)) x

pub test_complete : {a : Expr} {xs : Tokens} → IsExpr 0 a xs → (d : ℕ) (o c : Place) (rest : Tokens) → length (xs ++ sign c punct.RightParen ∷ rest) ≤ d → condition d (sign o punct.LeftParen ∷ (xs ++ sign c punct.RightParen ∷ rest)) ≡ Ok (a, rest)
test_complete {a = a} {xs = xs} x d o c rest fits =
    test_reads d o c a (xs ++ sign c punct.RightParen ∷ rest) rest (expr_complete x d (sign c punct.RightParen ∷ rest) (omega arith) fits (right_paren_ends 0 c rest))

optional_none : (d : ℕ) (m : Punct) (q : Place) (rest : Tokens) → sees m (sign q m ∷ rest) ≡ true → optional d m (sign q m ∷ rest) ≡ Ok (None, rest)
unfolding optional
optional_none d m q rest h = rw h refl

expect_is : (m : Punct) (q : Place) (rest : Tokens) → sees m (sign q m ∷ rest) ≡ true → expect m (sign q m ∷ rest) ≡ Ok (q, rest)
unfolding expect
expect_is m q rest h = rw h refl

optional_some : (d : ℕ) (m : Punct) (q : Place) (a : Expr) (ts rest : Tokens) → sees m (sign q m ∷ rest) ≡ true → sees m ts ≡ false → expr d 0 ts ≡ Ok (a, sign q m ∷ rest) → optional d m ts ≡ Ok (Some a, rest)
unfolding optional
optional_some d m q a ts rest h apart x =
    rw apart (ap (λ (r : Outcome Expr). and_then r (λ a. expect m >>= λ _. pure (Some a))) x
    ∙ ap (λ (r : Outcome Place). and_then r (λ _. pure (Some a))) (expect_is m q rest h))

semicolon_seen : (q : Place) (rest : Tokens) → sees punct.Semicolon (sign q punct.Semicolon ∷ rest) ≡ true
unfolding sees
semicolon_seen q rest = refl

right_paren_seen : (q : Place) (rest : Tokens) → sees punct.RightParen (sign q punct.RightParen ∷ rest) ≡ true
unfolding sees
right_paren_seen q rest = refl

pub optional_semicolon : {a : Option Expr} {xs : Tokens} → IsOptional a xs → (d : ℕ) (q : Place) (rest : Tokens) → length (xs ++ sign q punct.Semicolon ∷ rest) ≤ d → optional d punct.Semicolon (xs ++ sign q punct.Semicolon ∷ rest) ≡ Ok (a, rest)
optional_semicolon none d q rest fits = optional_none d punct.Semicolon q rest (semicolon_seen q rest)
optional_semicolon (some {a = a} {xs = xs} x) d q rest fits =
    let us = sign q punct.Semicolon ∷ rest in
    optional_some d punct.Semicolon q a (xs ++ us) rest (semicolon_seen q rest) (expr_not_semicolon x us) (expr_complete x d us (omega arith) fits (semicolon_ends 0 q rest))

pub optional_right_paren : {a : Option Expr} {xs : Tokens} → IsOptional a xs → (d : ℕ) (q : Place) (rest : Tokens) → length (xs ++ sign q punct.RightParen ∷ rest) ≤ d → optional d punct.RightParen (xs ++ sign q punct.RightParen ∷ rest) ≡ Ok (a, rest)
optional_right_paren none d q rest fits = optional_none d punct.RightParen q rest (right_paren_seen q rest)
optional_right_paren (some {a = a} {xs = xs} x) d q rest fits =
    let us = sign q punct.RightParen ∷ rest in
    optional_some d punct.RightParen q a (xs ++ us) rest (right_paren_seen q rest) (expr_not_right_paren x us) (expr_complete x d us (omega arith) fits (right_paren_ends 0 q rest))

pub stmts_close : (stmt : Parser Stmt) (n : ℕ) (found : List Stmt) (q : Place) (rest : Tokens) → statements stmt (suc n) found (sign q punct.RightBrace ∷ rest) ≡ Ok (found, rest)
unfolding statements sees
stmts_close stmt n found q rest = refl

pub stmts_step : (stmt : Parser Stmt) (n : ℕ) (found : List Stmt) (a : Stmt) (ts us : Tokens) → sees punct.RightBrace ts ≡ false → stmt ts ≡ Ok (a, us) → statements stmt (suc n) found ts ≡ statements stmt n (found ++ a ∷ []) us
unfolding statements
stmts_step stmt n found a ts us h x = rw h (ap (λ (r : Outcome Stmt). and_then r (λ a. statements stmt n (found ++ a ∷ []))) x)

-- ---- forms

pub empty_reads : (d : ℕ) (stmt : Parser Stmt) (p : Place) (rest : Tokens) → statement_whole d stmt (sign p punct.Semicolon ∷ rest) ≡ Ok (s.Empty p, rest)
unfolding opening_at
empty_reads d stmt p rest = refl

pub block_reads : (d : ℕ) (stmt : Parser Stmt) (p : Place) (bs : List Stmt) (ts rest : Tokens) → statements_of stmt ts ≡ Ok (bs, rest) → statement_whole d stmt (sign p punct.LeftBrace ∷ ts) ≡ Ok (s.Block p bs, rest)
unfolding opening_at
block_reads d stmt p bs ts rest x = ap (λ (r : Outcome (List Stmt)). and_then r (λ bs. pure (s.Block p bs))) x

pub local_reads : (d : ℕ) (stmt : Parser Stmt) (a : Decl) (ts rest : Tokens) → opening_at ts ≡ opening.Local → (qualifiers d >>= local_from d) ts ≡ Ok (a, rest) → statement_whole d stmt ts ≡ Ok (s.Decl a, rest)
local_reads d stmt a ts rest h x = ap (λ (o : Opening). statement_as d stmt o ts) h ∙ ap (λ (r : Outcome Decl). and_then r (λ x. pure (s.Decl x))) x

pub phrase_reads : (d : ℕ) (stmt : Parser Stmt) (i : ForInit) (ts rest : Tokens) → opening_at ts ≡ opening.Phrase → phrase d ts ≡ Ok (i, rest) → statement_whole d stmt ts ≡ Ok (stmt_of i, rest)
phrase_reads d stmt i ts rest h x = ap (λ (o : Opening). statement_as d stmt o ts) h ∙ ap (λ (r : Outcome ForInit). and_then r (λ i. pure (stmt_of i))) x

pub if_reads : (d : ℕ) (stmt : Parser Stmt) (p : Place) (a : Expr) (b : Stmt) (ts us vs : Tokens) → condition d ts ≡ Ok (a, us) → stmt us ≡ Ok (b, vs) → statement_whole d stmt (word p key.If ∷ ts) ≡ alternative d stmt p a b vs
unfolding opening_at
if_reads d stmt p a b ts us vs x y =
    ap (λ (r : Outcome Expr). and_then r (λ a. stmt >>= λ b. alternative d stmt p a b)) x ∙ ap (λ (r : Outcome Stmt). and_then r (λ b. alternative d stmt p a b)) y

pub alone_reads : (d : ℕ) (stmt : Parser Stmt) (p : Place) (a : Expr) (b : Stmt) (ts : Tokens) → sees_key key.Else ts ≡ false → alternative d stmt p a b ts ≡ Ok (s.If p a b, ts)
unfolding alternative
alone_reads d stmt p a b ts h = rw h refl

pub else_reads : (d : ℕ) (stmt : Parser Stmt) (p m : Place) (a : Expr) (b c : Stmt) (ts rest : Tokens) → stmt ts ≡ Ok (c, rest) → alternative d stmt p a b (word m key.Else ∷ ts) ≡ Ok (s.IfElse p a b c, rest)
unfolding alternative sees_key
else_reads d stmt p m a b c ts rest x = ap (λ (r : Outcome Stmt). and_then r (λ c. pure (s.IfElse p a b c))) x

pub switch_reads : (d : ℕ) (stmt : Parser Stmt) (p m : Place) (a : Expr) (bs : List Stmt) (ts us rest : Tokens) → condition d ts ≡ Ok (a, sign m punct.LeftBrace ∷ us) → statements_of stmt us ≡ Ok (bs, rest)
    → statement_whole d stmt (word p key.Switch ∷ ts) ≡ Ok (s.Switch p a bs, rest)
unfolding opening_at expect sees
switch_reads d stmt p m a bs ts us rest x y =
    ap (λ (r : Outcome Expr). and_then r (λ a. expect punct.LeftBrace >>= λ _. statements_of stmt >>= λ bs. pure (s.Switch p a bs))) x
    ∙ ap (λ (r : Outcome (List Stmt)). and_then r (λ bs. pure (s.Switch p a bs))) y

pub case_reads : (d : ℕ) (stmt : Parser Stmt) (p q : Place) (a : Expr) (ts rest : Tokens) → expr d 2 ts ≡ Ok (a, sign q punct.Colon ∷ rest) → statement_whole d stmt (word p key.Case ∷ ts) ≡ Ok (s.Case p a, rest)
unfolding opening_at expect sees
case_reads d stmt p q a ts rest x = ap (λ (r : Outcome Expr). and_then r (λ a. expect punct.Colon >>= λ _. pure (s.Case p a))) x

pub default_reads : (d : ℕ) (stmt : Parser Stmt) (p q : Place) (rest : Tokens) → statement_whole d stmt (word p key.Default ∷ (sign q punct.Colon ∷ rest)) ≡ Ok (s.Default p, rest)
unfolding opening_at expect sees
default_reads d stmt p q rest = refl

pub while_reads : (d : ℕ) (stmt : Parser Stmt) (p : Place) (a : Expr) (b : Stmt) (ts us rest : Tokens) → condition d ts ≡ Ok (a, us) → stmt us ≡ Ok (b, rest) → statement_whole d stmt (word p key.While ∷ ts) ≡ Ok (s.While p a b, rest)
unfolding opening_at
while_reads d stmt p a b ts us rest x y =
    ap (λ (r : Outcome Expr). and_then r (λ a. stmt >>= λ b. pure (s.While p a b))) x ∙ ap (λ (r : Outcome Stmt). and_then r (λ b. pure (s.While p a b))) y

pub do_reads : (d : ℕ) (stmt : Parser Stmt) (p w q : Place) (a : Expr) (b : Stmt) (ts us rest : Tokens) → stmt ts ≡ Ok (b, word w key.While ∷ us) → condition d us ≡ Ok (a, sign q punct.Semicolon ∷ rest)
    → statement_whole d stmt (word p key.Do ∷ ts) ≡ Ok (s.Do p b a, rest)
unfolding opening_at expect_key sees_key expect sees
do_reads d stmt p w q a b ts us rest x y =
    ap (λ (r : Outcome Stmt). and_then r (λ b. expect_key key.While >>= λ _. condition d >>= λ a. expect punct.Semicolon >>= λ _. pure (s.Do p b a))) x
    ∙ ap (λ (r : Outcome Expr). and_then r (λ a. expect punct.Semicolon >>= λ _. pure (s.Do p b a))) y

pub for_reads : (d : ℕ) (stmt : Parser Stmt) (p o : Place) (i : ForInit) (a b : Option Expr) (c : Stmt) (ts us vs ws rest : Tokens) → header d ts ≡ Ok (i, us) → optional d punct.Semicolon us ≡ Ok (a, vs) → optional d punct.RightParen vs ≡ Ok (b, ws)
    → stmt ws ≡ Ok (c, rest) → statement_whole d stmt (word p key.For ∷ (sign o punct.LeftParen ∷ ts)) ≡ Ok (s.For p i a b c, rest)
unfolding opening_at expect sees
for_reads d stmt p o i a b c ts us vs ws rest x y z w =
    ap (λ (r : Outcome ForInit). and_then r (λ i. optional d punct.Semicolon >>= λ a. optional d punct.RightParen >>= λ b. stmt >>= λ c. pure (s.For p i a b c))) x
    ∙ ap (λ (r : Outcome (Option Expr)). and_then r (λ a. optional d punct.RightParen >>= λ b. stmt >>= λ c. pure (s.For p i a b c))) y
    ∙ ap (λ (r : Outcome (Option Expr)). and_then r (λ b. stmt >>= λ c. pure (s.For p i a b c))) z
    ∙ ap (λ (r : Outcome Stmt). and_then r (λ c. pure (s.For p i a b c))) w

pub break_reads : (d : ℕ) (stmt : Parser Stmt) (p q : Place) (rest : Tokens) → statement_whole d stmt (word p key.Break ∷ (sign q punct.Semicolon ∷ rest)) ≡ Ok (s.Break p, rest)
unfolding opening_at expect sees
break_reads d stmt p q rest = refl

pub continue_reads : (d : ℕ) (stmt : Parser Stmt) (p q : Place) (rest : Tokens) → statement_whole d stmt (word p key.Continue ∷ (sign q punct.Semicolon ∷ rest)) ≡ Ok (s.Continue p, rest)
unfolding opening_at expect sees
continue_reads d stmt p q rest = refl

pub discard_reads : (d : ℕ) (stmt : Parser Stmt) (p q : Place) (rest : Tokens) → statement_whole d stmt (word p key.Discard ∷ (sign q punct.Semicolon ∷ rest)) ≡ Ok (s.Discard p, rest)
unfolding opening_at expect sees
discard_reads d stmt p q rest = refl

pub return_reads : (d : ℕ) (stmt : Parser Stmt) (p q : Place) (rest : Tokens) → statement_whole d stmt (word p key.Return ∷ (sign q punct.Semicolon ∷ rest)) ≡ Ok (s.Return p, rest)
unfolding opening_at returned sees
return_reads d stmt p q rest = refl

returned_value : (d : ℕ) (p q : Place) (a : Expr) (ts rest : Tokens) → sees punct.Semicolon ts ≡ false → expr d 0 ts ≡ Ok (a, sign q punct.Semicolon ∷ rest) → returned d p ts ≡ Ok (s.ReturnValue p a, rest)
unfolding returned expect
returned_value d p q a ts rest h x =
    rw h (ap (λ (r : Outcome Expr). and_then r (λ a. expect punct.Semicolon >>= λ _. pure (s.ReturnValue p a))) x
    ∙ ap (λ (r : Outcome Place). and_then r (λ _. pure (s.ReturnValue p a))) (expect_is punct.Semicolon q rest (semicolon_seen q rest)))

pub return_value_reads : (d : ℕ) (stmt : Parser Stmt) (p q : Place) (a : Expr) (ts rest : Tokens) → sees punct.Semicolon ts ≡ false → expr d 0 ts ≡ Ok (a, sign q punct.Semicolon ∷ rest)
    → statement_whole d stmt (word p key.Return ∷ ts) ≡ Ok (s.ReturnValue p a, rest)
unfolding opening_at
return_value_reads d stmt p q a ts rest h x = returned_value d p q a ts rest h x
