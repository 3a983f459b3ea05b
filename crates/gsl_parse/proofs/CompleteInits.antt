-- Initialisers and declarators that the grammar derives are read.
use Rattle.std.proofs.Common.{◌≡◌, refl, ap, ◌∙◌, ℕ, zero, suc, ◌≤◌, true, false, List, [], ◌∷◌, ◌++◌, length, Ok, append_assoc, length-append, if◌then◌else◌, arith}
use Rattle.gsl_base.specs.declared.fault.Place.{Place}
use Rattle.gsl_base.specs.declared.token.Punct.{Punct}
use Rattle.gsl_base.specs.declared.token.Punct.TheVariants as punct
use Rattle.gsl_base.specs.declared.token.Kind.TheVariants as kind
use Rattle.gsl_syntax.specs.declared.expr.Expr.{Expr}
use Rattle.gsl_syntax.specs.declared.expr.Dim.{Dim}
use Rattle.gsl_syntax.specs.declared.declaration.Name.{Name}
use Rattle.gsl_syntax.specs.declared.declaration.Init.{Init}
use Rattle.gsl_syntax.specs.declared.declaration.Init.TheVariants as init
use Rattle.gsl_syntax.specs.declared.declaration.Declarator.{Declarator}
use Rattle.gsl_syntax.specs.declared.declaration.Declarator.TheVariants as declarator
use Rattle.gsl_syntax.specs.Phrases.{token, sign, IsDims}
use Rattle.gsl_syntax.specs.Declarations.{name_at, Commas, IsInit, IsInits, IsDeclarator, IsDeclarators}
use Rattle.gsl_syntax.specs.Declarations.IsInit.{plain, braces as in_braces, braces_comma}
use Rattle.gsl_syntax.specs.Declarations.IsInits.{one, more}
use Rattle.gsl_syntax.specs.Declarations.IsDeclarator.{plain as plain_declarator, initialised as with_init}
use Rattle.gsl_syntax.specs.Declarations.IsDeclarators.{none, some}
use Rattle.gsl_expr.specs.Names.{sees_name}
use Rattle.gsl_expr.specs.Reading.{Tokens, Outcome, Parser, and_then, ◌>>=◌, pure, take_one, sees, expect, name as take_name}
use Rattle.gsl_expr.specs.Expressions.{expr, dims}
use Rattle.gsl_expr.proofs.Ends.{Ends, right_brace_ends, comma_ends, bracket_not_name, bracket_not_equal}
use Rattle.gsl_expr.proofs.Openings.{expr_filled}
use Rattle.gsl_expr.proofs.Signs.{index_no_paren}
use Rattle.gsl_expr.proofs.Standing.{regroup}
use Rattle.gsl_expr.proofs.Complete.{expr_complete, dims_complete, expr_not_right_brace, expr_not_left_brace}
use Rattle.gsl_parse.specs.Lists.{further_of, commas_of}
use Rattle.gsl_parse.specs.Variables.{listed, initialisers, initialiser, initialised, declarator_from, declarator_at, declarators}
use Rattle.gsl_parse.proofs.CompleteLists.{Listed, commas_complete}
use Rattle.gsl_parse.proofs.CompleteDeclarations.{Stops, comma_stops, semicolon_stops, semicolon_no_comma}

-- ---- initialisers

init_expr : (d n : ℕ) (a : Expr) (ts rest : Tokens) → sees punct.LeftBrace ts ≡ false → expr d 1 ts ≡ Ok (a, rest) → initialiser d (suc n) ts ≡ Ok (init.Expr a, rest)
unfolding initialiser
init_expr d n a ts rest h x = rw h (ap (λ (r : Outcome Expr). and_then r (λ a. pure (init.Expr a))) x)

init_braces : (d n : ℕ) (p : Place) (bs : List Init) (ts rest : Tokens) → initialisers (initialiser d n) (length ts) [] ts ≡ Ok (bs, rest) → initialiser d (suc n) (sign p punct.LeftBrace ∷ ts) ≡ Ok (init.Braces p bs, rest)
unfolding initialiser sees
init_braces d n p bs ts rest x = ap (λ (r : Outcome (List Init)). and_then r (λ is. pure (init.Braces p is))) x

-- behind one of several
abbrev behind_init : Parser Init → ℕ → List Init → Init → Parser (List Init)
behind_init next n found a ts =
    if sees punct.Comma ts then (take_one >>= λ _. listed (initialisers next n (found ++ a ∷ [])) (found ++ a ∷ [])) ts
    else (expect punct.RightBrace >>= λ _. pure (found ++ a ∷ [])) ts

inits_close : (next : Parser Init) (n : ℕ) (q : Place) (found : List Init) (a : Init) (ts rest : Tokens) → next ts ≡ Ok (a, sign q punct.RightBrace ∷ rest) → initialisers next (suc n) found ts ≡ Ok (found ++ a ∷ [], rest)
unfolding initialisers sees expect
inits_close next n q found a ts rest x = ap (λ (r : Outcome Init). and_then r (behind_init next n found)) x

inits_close_comma : (next : Parser Init) (n : ℕ) (m q : Place) (found : List Init) (a : Init) (ts rest : Tokens) → next ts ≡ Ok (a, sign m punct.Comma ∷ (sign q punct.RightBrace ∷ rest)) → initialisers next (suc n) found ts ≡ Ok (found ++ a ∷ [], rest)
unfolding initialisers sees expect
inits_close_comma next n m q found a ts rest x = ap (λ (r : Outcome Init). and_then r (behind_init next n found)) x

behind_comma : (next : Parser Init) (n : ℕ) (p : Place) (found : List Init) (a : Init) (us : Tokens) → sees punct.RightBrace us ≡ false → behind_init next n found a (sign p punct.Comma ∷ us) ≡ initialisers next n (found ++ a ∷ []) us
unfolding sees
behind_comma next n p found a us h = rw h refl

inits_comma : (next : Parser Init) (n : ℕ) (p : Place) (found : List Init) (a : Init) (ts us : Tokens) → sees punct.RightBrace us ≡ false → next ts ≡ Ok (a, sign p punct.Comma ∷ us) → initialisers next (suc n) found ts ≡ initialisers next n (found ++ a ∷ []) us
unfolding initialisers
inits_comma next n p found a ts us h x = ap (λ (r : Outcome Init). and_then r (behind_init next n found)) x ∙ behind_comma next n p found a us h

-- the brace that closes, with or without a comma before it
data Closing (rest : Tokens) : Tokens → Type 0 where
  brace : (q : Place) → Closing rest (sign q punct.RightBrace ∷ rest)
  comma_brace : (m q : Place) → Closing rest (sign m punct.Comma ∷ (sign q punct.RightBrace ∷ rest))

closing_ends : {rest us : Tokens} → Closing rest us → Ends 1 us
closing_ends {rest = rest} (brace q) = right_brace_ends 1 q rest
closing_ends {rest = rest} (comma_brace m q) = comma_ends 1 m (sign q punct.RightBrace ∷ rest) (omega arith)

closing_filled : {rest us : Tokens} → Closing rest us → 1 ≤ length us
closing_filled (brace q) = omega arith
closing_filled (comma_brace m q) = omega arith

inits_last : {rest us : Tokens} → Closing rest us → (next : Parser Init) (n : ℕ) (found : List Init) (a : Init) (ts : Tokens) → next ts ≡ Ok (a, us) → initialisers next (suc n) found ts ≡ Ok (found ++ a ∷ [], rest)
inits_last {rest = rest} (brace q) next n found a ts x = inits_close next n q found a ts rest x
inits_last {rest = rest} (comma_brace m q) next n found a ts x = inits_close_comma next n m q found a ts rest x

brace_no_brace : (p : Place) (ts : Tokens) → sees punct.RightBrace (sign p punct.LeftBrace ∷ ts) ≡ false
unfolding sees
brace_no_brace p ts = refl

init_no_brace : {a : Init} {xs : Tokens} → IsInit a xs → (rest : Tokens) → sees punct.RightBrace (xs ++ rest) ≡ false
init_no_brace (plain x) rest = expr_not_right_brace x rest
init_no_brace (in_braces {p = p} {xs = xs} q x) rest = brace_no_brace p ((xs ++ sign q punct.RightBrace ∷ []) ++ rest)
init_no_brace (braces_comma {p = p} {xs = xs} m q x) rest = brace_no_brace p ((xs ++ sign m punct.Comma ∷ (sign q punct.RightBrace ∷ [])) ++ rest)

inits_no_brace : {bs : List Init} {xs : Tokens} → IsInits bs xs → (rest : Tokens) → sees punct.RightBrace (xs ++ rest) ≡ false
inits_no_brace (one x) rest = init_no_brace x rest
inits_no_brace (more {xs = xs} {ys = ys} p x y) rest =
    ap (sees punct.RightBrace) (regroup xs (sign p punct.Comma) ys rest) ∙ init_no_brace x (sign p punct.Comma ∷ (ys ++ rest))

mutual
  init_reads : {a : Init} {xs : Tokens} → IsInit a xs → (d n : ℕ) (rest : Tokens) → length (xs ++ rest) ≤ d → length (xs ++ rest) ≤ n → Ends 1 rest → initialiser d n (xs ++ rest) ≡ Ok (a, rest)
  init_reads (plain {a = a} {xs = xs} x) d zero rest fits deep ends = let some = expr_filled x in absurd (omega (arith, length-append xs rest))
  init_reads (plain {a = a} {xs = xs} x) d (suc n) rest fits deep ends = init_expr d n a (xs ++ rest) rest (expr_not_left_brace x rest) (expr_complete x d rest (omega arith) fits ends)
  init_reads (in_braces {p = p} {bs = bs} {xs = xs} q x) d zero rest fits deep ends = absurd (omega arith)
  init_reads (in_braces {p = p} {bs = bs} {xs = xs} q x) d (suc n) rest fits deep ends =
      let us = sign q punct.RightBrace ∷ rest in
      let same : (xs ++ sign q punct.RightBrace ∷ []) ++ rest ≡ xs ++ us = regroup xs (sign q punct.RightBrace) [] rest in
      ap (λ (z : Tokens). initialiser d (suc n) (sign p punct.LeftBrace ∷ z)) same
      ∙ init_braces d n p bs (xs ++ us) rest (inits_reads x (brace q) d n (length (xs ++ us)) [] (omega (arith, ap length same)) (omega (arith, ap length same)) (omega arith))
  init_reads (braces_comma {p = p} {bs = bs} {xs = xs} m q x) d zero rest fits deep ends = absurd (omega arith)
  init_reads (braces_comma {p = p} {bs = bs} {xs = xs} m q x) d (suc n) rest fits deep ends =
      let us = sign m punct.Comma ∷ (sign q punct.RightBrace ∷ rest) in
      let same : (xs ++ sign m punct.Comma ∷ (sign q punct.RightBrace ∷ [])) ++ rest ≡ xs ++ us = regroup xs (sign m punct.Comma) (sign q punct.RightBrace ∷ []) rest in
      ap (λ (z : Tokens). initialiser d (suc n) (sign p punct.LeftBrace ∷ z)) same
      ∙ init_braces d n p bs (xs ++ us) rest (inits_reads x (comma_brace m q) d n (length (xs ++ us)) [] (omega (arith, ap length same)) (omega (arith, ap length same)) (omega arith))

  inits_reads : {bs : List Init} {xs rest us : Tokens} → IsInits bs xs → Closing rest us → (d n fuel : ℕ) (found : List Init) → length (xs ++ us) ≤ d → length (xs ++ us) ≤ n → length (xs ++ us) ≤ fuel
      → initialisers (initialiser d n) fuel found (xs ++ us) ≡ Ok (found ++ bs, rest)
  inits_reads {us = us} (one {xs = xs} x) c d n zero found fits deep most = let some = closing_filled c in absurd (omega (arith, length-append xs us))
  inits_reads {us = us} (one {a = a} {xs = xs} x) c d n (suc f) found fits deep most = inits_last c (initialiser d n) f found a (xs ++ us) (init_reads x d n us fits deep (closing_ends c))
  inits_reads {us = us} (more {xs = xs} {ys = ys} p x y) c d n zero found fits deep most = let some = closing_filled c in absurd (omega (arith, length-append (xs ++ sign p punct.Comma ∷ ys) us))
  inits_reads {rest = rest} {us = us} (more {a = a} {bs = bs} {xs = xs} {ys = ys} p x y) c d n (suc f) found fits deep most =
      let vs = sign p punct.Comma ∷ (ys ++ us) in
      let same : (xs ++ sign p punct.Comma ∷ ys) ++ us ≡ xs ++ vs = regroup xs (sign p punct.Comma) ys us in
      let long = length-append xs vs in
      ap (initialisers (initialiser d n) (suc f) found) same
      ∙ inits_comma (initialiser d n) f p found a (xs ++ vs) (ys ++ us) (inits_no_brace y us)
      (init_reads x d n vs (omega (arith, ap length same)) (omega (arith, ap length same)) (comma_ends 1 p (ys ++ us) (omega arith)))
      ∙ inits_reads y c d n f (found ++ a ∷ []) (omega (arith, ap length same)) (omega (arith, ap length same)) (omega (arith, ap length same))
      ∙ ap (λ (z : List Init). Ok (z, rest)) (append_assoc found (a ∷ []) bs)

pub initialiser_complete : {a : Init} {xs : Tokens} → IsInit a xs → (d : ℕ) (rest : Tokens) → length (xs ++ rest) ≤ d → Ends 1 rest → initialiser d d (xs ++ rest) ≡ Ok (a, rest)
initialiser_complete x d rest fits ends = init_reads x d d rest fits fits ends

-- ---- declarators

initialised_none : (d : ℕ) (n : Name) (ds : List Dim) (rest : Tokens) → sees punct.Equal rest ≡ false → initialised d n ds rest ≡ Ok (declarator.Plain n ds, rest)
initialised_none d n ds rest h = rw h refl

initialised_some : (d : ℕ) (n : Name) (ds : List Dim) (q : Place) (a : Init) (ts rest : Tokens) → initialiser d d ts ≡ Ok (a, rest) → initialised d n ds (sign q punct.Equal ∷ ts) ≡ Ok (declarator.Initialised n ds a, rest)
unfolding sees
initialised_some d n ds q a ts rest x = ap (λ (r : Outcome Init). and_then r (λ i. pure (declarator.Initialised n ds i))) x

declarator_reads : (d : ℕ) (p : Place) (n : List ℕ) (ds : List Dim) (ts us : Tokens) → dims (expr d) ts ≡ Ok (ds, us) → declarator_at d (token p (kind.Name n) ∷ ts) ≡ initialised d (name_at p n) ds us
unfolding declarator_at declarator_from take_name
declarator_reads d p n ds ts us x = ap (λ (r : Outcome (List Dim)). and_then r (initialised d (name_at p n))) x

pub declarator_complete : {a : Declarator} {xs : Tokens} → IsDeclarator a xs → (d : ℕ) (rest : Tokens) → length (xs ++ rest) ≤ d → Stops rest → declarator_at d (xs ++ rest) ≡ Ok (a, rest)
declarator_complete (plain_declarator {p = p} {n = n} {ds = ds} {xs = xs} y) d rest fits stops =
    declarator_reads d p n ds (xs ++ rest) rest (dims_complete y d rest (omega arith) stops.bracket) ∙ initialised_none d (name_at p n) ds rest stops.equal
declarator_complete (with_init {p = p} {n = n} {ds = ds} {i = i} {xs = xs} {ys = ys} q y z) d rest fits stops =
    let us = sign q punct.Equal ∷ (ys ++ rest) in
    let same : (xs ++ sign q punct.Equal ∷ ys) ++ rest ≡ xs ++ us = regroup xs (sign q punct.Equal) ys rest in
    let long = length-append xs us in
    ap (λ (z : Tokens). declarator_at d (token p (kind.Name n) ∷ z)) same
    ∙ declarator_reads d p n ds (xs ++ us) us (dims_complete y d us (omega (arith, ap length same)) (bracket_not_equal q (ys ++ rest)))
    ∙ initialised_some d (name_at p n) ds q i (ys ++ rest) rest (initialiser_complete z d rest (omega (arith, ap length same)) stops.ends)

pub declarator_filled : {a : Declarator} {xs : Tokens} → IsDeclarator a xs → 1 ≤ length xs
declarator_filled (plain_declarator y) = omega arith
declarator_filled (with_init q y z) = omega arith

several : (d : ℕ) → Listed IsDeclarator (declarator_at d) d Stops
several d = record { reads = λ a xs rest x fits stops. declarator_complete x d rest fits stops; filled = λ a xs x. declarator_filled x; comma = comma_stops }

-- one or more declarators before a semicolon
pub commas_of_declarators : {ds : List Declarator} {xs : Tokens} → Commas IsDeclarator ds xs → (d : ℕ) (p : Place) (rest : Tokens) → length (xs ++ sign p punct.Semicolon ∷ rest) ≤ d
    → commas_of (declarator_at d) (xs ++ sign p punct.Semicolon ∷ rest) ≡ Ok (ds, sign p punct.Semicolon ∷ rest)
commas_of_declarators x d p rest fits = commas_complete (several d) x (sign p punct.Semicolon ∷ rest) fits (semicolon_stops p rest) (semicolon_no_comma p rest)

-- behind the first name
pub behind_name : (d : ℕ) (p : Place) (n : List ℕ) (ts : Tokens) → commas_of (declarator_at d) (token p (kind.Name n) ∷ ts) ≡ (declarator_from d (name_at p n) >>= further_of (declarator_at d)) ts
unfolding declarator_at take_name
behind_name d p n ts = refl

-- a bracket is no other sign
pub dims_no_sign : {ds : List Dim} {xs : Tokens} → IsDims ds xs → (m : Punct) (rest : Tokens) → ((p : Place) (ts : Tokens) → sees m (sign p punct.LeftBracket ∷ ts) ≡ false) → sees m rest ≡ false → sees m (xs ++ rest) ≡ false
dims_no_sign IsDims.no_dims m rest apart h = h
dims_no_sign (IsDims.open_pair {p = p} {ys = ys} q y) m rest apart h = apart p ((sign q punct.RightBracket ∷ ys) ++ rest)
dims_no_sign (IsDims.sized {p = p} {xs = xs} {ys = ys} q x y) m rest apart h = apart p ((xs ++ sign q punct.RightBracket ∷ ys) ++ rest)

equal_no_paren : (p : Place) (ts : Tokens) → sees punct.LeftParen (sign p punct.Equal ∷ ts) ≡ false
unfolding sees
equal_no_paren p ts = refl

-- How declarators begin: with a name, and no parenthesis behind it.
pub record Named (xs : Tokens) : Type 0 where
  pub place : Place
  pub text : List ℕ
  pub behind : Tokens
  pub tokens : xs ≡ token place (kind.Name text) ∷ behind
  pub no_paren : (rest : Tokens) → sees punct.LeftParen rest ≡ false → sees punct.LeftParen (behind ++ rest) ≡ false

declarator_named : {a : Declarator} {xs : Tokens} → IsDeclarator a xs → Named xs
declarator_named (plain_declarator {p = p} {n = n} {xs = xs} y) =
    record { place = p; text = n; behind = xs; tokens = refl; no_paren = λ rest h. dims_no_sign y punct.LeftParen rest index_no_paren h }
declarator_named (with_init {p = p} {n = n} {xs = xs} {ys = ys} q y z) = record {
  place = p;
  text = n;
  behind = xs ++ sign q punct.Equal ∷ ys;
  tokens = refl;
  no_paren = λ rest h. ap (sees punct.LeftParen) (regroup xs (sign q punct.Equal) ys rest)
      ∙ dims_no_sign y punct.LeftParen (sign q punct.Equal ∷ (ys ++ rest)) index_no_paren (equal_no_paren q (ys ++ rest));
}

pub declarators_named : {ds : List Declarator} {xs : Tokens} → Commas IsDeclarator ds xs → Named xs
declarators_named (Commas.one x) = declarator_named x
declarators_named (Commas.more {ys = ys} q x y) =
    let w = declarator_named x in
    record {
      place = w.place;
      text = w.text;
      behind = w.behind ++ sign q punct.Comma ∷ ys;
      tokens = ap (λ (z : Tokens). z ++ sign q punct.Comma ∷ ys) w.tokens;
      no_paren = λ rest h. ap (sees punct.LeftParen) (regroup w.behind (sign q punct.Comma) ys rest) ∙ w.no_paren (sign q punct.Comma ∷ (ys ++ rest)) (let c = comma_ends 1 q (ys ++ rest) (omega arith) in c.paren);
    }

name_no_semicolon : (p : Place) (n : List ℕ) (ts : Tokens) → sees punct.Semicolon (token p (kind.Name n) ∷ ts) ≡ false
unfolding sees
name_no_semicolon p n ts = refl

name_seen : (p : Place) (n : List ℕ) (ts : Tokens) → sees_name (token p (kind.Name n) ∷ ts) ≡ true
unfolding sees_name
name_seen p n ts = refl

pub declarators_no_bracket : {ds : List Declarator} {xs : Tokens} → Commas IsDeclarator ds xs → (rest : Tokens) → sees punct.LeftBracket (xs ++ rest) ≡ false
declarators_no_bracket x rest = let w = declarators_named x in ap (λ (z : Tokens). sees punct.LeftBracket (z ++ rest)) w.tokens ∙ bracket_not_name w.place w.text (w.behind ++ rest)

pub declarators_no_semicolon : {ds : List Declarator} {xs : Tokens} → Commas IsDeclarator ds xs → (rest : Tokens) → sees punct.Semicolon (xs ++ rest) ≡ false
declarators_no_semicolon x rest = let w = declarators_named x in ap (λ (z : Tokens). sees punct.Semicolon (z ++ rest)) w.tokens ∙ name_no_semicolon w.place w.text (w.behind ++ rest)

pub declarators_seen : {ds : List Declarator} {xs : Tokens} → Commas IsDeclarator ds xs → (rest : Tokens) → sees_name (xs ++ rest) ≡ true
declarators_seen x rest = let w = declarators_named x in ap (λ (z : Tokens). sees_name (z ++ rest)) w.tokens ∙ name_seen w.place w.text (w.behind ++ rest)

declarators_none : (d : ℕ) (p : Place) (rest : Tokens) → declarators d (sign p punct.Semicolon ∷ rest) ≡ Ok ([], sign p punct.Semicolon ∷ rest)
unfolding declarators sees
declarators_none d p rest = refl

declarators_some : (d : ℕ) (ts : Tokens) → sees punct.Semicolon ts ≡ false → declarators d ts ≡ commas_of (declarator_at d) ts
unfolding declarators
declarators_some d ts h = rw h refl

-- any number before a semicolon
pub declarators_complete : {ds : List Declarator} {xs : Tokens} → IsDeclarators ds xs → (d : ℕ) (p : Place) (rest : Tokens) → length (xs ++ sign p punct.Semicolon ∷ rest) ≤ d
    → declarators d (xs ++ sign p punct.Semicolon ∷ rest) ≡ Ok (ds, sign p punct.Semicolon ∷ rest)
declarators_complete none d p rest fits = declarators_none d p rest
declarators_complete (some {xs = xs} x) d p rest fits =
    declarators_some d (xs ++ sign p punct.Semicolon ∷ rest) (declarators_no_semicolon x (sign p punct.Semicolon ∷ rest)) ∙ commas_of_declarators x d p rest fits
