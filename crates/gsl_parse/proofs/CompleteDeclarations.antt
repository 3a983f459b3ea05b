-- Qualifiers, types and declared names that the grammar derives are read.
use Rattle.std.proofs.Common.{◌≡◌, refl, ap, ◌∙◌, ℕ, ◌≤◌, false, List, [], ◌∷◌, ◌++◌, length, Option, Some, Ok, arith}
use Rattle.gsl_base.specs.declared.fault.Place.{Place}
use Rattle.gsl_base.specs.declared.token.Punct.TheVariants as punct
use Rattle.gsl_base.specs.declared.token.Key.{Key}
use Rattle.gsl_base.specs.declared.token.Key.TheVariants as key
use Rattle.gsl_base.specs.declared.token.Kind.TheVariants as kind
use Rattle.gsl_syntax.specs.declared.expr.Basic.{Basic}
use Rattle.gsl_syntax.specs.declared.expr.Expr.{Expr}
use Rattle.gsl_syntax.specs.declared.expr.Dim.{Dim}
use Rattle.gsl_syntax.specs.declared.expr.TypeSpec.{TypeSpec}
use Rattle.gsl_syntax.specs.declared.expr.TypeSpec.TheVariants as ty
use Rattle.gsl_syntax.specs.declared.declaration.Qual.{Qual}
use Rattle.gsl_syntax.specs.declared.declaration.Qual.TheVariants as qual
use Rattle.gsl_syntax.specs.declared.declaration.Lay.{Lay}
use Rattle.gsl_syntax.specs.declared.declaration.Lay.TheVariants as lay
use Rattle.gsl_syntax.specs.declared.declaration.Declared.{Declared}
use Rattle.gsl_syntax.specs.Operators.{basic_of}
use Rattle.gsl_syntax.specs.Phrases.{token, sign, word, IsType}
use Rattle.gsl_syntax.specs.Phrases.IsType.{basic, named}
use Rattle.gsl_syntax.specs.Declarations.{qual_of, name_at, Commas, Row, IsLay, IsQual, IsDeclared}
use Rattle.gsl_syntax.specs.Declarations.IsLay.{flag, value}
use Rattle.gsl_syntax.specs.Declarations.IsQual.{plain, layout}
use Rattle.gsl_syntax.specs.Declarations.IsDeclared.{declared as declared_is}
use Rattle.gsl_expr.specs.declared.rule.Start.{Start}
use Rattle.gsl_expr.specs.declared.rule.Head.{Head}
use Rattle.gsl_expr.specs.Rules.{start_at}
use Rattle.gsl_expr.specs.Names.{sees_name}
use Rattle.gsl_expr.specs.Reading.{Tokens, Outcome, and_then, ◌>>=◌, pure, is_key, sees, sees_key, expect, name as take_name}
use Rattle.gsl_expr.specs.Expressions.{expr, dims, head_type}
use Rattle.gsl_expr.proofs.Ends.{Ends, ends_too, bracket_not_name, right_paren_ends, semicolon_ends, comma_ends}
use Rattle.gsl_expr.proofs.Openings.{basic_starts}
use Rattle.gsl_expr.proofs.Pieces.{basic_reads}
use Rattle.gsl_expr.proofs.Standing.{regroup}
use Rattle.gsl_expr.proofs.Complete.{expr_complete, dims_complete}
use Rattle.gsl_parse.specs.Lists.{commas_of}
use Rattle.gsl_parse.specs.Qualifiers.{plain_at, begins_qual, lay_item, plain as plain_as, qualifier, qualifiers, type_as, typed}
use Rattle.gsl_parse.specs.Variables.{declared}
use Rattle.gsl_parse.proofs.CompleteBegins.{qual_begins, qual_filled}
use Rattle.gsl_parse.proofs.CompleteLists.{Listed, Rowed, row_complete, commas_complete}

-- What may stand behind an item: nothing that goes on with it.
pub record Stops (rest : Tokens) : Type 0 where
  pub ends : Ends 1 rest
  pub bracket : sees punct.LeftBracket rest ≡ false
  pub equal : sees punct.Equal rest ≡ false
  pub nameless : sees_name rest ≡ false

pub comma_stops : (p : Place) (rest : Tokens) → Stops (sign p punct.Comma ∷ rest)
unfolding sees sees_name
comma_stops p rest = record { ends = comma_ends 1 p rest (omega arith); bracket = refl; equal = refl; nameless = refl }

pub semicolon_stops : (p : Place) (rest : Tokens) → Stops (sign p punct.Semicolon ∷ rest)
unfolding sees sees_name
semicolon_stops p rest = record { ends = semicolon_ends 1 p rest; bracket = refl; equal = refl; nameless = refl }

pub right_paren_stops : (p : Place) (rest : Tokens) → Stops (sign p punct.RightParen ∷ rest)
unfolding sees sees_name
right_paren_stops p rest = record { ends = right_paren_ends 1 p rest; bracket = refl; equal = refl; nameless = refl }

pub semicolon_no_comma : (p : Place) (rest : Tokens) → sees punct.Comma (sign p punct.Semicolon ∷ rest) ≡ false
unfolding sees
semicolon_no_comma p rest = refl

pub right_paren_no_comma : (p : Place) (rest : Tokens) → sees punct.Comma (sign p punct.RightParen ∷ rest) ≡ false
unfolding sees
right_paren_no_comma p rest = refl

-- ---- qualifiers

lay_flag : (d : ℕ) (p : Place) (n : List ℕ) (rest : Tokens) → sees punct.Equal rest ≡ false → lay_item d (token p (kind.Name n) ∷ rest) ≡ Ok (lay.Flag (name_at p n), rest)
unfolding lay_item take_name
lay_flag d p n rest h = rw h refl

lay_value : (d : ℕ) (p q : Place) (n : List ℕ) (a : Expr) (ts rest : Tokens) → expr d 2 ts ≡ Ok (a, rest) → lay_item d (token p (kind.Name n) ∷ (sign q punct.Equal ∷ ts)) ≡ Ok (lay.Value (name_at p n) a, rest)
unfolding lay_item take_name sees
lay_value d p q n a ts rest x = ap (λ (r : Outcome Expr). and_then r (λ a. pure (lay.Value (name_at p n) a))) x

lay_complete : {l : Lay} {xs : Tokens} → IsLay l xs → (d : ℕ) (rest : Tokens) → length (xs ++ rest) ≤ d → Stops rest → lay_item d (xs ++ rest) ≡ Ok (l, rest)
lay_complete (flag {p = p} {n = n}) d rest fits stops = lay_flag d p n rest stops.equal
lay_complete (value {p = p} {n = n} {a = a} {xs = xs} q x) d rest fits stops = lay_value d p q n a (xs ++ rest) rest (expr_complete x d rest (omega arith) (omega arith) (ends_too (omega arith) stops.ends))

lay_filled : {l : Lay} {xs : Tokens} → IsLay l xs → 1 ≤ length xs
lay_filled flag = omega arith
lay_filled (value q x) = omega arith

lays : (d : ℕ) → Listed IsLay (lay_item d) d Stops
lays d = record { reads = λ a xs rest x fits stops. lay_complete x d rest fits stops; filled = λ a xs x. lay_filled x; comma = comma_stops }

no_layout : (p : Place) (w : Key) (q : Qual) → qual_of w p ≡ Some q → is_key key.Layout (kind.Key w) ≡ false
no_layout p key.Layout q h = absurd cc
no_layout p w q h = refl

no_layout_at : (p : Place) (w : Key) (q : Qual) (rest : Tokens) → qual_of w p ≡ Some q → sees_key key.Layout (word p w ∷ rest) ≡ false
unfolding sees_key
no_layout_at p w q rest h = no_layout p w q h

plain_reads : (d : ℕ) (p : Place) (w : Key) (q : Qual) (rest : Tokens) → qual_of w p ≡ Some q → qualifier d (word p w ∷ rest) ≡ Ok (q, rest)
unfolding qualifier plain_at
plain_reads d p w q rest h = rw (no_layout_at p w q rest h) (ap (λ (o : Option Qual). plain_as o (word p w ∷ rest)) h)

layout_reads : (d : ℕ) (p o c : Place) (ls : List Lay) (ts rest : Tokens) → commas_of (lay_item d) ts ≡ Ok (ls, sign c punct.RightParen ∷ rest) → qualifier d (word p key.Layout ∷ (sign o punct.LeftParen ∷ ts)) ≡ Ok (qual.Layout p ls, rest)
unfolding qualifier sees_key expect sees
layout_reads d p o c ls ts rest x = ap (λ (r : Outcome (List Lay)). and_then r (λ ls. expect punct.RightParen >>= λ _. pure (qual.Layout p ls))) x

pub qualifier_complete : {q : Qual} {xs : Tokens} → IsQual q xs → (d : ℕ) (rest : Tokens) → length (xs ++ rest) ≤ d → qualifier d (xs ++ rest) ≡ Ok (q, rest)
qualifier_complete (plain {q = q} p w is) d rest fits = plain_reads d p w q rest is
qualifier_complete (layout {p = p} {ls = ls} {xs = xs} o c x) d rest fits =
    let us = sign c punct.RightParen ∷ rest in
    let same : (xs ++ sign c punct.RightParen ∷ []) ++ rest ≡ xs ++ us = regroup xs (sign c punct.RightParen) [] rest in
    ap (λ (z : Tokens). qualifier d (word p key.Layout ∷ (sign o punct.LeftParen ∷ z))) same
    ∙ layout_reads d p o c ls (xs ++ us) rest (commas_complete (lays d) x us (omega (arith, ap length same)) (right_paren_stops c rest) (right_paren_no_comma c rest))

quals : (d : ℕ) → Rowed IsQual begins_qual (qualifier d) d
quals d = record { reads = λ q xs rest x fits. qualifier_complete x d rest fits; filled = λ q xs x. qual_filled x; start = λ q xs rest x. qual_begins x rest }

pub qualifiers_complete : {qs : List Qual} {xs : Tokens} → Row IsQual qs xs → (d : ℕ) (rest : Tokens) → length (xs ++ rest) ≤ d → begins_qual rest ≡ false → qualifiers d (xs ++ rest) ≡ Ok (qs, rest)
qualifiers_complete x d rest fits stop = row_complete (quals d) x rest fits stop

-- ---- types and declared names

named_reads : (d : ℕ) (p : Place) (n : List ℕ) (ds : List Dim) (ts rest : Tokens) → dims (expr d) ts ≡ Ok (ds, rest) → typed d (token p (kind.Name n) ∷ ts) ≡ Ok (ty.Named p n ds, rest)
unfolding typed start_at take_name
named_reads d p n ds ts rest x = ap (λ (r : Outcome (List Dim)). and_then r (λ ds. pure (ty.Named p n ds))) x

keyword_reads : (d : ℕ) (p : Place) (w : Key) (b : Basic) (ds : List Dim) (ts rest : Tokens) → basic_of w ≡ Some b → dims (expr d) ts ≡ Ok (ds, rest) → typed d (word p w ∷ ts) ≡ Ok (ty.Basic p b ds, rest)
unfolding typed
keyword_reads d p w b ds ts rest is x =
    ap (λ (s : Start). type_as d s (word p w ∷ ts)) (basic_starts p w b ts is)
    ∙ ap (λ (r : Outcome Head). and_then r (λ h. pure (head_type h))) (basic_reads (expr d) b p w ds ts rest x)

pub typed_complete : {t : TypeSpec} {xs : Tokens} → IsType t xs → (d : ℕ) (rest : Tokens) → length (xs ++ rest) ≤ d → sees punct.LeftBracket rest ≡ false → typed d (xs ++ rest) ≡ Ok (t, rest)
typed_complete (basic {p = p} {b = b} {ds = ds} {xs = xs} w is y) d rest fits apart = keyword_reads d p w b ds (xs ++ rest) rest is (dims_complete y d rest (omega arith) apart)
typed_complete (named {p = p} {n = n} {ds = ds} {xs = xs} y) d rest fits apart = named_reads d p n ds (xs ++ rest) rest (dims_complete y d rest (omega arith) apart)

declared_reads : (d : ℕ) (p : Place) (n : List ℕ) (ds : List Dim) (ts rest : Tokens) → dims (expr d) ts ≡ Ok (ds, rest) → declared d (token p (kind.Name n) ∷ ts) ≡ Ok (record { name = name_at p n; dims = ds }, rest)
unfolding declared take_name
declared_reads d p n ds ts rest x = ap (λ (r : Outcome (List Dim)). and_then r (λ ds. pure (let a : Declared = record { name = name_at p n; dims = ds } in a))) x

pub declared_complete : {a : Declared} {xs : Tokens} → IsDeclared a xs → (d : ℕ) (rest : Tokens) → length (xs ++ rest) ≤ d → sees punct.LeftBracket rest ≡ false → declared d (xs ++ rest) ≡ Ok (a, rest)
declared_complete (declared_is {p = p} {n = n} {ds = ds} {xs = xs} y) d rest fits apart = declared_reads d p n ds (xs ++ rest) rest (dims_complete y d rest (omega arith) apart)

declared_filled : {a : Declared} {xs : Tokens} → IsDeclared a xs → 1 ≤ length xs
declared_filled (declared_is y) = omega arith

names : (d : ℕ) → Listed IsDeclared (declared d) d Stops
names d = record { reads = λ a xs rest x fits stops. declared_complete x d rest fits stops.bracket; filled = λ a xs x. declared_filled x; comma = comma_stops }

-- declared names, and the semicolon behind them
pub names_complete : {ns : List Declared} {xs : Tokens} → Commas IsDeclared ns xs → (d : ℕ) (p : Place) (rest : Tokens) → length (xs ++ sign p punct.Semicolon ∷ rest) ≤ d
    → commas_of (declared d) (xs ++ sign p punct.Semicolon ∷ rest) ≡ Ok (ns, sign p punct.Semicolon ∷ rest)
names_complete x d p rest fits = commas_complete (names d) x (sign p punct.Semicolon ∷ rest) fits (semicolon_stops p rest) (semicolon_no_comma p rest)

-- no bracket stands first in declared names
pub names_no_bracket : {ns : List Declared} {xs : Tokens} → Commas IsDeclared ns xs → (rest : Tokens) → sees punct.LeftBracket (xs ++ rest) ≡ false
names_no_bracket (Commas.one (declared_is {p = p} {n = n} {xs = xs} y)) rest = bracket_not_name p n (xs ++ rest)
names_no_bracket (Commas.more {ys = ys} q (declared_is {p = p} {n = n} {xs = xs} y) z) rest = bracket_not_name p n ((xs ++ sign q punct.Comma ∷ ys) ++ rest)
