-- What a statement or the header of a `for` begins with is read: an expression, or variables.
use Rattle.std.proofs.Common.{◌≡◌, refl, ap, ◌∙◌, ◌⊎◌, inl, inr, ℕ, ◌≤◌, true, false, List, [], ◌∷◌, ◌++◌, length, Ok, append_assoc, length-append, arith}
use Rattle.gsl_base.specs.declared.fault.Place.{Place}
use Rattle.gsl_base.specs.declared.token.Punct.TheVariants as punct
use Rattle.gsl_syntax.specs.declared.expr.Basic.{Basic}
use Rattle.gsl_syntax.specs.declared.expr.Expr.{Expr}
use Rattle.gsl_syntax.specs.declared.expr.TypeSpec.{TypeSpec}
use Rattle.gsl_syntax.specs.declared.declaration.Qual.{Qual}
use Rattle.gsl_syntax.specs.declared.declaration.Declarator.{Declarator}
use Rattle.gsl_syntax.specs.declared.declaration.Decl.{Decl}
use Rattle.gsl_syntax.specs.declared.declaration.Decl.TheVariants as decl
use Rattle.gsl_syntax.specs.declared.statement.ForInit.{ForInit}
use Rattle.gsl_syntax.specs.declared.statement.ForInit.TheVariants as for_init
use Rattle.gsl_syntax.specs.Phrases.{sign, IsExpr, IsType}
use Rattle.gsl_syntax.specs.Declarations.{Commas, Row, IsQual, IsDeclarator}
use Rattle.gsl_syntax.specs.Declarations.Row.{done, next}
use Rattle.gsl_syntax.specs.Declarations.IsVariables.{variables as variables_is}
use Rattle.gsl_syntax.specs.Statements.{IsForInit}
use Rattle.gsl_syntax.specs.Statements.IsForInit.{empty, expr as expr_first, decl as decl_first}
use Rattle.gsl_expr.specs.declared.rule.Start.{Start}
use Rattle.gsl_expr.specs.declared.rule.Start.TheVariants as start
use Rattle.gsl_expr.specs.declared.rule.Head.{Head}
use Rattle.gsl_expr.specs.Rules.{start_at}
use Rattle.gsl_expr.specs.Names.{sees_name}
use Rattle.gsl_expr.specs.Reading.{Tokens, Outcome, Parser, and_then, ◌>>=◌, pure, sees, expect}
use Rattle.gsl_expr.specs.Expressions.{expr, named_head, basic_head, head_type, may_be_open}
use Rattle.gsl_expr.proofs.Ends.{Heads, semicolon_ends}
use Rattle.gsl_expr.proofs.Openings.{is_good, not_semicolon}
use Rattle.gsl_expr.proofs.Standing.{regroup_behind}
use Rattle.gsl_expr.proofs.Complete.{expr_complete, type_complete, expr_start}
use Rattle.gsl_expr.proofs.Halves.{Halved, name_halves, basic_halves}
use Rattle.gsl_parse.specs.Qualifiers.{begins_qual, qualifiers}
use Rattle.gsl_parse.specs.Variables.{variables_of, variables, expr_from, phrase_from, phrase_as, phrase, header}
use Rattle.gsl_parse.proofs.CompleteBegins.{good_no_qual, type_good, qual_begins, qual_no_sign}
use Rattle.gsl_parse.proofs.CompleteDeclarations.{semicolon_stops, qualifiers_complete}
use Rattle.gsl_parse.proofs.CompleteInits.{commas_of_declarators, declarators_no_bracket, declarators_seen}
use Rattle.gsl_parse.proofs.CompleteLocals.{end_three, variables_of_reads, variables_complete}

-- ---- variables

from_variables : (d : ℕ) (h : Head) (ts : Tokens) → sees_name ts ≡ true → may_be_open h.mode ≡ true → phrase_from d h ts ≡ and_then (variables_of d [] (head_type h) ts) (λ x. pure (for_init.Decl x))
unfolding phrase_from
from_variables d h ts seen may = rw seen (rw may refl)

from_head : (d : ℕ) (h : Head) (t : TypeSpec) (a : Decl) (ts rest : Tokens) → sees_name ts ≡ true → may_be_open h.mode ≡ true → head_type h ≡ t → variables_of d [] t ts ≡ Ok (a, rest) → phrase_from d h ts ≡ Ok (for_init.Decl a, rest)
from_head d h t a ts rest seen may is x =
    from_variables d h ts seen may
    ∙ ap (λ (z : TypeSpec). and_then (variables_of d [] z ts) (λ x. pure (for_init.Decl x))) is
    ∙ ap (λ (r : Outcome Decl). and_then r (λ x. pure (for_init.Decl x))) x

by_head : (d : ℕ) (t : TypeSpec) (ts us : Tokens) (i : ForInit) (rest : Tokens) → (h : Heads d t ts us) → phrase_from d h.head us ≡ Ok (i, rest) → phrase d ts ≡ Ok (i, rest)
unfolding phrase
by_head d t ts us i rest h x = go h.reads
  where
    go : ((start_at ts ≡ start.Name) × (named_head (expr d) ts ≡ Ok (h.head, us))) ⊎ ((b : Basic) × (start_at ts ≡ start.Basic b) × (basic_head (expr d) b ts ≡ Ok (h.head, us))) → phrase_as d (start_at ts) ts ≡ Ok (i, rest)
    go (inl r) = ap (λ (s : Start). phrase_as d s ts) r.0 ∙ ap (λ (z : Outcome Head). and_then z (phrase_from d)) r.1 ∙ x
    go (inr r) = ap (λ (s : Start). phrase_as d s ts) r.1 ∙ ap (λ (z : Outcome Head). and_then z (phrase_from d)) r.2 ∙ x

pub phrase_variables : {t : TypeSpec} {ds : List Declarator} {ys zs : Tokens} → IsType t ys → Commas IsDeclarator ds zs → (d : ℕ) (q : Place) (rest : Tokens) → length (ys ++ (zs ++ sign q punct.Semicolon ∷ rest)) ≤ d
    → phrase d (ys ++ (zs ++ sign q punct.Semicolon ∷ rest)) ≡ Ok (for_init.Decl (decl.Variables [] t ds), rest)
phrase_variables {t = t} {ds = ds} {ys = ys} {zs = zs} x y d q rest fits =
    let us = zs ++ sign q punct.Semicolon ∷ rest in
    let long = length-append ys us in
    let h = type_complete x d us fits (declarators_no_bracket y (sign q punct.Semicolon ∷ rest)) in
    by_head d t (ys ++ us) us (for_init.Decl (decl.Variables [] t ds)) rest h
    (from_head d h.head t (decl.Variables [] t ds) us rest (declarators_seen y (sign q punct.Semicolon ∷ rest)) h.may_open h.type_is
    (variables_of_reads d [] t ds q us rest (commas_of_declarators y d q rest (omega arith))))

-- ---- expressions

abbrev ended : Expr → Parser ForInit
ended a = expect punct.Semicolon >>= λ _. pure (for_init.Expr a)

ended_is : (a : Expr) (q : Place) (rest : Tokens) → ended a (sign q punct.Semicolon ∷ rest) ≡ Ok (for_init.Expr a, rest)
unfolding expect sees
ended_is a q rest = refl

from_expr : (d : ℕ) (h : Head) (ts : Tokens) → sees_name ts ≡ false → phrase_from d h ts ≡ expr_from d h ts
unfolding phrase_from
from_expr d h ts none = rw none refl

from_half : (d : ℕ) (a : Expr) (q : Place) (rest : Tokens) (r : Outcome Head) → Halved d a (sign q punct.Semicolon ∷ rest) r → and_then r (phrase_from d) ≡ Ok (for_init.Expr a, rest)
from_half d a q rest r h =
    ap (λ (z : Outcome Head). and_then z (phrase_from d)) h.begins
    ∙ from_expr d h.head h.behind h.nameless
    ∙ ap (λ (z : Outcome Expr). and_then z ended) h.goes_on
    ∙ ended_is a q rest

whole_expr : (d : ℕ) (a : Expr) (q : Place) (ts rest : Tokens) → expr d 0 ts ≡ Ok (a, sign q punct.Semicolon ∷ rest) → and_then (expr d 0 ts) ended ≡ Ok (for_init.Expr a, rest)
whole_expr d a q ts rest x = ap (λ (z : Outcome Expr). and_then z ended) x ∙ ended_is a q rest

pub phrase_expr : {a : Expr} {xs : Tokens} → IsExpr 0 a xs → (d : ℕ) (q : Place) (rest : Tokens) → length (xs ++ sign q punct.Semicolon ∷ rest) ≤ d → phrase d (xs ++ sign q punct.Semicolon ∷ rest) ≡ Ok (for_init.Expr a, rest)
unfolding phrase
phrase_expr {a = a} {xs = xs} x d q rest fits = go (start_at (xs ++ sign q punct.Semicolon ∷ rest)) refl
  where
    go : (s : Start) → start_at (xs ++ sign q punct.Semicolon ∷ rest) ≡ s → phrase_as d (start_at (xs ++ sign q punct.Semicolon ∷ rest)) (xs ++ sign q punct.Semicolon ∷ rest) ≡ Ok (for_init.Expr a, rest)
    go start.Name h =
        let ts = xs ++ sign q punct.Semicolon ∷ rest in
        let stops = semicolon_stops q rest in
        ap (λ (z : Start). phrase_as d z ts) h
        ∙ from_half d a q rest (named_head (expr d) ts) (name_halves x d (sign q punct.Semicolon ∷ rest) (omega arith) (semicolon_ends 0 q rest) stops.nameless h)
    go (start.Basic b) h =
        let ts = xs ++ sign q punct.Semicolon ∷ rest in
        let stops = semicolon_stops q rest in
        ap (λ (z : Start). phrase_as d z ts) h
        ∙ from_half d a q rest (basic_head (expr d) b ts) (basic_halves x d (sign q punct.Semicolon ∷ rest) b (omega arith) (semicolon_ends 0 q rest) stops.nameless h)
    go s h =
        let ts = xs ++ sign q punct.Semicolon ∷ rest in
        ap (λ (z : Start). phrase_as d z ts) h ∙ whole_expr d a q ts rest (expr_complete x d (sign q punct.Semicolon ∷ rest) (omega arith) fits (semicolon_ends 0 q rest))

-- ---- the header of a `for`

header_empty : (d : ℕ) (p : Place) (rest : Tokens) → header d (sign p punct.Semicolon ∷ rest) ≡ Ok (for_init.Empty p, rest)
unfolding header sees
header_empty d p rest = refl

header_phrase : (d : ℕ) (ts : Tokens) → sees punct.Semicolon ts ≡ false → begins_qual ts ≡ false → header d ts ≡ phrase d ts
unfolding header
header_phrase d ts h g = rw h (rw g refl)

header_good : (d : ℕ) (ts : Tokens) → is_good (start_at ts) ≡ true → header d ts ≡ phrase d ts
header_good d ts h = header_phrase d ts (not_semicolon ts h) (good_no_qual ts h)

header_quals : (d : ℕ) (ts : Tokens) → sees punct.Semicolon ts ≡ false → begins_qual ts ≡ true → header d ts ≡ and_then ((qualifiers d >>= variables d) ts) (λ x. pure (for_init.Decl x))
unfolding header
header_quals d ts h g = rw h (rw g refl)

-- a qualifier, then more of them, and what stands behind
pub more_begin : {q : Qual} {us : Tokens} → IsQual q us → (vs rest : Tokens) → begins_qual ((us ++ vs) ++ rest) ≡ true
more_begin {us = us} x vs rest = ap begins_qual (append_assoc us vs rest) ∙ qual_begins x (vs ++ rest)

pub more_no_semicolon : {q : Qual} {us : Tokens} → IsQual q us → (vs rest : Tokens) → sees punct.Semicolon ((us ++ vs) ++ rest) ≡ false
more_no_semicolon {us = us} x vs rest = ap (sees punct.Semicolon) (append_assoc us vs rest) ∙ qual_no_sign x punct.Semicolon (vs ++ rest)

pub variables_all : {qs : List Qual} {t : TypeSpec} {ds : List Declarator} {xs ys zs : Tokens} → Row IsQual qs xs → IsType t ys → Commas IsDeclarator ds zs → (d : ℕ) (q : Place) (rest : Tokens)
    → length (xs ++ (ys ++ (zs ++ sign q punct.Semicolon ∷ rest))) ≤ d → (qualifiers d >>= variables d) (xs ++ (ys ++ (zs ++ sign q punct.Semicolon ∷ rest))) ≡ Ok (decl.Variables qs t ds, rest)
variables_all {qs = qs} {xs = xs} {ys = ys} {zs = zs} w x y d q rest fits =
    let vs = zs ++ sign q punct.Semicolon ∷ rest in
    let us = ys ++ vs in
    let long = length-append xs us in
    ap (λ (r : Outcome (List Qual)). and_then r (variables d)) (qualifiers_complete w d us fits (good_no_qual us (type_good x vs))) ∙ variables_complete x y d qs q rest (omega arith)

pub header_complete : {i : ForInit} {xs : Tokens} → IsForInit i xs → (d : ℕ) (rest : Tokens) → length (xs ++ rest) ≤ d → header d (xs ++ rest) ≡ Ok (i, rest)
header_complete (empty {p = p}) d rest fits = header_empty d p rest
header_complete (expr_first {xs = xs} q x) d rest fits =
    let us = sign q punct.Semicolon ∷ rest in
    let same : (xs ++ sign q punct.Semicolon ∷ []) ++ rest ≡ xs ++ us = append_assoc xs (sign q punct.Semicolon ∷ []) rest in
    ap (header d) same ∙ header_good d (xs ++ us) (expr_start x us) ∙ phrase_expr x d q rest (omega (arith, ap length same))
header_complete (decl_first (variables_is {ys = ys} {zs = zs} q done x y)) d rest fits =
    let vs = zs ++ sign q punct.Semicolon ∷ rest in
    let same : (ys ++ (zs ++ sign q punct.Semicolon ∷ [])) ++ rest ≡ ys ++ vs = regroup_behind ys zs (sign q punct.Semicolon) [] rest in
    ap (header d) same ∙ header_good d (ys ++ vs) (type_good x vs) ∙ phrase_variables x y d q rest (omega (arith, ap length same))
header_complete (decl_first (variables_is {t = t} {ds = ds} {ys = ys} {zs = zs} q (next {a = a} {bs = bs} {xs = vs} {ys = ws} u v) x y)) d rest fits =
    let us = ys ++ (zs ++ sign q punct.Semicolon ∷ rest) in
    let same : ((vs ++ ws) ++ (ys ++ (zs ++ sign q punct.Semicolon ∷ []))) ++ rest ≡ (vs ++ ws) ++ us = end_three (vs ++ ws) ys zs (sign q punct.Semicolon) rest in
    ap (header d) same
    ∙ header_quals d ((vs ++ ws) ++ us) (more_no_semicolon u ws us) (more_begin u ws us)
    ∙ ap (λ (r : Outcome Decl). and_then r (λ x. pure (for_init.Decl x))) (variables_all (next u v) x y d q rest (omega (arith, ap length same)))
