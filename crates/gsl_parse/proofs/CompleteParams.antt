-- The parameters and the body of a function that the grammar derives are read.
use Rattle.std.proofs.Common.{◌≡◌, refl, ap, ◌∙◌, ℕ, ◌≤◌, true, false, List, [], ◌∷◌, ◌++◌, length, Ok, append_assoc, length-append, arith}
use Rattle.std.proofs.lemmas.Bool.{and_left, and_right}
use Rattle.gsl_base.specs.declared.fault.Place.{Place}
use Rattle.gsl_base.specs.declared.token.Punct.TheVariants as punct
use Rattle.gsl_base.specs.declared.token.Key.{Key}
use Rattle.gsl_base.specs.declared.token.Key.TheVariants as key
use Rattle.gsl_base.specs.declared.token.Kind.TheVariants as kind
use Rattle.gsl_syntax.specs.declared.expr.Dim.{Dim}
use Rattle.gsl_syntax.specs.declared.expr.TypeSpec.{TypeSpec}
use Rattle.gsl_syntax.specs.declared.declaration.Qual.{Qual}
use Rattle.gsl_syntax.specs.declared.statement.Stmt.{Stmt}
use Rattle.gsl_syntax.specs.declared.statement.Param.{Param}
use Rattle.gsl_syntax.specs.declared.statement.Param.TheVariants as param
use Rattle.gsl_syntax.specs.declared.statement.Params.{Params}
use Rattle.gsl_syntax.specs.declared.statement.Params.TheVariants as params
use Rattle.gsl_syntax.specs.declared.statement.Body.{Body}
use Rattle.gsl_syntax.specs.declared.statement.Body.TheVariants as body
use Rattle.gsl_syntax.specs.Phrases.{token, sign, word, IsType, IsDims}
use Rattle.gsl_syntax.specs.Declarations.{name_at, Commas, Row, IsQual}
use Rattle.gsl_syntax.specs.Sentences.{IsParam, NotVoid, IsParams, IsBody}
use Rattle.gsl_expr.specs.Names.{sees_name}
use Rattle.gsl_expr.specs.Reading.{Tokens, Outcome, Parser, and_then, ◌>>=◌, pure, sees, sees_key, expect, name as take_name}
use Rattle.gsl_expr.specs.Expressions.{expr, dims, closes_after, void_alone}
use Rattle.gsl_expr.proofs.Ends.{bracket_not_name}
use Rattle.gsl_expr.proofs.Openings.{name_opens, bracket_opens, not_right_paren}
use Rattle.gsl_expr.proofs.Standing.{regroup, regroup_behind}
use Rattle.gsl_expr.proofs.Complete.{dims_complete}
use Rattle.gsl_parse.specs.Lists.{commas_of}
use Rattle.gsl_parse.specs.Qualifiers.{begins_qual, qualifiers, typed}
use Rattle.gsl_parse.specs.Statements.{statements_of, statement}
use Rattle.gsl_parse.specs.Units.{parameter_from, parameter, parameters, function_body}
use Rattle.gsl_parse.proofs.CompleteLists.{Listed, commas_complete}
use Rattle.gsl_parse.proofs.CompleteBegins.{good_no_qual, type_good, type_filled, begins_no_void}
use Rattle.gsl_parse.proofs.CompleteDeclarations.{Stops, comma_stops, right_paren_stops, right_paren_no_comma, qualifiers_complete, typed_complete}
use Rattle.gsl_parse.proofs.CompleteInits.{dims_no_sign}
use Rattle.gsl_parse.proofs.CompleteLocals.{quals_no_sign}
use Rattle.gsl_parse.proofs.CompletePhrases.{more_begin}
use Rattle.gsl_parse.proofs.CompleteStatements.{statements_complete}

-- ---- a parameter

unnamed_by : (d : ℕ) (qs : List Qual) (t : TypeSpec) (rest : Tokens) → sees_name rest ≡ false → parameter_from d qs t rest ≡ Ok (param.Unnamed qs t, rest)
unfolding parameter_from
unnamed_by d qs t rest h = rw h refl

named_by : (d : ℕ) (qs : List Qual) (t : TypeSpec) (p : Place) (n : List ℕ) (ds : List Dim) (ts rest : Tokens) → dims (expr d) ts ≡ Ok (ds, rest) → parameter_from d qs t (token p (kind.Name n) ∷ ts) ≡ Ok (param.Named qs t (name_at p n) ds, rest)
unfolding parameter_from sees_name take_name
named_by d qs t p n ds ts rest x = ap (λ (r : Outcome (List Dim)). and_then r (λ ds. pure (param.Named qs t (name_at p n) ds))) x

param_reads : (d : ℕ) (qs : List Qual) (t : TypeSpec) (ts us vs : Tokens) → qualifiers d ts ≡ Ok (qs, us) → typed d us ≡ Ok (t, vs) → parameter d ts ≡ parameter_from d qs t vs
unfolding parameter
param_reads d qs t ts us vs x y = ap (λ (r : Outcome (List Qual)). and_then r (λ qs. typed d >>= parameter_from d qs)) x ∙ ap (λ (r : Outcome TypeSpec). and_then r (parameter_from d qs)) y

pub param_complete : {a : Param} {xs : Tokens} → IsParam a xs → (d : ℕ) (rest : Tokens) → length (xs ++ rest) ≤ d → Stops rest → parameter d (xs ++ rest) ≡ Ok (a, rest)
param_complete (IsParam.without_name {qs = qs} {t = t} {xs = xs} {ys = ys} w x) d rest fits stops =
    let us = ys ++ rest in
    let same : (xs ++ ys) ++ rest ≡ xs ++ us = append_assoc xs ys rest in
    let long = length-append xs us in
    ap (parameter d) same
    ∙ param_reads d qs t (xs ++ us) us rest (qualifiers_complete w d us (omega (arith, ap length same)) (good_no_qual us (type_good x rest))) (typed_complete x d rest (omega (arith, ap length same)) stops.bracket)
    ∙ unnamed_by d qs t rest stops.nameless
param_complete (IsParam.with_name {qs = qs} {t = t} {p = p} {n = n} {ds = ds} {xs = xs} {ys = ys} {zs = zs} w x y) d rest fits stops =
    let vs = token p (kind.Name n) ∷ (zs ++ rest) in
    let us = ys ++ vs in
    let same : (xs ++ (ys ++ token p (kind.Name n) ∷ zs)) ++ rest ≡ xs ++ us = regroup_behind xs ys (token p (kind.Name n)) zs rest in
    let long = length-append xs us in
    let less = length-append ys vs in
    ap (parameter d) same
    ∙ param_reads d qs t (xs ++ us) us vs (qualifiers_complete w d us (omega (arith, ap length same)) (good_no_qual us (type_good x vs))) (typed_complete x d vs (omega (arith, ap length same)) (bracket_not_name p n (zs ++ rest)))
    ∙ named_by d qs t p n ds (zs ++ rest) rest (dims_complete y d rest (omega (arith, ap length same)) stops.bracket)

param_filled : {a : Param} {xs : Tokens} → IsParam a xs → 1 ≤ length xs
param_filled (IsParam.without_name {xs = xs} {ys = ys} w x) = let some = type_filled x in omega (arith, length-append xs ys)
param_filled (IsParam.with_name {p = p} {n = n} {xs = xs} {ys = ys} {zs = zs} w x y) =
    let some = type_filled x in
    omega (arith, length-append xs (ys ++ token p (kind.Name n) ∷ zs), length-append ys (token p (kind.Name n) ∷ zs))

listed : (d : ℕ) → Listed IsParam (parameter d) d Stops
listed d = record { reads = λ a xs rest x fits stops. param_complete x d rest fits stops; filled = λ a xs x. param_filled x; comma = comma_stops }

-- ---- parameters do not begin with the parenthesis that closes them

param_no_paren : {a : Param} {xs : Tokens} → IsParam a xs → (rest : Tokens) → sees punct.RightParen (xs ++ rest) ≡ false
param_no_paren (IsParam.without_name {xs = xs} {ys = ys} w x) rest =
    ap (sees punct.RightParen) (append_assoc xs ys rest) ∙ quals_no_sign w punct.RightParen (ys ++ rest) (not_right_paren (ys ++ rest) (type_good x rest))
param_no_paren (IsParam.with_name {p = p} {n = n} {xs = xs} {ys = ys} {zs = zs} w x y) rest =
    let vs = token p (kind.Name n) ∷ (zs ++ rest) in
    ap (sees punct.RightParen) (regroup_behind xs ys (token p (kind.Name n)) zs rest) ∙ quals_no_sign w punct.RightParen (ys ++ vs) (not_right_paren (ys ++ vs) (type_good x vs))

params_no_paren : {ps : List Param} {xs : Tokens} → Commas IsParam ps xs → (rest : Tokens) → sees punct.RightParen (xs ++ rest) ≡ false
params_no_paren (Commas.one x) rest = param_no_paren x rest
params_no_paren (Commas.more {xs = xs} {ys = ys} q x y) rest = ap (sees punct.RightParen) (regroup xs (sign q punct.Comma) ys rest) ∙ param_no_paren x (sign q punct.Comma ∷ (ys ++ rest))

-- ---- they are not the word `void` alone

begins_no_call : (ts : Tokens) → begins_qual ts ≡ true → void_alone ts ≡ false
unfolding void_alone
begins_no_call ts h = and_left (sees_key key.Void ts) (closes_after ts) (begins_no_void ts h)

word_no_call : (p : Place) (w : Key) (ts : Tokens) → sees punct.RightParen ts ≡ false → void_alone (word p w ∷ ts) ≡ false
unfolding void_alone
word_no_call p w ts h = and_right (sees_key key.Void (word p w ∷ ts)) (sees punct.RightParen ts) h

type_no_void : {t : TypeSpec} {xs : Tokens} → IsType t xs → (rest : Tokens) → sees punct.RightParen rest ≡ false → void_alone (xs ++ rest) ≡ false
type_no_void (IsType.basic {p = p} {xs = xs} w is ds) rest h = word_no_call p w (xs ++ rest) (dims_no_sign ds punct.RightParen rest bracket_opens h)
type_no_void (IsType.named {p = p} {n = n} {xs = xs} ds) rest h = let o = name_opens p n (xs ++ rest) in o.some_call

name_no_close : (p : Place) (n : List ℕ) (ts : Tokens) → sees punct.RightParen (token p (kind.Name n) ∷ ts) ≡ false
unfolding sees
name_no_close p n ts = refl

comma_no_close : (p : Place) (ts : Tokens) → sees punct.RightParen (sign p punct.Comma ∷ ts) ≡ false
unfolding sees
comma_no_close p ts = refl

named_no_void : {qs : List Qual} {t : TypeSpec} {xs ys : Tokens} → Row IsQual qs xs → IsType t ys → (rest : Tokens) → sees punct.RightParen rest ≡ false → void_alone (xs ++ (ys ++ rest)) ≡ false
named_no_void Row.done x rest h = type_no_void x rest h
named_no_void {ys = ys} (Row.next {xs = us} {ys = vs} u v) x rest h = begins_no_call ((us ++ vs) ++ (ys ++ rest)) (more_begin u vs (ys ++ rest))

param_no_void : {a : Param} {xs : Tokens} → IsParam a xs → (rest : Tokens) → sees punct.RightParen rest ≡ false → void_alone (xs ++ rest) ≡ false
param_no_void (IsParam.without_name {xs = xs} {ys = ys} w x) rest h = ap void_alone (append_assoc xs ys rest) ∙ named_no_void w x rest h
param_no_void (IsParam.with_name {p = p} {n = n} {xs = xs} {ys = ys} {zs = zs} w x y) rest h =
    ap void_alone (regroup_behind xs ys (token p (kind.Name n)) zs rest) ∙ named_no_void w x (token p (kind.Name n) ∷ (zs ++ rest)) (name_no_close p n (zs ++ rest))

other_word : (p : Place) (w : Key) (ts : Tokens) → NotVoid (word p w ∷ []) → void_alone (word p w ∷ ts) ≡ false
unfolding void_alone sees_key
other_word p key.Void ts h = absurd (h p refl)
other_word p w ts h = refl

type_other : {t : TypeSpec} {xs : Tokens} → IsType t xs → (rest : Tokens) → NotVoid xs → void_alone (xs ++ rest) ≡ false
type_other (IsType.basic {p = p} w is IsDims.no_dims) rest h = other_word p w rest h
type_other (IsType.basic {p = p} w is (IsDims.open_pair {p = o} {ys = ys} q y)) rest h =
    let us = sign q punct.RightBracket ∷ (ys ++ rest) in
    word_no_call p w (sign o punct.LeftBracket ∷ us) (bracket_opens o us)
type_other (IsType.basic {p = p} w is (IsDims.sized {p = o} {xs = xs} {ys = ys} q x y)) rest h =
    let us = (xs ++ sign q punct.RightBracket ∷ ys) ++ rest in
    word_no_call p w (sign o punct.LeftBracket ∷ us) (bracket_opens o us)
type_other (IsType.named {p = p} {n = n} {xs = xs} ds) rest h = let opens = name_opens p n (xs ++ rest) in opens.some_call

quals_other : {qs : List Qual} {t : TypeSpec} {xs ys : Tokens} → Row IsQual qs xs → IsType t ys → (rest : Tokens) → NotVoid (xs ++ ys) → void_alone (xs ++ (ys ++ rest)) ≡ false
quals_other Row.done x rest h = type_other x rest h
quals_other {ys = ys} (Row.next {xs = us} {ys = vs} u v) x rest h = begins_no_call ((us ++ vs) ++ (ys ++ rest)) (more_begin u vs (ys ++ rest))

params_no_void : {ps : List Param} {xs : Tokens} → Commas IsParam ps xs → NotVoid xs → (rest : Tokens) → void_alone (xs ++ rest) ≡ false
params_no_void (Commas.one (IsParam.without_name {xs = xs} {ys = ys} w x)) h rest = ap void_alone (append_assoc xs ys rest) ∙ quals_other w x rest h
params_no_void (Commas.one (IsParam.with_name {p = p} {n = n} {xs = xs} {ys = ys} {zs = zs} w x y)) h rest =
    ap void_alone (regroup_behind xs ys (token p (kind.Name n)) zs rest) ∙ named_no_void w x (token p (kind.Name n) ∷ (zs ++ rest)) (name_no_close p n (zs ++ rest))
params_no_void (Commas.more {xs = xs} {ys = ys} q x y) h rest =
    ap void_alone (regroup xs (sign q punct.Comma) ys rest) ∙ param_no_void x (sign q punct.Comma ∷ (ys ++ rest)) (comma_no_close q (ys ++ rest))

-- ---- parameters

params_none : (d : ℕ) (c : Place) (rest : Tokens) → parameters d (sign c punct.RightParen ∷ rest) ≡ Ok (params.Items [], rest)
unfolding parameters sees
params_none d c rest = refl

params_void : (d : ℕ) (p c : Place) (rest : Tokens) → parameters d (word p key.Void ∷ (sign c punct.RightParen ∷ rest)) ≡ Ok (params.Void p, rest)
unfolding parameters void_alone sees_key sees
params_void d p c rest = refl

closed : List Param → Parser Params
closed ps = expect punct.RightParen >>= λ _. pure (params.Items ps)

closed_is : (ps : List Param) (c : Place) (rest : Tokens) → closed ps (sign c punct.RightParen ∷ rest) ≡ Ok (params.Items ps, rest)
unfolding closed expect sees
closed_is ps c rest = refl

params_items : (d : ℕ) (c : Place) (ps : List Param) (ts rest : Tokens) → sees punct.RightParen ts ≡ false → void_alone ts ≡ false → commas_of (parameter d) ts ≡ Ok (ps, sign c punct.RightParen ∷ rest) → parameters d ts ≡ Ok (params.Items ps, rest)
unfolding parameters closed
params_items d c ps ts rest h g x = rw h (rw g (ap (λ (r : Outcome (List Param)). and_then r closed) x ∙ closed_is ps c rest))

pub params_complete : {ps : Params} {xs : Tokens} → IsParams ps xs → (d : ℕ) (c : Place) (rest : Tokens) → length (xs ++ sign c punct.RightParen ∷ rest) ≤ d → parameters d (xs ++ sign c punct.RightParen ∷ rest) ≡ Ok (ps, rest)
params_complete IsParams.none d c rest fits = params_none d c rest
params_complete (IsParams.void {p = p}) d c rest fits = params_void d p c rest
params_complete (IsParams.items {ps = ps} {xs = xs} x h) d c rest fits =
    let us = sign c punct.RightParen ∷ rest in
    params_items d c ps (xs ++ us) rest (params_no_paren x us) (params_no_void x h us) (commas_complete (listed d) x us fits (right_paren_stops c rest) (right_paren_no_comma c rest))

-- ---- what follows them

body_prototype : (d : ℕ) (p : Place) (rest : Tokens) → function_body d (sign p punct.Semicolon ∷ rest) ≡ Ok (body.Prototype p, rest)
unfolding function_body sees
body_prototype d p rest = refl

body_block : (d : ℕ) (p : Place) (bs : List Stmt) (ts rest : Tokens) → statements_of (statement d) ts ≡ Ok (bs, rest) → function_body d (sign p punct.LeftBrace ∷ ts) ≡ Ok (body.Block p bs, rest)
unfolding function_body expect sees
body_block d p bs ts rest x = ap (λ (r : Outcome (List Stmt)). and_then r (λ bs. pure (body.Block p bs))) x

pub body_complete : {b : Body} {xs : Tokens} → IsBody b xs → (d : ℕ) (rest : Tokens) → length (xs ++ rest) ≤ d → function_body d (xs ++ rest) ≡ Ok (b, rest)
body_complete (IsBody.prototype {p = p}) d rest fits = body_prototype d p rest
body_complete (IsBody.block {p = p} {bs = bs} {xs = xs} q x) d rest fits =
    let us = sign q punct.RightBrace ∷ rest in
    let same : (xs ++ sign q punct.RightBrace ∷ []) ++ rest ≡ xs ++ us = regroup xs (sign q punct.RightBrace) [] rest in
    ap (λ (z : Tokens). function_body d (sign p punct.LeftBrace ∷ z)) same ∙ body_block d p bs (xs ++ us) rest (statements_complete x d q rest (omega (arith, ap length same)))
