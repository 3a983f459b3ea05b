-- Units that the grammar derives are read.
use Rattle.std.proofs.Common.{◌≡◌, refl, sym, ap, ◌∙◌, ℕ, ◌≤◌, true, false, List, [], ◌∷◌, ◌++◌, length, Ok, append_assoc, append-nil, length-append, arith}
use Rattle.gsl_base.specs.declared.fault.Place.{Place}
use Rattle.gsl_base.specs.declared.token.Punct.TheVariants as punct
use Rattle.gsl_base.specs.declared.token.Key.TheVariants as key
use Rattle.gsl_base.specs.declared.token.Kind.TheVariants as kind
use Rattle.gsl_syntax.specs.declared.declaration.Decl.{Decl}
use Rattle.gsl_syntax.specs.declared.declaration.Decl.TheVariants as decl
use Rattle.gsl_syntax.specs.declared.statement.Function.{Function}
use Rattle.gsl_syntax.specs.declared.statement.Global.{Global}
use Rattle.gsl_syntax.specs.declared.statement.Global.TheVariants as global
use Rattle.gsl_syntax.specs.Phrases.{token, sign}
use Rattle.gsl_syntax.specs.Declarations.{name_at, Row, Some_of, IsStruct, IsVariables, IsLocal, IsDecl}
use Rattle.gsl_syntax.specs.Sentences.{IsFunction, IsGlobal, IsUnit}
use Rattle.gsl_expr.specs.Reading.{Tokens, sees}
use Rattle.gsl_expr.proofs.Ends.{semicolon_ends, bracket_not_name}
use Rattle.gsl_expr.proofs.Openings.{not_semicolon}
use Rattle.gsl_expr.proofs.Standing.{regroup}
use Rattle.gsl_parse.specs.Lists.{commas_of}
use Rattle.gsl_parse.specs.Variables.{declarator_at}
use Rattle.gsl_parse.specs.Units.{global_from, global_at, some_left, globals}
use Rattle.gsl_parse.proofs.CompleteLists.{Rowed, row_complete, some_complete}
use Rattle.gsl_parse.proofs.CompleteBegins.{word_no_sign, good_no_qual, type_good, type_filled}
use Rattle.gsl_parse.proofs.CompleteDeclarations.{qualifiers_complete, typed_complete}
use Rattle.gsl_parse.proofs.CompleteInits.{commas_of_declarators, declarators_named}
use Rattle.gsl_parse.proofs.CompleteLocals.{end_three, closed_by, members, quals_no_sign, struct_no_qual, struct_seen, struct_variables_complete}
use Rattle.gsl_parse.proofs.CompletePhrases.{more_no_semicolon}
use Rattle.gsl_parse.proofs.CompleteParams.{params_complete, body_complete}
use Rattle.gsl_parse.proofs.CompleteStatements.{local_filled}
use Rattle.gsl_parse.proofs.CompleteGlobals.{function_reads, variables_reads, instance_complete, block_reads, struct_reads, quals_reads, from_block_reads, typed_reads, empty_reads, global_reads, name_no_qual, semicolon_no_qual}

-- ---- declarations

struct_no_semicolon : {a : _} {xs : Tokens} → IsStruct a xs → (rest : Tokens) → sees punct.Semicolon (xs ++ rest) ≡ false
struct_no_semicolon (IsStruct.struct {p = p} {q = q} {n = n} {xs = xs} o c x) rest = word_no_sign p key.Struct punct.Semicolon (token q (kind.Name n) ∷ (sign o punct.LeftBrace ∷ ((xs ++ sign c punct.RightBrace ∷ []) ++ rest)))

variables_all : {a : Decl} {xs : Tokens} → IsVariables a xs → (d : ℕ) (rest : Tokens) → length (xs ++ rest) ≤ d → global_at d (xs ++ rest) ≡ Ok (global.Decl a, rest)
variables_all (IsVariables.variables {qs = qs} {t = t} {ds = ds} {xs = xs} {ys = ys} {zs = zs} q w x y) d rest fits =
    let ends = sign q punct.Semicolon ∷ rest in
    let vs = zs ++ ends in
    let us = ys ++ vs in
    let same : (xs ++ (ys ++ (zs ++ sign q punct.Semicolon ∷ []))) ++ rest ≡ xs ++ us = end_three xs ys zs (sign q punct.Semicolon) rest in
    let long = length-append xs us in
    let less = length-append ys vs in
    let n = declarators_named y in
    let ts = n.behind ++ ends in
    let named : zs ++ ends ≡ token n.place (kind.Name n.text) ∷ ts = ap (λ (z : Tokens). z ++ ends) n.tokens in
    let first : us ≡ ys ++ token n.place (kind.Name n.text) ∷ ts = ap (λ (z : Tokens). ys ++ z) named in
    ap (global_at d) same
    ∙ global_reads d qs (xs ++ us) us (quals_no_sign w punct.Semicolon us (not_semicolon us (type_good x vs))) (qualifiers_complete w d us (omega (arith, ap length same)) (good_no_qual us (type_good x vs)))
    ∙ ap (global_from d qs) first
    ∙ typed_reads x d qs n.place n.text ts (type_good x (token n.place (kind.Name n.text) ∷ ts))
    (typed_complete x d (token n.place (kind.Name n.text) ∷ ts) (omega (arith, ap length same, ap length first)) (bracket_not_name n.place n.text ts))
    ∙ variables_reads d qs t n.place q n.text ds ts rest (n.no_paren ends (let s = semicolon_ends 0 q rest in s.paren))
    (ap (commas_of (declarator_at d)) (sym named) ∙ commas_of_declarators y d q rest (omega (arith, ap length same)))

local_all : {a : Decl} {xs : Tokens} → IsLocal a xs → (d : ℕ) (rest : Tokens) → length (xs ++ rest) ≤ d → global_at d (xs ++ rest) ≡ Ok (global.Decl a, rest)
local_all (IsLocal.variables x) d rest fits = variables_all x d rest fits
local_all (IsLocal.struct {qs = qs} {s = s} {ds = ds} {xs = xs} {ys = ys} {zs = zs} q w x y) d rest fits =
    let vs = zs ++ sign q punct.Semicolon ∷ rest in
    let us = ys ++ vs in
    let same : (xs ++ (ys ++ (zs ++ sign q punct.Semicolon ∷ []))) ++ rest ≡ xs ++ us = end_three xs ys zs (sign q punct.Semicolon) rest in
    let long = length-append xs us in
    ap (global_at d) same
    ∙ global_reads d qs (xs ++ us) us (quals_no_sign w punct.Semicolon us (struct_no_semicolon x vs)) (qualifiers_complete w d us (omega (arith, ap length same)) (struct_no_qual x vs))
    ∙ struct_reads d qs (decl.Struct qs s ds) us rest (struct_seen x vs) (struct_variables_complete x y d qs q rest (omega (arith, ap length same)))

end_block : (xs ys zs : Tokens) (p o c q : Place) (n : List ℕ) (rest : Tokens)
    → (xs ++ token p (kind.Name n) ∷ (sign o punct.LeftBrace ∷ (ys ++ sign c punct.RightBrace ∷ (zs ++ sign q punct.Semicolon ∷ [])))) ++ rest
    ≡ xs ++ token p (kind.Name n) ∷ (sign o punct.LeftBrace ∷ (ys ++ sign c punct.RightBrace ∷ (zs ++ sign q punct.Semicolon ∷ rest)))
end_block xs ys zs p o c q n rest =
    regroup xs (token p (kind.Name n)) (sign o punct.LeftBrace ∷ (ys ++ sign c punct.RightBrace ∷ (zs ++ sign q punct.Semicolon ∷ []))) rest
    ∙ ap (λ (z : Tokens). xs ++ token p (kind.Name n) ∷ (sign o punct.LeftBrace ∷ z)) (regroup ys (sign c punct.RightBrace) (zs ++ sign q punct.Semicolon ∷ []) rest)
    ∙ ap (λ (z : Tokens). xs ++ token p (kind.Name n) ∷ (sign o punct.LeftBrace ∷ (ys ++ sign c punct.RightBrace ∷ z))) (regroup zs (sign q punct.Semicolon) [] rest)

decl_all : {a : Decl} {xs : Tokens} → IsDecl a xs → (d : ℕ) (rest : Tokens) → length (xs ++ rest) ≤ d → global_at d (xs ++ rest) ≡ Ok (global.Decl a, rest)
decl_all (IsDecl.local x) d rest fits = local_all x d rest fits
decl_all (IsDecl.block {p = p} {n = n} {ms = ms} {i = i} {ys = ys} {zs = zs} o c q (Some_of.these {a = a} {bs = bs} {xs = us} {ys = vs} u v) x y) d rest fits =
    let ends = zs ++ sign q punct.Semicolon ∷ rest in
    let closes = sign c punct.RightBrace ∷ ends in
    let ts = ys ++ closes in
    let all = token p (kind.Name n) ∷ (sign o punct.LeftBrace ∷ ts) in
    let same : ((us ++ vs) ++ token p (kind.Name n) ∷ (sign o punct.LeftBrace ∷ (ys ++ sign c punct.RightBrace ∷ (zs ++ sign q punct.Semicolon ∷ [])))) ++ rest ≡ (us ++ vs) ++ all = end_block (us ++ vs) ys zs p o c q n rest in
    let long = length-append (us ++ vs) all in
    ap (global_at d) same
    ∙ global_reads d (a ∷ bs) ((us ++ vs) ++ all) all (more_no_semicolon u vs all) (qualifiers_complete (Row.next u v) d all (omega (arith, ap length same)) (name_no_qual p n (sign o punct.LeftBrace ∷ ts)))
    ∙ from_block_reads d a bs p o n (decl.Block (a ∷ bs) (name_at p n) ms i) ts rest
    (block_reads d (a ∷ bs) p o c q n ms i ts ends rest (some_complete (members d) x closes (omega (arith, ap length same)) (closed_by c ends)) (instance_complete y q rest))
decl_all (IsDecl.quals q (Some_of.these {a = a} {bs = bs} {xs = us} {ys = vs} u v)) d rest fits =
    let all = sign q punct.Semicolon ∷ rest in
    let same : ((us ++ vs) ++ sign q punct.Semicolon ∷ []) ++ rest ≡ (us ++ vs) ++ all = regroup (us ++ vs) (sign q punct.Semicolon) [] rest in
    ap (global_at d) same
    ∙ global_reads d (a ∷ bs) ((us ++ vs) ++ all) all (more_no_semicolon u vs all) (qualifiers_complete (Row.next u v) d all (omega (arith, ap length same)) (semicolon_no_qual q rest))
    ∙ quals_reads d a bs q rest

-- ---- functions

end_function : (us xs ys zs : Tokens) (p o c : Place) (n : List ℕ) (rest : Tokens)
    → (us ++ (xs ++ token p (kind.Name n) ∷ (sign o punct.LeftParen ∷ (ys ++ sign c punct.RightParen ∷ zs)))) ++ rest
    ≡ us ++ (xs ++ token p (kind.Name n) ∷ (sign o punct.LeftParen ∷ (ys ++ sign c punct.RightParen ∷ (zs ++ rest))))
end_function us xs ys zs p o c n rest =
    append_assoc us (xs ++ token p (kind.Name n) ∷ (sign o punct.LeftParen ∷ (ys ++ sign c punct.RightParen ∷ zs))) rest
    ∙ ap (λ (z : Tokens). us ++ z) (regroup xs (token p (kind.Name n)) (sign o punct.LeftParen ∷ (ys ++ sign c punct.RightParen ∷ zs)) rest)
    ∙ ap (λ (z : Tokens). us ++ (xs ++ token p (kind.Name n) ∷ (sign o punct.LeftParen ∷ z))) (regroup ys (sign c punct.RightParen) zs rest)

function_all : {f : Function} {xs : Tokens} → IsFunction f xs → (d : ℕ) (rest : Tokens) → length (xs ++ rest) ≤ d → global_at d (xs ++ rest) ≡ Ok (global.Function f, rest)
function_all (IsFunction.function {qs = qs} {t = t} {p = p} {n = n} {ps = ps} {b = b} {us = us} {xs = xs} {ys = ys} {zs = zs} o c w x y z) d rest fits =
    let closes = sign c punct.RightParen ∷ (zs ++ rest) in
    let ts = sign o punct.LeftParen ∷ (ys ++ closes) in
    let vs = token p (kind.Name n) ∷ ts in
    let all = xs ++ vs in
    let good = type_good x vs in
    let same : (us ++ (xs ++ token p (kind.Name n) ∷ (sign o punct.LeftParen ∷ (ys ++ sign c punct.RightParen ∷ zs)))) ++ rest ≡ us ++ all = end_function us xs ys zs p o c n rest in
    let long = length-append us all in
    let less = length-append xs vs in
    let least = length-append ys closes in
    ap (global_at d) same
    ∙ global_reads d qs (us ++ all) all (quals_no_sign w punct.Semicolon all (not_semicolon all good)) (qualifiers_complete w d all (omega (arith, ap length same)) (good_no_qual all good))
    ∙ typed_reads x d qs p n ts good (typed_complete x d vs (omega (arith, ap length same)) (bracket_not_name p n ts))
    ∙ function_reads d qs t (name_at p n) o ps b (ys ++ closes) (zs ++ rest) rest (params_complete y d c (zs ++ rest) (omega (arith, ap length same))) (body_complete z d rest (omega (arith, ap length same)))

-- ---- units

pub global_complete : {a : Global} {xs : Tokens} → IsGlobal a xs → (d : ℕ) (rest : Tokens) → length (xs ++ rest) ≤ d → global_at d (xs ++ rest) ≡ Ok (a, rest)
global_complete (IsGlobal.empty {p = p}) d rest fits = empty_reads d p rest
global_complete (IsGlobal.decl x) d rest fits = decl_all x d rest fits
global_complete (IsGlobal.function x) d rest fits = function_all x d rest fits

decl_filled : {a : Decl} {xs : Tokens} → IsDecl a xs → 1 ≤ length xs
decl_filled (IsDecl.local x) = local_filled x
decl_filled (IsDecl.block {p = p} {n = n} {xs = xs} {ys = ys} {zs = zs} o c q w x y) =
    omega (arith, length-append xs (token p (kind.Name n) ∷ (sign o punct.LeftBrace ∷ (ys ++ sign c punct.RightBrace ∷ (zs ++ sign q punct.Semicolon ∷ [])))))
decl_filled (IsDecl.quals {xs = xs} q w) = omega (arith, length-append xs (sign q punct.Semicolon ∷ []))

function_filled : {f : Function} {xs : Tokens} → IsFunction f xs → 1 ≤ length xs
function_filled (IsFunction.function {p = p} {n = n} {us = us} {xs = xs} {ys = ys} {zs = zs} o c w x y z) =
    let some = type_filled x in
    let vs = token p (kind.Name n) ∷ (sign o punct.LeftParen ∷ (ys ++ sign c punct.RightParen ∷ zs)) in
    omega (arith, length-append us (xs ++ vs), length-append xs vs)

pub global_filled : {a : Global} {xs : Tokens} → IsGlobal a xs → 1 ≤ length xs
global_filled IsGlobal.empty = omega arith
global_filled (IsGlobal.decl x) = decl_filled x
global_filled (IsGlobal.function x) = function_filled x

left_by : (xs rest : Tokens) → 1 ≤ length xs → some_left (xs ++ rest) ≡ true
left_by [] rest h = absurd (omega arith)
left_by (x ∷ xs) rest h = refl

rows : (d : ℕ) → Rowed IsGlobal some_left (global_at d) d
rows d = record { reads = λ a xs rest x fits. global_complete x d rest fits; filled = λ a xs x. global_filled x; start = λ a xs rest x. left_by xs rest (global_filled x) }

globals_by : {us : List Global} {xs : Tokens} → IsUnit us xs → (d : ℕ) → length (xs ++ []) ≤ d → globals d (xs ++ []) ≡ Ok (us, [])
unfolding globals
globals_by x d fits = row_complete (rows d) x [] fits refl

pub globals_complete : {us : List Global} {xs : Tokens} → IsUnit us xs → (d : ℕ) → length xs ≤ d → globals d xs ≡ Ok (us, [])
globals_complete {xs = xs} x d fits =
    let same : xs ++ [] ≡ xs = append-nil xs in
    ap (globals d) (sym same) ∙ globals_by x d (omega (arith, ap length same))
