-- Where the tokens of a unit do not nest too deeply, neither do its arms.
use Rattle.std.proofs.Common.{◌≡◌, refl, subst, Bool, false, inl, List, [], ◌∷◌, ◌++◌, None, append-nil, sym, arith}
use Rattle.gsl_base.specs.declared.token.Punct.TheVariants as punct
use Rattle.gsl_base.specs.declared.token.Key.TheVariants as key
use Rattle.gsl_base.specs.declared.token.Kind.TheVariants as kind
use Rattle.gsl_syntax.specs.declared.nesting.Counter.{Counter}
use Rattle.gsl_syntax.specs.declared.statement.Body.{Body}
use Rattle.gsl_syntax.specs.declared.statement.Function.{Function}
use Rattle.gsl_syntax.specs.declared.statement.Global.{Global}
use Rattle.gsl_syntax.specs.Nesting.{fresh, first_deep}
use Rattle.gsl_syntax.specs.Phrases.{Tokens, token, sign}
use Rattle.gsl_syntax.specs.Declarations.{Row}
use Rattle.gsl_syntax.specs.Sentences.{IsParam, IsParams, IsBody, IsFunction, IsGlobal, IsUnit}
use Rattle.gsl_formed.specs.Nested.{body_arms, global_arms, IsShallow}
use Rattle.gsl_parse_law.proofs.Steps.{At, Any, any, none_fit, quiet, after_name, after_semicolon, into_paren, into_brace, out_of_paren, out_of_brace, low_fresh, low_left, least_of}
use Rattle.gsl_parse_law.proofs.Depths.{apart, less_one, Walks, type_walks, dims_walk}
use Rattle.gsl_parse_law.proofs.DeclarationDepths.{Passes, commas_pass, quals_pass, decl_ends}
use Rattle.gsl_parse_law.proofs.StatementDepths.{around_fresh, stmts_walk}

param_passes : {b : Counter} {o : List Counter} → Passes IsParam b o
param_passes _ _ (IsParam.without_name {xs = xs} {ys = ys} w y) rest x = type_walks y rest (quals_pass w (ys ++ rest) (apart xs ys rest x))
param_passes _ _ (IsParam.with_name {p = p} {n = n} {xs = xs} {ys = ys} {zs = zs} w y z) rest x =
    let quals = quals_pass w ((ys ++ token p (kind.Name n) ∷ zs) ++ rest) (apart xs (ys ++ token p (kind.Name n) ∷ zs) rest x) in
    let front = type_walks y (token p (kind.Name n) ∷ (zs ++ rest)) (apart ys (token p (kind.Name n) ∷ zs) rest quals) in
    dims_walk z rest (any (after_name p n front))

params_pass : {list : Bool} {o : List Counter} → Passes IsParams (fresh list) o
params_pass _ _ IsParams.none rest x = x
params_pass _ _ (IsParams.void {p = p}) rest x = any (quiet p (kind.Key key.Void) (λ list label on s. refl) x)
params_pass _ _ (IsParams.items y apart) rest x = commas_pass param_passes y (inl (omega arith)) rest x

body_walks : {c : Body} {xs : Tokens} → IsBody c xs → {o : List Counter} (rest : Tokens) → Any (fresh false) o (xs ++ rest) → Walks (fresh false) o (body_arms c) rest
body_walks (IsBody.prototype {p = p}) rest x = let r = low_left rest (low_fresh false) (any (after_semicolon p x)) in (none_fit r, r)
body_walks (IsBody.block {p = p} {xs = xs} q y) rest x =
    let inside = into_brace p x.at in
    let r = stmts_walk y (sign q punct.RightBrace ∷ rest) (around_fresh x.list) (low_fresh x.list) (apart xs (sign q punct.RightBrace ∷ []) rest (any inside.at)) in
    let fit = r.0 in
    (omega (arith, fit), low_left rest (low_fresh false) (any (out_of_brace q inside.least r.1)))

function_walks : {f : Function} {xs : Tokens} → IsFunction f xs → {o : List Counter} (rest : Tokens) → Any (fresh false) o (xs ++ rest) → Walks (fresh false) o (body_arms f.body) rest
function_walks (IsFunction.function {p = p} {n = n} {us = us} {xs = xs} {ys = ys} {zs = zs} o c v w y z) rest x =
    let last = ys ++ sign c punct.RightParen ∷ zs in
    let middle = token p (kind.Name n) ∷ (sign o punct.LeftParen ∷ last) in
    let quals = quals_pass v ((xs ++ middle) ++ rest) (apart us (xs ++ middle) rest x) in
    let front = type_walks w (middle ++ rest) (apart xs middle rest quals) in
    let inside = into_paren o (any (after_name p n front)) in
    let params = params_pass _ _ y (sign c punct.RightParen ∷ (zs ++ rest)) (apart ys (sign c punct.RightParen ∷ zs) rest (any inside.at)) in
    body_walks z rest (less_one (any (out_of_paren c inside.least params)))

global_walks : {g : Global} {xs : Tokens} → IsGlobal g xs → {o : List Counter} (rest : Tokens) → Any (fresh false) o (xs ++ rest) → Walks (fresh false) o (global_arms g) rest
global_walks (IsGlobal.empty {p = p}) rest x = let r = low_left rest (low_fresh false) (any (after_semicolon p x)) in (none_fit r, r)
global_walks (IsGlobal.decl y) rest x = let r = decl_ends y rest (inl (omega arith)) x in (r.0, low_left rest (low_fresh false) r.1)
global_walks (IsGlobal.function y) rest x = function_walks y rest x

globals_walk : {us : List Global} {xs : Tokens} → IsUnit us xs → (rest : Tokens) → Any (fresh false) [] (xs ++ rest) → IsShallow us
globals_walk Row.done rest x = tt
globals_walk (Row.next {xs = xs} {ys = ys} y z) rest x =
    let r = global_walks y (ys ++ rest) (apart xs ys rest x) in
    let fit = r.0 in
    (omega (arith, fit), globals_walk z rest r.1)

begins : (ts : Tokens) → first_deep ts ≡ None → At false false (fresh false) [] ts
unfolding first_deep
begins ts h = record { top = fresh false; least = least_of (fresh false); small = omega arith; passes = h }

-- The arms of a unit are no deeper than its tokens nest.
pub unit_is_shallow : {us : List Global} {ts : Tokens} → IsUnit us ts → first_deep ts ≡ None → IsShallow us
unit_is_shallow {ts = ts} y h = globals_walk y [] (subst (Any (fresh false) []) (sym (append-nil ts)) (any (begins ts h)))
