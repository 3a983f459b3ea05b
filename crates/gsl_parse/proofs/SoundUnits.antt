-- Functions, blocks and whole units stand for the tokens that were taken.
use Rattle.std.proofs.Common.{◌≡◌, ℕ, Bool, true, false, cond, ◌&&◌, List, [], ◌∷◌, ◌++◌, Some, None, Ok, refl, sym, ap, subst, ◌∙◌, append_assoc}
use Rattle.std.proofs.lemmas.List.{append-nil}
use Rattle.gsl_base.specs.declared.fault.Place.{Place}
use Rattle.gsl_base.specs.declared.token.Punct.TheVariants as punct
use Rattle.gsl_base.specs.declared.token.Key.TheVariants as key
use Rattle.gsl_base.specs.declared.token.Kind.TheVariants as kind
use Rattle.gsl_syntax.specs.declared.expr.TypeSpec.{TypeSpec}
use Rattle.gsl_syntax.specs.declared.declaration.Name.{Name}
use Rattle.gsl_syntax.specs.declared.declaration.Qual.{Qual}
use Rattle.gsl_syntax.specs.declared.declaration.Decl.TheVariants as decl
use Rattle.gsl_syntax.specs.declared.statement.Param.TheVariants as param
use Rattle.gsl_syntax.specs.declared.statement.Params.{Params}
use Rattle.gsl_syntax.specs.declared.statement.Params.TheVariants as params
use Rattle.gsl_syntax.specs.declared.statement.Body.TheVariants as body
use Rattle.gsl_syntax.specs.declared.statement.Global.TheVariants as global
use Rattle.gsl_syntax.specs.Phrases.{token, sign, word, IsType, IsDims}
use Rattle.gsl_syntax.specs.Declarations.{Commas, Row, Some_of, IsQual, IsDeclarator, IsMember, IsInstance, IsVariables, IsLocal, IsDecl}
use Rattle.gsl_syntax.specs.Declarations as decls
use Rattle.gsl_syntax.specs.Sentences.{NotVoid, IsParam, IsParams, IsBody, IsFunction, IsGlobal}
use Rattle.gsl_syntax.specs.Sentences as sentences
use Rattle.gsl_expr.specs.Reading.{Tokens, and_then, ◌>>=◌, pure, take_one, sees, sees_key, expect, name}
use Rattle.gsl_expr.specs.Expressions.{expr, dims, closes_after, void_alone}
use Rattle.gsl_expr.proofs.SoundOperands.{void_parts}
use Rattle.gsl_expr.proofs.Sound.{dims_sound}
use Rattle.gsl_expr.proofs.Taken.{Good, good_ok, good_map, good_then, good_expect, good_name, good_sign, good_word, good_close}
use Rattle.gsl_parse.specs.Lists.{some_of, further_of, commas_of}
use Rattle.gsl_expr.specs.Names.{sees_name}
use Rattle.gsl_parse.specs.Qualifiers.{qualifiers, typed}
use Rattle.gsl_parse.specs.Variables.{open_brace, member, declarator_from, declarator_at, struct_variables}
use Rattle.gsl_parse.specs.Statements.{statements_of, statement}
use Rattle.gsl_parse.specs.Units as read
use Rattle.gsl_parse.specs.Units.{parameter_from, parameter, parameters, function_body, function_from, variables_from, named_from, instance, opens_block, any_qual, global_from, global_at, some_left, globals}
use Rattle.gsl_parse.proofs.SoundLists.{row_of_sound, some_of_sound, further_of_sound, commas_of_sound}
use Rattle.gsl_parse.proofs.SoundDeclarators.{qualifiers_sound, typed_sound, declarator_from_sound, declarator_sound}
use Rattle.gsl_parse.proofs.SoundDeclarations.{member_sound, struct_variables_sound}
use Rattle.gsl_parse.proofs.SoundStatementParts.{Enclosed}
use Rattle.gsl_parse.proofs.SoundStatements.{statements_sound}

-- ---- parameters

parameter_from_sound : (d : ℕ) (qs : List Qual) (us : Tokens) (t : TypeSpec) (vs ts : Tokens) → Row IsQual qs us → IsType t vs → Good (λ b ys. IsParam b (us ++ (vs ++ ys))) ts (parameter_from d qs t ts)
unfolding parameter_from
parameter_from_sound d qs us t vs ts u w = go (sees_name ts)
  where
    go : (b : Bool) → Good (λ b ys. IsParam b (us ++ (vs ++ ys))) ts (cond b (and_then (name ts) (λ n. dims (expr d) >>= λ ds. pure (param.Named qs t n ds))) (Ok (param.Unnamed qs t, ts)))
    go true =
        good_name (λ b ys. IsParam b (us ++ (vs ++ ys))) ts (λ n. dims (expr d) >>= λ ds. pure (param.Named qs t n ds))
        (λ n rest e. good_map IsDims (λ b ys. IsParam b (us ++ (vs ++ token n.place (kind.Name n.text) ∷ ys))) (λ ds. param.Named qs t n ds) rest (dims (expr d) rest) (dims_sound d rest)
        (λ ds ys v. sentences.IsParam.with_name u w v))
    go false =
        good_ok (λ b ys. IsParam b (us ++ (vs ++ ys))) ts (param.Unnamed qs t) (subst (λ (z : Tokens). IsParam (param.Unnamed qs t) (us ++ z)) (sym (append-nil vs)) (sentences.IsParam.without_name u w))

pub parameter_sound : (d : ℕ) (ts : Tokens) → Good IsParam ts (parameter d ts)
unfolding parameter
parameter_sound d ts =
    good_then (Row IsQual) IsParam ts (qualifiers d ts) (λ qs. typed d >>= parameter_from d qs) (qualifiers_sound d ts)
    (λ qs us rest e u. good_then IsType (λ b ys. IsParam b (us ++ ys)) rest (typed d rest) (parameter_from d qs) (typed_sound d rest) (λ t vs after e2 w. parameter_from_sound d qs us t vs after u w))

void_shown : (p q : Place) (ts : Tokens) → void_alone (word p key.Void ∷ (sign q punct.RightParen ∷ ts)) ≡ true
unfolding void_alone sees sees_key
void_shown p q ts = refl

not_void : (ts xs rest after : Tokens) (q : Place) → void_alone ts ≡ false → ts ≡ xs ++ rest → rest ≡ sign q punct.RightParen ∷ after → NotVoid xs
not_void ts xs rest after q h e e2 p i =
    let is : ts ≡ word p key.Void ∷ (sign q punct.RightParen ∷ after) = e ∙ ap (λ (z : Tokens). z ++ rest) i ∙ ap (λ (z : Tokens). word p key.Void ∷ z) e2 in
    let clash : true ≡ false = sym (void_shown p q after) ∙ sym (ap void_alone is) ∙ h in
    absurd cc

-- parameters with the parenthesis that closes them
pub record Parened (ps : Params) (zs : Tokens) : Type 0 where
  pub inner : Tokens
  pub place : Place
  pub zs_is : zs ≡ inner ++ sign place punct.RightParen ∷ []
  pub params : IsParams ps inner

pub parened_is : {ps : Params} {xs : Tokens} (w : Parened ps xs) (ys : Tokens) → xs ++ ys ≡ w.inner ++ sign w.place punct.RightParen ∷ ys
parened_is w ys = ap (λ (z : Tokens). z ++ ys) w.zs_is ∙ append_assoc w.inner (sign w.place punct.RightParen ∷ []) ys

pub parameters_sound : (d : ℕ) (ts : Tokens) → Good Parened ts (parameters d ts)
unfolding parameters
parameters_sound d ts = go (sees punct.RightParen ts) (void_alone ts) refl refl
  where
    go : (b c : Bool) → sees punct.RightParen ts ≡ b → void_alone ts ≡ c
        → Good Parened ts
        (cond b (and_then (take_one ts) (λ _. pure (params.Items [])))
        (cond c (and_then (take_one ts) (λ p. take_one >>= λ _. pure (params.Void p))) (and_then (commas_of (parameter d) ts) (λ ps. expect punct.RightParen >>= λ _. pure (params.Items ps)))))
    go true c h i =
        good_sign Parened punct.RightParen ts (λ _. pure (params.Items [])) h
        (λ q rest e. good_ok (λ b ys. Parened b (sign q punct.RightParen ∷ ys)) rest (params.Items []) (record { inner = []; place = q; zs_is = refl; params = sentences.IsParams.none }))
    go false true h i =
        good_word Parened key.Void ts (λ p. take_one >>= λ _. pure (params.Void p)) (void_parts ts i).0
        (λ p rest e. good_sign (λ b ys. Parened b (word p key.Void ∷ ys)) punct.RightParen rest (λ _. pure (params.Void p)) (subst (λ (us : Tokens). closes_after us ≡ true) e (void_parts ts i).1)
        (λ q after e2. good_ok (λ b ys. Parened b (word p key.Void ∷ (sign q punct.RightParen ∷ ys))) after (params.Void p) (record { inner = word p key.Void ∷ []; place = q; zs_is = refl; params = sentences.IsParams.void })))
    go false false h i =
        good_then (Commas IsParam) Parened ts (commas_of (parameter d) ts) (λ ps. expect punct.RightParen >>= λ _. pure (params.Items ps)) (commas_of_sound IsParam (parameter d) (parameter_sound d) ts)
        (λ ps xs rest e w. good_expect (λ b ys. Parened b (xs ++ ys)) punct.RightParen rest (λ _. pure (params.Items ps))
        (λ q after e2. good_ok (λ b ys. Parened b (xs ++ sign q punct.RightParen ∷ ys)) after (params.Items ps)
        (record { inner = xs; place = q; zs_is = refl; params = sentences.IsParams.items w (not_void ts xs rest after q i e e2) })))

-- ---- functions

function_body_sound : (d : ℕ) (ts : Tokens) → Good IsBody ts (function_body d ts)
unfolding function_body
function_body_sound d ts = go (sees punct.Semicolon ts) refl
  where
    go : (b : Bool) → sees punct.Semicolon ts ≡ b
        → Good IsBody ts (cond b (and_then (take_one ts) (λ p. pure (body.Prototype p))) (and_then (expect punct.LeftBrace ts) (λ p. statements_of (statement d) >>= λ bs. pure (body.Block p bs))))
    go true h = good_sign IsBody punct.Semicolon ts (λ p. pure (body.Prototype p)) h (λ p rest e. good_ok (λ b ys. IsBody b (sign p punct.Semicolon ∷ ys)) rest (body.Prototype p) sentences.IsBody.prototype)
    go false h =
        good_expect IsBody punct.LeftBrace ts (λ p. statements_of (statement d) >>= λ bs. pure (body.Block p bs))
        (λ p rest e. good_map Enclosed (λ b ys. IsBody b (sign p punct.LeftBrace ∷ ys)) (λ bs. body.Block p bs) rest (statements_of (statement d) rest) (statements_sound d rest)
        (λ bs zs r. subst (λ (z : Tokens). IsBody (body.Block p bs) (sign p punct.LeftBrace ∷ z)) (sym r.zs_is) (sentences.IsBody.block r.place r.body)))

function_from_sound : (d : ℕ) (qs : List Qual) (us : Tokens) (t : TypeSpec) (vs : Tokens) (n : Name) (ts : Tokens) → sees punct.LeftParen ts ≡ true → Row IsQual qs us → IsType t vs
    → Good (λ f ys. IsFunction f (us ++ (vs ++ token n.place (kind.Name n.text) ∷ ys))) ts (function_from d qs t n ts)
unfolding function_from
function_from_sound d qs us t vs n ts h u w =
    good_sign (λ f ys. IsFunction f (us ++ (vs ++ token n.place (kind.Name n.text) ∷ ys))) punct.LeftParen ts (λ _. parameters d >>= λ ps. function_body d >>= λ b. pure (record { quals = qs; ty = t; name = n; params = ps; body = b })) h
    (λ o rest e. good_then Parened (λ f ys. IsFunction f (us ++ (vs ++ token n.place (kind.Name n.text) ∷ (sign o punct.LeftParen ∷ ys)))) rest (parameters d rest)
    (λ ps. function_body d >>= λ b. pure (record { quals = qs; ty = t; name = n; params = ps; body = b })) (parameters_sound d rest)
    (λ ps xs after e2 r. good_map IsBody (λ f ys. IsFunction f (us ++ (vs ++ token n.place (kind.Name n.text) ∷ (sign o punct.LeftParen ∷ (xs ++ ys))))) (λ b. record { quals = qs; ty = t; name = n; params = ps; body = b }) after
    (function_body d after) (function_body_sound d after)
    (λ b ys v. subst (λ (z : Tokens). IsFunction (record { quals = qs; ty = t; name = n; params = ps; body = b }) (us ++ (vs ++ token n.place (kind.Name n.text) ∷ (sign o punct.LeftParen ∷ z)))) (sym (parened_is r ys))
    (sentences.IsFunction.function o r.place u w r.params v))))

-- ---- what stands behind a name

variables_from_sound : (d : ℕ) (qs : List Qual) (us : Tokens) (t : TypeSpec) (vs : Tokens) (n : Name) (ts : Tokens) → Row IsQual qs us → IsType t vs
    → Good (λ x ys. IsVariables x (us ++ (vs ++ token n.place (kind.Name n.text) ∷ ys))) ts (variables_from d qs t n ts)
unfolding variables_from
variables_from_sound d qs us t vs n ts u w =
    good_then (λ ds ys. Commas IsDeclarator ds (token n.place (kind.Name n.text) ∷ ys)) (λ x ys. IsVariables x (us ++ (vs ++ token n.place (kind.Name n.text) ∷ ys))) ts
    (and_then (declarator_from d n ts) (further_of (declarator_at d))) (λ ds. expect punct.Semicolon >>= λ _. pure (decl.Variables qs t ds))
    (good_then (λ a ys. IsDeclarator a (token n.place (kind.Name n.text) ∷ ys)) (λ ds ys. Commas IsDeclarator ds (token n.place (kind.Name n.text) ∷ ys)) ts
    (declarator_from d n ts) (further_of (declarator_at d)) (declarator_from_sound d n ts)
    (λ a ys rest e v. further_of_sound IsDeclarator (declarator_at d) (declarator_sound d) a (token n.place (kind.Name n.text) ∷ ys) rest v))
    (λ ds ys rest e v. good_close (λ x zs. IsVariables x (us ++ (vs ++ token n.place (kind.Name n.text) ∷ (ys ++ zs)))) punct.Semicolon (decl.Variables qs t ds) rest (λ q. decls.IsVariables.variables q u w v))

named_from_sound : (d : ℕ) (qs : List Qual) (us : Tokens) (t : TypeSpec) (vs : Tokens) (n : Name) (ts : Tokens) → Row IsQual qs us → IsType t vs
    → Good (λ g ys. IsGlobal g (us ++ (vs ++ token n.place (kind.Name n.text) ∷ ys))) ts (named_from d qs t n ts)
unfolding named_from
named_from_sound d qs us t vs n ts u w = go (sees punct.LeftParen ts) refl
  where
    go : (b : Bool) → sees punct.LeftParen ts ≡ b
        → Good (λ g ys. IsGlobal g (us ++ (vs ++ token n.place (kind.Name n.text) ∷ ys))) ts
        (cond b (and_then (function_from d qs t n ts) (λ f. pure (global.Function f))) (and_then (variables_from d qs t n ts) (λ x. pure (global.Decl x))))
    go true h =
        good_map (λ f ys. IsFunction f (us ++ (vs ++ token n.place (kind.Name n.text) ∷ ys))) (λ g ys. IsGlobal g (us ++ (vs ++ token n.place (kind.Name n.text) ∷ ys))) (λ f. global.Function f) ts
        (function_from d qs t n ts) (function_from_sound d qs us t vs n ts h u w) (λ f ys v. sentences.IsGlobal.function v)
    go false h =
        good_map (λ x ys. IsVariables x (us ++ (vs ++ token n.place (kind.Name n.text) ∷ ys))) (λ g ys. IsGlobal g (us ++ (vs ++ token n.place (kind.Name n.text) ∷ ys))) (λ x. global.Decl x) ts
        (variables_from d qs t n ts) (variables_from_sound d qs us t vs n ts u w) (λ x ys v. sentences.IsGlobal.decl (decls.IsDecl.local (decls.IsLocal.variables v)))

-- ---- blocks

pub instance_sound : (ts : Tokens) → Good IsInstance ts (instance ts)
unfolding instance
instance_sound ts = go (sees_name ts)
  where
    go : (b : Bool) → Good IsInstance ts (cond b (and_then (name ts) (λ n. pure (Some n))) (Ok (None, ts)))
    go true = good_name IsInstance ts (λ n. pure (Some n)) (λ n rest e. good_ok (λ i ys. IsInstance i (token n.place (kind.Name n.text) ∷ ys)) rest (Some n) decls.IsInstance.some)
    go false = good_ok IsInstance ts None decls.IsInstance.none

block_sound : (d : ℕ) (qs : List Qual) (us ts : Tokens) → Some_of IsQual qs us → Good (λ x ys. IsDecl x (us ++ ys)) ts (read.block d qs ts)
unfolding read.block
block_sound d qs us ts u =
    good_name (λ x ys. IsDecl x (us ++ ys)) ts
    (λ n. expect punct.LeftBrace >>= λ _. some_of open_brace (member d) >>= λ ms. expect punct.RightBrace >>= λ _. instance >>= λ i. expect punct.Semicolon >>= λ _. pure (decl.Block qs n ms i))
    (λ n r1 e1. good_expect (λ x ys. IsDecl x (us ++ token n.place (kind.Name n.text) ∷ ys)) punct.LeftBrace r1
    (λ _. some_of open_brace (member d) >>= λ ms. expect punct.RightBrace >>= λ _. instance >>= λ i. expect punct.Semicolon >>= λ _. pure (decl.Block qs n ms i))
    (λ o r2 e2. good_then (Some_of IsMember) (λ x ys. IsDecl x (us ++ token n.place (kind.Name n.text) ∷ (sign o punct.LeftBrace ∷ ys))) r2 (some_of open_brace (member d) r2)
    (λ ms. expect punct.RightBrace >>= λ _. instance >>= λ i. expect punct.Semicolon >>= λ _. pure (decl.Block qs n ms i)) (some_of_sound IsMember (member d) (member_sound d) open_brace r2)
    (λ ms ys r3 e3 w. good_expect (λ x zs. IsDecl x (us ++ token n.place (kind.Name n.text) ∷ (sign o punct.LeftBrace ∷ (ys ++ zs)))) punct.RightBrace r3 (λ _. instance >>= λ i. expect punct.Semicolon >>= λ _. pure (decl.Block qs n ms i))
    (λ c r4 e4. good_then IsInstance (λ x zs. IsDecl x (us ++ token n.place (kind.Name n.text) ∷ (sign o punct.LeftBrace ∷ (ys ++ sign c punct.RightBrace ∷ zs)))) r4 (instance r4) (λ i. expect punct.Semicolon >>= λ _. pure (decl.Block qs n ms i)) (instance_sound r4)
    (λ i zs r5 e5 v. good_close (λ x end. IsDecl x (us ++ token n.place (kind.Name n.text) ∷ (sign o punct.LeftBrace ∷ (ys ++ sign c punct.RightBrace ∷ (zs ++ end))))) punct.Semicolon (decl.Block qs n ms i) r5
    (λ q. decls.IsDecl.block o c q u w v))))))

pub some_quals : {qs : List Qual} {us : Tokens} → any_qual qs ≡ true → Row IsQual qs us → Some_of IsQual qs us
some_quals h decls.Row.done = absurd cc
some_quals h (decls.Row.next w r) = decls.Some_of.these w r

-- ---- units

global_from_sound : (d : ℕ) (qs : List Qual) (us ts : Tokens) → Row IsQual qs us → Good (λ g ys. IsGlobal g (us ++ ys)) ts (global_from d qs ts)
unfolding global_from
global_from_sound d qs us ts u = go (sees_key key.Struct ts) (any_qual qs) (sees punct.Semicolon ts) (opens_block ts) refl refl refl
  where
    by_name : Good (λ g ys. IsGlobal g (us ++ ys)) ts (and_then (typed d ts) (λ t. name >>= named_from d qs t))
    by_name =
        good_then IsType (λ g ys. IsGlobal g (us ++ ys)) ts (typed d ts) (λ t. name >>= named_from d qs t) (typed_sound d ts)
        (λ t vs rest e w. good_name (λ g ys. IsGlobal g (us ++ (vs ++ ys))) rest (named_from d qs t) (λ n after e2. named_from_sound d qs us t vs n after u w))

    go : (b c e f : Bool) → sees_key key.Struct ts ≡ b → any_qual qs ≡ c → sees punct.Semicolon ts ≡ e
        → Good (λ g ys. IsGlobal g (us ++ ys)) ts
        (cond b (and_then (struct_variables d qs ts) (λ x. pure (global.Decl x)))
        (cond (c && e) (and_then (take_one ts) (λ _. pure (global.Decl (decl.Quals qs))))
        (cond (c && f) (and_then (read.block d qs ts) (λ x. pure (global.Decl x))) (and_then (typed d ts) (λ t. name >>= named_from d qs t)))))
    go true c e f h i j =
        good_map (λ x ys. IsLocal x (us ++ ys)) (λ g ys. IsGlobal g (us ++ ys)) (λ x. global.Decl x) ts (struct_variables d qs ts) (struct_variables_sound d qs us ts h u)
        (λ x ys w. sentences.IsGlobal.decl (decls.IsDecl.local w))
    go false true true f h i j =
        good_sign (λ g ys. IsGlobal g (us ++ ys)) punct.Semicolon ts (λ _. pure (global.Decl (decl.Quals qs))) j
        (λ q rest e. good_ok (λ g ys. IsGlobal g (us ++ sign q punct.Semicolon ∷ ys)) rest (global.Decl (decl.Quals qs)) (sentences.IsGlobal.decl (decls.IsDecl.quals q (some_quals i u))))
    go false true false true h i j =
        good_map (λ x ys. IsDecl x (us ++ ys)) (λ g ys. IsGlobal g (us ++ ys)) (λ x. global.Decl x) ts (read.block d qs ts) (block_sound d qs us ts (some_quals i u)) (λ x ys w. sentences.IsGlobal.decl w)
    go false true false false h i j = by_name
    go false false e f h i j = by_name

pub global_sound : (d : ℕ) (ts : Tokens) → Good IsGlobal ts (global_at d ts)
unfolding global_at
global_sound d ts = go (sees punct.Semicolon ts) refl
  where
    go : (b : Bool) → sees punct.Semicolon ts ≡ b → Good IsGlobal ts (cond b (and_then (take_one ts) (λ p. pure (global.Empty p))) (and_then (qualifiers d ts) (global_from d)))
    go true h = good_sign IsGlobal punct.Semicolon ts (λ p. pure (global.Empty p)) h (λ p rest e. good_ok (λ g ys. IsGlobal g (sign p punct.Semicolon ∷ ys)) rest (global.Empty p) sentences.IsGlobal.empty)
    go false h = good_then (Row IsQual) IsGlobal ts (qualifiers d ts) (global_from d) (qualifiers_sound d ts) (λ qs us rest e u. global_from_sound d qs us rest u)

pub globals_sound : (d : ℕ) (ts : Tokens) → Good (Row IsGlobal) ts (globals d ts)
unfolding globals
globals_sound d ts = row_of_sound IsGlobal (global_at d) (global_sound d) some_left ts
