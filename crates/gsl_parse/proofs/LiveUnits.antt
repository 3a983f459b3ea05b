-- What the reader of units took before a fault begins a unit.
use Rattle.std.proofs.Common.{◌≡◌, ℕ, Bool, true, false, cond, ◌&&◌, ◌⊎◌, inl, inr, List, [], ◌∷◌, ◌++◌, length, Some, None, refl, sym, ap, subst, ◌∙◌, arith}
use Rattle.std.proofs.lemmas.List.{append-nil}
use Rattle.gsl_base.specs.declared.fault.Place.{Place}
use Rattle.gsl_base.specs.declared.token.Punct.TheVariants as punct
use Rattle.gsl_base.specs.declared.token.Key.TheVariants as key
use Rattle.gsl_base.specs.declared.token.Kind.{Kind}
use Rattle.gsl_syntax.specs.declared.expr.TypeSpec.{TypeSpec}
use Rattle.gsl_syntax.specs.declared.declaration.Name.{Name}
use Rattle.gsl_syntax.specs.declared.declaration.Qual.{Qual}
use Rattle.gsl_syntax.specs.declared.declaration.Decl.{Decl}
use Rattle.gsl_syntax.specs.declared.declaration.Decl.TheVariants as decl
use Rattle.gsl_syntax.specs.declared.statement.Param.{Param}
use Rattle.gsl_syntax.specs.declared.statement.Param.TheVariants as param
use Rattle.gsl_syntax.specs.declared.statement.Params.TheVariants as params
use Rattle.gsl_syntax.specs.declared.statement.Body.TheVariants as body
use Rattle.gsl_syntax.specs.declared.statement.Function.{Function}
use Rattle.gsl_syntax.specs.declared.statement.Global.{Global}
use Rattle.gsl_syntax.specs.declared.statement.Global.TheVariants as global
use Rattle.gsl_syntax.specs.Phrases.{token, sign, word, IsType}
use Rattle.gsl_syntax.specs.Declarations.{Commas, Row, Some_of, IsQual, IsDeclarator, IsMember, IsInstance, IsVariables, IsDecl}
use Rattle.gsl_syntax.specs.Declarations as decls
use Rattle.gsl_syntax.specs.Sentences.{NotVoid, IsParam, IsParams, IsBody, IsFunction, IsGlobal}
use Rattle.gsl_syntax.specs.Sentences as sentences
use Rattle.gsl_expr.specs.Names.{sees_name}
use Rattle.gsl_expr.specs.Reading.{Tokens, and_then, ◌>>=◌, pure, take_one, is_key, sees, sees_key, expect, name}
use Rattle.gsl_expr.specs.Expressions.{closes_after, void_alone}
use Rattle.gsl_expr.proofs.Taken.{good_then, key_is}
use Rattle.gsl_expr.proofs.SoundOperands.{void_parts}
use Rattle.gsl_parse.specs.Lists.{further_of, commas_of}
use Rattle.gsl_parse.specs.Qualifiers.{typed}
use Rattle.gsl_parse.specs.Variables.{open_brace, member, declarator_from, declarator_at, struct_variables}
use Rattle.gsl_parse.specs.Statements.{statement}
use Rattle.gsl_parse.specs.Units as read
use Rattle.gsl_parse.specs.Units.{parameter_from, parameter, parameters, function_body, function_from, variables_from, named_from, instance, opens_block, any_qual, global_from, global_at, some_left, globals}
use Rattle.gsl_parse.proofs.SoundLists.{some_of_sound, further_of_sound, commas_of_sound}
use Rattle.gsl_parse.proofs.SoundDeclarators.{qualifiers_sound, typed_sound, declarator_from_sound, declarator_sound}
use Rattle.gsl_parse.proofs.SoundDeclarations.{member_sound}
use Rattle.gsl_parse.proofs.SoundStatements.{statement_ended}
use Rattle.gsl_parse.proofs.SoundUnits.{Parened, parened_is, parameter_sound, parameters_sound, instance_sound, some_quals, global_sound}
use Rattle.gsl_expr.proofs.Live.{Front, after, Opened, Live, Leads, live_pure, opened_map, live_then, live_map, no_place, opened_sign, opened_word, live_expect, live_close, called, live_name, live_sees, live_either}
use Rattle.gsl_parse.proofs.LiveLists.{row_of_live, some_of_live, further_of_live, commas_of_live}
use Rattle.gsl_parse.proofs.LiveDeclarations.{dims_of_live, qualifiers_live, typed_live, declarator_from_live, declarator_live, member_live, struct_variables_opened}
use Rattle.gsl_parse.proofs.LiveStatements.{statements_of_live, statement_live}

-- ---- parameters

parameter_from_live : (d : ℕ) (qs : List Qual) (us : Tokens) (t : TypeSpec) (vs : Tokens) (F : Front) → Row IsQual qs us → IsType t vs → ((b : Param) (ys : Tokens) → IsParam b (us ++ (vs ++ ys)) → F.holds ys) → Live F (parameter_from d qs t)
unfolding parameter_from
parameter_from_live d qs us t vs F u w lead =
    live_either sees_name
    (live_name (λ n. live_map (λ ds. param.Named qs t n ds) (dims_of_live d (after (called n ∷ []) F) (λ ds ys v. lead (param.Named qs t n ds) (called n ∷ ys) (sentences.IsParam.with_name u w v)))))
    (live_pure (param.Unnamed qs t) (lead (param.Unnamed qs t) [] (subst (λ (z : Tokens). IsParam (param.Unnamed qs t) (us ++ z)) (sym (append-nil vs)) (sentences.IsParam.without_name u w))))

parameter_live : (d : ℕ) (F : Front) → Leads IsParam F → Live F (parameter d)
unfolding parameter
parameter_live d F lead =
    live_then (Row IsQual) (qualifiers_sound d) (qualifiers_live d F) (λ qs us u. live_then IsType (typed_sound d) (typed_live d (after us F))
    (λ t vs w. parameter_from_live d qs us t vs (after vs (after us F)) u w (λ b ys v. lead b (us ++ (vs ++ ys)) v)))

-- `void` alone, or not
void_or : (xs : Tokens) → NotVoid xs ⊎ ((p : Place) × xs ≡ word p key.Void ∷ [])
unfolding sees_key
void_or [] = inl (λ p i. cc)
void_or (t ∷ []) = go (is_key key.Void t.kind) refl
  where
    go : (b : Bool) → is_key key.Void t.kind ≡ b → NotVoid (t ∷ []) ⊎ ((p : Place) × t ∷ [] ≡ word p key.Void ∷ [])
    go true h = inr (t.place, ap (λ (k : Kind). token t.place k ∷ []) (key_is key.Void t.kind h))
    go false h = inl (λ p i. let clash : false ≡ true = sym h ∙ ap (λ (zs : Tokens). sees_key key.Void zs) i in absurd cc)
void_or (t ∷ u ∷ more) = inl (λ p i. absurd (omega (arith, ap length i)))

parameters_live : (d : ℕ) (F : Front) → Leads Parened F → Live F (parameters d)
unfolding parameters
parameters_live d F lead = record {
  starts = F.closed [] (sign no_place punct.RightParen ∷ []) (lead (params.Items []) (sign no_place punct.RightParen ∷ []) (record { inner = []; place = no_place; zs_is = refl; params = sentences.IsParams.none }));
  opened = λ ts. go ts (sees punct.RightParen ts) (void_alone ts) refl refl;
}
  where
    closing : (ps : List Param) (xs : Tokens) (q : Place) → Commas IsParam ps xs → (NotVoid xs ⊎ ((p : Place) × xs ≡ word p key.Void ∷ [])) → F.holds (xs ++ sign q punct.RightParen ∷ [])
    closing ps xs q w (inl h) = lead (params.Items ps) (xs ++ sign q punct.RightParen ∷ []) (record { inner = xs; place = q; zs_is = refl; params = sentences.IsParams.items w h })
    closing ps xs q w (inr v) =
        lead (params.Void v.0) (xs ++ sign q punct.RightParen ∷ []) (record { inner = xs; place = q; zs_is = refl; params = subst (λ (z : Tokens). IsParams (params.Void v.0) z) (sym v.1) sentences.IsParams.void })

    listed : Live F (commas_of (parameter d) >>= λ ps. expect punct.RightParen >>= λ _. pure (params.Items ps))
    listed =
        live_then (Commas IsParam) (commas_of_sound IsParam (parameter d) (parameter_sound d)) (commas_of_live IsParam (parameter d) (parameter_sound d) (parameter_live d) F)
        (λ ps xs w. live_close punct.RightParen (params.Items ps) (λ q. closing ps xs q w (void_or xs)))

    go : (ts : Tokens) (b c : Bool) → sees punct.RightParen ts ≡ b → void_alone ts ≡ c
        → Opened F ts
        (cond b (and_then (take_one ts) (λ _. pure (params.Items [])))
        (cond c (and_then (take_one ts) (λ p. take_one >>= λ _. pure (params.Void p))) (and_then (commas_of (parameter d) ts) (λ ps. expect punct.RightParen >>= λ _. pure (params.Items ps)))))
    go ts true c h i = opened_sign F punct.RightParen ts (λ _. pure (params.Items [])) h (λ q rest split. tt)
    go ts false true h i =
        opened_word F key.Void ts (λ p. take_one >>= λ _. pure (params.Void p)) (void_parts ts i).0
        (λ p rest split. opened_sign (after (word p key.Void ∷ []) F) punct.RightParen rest (λ _. pure (params.Void p)) (subst (λ (us : Tokens). closes_after us ≡ true) split (void_parts ts i).1) (λ q last split2. tt))
    go ts false false h i = listed.opened ts

-- ---- functions

function_body_live : (d : ℕ) (F : Front) → Leads IsBody F → Live F (function_body d)
unfolding function_body
function_body_live d F lead =
    live_sees punct.Semicolon (λ p. live_pure (body.Prototype p) (lead (body.Prototype p) (sign p punct.Semicolon ∷ []) sentences.IsBody.prototype))
    (live_expect punct.LeftBrace (λ p. live_map (λ bs. body.Block p bs) (statements_of_live (statement d) (statement_ended d) (statement_live d) (after (sign p punct.LeftBrace ∷ []) F)
    (λ bs zs r. lead (body.Block p bs) (sign p punct.LeftBrace ∷ zs) (subst (λ (z : Tokens). IsBody (body.Block p bs) (sign p punct.LeftBrace ∷ z)) (sym r.zs_is) (sentences.IsBody.block r.place r.body))))))

function_from_opened : (d : ℕ) (qs : List Qual) (us : Tokens) (t : TypeSpec) (vs : Tokens) (n : Name) (ts : Tokens) (F : Front) → sees punct.LeftParen ts ≡ true → Row IsQual qs us → IsType t vs
    → ((f : Function) (ys : Tokens) → IsFunction f (us ++ (vs ++ called n ∷ ys)) → F.holds ys) → Opened F ts (function_from d qs t n ts)
unfolding function_from
function_from_opened d qs us t vs n ts F h u w lead =
    opened_sign F punct.LeftParen ts (λ _. parameters d >>= λ ps. function_body d >>= λ b. pure (record { quals = qs; ty = t; name = n; params = ps; body = b })) h
    (λ o rest split. (live_then Parened (parameters_sound d) (parameters_live d (after (sign o punct.LeftParen ∷ []) F))
    (λ ps xs r. live_map (λ b. record { quals = qs; ty = t; name = n; params = ps; body = b }) (function_body_live d (after xs (after (sign o punct.LeftParen ∷ []) F))
    (λ b ys v. lead (record { quals = qs; ty = t; name = n; params = ps; body = b }) (sign o punct.LeftParen ∷ (xs ++ ys))
    (subst (λ (z : Tokens). IsFunction (record { quals = qs; ty = t; name = n; params = ps; body = b }) (us ++ (vs ++ called n ∷ (sign o punct.LeftParen ∷ z)))) (sym (parened_is r ys)) (sentences.IsFunction.function o r.place u w r.params v)))))).opened rest)

-- ---- what stands behind a name

variables_from_live : (d : ℕ) (qs : List Qual) (us : Tokens) (t : TypeSpec) (vs : Tokens) (n : Name) (F : Front) → Row IsQual qs us → IsType t vs → ((x : Decl) (ys : Tokens) → IsVariables x (us ++ (vs ++ called n ∷ ys)) → F.holds ys) → Live F (variables_from d qs t n)
unfolding variables_from
variables_from_live d qs us t vs n F u w lead =
    live_then (λ ds ys. Commas IsDeclarator ds (called n ∷ ys))
    (λ ts. good_then (λ a ys. IsDeclarator a (called n ∷ ys)) (λ ds ys. Commas IsDeclarator ds (called n ∷ ys)) ts (declarator_from d n ts) (further_of (declarator_at d)) (declarator_from_sound d n ts)
    (λ a ys rest e v. further_of_sound IsDeclarator (declarator_at d) (declarator_sound d) a (called n ∷ ys) rest v))
    (λ ends. live_then (λ a ys. IsDeclarator a (called n ∷ ys)) (declarator_from_sound d n) (declarator_from_live d n F)
    (λ a ys v. further_of_live IsDeclarator (declarator_at d) (declarator_sound d) (declarator_live d) a (called n ∷ ys) (after ys F) v (λ bs zs c. ends bs (ys ++ zs) c)))
    (λ ds ys v. live_close punct.Semicolon (decl.Variables qs t ds) (λ q. lead (decl.Variables qs t ds) (ys ++ sign q punct.Semicolon ∷ []) (decls.IsVariables.variables q u w v)))

named_from_live : (d : ℕ) (qs : List Qual) (us : Tokens) (t : TypeSpec) (vs : Tokens) (n : Name) (F : Front) → Row IsQual qs us → IsType t vs → ((g : Global) (ys : Tokens) → IsGlobal g (us ++ (vs ++ called n ∷ ys)) → F.holds ys) → Live F (named_from d qs t n)
unfolding named_from
named_from_live d qs us t vs n F u w lead = record { starts = others.starts; opened = λ ts. go ts (sees punct.LeftParen ts) refl }
  where
    others : Live F (variables_from d qs t n)
    others = variables_from_live d qs us t vs n F u w (λ x ys v. lead (global.Decl x) ys (sentences.IsGlobal.decl (decls.IsDecl.local (decls.IsLocal.variables v))))

    go : (ts : Tokens) (b : Bool) → sees punct.LeftParen ts ≡ b → Opened F ts (cond b (and_then (function_from d qs t n ts) (λ f. pure (global.Function f))) (and_then (variables_from d qs t n ts) (λ x. pure (global.Decl x))))
    go ts true h =
        opened_map F (λ f. global.Function f) ts (function_from d qs t n ts) (function_from_opened d qs us t vs n ts F h u w (λ f ys v. lead (global.Function f) ys (sentences.IsGlobal.function v)))
    go ts false h = opened_map F (λ x. global.Decl x) ts (variables_from d qs t n ts) (others.opened ts)

-- ---- blocks

instance_live : (F : Front) → Leads IsInstance F → Live F instance
unfolding instance
instance_live F lead = live_either sees_name (live_name (λ n. live_pure (Some n) (lead (Some n) (called n ∷ []) decls.IsInstance.some))) (live_pure None (lead None [] decls.IsInstance.none))

block_live : (d : ℕ) (qs : List Qual) (us : Tokens) (F : Front) → Some_of IsQual qs us → ((x : Decl) (ys : Tokens) → IsDecl x (us ++ ys) → F.holds ys) → Live F (read.block d qs)
unfolding read.block
block_live d qs us F u lead =
    live_name (λ n. live_expect punct.LeftBrace (λ o. live_then (Some_of IsMember) (some_of_sound IsMember (member d) (member_sound d) open_brace)
    (some_of_live IsMember (member d) (member_sound d) (member_live d) open_brace (after (sign o punct.LeftBrace ∷ []) (after (called n ∷ []) F)))
    (λ ms ys w. live_expect punct.RightBrace (λ c. live_then IsInstance instance_sound (instance_live (after (sign c punct.RightBrace ∷ []) (after ys (after (sign o punct.LeftBrace ∷ []) (after (called n ∷ []) F)))))
    (λ i zs v. live_close punct.Semicolon (decl.Block qs n ms i)
    (λ q. lead (decl.Block qs n ms i) (called n ∷ (sign o punct.LeftBrace ∷ (ys ++ sign c punct.RightBrace ∷ (zs ++ sign q punct.Semicolon ∷ [])))) (decls.IsDecl.block o c q u w v)))))))

-- ---- units

global_from_live : (d : ℕ) (qs : List Qual) (us : Tokens) (F : Front) → Row IsQual qs us → ((g : Global) (ys : Tokens) → IsGlobal g (us ++ ys) → F.holds ys) → Live F (global_from d qs)
unfolding global_from
global_from_live d qs us F u lead = record { starts = by_name.starts; opened = λ ts. go ts (sees_key key.Struct ts) (any_qual qs) (sees punct.Semicolon ts) (opens_block ts) refl refl refl }
  where
    by_name : Live F (typed d >>= λ t. name >>= named_from d qs t)
    by_name =
        live_then IsType (typed_sound d) (typed_live d F)
        (λ t vs w. live_name (λ n. named_from_live d qs us t vs n (after (called n ∷ []) (after vs F)) u w (λ g ys v. lead g (vs ++ called n ∷ ys) v)))

    go : (ts : Tokens) (b c e f : Bool) → sees_key key.Struct ts ≡ b → any_qual qs ≡ c → sees punct.Semicolon ts ≡ e
        → Opened F ts
        (cond b (and_then (struct_variables d qs ts) (λ x. pure (global.Decl x)))
        (cond (c && e) (and_then (take_one ts) (λ _. pure (global.Decl (decl.Quals qs))))
        (cond (c && f) (and_then (read.block d qs ts) (λ x. pure (global.Decl x))) (and_then (typed d ts) (λ t. name >>= named_from d qs t)))))
    go ts true c e f h i j =
        opened_map F (λ x. global.Decl x) ts (struct_variables d qs ts) (struct_variables_opened d qs us ts F h u (λ x ys w. lead (global.Decl x) ys (sentences.IsGlobal.decl (decls.IsDecl.local w))))
    go ts false true true f h i j = opened_sign F punct.Semicolon ts (λ _. pure (global.Decl (decl.Quals qs))) j (λ q rest split. tt)
    go ts false true false true h i j =
        opened_map F (λ x. global.Decl x) ts (read.block d qs ts) ((block_live d qs us F (some_quals i u) (λ x ys w. lead (global.Decl x) ys (sentences.IsGlobal.decl w))).opened ts)
    go ts false true false false h i j = by_name.opened ts
    go ts false false e f h i j = by_name.opened ts

global_live : (d : ℕ) (F : Front) → Leads IsGlobal F → Live F (global_at d)
unfolding global_at
global_live d F lead =
    live_sees punct.Semicolon (λ p. live_pure (global.Empty p) (lead (global.Empty p) (sign p punct.Semicolon ∷ []) sentences.IsGlobal.empty))
    (live_then (Row IsQual) (qualifiers_sound d) (qualifiers_live d F) (λ qs us u. global_from_live d qs us (after us F) u (λ g ys w. lead g (us ++ ys) w)))

-- the reader of units
pub globals_live : (d : ℕ) (F : Front) → Leads (Row IsGlobal) F → Live F (globals d)
unfolding globals
globals_live d F lead = row_of_live IsGlobal (global_at d) (global_sound d) (global_live d) some_left F lead
