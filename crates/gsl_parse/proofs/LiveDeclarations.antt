-- What the readers of qualifiers, types and declarations took before a fault begins one.
use Rattle.std.proofs.Common.{◌≡◌, ℕ, zero, suc, Bool, true, false, cond, ◌&&◌, List, [], ◌∷◌, ◌++◌, length, Option, Some, None, refl, sym, subst, append_assoc, arith}
use Rattle.std.proofs.lemmas.List.{append-nil}
use Rattle.gsl_base.specs.declared.token.Punct.TheVariants as punct
use Rattle.gsl_base.specs.declared.token.Key.TheVariants as key
use Rattle.gsl_syntax.specs.declared.expr.Expr.{Expr}
use Rattle.gsl_syntax.specs.declared.expr.TypeSpec.{TypeSpec}
use Rattle.gsl_syntax.specs.declared.expr.TypeSpec.TheVariants as ty
use Rattle.gsl_syntax.specs.declared.declaration.Name.{Name}
use Rattle.gsl_syntax.specs.declared.declaration.Qual.{Qual}
use Rattle.gsl_syntax.specs.declared.declaration.Qual.TheVariants as qual
use Rattle.gsl_syntax.specs.declared.declaration.Lay.TheVariants as lay
use Rattle.gsl_syntax.specs.declared.declaration.Init.{Init}
use Rattle.gsl_syntax.specs.declared.declaration.Init.TheVariants as init
use Rattle.gsl_syntax.specs.declared.declaration.Declarator.{Declarator}
use Rattle.gsl_syntax.specs.declared.declaration.Declarator.TheVariants as declarator
use Rattle.gsl_syntax.specs.declared.declaration.Struct.{Struct}
use Rattle.gsl_syntax.specs.declared.declaration.Decl.{Decl}
use Rattle.gsl_syntax.specs.declared.declaration.Decl.TheVariants as decl
use Rattle.gsl_syntax.specs.declared.statement.ForInit.{ForInit}
use Rattle.gsl_syntax.specs.declared.statement.ForInit.TheVariants as for_init
use Rattle.gsl_syntax.specs.Phrases.{sign, word, IsExpr, IsType, IsDims}
use Rattle.gsl_syntax.specs.Phrases as phrases
use Rattle.gsl_syntax.specs.Declarations.{Commas, Row, Some_of, IsLay, IsQual, IsDeclared, IsInit, IsDeclarator, IsDeclarators, IsStructMember, IsStruct, IsMember, IsVariables, IsLocal}
use Rattle.gsl_syntax.specs.Declarations as decls
use Rattle.gsl_syntax.specs.Statements.{IsForInit}
use Rattle.gsl_syntax.specs.Statements as stmts
use Rattle.gsl_expr.specs.declared.rule.Start.{Start}
use Rattle.gsl_expr.specs.declared.rule.Start.TheVariants as start
use Rattle.gsl_expr.specs.declared.rule.Head.{Head}
use Rattle.gsl_expr.specs.Rules.{start_at}
use Rattle.gsl_expr.specs.Names.{sees_name}
use Rattle.gsl_expr.specs.Reading.{Tokens, Parser, and_then, ◌>>=◌, pure, sees, sees_key, expect, name}
use Rattle.gsl_expr.specs.Expressions.{expr, dims, basic_head, head_type, may_be_open, applied, completed}
use Rattle.gsl_expr.proofs.Taken.{Good}
use Rattle.gsl_expr.proofs.SoundLevels.{looser}
use Rattle.gsl_expr.proofs.SoundHeads.{Stands, stands_type}
use Rattle.gsl_expr.proofs.SoundOperands.{whole_ready, applied_good}
use Rattle.gsl_expr.proofs.SoundClimb.{nested}
use Rattle.gsl_expr.proofs.Sound.{expr_sound, dims_sound, basic_head_sound, named_head_sound, head_rest_sound}
use Rattle.gsl_parse.specs.Lists.{some_of, commas_of}
use Rattle.gsl_parse.specs.Qualifiers as read
use Rattle.gsl_parse.specs.Qualifiers.{plain_by, plain_at, begins_qual, lay_item, qualifier, qualifiers, type_as, typed}
use Rattle.gsl_parse.specs.Variables.{declared, initialisers, braces, initialiser, declarator_from, declarator_at, open_brace, struct_member, structure, member, declarators, variables_of, variables, struct_variables, local_from, expr_from, phrase_from, phrase_as, phrase, header}
use Rattle.gsl_parse.proofs.SoundLists.{some_of_sound, commas_of_sound}
use Rattle.gsl_parse.proofs.SoundDeclarators.{Ends, Listed, last_init, more_inits, braces_of, lay_item_sound, qualifier_sound, qualifiers_sound, typed_sound, declared_sound, initialiser_sound, declarator_sound}
use Rattle.gsl_parse.proofs.SoundDeclarations.{struct_member_sound, structure_sound, declarators_sound}
use Rattle.gsl_expr.proofs.Live.{Front, after, Opened, Live, Leads, fails, live_pure, live_fail, opened_then, opened_map, nil_off, live_then, live_map, no_place, opened_sign, opened_word, live_expect, live_close, called, live_name, live_sees, live_either}
use Rattle.gsl_expr.proofs.LiveExpressions.{any_expr, any_token, dims_live, named_head_live, basic_head_opened, applied_live, completed_opened, expr_live}
use Rattle.gsl_parse.proofs.LiveLists.{row_of_live, some_of_live, commas_of_live}

-- ---- qualifiers and types

lay_item_live : (d : ℕ) (F : Front) → Leads IsLay F → Live F (lay_item d)
unfolding lay_item
lay_item_live d F lead =
    live_name (λ n. live_sees punct.Equal
    (λ q. live_map (λ a. lay.Value n a) (expr_live d 2 (omega arith) (after (sign q punct.Equal ∷ []) (after (called n ∷ []) F)) (λ a xs w. lead (lay.Value n a) (called n ∷ (sign q punct.Equal ∷ xs)) (decls.IsLay.value q w))))
    (live_pure (lay.Flag n) (lead (lay.Flag n) (called n ∷ []) decls.IsLay.flag)))

plain_opened : (F : Front) (ts : Tokens) → F.holds [] → Opened F ts (read.plain (plain_at ts) ts)
unfolding plain_at
plain_opened F [] h = fails F [] h
plain_opened F (t ∷ rest) h = go (plain_by t.place t.kind)
  where
    go : (o : Option Qual) → Opened F (t ∷ rest) (read.plain o (t ∷ rest))
    go (Some q) = tt
    go None = fails F (t ∷ rest) h

qualifier_live : (d : ℕ) (F : Front) → Leads IsQual F → Live F (qualifier d)
unfolding qualifier
qualifier_live d F lead = record { starts = start; opened = λ ts. go ts (sees_key key.Layout ts) refl }
  where
    start : F.holds []
    start = F.closed [] (word no_place key.Const ∷ []) (lead (qual.Const no_place) (word no_place key.Const ∷ []) (decls.IsQual.plain no_place key.Const refl))

    go : (ts : Tokens) (b : Bool) → sees_key key.Layout ts ≡ b → Opened F ts (cond b (read.layout d ts) (read.plain (plain_at ts) ts))
    go ts true h =
        opened_word F key.Layout ts (λ p. expect punct.LeftParen >>= λ _. commas_of (lay_item d) >>= λ ls. expect punct.RightParen >>= λ _. pure (qual.Layout p ls)) h
        (λ p rest split. (live_expect punct.LeftParen (λ o. live_then (Commas IsLay) (commas_of_sound IsLay (lay_item d) (lay_item_sound d))
        (commas_of_live IsLay (lay_item d) (lay_item_sound d) (lay_item_live d) (after (sign o punct.LeftParen ∷ []) (after (word p key.Layout ∷ []) F)))
        (λ ls xs w. live_close punct.RightParen (qual.Layout p ls)
        (λ c. lead (qual.Layout p ls) (word p key.Layout ∷ (sign o punct.LeftParen ∷ (xs ++ sign c punct.RightParen ∷ []))) (decls.IsQual.layout o c w))))).opened rest)
    go ts false h = plain_opened F ts start

pub qualifiers_live : (d : ℕ) (F : Front) → Leads (Row IsQual) F → Live F (qualifiers d)
qualifiers_live d F lead = row_of_live IsQual (qualifier d) (qualifier_sound d) (qualifier_live d) begins_qual F lead

pub dims_of_live : (d : ℕ) (F : Front) → Leads IsDims F → Live F (dims (expr d))
dims_of_live d = dims_live (expr d) (nested d) (expr_live d)

pub typed_live : (d : ℕ) (F : Front) → Leads IsType F → Live F (typed d)
unfolding typed
typed_live d F lead = record { starts = first; opened = λ ts. go ts (start_at ts) refl }
  where
    first : F.holds []
    first = F.closed [] (any_token ∷ []) (lead (ty.Named no_place [] []) (any_token ∷ []) (phrases.IsType.named phrases.IsDims.no_dims))

    go : (ts : Tokens) (s : Start) → start_at ts ≡ s → Opened F ts (type_as d s ts)
    go ts start.Name h =
        (live_name (λ n. live_map (λ ds. ty.Named n.place n.text ds) (dims_of_live d (after (called n ∷ []) F) (λ ds xs w. lead (ty.Named n.place n.text ds) (called n ∷ xs) (phrases.IsType.named w))))).opened ts
    go ts (start.Basic b) h =
        opened_map F head_type ts (basic_head (expr d) b ts) (basic_head_opened (expr d) (nested d) (expr_live d) F b ts h (λ g xs s o. lead (head_type g) xs (stands_type o s)))
    go ts (start.Signed n) h = fails F ts first
    go ts (start.Unsigned n) h = fails F ts first
    go ts (start.Bool b) h = fails F ts first
    go ts start.Paren h = fails F ts first
    go ts (start.Unary o) h = fails F ts first
    go ts start.Bad h = fails F ts first

declared_live : (d : ℕ) (F : Front) → Leads IsDeclared F → Live F (declared d)
unfolding declared
declared_live d F lead =
    live_name (λ n. live_map (λ ds. record { name = n; dims = ds }) (dims_of_live d (after (called n ∷ []) F) (λ ds xs w. lead (record { name = n; dims = ds }) (called n ∷ xs) (decls.IsDeclared.declared w))))

-- ---- initialisers

begins_init : (F : Front) → Leads IsInit F → F.holds []
begins_init F lead = F.closed [] (any_token ∷ []) (lead (init.Expr any_expr) (any_token ∷ []) (decls.IsInit.plain phrases.IsExpr.name))

module _ (item : Parser Init) (each : (ts : Tokens) → Good IsInit ts (item ts)) (live : (F : Front) → Leads IsInit F → Live F item) where
  initialisers_live : (n : ℕ) (found : List Init) (F : Front) → ((bs : List Init) (zs : Tokens) → Listed found bs zs → F.holds zs) → Live F (initialisers item n found)
  unfolding initialisers
  initialisers_live zero found F lead =
      live_fail (F.closed [] (any_token ∷ (sign no_place punct.RightBrace ∷ [])) (lead (found ++ init.Expr any_expr ∷ []) (any_token ∷ (sign no_place punct.RightBrace ∷ []))
      (last_init found (init.Expr any_expr) (any_token ∷ []) (sign no_place punct.RightBrace ∷ []) (decls.IsInit.plain phrases.IsExpr.name) (Ends.at_once no_place))))
  initialisers_live (suc n) found F lead =
      live_then IsInit each (live F) (λ a xs w. live_sees punct.Comma
      (λ p. live_sees punct.RightBrace
      (λ q. live_pure (found ++ a ∷ []) (lead (found ++ a ∷ []) (xs ++ sign p punct.Comma ∷ (sign q punct.RightBrace ∷ [])) (last_init found a xs (sign p punct.Comma ∷ (sign q punct.RightBrace ∷ [])) w (Ends.behind_comma p q))))
      (initialisers_live n (found ++ a ∷ []) (after (sign p punct.Comma ∷ []) (after xs F)) (λ bs zs r. lead bs (xs ++ sign p punct.Comma ∷ zs) (more_inits found a xs p bs zs w r))))
      (live_close punct.RightBrace (found ++ a ∷ []) (λ q. lead (found ++ a ∷ []) (xs ++ sign q punct.RightBrace ∷ []) (last_init found a xs (sign q punct.RightBrace ∷ []) w (Ends.at_once q)))))

  braces_opened : (F : Front) (ts : Tokens) → Leads IsInit F → sees punct.LeftBrace ts ≡ true → Opened F ts (braces item ts)
  braces_opened F ts lead h =
      opened_sign F punct.LeftBrace ts (λ p us. and_then (initialisers item (length us) [] us) (λ bs. pure (init.Braces p bs))) h
      (λ p rest split. opened_map (after (sign p punct.LeftBrace ∷ []) F) (λ bs. init.Braces p bs) rest (initialisers item (length rest) [] rest)
      ((initialisers_live (length rest) [] (after (sign p punct.LeftBrace ∷ []) F) (λ bs zs r. lead (init.Braces p bs) (sign p punct.LeftBrace ∷ zs) (braces_of p bs zs r))).opened rest))

initialiser_live : (d n : ℕ) (F : Front) → Leads IsInit F → Live F (initialiser d n)
unfolding initialiser
initialiser_live d zero F lead = live_fail (begins_init F lead)
initialiser_live d (suc n) F lead = record { starts = begins_init F lead; opened = λ ts. go ts (sees punct.LeftBrace ts) refl (initialiser_live d n) }
  where
    go : (ts : Tokens) (b : Bool) → sees punct.LeftBrace ts ≡ b → ((G : Front) → Leads IsInit G → Live G (initialiser d n)) → Opened F ts (cond b (braces (initialiser d n) ts) (and_then (expr d 1 ts) (λ a. pure (init.Expr a))))
    go ts true h ih = braces_opened (initialiser d n) (initialiser_sound d n) ih F ts lead h
    go ts false h ih = opened_map F (λ a. init.Expr a) ts (expr d 1 ts) ((expr_live d 1 (omega arith) F (λ a xs w. lead (init.Expr a) xs (decls.IsInit.plain w))).opened ts)

-- ---- declarators

pub declarator_from_live : (d : ℕ) (n : Name) (F : Front) → ((a : Declarator) (ys : Tokens) → IsDeclarator a (called n ∷ ys) → F.holds ys) → Live F (declarator_from d n)
unfolding declarator_from
declarator_from_live d n F lead =
    live_then IsDims (dims_sound d) (dims_of_live d F) (λ ds xs w. live_sees punct.Equal
    (λ q. live_map (λ i. declarator.Initialised n ds i) (initialiser_live d d (after (sign q punct.Equal ∷ []) (after xs F))
    (λ i ys v. lead (declarator.Initialised n ds i) (xs ++ sign q punct.Equal ∷ ys) (decls.IsDeclarator.initialised q w v))))
    (live_pure (declarator.Plain n ds) (lead (declarator.Plain n ds) (xs ++ []) (subst (λ (z : Tokens). IsDeclarator (declarator.Plain n ds) (called n ∷ z)) (sym (append-nil xs)) (decls.IsDeclarator.plain w)))))

pub declarator_live : (d : ℕ) (F : Front) → Leads IsDeclarator F → Live F (declarator_at d)
unfolding declarator_at
declarator_live d F lead = live_name (λ n. declarator_from_live d n (after (called n ∷ []) F) (λ a ys w. lead a (called n ∷ ys) w))

names_live : (d : ℕ) (F : Front) → Leads (Commas IsDeclared) F → Live F (commas_of (declared d))
names_live d = commas_of_live IsDeclared (declared d) (declared_sound d) (declared_live d)

declarators_of_live : (d : ℕ) (F : Front) → Leads (Commas IsDeclarator) F → Live F (commas_of (declarator_at d))
declarators_of_live d = commas_of_live IsDeclarator (declarator_at d) (declarator_sound d) (declarator_live d)

-- ---- structs and members

struct_member_live : (d : ℕ) (F : Front) → Leads IsStructMember F → Live F (struct_member d)
unfolding struct_member
struct_member_live d F lead =
    live_then IsType (typed_sound d) (typed_live d F) (λ t xs w. live_then (Commas IsDeclared) (commas_of_sound IsDeclared (declared d) (declared_sound d)) (names_live d (after xs F))
    (λ ns ys v. live_close punct.Semicolon (record { ty = t; names = ns }) (λ q. lead (record { ty = t; names = ns }) (xs ++ (ys ++ sign q punct.Semicolon ∷ [])) (decls.IsStructMember.member q w v))))

pub member_live : (d : ℕ) (F : Front) → Leads IsMember F → Live F (member d)
unfolding member
member_live d F lead =
    live_then (Row IsQual) (qualifiers_sound d) (qualifiers_live d F) (λ qs us u. live_then IsType (typed_sound d) (typed_live d (after us F))
    (λ t xs w. live_then (Commas IsDeclared) (commas_of_sound IsDeclared (declared d) (declared_sound d)) (names_live d (after xs (after us F)))
    (λ ns ys v. live_close punct.Semicolon (record { quals = qs; ty = t; names = ns })
    (λ q. lead (record { quals = qs; ty = t; names = ns }) (us ++ (xs ++ (ys ++ sign q punct.Semicolon ∷ []))) (decls.IsMember.member q u w v)))))

structure_opened : (d : ℕ) (F : Front) (ts : Tokens) → sees_key key.Struct ts ≡ true → Leads IsStruct F → Opened F ts (structure d ts)
unfolding structure
structure_opened d F ts h lead =
    opened_word F key.Struct ts (λ p. name >>= λ n. expect punct.LeftBrace >>= λ _. some_of open_brace (struct_member d) >>= λ ms. expect punct.RightBrace >>= λ _. pure (record { place = p; name = n; members = ms })) h
    (λ p rest split. (live_name (λ n. live_expect punct.LeftBrace
    (λ o. live_then (Some_of IsStructMember) (some_of_sound IsStructMember (struct_member d) (struct_member_sound d) open_brace)
    (some_of_live IsStructMember (struct_member d) (struct_member_sound d) (struct_member_live d) open_brace (after (sign o punct.LeftBrace ∷ []) (after (called n ∷ []) (after (word p key.Struct ∷ []) F))))
    (λ ms xs w. live_close punct.RightBrace (record { place = p; name = n; members = ms })
    (λ c. lead (record { place = p; name = n; members = ms }) (word p key.Struct ∷ (called n ∷ (sign o punct.LeftBrace ∷ (xs ++ sign c punct.RightBrace ∷ [])))) (decls.IsStruct.struct o c w)))))).opened rest)

-- ---- variables

declarators_live : (d : ℕ) (F : Front) → Leads IsDeclarators F → Live F (declarators d)
unfolding declarators
declarators_live d F lead = live_either (sees punct.Semicolon) (live_pure [] (lead [] [] decls.IsDeclarators.none)) (declarators_of_live d F (λ ds xs w. lead ds xs (decls.IsDeclarators.some w)))

variables_of_live : (d : ℕ) (qs : List Qual) (us : Tokens) (t : TypeSpec) (vs : Tokens) (F : Front) → Row IsQual qs us → IsType t vs → ((x : Decl) (ys : Tokens) → IsVariables x (us ++ (vs ++ ys)) → F.holds ys) → Live F (variables_of d qs t)
unfolding variables_of
variables_of_live d qs us t vs F u w lead =
    live_then (Commas IsDeclarator) (commas_of_sound IsDeclarator (declarator_at d) (declarator_sound d)) (declarators_of_live d F)
    (λ ds xs v. live_close punct.Semicolon (decl.Variables qs t ds) (λ q. lead (decl.Variables qs t ds) (xs ++ sign q punct.Semicolon ∷ []) (decls.IsVariables.variables q u w v)))

pub variables_live : (d : ℕ) (qs : List Qual) (us : Tokens) (F : Front) → Row IsQual qs us → ((x : Decl) (ys : Tokens) → IsVariables x (us ++ ys) → F.holds ys) → Live F (variables d qs)
unfolding variables
variables_live d qs us F u lead = live_then IsType (typed_sound d) (typed_live d F) (λ t vs w. variables_of_live d qs us t vs (after vs F) u w (λ x ys v. lead x (vs ++ ys) v))

pub struct_variables_opened : (d : ℕ) (qs : List Qual) (us ts : Tokens) (F : Front) → sees_key key.Struct ts ≡ true → Row IsQual qs us → ((x : Decl) (ys : Tokens) → IsLocal x (us ++ ys) → F.holds ys) → Opened F ts (struct_variables d qs ts)
unfolding struct_variables
struct_variables_opened d qs us ts F h u lead =
    opened_then F IsStruct ts (structure d ts) (λ s. declarators d >>= λ ds. expect punct.Semicolon >>= λ _. pure (decl.Struct qs s ds)) (structure_sound d ts h)
    (structure_opened d F ts h (λ s xs w. nil_off F xs (behind s xs w).starts)) (λ s xs rest split w. (behind s xs w).opened rest)
  where
    behind : (s : Struct) (xs : Tokens) → IsStruct s xs → Live (after xs F) (declarators d >>= λ ds. expect punct.Semicolon >>= λ _. pure (decl.Struct qs s ds))
    behind s xs w =
        live_then IsDeclarators (declarators_sound d) (declarators_live d (after xs F))
        (λ ds ys v. live_close punct.Semicolon (decl.Struct qs s ds) (λ q. lead (decl.Struct qs s ds) (xs ++ (ys ++ sign q punct.Semicolon ∷ [])) (decls.IsLocal.struct q u w v)))

pub local_from_live : (d : ℕ) (qs : List Qual) (us : Tokens) (F : Front) → Row IsQual qs us → ((x : Decl) (ys : Tokens) → IsLocal x (us ++ ys) → F.holds ys) → Live F (local_from d qs)
unfolding local_from
local_from_live d qs us F u lead = record { starts = others.starts; opened = λ ts. go ts (sees_key key.Struct ts) refl }
  where
    others : Live F (variables d qs)
    others = variables_live d qs us F u (λ x ys w. lead x ys (decls.IsLocal.variables w))

    go : (ts : Tokens) (b : Bool) → sees_key key.Struct ts ≡ b → Opened F ts (cond b (struct_variables d qs ts) (variables d qs ts))
    go ts true h = struct_variables_opened d qs us ts F h u lead
    go ts false h = others.opened ts

-- ---- an expression or variables

expr_from_live : (d : ℕ) (h : Head) (xs : Tokens) (F : Front) → Stands h xs → ((i : ForInit) (ys : Tokens) → IsForInit i (xs ++ ys) → F.holds ys) → Live F (expr_from d h)
expr_from_live d h xs F s lead =
    live_then (λ a ys. IsExpr 0 a (xs ++ ys)) (λ ts. head_rest_sound d h xs ts s) whole
    (λ a ys w. live_close punct.Semicolon (for_init.Expr a)
    (λ q. lead (for_init.Expr a) (ys ++ sign q punct.Semicolon ∷ []) (subst (λ (z : Tokens). IsForInit (for_init.Expr a) z) (append_assoc xs ys (sign q punct.Semicolon ∷ [])) (stmts.IsForInit.expr q w))))
  where
    whole : Leads (λ (a : Expr) ys. IsExpr 0 a (xs ++ ys)) F → Live F (applied (expr d) h >>= completed (expr d) 0)
    whole ends =
        live_then (λ a ys. IsExpr 15 a (xs ++ ys)) (λ ts. applied_good (expr d) (nested d) h xs ts s) (applied_live (expr d) (nested d) (expr_live d) h xs F s)
        (λ a ys w. record {
          starts = ends a (ys ++ []) (subst (λ (z : Tokens). IsExpr 0 a (xs ++ z)) (sym (append-nil ys)) (looser (omega arith) w));
          opened = λ ts. completed_opened (expr d) (nested d) (expr_live d) 0 a (xs ++ ys) ts (after ys F) (omega arith) (whole_ready a (xs ++ ys) ts w) (λ b zs v. ends b (ys ++ zs) (subst (λ (z : Tokens). IsExpr 0 b z) (append_assoc xs ys zs) v));
        })

phrase_from_live : (d : ℕ) (h : Head) (xs : Tokens) (F : Front) → Stands h xs → ((i : ForInit) (ys : Tokens) → IsForInit i (xs ++ ys) → F.holds ys) → Live F (phrase_from d h)
unfolding phrase_from
phrase_from_live d h xs F s lead = record { starts = others.starts; opened = λ ts. go ts (sees_name ts) (may_be_open h.mode) refl }
  where
    others : Live F (expr_from d h)
    others = expr_from_live d h xs F s lead

    go : (ts : Tokens) (b c : Bool) → may_be_open h.mode ≡ c → Opened F ts (cond (b && c) (and_then (variables_of d [] (head_type h) ts) (λ x. pure (for_init.Decl x))) (expr_from d h ts))
    go ts true true o =
        opened_map F (λ x. for_init.Decl x) ts (variables_of d [] (head_type h) ts)
        ((variables_of_live d [] [] (head_type h) xs F decls.Row.done (stands_type o s) (λ x ys w. lead (for_init.Decl x) ys (stmts.IsForInit.decl w))).opened ts)
    go ts true false o = others.opened ts
    go ts false true o = others.opened ts
    go ts false false o = others.opened ts

pub phrase_live : (d : ℕ) (F : Front) → Leads IsForInit F → Live F (phrase d)
unfolding phrase
phrase_live d F lead = record { starts = others.starts; opened = λ ts. go ts (start_at ts) refl }
  where
    others : Live F (expr d 0 >>= λ a. expect punct.Semicolon >>= λ _. pure (for_init.Expr a))
    others =
        live_then (IsExpr 0) (λ ts. expr_sound d 0 ts (omega arith)) (expr_live d 0 (omega arith) F)
        (λ a xs w. live_close punct.Semicolon (for_init.Expr a) (λ q. lead (for_init.Expr a) (xs ++ sign q punct.Semicolon ∷ []) (stmts.IsForInit.expr q w)))

    behind : (g : Head) (xs : Tokens) → Stands g xs → Live (after xs F) (phrase_from d g)
    behind g xs s = phrase_from_live d g xs (after xs F) s (λ i ys w. lead i (xs ++ ys) w)

    go : (ts : Tokens) (s : Start) → start_at ts ≡ s → Opened F ts (phrase_as d s ts)
    go ts start.Name h = (live_then Stands (named_head_sound d) (named_head_live (expr d) (nested d) (expr_live d) F) behind).opened ts
    go ts (start.Basic b) h =
        opened_then F Stands ts (basic_head (expr d) b ts) (phrase_from d) (basic_head_sound d b ts h)
        (basic_head_opened (expr d) (nested d) (expr_live d) F b ts h (λ g xs s o. nil_off F xs (behind g xs s).starts)) (λ g xs rest split s. (behind g xs s).opened rest)
    go ts (start.Signed n) h = others.opened ts
    go ts (start.Unsigned n) h = others.opened ts
    go ts (start.Bool b) h = others.opened ts
    go ts start.Paren h = others.opened ts
    go ts (start.Unary o) h = others.opened ts
    go ts start.Bad h = others.opened ts

pub header_live : (d : ℕ) (F : Front) → Leads IsForInit F → Live F (header d)
unfolding header
header_live d F lead =
    live_sees punct.Semicolon (λ p. live_pure (for_init.Empty p) (lead (for_init.Empty p) (sign p punct.Semicolon ∷ []) stmts.IsForInit.empty))
    (live_either begins_qual
    (live_map (λ x. for_init.Decl x) (live_then (Row IsQual) (qualifiers_sound d) (qualifiers_live d F)
    (λ qs us u. variables_live d qs us (after us F) u (λ x ys w. lead (for_init.Decl x) (us ++ ys) (stmts.IsForInit.decl w)))))
    (phrase_live d F lead))
