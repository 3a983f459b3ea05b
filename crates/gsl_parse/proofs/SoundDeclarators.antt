-- Qualifiers, types, initialisers and declarators stand for the tokens that were taken.
use Rattle.std.proofs.Common.{◌≡◌, ℕ, zero, suc, Bool, true, false, cond, List, [], ◌∷◌, ◌++◌, length, Option, Some, None, Ok, refl, sym, ap, subst, ◌∙◌, append_assoc, arith}
use Rattle.std.proofs.lemmas.List.{append-nil}
use Rattle.gsl_base.specs.declared.fault.Place.{Place}
use Rattle.gsl_base.specs.declared.token.Punct.TheVariants as punct
use Rattle.gsl_base.specs.declared.token.Key.TheVariants as key
use Rattle.gsl_base.specs.declared.token.Kind.{Kind}
use Rattle.gsl_base.specs.declared.token.Kind.TheVariants as kind
use Rattle.gsl_syntax.specs.declared.expr.TypeSpec.TheVariants as ty
use Rattle.gsl_syntax.specs.declared.expr.Dim.{Dim}
use Rattle.gsl_syntax.specs.declared.declaration.Name.{Name}
use Rattle.gsl_syntax.specs.declared.declaration.Qual.{Qual}
use Rattle.gsl_syntax.specs.declared.declaration.Qual.TheVariants as qual
use Rattle.gsl_syntax.specs.declared.declaration.Lay.TheVariants as lay
use Rattle.gsl_syntax.specs.declared.declaration.Init.{Init}
use Rattle.gsl_syntax.specs.declared.declaration.Init.TheVariants as init
use Rattle.gsl_syntax.specs.declared.declaration.Declarator.TheVariants as declarator
use Rattle.gsl_syntax.specs.Phrases.{token, sign, word, IsExpr, IsType, IsDims}
use Rattle.gsl_syntax.specs.Phrases as phrases
use Rattle.gsl_syntax.specs.Declarations.{Commas, Row, qual_of, IsLay, IsQual, IsDeclared, IsInit, IsInits, IsDeclarator}
use Rattle.gsl_syntax.specs.Declarations as decls
use Rattle.gsl_expr.specs.declared.rule.Start.{Start}
use Rattle.gsl_expr.specs.declared.rule.Start.TheVariants as start
use Rattle.gsl_expr.specs.Rules.{start_at}
use Rattle.gsl_expr.specs.Reading.{Tokens, Parser, and_then, ◌>>=◌, pure, take_one, sees, sees_key, expect}
use Rattle.gsl_expr.specs.Expressions.{expr, dims, basic_head, head_type, may_be_open}
use Rattle.gsl_expr.proofs.Taken.{Good, good_ok, good_weaken, good_map, good_then, good_expect, good_name, good_sign, good_word, good_close}
use Rattle.gsl_expr.proofs.SoundHeads.{Stands, stands_type}
use Rattle.gsl_expr.proofs.Sound.{expr_sound, dims_sound, basic_open_sound}
use Rattle.gsl_parse.specs.Lists.{commas_of}
use Rattle.gsl_parse.specs.Qualifiers as read
use Rattle.gsl_parse.specs.Qualifiers.{begins_qual, plain_by, plain_at, lay_from, lay_item, qualifier, qualifiers, type_as, typed}
use Rattle.gsl_parse.specs.Variables.{declared, listed, initialisers, braces, initialiser, initialised, declarator_from, declarator_at}
use Rattle.gsl_parse.proofs.SoundLists.{row_of_sound, commas_of_sound}

-- ---- qualifiers

lay_from_sound : (d : ℕ) (n : Name) (ts : Tokens) → Good (λ b ys. IsLay b (token n.place (kind.Name n.text) ∷ ys)) ts (lay_from d n ts)
lay_from_sound d n ts = go (sees punct.Equal ts) refl
  where
    go : (b : Bool) → sees punct.Equal ts ≡ b
        → Good (λ b ys. IsLay b (token n.place (kind.Name n.text) ∷ ys)) ts (cond b (and_then (take_one ts) (λ _. expr d 2 >>= λ a. pure (lay.Value n a))) (Ok (lay.Flag n, ts)))
    go true h =
        good_sign (λ b ys. IsLay b (token n.place (kind.Name n.text) ∷ ys)) punct.Equal ts (λ _. expr d 2 >>= λ a. pure (lay.Value n a)) h
        (λ q rest split. good_map (IsExpr 2) (λ b ys. IsLay b (token n.place (kind.Name n.text) ∷ (sign q punct.Equal ∷ ys))) (λ a. lay.Value n a) rest (expr d 2 rest) (expr_sound d 2 rest (omega arith))
        (λ a xs w. decls.IsLay.value q w))
    go false h = good_ok (λ b ys. IsLay b (token n.place (kind.Name n.text) ∷ ys)) ts (lay.Flag n) decls.IsLay.flag

pub lay_item_sound : (d : ℕ) (ts : Tokens) → Good IsLay ts (lay_item d ts)
unfolding lay_item
lay_item_sound d ts = good_name IsLay ts (lay_from d) (λ n rest split. lay_from_sound d n rest)

plain_by_sound : (p : Place) (k : Kind) (rest : Tokens) → Good IsQual (token p k ∷ rest) (read.plain (plain_by p k) (token p k ∷ rest))
plain_by_sound p (kind.Key w) rest = go (qual_of w p) refl
  where
    go : (o : Option Qual) → qual_of w p ≡ o → Good IsQual (word p w ∷ rest) (read.plain o (word p w ∷ rest))
    go (Some q) h = record { xs = word p w ∷ []; splits = refl; stands = decls.IsQual.plain p w h }
    go None h = tt
plain_by_sound p (kind.Name n) rest = tt
plain_by_sound p (kind.Signed n) rest = tt
plain_by_sound p (kind.Unsigned n) rest = tt
plain_by_sound p (kind.Punct m) rest = tt

plain_sound : (ts : Tokens) → Good IsQual ts (read.plain (plain_at ts) ts)
unfolding plain_at
plain_sound [] = tt
plain_sound (t ∷ rest) = plain_by_sound t.place t.kind rest

layout_sound : (d : ℕ) (ts : Tokens) → sees_key key.Layout ts ≡ true → Good IsQual ts (read.layout d ts)
layout_sound d ts h =
    good_word IsQual key.Layout ts (λ p. expect punct.LeftParen >>= λ _. commas_of (lay_item d) >>= λ ls. expect punct.RightParen >>= λ _. pure (qual.Layout p ls)) h
    (λ p rest s. good_expect (λ b ys. IsQual b (word p key.Layout ∷ ys)) punct.LeftParen rest (λ _. commas_of (lay_item d) >>= λ ls. expect punct.RightParen >>= λ _. pure (qual.Layout p ls))
    (λ o after s2. good_then (Commas IsLay) (λ b ys. IsQual b (word p key.Layout ∷ (sign o punct.LeftParen ∷ ys))) after (commas_of (lay_item d) after) (λ ls. expect punct.RightParen >>= λ _. pure (qual.Layout p ls))
    (commas_of_sound IsLay (lay_item d) (lay_item_sound d) after)
    (λ ls xs last s3 w. good_close (λ b ys. IsQual b (word p key.Layout ∷ (sign o punct.LeftParen ∷ (xs ++ ys)))) punct.RightParen (qual.Layout p ls) last (λ c. decls.IsQual.layout o c w))))

pub qualifier_sound : (d : ℕ) (ts : Tokens) → Good IsQual ts (qualifier d ts)
unfolding qualifier
qualifier_sound d ts = go (sees_key key.Layout ts) refl
  where
    go : (b : Bool) → sees_key key.Layout ts ≡ b → Good IsQual ts (cond b (read.layout d ts) (read.plain (plain_at ts) ts))
    go true h = layout_sound d ts h
    go false h = plain_sound ts

pub qualifiers_sound : (d : ℕ) (ts : Tokens) → Good (Row IsQual) ts (qualifiers d ts)
qualifiers_sound d ts = row_of_sound IsQual (qualifier d) (qualifier_sound d) begins_qual ts

-- ---- types

type_as_sound : (d : ℕ) (s : Start) (ts : Tokens) → start_at ts ≡ s → Good IsType ts (type_as d s ts)
type_as_sound d start.Name ts h =
    good_name IsType ts (λ n. dims (expr d) >>= λ ds. pure (ty.Named n.place n.text ds))
    (λ n rest split. good_map IsDims (λ t ys. IsType t (token n.place (kind.Name n.text) ∷ ys)) (λ ds. ty.Named n.place n.text ds) rest (dims (expr d) rest) (dims_sound d rest)
    (λ ds ys w. phrases.IsType.named w))
type_as_sound d (start.Basic b) ts h =
    good_map (λ h xs. Stands h xs × (may_be_open h.mode ≡ true)) IsType (λ h. head_type h) ts (basic_head (expr d) b ts) (basic_open_sound d b ts h) (λ h xs w. stands_type w.1 w.0)
type_as_sound d (start.Signed n) ts h = tt
type_as_sound d (start.Unsigned n) ts h = tt
type_as_sound d (start.Bool b) ts h = tt
type_as_sound d start.Paren ts h = tt
type_as_sound d (start.Unary o) ts h = tt
type_as_sound d start.Bad ts h = tt

pub typed_sound : (d : ℕ) (ts : Tokens) → Good IsType ts (typed d ts)
unfolding typed
typed_sound d ts = type_as_sound d (start_at ts) ts refl

-- ---- declared names and initialisers

pub declared_sound : (d : ℕ) (ts : Tokens) → Good IsDeclared ts (declared d ts)
unfolding declared
declared_sound d ts =
    good_name IsDeclared ts (λ n. dims (expr d) >>= λ ds. pure (record { name = n; dims = ds }))
    (λ n rest split. good_map IsDims (λ b ys. IsDeclared b (token n.place (kind.Name n.text) ∷ ys)) (λ ds. record { name = n; dims = ds }) rest (dims (expr d) rest) (dims_sound d rest)
    (λ ds ys w. decls.IsDeclared.declared w))

-- what ends a list in braces
pub data Ends : Tokens → Type 0 where
  at_once : (q : Place) → Ends (sign q punct.RightBrace ∷ [])
  behind_comma : (m q : Place) → Ends (sign m punct.Comma ∷ (sign q punct.RightBrace ∷ []))

-- Initialisers with what ends them, behind those that were found before.
pub record Listed (found all : List Init) (zs : Tokens) : Type 0 where
  pub others : List Init
  pub ys : Tokens
  pub tail : Tokens
  pub all_is : all ≡ found ++ others
  pub zs_is : zs ≡ ys ++ tail
  pub inits : IsInits others ys
  pub ends : Ends tail

pub last_init : (found : List Init) (a : Init) (xs tail : Tokens) → IsInit a xs → Ends tail → Listed found (found ++ a ∷ []) (xs ++ tail)
last_init found a xs tail w e = record { others = a ∷ []; ys = xs; tail = tail; all_is = refl; zs_is = refl; inits = decls.IsInits.one w; ends = e }

pub more_inits : (found : List Init) (a : Init) (xs : Tokens) (p : Place) (bs : List Init) (zs : Tokens) → IsInit a xs → Listed (found ++ a ∷ []) bs zs → Listed found bs (xs ++ sign p punct.Comma ∷ zs)
more_inits found a xs p bs zs w r = record {
  others = a ∷ r.others;
  ys = xs ++ sign p punct.Comma ∷ r.ys;
  tail = r.tail;
  all_is = r.all_is ∙ append_assoc found (a ∷ []) r.others;
  zs_is = ap (λ (z : Tokens). xs ++ sign p punct.Comma ∷ z) r.zs_is ∙ sym (append_assoc xs (sign p punct.Comma ∷ r.ys) r.tail);
  inits = decls.IsInits.more p w r.inits;
  ends = r.ends;
}

braces_by : (p : Place) (bs : List Init) (ys tail : Tokens) → IsInits bs ys → Ends tail → IsInit (init.Braces p bs) (sign p punct.LeftBrace ∷ (ys ++ tail))
braces_by p bs ys _ w (at_once q) = decls.IsInit.braces q w
braces_by p bs ys _ w (behind_comma m q) = decls.IsInit.braces_comma m q w

pub braces_of : (p : Place) (bs : List Init) (zs : Tokens) → Listed [] bs zs → IsInit (init.Braces p bs) (sign p punct.LeftBrace ∷ zs)
braces_of p bs zs r =
    subst (λ (z : Tokens). IsInit (init.Braces p bs) (sign p punct.LeftBrace ∷ z)) (sym r.zs_is)
    (subst (λ (cs : List Init). IsInit (init.Braces p cs) (sign p punct.LeftBrace ∷ (r.ys ++ r.tail))) (sym r.all_is) (braces_by p r.others r.ys r.tail r.inits r.ends))

module _ (item : Parser Init) (each : (ts : Tokens) → Good IsInit ts (item ts)) where
  initialisers_sound : (n : ℕ) (found : List Init) (ts : Tokens) → Good (Listed found) ts (initialisers item n found ts)
  unfolding initialisers
  initialisers_sound zero found ts = tt
  initialisers_sound (suc n) found ts =
      good_then IsInit (Listed found) ts (item ts)
      (λ a ts. cond (sees punct.Comma ts) (and_then (take_one ts) (λ _. listed (initialisers item n (found ++ a ∷ [])) (found ++ a ∷ []))) (and_then (expect punct.RightBrace ts) (λ _. pure (found ++ a ∷ [])))) (each ts)
      (λ a xs rest split w. go a xs rest w (initialisers_sound n (found ++ a ∷ [])) (sees punct.Comma rest) refl)
    where
      behind : (a : Init) (xs : Tokens) (p : Place) (ts : Tokens) → IsInit a xs → ((us : Tokens) → Good (Listed (found ++ a ∷ [])) us (initialisers item n (found ++ a ∷ []) us)) → (b : Bool) → sees punct.RightBrace ts ≡ b
          → Good (λ bs ys. Listed found bs (xs ++ sign p punct.Comma ∷ ys)) ts (cond b (and_then (take_one ts) (λ _. pure (found ++ a ∷ []))) (initialisers item n (found ++ a ∷ []) ts))
      behind a xs p ts w ih true h =
          good_sign (λ bs ys. Listed found bs (xs ++ sign p punct.Comma ∷ ys)) punct.RightBrace ts (λ _. pure (found ++ a ∷ [])) h
          (λ q rest split. good_ok (λ bs ys. Listed found bs (xs ++ sign p punct.Comma ∷ (sign q punct.RightBrace ∷ ys))) rest (found ++ a ∷ [])
          (last_init found a xs (sign p punct.Comma ∷ (sign q punct.RightBrace ∷ [])) w (behind_comma p q)))
      behind a xs p ts w ih false h =
          good_weaken (Listed (found ++ a ∷ [])) (λ bs ys. Listed found bs (xs ++ sign p punct.Comma ∷ ys)) ts (initialisers item n (found ++ a ∷ []) ts) (ih ts) (λ bs zs r. more_inits found a xs p bs zs w r)

      go : (a : Init) (xs rest : Tokens) → IsInit a xs → ((us : Tokens) → Good (Listed (found ++ a ∷ [])) us (initialisers item n (found ++ a ∷ []) us)) → (b : Bool) → sees punct.Comma rest ≡ b
          → Good (λ bs ys. Listed found bs (xs ++ ys)) rest
          (cond b (and_then (take_one rest) (λ _. listed (initialisers item n (found ++ a ∷ [])) (found ++ a ∷ []))) (and_then (expect punct.RightBrace rest) (λ _. pure (found ++ a ∷ []))))
      go a xs rest w ih true h =
          good_sign (λ bs ys. Listed found bs (xs ++ ys)) punct.Comma rest (λ _. listed (initialisers item n (found ++ a ∷ [])) (found ++ a ∷ [])) h
          (λ p after split. behind a xs p after w ih (sees punct.RightBrace after) refl)
      go a xs rest w ih false h =
          good_close (λ bs ys. Listed found bs (xs ++ ys)) punct.RightBrace (found ++ a ∷ []) rest (λ q. last_init found a xs (sign q punct.RightBrace ∷ []) w (at_once q))

  braces_sound : (ts : Tokens) → sees punct.LeftBrace ts ≡ true → Good IsInit ts (braces item ts)
  braces_sound ts h =
      good_sign IsInit punct.LeftBrace ts (λ p ts. and_then (initialisers item (length ts) [] ts) (λ bs. pure (init.Braces p bs))) h
      (λ p rest split. good_map (Listed []) (λ i ys. IsInit i (sign p punct.LeftBrace ∷ ys)) (λ bs. init.Braces p bs) rest (initialisers item (length rest) [] rest) (initialisers_sound (length rest) [] rest)
      (λ bs zs r. braces_of p bs zs r))

pub initialiser_sound : (d n : ℕ) (ts : Tokens) → Good IsInit ts (initialiser d n ts)
unfolding initialiser
initialiser_sound d zero ts = tt
initialiser_sound d (suc n) ts = go (sees punct.LeftBrace ts) refl (initialiser_sound d n)
  where
    go : (b : Bool) → sees punct.LeftBrace ts ≡ b → ((us : Tokens) → Good IsInit us (initialiser d n us)) → Good IsInit ts (cond b (braces (initialiser d n) ts) (and_then (expr d 1 ts) (λ a. pure (init.Expr a))))
    go true h ih = braces_sound (initialiser d n) ih ts h
    go false h ih = good_map (IsExpr 1) IsInit (λ a. init.Expr a) ts (expr d 1 ts) (expr_sound d 1 ts (omega arith)) (λ a xs w. decls.IsInit.plain w)

-- ---- declarators

initialised_sound : (d : ℕ) (n : Name) (ds : List Dim) (xs ts : Tokens) → IsDims ds xs → Good (λ a ys. IsDeclarator a (token n.place (kind.Name n.text) ∷ (xs ++ ys))) ts (initialised d n ds ts)
initialised_sound d n ds xs ts w = go (sees punct.Equal ts) refl
  where
    go : (b : Bool) → sees punct.Equal ts ≡ b
        → Good (λ a ys. IsDeclarator a (token n.place (kind.Name n.text) ∷ (xs ++ ys))) ts
        (cond b (and_then (take_one ts) (λ _. initialiser d d >>= λ i. pure (declarator.Initialised n ds i))) (Ok (declarator.Plain n ds, ts)))
    go true h =
        good_sign (λ a ys. IsDeclarator a (token n.place (kind.Name n.text) ∷ (xs ++ ys))) punct.Equal ts (λ _. initialiser d d >>= λ i. pure (declarator.Initialised n ds i)) h
        (λ q rest split. good_map IsInit (λ a ys. IsDeclarator a (token n.place (kind.Name n.text) ∷ (xs ++ sign q punct.Equal ∷ ys))) (λ i. declarator.Initialised n ds i) rest (initialiser d d rest) (initialiser_sound d d rest)
        (λ i ys v. decls.IsDeclarator.initialised q w v))
    go false h =
        good_ok (λ a ys. IsDeclarator a (token n.place (kind.Name n.text) ∷ (xs ++ ys))) ts (declarator.Plain n ds)
        (subst (λ (z : Tokens). IsDeclarator (declarator.Plain n ds) (token n.place (kind.Name n.text) ∷ z)) (sym (append-nil xs)) (decls.IsDeclarator.plain w))

pub declarator_from_sound : (d : ℕ) (n : Name) (ts : Tokens) → Good (λ a ys. IsDeclarator a (token n.place (kind.Name n.text) ∷ ys)) ts (declarator_from d n ts)
unfolding declarator_from
declarator_from_sound d n ts =
    good_then IsDims (λ a ys. IsDeclarator a (token n.place (kind.Name n.text) ∷ ys)) ts (dims (expr d) ts) (initialised d n) (dims_sound d ts) (λ ds xs rest split w. initialised_sound d n ds xs rest w)

pub declarator_sound : (d : ℕ) (ts : Tokens) → Good IsDeclarator ts (declarator_at d ts)
unfolding declarator_at
declarator_sound d ts = good_name IsDeclarator ts (declarator_from d) (λ n rest split. declarator_from_sound d n rest)
