-- The readers of qualifiers, types and declarations do the same on two inputs up to the first token in which they differ.
use Rattle.std.proofs.Common.{ap, ℕ, zero, suc, ◌≤◌, Bool, true, false, not, cond, ◌&&◌, List, [], ◌∷◌, ◌++◌, length, Option, Some, None, refl, arith}
use Rattle.gsl_base.specs.declared.token.Punct.TheVariants as punct
use Rattle.gsl_base.specs.declared.token.Key.TheVariants as key
use Rattle.gsl_base.specs.declared.token.Token.{Token}
use Rattle.gsl_syntax.specs.declared.expr.TypeSpec.{TypeSpec}
use Rattle.gsl_syntax.specs.declared.expr.TypeSpec.TheVariants as ty
use Rattle.gsl_syntax.specs.declared.declaration.Name.{Name}
use Rattle.gsl_syntax.specs.declared.declaration.Qual.{Qual}
use Rattle.gsl_syntax.specs.declared.declaration.Qual.TheVariants as qual
use Rattle.gsl_syntax.specs.declared.declaration.Lay.TheVariants as lay
use Rattle.gsl_syntax.specs.declared.declaration.Init.{Init}
use Rattle.gsl_syntax.specs.declared.declaration.Init.TheVariants as init
use Rattle.gsl_syntax.specs.declared.declaration.Declarator.TheVariants as declarator
use Rattle.gsl_syntax.specs.declared.declaration.Decl.TheVariants as decl
use Rattle.gsl_syntax.specs.declared.statement.ForInit.TheVariants as for_init
use Rattle.gsl_expr.specs.declared.rule.Start.{Start}
use Rattle.gsl_expr.specs.declared.rule.Start.TheVariants as start
use Rattle.gsl_expr.specs.declared.rule.Head.{Head}
use Rattle.gsl_expr.specs.Names.{sees_name}
use Rattle.gsl_expr.specs.Reading.{Tokens, Parser, and_then, ◌>>=◌, pure, take_one, sees, sees_key, expect}
use Rattle.gsl_expr.specs.Expressions.{expr, basic_head, head_type, may_be_open}
use Rattle.gsl_parse.specs.Lists.{commas_of}
use Rattle.gsl_parse.specs.Qualifiers.{plain_at, begins_qual, lay_item, plain, layout, qualifier, qualifiers, type_as, typed}
use Rattle.gsl_parse.specs.Variables.{declared, listed, initialisers, braces, initialiser, declarator_from, declarator_at, open_brace, struct_member, structure, member, declarators, variables_of, variables, struct_variables, local_from, phrase_from, phrase_as, phrase, header}
use Rattle.gsl_expr.proofs.Near.{Within, within_then, Looks, looks_sees, looks_key, Near, near_pure, near_less, near_left, near_right, near_then, near_one, near_if, near_expect, near_close, near_take}
use Rattle.gsl_expr.proofs.NearExpressions.{looks_start, looks_name, looks_map, looks_and, near_name, near_length, expr_near, dims_of_near, named_head_of_near, basic_head_of_near, applied_of_near, completed_of_near}
use Rattle.gsl_parse.proofs.NearLists.{Eats, eats_one, eats_name, eats_fail, eats_then, eats_behind, eats_if, eats_by, eats_close, row_of_near, some_of_near, commas_of_near}

looks_plain : Looks plain_at
unfolding plain_at
looks_plain = record { alike = λ x xs ys. refl }

pub looks_qual : Looks begins_qual
unfolding begins_qual sees_key plain_at
looks_qual = record { alike = λ x xs ys. refl }

pub looks_brace : Looks open_brace
unfolding open_brace
looks_brace = record { alike = λ x xs ys. ap not ((looks_sees punct.RightBrace).alike x xs ys) }

module _ (b : Token) (p q : Tokens) {d c : ℕ} where
  -- ---- qualifiers and types

  pub lay_item_near : Near b p q d c (lay_item d) (lay_item c)
  unfolding lay_item
  lay_item_near =
      near_then b p q (near_name b p q) (λ n. near_if b p q (looks_sees punct.Equal)
      (near_then b p q (near_one b p q) (λ _. near_then b p q (expr_near b p q 2) (λ a. near_pure b p q (lay.Value n a)))) (near_pure b p q (lay.Flag n)))

  pub qualifier_eats : Eats b p q d c (qualifier d) (qualifier c)
  unfolding qualifier
  qualifier_eats = eats_if b p q (looks_key key.Layout) with_layout (eats_by b p q {f = plain} {g = plain} looks_plain go)
    where
      with_layout : Eats b p q d c (layout d) (layout c)
      with_layout =
          eats_then b p q (eats_one b p q) (λ l. near_then b p q (near_expect b p q punct.LeftParen) (λ _. near_then b p q (commas_of_near b p q d c (lay_item d) (lay_item c) lay_item_near)
          (λ ls. near_close b p q punct.RightParen (qual.Layout l ls))))

      go : (k : Option Qual) → Eats b p q d c (plain k) (plain k)
      go (Some r) = eats_then b p q (eats_one b p q) (λ _. near_pure b p q r)
      go None = eats_fail b p q

  pub qualifiers_near : Near b p q d c (qualifiers d) (qualifiers c)
  qualifiers_near = row_of_near b p q d c (qualifier d) (qualifier c) qualifier_eats begins_qual looks_qual

  pub typed_eats : Eats b p q d c (typed d) (typed c)
  unfolding typed basic_head
  typed_eats = eats_by b p q {f = type_as d} {g = type_as c} looks_start go
    where
      go : (k : Start) → Eats b p q d c (type_as d k) (type_as c k)
      go start.Name = eats_then b p q (eats_name b p q) (λ n. near_then b p q (dims_of_near b p q) (λ ds. near_pure b p q (ty.Named n.place n.text ds)))
      go (start.Basic t) = eats_then b p q (eats_then b p q (eats_one b p q) (λ l. near_then b p q (dims_of_near b p q) (λ ds. near_pure b p q _))) (λ h. near_pure b p q (head_type h))
      go (start.Signed n) = eats_fail b p q
      go (start.Unsigned n) = eats_fail b p q
      go (start.Bool t) = eats_fail b p q
      go start.Paren = eats_fail b p q
      go (start.Unary o) = eats_fail b p q
      go start.Bad = eats_fail b p q

  pub declared_near : Near b p q d c (declared d) (declared c)
  unfolding declared
  declared_near = near_then b p q (near_name b p q) (λ n. near_then b p q (dims_of_near b p q) (λ ds. near_pure b p q (record { name = n; dims = ds })))

-- ---- initialisers

module _ (b : Token) (p q : Tokens) (d c : ℕ) (f g : Parser Init) (item : Near b p q d c f g) where
  initialisers_within : (n : ℕ) (found : List Init) (ts : Tokens) → Within ts (initialisers f n found ts)
  unfolding initialisers
  initialisers_within zero found ts = omega arith
  initialisers_within (suc n) found ts = within_then ts (f ts) _ (item.within ts) (λ a us. go a us (sees punct.Comma us) (initialisers_within n (found ++ a ∷ [])))
    where
      close : (a : Init) (us : Tokens) (t : Bool) → ((vs : Tokens) → Within vs (initialisers f n (found ++ a ∷ []) vs)) → Within us (cond t (and_then (take_one us) (λ _. pure (found ++ a ∷ []))) (initialisers f n (found ++ a ∷ []) us))
      close a us true ih = within_then us (take_one us) (λ _. pure (found ++ a ∷ [])) ((near_one b p q {d = d} {c = c}).within us) (λ l vs. omega arith)
      close a us false ih = ih us

      go : (a : Init) (us : Tokens) (t : Bool) → ((vs : Tokens) → Within vs (initialisers f n (found ++ a ∷ []) vs))
          → Within us (cond t (and_then (take_one us) (λ _. listed (initialisers f n (found ++ a ∷ [])) (found ++ a ∷ []))) (and_then (expect punct.RightBrace us) (λ _. pure (found ++ a ∷ []))))
      go a us true ih = within_then us (take_one us) (λ _. listed (initialisers f n (found ++ a ∷ [])) (found ++ a ∷ [])) ((near_one b p q {d = d} {c = c}).within us) (λ l vs. close a vs (sees punct.RightBrace vs) ih)
      go a us false ih = (near_close b p q {d = d} {c = c} punct.RightBrace (found ++ a ∷ [])).within us

  initialisers_near : (n m D E : ℕ) (found : List Init) → D ≤ n → E ≤ m → D ≤ d → E ≤ c → Near b p q D E (initialisers f n found) (initialisers g m found)
  unfolding initialisers
  initialisers_near n m zero E found u v x y = near_left b p q (initialisers_within n found)
  initialisers_near n m (suc D) zero found u v x y = near_right b p q (initialisers_within n found)
  initialisers_near zero m (suc D) (suc E) found u v x y = absurd (omega arith)
  initialisers_near (suc n) zero (suc D) (suc E) found u v x y = absurd (omega arith)
  initialisers_near (suc n) (suc m) (suc D) (suc E) found u v x y =
      near_then b p q (near_less b p q (omega arith) (omega arith) item) (λ a. near_if b p q (looks_sees punct.Comma)
      (near_take b p q (λ l. near_if b p q (looks_sees punct.RightBrace) (near_then b p q (near_one b p q) (λ _. near_pure b p q (found ++ a ∷ [])))
      (initialisers_near n m D E (found ++ a ∷ []) (omega arith) (omega arith) (omega arith) (omega arith))))
      (near_close b p q punct.RightBrace (found ++ a ∷ [])))

  braces_near : Near b p q (suc d) (suc c) (braces f) (braces g)
  braces_near =
      near_take b p q (λ l. near_then b p q
      (near_length b p q {f = λ n. initialisers f n []} {g = λ n. initialisers g n []} (λ n m x y. initialisers_near n m n m [] (omega arith) (omega arith) x y) (λ ts. initialisers_within (length ts) [] ts))
      (λ bs. near_pure b p q (init.Braces l bs)))

module _ (b : Token) (p q : Tokens) (d c : ℕ) where
  pub initialiser_within : (n : ℕ) (ts : Tokens) → Within ts (initialiser d n ts)
  unfolding initialiser
  initialiser_within zero ts = omega arith
  initialiser_within (suc n) ts = go (sees punct.LeftBrace ts) (initialiser_within n)
    where
      go : (t : Bool) → ((us : Tokens) → Within us (initialiser d n us)) → Within ts (cond t (braces (initialiser d n) ts) (and_then (expr d 1 ts) (λ a. pure (init.Expr a))))
      go true ih =
          within_then ts (take_one ts) (λ l us. and_then (initialisers (initialiser d n) (length us) [] us) (λ bs. pure (init.Braces l bs))) ((near_one b p q {d = d} {c = c}).within ts)
          (λ l us. within_then us (initialisers (initialiser d n) (length us) [] us) (λ bs. pure (init.Braces l bs))
          (initialisers_within b p q zero c (initialiser d n) (initialiser d n) (near_left b p q ih) (length us) [] us) (λ bs vs. omega arith))
      go false ih = within_then ts (expr d 1 ts) (λ a. pure (init.Expr a)) ((expr_near b p q {d = d} {c = c} 1).within ts) (λ a us. omega arith)

module _ (b : Token) (p q : Tokens) {d c : ℕ} where
  initialiser_near : (n m D E : ℕ) → D ≤ n → E ≤ m → D ≤ d → E ≤ c → Near b p q D E (initialiser d n) (initialiser c m)
  unfolding initialiser
  initialiser_near n m zero E u v x y = near_left b p q (initialiser_within b p q d c n)
  initialiser_near n m (suc D) zero u v x y = near_right b p q (initialiser_within b p q d c n)
  initialiser_near zero m (suc D) (suc E) u v x y = absurd (omega arith)
  initialiser_near (suc n) zero (suc D) (suc E) u v x y = absurd (omega arith)
  initialiser_near (suc n) (suc m) (suc D) (suc E) u v x y =
      near_if b p q (looks_sees punct.LeftBrace)
      (braces_near b p q D E (initialiser d n) (initialiser c m) (initialiser_near n m D E (omega arith) (omega arith) (omega arith) (omega arith)))
      (near_then b p q (near_less b p q x y (expr_near b p q 1)) (λ a. near_pure b p q (init.Expr a)))

  -- ---- declarators, structs and members

  pub declarator_from_near : (n : Name) → Near b p q d c (declarator_from d n) (declarator_from c n)
  unfolding declarator_from
  declarator_from_near n =
      near_then b p q (dims_of_near b p q) (λ ds. near_if b p q (looks_sees punct.Equal)
      (near_then b p q (near_one b p q) (λ _. near_then b p q (initialiser_near d c d c (omega arith) (omega arith) (omega arith) (omega arith)) (λ i. near_pure b p q (declarator.Initialised n ds i))))
      (near_pure b p q (declarator.Plain n ds)))

  pub declarator_near : Near b p q d c (declarator_at d) (declarator_at c)
  unfolding declarator_at
  declarator_near = near_then b p q (near_name b p q) declarator_from_near

  listed_near : Near b p q d c (commas_of (declared d)) (commas_of (declared c))
  listed_near = commas_of_near b p q d c (declared d) (declared c) (declared_near b p q)

  pub struct_member_eats : Eats b p q d c (struct_member d) (struct_member c)
  unfolding struct_member
  struct_member_eats = eats_then b p q (typed_eats b p q) (λ t. near_then b p q listed_near (λ ns. near_close b p q punct.Semicolon (record { ty = t; names = ns })))

  pub member_eats : Eats b p q d c (member d) (member c)
  unfolding member
  member_eats =
      eats_behind b p q (qualifiers_near b p q) (λ qs. eats_then b p q (typed_eats b p q) (λ t. near_then b p q listed_near (λ ns. near_close b p q punct.Semicolon (record { quals = qs; ty = t; names = ns }))))

  structure_near : Near b p q d c (structure d) (structure c)
  unfolding structure
  structure_near =
      near_then b p q (near_one b p q) (λ l. near_then b p q (near_name b p q) (λ n. near_then b p q (near_expect b p q punct.LeftBrace)
      (λ _. near_then b p q (some_of_near b p q d c (struct_member d) (struct_member c) struct_member_eats open_brace looks_brace)
      (λ ms. near_close b p q punct.RightBrace (record { place = l; name = n; members = ms })))))

  -- ---- variables

  declarators_near : Near b p q d c (declarators d) (declarators c)
  unfolding declarators
  declarators_near = near_if b p q (looks_sees punct.Semicolon) (near_pure b p q []) (commas_of_near b p q d c (declarator_at d) (declarator_at c) declarator_near)

  variables_of_eats : (qs : List Qual) (t : TypeSpec) → Eats b p q d c (variables_of d qs t) (variables_of c qs t)
  unfolding variables_of
  variables_of_eats qs t = eats_behind b p q (commas_of_near b p q d c (declarator_at d) (declarator_at c) declarator_near) (λ ds. eats_close b p q punct.Semicolon (decl.Variables qs t ds))

  variables_eats : (qs : List Qual) → Eats b p q d c (variables d qs) (variables c qs)
  unfolding variables
  variables_eats qs = eats_behind b p q (typed_eats b p q).near (λ t. variables_of_eats qs t)

  pub struct_variables_eats : (qs : List Qual) → Eats b p q d c (struct_variables d qs) (struct_variables c qs)
  unfolding struct_variables
  struct_variables_eats qs = eats_behind b p q structure_near (λ s. eats_behind b p q declarators_near (λ ds. eats_close b p q punct.Semicolon (decl.Struct qs s ds)))

  pub local_from_eats : (qs : List Qual) → Eats b p q d c (local_from d qs) (local_from c qs)
  unfolding local_from
  local_from_eats qs = eats_if b p q (looks_key key.Struct) (struct_variables_eats qs) (variables_eats qs)

  -- ---- an expression or variables

  phrase_from_eats : (h : Head) → Eats b p q d c (phrase_from d h) (phrase_from c h)
  unfolding phrase_from
  phrase_from_eats h =
      eats_if b p q {test = λ ts. sees_name ts && may_be_open h.mode} (looks_and (may_be_open h.mode) looks_name)
      (eats_then b p q (variables_of_eats [] (head_type h)) (λ x. near_pure b p q (for_init.Decl x)))
      (eats_behind b p q (near_then b p q (applied_of_near b p q h) (completed_of_near b p q 0)) (λ a. eats_close b p q punct.Semicolon (for_init.Expr a)))

  pub phrase_eats : Eats b p q d c (phrase d) (phrase c)
  unfolding phrase
  phrase_eats = eats_by b p q {f = phrase_as d} {g = phrase_as c} looks_start go
    where
      by_expr : Eats b p q d c (expr d 0 >>= λ a. expect punct.Semicolon >>= λ _. pure (for_init.Expr a)) (expr c 0 >>= λ a. expect punct.Semicolon >>= λ _. pure (for_init.Expr a))
      by_expr = eats_behind b p q (expr_near b p q 0) (λ a. eats_close b p q punct.Semicolon (for_init.Expr a))

      go : (k : Start) → Eats b p q d c (phrase_as d k) (phrase_as c k)
      go start.Name = eats_behind b p q (named_head_of_near b p q) phrase_from_eats
      go (start.Basic t) = eats_behind b p q (basic_head_of_near b p q t) phrase_from_eats
      go (start.Signed n) = by_expr
      go (start.Unsigned n) = by_expr
      go (start.Bool t) = by_expr
      go start.Paren = by_expr
      go (start.Unary o) = by_expr
      go start.Bad = by_expr

  pub header_near : Near b p q d c (header d) (header c)
  unfolding header
  header_near =
      near_if b p q (looks_sees punct.Semicolon) (near_then b p q (near_one b p q) (λ l. near_pure b p q (for_init.Empty l)))
      (near_if b p q looks_qual (near_then b p q (near_then b p q (qualifiers_near b p q) (λ qs. (variables_eats qs).near)) (λ x. near_pure b p q (for_init.Decl x))) phrase_eats.near)
