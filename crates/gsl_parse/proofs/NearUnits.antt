-- The readers of statements and units do the same on two inputs up to the first token in which they differ.
use Rattle.std.proofs.Common.{◌≡◌, ℕ, zero, suc, pred, ◌≤◌, Bool, true, false, cond, ◌&&◌, ◌⊎◌, inl, inr, List, [], ◌∷◌, ◌++◌, length, Some, None, refl, sym, ap, subst, ◌∙◌, arith}
use Rattle.gsl_base.specs.declared.fault.Place.{Place}
use Rattle.gsl_base.specs.declared.token.Punct.{Punct}
use Rattle.gsl_base.specs.declared.token.Punct.TheVariants as punct
use Rattle.gsl_base.specs.declared.token.Key.{Key}
use Rattle.gsl_base.specs.declared.token.Key.TheVariants as key
use Rattle.gsl_base.specs.declared.token.Kind.{Kind}
use Rattle.gsl_base.specs.declared.token.Kind.TheVariants as kind
use Rattle.gsl_base.specs.declared.token.Token.{Token}
use Rattle.gsl_syntax.specs.declared.expr.Expr.{Expr}
use Rattle.gsl_syntax.specs.declared.expr.Basic.TheVariants as basic
use Rattle.gsl_syntax.specs.declared.expr.TypeSpec.{TypeSpec}
use Rattle.gsl_syntax.specs.declared.declaration.Name.{Name}
use Rattle.gsl_syntax.specs.declared.declaration.Qual.{Qual}
use Rattle.gsl_syntax.specs.declared.declaration.Decl.TheVariants as decl
use Rattle.gsl_syntax.specs.declared.statement.Stmt.{Stmt}
use Rattle.gsl_syntax.specs.declared.statement.Stmt.TheVariants as s
use Rattle.gsl_syntax.specs.declared.statement.Param.TheVariants as param
use Rattle.gsl_syntax.specs.declared.statement.Params.{Params}
use Rattle.gsl_syntax.specs.declared.statement.Params.TheVariants as params
use Rattle.gsl_syntax.specs.declared.statement.Body.TheVariants as body
use Rattle.gsl_syntax.specs.declared.statement.Global.{Global}
use Rattle.gsl_syntax.specs.declared.statement.Global.TheVariants as global
use Rattle.gsl_syntax.specs.Phrases.{token, word}
use Rattle.gsl_expr.specs.Rules.{start_at}
use Rattle.gsl_expr.specs.Names.{is_name, sees_name}
use Rattle.gsl_expr.specs.Reading.{Tokens, Parser, and_then, ◌>>=◌, pure, fail, take_one, sees, sees_key, expect, name}
use Rattle.gsl_expr.specs.Expressions.{expr, dims, keyword, head_type, basic_head, void_alone}
use Rattle.gsl_expr.proofs.Taken.{key_is}
use Rattle.gsl_parse.specs.declared.opening.Opening.{Opening}
use Rattle.gsl_parse.specs.declared.opening.Opening.TheVariants as opening
use Rattle.gsl_parse.specs.Openings.{opening_at}
use Rattle.gsl_parse.specs.Lists.{row, some_of, further_of}
use Rattle.gsl_parse.specs.Qualifiers.{begins_qual, plain_at, typed}
use Rattle.gsl_parse.specs.Variables.{open_brace, member, declarator_at, header}
use Rattle.gsl_parse.specs.Statements as read
use Rattle.gsl_parse.specs.Statements.{expect_key, condition, optional, returned, stmt_of, statements, statements_of, alternative, statement_as, statement_whole, statement}
use Rattle.gsl_parse.specs.Units as units
use Rattle.gsl_parse.specs.Units.{parameter_from, parameter, listed_parameters, parameters, function_body, function_end, function_from, variables_from, named_from, instance, brace_behind, opens_block, any_qual, struct_at_top, quals_alone, block_at_top, typed_at_top, global_from, global_at, some_left, globals}
use Rattle.gsl_expr.proofs.Near.{Within, within_then, Looks, looks_sees, looks_key, Twin, twin_looks, Near, near_pure, near_fail, near_less, near_left, near_right, near_when, near_then, near_taking, near_one, near_if, near_two, near_expect, near_close}
use Rattle.gsl_expr.proofs.NearExpressions.{looks_name, void_alike, not_void, near_name, near_length, expr_near, dims_of_near}
use Rattle.gsl_parse.proofs.NearLists.{Eats, eats_one, eats_name, eats_then, eats_behind, eats_pred, eats_none, eats_if, eats_by, row_of_near, some_of_near, further_of_near, commas_of_near}
use Rattle.gsl_parse.proofs.NearDeclarations.{looks_brace, qualifiers_near, typed_eats, declarator_from_near, declarator_near, member_eats, struct_variables_eats, local_from_eats, phrase_eats, header_near}

looks_opening : Looks opening_at
unfolding opening_at
looks_opening = record { alike = λ x xs ys. refl }

less : (n : ℕ) → pred n ≤ n
less zero = omega arith
less (suc n) = omega arith

-- ---- statements

module _ (b : Token) (p q : Tokens) where
  expect_key_near : {d c : ℕ} (w : Key) → Near b p q d c (expect_key w) (expect_key w)
  unfolding expect_key
  expect_key_near w = near_if b p q (looks_key w) (near_one b p q) (near_fail b p q)

  condition_near : {d c : ℕ} → Near b p q d c (condition d) (condition c)
  unfolding condition
  condition_near = near_then b p q (near_expect b p q punct.LeftParen) (λ _. near_then b p q (expr_near b p q 0) (λ a. near_close b p q punct.RightParen a))

  optional_near : {d c : ℕ} (m : Punct) → Near b p q d c (optional d m) (optional c m)
  unfolding optional
  optional_near m =
      near_if b p q (looks_sees m) (near_then b p q (near_one b p q) (λ _. near_pure b p q None)) (near_then b p q (expr_near b p q 0) (λ a. near_close b p q m (Some a)))

  returned_near : {d c : ℕ} (l : Place) → Near b p q d c (returned d l) (returned c l)
  unfolding returned
  returned_near l =
      near_if b p q (looks_sees punct.Semicolon) (near_then b p q (near_one b p q) (λ _. near_pure b p q (s.Return l))) (near_then b p q (expr_near b p q 0) (λ a. near_close b p q punct.Semicolon (s.ReturnValue l a)))

  word_eats : {d c : ℕ} → Eats b p q d c read.word read.word
  word_eats = eats_then b p q (eats_one b p q) (λ l. near_close b p q punct.Semicolon l)

  module _ (d c : ℕ) (f g : Parser Stmt) (stmt : Eats b p q d c f g) where
    statements_within : (n : ℕ) (found : List Stmt) (ts : Tokens) → Within ts (statements f n found ts)
    unfolding statements
    statements_within zero found ts = omega arith
    statements_within (suc n) found ts = go (sees punct.RightBrace ts) (statements_within n)
      where
        go : (t : Bool) → ((found : List Stmt) (us : Tokens) → Within us (statements f n found us)) → Within ts (cond t (and_then (take_one ts) (λ _. pure found)) (and_then (f ts) (λ a. statements f n (found ++ a ∷ []))))
        go true ih = within_then ts (take_one ts) (λ _. pure found) ((near_one b p q {d = d} {c = c}).within ts) (λ l us. omega arith)
        go false ih = within_then ts (f ts) (λ a. statements f n (found ++ a ∷ [])) (stmt.near.within ts) (λ a us. ih (found ++ a ∷ []) us)

    statements_near : (n m D E : ℕ) (found : List Stmt) → D ≤ n → E ≤ m → D ≤ d → E ≤ c → Near b p q D E (statements f n found) (statements g m found)
    unfolding statements
    statements_near n m zero E found u v x y = near_left b p q (statements_within n found)
    statements_near n m (suc D) zero found u v x y = near_right b p q (statements_within n found)
    statements_near zero m (suc D) (suc E) found u v x y = absurd (omega arith)
    statements_near (suc n) zero (suc D) (suc E) found u v x y = absurd (omega arith)
    statements_near (suc n) (suc m) (suc D) (suc E) found u v x y =
        near_if b p q (looks_sees punct.RightBrace) (near_then b p q (near_one b p q) (λ _. near_pure b p q found))
        (near_taking b p q stmt.takes (near_less b p q (omega arith) (omega arith) stmt.near) (λ a. statements_near n m D E (found ++ a ∷ []) (omega arith) (omega arith) (omega arith) (omega arith)))

    statements_of_near : Near b p q d c (statements_of f) (statements_of g)
    statements_of_near = near_length b p q {f = λ n. statements f n []} {g = λ n. statements g n []} (λ n m x y. statements_near n m n m [] (omega arith) (omega arith) x y) (λ ts. statements_within (length ts) [] ts)

  -- each statement, by a reader of nested ones
  module _ (d c : ℕ) (f g : Parser Stmt) (stmt : Eats b p q (pred d) (pred c) f g) where
    lower : {A : Type 0} {x y : Parser A} → Near b p q d c x y → Near b p q (pred d) (pred c) x y
    lower h = near_less b p q (less d) (less c) h

    body_near : Near b p q (pred d) (pred c) (statements_of f) (statements_of g)
    body_near = statements_of_near (pred d) (pred c) f g stmt

    alternative_near : (l : Place) (a : Expr) (r : Stmt) → Near b p q (pred d) (pred c) (alternative d f l a r) (alternative c g l a r)
    unfolding alternative
    alternative_near l a r =
        near_if b p q (looks_key key.Else) (near_then b p q (near_one b p q) (λ _. near_then b p q stmt.near (λ t. near_pure b p q (s.IfElse l a r t)))) (near_pure b p q (s.If l a r))

    for_near : (l : Place) → Near b p q (pred d) (pred c)
        (expect punct.LeftParen >>= λ _. header d >>= λ i. optional d punct.Semicolon >>= λ a. optional d punct.RightParen >>= λ r. f >>= λ t. pure (s.For l i a r t))
        (expect punct.LeftParen >>= λ _. header c >>= λ i. optional c punct.Semicolon >>= λ a. optional c punct.RightParen >>= λ r. g >>= λ t. pure (s.For l i a r t))
    for_near l =
        near_then b p q (near_expect b p q punct.LeftParen) (λ _. near_then b p q (lower (header_near b p q)) (λ i. near_then b p q (lower (optional_near punct.Semicolon)) (λ a.
        near_then b p q (lower (optional_near punct.RightParen)) (λ r. near_then b p q stmt.near (λ t. near_pure b p q (s.For l i a r t))))))

    statement_by : (o : Opening) → Eats b p q d c (statement_as d f o) (statement_as c g o)
    statement_by opening.Empty = eats_pred b p q (λ l. near_pure b p q (s.Empty l))
    statement_by opening.Block = eats_pred b p q (λ l. near_then b p q body_near (λ bs. near_pure b p q (s.Block l bs)))
    statement_by opening.If = eats_pred b p q (λ l. near_then b p q (lower condition_near) (λ a. near_then b p q stmt.near (λ r. alternative_near l a r)))
    statement_by opening.Switch =
        eats_pred b p q (λ l. near_then b p q (lower condition_near) (λ a. near_then b p q (near_expect b p q punct.LeftBrace) (λ _. near_then b p q body_near (λ bs. near_pure b p q (s.Switch l a bs)))))
    statement_by opening.Case = eats_pred b p q (λ l. near_then b p q (lower (expr_near b p q 2)) (λ a. near_close b p q punct.Colon (s.Case l a)))
    statement_by opening.Default = eats_pred b p q (λ l. near_close b p q punct.Colon (s.Default l))
    statement_by opening.While = eats_pred b p q (λ l. near_then b p q (lower condition_near) (λ a. near_then b p q stmt.near (λ r. near_pure b p q (s.While l a r))))
    statement_by opening.Do =
        eats_pred b p q (λ l. near_then b p q stmt.near (λ r. near_then b p q (expect_key_near key.While) (λ _. near_then b p q (lower condition_near) (λ a. near_close b p q punct.Semicolon (s.Do l r a)))))
    statement_by opening.For = eats_pred b p q for_near
    statement_by opening.Break = eats_then b p q word_eats (λ l. near_pure b p q (s.Break l))
    statement_by opening.Continue = eats_then b p q word_eats (λ l. near_pure b p q (s.Continue l))
    statement_by opening.Discard = eats_then b p q word_eats (λ l. near_pure b p q (s.Discard l))
    statement_by opening.Return = eats_then b p q (eats_one b p q) returned_near
    statement_by opening.Local = eats_then b p q (eats_behind b p q (qualifiers_near b p q) (local_from_eats b p q)) (λ x. near_pure b p q (s.Decl x))
    statement_by opening.Phrase = eats_then b p q (phrase_eats b p q) (λ i. near_pure b p q (stmt_of i))

    whole_eats : Eats b p q d c (statement_whole d f) (statement_whole c g)
    whole_eats = eats_by b p q {f = statement_as d f} {g = statement_as c g} looks_opening statement_by

  pub statement_eats : (d c : ℕ) → Eats b p q (pred d) (pred c) (statement d) (statement c)
  unfolding statement
  statement_eats zero c = eats_none b p q (λ ts. omega arith) (λ ts. tt)
  statement_eats (suc d) zero = go (statement_eats d d)
    where
      go : Eats b p q (pred d) (pred d) (statement d) (statement d) → Eats b p q d zero (statement_whole d (statement d)) fail
      go h =
          let w = whole_eats d d (statement d) (statement d) h in
          record { near = near_right b p q w.near.within; takes = w.takes }
  statement_eats (suc d) (suc c) = whole_eats d c (statement d) (statement c) (statement_eats d c)

-- ---- units

left_looks : Looks some_left
left_looks = record { alike = λ x xs ys. refl }

block_alike : (b : Token) (p q : Tokens) (x : Token) (xs ys : Tokens) → Twin b p q xs ys → opens_block (x ∷ xs) ≡ opens_block (x ∷ ys)
unfolding opens_block
block_alike b p q x xs ys w =
    ap (λ (c : Bool). sees_name (x ∷ xs) && c) (twin_looks b p q (looks_sees punct.LeftBrace) xs ys w) ∙ ap (λ (c : Bool). c && sees punct.LeftBrace ys) (looks_name.alike x xs ys)

no_block : (b : Token) (p : Tokens) → sees_name (b ∷ p) ≡ false → opens_block (b ∷ p) ≡ false
unfolding opens_block
no_block b p h = ap (λ (c : Bool). c && brace_behind (b ∷ p)) h

parameters_by : ℕ → Bool → Parser Params
parameters_by d k = λ ts. cond (sees punct.RightParen ts) (and_then (take_one ts) (λ _. pure (params.Items []))) (cond k (and_then (take_one ts) (λ l. take_one >>= λ _. pure (params.Void l))) (listed_parameters d ts))

-- behind qualifiers, by whether a name and a brace stand next
global_by : ℕ → List Qual → Bool → Parser Global
global_by d qs k = λ ts. cond (sees_key key.Struct ts) (struct_at_top d qs ts) (cond (any_qual qs && sees punct.Semicolon ts) (quals_alone qs ts) (cond (any_qual qs && k) (block_at_top d qs ts) (typed_at_top d qs ts)))

quals_and : (k : Bool) → Looks (λ ts. k && sees punct.Semicolon ts)
quals_and k = record { alike = λ x xs ys. ap (λ (z : Bool). k && z) ((looks_sees punct.Semicolon).alike x xs ys) }

module _ (b : Token) (p q : Tokens) (d c : ℕ) where
  parameter_from_near : (qs : List Qual) (t : TypeSpec) → Near b p q d c (parameter_from d qs t) (parameter_from c qs t)
  unfolding parameter_from
  parameter_from_near qs t =
      near_if b p q looks_name (near_then b p q (near_name b p q) (λ n. near_then b p q (dims_of_near b p q) (λ ds. near_pure b p q (param.Named qs t n ds)))) (near_pure b p q (param.Unnamed qs t))

  pub parameter_near : Near b p q d c (parameter d) (parameter c)
  unfolding parameter
  parameter_near = near_then b p q (qualifiers_near b p q) (λ qs. near_then b p q (typed_eats b p q).near (parameter_from_near qs))

  listed_near : Near b p q d c (listed_parameters d) (listed_parameters c)
  listed_near = near_then b p q (commas_of_near b p q d c (parameter d) (parameter c) parameter_near) (λ ps. near_close b p q punct.RightParen (params.Items ps))

  parameters_each : (k : Bool) → Near b p q d c (parameters_by d k) (parameters_by c k)
  unfolding parameters_by
  parameters_each k =
      near_if b p q (looks_sees punct.RightParen) (near_then b p q (near_one b p q) (λ _. near_pure b p q (params.Items [])))
      (near_when b p q k (near_then b p q (near_one b p q) (λ l. near_then b p q (near_one b p q) (λ _. near_pure b p q (params.Void l)))) listed_near)

  void_typed : (l : Place) (ts : Tokens) → Within ts (typed d (word l key.Void ∷ ts))
  unfolding typed start_at basic_head
  void_typed l ts =
      within_then ts (and_then (dims (expr d) ts) (λ ds. pure (keyword l basic.Void ds))) (λ h. pure (head_type h))
      (within_then ts (dims (expr d) ts) (λ ds. pure (keyword l basic.Void ds)) ((dims_of_near b p q {d = d} {c = c}).within ts) (λ ds us. omega arith)) (λ h us. omega arith)

  void_parameter : (l : Place) (ts : Tokens) → Within ts (parameter d (word l key.Void ∷ ts))
  unfolding parameter row begins_qual sees_key plain_at
  void_parameter l ts = within_then ts (typed d (word l key.Void ∷ ts)) (parameter_from d []) (void_typed l ts) (λ t us. (parameter_from_near [] t).within us)

  void_within : (k : Bool) (l : Place) (ts : Tokens) → Within ts (parameters_by d k (word l key.Void ∷ ts))
  unfolding parameters_by sees
  void_within true l ts = within_then ts (take_one ts) (λ _. pure (params.Void l)) ((near_one b p q {d = d} {c = c}).within ts) (λ _ us. omega arith)
  void_within false l ts =
      within_then ts (and_then (parameter d (word l key.Void ∷ ts)) (further_of (parameter d))) (λ ps. expect punct.RightParen >>= λ _. pure (params.Items ps))
      (within_then ts (parameter d (word l key.Void ∷ ts)) (further_of (parameter d)) (void_parameter l ts) (λ a us. (further_of_near b p q d c (parameter d) (parameter c) parameter_near a).within us))
      (λ ps us. (near_close b p q {d = d} {c = c} punct.RightParen (params.Items ps)).within us)

  parameters_near : Near b p q d c (parameters d) (parameters c)
  unfolding parameters parameters_by sees_key
  parameters_near = near_two b p q {test = void_alone} {f = parameters_by d} {g = parameters_by c} parameters_each (void_alike b p q) (go (sees_key key.Void (b ∷ p)) refl)
    where
      go : (k : Bool) → sees_key key.Void (b ∷ p) ≡ k → (void_alone (b ∷ p) ≡ void_alone (b ∷ q)) ⊎ (length (b ∷ p) ≤ d → Within p (parameters_by d (void_alone (b ∷ p)) (b ∷ p)))
      go true h =
          inr (λ lt. subst (λ (j : Kind). Within p (parameters_by d (void_alone (b ∷ p)) (record { place = b.place; kind = j } ∷ p))) (sym (key_is key.Void b.kind h)) (void_within (void_alone (b ∷ p)) b.place p))
      go false h = inl (not_void b p h ∙ sym (not_void b q h))

  -- ---- functions, behind their names

  function_near : (qs : List Qual) (t : TypeSpec) (n : Name) → Near b p q d c (function_from d qs t n) (function_from c qs t n)
  unfolding function_from function_body
  function_near qs t n =
      (eats_pred b p q (λ _. near_then b p q (near_less b p q (less d) (less c) parameters_near) (λ ps. near_then b p q
      (near_if b p q (looks_sees punct.Semicolon) (near_then b p q (near_one b p q) (λ l. near_pure b p q (body.Prototype l)))
      (near_then b p q (near_expect b p q punct.LeftBrace) (λ l. near_then b p q (statements_of_near b p q (pred d) (pred c) (statement d) (statement c) (statement_eats b p q d c)) (λ bs. near_pure b p q (body.Block l bs)))))
      (λ r. near_pure b p q (record { quals = qs; ty = t; name = n; params = ps; body = r }))))).near

  variables_near : (qs : List Qual) (t : TypeSpec) (n : Name) → Near b p q d c (variables_from d qs t n) (variables_from c qs t n)
  unfolding variables_from
  variables_near qs t n =
      near_then b p q (near_then b p q (declarator_from_near b p q n) (λ a. further_of_near b p q d c (declarator_at d) (declarator_at c) (declarator_near b p q) a)) (λ ds. near_close b p q punct.Semicolon (decl.Variables qs t ds))

  named_near : (qs : List Qual) (t : TypeSpec) (n : Name) → Near b p q d c (named_from d qs t n) (named_from c qs t n)
  unfolding named_from
  named_near qs t n =
      near_if b p q (looks_sees punct.LeftParen) (near_then b p q (function_near qs t n) (λ f. near_pure b p q (global.Function f))) (near_then b p q (variables_near qs t n) (λ x. near_pure b p q (global.Decl x)))

  -- ---- blocks, and what else may stand alone

  block_behind : (qs : List Qual) (n : Name) → Near b p q d c
      (expect punct.LeftBrace >>= λ _. some_of open_brace (member d) >>= λ ms. expect punct.RightBrace >>= λ _. instance >>= λ i. expect punct.Semicolon >>= λ _. pure (decl.Block qs n ms i))
      (expect punct.LeftBrace >>= λ _. some_of open_brace (member c) >>= λ ms. expect punct.RightBrace >>= λ _. instance >>= λ i. expect punct.Semicolon >>= λ _. pure (decl.Block qs n ms i))
  unfolding instance
  block_behind qs n =
      near_then b p q (near_expect b p q punct.LeftBrace) (λ _. near_then b p q (some_of_near b p q d c (member d) (member c) (member_eats b p q) open_brace looks_brace) (λ ms.
      near_then b p q (near_expect b p q punct.RightBrace) (λ _. near_then b p q
      (near_if b p q looks_name (near_then b p q (near_name b p q) (λ m. near_pure b p q (Some m))) (near_pure b p q None)) (λ i. near_close b p q punct.Semicolon (decl.Block qs n ms i)))))

  block_eats : (qs : List Qual) → Eats b p q d c (block_at_top d qs) (block_at_top c qs)
  unfolding units.block
  block_eats qs = eats_then b p q (eats_then b p q (eats_name b p q) (block_behind qs)) (λ x. near_pure b p q (global.Decl x))

  typed_at_eats : (qs : List Qual) → Eats b p q d c (typed_at_top d qs) (typed_at_top c qs)
  typed_at_eats qs = eats_then b p q (typed_eats b p q) (λ t. near_then b p q (near_name b p q) (named_near qs t))

  when : {A : Type 0} {f g x y : Parser A} (k : Bool) → Eats b p q d c f g → Eats b p q d c x y → Eats b p q d c (λ ts. cond k (f ts) (x ts)) (λ ts. cond k (g ts) (y ts))
  when true u v = u
  when false u v = v

  global_each : (qs : List Qual) (k : Bool) → Eats b p q d c (global_by d qs k) (global_by c qs k)
  unfolding global_by
  global_each qs k =
      eats_if b p q (looks_key key.Struct) (eats_then b p q (struct_variables_eats b p q qs) (λ x. near_pure b p q (global.Decl x)))
      (eats_if b p q {test = λ ts. any_qual qs && sees punct.Semicolon ts} (quals_and (any_qual qs)) (eats_then b p q (eats_one b p q) (λ _. near_pure b p q (global.Decl (decl.Quals qs))))
      (when (any_qual qs && k) (block_eats qs) (typed_at_eats qs)))

  name_typed : (l : Place) (n : List ℕ) (ts : Tokens) → Within ts (typed d (token l (kind.Name n) ∷ ts))
  unfolding typed start_at name
  name_typed l n ts = within_then ts (dims (expr d) ts) _ ((dims_of_near b p q {d = d} {c = c}).within ts) (λ ds us. omega arith)

  block_within : (qs : List Qual) (l : Place) (n : List ℕ) (ts : Tokens) → Within ts (block_at_top d qs (token l (kind.Name n) ∷ ts))
  unfolding units.block name
  block_within qs l n ts =
      (near_then b p q (block_behind qs (record { place = l; text = n })) (λ x. near_pure b p q {d = d} {c = c} (global.Decl x))).within ts

  name_within : (qs : List Qual) (k : Bool) (l : Place) (n : List ℕ) (ts : Tokens) → Within ts (global_by d qs k (token l (kind.Name n) ∷ ts))
  unfolding global_by sees_key sees
  name_within qs k l n ts = go (any_qual qs) k
    where
      by_block : Within ts (block_at_top d qs (token l (kind.Name n) ∷ ts))
      by_block = block_within qs l n ts

      by_type : Within ts (typed_at_top d qs (token l (kind.Name n) ∷ ts))
      by_type = within_then ts (typed d (token l (kind.Name n) ∷ ts)) _ (name_typed l n ts) (λ t us. (near_then b p q (near_name b p q) (named_near qs t)).within us)

      go : (j k : Bool) → Within ts (cond (j && false) (quals_alone qs (token l (kind.Name n) ∷ ts)) (cond (j && k) (block_at_top d qs (token l (kind.Name n) ∷ ts)) (typed_at_top d qs (token l (kind.Name n) ∷ ts))))
      go true true = by_block
      go true false = by_type
      go false k = by_type

  global_from_eats : (qs : List Qual) → Eats b p q d c (global_from d qs) (global_from c qs)
  unfolding global_from global_by sees_name
  global_from_eats qs = record {
    near = near_two b p q {test = opens_block} {f = global_by d qs} {g = global_by c qs} (λ k. (global_each qs k).near) (block_alike b p q) (go (sees_name (b ∷ p)) refl);
    takes = λ ts. (global_each qs (opens_block ts)).takes ts;
  }
    where
      named : (j : Kind) → is_name j ≡ true → Within p (global_by d qs (opens_block (b ∷ p)) (record { place = b.place; kind = j } ∷ p))
      named (kind.Name n) h = name_within qs (opens_block (b ∷ p)) b.place n p
      named (kind.Key w) h = absurd cc
      named (kind.Signed n) h = absurd cc
      named (kind.Unsigned n) h = absurd cc
      named (kind.Punct m) h = absurd cc

      go : (k : Bool) → sees_name (b ∷ p) ≡ k → (opens_block (b ∷ p) ≡ opens_block (b ∷ q)) ⊎ (length (b ∷ p) ≤ d → Within p (global_by d qs (opens_block (b ∷ p)) (b ∷ p)))
      go true h = inr (λ lt. named b.kind h)
      go false h = inl (no_block b p h ∙ sym (no_block b q h))

  pub global_eats : Eats b p q d c (global_at d) (global_at c)
  unfolding global_at
  global_eats =
      eats_if b p q (looks_sees punct.Semicolon) (eats_then b p q (eats_one b p q) (λ l. near_pure b p q (global.Empty l))) (eats_behind b p q (qualifiers_near b p q) global_from_eats)

  -- the reader of units, at any two depths
  pub globals_near : Near b p q d c (globals d) (globals c)
  unfolding globals
  globals_near = row_of_near b p q d c (global_at d) (global_at c) global_eats some_left left_looks
