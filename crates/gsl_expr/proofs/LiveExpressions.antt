-- What the reader of expressions took before a fault begins an expression.
use Rattle.std.proofs.Common.{◌≡◌, ℕ, zero, suc, ◌+◌, ◌≤◌, ◌<◌, max, Bool, true, false, cond, ◌&&◌, List, [], ◌∷◌, ◌++◌, length, Ok, Err, refl, sym, ap, subst, append_assoc, arith}
use Rattle.std.specs.Prelude.{nat_lt, nat_le, nat_eq}
use Rattle.std.proofs.lemmas.List.{append-nil}
use Rattle.std.proofs.lemmas.Bool.{ltb-false, leb-true, leb-false, eqb-true}
use Rattle.std.proofs.Math.Nat.{le-max_right, max-le, max-eq_left}
use Rattle.gsl_base.specs.declared.fault.Place.{Place}
use Rattle.gsl_base.specs.declared.token.Punct.TheVariants as punct
use Rattle.gsl_base.specs.declared.token.Key.TheVariants as key
use Rattle.gsl_base.specs.declared.token.Kind.{Kind}
use Rattle.gsl_base.specs.declared.token.Kind.TheVariants as kind
use Rattle.gsl_base.specs.declared.token.Token.{Token}
use Rattle.gsl_syntax.specs.declared.declaration.Name.{Name}
use Rattle.gsl_syntax.specs.declared.expr.Basic.{Basic}
use Rattle.gsl_syntax.specs.declared.expr.Expr.{Expr}
use Rattle.gsl_syntax.specs.declared.expr.Expr.TheVariants as e
use Rattle.gsl_syntax.specs.declared.expr.TypeSpec.{TypeSpec}
use Rattle.gsl_syntax.specs.declared.expr.Dim.{Dim}
use Rattle.gsl_syntax.specs.declared.expr.Dim.TheVariants as dim
use Rattle.gsl_syntax.specs.Operators.{binary_of, level_of, assign_of, unary_of}
use Rattle.gsl_syntax.specs.Phrases.{token, sign, word, IsExpr, IsType, IsDims}
use Rattle.gsl_syntax.specs.Phrases as phrases
use Rattle.gsl_syntax.specs.Phrases.IsExpr.{paren, call, index, member, method, unary, binary, conditional, assign}
use Rattle.gsl_expr.specs.declared.rule.Start.{Start}
use Rattle.gsl_expr.specs.declared.rule.Start.TheVariants as start
use Rattle.gsl_expr.specs.declared.rule.Follow.{Follow}
use Rattle.gsl_expr.specs.declared.rule.Follow.TheVariants as follow
use Rattle.gsl_expr.specs.declared.rule.Tail.{Tail}
use Rattle.gsl_expr.specs.declared.rule.Tail.TheVariants as tail
use Rattle.gsl_expr.specs.declared.rule.Mode.{Mode}
use Rattle.gsl_expr.specs.declared.rule.Mode.TheVariants as mode
use Rattle.gsl_expr.specs.declared.rule.Base.{Base}
use Rattle.gsl_expr.specs.declared.rule.Base.TheVariants as base
use Rattle.gsl_expr.specs.declared.rule.Head.{Head}
use Rattle.gsl_expr.specs.Rules.{start_at, start_by, follow_at, follow_by, binds, tail_at, tail_by}
use Rattle.gsl_expr.specs.Reading.{Tokens, Parser, and_then, ◌>>=◌, pure, take_one, sees, expect, name}
use Rattle.gsl_expr.specs.Expressions.{is_tight, sequence_of, index_all, head_type, named, keyword, mode_after, level_in, may_be_open, may_be_index, closes_after, void_alone, selected, bracket, brackets, dims, named_head, basic_head, items, arguments, indexed_by, applied, operand_as, operand, operate_as, operate, climb, tailed_as, tailed, further, sequenced, completed, whole, expr}
use Rattle.gsl_expr.proofs.Taken.{Good, good_weaken, good_of, good_then, good_sign}
use Rattle.gsl_expr.proofs.SoundLevels.{level_most, level_in_low, looser, tight_is}
use Rattle.gsl_expr.proofs.SoundTells.{Spells, Names, starts_basic, starts_paren, starts_unary, follows_index, follows_member, follows_binary, tails_question, tails_assign}
use Rattle.gsl_expr.proofs.SoundHeads.{One, Dimmed, none_dimmed, more_dimmed, sized_one, Indexed, Stands, named_stands, type_dims, bracket_good, named_head_good, basic_head_good}
use Rattle.gsl_expr.proofs.SoundOperands.{Closed, last_item, more_items, call_of, void_parts, Nested, Ready, Grown, kind_is, operand_good, operate_good}
use Rattle.gsl_expr.proofs.SoundClimb.{Climbed, ended, Followed, none_followed, more_followed, sequence_by, climb_good, tailed_good, nested}
use Rattle.gsl_expr.proofs.Live.{Front, after, Opened, Live, Leads, fails, live_pure, live_fail, opened_front, opened_to, opened_then, opened_map, Quiet, opened_quiet, nil_off, live_then, live_map, no_place, opened_sign, opened_word, live_expect, live_close, called, no_name, live_name, live_sees}

-- a name, where an expression is wanted
abbrev pub any_expr : Expr
any_expr = e.Name no_place []

abbrev pub any_token : Token
any_token = called no_name

-- where an expression may stand, one may begin
pub begins_expr : {k : ℕ} (F : Front) → Leads (IsExpr k) F → F.holds []
begins_expr F lead = F.closed [] (any_token ∷ []) (lead any_expr (any_token ∷ []) phrases.IsExpr.name)

-- what is known of the reader of nested expressions
abbrev pub Alive : (ℕ → Parser Expr) → Type 1
Alive next = (k : ℕ) → k ≤ 14 → (F : Front) → Leads (IsExpr k) F → Live F (next k)

module _ (next : ℕ → Parser Expr) (hyp : Nested next) (alive : Alive next) where
  -- ---- brackets

  bracket_live : (m : Mode) (p : Place) (F : Front) → ((r : Dim × Mode) (ys : Tokens) → One m p r.0 r.1 ys → F.holds ys) → Live F (bracket next m p)
  unfolding bracket
  bracket_live m p F lead = record { starts = sized.starts; opened = λ ts. go ts (sees punct.RightBracket ts) (may_be_open m) refl }
    where
      sized : Live {A = Dim × Mode} F (next (level_in m) >>= λ a. expect punct.RightBracket >>= λ _. pure (dim.Sized p a, mode_after m a))
      sized =
          live_then (IsExpr (level_in m)) (λ ts. hyp.low (level_in m) ts (level_in_low m)) (alive (level_in m) (omega (arith, level_in_low m)) F)
          (λ a xs w. live_close punct.RightBracket (dim.Sized p a, mode_after m a) (λ q. lead (dim.Sized p a, mode_after m a) (xs ++ sign q punct.RightBracket ∷ []) (sized_one m p q a xs w)))

      go : (ts : Tokens) (b c : Bool) → sees punct.RightBracket ts ≡ b
          → Opened {A = Dim × Mode} F ts (cond (b && c) (and_then (take_one ts) (λ _. pure (dim.Open p, mode.Type))) (and_then (next (level_in m) ts) (λ a. expect punct.RightBracket >>= λ _. pure (dim.Sized p a, mode_after m a))))
      go ts true true h = opened_sign F punct.RightBracket ts (λ _. pure (dim.Open p, mode.Type)) h (λ q rest split. tt)
      go ts true false h = sized.opened ts
      go ts false true h = sized.opened ts
      go ts false false h = sized.opened ts

  brackets_live : (n : ℕ) (first m : Mode) (found : List Dim) (xs : Tokens) (F : Front) → Dimmed first m found xs
      → ((r : List Dim × Mode) (ys : Tokens) → Dimmed first r.1 r.0 (xs ++ ys) → F.holds ys) → Live F (brackets next n m found)
  unfolding brackets
  brackets_live zero first m found xs F d lead = live_pure (found, m) (lead (found, m) [] (subst (λ (z : Tokens). Dimmed first m found z) (sym (append-nil xs)) d))
  brackets_live (suc n) first m found xs F d lead = record { starts = stop; opened = λ ts. go ts (sees punct.LeftBracket ts) refl (brackets_live n first) }
    where
      stop : F.holds []
      stop = lead (found, m) [] (subst (λ (z : Tokens). Dimmed first m found z) (sym (append-nil xs)) d)

      go : (ts : Tokens) (b : Bool) → sees punct.LeftBracket ts ≡ b
          → ((m : Mode) (found : List Dim) (xs : Tokens) (F : Front) → Dimmed first m found xs → ((r : List Dim × Mode) (ys : Tokens) → Dimmed first r.1 r.0 (xs ++ ys) → F.holds ys) → Live F (brackets next n m found))
          → Opened F ts (cond b (and_then (and_then (take_one ts) (bracket next m)) (λ r. brackets next n r.1 (found ++ r.0 ∷ []))) (Ok ((found, m), ts)))
      go ts false h ih = tt
      go ts true h ih =
          opened_then F (λ (r : Dim × Mode) (ys : Tokens). Dimmed first r.1 (found ++ r.0 ∷ []) (xs ++ ys)) ts (and_then (take_one ts) (bracket next m)) (λ r. brackets next n r.1 (found ++ r.0 ∷ []))
          (good_sign (λ (r : Dim × Mode) (ys : Tokens). Dimmed first r.1 (found ++ r.0 ∷ []) (xs ++ ys)) punct.LeftBracket ts (bracket next m) h
          (λ p rest split. good_weaken (λ (r : Dim × Mode) (ys : Tokens). One m p r.0 r.1 ys) (λ (r : Dim × Mode) (ys : Tokens). Dimmed first r.1 (found ++ r.0 ∷ []) (xs ++ sign p punct.LeftBracket ∷ ys)) rest (bracket next m p rest) (bracket_good next hyp.low m p rest)
          (λ r ys o. more_dimmed first m found xs p r.0 r.1 ys d o)))
          (opened_sign F punct.LeftBracket ts (bracket next m) h
          (λ p rest split. (bracket_live m p (after (sign p punct.LeftBracket ∷ []) F)
          (λ r ys o. lead (found ++ r.0 ∷ [], r.1) (sign p punct.LeftBracket ∷ ys) (more_dimmed first m found xs p r.0 r.1 ys d o))).opened rest))
          (λ r ys rest split s. (ih r.1 (found ++ r.0 ∷ []) (xs ++ ys) (after ys F) s (λ q zs w. lead q (ys ++ zs) (subst (λ (z : Tokens). Dimmed first q.1 q.0 z) (append_assoc xs ys zs) w))).opened rest)

  pub dims_live : (F : Front) → Leads IsDims F → Live F (dims next)
  unfolding dims
  dims_live F lead = record {
    starts = lead [] [] phrases.IsDims.no_dims;
    opened = λ ts. opened_map F (λ r. r.0) ts (brackets next (length ts) mode.Type [] ts) ((brackets_live (length ts) mode.Type mode.Type [] [] F (none_dimmed mode.Type) (λ r ys d. lead r.0 ys (type_dims r.1 r.0 ys d))).opened ts);
  }

  -- ---- heads

  pub named_head_live : (F : Front) → Leads Stands F → Live F (named_head next)
  unfolding named_head
  named_head_live F lead = live_name (λ n. record {
    starts = lead (named n [] mode.Either) (called n ∷ []) (named_stands n ([], mode.Either) [] (none_dimmed mode.Either));
    opened = λ ts. opened_map (after (called n ∷ []) F) (λ r. named n r.0 r.1) ts (brackets next (length ts) mode.Either [] ts)
        ((brackets_live (length ts) mode.Either mode.Either [] [] (after (called n ∷ []) F) (none_dimmed mode.Either) (λ r ys d. lead (named n r.0 r.1) (called n ∷ ys) (named_stands n r ys d))).opened ts);
  })

  pub basic_head_opened : (F : Front) (b : Basic) (ts : Tokens) → start_at ts ≡ start.Basic b → ((h : Head) (xs : Tokens) → Stands h xs → may_be_open h.mode ≡ true → F.holds xs) → Opened F ts (basic_head next b ts)
  unfolding basic_head start_at
  basic_head_opened F b [] h lead = absurd cc
  basic_head_opened F b (t ∷ rest) h lead = go (starts_basic t.kind b h)
    where
      go : Names b t.kind → Opened F (t ∷ rest) (and_then (dims next rest) (λ ds. pure (keyword t.place b ds)))
      go n =
          opened_front F (t ∷ rest) (word t.place n.word ∷ []) rest (and_then (dims next rest) (λ ds. pure (keyword t.place b ds))) (ap (λ (k : Kind). token t.place k ∷ rest) n.is)
          (opened_map (after (word t.place n.word ∷ []) F) (λ ds. keyword t.place b ds) rest (dims next rest) ((dims_live (after (word t.place n.word ∷ []) F)
          (λ ds ys d. lead (keyword t.place b ds) (word t.place n.word ∷ ys) (record { as_type = λ i. phrases.IsType.basic n.word n.names d; as_indexed = λ i. absurd cc }) refl)).opened rest))

  -- ---- calls

  items_live : (n : ℕ) (found : List Expr) (F : Front) → ((bs : List Expr) (zs : Tokens) → Closed found bs zs → F.holds zs) → Live F (items next n found)
  unfolding items
  items_live zero found F lead =
      live_fail (F.closed [] (any_token ∷ sign no_place punct.RightParen ∷ []) (lead (found ++ any_expr ∷ []) (any_token ∷ sign no_place punct.RightParen ∷ []) (last_item found any_expr (any_token ∷ []) no_place phrases.IsExpr.name)))
  items_live (suc n) found F lead =
      live_then (IsExpr 1) (λ ts. hyp.low 1 ts (omega arith)) (alive 1 (omega arith) F)
      (λ a xs w. live_sees punct.Comma
      (λ p. items_live n (found ++ a ∷ []) (after (sign p punct.Comma ∷ []) (after xs F)) (λ bs zs r. lead bs (xs ++ sign p punct.Comma ∷ zs) (more_items found a xs p bs zs w r)))
      (live_close punct.RightParen (found ++ a ∷ []) (λ q. lead (found ++ a ∷ []) (xs ++ sign q punct.RightParen ∷ []) (last_item found a xs q w))))

  arguments_live : (t : TypeSpec) (o : Place) (xs : Tokens) (F : Front) → IsType t xs → ((a : Expr) (ys : Tokens) → IsExpr 15 a (xs ++ sign o punct.LeftParen ∷ ys) → F.holds ys) → Live F (arguments next t)
  unfolding arguments
  arguments_live t o xs F w lead = record {
    starts = F.closed [] (sign no_place punct.RightParen ∷ []) (lead (e.Call t []) (sign no_place punct.RightParen ∷ []) (call o no_place w phrases.IsArguments.no_argument));
    opened = λ ts. go ts (sees punct.RightParen ts) (void_alone ts) refl refl;
  }
    where
      go : (ts : Tokens) (b c : Bool) → sees punct.RightParen ts ≡ b → void_alone ts ≡ c
          → Opened F ts (cond b (and_then (take_one ts) (λ _. pure (e.Call t []))) (cond c (and_then (take_one ts) (λ _. take_one >>= λ _. pure (e.CallVoid t))) (and_then (items next (length ts) [] ts) (λ bs. pure (e.Call t bs)))))
      go ts true c h i = opened_sign F punct.RightParen ts (λ _. pure (e.Call t [])) h (λ q rest split. tt)
      go ts false true h i =
          opened_word F key.Void ts (λ _. take_one >>= λ _. pure (e.CallVoid t)) (void_parts ts i).0
          (λ v rest split. opened_sign (after (word v key.Void ∷ []) F) punct.RightParen rest (λ _. pure (e.CallVoid t)) (subst (λ (us : Tokens). closes_after us ≡ true) split (void_parts ts i).1) (λ q last split2. tt))
      go ts false false h i = opened_map F (λ bs. e.Call t bs) ts (items next (length ts) [] ts) ((items_live (length ts) [] F (λ bs zs r. lead (e.Call t bs) zs (call_of t xs o bs zs w r))).opened ts)

  applied_start : (h : Head) (xs : Tokens) (F : Front) → Stands h xs → ((a : Expr) (ys : Tokens) → IsExpr 15 a (xs ++ ys) → F.holds ys) → F.holds []
  applied_start h xs F s lead = go h.mode refl
    where
      by_call : may_be_open h.mode ≡ true → F.holds []
      by_call o =
          F.closed [] (sign no_place punct.LeftParen ∷ sign no_place punct.RightParen ∷ []) (lead (e.Call (head_type h) []) (sign no_place punct.LeftParen ∷ sign no_place punct.RightParen ∷ [])
          (call no_place no_place (s.as_type o) phrases.IsArguments.no_argument))

      by_index : (t : Base) → Indexed h.place t h.dims xs → F.holds []
      by_index (base.Named n) w = lead (index_all (e.Name h.place n) h.dims) [] (subst (λ (z : Tokens). IsExpr 15 (index_all (e.Name h.place n) h.dims) z) (sym (append-nil xs)) w)
      by_index (base.Basic b) w = absurd w

      go : (m : Mode) → h.mode ≡ m → F.holds []
      go mode.Either i = by_call (ap may_be_open i)
      go mode.Type i = by_call (ap may_be_open i)
      go mode.Index i = by_index h.base (s.as_indexed (ap may_be_index i))

  pub applied_live : (h : Head) (xs : Tokens) (F : Front) → Stands h xs → ((a : Expr) (ys : Tokens) → IsExpr 15 a (xs ++ ys) → F.holds ys) → Live F (applied next h)
  unfolding applied
  applied_live h xs F s lead = record { starts = applied_start h xs F s lead; opened = λ ts. go ts (sees punct.LeftParen ts) (may_be_open h.mode) (may_be_index h.mode) refl refl }
    where
      indexed : (t : Base) (ts : Tokens) → Opened F ts (indexed_by next h.place t h.dims ts)
      indexed (base.Named n) ts = tt
      indexed (base.Basic b) ts = fails F ts (applied_start h xs F s lead)

      or_indexed : (ts : Tokens) (d : Bool) → Opened F ts (cond d (indexed_by next h.place h.base h.dims ts) (Err ts))
      or_indexed ts true = indexed h.base ts
      or_indexed ts false = fails F ts (applied_start h xs F s lead)

      go : (ts : Tokens) (b c d : Bool) → sees punct.LeftParen ts ≡ b → may_be_open h.mode ≡ c
          → Opened F ts (cond (b && c) (and_then (take_one ts) (λ _. arguments next (head_type h))) (cond d (indexed_by next h.place h.base h.dims ts) (Err ts)))
      go ts true true d j k =
          opened_sign F punct.LeftParen ts (λ _. arguments next (head_type h)) j
          (λ o rest split. (arguments_live (head_type h) o xs (after (sign o punct.LeftParen ∷ []) F) (s.as_type k) (λ a ys w. lead a (sign o punct.LeftParen ∷ ys) w)).opened rest)
      go ts true false d j k = or_indexed ts d
      go ts false true d j k = or_indexed ts d
      go ts false false d j k = or_indexed ts d

  -- ---- operands

  module _ (F : Front) (lead : Leads (IsExpr 14) F) where
    wider : (xs : Tokens) (a : Expr) (ys : Tokens) → IsExpr 15 a (xs ++ ys) → F.holds (xs ++ ys)
    wider xs a ys w = lead a (xs ++ ys) (looser (omega arith) w)

    operand_at : (k : Start) (t : Token) (rest : Tokens) → start_by t.kind ≡ k → Opened F (t ∷ rest) (operand_as next k (t ∷ rest))
    unfolding start_at
    operand_at start.Name t rest h =
        (live_then Stands (named_head_good next hyp.low) (named_head_live F) (λ g xs s. applied_live g xs (after xs F) s (wider xs))).opened (t ∷ rest)
    operand_at (start.Basic b) t rest h =
        opened_then F Stands (t ∷ rest) (basic_head next b (t ∷ rest)) (applied next) (basic_head_good next hyp.low b (t ∷ rest) h)
        (basic_head_opened F b (t ∷ rest) h (λ g xs s o. nil_off F xs (applied_start g xs (after xs F) s (wider xs)))) (λ g xs last split s. (applied_live g xs (after xs F) s (wider xs)).opened last)
    operand_at (start.Signed n) t rest h = tt
    operand_at (start.Unsigned n) t rest h = tt
    operand_at (start.Bool b) t rest h = tt
    operand_at start.Paren t rest h =
        let p = sign t.place punct.LeftParen in
        opened_front F (t ∷ rest) (p ∷ []) rest (and_then (next 0 rest) (λ a. expect punct.RightParen >>= λ _. pure (e.Paren t.place a))) (kind_is t rest (kind.Punct punct.LeftParen) (starts_paren t.kind h))
        ((live_then (IsExpr 0) (λ ts. hyp.low 0 ts (omega arith)) (alive 0 (omega arith) (after (p ∷ []) F))
        (λ a xs w. live_close punct.RightParen (e.Paren t.place a) (λ q. lead (e.Paren t.place a) (p ∷ (xs ++ sign q punct.RightParen ∷ [])) (paren q w)))).opened rest)
    operand_at (start.Unary o) t rest h = go (starts_unary t.kind o h)
      where
        go : Spells unary_of o t.kind → Opened F (t ∷ rest) (and_then (next 14 rest) (λ a. pure (e.Unary t.place o a)))
        go m =
            opened_front F (t ∷ rest) (sign t.place m.mark ∷ []) rest (and_then (next 14 rest) (λ a. pure (e.Unary t.place o a))) (kind_is t rest (kind.Punct m.mark) m.is)
            (opened_map (after (sign t.place m.mark ∷ []) F) (λ a. e.Unary t.place o a) rest (next 14 rest) ((alive 14 (omega arith) (after (sign t.place m.mark ∷ []) F) (λ a xs w. lead (e.Unary t.place o a) (sign t.place m.mark ∷ xs) (unary m.mark m.spells (omega arith) w))).opened rest))
    operand_at start.Bad t rest h = fails F (t ∷ rest) (begins_expr F lead)

    operand_live : Live F (operand next)
    unfolding operand start_at
    operand_live = record { starts = begins_expr F lead; opened = opened }
      where
        opened : (ts : Tokens) → Opened F ts (operand next ts)
        opened [] = fails F [] (begins_expr F lead)
        opened (t ∷ rest) = operand_at (start_by t.kind) t rest refl

  -- ---- what goes on with an operand, at a level k

  module _ (k : ℕ) (F : Front) (a : Expr) (x : Tokens) (lead : (b : Expr) (ys : Tokens) → IsExpr k b (x ++ ys) → F.holds ys) (stop : F.holds []) where
    select : (p : Place) (n : Name) → k ≤ 15 → IsExpr 15 a x → Live (after (called n ∷ []) (after (sign p punct.Dot ∷ []) F)) (selected p n a)
    unfolding selected
    select p n le s =
        live_sees punct.LeftParen (λ o. live_close punct.RightParen (e.Method p a n.text) (λ c. lead (e.Method p a n.text) (sign p punct.Dot ∷ (called n ∷ (sign o punct.LeftParen ∷ (sign c punct.RightParen ∷ [])))) (method n.place o c le s)))
        (live_pure (e.Member p a n.text) (lead (e.Member p a n.text) (sign p punct.Dot ∷ (called n ∷ [])) (member n.place le s)))

    operate_at : (f : Follow) (t : Token) (rest : Tokens) → follow_by t.kind ≡ f → k ≤ binds f → IsExpr (binds f) a x → Opened F (t ∷ rest) (operate_as next a f (t ∷ rest))
    operate_at follow.Index t rest h le s =
        let p = sign t.place punct.LeftBracket in
        opened_front F (t ∷ rest) (p ∷ []) rest (and_then (next 0 rest) (λ b. expect punct.RightBracket >>= λ _. pure (e.Index t.place a b))) (kind_is t rest (kind.Punct punct.LeftBracket) (follows_index t.kind h))
        ((live_then (IsExpr 0) (λ ts. hyp.low 0 ts (omega arith)) (alive 0 (omega arith) (after (p ∷ []) F))
        (λ b ys w. live_close punct.RightBracket (e.Index t.place a b) (λ q. lead (e.Index t.place a b) (p ∷ (ys ++ sign q punct.RightBracket ∷ [])) (index q le s w)))).opened rest)
    operate_at follow.Member t rest h le s =
        let p = sign t.place punct.Dot in
        opened_front F (t ∷ rest) (p ∷ []) rest (and_then (name rest) (λ n. selected t.place n a)) (kind_is t rest (kind.Punct punct.Dot) (follows_member t.kind h))
        ((live_name (λ n. select t.place n le s)).opened rest)
    operate_at (follow.Postfix o) t rest h le s = tt
    operate_at (follow.Binary o) t rest h le s = go (follows_binary t.kind o h)
      where
        go : Spells binary_of o t.kind → Opened F (t ∷ rest) (and_then (next (level_of o + 1) rest) (λ b. pure (e.Binary t.place o a b)))
        go m =
            let high = level_most o in
            opened_front F (t ∷ rest) (sign t.place m.mark ∷ []) rest (and_then (next (level_of o + 1) rest) (λ b. pure (e.Binary t.place o a b))) (kind_is t rest (kind.Punct m.mark) m.is)
            (opened_map (after (sign t.place m.mark ∷ []) F) (λ b. e.Binary t.place o a b) rest (next (level_of o + 1) rest)
            ((alive (level_of o + 1) (omega arith) (after (sign t.place m.mark ∷ []) F) (λ b ys w. lead (e.Binary t.place o a b) (sign t.place m.mark ∷ ys) (binary m.mark m.spells le s w))).opened rest))
    operate_at follow.End t rest h le s = fails F (t ∷ rest) stop

    operate_opened : (ts : Tokens) → k ≤ binds (follow_at ts) → IsExpr (binds (follow_at ts)) a x → Opened F ts (operate next a ts)
    unfolding operate follow_at
    operate_opened [] le s = fails F [] stop
    operate_opened (t ∷ rest) le s = operate_at (follow_by t.kind) t rest refl le s

  -- ---- operators

  climb_opened : (n k j : ℕ) (a : Expr) (x ts : Tokens) (F : Front) → 1 ≤ k → k ≤ j → IsExpr j a x → binds (follow_at ts) ≤ j → ((b : Expr) (ys : Tokens) → IsExpr k b (x ++ ys) → F.holds ys) → Opened F ts (climb next k n a ts)
  unfolding climb
  climb_opened zero k j a x ts F low le w stops lead = tt
  climb_opened (suc n) k j a x ts F low le w stops lead = go (nat_lt (binds (follow_at ts)) k) refl (climb_opened n k)
    where
      go : (b : Bool) → nat_lt (binds (follow_at ts)) k ≡ b
          → ((i : ℕ) (c : Expr) (y us : Tokens) (G : Front) → 1 ≤ k → k ≤ i → IsExpr i c y → binds (follow_at us) ≤ i → ((b : Expr) (ys : Tokens) → IsExpr k b (y ++ ys) → G.holds ys) → Opened G us (climb next k n c us))
          → Opened F ts (cond b (Ok (a, ts)) (and_then (operate next a ts) (climb next k n)))
      go true h ih = tt
      go false h ih =
          let above : k ≤ binds (follow_at ts) = ltb-false _ _ h in
          opened_to F (Grown (binds (follow_at ts)) x) ts (operate next a ts) (climb next k n) (operate_good next hyp a x ts (looser stops w))
          (operate_opened k F a x lead (lead a [] (ended k j a x le w)) ts above (looser stops w))
          (λ c ys rest split s. ih (binds (follow_at ts)) c (x ++ ys) rest (after ys F) low above s.0 s.1 (λ b zs v. lead b (ys ++ zs) (subst (λ (z : Tokens). IsExpr k b z) (append_assoc x ys zs) v)))

  -- ---- what stands behind operands and their operators

  module _ (k l : ℕ) (a : Expr) (x : Tokens) (F : Front) (low : l ≤ 2) (lower : k ≤ 1 → l ≤ 1) (w : IsExpr 3 a x) (lead : (b : Expr) (ys : Tokens) → IsExpr l b (x ++ ys) → F.holds ys) where
    question_live : (p : Place) → Live (after (sign p punct.Question ∷ []) F) (next 0 >>= λ b. expect punct.Colon >>= λ _. next 1 >>= λ c. pure (e.Conditional p a b c))
    question_live p =
        live_then (IsExpr 0) (λ ts. hyp.low 0 ts (omega arith)) (alive 0 (omega arith) (after (sign p punct.Question ∷ []) F))
        (λ b ys v. live_expect punct.Colon (λ q. live_map (λ c. e.Conditional p a b c) (alive 1 (omega arith) (after (sign q punct.Colon ∷ []) (after ys (after (sign p punct.Question ∷ []) F)))
        (λ c zs u. lead (e.Conditional p a b c) (sign p punct.Question ∷ (ys ++ sign q punct.Colon ∷ zs)) (conditional q low w v u)))))

    tailed_at : (f : Tail) (t : Token) (rest : Tokens) → tail_by t.kind ≡ f → Opened F (t ∷ rest) (tailed_as next k a f (t ∷ rest))
    tailed_at tail.Question t rest h = go (nat_le k 2)
      where
        go : (b : Bool) → Opened F (t ∷ rest) ((cond b (take_one >>= λ p. next 0 >>= λ b. expect punct.Colon >>= λ _. next 1 >>= λ c. pure (e.Conditional p a b c)) (pure a)) (t ∷ rest))
        go false = tt
        go true =
            opened_front F (t ∷ rest) (sign t.place punct.Question ∷ []) rest (and_then (next 0 rest) (λ b. expect punct.Colon >>= λ _. next 1 >>= λ c. pure (e.Conditional t.place a b c)))
            (kind_is t rest (kind.Punct punct.Question) (tails_question t.kind h)) ((question_live t.place).opened rest)
    tailed_at (tail.Assign o) t rest h = go (nat_le k 1) (is_tight a) refl refl (tails_assign t.kind o h)
      where
        go : (b c : Bool) → nat_le k 1 ≡ b → is_tight a ≡ c → Spells assign_of o t.kind → Opened F (t ∷ rest) ((cond (b && c) (take_one >>= λ p. next 1 >>= λ b. pure (e.Assign p o a b)) (pure a)) (t ∷ rest))
        go true true i j m =
            opened_front F (t ∷ rest) (sign t.place m.mark ∷ []) rest (and_then (next 1 rest) (λ b. pure (e.Assign t.place o a b))) (kind_is t rest (kind.Punct m.mark) m.is)
            (opened_map (after (sign t.place m.mark ∷ []) F) (λ b. e.Assign t.place o a b) rest (next 1 rest)
            ((alive 1 (omega arith) (after (sign t.place m.mark ∷ []) F) (λ b ys v. lead (e.Assign t.place o a b) (sign t.place m.mark ∷ ys) (assign m.mark m.spells (lower (leb-true k 1 i)) (tight_is j w) v))).opened rest))
        go true false i j m = tt
        go false true i j m = tt
        go false false i j m = tt
    tailed_at tail.End t rest h = tt

    tailed_opened : (ts : Tokens) → Opened F ts (tailed next k a ts)
    unfolding tailed tail_at
    tailed_opened [] = tt
    tailed_opened (t ∷ rest) = tailed_at (tail_by t.kind) t rest refl

  further_live : (n : ℕ) (found : List (Place × Expr)) (F : Front) → ((bs : List (Place × Expr)) (zs : Tokens) → Followed found bs zs → F.holds zs) → Live F (further next n found)
  unfolding further
  further_live zero found F lead = live_pure found (lead found [] (none_followed found))
  further_live (suc n) found F lead =
      live_sees punct.Comma
      (λ p. live_then (IsExpr 1) (λ ts. hyp.low 1 ts (omega arith)) (alive 1 (omega arith) (after (sign p punct.Comma ∷ []) F))
      (λ b xs w. further_live n (found ++ (p, b) ∷ []) (after xs (after (sign p punct.Comma ∷ []) F)) (λ bs zs r. lead bs (sign p punct.Comma ∷ (xs ++ zs)) (more_followed found p b xs bs zs w r))))
      (live_pure found (lead found [] (none_followed found)))

  sequenced_opened : (k l : ℕ) (a : Expr) (x ts : Tokens) (F : Front) → 1 ≤ l → IsExpr l a x → ((b : Expr) (ys : Tokens) → IsExpr k b (x ++ ys) → F.holds ys) → Opened F ts (sequenced next k a ts)
  unfolding sequenced
  sequenced_opened k l a x ts F some s lead = go (nat_eq k 0) refl
    where
      go : (b : Bool) → nat_eq k 0 ≡ b → Opened F ts (cond b (and_then (further next (length ts) [] ts) (λ bs. pure (sequence_of a bs))) (Ok (a, ts)))
      go false h = tt
      go true h =
          let none : k ≡ 0 = eqb-true k 0 h in
          opened_map F (λ bs. sequence_of a bs) ts (further next (length ts) [] ts)
          ((further_live (length ts) [] F
          (λ bs zs r. lead (sequence_of a bs) zs (subst (λ (cs : List (Place × Expr)). IsExpr k (sequence_of a cs) (x ++ zs)) (sym r.all_is) (sequence_by k a x r.others zs (omega arith) (looser some s) r.commas)))).opened ts)

  -- ---- all that stands behind the first operand

  completed_low : (k l : ℕ) (a : Expr) (x ts : Tokens) (F : Front) → k ≤ l → 1 ≤ l → l ≤ 2 → (k ≤ 1 → l ≤ 1) → Ready a x ts → ((b : Expr) (ys : Tokens) → IsExpr k b (x ++ ys) → F.holds ys) → Opened F ts (completed next k a ts)
  unfolding completed
  completed_low k l a x ts F le some low lower r lead =
      let above : 3 ≤ max k 3 = le-max_right k 3 in
      let below : max k 3 ≤ 14 = max-le (omega arith) (omega arith) in
      opened_then F (λ b ys. IsExpr l b (x ++ ys)) ts (and_then (climb next (max k 3) (length ts) a ts) (tailed next k)) (sequenced next k)
      (good_then (λ b ys. IsExpr 3 b (x ++ ys)) (λ b ys. IsExpr l b (x ++ ys)) ts (climb next (max k 3) (length ts) a ts) (tailed next k) (climbs above below)
      (λ b ys rest split w. good_weaken (λ c zs. IsExpr l c ((x ++ ys) ++ zs)) (λ c zs. IsExpr l c (x ++ (ys ++ zs))) rest (tailed next k b rest) (tailed_good next hyp k l b (x ++ ys) rest low lower w)
      (λ c zs v. subst (λ (z : Tokens). IsExpr l c z) (append_assoc x ys zs) v)))
      (opened_then F (λ b ys. IsExpr 3 b (x ++ ys)) ts (climb next (max k 3) (length ts) a ts) (tailed next k) (climbs above below)
      (climb_opened (length ts) (max k 3) r.j a x ts F (omega arith) (omega (arith, r.bound)) r.tight r.stops (λ b ys v. lead b ys (looser (omega arith) v)))
      (λ b ys rest split w. tailed_opened k l b (x ++ ys) (after ys F) low lower w (λ c zs v. lead c (ys ++ zs) (looser le (subst (λ (z : Tokens). IsExpr l c z) (append_assoc x ys zs) v))) rest))
      (λ b ys rest split w. sequenced_opened k l b (x ++ ys) rest (after ys F) some w (λ c zs v. lead c (ys ++ zs) (subst (λ (z : Tokens). IsExpr k c z) (append_assoc x ys zs) v)))
    where
      climbs : 3 ≤ max k 3 → max k 3 ≤ 14 → Good (λ b ys. IsExpr 3 b (x ++ ys)) ts (climb next (max k 3) (length ts) a ts)
      climbs above below =
          good_of (Climbed (max k 3) x) (λ b ys. IsExpr 3 b (x ++ ys)) ts (climb next (max k 3) (length ts) a ts)
          (climb_good next hyp (length ts) (max k 3) r.j a x ts (omega arith) (omega arith) (omega (arith, r.bound)) r.tight r.stops) (λ b ys rest w. looser above w.0)

  tailed_quiet : (k : ℕ) (a : Expr) (ts : Tokens) → 3 ≤ k → Quiet (tailed next k a ts)
  unfolding tailed
  tailed_quiet k a ts h = go (tail_at ts)
    where
      question : (b : Bool) → nat_le k 2 ≡ b → Quiet ((cond b (take_one >>= λ p. next 0 >>= λ b. expect punct.Colon >>= λ _. next 1 >>= λ c. pure (e.Conditional p a b c)) (pure a)) ts)
      question true i = let le : k ≤ 2 = leb-true k 2 i in absurd (omega arith)
      question false i = tt

      assigned : (o : _) (b c : Bool) → nat_le k 1 ≡ b → Quiet ((cond (b && c) (take_one >>= λ p. next 1 >>= λ b. pure (e.Assign p o a b)) (pure a)) ts)
      assigned o true c i = let le : k ≤ 1 = leb-true k 1 i in absurd (omega arith)
      assigned o false true i = tt
      assigned o false false i = tt

      go : (f : Tail) → Quiet (tailed_as next k a f ts)
      go tail.Question = question (nat_le k 2) refl
      go (tail.Assign o) = assigned o (nat_le k 1) (is_tight a) refl
      go tail.End = tt

  sequenced_quiet : (k : ℕ) (a : Expr) (ts : Tokens) → 3 ≤ k → Quiet (sequenced next k a ts)
  unfolding sequenced
  sequenced_quiet k a ts h = go (nat_eq k 0) refl
    where
      go : (b : Bool) → nat_eq k 0 ≡ b → Quiet (cond b (and_then (further next (length ts) [] ts) (λ bs. pure (sequence_of a bs))) (Ok (a, ts)))
      go true i = let none : k ≡ 0 = eqb-true k 0 i in absurd (omega arith)
      go false i = tt

  completed_tight : (k : ℕ) (a : Expr) (x ts : Tokens) (F : Front) → 3 ≤ k → k ≤ 14 → Ready a x ts → ((b : Expr) (ys : Tokens) → IsExpr k b (x ++ ys) → F.holds ys) → Opened F ts (completed next k a ts)
  unfolding completed
  completed_tight k a x ts F low high r lead =
      subst (λ (m : ℕ). Opened F ts (and_then (and_then (climb next m (length ts) a ts) (tailed next k)) (sequenced next k))) (sym (max-eq_left low))
      (opened_quiet F ts (and_then (climb next k (length ts) a ts) (tailed next k)) (sequenced next k)
      (opened_quiet F ts (climb next k (length ts) a ts) (tailed next k) (climb_opened (length ts) k r.j a x ts F (omega arith) (omega (arith, r.bound)) r.tight r.stops lead) (λ b rest. tailed_quiet k b rest low))
      (λ b rest. sequenced_quiet k b rest low))

  pub completed_opened : (k : ℕ) (a : Expr) (x ts : Tokens) (F : Front) → k ≤ 14 → Ready a x ts → ((b : Expr) (ys : Tokens) → IsExpr k b (x ++ ys) → F.holds ys) → Opened F ts (completed next k a ts)
  completed_opened k a x ts F high r lead = go (nat_le k 1) (nat_le k 2) refl refl
    where
      go : (b c : Bool) → nat_le k 1 ≡ b → nat_le k 2 ≡ c → Opened F ts (completed next k a ts)
      go true c h i = let le : k ≤ 1 = leb-true k 1 h in completed_low k 1 a x ts F le (omega arith) (omega arith) (λ j. omega arith) r lead
      go false true h i = let above : 1 < k = leb-false k 1 h in let le : k ≤ 2 = leb-true k 2 i in completed_low k 2 a x ts F le (omega arith) (omega arith) (λ j. absurd (omega arith)) r lead
      go false false h i = let above : 2 < k = leb-false k 2 i in completed_tight k a x ts F (omega arith) high r lead

  whole_live : (k : ℕ) → k ≤ 14 → (F : Front) → Leads (IsExpr k) F → Live F (whole next k)
  whole_live k high F lead = record {
    starts = begins_expr F lead;
    opened = λ ts. opened_to F Ready ts (operand next ts) (completed next k) (operand_good next hyp ts) ((operand_live F (λ a xs w. lead a xs (looser high w))).opened ts)
        (λ a xs rest split r. completed_opened k a xs rest (after xs F) high r (λ b ys v. lead b (xs ++ ys) v));
  }

-- ---- expressions, however deep

pub expr_live : (d : ℕ) → Alive (expr d)
unfolding expr
expr_live zero k high F lead = live_fail (begins_expr F lead)
expr_live (suc d) k high F lead = whole_live (expr d) (nested d) (expr_live d) k high F lead
