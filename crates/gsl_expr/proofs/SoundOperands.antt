-- Calls and operands, and what one operator makes of an operand, stand for the tokens that were taken.
use Rattle.std.proofs.Common.{◌≡◌, ℕ, zero, suc, ◌+◌, ◌≤◌, ◌<◌, Bool, true, false, cond, ◌&&◌, List, [], ◌∷◌, ◌++◌, length, Ok, Err, refl, sym, ap, subst, ◌∙◌, append_assoc, arith}
use Rattle.std.proofs.lemmas.Bool.{and_parts}
use Rattle.std.proofs.lemmas.List.{append-nil}
use Rattle.gsl_base.specs.declared.fault.Place.{Place}
use Rattle.gsl_base.specs.declared.token.Punct.TheVariants as punct
use Rattle.gsl_base.specs.declared.token.Key.TheVariants as key
use Rattle.gsl_base.specs.declared.token.Kind.{Kind}
use Rattle.gsl_base.specs.declared.token.Kind.TheVariants as kind
use Rattle.gsl_base.specs.declared.token.Token.{Token}
use Rattle.gsl_syntax.specs.declared.declaration.Name.{Name}
use Rattle.gsl_syntax.specs.declared.expr.Expr.{Expr}
use Rattle.gsl_syntax.specs.declared.expr.Expr.TheVariants as e
use Rattle.gsl_syntax.specs.declared.expr.TypeSpec.{TypeSpec}
use Rattle.gsl_syntax.specs.declared.expr.Dim.{Dim}
use Rattle.gsl_syntax.specs.Operators.{binary_of, level_of, unary_of, postfix_of}
use Rattle.gsl_syntax.specs.Phrases.{token, sign, word, IsExpr, IsType, IsArguments, IsItems}
use Rattle.gsl_syntax.specs.Phrases.IsExpr.{signed, unsigned, truth, falsity, paren, call_void, call, index, member, method, postfix, unary, binary}
use Rattle.gsl_syntax.specs.Phrases.IsArguments.{no_argument}
use Rattle.gsl_syntax.specs.Phrases as phrases
use Rattle.gsl_syntax.specs.Phrases.IsItems.{one, more}
use Rattle.gsl_expr.specs.declared.rule.Start.{Start}
use Rattle.gsl_expr.specs.declared.rule.Start.TheVariants as start
use Rattle.gsl_expr.specs.declared.rule.Follow.{Follow}
use Rattle.gsl_expr.specs.declared.rule.Follow.TheVariants as follow
use Rattle.gsl_expr.specs.declared.rule.Base.{Base}
use Rattle.gsl_expr.specs.declared.rule.Base.TheVariants as base
use Rattle.gsl_expr.specs.declared.rule.Head.{Head}
use Rattle.gsl_expr.specs.Rules.{start_at, start_by, follow_at, follow_by, binds}
use Rattle.gsl_expr.specs.Reading.{Tokens, Parser, and_then, ◌>>=◌, pure, take_one, sees, sees_key, expect, name}
use Rattle.gsl_expr.specs.Expressions.{index_all, head_type, may_be_open, may_be_index, closes_after, void_alone, selected, named_head, basic_head, items, arguments, indexed_by, applied, operand_as, operand, operate_as, operate}
use Rattle.gsl_expr.proofs.Taken.{Good, GoodTo, to_front, to_map, to_of, good_ok, good_weaken, good_map, good_front, good_then, good_sign, good_word, good_name, good_close}
use Rattle.gsl_expr.proofs.SoundLevels.{level_least, level_most, binds_most}
use Rattle.gsl_expr.proofs.SoundTells.{Spells, starts_signed, starts_unsigned, starts_bool, starts_paren, starts_unary, follows_index, follows_member, follows_postfix, follows_binary}
use Rattle.gsl_expr.proofs.SoundHeads.{Indexed, Stands, named_head_good, basic_head_good}

-- ---- items of a call

-- Items with the parenthesis that closes them, behind those that were found before.
pub record Closed (found all : List Expr) (zs : Tokens) : Type 0 where
  pub others : List Expr
  pub ys : Tokens
  pub place : Place
  pub all_is : all ≡ found ++ others
  pub zs_is : zs ≡ ys ++ sign place punct.RightParen ∷ []
  pub items : IsItems others ys

pub last_item : (found : List Expr) (a : Expr) (xs : Tokens) (p : Place) → IsExpr 1 a xs → Closed found (found ++ a ∷ []) (xs ++ sign p punct.RightParen ∷ [])
last_item found a xs p w = record { others = a ∷ []; ys = xs; place = p; all_is = refl; zs_is = refl; items = one w }

pub more_items : (found : List Expr) (a : Expr) (xs : Tokens) (p : Place) (bs : List Expr) (zs : Tokens) → IsExpr 1 a xs → Closed (found ++ a ∷ []) bs zs → Closed found bs (xs ++ sign p punct.Comma ∷ zs)
more_items found a xs p bs zs w r = record {
  others = a ∷ r.others;
  ys = xs ++ sign p punct.Comma ∷ r.ys;
  place = r.place;
  all_is = r.all_is ∙ append_assoc found (a ∷ []) r.others;
  zs_is = ap (λ (z : Tokens). xs ++ sign p punct.Comma ∷ z) r.zs_is ∙ sym (append_assoc xs (sign p punct.Comma ∷ r.ys) (sign r.place punct.RightParen ∷ []));
  items = more p w r.items;
}

pub call_of : (t : TypeSpec) (xs : Tokens) (o : Place) (bs : List Expr) (zs : Tokens) → IsType t xs → Closed [] bs zs → IsExpr 15 (e.Call t bs) (xs ++ sign o punct.LeftParen ∷ zs)
call_of t xs o bs zs w r =
    subst (λ (z : Tokens). IsExpr 15 (e.Call t bs) (xs ++ sign o punct.LeftParen ∷ z)) (sym r.zs_is)
    (call o r.place w (phrases.IsArguments.arguments (subst (λ (cs : List Expr). IsItems cs r.ys) (sym r.all_is) r.items)))

pub void_parts : (ts : Tokens) → void_alone ts ≡ true → (sees_key key.Void ts ≡ true) × (closes_after ts ≡ true)
unfolding void_alone
void_parts ts h = and_parts (sees_key key.Void ts) (closes_after ts) h

-- ---- what is known of the reader of nested expressions

abbrev pub Upto : ℕ → Expr → Tokens → Tokens → Type 0
Upto k a xs rest = IsExpr k a xs × (binds (follow_at rest) < k)

pub record Nested (next : ℕ → Parser Expr) : Type 0 where
  pub low : (k : ℕ) (ts : Tokens) → k ≤ 2 → Good (IsExpr k) ts (next k ts)
  pub tight : (k : ℕ) (ts : Tokens) → 3 ≤ k → k ≤ 14 → GoodTo (Upto k) ts (next k ts)

-- What was read binds at least as tightly as the next token does.
pub record Ready (a : Expr) (xs rest : Tokens) : Type 0 where
  pub j : ℕ
  pub bound : 14 ≤ j
  pub tight : IsExpr j a xs
  pub stops : binds (follow_at rest) ≤ j

pub whole_ready : (a : Expr) (xs rest : Tokens) → IsExpr 15 a xs → Ready a xs rest
whole_ready a xs rest w = record { j = 15; bound = omega arith; tight = w; stops = binds_most (follow_at rest) }

-- What was read goes on with what is read now, and binds at least as tightly as the next token does.
abbrev pub Grown : ℕ → Tokens → Expr → Tokens → Tokens → Type 0
Grown j x b ys rest = IsExpr j b (x ++ ys) × (binds (follow_at rest) ≤ j) × (0 < length ys)

abbrev Longer : Tokens → Expr → Tokens → Type 0
Longer x b ys = IsExpr 15 b (x ++ ys) × (0 < length ys)

longer_grown : (x : Tokens) (b : Expr) (ys rest : Tokens) → Longer x b ys → Grown 15 x b ys rest
longer_grown x b ys rest w = (w.0, binds_most (follow_at rest), w.1)

-- a token is of its kind
pub kind_is : (t : Token) (rest : Tokens) (k : Kind) → t.kind ≡ k → t ∷ rest ≡ (token t.place k ∷ []) ++ rest
kind_is t rest k h = ap (λ (j : Kind). token t.place j ∷ rest) h

bool_is : (b : Bool) (t : Token) → start_by t.kind ≡ start.Bool b → IsExpr 15 (e.Bool t.place b) (t ∷ [])
bool_is true t h = subst (λ (k : Kind). IsExpr 15 (e.Bool t.place true) (token t.place k ∷ [])) (sym (starts_bool t.kind true h)) truth
bool_is false t h = subst (λ (k : Kind). IsExpr 15 (e.Bool t.place false) (token t.place k ∷ [])) (sym (starts_bool t.kind false h)) falsity

selected_good : (p : Place) (n : Name) (a : Expr) (x ts : Tokens) → IsExpr 15 a x
    → Good (λ b ys. Longer x b (sign p punct.Dot ∷ (token n.place (kind.Name n.text) ∷ ys))) ts (selected p n a ts)
unfolding selected
selected_good p n a x ts w = go (sees punct.LeftParen ts) refl
  where
    go : (b : Bool) → sees punct.LeftParen ts ≡ b
        → Good (λ b ys. Longer x b (sign p punct.Dot ∷ (token n.place (kind.Name n.text) ∷ ys))) ts
        (cond b (and_then (take_one ts) (λ _. expect punct.RightParen >>= λ _. pure (e.Method p a n.text))) (Ok (e.Member p a n.text, ts)))
    go true h =
        good_sign (λ b ys. Longer x b (sign p punct.Dot ∷ (token n.place (kind.Name n.text) ∷ ys))) punct.LeftParen ts (λ _. expect punct.RightParen >>= λ _. pure (e.Method p a n.text)) h
        (λ o rest split. good_close (λ b ys. Longer x b (sign p punct.Dot ∷ (token n.place (kind.Name n.text) ∷ (sign o punct.LeftParen ∷ ys)))) punct.RightParen (e.Method p a n.text) rest
        (λ c. (method n.place o c (omega arith) w, omega arith)))
    go false h = good_ok (λ b ys. Longer x b (sign p punct.Dot ∷ (token n.place (kind.Name n.text) ∷ ys))) ts (e.Member p a n.text) (member n.place (omega arith) w, omega arith)

module _ (next : ℕ → Parser Expr) (hyp : Nested next) where
  items_good : (n : ℕ) (found : List Expr) (ts : Tokens) → Good (Closed found) ts (items next n found ts)
  unfolding items
  items_good zero found ts = tt
  items_good (suc n) found ts =
      good_then (IsExpr 1) (Closed found) ts (next 1 ts)
      (λ a ts. cond (sees punct.Comma ts) (and_then (take_one ts) (λ _. items next n (found ++ a ∷ []))) (and_then (expect punct.RightParen ts) (λ _. pure (found ++ a ∷ [])))) (hyp.low 1 ts (omega arith))
      (λ a xs rest split w. go a xs rest w (items_good n (found ++ a ∷ [])) (sees punct.Comma rest) refl)
    where
      go : (a : Expr) (xs rest : Tokens) → IsExpr 1 a xs → ((us : Tokens) → Good (Closed (found ++ a ∷ [])) us (items next n (found ++ a ∷ []) us)) → (b : Bool) → sees punct.Comma rest ≡ b
          → Good (λ bs ys. Closed found bs (xs ++ ys)) rest (cond b (and_then (take_one rest) (λ _. items next n (found ++ a ∷ []))) (and_then (expect punct.RightParen rest) (λ _. pure (found ++ a ∷ []))))
      go a xs rest w ih true h =
          good_sign (λ bs ys. Closed found bs (xs ++ ys)) punct.Comma rest (λ _. items next n (found ++ a ∷ [])) h
          (λ p after split. good_weaken (Closed (found ++ a ∷ [])) (λ bs ys. Closed found bs (xs ++ sign p punct.Comma ∷ ys)) after (items next n (found ++ a ∷ []) after) (ih after)
          (λ bs zs r. more_items found a xs p bs zs w r))
      go a xs rest w ih false h = good_close (λ bs ys. Closed found bs (xs ++ ys)) punct.RightParen (found ++ a ∷ []) rest (λ p. last_item found a xs p w)

  arguments_good : (t : TypeSpec) (o : Place) (xs ts : Tokens) → IsType t xs → Good (λ a ys. IsExpr 15 a (xs ++ sign o punct.LeftParen ∷ ys)) ts (arguments next t ts)
  unfolding arguments
  arguments_good t o xs ts w = go (sees punct.RightParen ts) (void_alone ts) refl refl
    where
      go : (b c : Bool) → sees punct.RightParen ts ≡ b → void_alone ts ≡ c
          → Good (λ a ys. IsExpr 15 a (xs ++ sign o punct.LeftParen ∷ ys)) ts
          (cond b (and_then (take_one ts) (λ _. pure (e.Call t []))) (cond c (and_then (take_one ts) (λ _. take_one >>= λ _. pure (e.CallVoid t))) (and_then (items next (length ts) [] ts) (λ bs. pure (e.Call t bs)))))
      go true c h i =
          good_sign (λ a ys. IsExpr 15 a (xs ++ sign o punct.LeftParen ∷ ys)) punct.RightParen ts (λ _. pure (e.Call t [])) h
          (λ q rest split. good_ok (λ a ys. IsExpr 15 a (xs ++ sign o punct.LeftParen ∷ (sign q punct.RightParen ∷ ys))) rest (e.Call t []) (call o q w no_argument))
      go false true h i =
          good_word (λ a ys. IsExpr 15 a (xs ++ sign o punct.LeftParen ∷ ys)) key.Void ts (λ _. take_one >>= λ _. pure (e.CallVoid t)) (void_parts ts i).0
          (λ v rest split. good_sign (λ a ys. IsExpr 15 a (xs ++ sign o punct.LeftParen ∷ (word v key.Void ∷ ys))) punct.RightParen rest (λ _. pure (e.CallVoid t))
          (subst (λ (us : Tokens). closes_after us ≡ true) split (void_parts ts i).1)
          (λ q after split2. good_ok (λ a ys. IsExpr 15 a (xs ++ sign o punct.LeftParen ∷ (word v key.Void ∷ (sign q punct.RightParen ∷ ys)))) after (e.CallVoid t) (call_void o v q w)))
      go false false h i =
          good_map (Closed []) (λ a ys. IsExpr 15 a (xs ++ sign o punct.LeftParen ∷ ys)) (λ bs. e.Call t bs) ts (items next (length ts) [] ts) (items_good (length ts) [] ts) (λ bs zs r. call_of t xs o bs zs w r)

  indexed_good : (p : Place) (b : Base) (ds : List Dim) (xs ts : Tokens) → Indexed p b ds xs → Good (λ a ys. IsExpr 15 a (xs ++ ys)) ts (indexed_by next p b ds ts)
  indexed_good p (base.Named n) ds xs ts w =
      good_ok (λ a ys. IsExpr 15 a (xs ++ ys)) ts (index_all (e.Name p n) ds) (subst (λ (z : Tokens). IsExpr 15 (index_all (e.Name p n) ds) z) (sym (append-nil xs)) w)
  indexed_good p (base.Basic b) ds xs ts w = tt

  pub applied_good : (h : Head) (xs ts : Tokens) → Stands h xs → Good (λ a ys. IsExpr 15 a (xs ++ ys)) ts (applied next h ts)
  unfolding applied
  applied_good h xs ts s = go (sees punct.LeftParen ts) (may_be_open h.mode) (may_be_index h.mode) refl refl refl
    where
      or_indexed : (d : Bool) → may_be_index h.mode ≡ d → Good (λ a ys. IsExpr 15 a (xs ++ ys)) ts (cond d (indexed_by next h.place h.base h.dims ts) (Err ts))
      or_indexed true i = indexed_good h.place h.base h.dims xs ts (s.as_indexed i)
      or_indexed false i = tt

      go : (b c d : Bool) → sees punct.LeftParen ts ≡ b → may_be_open h.mode ≡ c → may_be_index h.mode ≡ d
          → Good (λ a ys. IsExpr 15 a (xs ++ ys)) ts (cond (b && c) (and_then (take_one ts) (λ _. arguments next (head_type h))) (cond d (indexed_by next h.place h.base h.dims ts) (Err ts)))
      go true true d j k l =
          good_sign (λ a ys. IsExpr 15 a (xs ++ ys)) punct.LeftParen ts (λ _. arguments next (head_type h)) j (λ o rest split. arguments_good (head_type h) o xs rest (s.as_type k))
      go true false d j k l = or_indexed d l
      go false true d j k l = or_indexed d l
      go false false d j k l = or_indexed d l

  operand_at : (s : Start) (t : Token) (rest : Tokens) → start_by t.kind ≡ s → GoodTo Ready (t ∷ rest) (operand_as next s (t ∷ rest))
  unfolding start_at
  operand_at start.Name t rest h =
      to_of (IsExpr 15) Ready (t ∷ rest) (and_then (named_head next (t ∷ rest)) (applied next))
      (good_then Stands (IsExpr 15) (t ∷ rest) (named_head next (t ∷ rest)) (applied next) (named_head_good next hyp.low (t ∷ rest)) (λ g xs after split s. applied_good g xs after s)) whole_ready
  operand_at (start.Basic b) t rest h =
      to_of (IsExpr 15) Ready (t ∷ rest) (and_then (basic_head next b (t ∷ rest)) (applied next))
      (good_then Stands (IsExpr 15) (t ∷ rest) (basic_head next b (t ∷ rest)) (applied next) (basic_head_good next hyp.low b (t ∷ rest) h) (λ g xs after split s. applied_good g xs after s)) whole_ready
  operand_at (start.Signed n) t rest h = record {
    xs = t ∷ [];
    splits = refl;
    stands = whole_ready (e.Signed t.place n) (t ∷ []) rest (subst (λ (k : Kind). IsExpr 15 (e.Signed t.place n) (token t.place k ∷ [])) (sym (starts_signed t.kind n h)) signed);
  }
  operand_at (start.Unsigned n) t rest h = record {
    xs = t ∷ [];
    splits = refl;
    stands = whole_ready (e.Unsigned t.place n) (t ∷ []) rest (subst (λ (k : Kind). IsExpr 15 (e.Unsigned t.place n) (token t.place k ∷ [])) (sym (starts_unsigned t.kind n h)) unsigned);
  }
  operand_at (start.Bool b) t rest h = record { xs = t ∷ []; splits = refl; stands = whole_ready (e.Bool t.place b) (t ∷ []) rest (bool_is b t h) }
  operand_at start.Paren t rest h =
      let p = sign t.place punct.LeftParen in
      to_of (IsExpr 15) Ready (t ∷ rest) (and_then (next 0 rest) (λ a. expect punct.RightParen >>= λ _. pure (e.Paren t.place a)))
      (good_front (IsExpr 15) (t ∷ rest) (p ∷ []) rest (and_then (next 0 rest) (λ a. expect punct.RightParen >>= λ _. pure (e.Paren t.place a))) (kind_is t rest (kind.Punct punct.LeftParen) (starts_paren t.kind h))
      (good_then (IsExpr 0) (λ b ys. IsExpr 15 b (p ∷ ys)) rest (next 0 rest) (λ a. expect punct.RightParen >>= λ _. pure (e.Paren t.place a)) (hyp.low 0 rest (omega arith))
      (λ a xs after split w. good_close (λ b ys. IsExpr 15 b (p ∷ (xs ++ ys))) punct.RightParen (e.Paren t.place a) after (λ q. paren q w)))) whole_ready
  operand_at (start.Unary o) t rest h = go (starts_unary t.kind o h)
    where
      go : Spells unary_of o t.kind → GoodTo Ready (t ∷ rest) (and_then (next 14 rest) (λ a. pure (e.Unary t.place o a)))
      go m =
          to_front Ready (t ∷ rest) (sign t.place m.mark ∷ []) rest (and_then (next 14 rest) (λ a. pure (e.Unary t.place o a))) (kind_is t rest (kind.Punct m.mark) m.is)
          (to_map (Upto 14) (λ b ys after. Ready b (sign t.place m.mark ∷ ys) after) (λ a. e.Unary t.place o a) rest (next 14 rest) (hyp.tight 14 rest (omega arith) (omega arith))
          (λ a ys after w. record { j = 14; bound = omega arith; tight = unary m.mark m.spells (omega arith) w.0; stops = omega (arith, w.1) }))
  operand_at start.Bad t rest h = tt

  pub operand_good : (ts : Tokens) → GoodTo Ready ts (operand next ts)
  unfolding operand start_at
  operand_good [] = tt
  operand_good (t ∷ rest) = operand_at (start_by t.kind) t rest refl

  operate_at : (f : Follow) (a : Expr) (x : Tokens) (t : Token) (rest : Tokens) → follow_by t.kind ≡ f → IsExpr (binds f) a x → GoodTo (Grown (binds f) x) (t ∷ rest) (operate_as next a f (t ∷ rest))
  operate_at follow.Index a x t rest h s =
      let p = sign t.place punct.LeftBracket in
      to_of (Longer x) (Grown 15 x) (t ∷ rest) (and_then (next 0 rest) (λ b. expect punct.RightBracket >>= λ _. pure (e.Index t.place a b)))
      (good_front (Longer x) (t ∷ rest) (p ∷ []) rest (and_then (next 0 rest) (λ b. expect punct.RightBracket >>= λ _. pure (e.Index t.place a b))) (kind_is t rest (kind.Punct punct.LeftBracket) (follows_index t.kind h))
      (good_then (IsExpr 0) (λ b ys. Longer x b (p ∷ ys)) rest (next 0 rest) (λ b. expect punct.RightBracket >>= λ _. pure (e.Index t.place a b)) (hyp.low 0 rest (omega arith))
      (λ b ys after split w. good_close (λ c zs. Longer x c (p ∷ (ys ++ zs))) punct.RightBracket (e.Index t.place a b) after (λ q. (index q (omega arith) s w, omega arith))))) (longer_grown x)
  operate_at follow.Member a x t rest h s =
      let p = sign t.place punct.Dot in
      to_of (Longer x) (Grown 15 x) (t ∷ rest) (and_then (name rest) (λ n. selected t.place n a))
      (good_front (Longer x) (t ∷ rest) (p ∷ []) rest (and_then (name rest) (λ n. selected t.place n a)) (kind_is t rest (kind.Punct punct.Dot) (follows_member t.kind h))
      (good_name (λ b ys. Longer x b (p ∷ ys)) rest (λ n. selected t.place n a) (λ n after split. selected_good t.place n a x after s))) (longer_grown x)
  operate_at (follow.Postfix o) a x t rest h s = go (follows_postfix t.kind o h)
    where
      go : Spells postfix_of o t.kind → GoodTo (Grown 15 x) (t ∷ rest) (Ok (e.Postfix t.place o a, rest))
      go m = record {
        xs = sign t.place m.mark ∷ [];
        splits = kind_is t rest (kind.Punct m.mark) m.is;
        stands = longer_grown x (e.Postfix t.place o a) (sign t.place m.mark ∷ []) rest (postfix m.mark m.spells (omega arith) s, omega arith);
      }
  operate_at (follow.Binary o) a x t rest h s = go (follows_binary t.kind o h)
    where
      go : Spells binary_of o t.kind → GoodTo (Grown (level_of o) x) (t ∷ rest) (and_then (next (level_of o + 1) rest) (λ b. pure (e.Binary t.place o a b)))
      go m =
          let low = level_least o in
          let high = level_most o in
          to_front (Grown (level_of o) x) (t ∷ rest) (sign t.place m.mark ∷ []) rest (and_then (next (level_of o + 1) rest) (λ b. pure (e.Binary t.place o a b))) (kind_is t rest (kind.Punct m.mark) m.is)
          (to_map (Upto (level_of o + 1)) (λ b ys after. Grown (level_of o) x b (sign t.place m.mark ∷ ys) after) (λ b. e.Binary t.place o a b) rest (next (level_of o + 1) rest)
          (hyp.tight (level_of o + 1) rest (omega arith) (omega arith))
          (λ b ys after w. (binary m.mark m.spells (omega arith) s w.0, omega (arith, w.1), omega arith)))
  operate_at follow.End a x t rest h s = tt

  pub operate_good : (a : Expr) (x ts : Tokens) → IsExpr (binds (follow_at ts)) a x → GoodTo (Grown (binds (follow_at ts)) x) ts (operate next a ts)
  unfolding operate follow_at
  operate_good a x [] s = tt
  operate_good a x (t ∷ rest) s = operate_at (follow_by t.kind) a x t rest refl s
