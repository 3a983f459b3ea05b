-- The reader of expressions does the same on two inputs up to the first token in which they differ.
use Rattle.std.proofs.Common.{◌≡◌, ℕ, zero, suc, ◌+◌, ◌≤◌, Bool, true, false, cond, ◌&&◌, ◌⊎◌, inl, inr, List, [], ◌∷◌, ◌++◌, length, max, Ok, refl, sym, ap, subst, ◌∙◌, arith}
use Rattle.std.specs.Prelude.{nat_lt, nat_le, nat_eq}
use Rattle.gsl_base.specs.declared.fault.Place.{Place}
use Rattle.gsl_base.specs.declared.token.Punct.TheVariants as punct
use Rattle.gsl_base.specs.declared.token.Key.TheVariants as key
use Rattle.gsl_base.specs.declared.token.Kind.{Kind}
use Rattle.gsl_base.specs.declared.token.Kind.TheVariants as kind
use Rattle.gsl_base.specs.declared.token.Token.{Token}
use Rattle.gsl_syntax.specs.declared.declaration.Name.{Name}
use Rattle.gsl_syntax.specs.declared.expr.Basic.{Basic}
use Rattle.gsl_syntax.specs.declared.expr.Basic.TheVariants as basic
use Rattle.gsl_syntax.specs.declared.expr.Expr.{Expr}
use Rattle.gsl_syntax.specs.declared.expr.Expr.TheVariants as e
use Rattle.gsl_syntax.specs.declared.expr.TypeSpec.{TypeSpec}
use Rattle.gsl_syntax.specs.declared.expr.Dim.{Dim}
use Rattle.gsl_syntax.specs.declared.expr.Dim.TheVariants as dim
use Rattle.gsl_syntax.specs.Operators.{level_of}
use Rattle.gsl_syntax.specs.Phrases.{word}
use Rattle.gsl_expr.proofs.Taken.{key_is}
use Rattle.gsl_expr.specs.declared.rule.Start.{Start}
use Rattle.gsl_expr.specs.declared.rule.Start.TheVariants as start
use Rattle.gsl_expr.specs.declared.rule.Follow.{Follow}
use Rattle.gsl_expr.specs.declared.rule.Follow.TheVariants as follow
use Rattle.gsl_expr.specs.declared.rule.Tail.{Tail}
use Rattle.gsl_expr.specs.declared.rule.Tail.TheVariants as tail
use Rattle.gsl_expr.specs.declared.rule.Mode.{Mode}
use Rattle.gsl_expr.specs.declared.rule.Mode.TheVariants as mode
use Rattle.gsl_expr.specs.declared.rule.Base.{Base}
use Rattle.gsl_expr.specs.declared.rule.Base.TheVariants as base
use Rattle.gsl_expr.specs.declared.rule.Head.{Head}
use Rattle.gsl_expr.specs.Rules.{start_at, follow_at, binds, tail_at}
use Rattle.gsl_expr.specs.Names.{sees_name}
use Rattle.gsl_expr.specs.Reading.{Tokens, Parser, and_then, ◌>>=◌, pure, take_one, sees, sees_key, expect, name_by, name}
use Rattle.gsl_expr.specs.Expressions.{is_tight, sequence_of, index_all, head_type, named, keyword, mode_after, level_in, may_be_open, may_be_index, closes_after, void_alone, selected, bracket, brackets, dims, named_head, basic_head, items, arguments, indexed_by, applied, operand_as, operand, operate_as, operate, climb, tailed_as, tailed, further, sequenced, completed, whole, expr}
use Rattle.gsl_expr.proofs.Near.{Within, Takes, within_then, takes_then, Looks, looks_sees, looks_key, Twin, twin_elim, Same, Near, near_pure, near_fail, near_less, near_left, near_right, near_when, near_two, twin_looks, near_then, near_taking, near_one, near_by, near_if, near_expect, near_close, takes_one, near_take}

pub looks_start : Looks start_at
unfolding start_at
looks_start = record { alike = λ x xs ys. refl }

pub looks_follow : Looks follow_at
unfolding follow_at
looks_follow = record { alike = λ x xs ys. refl }

pub looks_tail : Looks tail_at
unfolding tail_at
looks_tail = record { alike = λ x xs ys. refl }

pub looks_name : Looks sees_name
unfolding sees_name
looks_name = record { alike = λ x xs ys. refl }

pub takes_name : (ts : Tokens) → Takes ts (name ts)
unfolding name
takes_name [] = tt
takes_name (t ∷ ts) = go t.kind
  where
    go : (k : Kind) → Takes (t ∷ ts) (name_by t ts k)
    go (kind.Name n) = omega arith
    go (kind.Key w) = tt
    go (kind.Signed n) = tt
    go (kind.Unsigned n) = tt
    go (kind.Punct m) = tt

-- `void` alone, with the parenthesis
pub void_alike : (b : Token) (p q : Tokens) (x : Token) (xs ys : Tokens) → Twin b p q xs ys → void_alone (x ∷ xs) ≡ void_alone (x ∷ ys)
unfolding void_alone
void_alike b p q x xs ys w = ap (λ (c : Bool). sees_key key.Void (x ∷ xs) && c) (twin_looks b p q (looks_sees punct.RightParen) xs ys w) ∙ ap (λ (c : Bool). c && sees punct.RightParen ys) ((looks_key key.Void).alike x xs ys)

pub not_void : (b : Token) (p : Tokens) → sees_key key.Void (b ∷ p) ≡ false → void_alone (b ∷ p) ≡ false
unfolding void_alone
not_void b p h = ap (λ (c : Bool). c && closes_after (b ∷ p)) h

pub looks_map : {J K : Type 0} {test : Tokens → J} (f : J → K) → Looks test → Looks (λ ts. f (test ts))
looks_map f l = record { alike = λ x xs ys. ap f (l.alike x xs ys) }

pub looks_and : {test : Tokens → Bool} (c : Bool) → Looks test → Looks (λ ts. test ts && c)
looks_and c l = record { alike = λ x xs ys. ap (λ (z : Bool). z && c) (l.alike x xs ys) }

module _ (b : Token) (p q : Tokens) where
  pub near_name : {d c : ℕ} → Near b p q d c name name
  unfolding name
  near_name = record { within = small; same = λ ts us lt le w. twin_elim b p q (λ ts us. Same b p q (name ts) (name us)) ts us w go }
    where
      small_by : (t : Token) (ts : Tokens) (k : Kind) → Within (t ∷ ts) (name_by t ts k)
      small_by t ts (kind.Name n) = omega arith
      small_by t ts (kind.Key w) = omega arith
      small_by t ts (kind.Signed n) = omega arith
      small_by t ts (kind.Unsigned n) = omega arith
      small_by t ts (kind.Punct m) = omega arith

      small : (ts : Tokens) → Within ts (name ts)
      small [] = omega arith
      small (t ∷ ts) = small_by t ts t.kind

      by : (t : Token) (xs ys : Tokens) (k : Kind) → (Twin b p q xs ys) → Same b p q (name_by t xs k) (name_by t ys k)
      by t xs ys (kind.Name n) w = λ far. (ys, refl, w)
      by t xs ys (kind.Key v) w = λ far. (t ∷ ys, refl)
      by t xs ys (kind.Signed n) w = λ far. (t ∷ ys, refl)
      by t xs ys (kind.Unsigned n) w = λ far. (t ∷ ys, refl)
      by t xs ys (kind.Punct m) w = λ far. (t ∷ ys, refl)

      last : (k : Kind) → Same b p q (name_by b p k) (name_by b q k)
      last (kind.Name n) = λ far. absurd (omega arith)
      last (kind.Key v) = λ far. (b ∷ q, refl)
      last (kind.Signed n) = λ far. (b ∷ q, refl)
      last (kind.Unsigned n) = λ far. (b ∷ q, refl)
      last (kind.Punct m) = λ far. (b ∷ q, refl)

      go : (pre : Tokens) → Same b p q (name (pre ++ b ∷ p)) (name (pre ++ b ∷ q))
      go [] = last b.kind
      go (x ∷ xs) = by x (xs ++ b ∷ p) (xs ++ b ∷ q) x.kind (record { pre = xs; left = refl; right = refl })

  -- a reader that takes what is left as the bound of its steps
  pub near_length : {A : Type 0} {d c : ℕ} {f g : ℕ → Parser A} → ((n m : ℕ) → n ≤ d → m ≤ c → Near b p q n m (f n) (g m)) → ((ts : Tokens) → Within ts (f (length ts) ts)) → Near b p q d c (λ ts. f (length ts) ts) (λ us. g (length us) us)
  near_length h v = record { within = v; same = λ ts us lt le w. (h (length ts) (length us) lt le).same ts us (omega arith) (omega arith) w }

  module _ (d c : ℕ) (nf ng : ℕ → Parser Expr) (near : (k : ℕ) → Near b p q d c (nf k) (ng k))
      (void : (k : ℕ) (l : Place) (ts : Tokens) → length (word l key.Void ∷ ts) ≤ d → Within ts (nf k (word l key.Void ∷ ts))) where
    pub bracket_near : (m : Mode) (l : Place) → Near b p q d c (bracket nf m l) (bracket ng m l)
    unfolding bracket
    bracket_near m l =
        near_if b p q {test = λ ts. sees punct.RightBracket ts && may_be_open m} (both (may_be_open m)) (near_then b p q (near_one b p q) (λ _. near_pure b p q (dim.Open l, mode.Type)))
        (near_then b p q (near (level_in m)) (λ a. near_close b p q punct.RightBracket (dim.Sized l a, mode_after m a)))
      where
        both : (c : Bool) → Looks (λ ts. sees punct.RightBracket ts && c)
        both c = record { alike = λ x xs ys. ap (λ (z : Bool). z && c) ((looks_sees punct.RightBracket).alike x xs ys) }

    brackets_within : (n : ℕ) (m : Mode) (found : List Dim) (ts : Tokens) → Within ts (brackets nf n m found ts)
    unfolding brackets
    brackets_within zero m found ts = omega arith
    brackets_within (suc n) m found ts = go (sees punct.LeftBracket ts) (brackets_within n)
      where
        go : (c : Bool) → ((m : Mode) (found : List Dim) (ts : Tokens) → Within ts (brackets nf n m found ts))
            → Within ts (cond c (and_then (and_then (take_one ts) (bracket nf m)) (λ r. brackets nf n r.1 (found ++ r.0 ∷ []))) (Ok ((found, m), ts)))
        go true ih =
            within_then ts (and_then (take_one ts) (bracket nf m)) (λ r. brackets nf n r.1 (found ++ r.0 ∷ []))
            (within_then ts (take_one ts) (bracket nf m) ((near_one b p q {d = d} {c = c}).within ts) (λ l us. (bracket_near m l).within us)) (λ r us. ih r.1 (found ++ r.0 ∷ []) us)
        go false ih = omega arith

    -- D and E are how much is left at most, n and m the bounds of the steps
    brackets_near : (n m D E : ℕ) (t : Mode) (found : List Dim) → D ≤ n → E ≤ m → D ≤ suc d → E ≤ suc c → Near b p q D E (brackets nf n t found) (brackets ng m t found)
    unfolding brackets
    brackets_near n m zero E t found u v x y = near_left b p q (brackets_within n t found)
    brackets_near n m (suc D) zero t found u v x y = near_right b p q (brackets_within n t found)
    brackets_near zero m (suc D) (suc E) t found u v x y = absurd (omega arith)
    brackets_near (suc n) zero (suc D) (suc E) t found u v x y = absurd (omega arith)
    brackets_near (suc n) (suc m) (suc D) (suc E) t found u v x y =
        near_if b p q (looks_sees punct.LeftBracket)
        (near_taking b p q (λ ts. takes_then ts (take_one ts) (bracket nf t) (takes_one ts) (λ l us. (bracket_near t l).within us))
        (near_take b p q (λ l. near_less b p q (omega arith) (omega arith) (bracket_near t l)))
        (λ r. brackets_near n m D E r.1 (found ++ r.0 ∷ []) (omega arith) (omega arith) (omega arith) (omega arith)))
        (near_pure b p q (found, t))

    pub dims_near : Near b p q (suc d) (suc c) (dims nf) (dims ng)
    unfolding dims
    dims_near =
        near_then b p q (near_length {f = λ n. brackets nf n mode.Type []} {g = λ n. brackets ng n mode.Type []} (λ n m x y. brackets_near n m n m mode.Type [] (omega arith) (omega arith) x y) (λ ts. brackets_within (length ts) mode.Type [] ts))
        (λ r. near_pure b p q r.0)

    pub named_head_near : Near b p q (suc d) (suc c) (named_head nf) (named_head ng)
    unfolding named_head
    named_head_near =
        near_then b p q near_name (λ n. near_then b p q
        (near_length {f = λ n. brackets nf n mode.Either []} {g = λ n. brackets ng n mode.Either []} (λ n m x y. brackets_near n m n m mode.Either [] (omega arith) (omega arith) x y) (λ ts. brackets_within (length ts) mode.Either [] ts))
        (λ r. near_pure b p q (named n r.0 r.1)))

    pub basic_head_near : (t : Basic) → Near b p q (suc d) (suc c) (basic_head nf t) (basic_head ng t)
    unfolding basic_head
    basic_head_near t = near_take b p q (λ l. near_then b p q (near_less b p q (omega arith) (omega arith) dims_near) (λ ds. near_pure b p q (keyword l t ds)))

    -- ---- calls

    items_within : (n : ℕ) (found : List Expr) (ts : Tokens) → Within ts (items nf n found ts)
    unfolding items
    items_within zero found ts = omega arith
    items_within (suc n) found ts = within_then ts (nf 1 ts) _ ((near 1).within ts) (λ a us. go a us (sees punct.Comma us) (items_within n (found ++ a ∷ [])))
      where
        go : (a : Expr) (us : Tokens) (c : Bool) → ((ts : Tokens) → Within ts (items nf n (found ++ a ∷ []) ts))
            → Within us (cond c (and_then (take_one us) (λ _. items nf n (found ++ a ∷ []))) (and_then (expect punct.RightParen us) (λ _. pure (found ++ a ∷ []))))
        go a us true ih = within_then us (take_one us) (λ _. items nf n (found ++ a ∷ [])) ((near_one b p q {d = d} {c = c}).within us) (λ l vs. ih vs)
        go a us false ih = (near_close b p q {d = d} {c = c} punct.RightParen (found ++ a ∷ [])).within us

    items_near : (n m D E : ℕ) (found : List Expr) → D ≤ n → E ≤ m → D ≤ d → E ≤ c → Near b p q D E (items nf n found) (items ng m found)
    unfolding items
    items_near n m zero E found u v x y = near_left b p q (items_within n found)
    items_near n m (suc D) zero found u v x y = near_right b p q (items_within n found)
    items_near zero m (suc D) (suc E) found u v x y = absurd (omega arith)
    items_near (suc n) zero (suc D) (suc E) found u v x y = absurd (omega arith)
    items_near (suc n) (suc m) (suc D) (suc E) found u v x y =
        near_then b p q (near_less b p q (omega arith) (omega arith) (near 1)) (λ a. near_if b p q (looks_sees punct.Comma)
        (near_take b p q (λ l. items_near n m D E (found ++ a ∷ []) (omega arith) (omega arith) (omega arith) (omega arith)))
        (near_close b p q punct.RightParen (found ++ a ∷ [])))

    -- behind the parenthesis of a call, by whether `void` stands alone
    arguments_by : (ℕ → Parser Expr) → TypeSpec → Bool → Parser Expr
    arguments_by next t k = λ ts. cond (sees punct.RightParen ts) (and_then (take_one ts) (λ _. pure (e.Call t [])))
        (cond k (and_then (take_one ts) (λ _. take_one >>= λ _. pure (e.CallVoid t))) (and_then (items next (length ts) [] ts) (λ bs. pure (e.Call t bs))))

    listed_near : (t : TypeSpec) → Near b p q d c (λ ts. and_then (items nf (length ts) [] ts) (λ bs. pure (e.Call t bs))) (λ ts. and_then (items ng (length ts) [] ts) (λ bs. pure (e.Call t bs)))
    listed_near t =
        near_then b p q (near_length {f = λ n. items nf n []} {g = λ n. items ng n []} (λ n m x y. items_near n m n m [] (omega arith) (omega arith) x y) (λ ts. items_within (length ts) [] ts))
        (λ bs. near_pure b p q (e.Call t bs))

    arguments_each : (t : TypeSpec) (k : Bool) → Near b p q d c (arguments_by nf t k) (arguments_by ng t k)
    unfolding arguments_by
    arguments_each t k =
        near_if b p q (looks_sees punct.RightParen) (near_then b p q (near_one b p q) (λ _. near_pure b p q (e.Call t [])))
        (near_when b p q k (near_then b p q (near_one b p q) (λ _. near_then b p q (near_one b p q) (λ _. near_pure b p q (e.CallVoid t)))) (listed_near t))

    void_within : (t : TypeSpec) (k : Bool) (l : Place) (ts : Tokens) → length (word l key.Void ∷ ts) ≤ d → Within ts (arguments_by nf t k (word l key.Void ∷ ts))
    unfolding arguments_by sees items
    void_within t true l ts lt = within_then ts (take_one ts) (λ _. pure (e.CallVoid t)) ((near_one b p q {d = d} {c = c}).within ts) (λ _ us. omega arith)
    void_within t false l ts lt =
        within_then ts (items nf (suc (length ts)) [] (word l key.Void ∷ ts)) (λ bs. pure (e.Call t bs))
        (within_then ts (nf 1 (word l key.Void ∷ ts)) _ (void 1 l ts lt) (λ a us. go a us (sees punct.Comma us))) (λ bs us. omega arith)
      where
        go : (a : Expr) (us : Tokens) (c : Bool) → Within us (cond c (and_then (take_one us) (λ _. items nf (length ts) (a ∷ []))) (and_then (expect punct.RightParen us) (λ _. pure (a ∷ []))))
        go a us true = within_then us (take_one us) (λ _. items nf (length ts) (a ∷ [])) ((near_one b p q {d = d} {c = c}).within us) (λ l vs. items_within (length ts) (a ∷ []) vs)
        go a us false = (near_close b p q {d = d} {c = c} punct.RightParen (a ∷ [])).within us

    arguments_near : (t : TypeSpec) → Near b p q d c (arguments nf t) (arguments ng t)
    unfolding arguments arguments_by sees_key
    arguments_near t = near_two b p q {test = void_alone} {f = arguments_by nf t} {g = arguments_by ng t} (arguments_each t) (void_alike b p q) (go (sees_key key.Void (b ∷ p)) refl)
      where
        go : (k : Bool) → sees_key key.Void (b ∷ p) ≡ k → (void_alone (b ∷ p) ≡ void_alone (b ∷ q)) ⊎ (length (b ∷ p) ≤ d → Within p (arguments_by nf t (void_alone (b ∷ p)) (b ∷ p)))
        go true h =
            inr (λ lt. subst (λ (j : Kind). Within p (arguments_by nf t (void_alone (b ∷ p)) (record { place = b.place; kind = j } ∷ p))) (sym (key_is key.Void b.kind h)) (void_within t (void_alone (b ∷ p)) b.place p lt))
        go false h = inl (not_void b p h ∙ sym (not_void b q h))

    indexed_near : (l : Place) (t : Base) (ds : List Dim) → Near b p q (suc d) (suc c) (indexed_by nf l t ds) (indexed_by ng l t ds)
    indexed_near l (base.Named n) ds = near_pure b p q (index_all (e.Name l n) ds)
    indexed_near l (base.Basic t) ds = near_fail b p q

    pub applied_near : (h : Head) → Near b p q (suc d) (suc c) (applied nf h) (applied ng h)
    unfolding applied
    applied_near h =
        near_if b p q {test = λ ts. sees punct.LeftParen ts && may_be_open h.mode} (looks_and (may_be_open h.mode) (looks_sees punct.LeftParen)) (near_take b p q (λ _. arguments_near (head_type h)))
        (near_when b p q (may_be_index h.mode) (indexed_near h.place h.base h.dims) (near_fail b p q))

    selected_near : (l : Place) (n : Name) (a : Expr) → Near b p q d c (selected l n a) (selected l n a)
    unfolding selected
    selected_near l n a =
        near_if b p q (looks_sees punct.LeftParen) (near_then b p q (near_one b p q) (λ _. near_close b p q punct.RightParen (e.Method l a n.text))) (near_pure b p q (e.Member l a n.text))

    operand_near : Near b p q (suc d) (suc c) (operand nf) (operand ng)
    unfolding operand
    operand_near = near_by b p q {f = operand_as nf} {g = operand_as ng} looks_start go
      where
        go : (k : Start) → Near b p q (suc d) (suc c) (operand_as nf k) (operand_as ng k)
        go start.Name = near_then b p q named_head_near applied_near
        go (start.Basic t) = near_then b p q (basic_head_near t) applied_near
        go (start.Signed n) = near_take b p q (λ l. near_pure b p q (e.Signed l n))
        go (start.Unsigned n) = near_take b p q (λ l. near_pure b p q (e.Unsigned l n))
        go (start.Bool t) = near_take b p q (λ l. near_pure b p q (e.Bool l t))
        go start.Paren = near_take b p q (λ l. near_then b p q (near 0) (λ a. near_close b p q punct.RightParen (e.Paren l a)))
        go (start.Unary o) = near_take b p q (λ l. near_then b p q (near 14) (λ a. near_pure b p q (e.Unary l o a)))
        go start.Bad = near_fail b p q

    operate_near : (a : Expr) → Near b p q (suc d) (suc c) (operate nf a) (operate ng a)
    unfolding operate
    operate_near a = near_by b p q {f = operate_as nf a} {g = operate_as ng a} looks_follow go
      where
        go : (k : Follow) → Near b p q (suc d) (suc c) (operate_as nf a k) (operate_as ng a k)
        go follow.Index = near_take b p q (λ l. near_then b p q (near 0) (λ r. near_close b p q punct.RightBracket (e.Index l a r)))
        go follow.Member = near_take b p q (λ l. near_then b p q near_name (λ n. selected_near l n a))
        go (follow.Postfix o) = near_take b p q (λ l. near_pure b p q (e.Postfix l o a))
        go (follow.Binary o) = near_take b p q (λ l. near_then b p q (near (level_of o + 1)) (λ r. near_pure b p q (e.Binary l o a r)))
        go follow.End = near_fail b p q

    pub operate_takes : (a : Expr) (ts : Tokens) → Takes ts (operate nf a ts)
    unfolding operate
    operate_takes a ts = go (follow_at ts)
      where
        go : (k : Follow) → Takes ts (operate_as nf a k ts)
        go follow.Index =
            takes_then ts (take_one ts) _ (takes_one ts) (λ l us. (near_then b p q (near 0) (λ r. near_close b p q punct.RightBracket (e.Index l a r))).within us)
        go follow.Member = takes_then ts (take_one ts) _ (takes_one ts) (λ l us. (near_then b p q near_name (λ n. selected_near l n a)).within us)
        go (follow.Postfix o) = takes_then ts (take_one ts) _ (takes_one ts) (λ l us. omega arith)
        go (follow.Binary o) = takes_then ts (take_one ts) _ (takes_one ts) (λ l us. (near_then b p q (near (level_of o + 1)) (λ r. near_pure b p q (e.Binary l o a r))).within us)
        go follow.End = tt

    climb_within : (k n : ℕ) (a : Expr) (ts : Tokens) → Within ts (climb nf k n a ts)
    unfolding climb
    climb_within k zero a ts = omega arith
    climb_within k (suc n) a ts = go (nat_lt (binds (follow_at ts)) k) (climb_within k n)
      where
        go : (t : Bool) → ((a : Expr) (us : Tokens) → Within us (climb nf k n a us)) → Within ts (cond t (Ok (a, ts)) (and_then (operate nf a ts) (climb nf k n)))
        go true ih = omega arith
        go false ih = within_then ts (operate nf a ts) (climb nf k n) ((operate_near a).within ts) ih

    climb_near : (k n m D E : ℕ) (a : Expr) → D ≤ n → E ≤ m → D ≤ suc d → E ≤ suc c → Near b p q D E (climb nf k n a) (climb ng k m a)
    unfolding climb
    climb_near k n m zero E a u v x y = near_left b p q (climb_within k n a)
    climb_near k n m (suc D) zero a u v x y = near_right b p q (climb_within k n a)
    climb_near k zero m (suc D) (suc E) a u v x y = absurd (omega arith)
    climb_near k (suc n) zero (suc D) (suc E) a u v x y = absurd (omega arith)
    climb_near k (suc n) (suc m) (suc D) (suc E) a u v x y =
        near_if b p q {test = λ ts. nat_lt (binds (follow_at ts)) k} (looks_map (λ f. nat_lt (binds f) k) looks_follow) (near_pure b p q a)
        (near_taking b p q (operate_takes a) (near_less b p q (omega arith) (omega arith) (operate_near a)) (λ r. climb_near k n m D E r (omega arith) (omega arith) (omega arith) (omega arith)))

    tailed_near : (k : ℕ) (a : Expr) → Near b p q (suc d) (suc c) (tailed nf k a) (tailed ng k a)
    unfolding tailed
    tailed_near k a = near_by b p q {f = tailed_as nf k a} {g = tailed_as ng k a} looks_tail go
      where
        go : (t : Tail) → Near b p q (suc d) (suc c) (tailed_as nf k a t) (tailed_as ng k a t)
        go tail.Question = question (nat_le k 2)
          where
            question : (t : Bool) → Near b p q (suc d) (suc c)
                (cond t (take_one >>= λ l. nf 0 >>= λ r. expect punct.Colon >>= λ _. nf 1 >>= λ s. pure (e.Conditional l a r s)) (pure a))
                (cond t (take_one >>= λ l. ng 0 >>= λ r. expect punct.Colon >>= λ _. ng 1 >>= λ s. pure (e.Conditional l a r s)) (pure a))
            question true = near_take b p q (λ l. near_then b p q (near 0) (λ r. near_then b p q (near_expect b p q punct.Colon) (λ _. near_then b p q (near 1) (λ s. near_pure b p q (e.Conditional l a r s)))))
            question false = near_pure b p q a
        go (tail.Assign o) = assigns (nat_le k 1 && is_tight a)
          where
            assigns : (t : Bool) → Near b p q (suc d) (suc c) (cond t (take_one >>= λ l. nf 1 >>= λ r. pure (e.Assign l o a r)) (pure a)) (cond t (take_one >>= λ l. ng 1 >>= λ r. pure (e.Assign l o a r)) (pure a))
            assigns true = near_take b p q (λ l. near_then b p q (near 1) (λ r. near_pure b p q (e.Assign l o a r)))
            assigns false = near_pure b p q a
        go tail.End = near_pure b p q a

    further_within : (n : ℕ) (found : List (Place × Expr)) (ts : Tokens) → Within ts (further nf n found ts)
    unfolding further
    further_within zero found ts = omega arith
    further_within (suc n) found ts = go (sees punct.Comma ts) (further_within n)
      where
        go : (t : Bool) → ((found : List (Place × Expr)) (us : Tokens) → Within us (further nf n found us)) → Within ts (cond t (and_then (take_one ts) (λ l. nf 1 >>= λ r. further nf n (found ++ (l, r) ∷ []))) (Ok (found, ts)))
        go true ih =
            within_then ts (take_one ts) (λ l. nf 1 >>= λ r. further nf n (found ++ (l, r) ∷ [])) ((near_one b p q {d = d} {c = c}).within ts)
            (λ l us. within_then us (nf 1 us) (λ r. further nf n (found ++ (l, r) ∷ [])) ((near 1).within us) (λ r vs. ih (found ++ (l, r) ∷ []) vs))
        go false ih = omega arith

    further_near : (n m D E : ℕ) (found : List (Place × Expr)) → D ≤ n → E ≤ m → D ≤ suc d → E ≤ suc c → Near b p q D E (further nf n found) (further ng m found)
    unfolding further
    further_near n m zero E found u v x y = near_left b p q (further_within n found)
    further_near n m (suc D) zero found u v x y = near_right b p q (further_within n found)
    further_near zero m (suc D) (suc E) found u v x y = absurd (omega arith)
    further_near (suc n) zero (suc D) (suc E) found u v x y = absurd (omega arith)
    further_near (suc n) (suc m) (suc D) (suc E) found u v x y =
        near_if b p q (looks_sees punct.Comma)
        (near_take b p q (λ l. near_then b p q (near_less b p q (omega arith) (omega arith) (near 1)) (λ r. further_near n m D E (found ++ (l, r) ∷ []) (omega arith) (omega arith) (omega arith) (omega arith))))
        (near_pure b p q found)

    sequenced_near : (k : ℕ) (a : Expr) → Near b p q (suc d) (suc c) (sequenced nf k a) (sequenced ng k a)
    unfolding sequenced
    sequenced_near k a =
        near_when b p q (nat_eq k 0)
        (near_then b p q (near_length {f = λ n. further nf n []} {g = λ n. further ng n []} (λ n m x y. further_near n m n m [] (omega arith) (omega arith) x y) (λ ts. further_within (length ts) [] ts)) (λ bs. near_pure b p q (sequence_of a bs)))
        (near_pure b p q a)

    pub completed_near : (k : ℕ) (a : Expr) → Near b p q (suc d) (suc c) (completed nf k a) (completed ng k a)
    unfolding completed
    completed_near k a =
        near_then b p q (near_then b p q
        (near_length {f = λ n. climb nf (max k 3) n a} {g = λ n. climb ng (max k 3) n a} (λ n m x y. climb_near (max k 3) n m n m a (omega arith) (omega arith) x y) (λ ts. climb_within (max k 3) (length ts) a ts))
        (tailed_near k)) (sequenced_near k)

    pub whole_near : (k : ℕ) → Near b p q (suc d) (suc c) (whole nf k) (whole ng k)
    whole_near k = near_then b p q operand_near (completed_near k)

    void_operand : (l : Place) (ts : Tokens) → Within ts (operand nf (word l key.Void ∷ ts))
    unfolding operand start_at basic_head
    void_operand l ts =
        within_then ts (and_then (dims nf ts) (λ ds. pure (keyword l basic.Void ds))) (applied nf)
        (within_then ts (dims nf ts) (λ ds. pure (keyword l basic.Void ds)) (dims_near.within ts) (λ ds us. omega arith)) (λ h us. (applied_near h).within us)

    pub void_whole : (k : ℕ) (l : Place) (ts : Tokens) → Within ts (whole nf k (word l key.Void ∷ ts))
    void_whole k l ts = within_then ts (operand nf (word l key.Void ∷ ts)) (completed nf k) (void_operand l ts) (λ a us. (completed_near k a).within us)

-- ---- expressions, however deep

module _ (b : Token) (p q : Tokens) where
  pub record Nears (d c : ℕ) : Type 0 where
    pub near : (k : ℕ) → Near b p q d c (expr d k) (expr c k)
    pub void : (k : ℕ) (l : Place) (ts : Tokens) → length (word l key.Void ∷ ts) ≤ d → Within ts (expr d k (word l key.Void ∷ ts))

  pub nears : (d c : ℕ) → Nears d c
  unfolding expr
  nears zero c = record { near = λ k. near_left b p q (λ ts. omega arith); void = λ k l ts lt. absurd (omega arith) }
  nears (suc d) zero = go (nears d d)
    where
      go : Nears d d → Nears (suc d) zero
      go h = record {
        near = λ k. near_right b p q (λ ts. (whole_near b p q d d (expr d) (expr d) h.near h.void k).within ts);
        void = λ k l ts lt. void_whole b p q d d (expr d) (expr d) h.near h.void k l ts;
      }
  nears (suc d) (suc c) = go (nears d c)
    where
      go : Nears d c → Nears (suc d) (suc c)
      go h = record {
        near = λ k. whole_near b p q d c (expr d) (expr c) h.near h.void k;
        void = λ k l ts lt. void_whole b p q d c (expr d) (expr c) h.near h.void k l ts;
      }

  module _ {d c : ℕ} where
    pub expr_near : (k : ℕ) → Near b p q d c (expr d k) (expr c k)
    expr_near k = (nears d c).near k

    pub dims_of_near : Near b p q d c (dims (expr d)) (dims (expr c))
    dims_of_near = near_less b p q (omega arith) (omega arith) (dims_near b p q d c (expr d) (expr c) (nears d c).near (nears d c).void)

    pub named_head_of_near : Near b p q d c (named_head (expr d)) (named_head (expr c))
    named_head_of_near = near_less b p q (omega arith) (omega arith) (named_head_near b p q d c (expr d) (expr c) (nears d c).near (nears d c).void)

    pub basic_head_of_near : (t : Basic) → Near b p q d c (basic_head (expr d) t) (basic_head (expr c) t)
    basic_head_of_near t = near_less b p q (omega arith) (omega arith) (basic_head_near b p q d c (expr d) (expr c) (nears d c).near (nears d c).void t)

    pub applied_of_near : (h : Head) → Near b p q d c (applied (expr d) h) (applied (expr c) h)
    applied_of_near h = near_less b p q (omega arith) (omega arith) (applied_near b p q d c (expr d) (expr c) (nears d c).near (nears d c).void h)

    pub completed_of_near : (k : ℕ) (a : Expr) → Near b p q d c (completed (expr d) k a) (completed (expr c) k a)
    completed_of_near k a = near_less b p q (omega arith) (omega arith) (completed_near b p q d c (expr d) (expr c) (nears d c).near (nears d c).void k a)
