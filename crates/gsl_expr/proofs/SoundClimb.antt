-- What stands behind an operand, operators, a condition, an assignment and commas, stands for the tokens that were taken.
use Rattle.std.proofs.Common.{◌≡◌, ℕ, zero, suc, ◌+◌, ◌≤◌, ◌<◌, max, Bool, true, false, cond, ◌&&◌, List, [], ◌∷◌, ◌++◌, length, Ok, refl, sym, ap, subst, ◌∙◌, append_assoc, length-append, arith}
use Rattle.std.specs.Prelude.{nat_lt, nat_le, nat_eq}
use Rattle.std.proofs.lemmas.List.{append-nil}
use Rattle.std.proofs.lemmas.Bool.{ltb-true, ltb-false, leb-true, leb-false, lt-leb, eqb-true}
use Rattle.std.proofs.Math.Nat.{le-max_right, max-le, max-eq_left}
use Rattle.gsl_base.specs.declared.fault.Place.{Place}
use Rattle.gsl_base.specs.declared.token.Punct.TheVariants as punct
use Rattle.gsl_base.specs.declared.token.Kind.TheVariants as kind
use Rattle.gsl_base.specs.declared.token.Token.{Token}
use Rattle.gsl_syntax.specs.declared.expr.Expr.{Expr}
use Rattle.gsl_syntax.specs.declared.expr.Expr.TheVariants as e
use Rattle.gsl_syntax.specs.Operators.{assign_of}
use Rattle.gsl_syntax.specs.Phrases.{token, sign, IsExpr, IsFurther}
use Rattle.gsl_syntax.specs.Phrases.IsExpr.{conditional, assign, sequence}
use Rattle.gsl_syntax.specs.Phrases as phrases
use Rattle.gsl_expr.specs.declared.rule.Tail.{Tail}
use Rattle.gsl_expr.specs.declared.rule.Tail.TheVariants as tail
use Rattle.gsl_expr.specs.Rules.{follow_at, binds, tail_at, tail_by}
use Rattle.gsl_expr.specs.Reading.{Tokens, Outcome, Parser, and_then, ◌>>=◌, pure, take_one, sees, expect}
use Rattle.gsl_expr.specs.Expressions.{is_tight, sequence_of, operand, operate, climb, tailed_as, tailed, further, sequenced, completed, whole, expr}
use Rattle.gsl_expr.proofs.Taken.{Good, GoodTo, to_ok, to_weaken, to_then, good_ok, good_weaken, good_of, good_map, good_front, good_then, good_sign, good_expect}
use Rattle.gsl_expr.proofs.SoundLevels.{looser, tight_is}
use Rattle.gsl_expr.proofs.SoundTells.{Spells, tails_question, tails_assign}
use Rattle.gsl_expr.proofs.SoundOperands.{Upto, Nested, Ready, Grown, kind_is, operand_good, operate_good}

-- what was read goes on with what is read now, up to a token that binds less
abbrev pub Climbed : ℕ → Tokens → Expr → Tokens → Tokens → Type 0
Climbed k x b ys rest = IsExpr k b (x ++ ys) × (binds (follow_at rest) < k)

none_below : (k : ℕ) → 1 ≤ k → binds (follow_at []) < k
unfolding follow_at
none_below k h = omega arith

pub ended : (k j : ℕ) (a : Expr) (x : Tokens) → k ≤ j → IsExpr j a x → IsExpr k a (x ++ [])
ended k j a x le w = subst (λ (z : Tokens). IsExpr k a z) (sym (append-nil x)) (looser le w)

-- ---- commas

-- none, or one or more, each after a comma
abbrev pub Commas : List (Place × Expr) → Tokens → Type 0
Commas [] zs = zs ≡ []
Commas (b ∷ bs) zs = IsFurther (b ∷ bs) zs

-- those behind others that were found before
pub record Followed (found all : List (Place × Expr)) (zs : Tokens) : Type 0 where
  pub others : List (Place × Expr)
  pub all_is : all ≡ found ++ others
  pub commas : Commas others zs

pub none_followed : (found : List (Place × Expr)) → Followed found found []
none_followed found = record { others = []; all_is = sym (append-nil found); commas = refl }

one_more : (p : Place) (b : Expr) (xs : Tokens) (bs : List (Place × Expr)) (zs : Tokens) → IsExpr 1 b xs → Commas bs zs → IsFurther ((p, b) ∷ bs) (sign p punct.Comma ∷ (xs ++ zs))
one_more p b xs [] zs w h = subst (λ (z : Tokens). IsFurther ((p, b) ∷ []) (sign p punct.Comma ∷ z)) (sym (ap (λ (z : Tokens). xs ++ z) h ∙ append-nil xs)) (phrases.IsFurther.last w)
one_more p b xs (c ∷ bs) zs w h = phrases.IsFurther.further w h

pub more_followed : (found : List (Place × Expr)) (p : Place) (b : Expr) (xs : Tokens) (bs : List (Place × Expr)) (zs : Tokens) → IsExpr 1 b xs → Followed (found ++ (p, b) ∷ []) bs zs
    → Followed found bs (sign p punct.Comma ∷ (xs ++ zs))
more_followed found p b xs bs zs w r = record { others = (p, b) ∷ r.others; all_is = r.all_is ∙ append_assoc found ((p, b) ∷ []) r.others; commas = one_more p b xs r.others zs w r.commas }

pub sequence_by : (k : ℕ) (a : Expr) (x : Tokens) (bs : List (Place × Expr)) (zs : Tokens) → k ≤ 0 → IsExpr 1 a x → Commas bs zs → IsExpr k (sequence_of a bs) (x ++ zs)
sequence_by k a x [] zs low w h = subst (λ (z : Tokens). IsExpr k a (x ++ z)) (sym h) (ended k 1 a x (omega arith) w)
sequence_by k a x (b ∷ bs) zs low w h = sequence low w h

module _ (next : ℕ → Parser Expr) (hyp : Nested next) where
  pub climb_good : (n k j : ℕ) (a : Expr) (x ts : Tokens) → length ts ≤ n → 1 ≤ k → k ≤ j → IsExpr j a x → binds (follow_at ts) ≤ j → GoodTo (Climbed k x) ts (climb next k n a ts)
  unfolding climb
  climb_good zero k j a x [] few low le w stops = to_ok (Climbed k x) [] a (ended k j a x le w, none_below k low)
  climb_good zero k j a x (t ∷ ts) few low le w stops = absurd (omega arith)
  climb_good (suc n) k j a x ts few low le w stops = go (nat_lt (binds (follow_at ts)) k) refl (climb_good n k)
    where
      go : (b : Bool) → nat_lt (binds (follow_at ts)) k ≡ b
          → ((i : ℕ) (c : Expr) (y us : Tokens) → length us ≤ n → 1 ≤ k → k ≤ i → IsExpr i c y → binds (follow_at us) ≤ i → GoodTo (Climbed k y) us (climb next k n c us))
          → GoodTo (Climbed k x) ts (cond b (Ok (a, ts)) (and_then (operate next a ts) (climb next k n)))
      go true h ih = to_ok (Climbed k x) ts a (ended k j a x le w, ltb-true _ _ h)
      go false h ih =
          let above : k ≤ binds (follow_at ts) = ltb-false _ _ h in
          to_then (Grown (binds (follow_at ts)) x) (Climbed k x) ts (operate next a ts) (climb next k n) (operate_good next hyp a x ts (looser stops w))
          (λ c ys rest split s.
          let shorter : length ts ≡ length ys + length rest = ap length split ∙ length-append ys rest in
          to_weaken (Climbed k (x ++ ys)) (λ b zs end. Climbed k x b (ys ++ zs) end) rest (climb next k n c rest)
          (ih (binds (follow_at ts)) c (x ++ ys) rest (omega (arith, s.2)) low above s.0 s.1)
          (λ b zs end split2 v. (subst (λ (z : Tokens). IsExpr k b z) (append_assoc x ys zs) v.0, v.1)))

  -- l is the level of what is read: 1, or 2 where no assignment may stand
  tailed_at : (k l : ℕ) (f : Tail) (a : Expr) (x : Tokens) (t : Token) (rest : Tokens) → l ≤ 2 → (k ≤ 1 → l ≤ 1) → tail_by t.kind ≡ f → IsExpr 3 a x
      → Good (λ b ys. IsExpr l b (x ++ ys)) (t ∷ rest) (tailed_as next k a f (t ∷ rest))
  tailed_at k l tail.Question a x t rest low lower h s = go (nat_le k 2)
    where
      go : (b : Bool) → Good (λ b ys. IsExpr l b (x ++ ys)) (t ∷ rest)
          ((cond b (take_one >>= λ p. next 0 >>= λ b. expect punct.Colon >>= λ _. next 1 >>= λ c. pure (e.Conditional p a b c)) (pure a)) (t ∷ rest))
      go false = good_ok (λ b ys. IsExpr l b (x ++ ys)) (t ∷ rest) a (ended l 3 a x (omega arith) s)
      go true =
          let p = sign t.place punct.Question in
          good_front (λ b ys. IsExpr l b (x ++ ys)) (t ∷ rest) (p ∷ []) rest (and_then (next 0 rest) (λ b. expect punct.Colon >>= λ _. next 1 >>= λ c. pure (e.Conditional t.place a b c)))
          (kind_is t rest (kind.Punct punct.Question) (tails_question t.kind h))
          (good_then (IsExpr 0) (λ c ys. IsExpr l c (x ++ p ∷ ys)) rest (next 0 rest) (λ b. expect punct.Colon >>= λ _. next 1 >>= λ c. pure (e.Conditional t.place a b c)) (hyp.low 0 rest (omega arith))
          (λ b ys after split w. good_expect (λ c zs. IsExpr l c (x ++ p ∷ (ys ++ zs))) punct.Colon after (λ _. next 1 >>= λ c. pure (e.Conditional t.place a b c))
          (λ q last split2. good_map (IsExpr 1) (λ c zs. IsExpr l c (x ++ p ∷ (ys ++ sign q punct.Colon ∷ zs))) (λ c. e.Conditional t.place a b c) last (next 1 last) (hyp.low 1 last (omega arith))
          (λ c zs v. conditional q low s w v))))
  tailed_at k l (tail.Assign o) a x t rest low lower h s = go (nat_le k 1) (is_tight a) refl refl (tails_assign t.kind o h)
    where
      stays : Good (λ b ys. IsExpr l b (x ++ ys)) (t ∷ rest) (Ok (a, t ∷ rest))
      stays = good_ok (λ b ys. IsExpr l b (x ++ ys)) (t ∷ rest) a (ended l 3 a x (omega arith) s)

      go : (b c : Bool) → nat_le k 1 ≡ b → is_tight a ≡ c → Spells assign_of o t.kind
          → Good (λ b ys. IsExpr l b (x ++ ys)) (t ∷ rest) ((cond (b && c) (take_one >>= λ p. next 1 >>= λ b. pure (e.Assign p o a b)) (pure a)) (t ∷ rest))
      go true true i j m =
          let p = sign t.place m.mark in
          good_front (λ b ys. IsExpr l b (x ++ ys)) (t ∷ rest) (p ∷ []) rest (and_then (next 1 rest) (λ b. pure (e.Assign t.place o a b))) (kind_is t rest (kind.Punct m.mark) m.is)
          (good_map (IsExpr 1) (λ b ys. IsExpr l b (x ++ p ∷ ys)) (λ b. e.Assign t.place o a b) rest (next 1 rest) (hyp.low 1 rest (omega arith))
          (λ b ys w. assign m.mark m.spells (lower (leb-true k 1 i)) (tight_is j s) w))
      go true false i j m = stays
      go false true i j m = stays
      go false false i j m = stays
  tailed_at k l tail.End a x t rest low lower h s = good_ok (λ b ys. IsExpr l b (x ++ ys)) (t ∷ rest) a (ended l 3 a x (omega arith) s)

  pub tailed_good : (k l : ℕ) (a : Expr) (x ts : Tokens) → l ≤ 2 → (k ≤ 1 → l ≤ 1) → IsExpr 3 a x → Good (λ b ys. IsExpr l b (x ++ ys)) ts (tailed next k a ts)
  unfolding tailed tail_at
  tailed_good k l a x [] low lower s = good_ok (λ b ys. IsExpr l b (x ++ ys)) [] a (ended l 3 a x (omega arith) s)
  tailed_good k l a x (t ∷ rest) low lower s = tailed_at k l (tail_by t.kind) a x t rest low lower refl s

  further_good : (n : ℕ) (found : List (Place × Expr)) (ts : Tokens) → Good (Followed found) ts (further next n found ts)
  unfolding further
  further_good zero found ts = good_ok (Followed found) ts found (none_followed found)
  further_good (suc n) found ts = go (sees punct.Comma ts) refl (further_good n)
    where
      go : (b : Bool) → sees punct.Comma ts ≡ b → ((others : List (Place × Expr)) (us : Tokens) → Good (Followed others) us (further next n others us))
          → Good (Followed found) ts (cond b (and_then (take_one ts) (λ p. next 1 >>= λ b. further next n (found ++ (p, b) ∷ []))) (Ok (found, ts)))
      go false h ih = good_ok (Followed found) ts found (none_followed found)
      go true h ih =
          good_sign (Followed found) punct.Comma ts (λ p. next 1 >>= λ b. further next n (found ++ (p, b) ∷ [])) h
          (λ p rest split. good_then (IsExpr 1) (λ bs ys. Followed found bs (sign p punct.Comma ∷ ys)) rest (next 1 rest) (λ b. further next n (found ++ (p, b) ∷ [])) (hyp.low 1 rest (omega arith))
          (λ b xs after split2 w. good_weaken (Followed (found ++ (p, b) ∷ [])) (λ bs ys. Followed found bs (sign p punct.Comma ∷ (xs ++ ys))) after (further next n (found ++ (p, b) ∷ []) after) (ih (found ++ (p, b) ∷ []) after)
          (λ bs zs r. more_followed found p b xs bs zs w r)))

  sequenced_good : (k l : ℕ) (a : Expr) (x ts : Tokens) → k ≤ l → 1 ≤ l → IsExpr l a x → Good (λ b ys. IsExpr k b (x ++ ys)) ts (sequenced next k a ts)
  unfolding sequenced
  sequenced_good k l a x ts le some s = go (nat_eq k 0) refl
    where
      go : (b : Bool) → nat_eq k 0 ≡ b → Good (λ b ys. IsExpr k b (x ++ ys)) ts (cond b (and_then (further next (length ts) [] ts) (λ bs. pure (sequence_of a bs))) (Ok (a, ts)))
      go false h = good_ok (λ b ys. IsExpr k b (x ++ ys)) ts a (ended k l a x le s)
      go true h =
          let none : k ≡ 0 = eqb-true k 0 h in
          good_map (Followed []) (λ b ys. IsExpr k b (x ++ ys)) (λ bs. sequence_of a bs) ts (further next (length ts) [] ts) (further_good (length ts) [] ts)
          (λ bs zs r. subst (λ (cs : List (Place × Expr)). IsExpr k (sequence_of a cs) (x ++ zs)) (sym r.all_is) (sequence_by k a x r.others zs (omega arith) (looser some s) r.commas))

  completed_by : (k l : ℕ) (a : Expr) (x ts : Tokens) → k ≤ l → 1 ≤ l → l ≤ 2 → (k ≤ 1 → l ≤ 1) → Ready a x ts → Good (λ b ys. IsExpr k b (x ++ ys)) ts (completed next k a ts)
  unfolding completed
  completed_by k l a x ts le some low lower r =
      let above : 3 ≤ max k 3 = le-max_right k 3 in
      let below : max k 3 ≤ 14 = max-le (omega arith) (omega arith) in
      good_then (λ b ys. IsExpr l b (x ++ ys)) (λ b ys. IsExpr k b (x ++ ys)) ts (and_then (climb next (max k 3) (length ts) a ts) (tailed next k)) (sequenced next k)
      (good_then (λ b ys. IsExpr 3 b (x ++ ys)) (λ b ys. IsExpr l b (x ++ ys)) ts (climb next (max k 3) (length ts) a ts) (tailed next k)
      (good_of (Climbed (max k 3) x) (λ b ys. IsExpr 3 b (x ++ ys)) ts (climb next (max k 3) (length ts) a ts)
      (climb_good (length ts) (max k 3) r.j a x ts (omega arith) (omega arith) (omega (arith, r.bound)) r.tight r.stops) (λ b ys rest w. looser above w.0))
      (λ b ys rest split w. good_weaken (λ c zs. IsExpr l c ((x ++ ys) ++ zs)) (λ c zs. IsExpr l c (x ++ (ys ++ zs))) rest (tailed next k b rest) (tailed_good k l b (x ++ ys) rest low lower w)
      (λ c zs v. subst (λ (z : Tokens). IsExpr l c z) (append_assoc x ys zs) v)))
      (λ b ys rest split w. good_weaken (λ c zs. IsExpr k c ((x ++ ys) ++ zs)) (λ c zs. IsExpr k c (x ++ (ys ++ zs))) rest (sequenced next k b rest) (sequenced_good k l b (x ++ ys) rest le some w)
      (λ c zs v. subst (λ (z : Tokens). IsExpr k c z) (append_assoc x ys zs) v))

  pub completed_good : (k : ℕ) (a : Expr) (x ts : Tokens) → k ≤ 2 → Ready a x ts → Good (λ b ys. IsExpr k b (x ++ ys)) ts (completed next k a ts)
  completed_good k a x ts low r = go (nat_le k 1) refl
    where
      go : (b : Bool) → nat_le k 1 ≡ b → Good (λ b ys. IsExpr k b (x ++ ys)) ts (completed next k a ts)
      go true h = let le : k ≤ 1 = leb-true k 1 h in completed_by k 1 a x ts le (omega arith) (omega arith) (λ i. omega arith) r
      go false h = let above : 1 < k = leb-false k 1 h in completed_by k 2 a x ts low (omega arith) (omega arith) (λ i. absurd (omega arith)) r

  -- ---- where no condition, assignment or comma may stand

  tailed_stays : (k : ℕ) (a : Expr) (ts : Tokens) → 3 ≤ k → tailed next k a ts ≡ Ok (a, ts)
  unfolding tailed
  tailed_stays k a ts h = go (tail_at ts)
    where
      go : (f : Tail) → tailed_as next k a f ts ≡ Ok (a, ts)
      go tail.Question = rw (lt-leb k 2 (omega arith)) refl
      go (tail.Assign o) = rw (lt-leb k 1 (omega arith)) refl
      go tail.End = refl

  sequenced_stays : (k : ℕ) (a : Expr) (ts : Tokens) → 3 ≤ k → sequenced next k a ts ≡ Ok (a, ts)
  unfolding sequenced
  sequenced_stays k a ts h = go (nat_eq k 0) refl
    where
      go : (b : Bool) → nat_eq k 0 ≡ b → cond b (and_then (further next (length ts) [] ts) (λ bs. pure (sequence_of a bs))) (Ok (a, ts)) ≡ Ok (a, ts)
      go true i = let none : k ≡ 0 = eqb-true k 0 i in absurd (omega arith)
      go false i = refl

  completed_tight : (k : ℕ) (a : Expr) (x ts : Tokens) → 3 ≤ k → k ≤ 14 → Ready a x ts → GoodTo (Climbed k x) ts (completed next k a ts)
  unfolding completed
  completed_tight k a x ts low high r =
      subst (λ (m : ℕ). GoodTo (Climbed k x) ts (and_then (and_then (climb next m (length ts) a ts) (tailed next k)) (sequenced next k))) (sym (max-eq_left low))
      (to_then (Climbed k x) (Climbed k x) ts (and_then (climb next k (length ts) a ts) (tailed next k)) (sequenced next k)
      (to_then (Climbed k x) (Climbed k x) ts (climb next k (length ts) a ts) (tailed next k) (climb_good (length ts) k r.j a x ts (omega arith) (omega arith) (omega (arith, r.bound)) r.tight r.stops)
      (λ b ys rest split w. stays b ys rest w (tailed next k b rest) (tailed_stays k b rest low)))
      (λ b ys rest split w. stays b ys rest w (sequenced next k b rest) (sequenced_stays k b rest low)))
    where
      stays : (b : Expr) (ys rest : Tokens) → Climbed k x b ys rest → (o : Outcome Expr) → o ≡ Ok (b, rest) → GoodTo (λ c zs end. Climbed k x c (ys ++ zs) end) rest o
      stays b ys rest w o h =
          subst (λ (o : Outcome Expr). GoodTo (λ c zs end. Climbed k x c (ys ++ zs) end) rest o) (sym h)
          (to_ok (λ c zs end. Climbed k x c (ys ++ zs) end) rest b (subst (λ (z : Tokens). IsExpr k b (x ++ z)) (sym (append-nil ys)) w.0, w.1))

  pub whole_low : (k : ℕ) (ts : Tokens) → k ≤ 2 → Good (IsExpr k) ts (whole next k ts)
  whole_low k ts low =
      good_of (λ a xs rest. IsExpr k a xs) (IsExpr k) ts (and_then (operand next ts) (completed next k))
      (to_then Ready (λ a xs rest. IsExpr k a xs) ts (operand next ts) (completed next k) (operand_good next hyp ts) (λ a xs rest split r. completed_good k a xs rest low r)) (λ a xs rest w. w)

  pub whole_tight : (k : ℕ) (ts : Tokens) → 3 ≤ k → k ≤ 14 → GoodTo (Upto k) ts (whole next k ts)
  whole_tight k ts low high = to_then Ready (Upto k) ts (operand next ts) (completed next k) (operand_good next hyp ts) (λ a xs rest split r. completed_tight k a xs rest low high r)

-- of nested expressions, however deep
pub nested : (d : ℕ) → Nested (expr d)
unfolding expr
nested zero = record { low = λ k ts low. tt; tight = λ k ts low high. tt }
nested (suc d) = record { low = λ k ts low. whole_low (expr d) (nested d) k ts low; tight = λ k ts low high. whole_tight (expr d) (nested d) k ts low high }
