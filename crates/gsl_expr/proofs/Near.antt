-- What readers do on two inputs that are the same up to a token: a fault, or where they stop, rests on nothing behind the token that stands there.
use Rattle.std.proofs.Common.{◌≡◌, ℕ, zero, suc, ◌≤◌, ◌<◌, Bool, true, false, cond, [], ◌∷◌, ◌++◌, length, Ok, Err, refl, sym, ap, subst, length-append, arith}
use Rattle.std.proofs.lemmas.Bool.{cases_lt}
use mathlib.Core.Logic.{inl, inr, ◌⊎◌}
use Rattle.gsl_base.specs.declared.fault.Place.{Place}
use Rattle.gsl_base.specs.declared.token.Punct.{Punct}
use Rattle.gsl_base.specs.declared.token.Key.{Key}
use Rattle.gsl_base.specs.declared.token.Token.{Token}
use Rattle.gsl_expr.specs.Reading.{Tokens, Outcome, Parser, and_then, ◌>>=◌, pure, fail, take_one, sees, sees_key, expect}

-- ---- what is left never grows

abbrev pub Within : {A : Type 0} → Tokens → Outcome A → Type 0
Within ts (Ok x) = length x.1 ≤ length ts
Within ts (Err us) = length us ≤ length ts

-- where something is read, something is taken
abbrev pub Takes : {A : Type 0} → Tokens → Outcome A → Type 0
Takes ts (Ok x) = length x.1 < length ts
Takes ts (Err n) = Unit {0}

within_more : {A : Type 0} (ts us : Tokens) (o : Outcome A) → length us ≤ length ts → Within us o → Within ts o
within_more ts us (Ok x) le w = omega arith
within_more ts us (Err n) le w = omega arith

pub within_then : {A B : Type 0} (ts : Tokens) (o : Outcome A) (f : A → Parser B) → Within ts o → ((a : A) (us : Tokens) → Within us (f a us)) → Within ts (and_then o f)
within_then ts (Ok x) f w h = within_more ts x.1 (f x.0 x.1) w (h x.0 x.1)
within_then ts (Err n) f w h = w

pub takes_then : {A B : Type 0} (ts : Tokens) (o : Outcome A) (f : A → Parser B) → Takes ts o → ((a : A) (us : Tokens) → Within us (f a us)) → Takes ts (and_then o f)
takes_then {B = B} ts (Ok x) f w h = go (f x.0 x.1) (h x.0 x.1)
  where
    go : (o : Outcome B) → Within x.1 o → Takes ts o
    go (Ok y) v = omega arith
    go (Err n) v = tt
takes_then ts (Err n) f w h = tt

pub takes_one : (ts : Tokens) → Takes ts (take_one ts)
takes_one [] = tt
takes_one (t ∷ ts) = omega arith

-- a test that looks at one token
pub record Looks {K : Type 0} (test : Tokens → K) : Type 0 where
  pub alike : (x : Token) (xs ys : Tokens) → test (x ∷ xs) ≡ test (x ∷ ys)

pub looks_sees : (m : Punct) → Looks (sees m)
unfolding sees
looks_sees m = record { alike = λ x xs ys. refl }

pub looks_key : (w : Key) → Looks (sees_key w)
unfolding sees_key
looks_key w = record { alike = λ x xs ys. refl }

-- ---- two inputs that are the same up to a token b

module _ (b : Token) (p q : Tokens) where
  pub record Twin (ts us : Tokens) : Type 0 where
    pub pre : Tokens
    pub left : ts ≡ pre ++ b ∷ p
    pub right : us ≡ pre ++ b ∷ q

  pub twin_elim : (F : Tokens → Tokens → Type 0) (ts us : Tokens) → Twin ts us → ((pre : Tokens) → F (pre ++ b ∷ p) (pre ++ b ∷ q)) → F ts us
  twin_elim F ts us w f = subst (λ (z : Tokens). F z us) (sym w.left) (subst (λ (z : Tokens). F (w.pre ++ b ∷ p) z) (sym w.right) (f w.pre))

  pub twin_looks : {K : Type 0} {test : Tokens → K} → Looks test → (ts us : Tokens) → Twin ts us → test ts ≡ test us
  twin_looks {test = test} l ts us w = twin_elim (λ ts us. test ts ≡ test us) ts us w go
    where
      go : (pre : Tokens) → test (pre ++ b ∷ p) ≡ test (pre ++ b ∷ q)
      go [] = l.alike b p q
      go (x ∷ xs) = l.alike x (xs ++ b ∷ p) (xs ++ b ∷ q)

  -- what the second outcome is, if the first is one at b or before
  abbrev pub Same : {A : Type 0} → Outcome A → Outcome A → Type 0
  Same (Ok x) o = length p < length x.1 → (rest : Tokens) × (o ≡ Ok (x.0, rest)) × Twin x.1 rest
  Same (Err us) o = length p < length us → (vs : Tokens) × (o ≡ Err vs)

  behind : {A : Type 0} (ts : Tokens) (x y : Outcome A) → length ts ≤ length p → Within ts x → Same x y
  behind ts (Ok x) y le w = λ lt. absurd (omega arith)
  behind ts (Err n) y le w = λ lt. absurd (omega arith)

  -- Two readers do the same on such inputs, of at most d and c tokens.
  pub record Near {A : Type 0} (d c : ℕ) (f g : Parser A) : Type 0 where
    pub within : (ts : Tokens) → Within ts (f ts)
    pub same : (ts us : Tokens) → length ts ≤ d → length us ≤ c → Twin ts us → Same (f ts) (g us)

  pub near_pure : {A : Type 0} {d c : ℕ} (a : A) → Near d c (pure a) (pure a)
  near_pure a = record { within = λ ts. omega arith; same = λ ts us lt le w. λ h. (us, refl, w) }

  pub near_fail : {A : Type 0} {d c : ℕ} → Near {A = A} d c fail fail
  near_fail = record { within = λ ts. omega arith; same = λ ts us lt le w. λ h. (us, refl) }

  pub near_less : {A : Type 0} {d c m n : ℕ} {f g : Parser A} → d ≤ m → c ≤ n → Near m n f g → Near d c f g
  near_less x y s = record { within = s.within; same = λ ts us lt le w. s.same ts us (omega arith) (omega arith) w }

  -- No such input is empty.
  pub near_left : {A : Type 0} {c : ℕ} {f g : Parser A} → ((ts : Tokens) → Within ts (f ts)) → Near zero c f g
  near_left x = record { within = x; same = λ ts us lt le w. absurd (omega (arith, ap length w.left, length-append w.pre (b ∷ p))) }

  pub near_right : {A : Type 0} {d : ℕ} {f g : Parser A} → ((ts : Tokens) → Within ts (f ts)) → Near d zero f g
  near_right x = record { within = x; same = λ ts us lt le w. absurd (omega (arith, ap length w.right, length-append w.pre (b ∷ q))) }

  -- Where more is left of the first, more is left of the second.
  shorter : (ts us vs ws : Tokens) → Twin ts us → Twin vs ws → length vs ≤ length ts → length ws ≤ length us
  shorter ts us vs ws w v le =
      omega (arith, ap length w.left, ap length w.right, ap length v.left, ap length v.right, length-append w.pre (b ∷ p), length-append w.pre (b ∷ q), length-append v.pre (b ∷ p), length-append v.pre (b ∷ q))

  strictly : (ts us vs ws : Tokens) → Twin ts us → Twin vs ws → length vs < length ts → length ws < length us
  strictly ts us vs ws w v le =
      omega (arith, ap length w.left, ap length w.right, ap length v.left, ap length v.right, length-append w.pre (b ∷ p), length-append w.pre (b ∷ q), length-append v.pre (b ∷ p), length-append v.pre (b ∷ q))

  same_then : {A B : Type 0} (d c : ℕ) (ts us : Tokens) (x y : Outcome A) (f g : A → Parser B) → length ts ≤ d → length us ≤ c → Twin ts us → Within ts x → Same x y → ((a : A) → Near d c (f a) (g a)) → Same (and_then x f) (and_then y g)
  same_then d c ts us (Ok x) y f g lt le tw w s h = go (cases_lt (length p) (length x.1))
    where
      go : (length p < length x.1) ⊎ (length x.1 ≤ length p) → Same (f x.0 x.1) (and_then y g)
      go (inl far) =
          let t = s far in
          let less : length t.0 ≤ length us = shorter ts us x.1 t.0 tw t.2 w in
          subst (λ o. Same (f x.0 x.1) (and_then o g)) (sym t.1) ((h x.0).same x.1 t.0 (omega arith) (omega arith) t.2)
      go (inr near) = behind x.1 (f x.0 x.1) (and_then y g) near ((h x.0).within x.1)
  same_then d c ts us (Err n) y f g lt le tw w s h = λ far. let t = s far in (t.0, ap (λ o. and_then o g) t.1)

  pub near_then : {A B : Type 0} {d c : ℕ} {x y : Parser A} {f g : A → Parser B} → Near d c x y → ((a : A) → Near d c (f a) (g a)) → Near d c (x >>= f) (y >>= g)
  near_then {d = d} {c = c} {x = x} {y = y} {f = f} {g = g} s h = record {
    within = λ ts. within_then ts (x ts) f (s.within ts) (λ a us. (h a).within us);
    same = λ ts us lt le w. same_then d c ts us (x ts) (y us) f g lt le w (s.within ts) (s.same ts us lt le w) h;
  }

  -- the same where the first takes something
  same_taking : {A B : Type 0} (d c : ℕ) (ts us : Tokens) (x y : Outcome A) (f g : A → Parser B) → length ts ≤ suc d → length us ≤ suc c → Twin ts us → Takes ts x → Same x y → ((a : A) → Near d c (f a) (g a)) → Same (and_then x f) (and_then y g)
  same_taking d c ts us (Ok x) y f g lt le tw w s h = go (cases_lt (length p) (length x.1))
    where
      go : (length p < length x.1) ⊎ (length x.1 ≤ length p) → Same (f x.0 x.1) (and_then y g)
      go (inl far) =
          let t = s far in
          let less : length t.0 < length us = strictly ts us x.1 t.0 tw t.2 w in
          subst (λ o. Same (f x.0 x.1) (and_then o g)) (sym t.1) ((h x.0).same x.1 t.0 (omega arith) (omega arith) t.2)
      go (inr near) = behind x.1 (f x.0 x.1) (and_then y g) near ((h x.0).within x.1)
  same_taking d c ts us (Err n) y f g lt le tw w s h = λ far. let t = s far in (t.0, ap (λ o. and_then o g) t.1)

  pub near_taking : {A B : Type 0} {d c : ℕ} {x y : Parser A} {f g : A → Parser B} → ((ts : Tokens) → Takes ts (x ts)) → Near (suc d) (suc c) x y → ((a : A) → Near d c (f a) (g a)) → Near (suc d) (suc c) (x >>= f) (y >>= g)
  near_taking {d = d} {c = c} {x = x} {y = y} {f = f} {g = g} u s h = record {
    within = λ ts. within_then ts (x ts) f (s.within ts) (λ a us. (h a).within us);
    same = λ ts us lt le w. same_taking d c ts us (x ts) (y us) f g lt le w (u ts) (s.same ts us lt le w) h;
  }

  -- ---- single tokens

  pub near_one : {d c : ℕ} → Near d c take_one take_one
  near_one = record { within = small; same = λ ts us lt le w. twin_elim (λ ts us. Same (take_one ts) (take_one us)) ts us w go }
    where
      small : (ts : Tokens) → Within ts (take_one ts)
      small [] = omega arith
      small (t ∷ ts) = omega arith

      go : (pre : Tokens) → Same (take_one (pre ++ b ∷ p)) (take_one (pre ++ b ∷ q))
      go [] = λ far. absurd (omega arith)
      go (x ∷ xs) = λ far. (xs ++ b ∷ q, refl, record { pre = xs; left = refl; right = refl })

  pub near_by : {A K : Type 0} {d c : ℕ} {key : Tokens → K} {f g : K → Parser A} → Looks key → ((k : K) → Near d c (f k) (g k)) → Near d c (λ ts. f (key ts) ts) (λ ts. g (key ts) ts)
  near_by {key = key} {f = f} {g = g} l h = record {
    within = λ ts. (h (key ts)).within ts;
    same = λ ts us lt le w. subst (λ k. Same (f (key ts) ts) (g k us)) (twin_looks l ts us w) ((h (key ts)).same ts us lt le w);
  }

  pub near_if : {A : Type 0} {d c : ℕ} {test : Tokens → Bool} {f g x y : Parser A} → Looks test → Near d c f g → Near d c x y → Near d c (λ ts. cond (test ts) (f ts) (x ts)) (λ ts. cond (test ts) (g ts) (y ts))
  near_if {d = d} {c = c} {f = f} {g = g} {x = x} {y = y} l s r = near_by {f = λ k ts. cond k (f ts) (x ts)} {g = λ k ts. cond k (g ts) (y ts)} l go
    where
      go : (k : Bool) → Near d c (λ ts. cond k (f ts) (x ts)) (λ ts. cond k (g ts) (y ts))
      go true = s
      go false = r

  pub near_when : {A : Type 0} {d c : ℕ} {f g x y : Parser A} (k : Bool) → Near d c f g → Near d c x y → Near d c (λ ts. cond k (f ts) (x ts)) (λ ts. cond k (g ts) (y ts))
  near_when true s r = s
  near_when false s r = r

  -- a test that looks at two tokens, where b is the first of them at most if it is taken
  pub near_two : {A : Type 0} {d c : ℕ} {test : Tokens → Bool} {f g : Bool → Parser A} → ((k : Bool) → Near d c (f k) (g k))
      → ((x : Token) (xs ys : Tokens) → Twin xs ys → test (x ∷ xs) ≡ test (x ∷ ys))
      → (test (b ∷ p) ≡ test (b ∷ q)) ⊎ (length (b ∷ p) ≤ d → Within p (f (test (b ∷ p)) (b ∷ p)))
      → Near d c (λ ts. f (test ts) ts) (λ us. g (test us) us)
  near_two {d = d} {c = c} {test = test} {f = f} {g = g} h alike first = record {
    within = λ ts. (h (test ts)).within ts;
    same = λ ts us lt le w. twin_elim (λ ts us. length ts ≤ d → length us ≤ c → Same (f (test ts) ts) (g (test us) us)) ts us w go lt le;
  }
    where
      by_test : (ts us : Tokens) → Twin ts us → test ts ≡ test us → length ts ≤ d → length us ≤ c → Same (f (test ts) ts) (g (test us) us)
      by_test ts us w i lt le = subst (λ k. Same (f (test ts) ts) (g k us)) i ((h (test ts)).same ts us lt le w)

      at_first : (test (b ∷ p) ≡ test (b ∷ q)) ⊎ (length (b ∷ p) ≤ d → Within p (f (test (b ∷ p)) (b ∷ p))) → length (b ∷ p) ≤ d → length (b ∷ q) ≤ c → Same (f (test (b ∷ p)) (b ∷ p)) (g (test (b ∷ q)) (b ∷ q))
      at_first (inl i) lt le = by_test (b ∷ p) (b ∷ q) (record { pre = []; left = refl; right = refl }) i lt le
      at_first (inr v) lt le = behind p (f (test (b ∷ p)) (b ∷ p)) (g (test (b ∷ q)) (b ∷ q)) (omega arith) (v lt)

      go : (pre : Tokens) → length (pre ++ b ∷ p) ≤ d → length (pre ++ b ∷ q) ≤ c → Same (f (test (pre ++ b ∷ p)) (pre ++ b ∷ p)) (g (test (pre ++ b ∷ q)) (pre ++ b ∷ q))
      go [] lt le = at_first first lt le
      go (x ∷ xs) lt le =
          by_test (x ∷ (xs ++ b ∷ p)) (x ∷ (xs ++ b ∷ q)) (record { pre = x ∷ xs; left = refl; right = refl })
          (alike x (xs ++ b ∷ p) (xs ++ b ∷ q) (record { pre = xs; left = refl; right = refl })) lt le

  pub near_expect : {d c : ℕ} (m : Punct) → Near d c (expect m) (expect m)
  unfolding expect
  near_expect m = near_if (looks_sees m) near_one near_fail

  pub near_close : {A : Type 0} {d c : ℕ} (m : Punct) (a : A) → Near d c (expect m >>= λ _. pure a) (expect m >>= λ _. pure a)
  near_close m a = near_then (near_expect m) (λ _. near_pure a)

  pub near_take : {A : Type 0} {d c : ℕ} {f g : Place → Parser A} → ((l : Place) → Near d c (f l) (g l)) → Near (suc d) (suc c) (take_one >>= f) (take_one >>= g)
  near_take h = near_taking takes_one near_one h
