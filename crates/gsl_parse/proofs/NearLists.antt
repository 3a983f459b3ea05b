-- Readers that take something, and lists of items, do the same on two inputs up to the first token in which they differ.
use Rattle.std.proofs.Common.{ℕ, zero, suc, pred, ◌≤◌, Bool, true, false, cond, List, [], ◌∷◌, ◌++◌, length, Ok, Err, arith}
use Rattle.gsl_base.specs.declared.fault.Place.{Place}
use Rattle.gsl_base.specs.declared.token.Punct.{Punct}
use Rattle.gsl_base.specs.declared.token.Punct.TheVariants as punct
use Rattle.gsl_base.specs.declared.token.Token.{Token}
use Rattle.gsl_expr.specs.Reading.{Tokens, Outcome, Parser, and_then, ◌>>=◌, pure, fail, take_one, sees, expect, name}
use Rattle.gsl_parse.specs.Lists.{row, row_of, some_of, further, further_of, commas_of}
use Rattle.gsl_expr.proofs.Near.{Within, Takes, within_then, takes_then, Looks, looks_sees, Near, near_pure, near_fail, near_less, near_left, near_right, near_then, near_taking, near_one, near_by, near_if, near_expect, near_take, takes_one}
use Rattle.gsl_expr.proofs.NearExpressions.{near_name, near_length, takes_name}

takes_behind : {A B : Type 0} (ts : Tokens) (o : Outcome A) (f : A → Parser B) → Within ts o → ((a : A) (us : Tokens) → Takes us (f a us)) → Takes ts (and_then o f)
takes_behind {B = B} ts (Ok x) f w h = go (f x.0 x.1) (h x.0 x.1)
  where
    go : (o : Outcome B) → Takes x.1 o → Takes ts o
    go (Ok y) v = omega arith
    go (Err n) v = tt
takes_behind ts (Err n) f w h = tt

takes_expect : (m : Punct) (ts : Tokens) → Takes ts (expect m ts)
unfolding expect
takes_expect m ts = go (sees m ts) (takes_one ts)
  where
    go : (c : Bool) → Takes ts (take_one ts) → Takes ts (cond c (take_one ts) (Err ts))
    go true h = h
    go false h = tt

module _ (b : Token) (p q : Tokens) where
  -- a reader that takes something wherever it reads
  pub record Eats {A : Type 0} (d c : ℕ) (f g : Parser A) : Type 0 where
    pub near : Near b p q d c f g
    pub takes : (ts : Tokens) → Takes ts (f ts)

  pub eats_one : {d c : ℕ} → Eats d c take_one take_one
  eats_one = record { near = near_one b p q; takes = takes_one }

  pub eats_name : {d c : ℕ} → Eats d c name name
  eats_name = record { near = near_name b p q; takes = takes_name }

  pub eats_expect : {d c : ℕ} (m : Punct) → Eats d c (expect m) (expect m)
  eats_expect m = record { near = near_expect b p q m; takes = takes_expect m }

  pub eats_fail : {A : Type 0} {d c : ℕ} → Eats {A = A} d c fail fail
  eats_fail = record { near = near_fail b p q; takes = λ ts. tt }

  pub eats_then : {A B : Type 0} {d c : ℕ} {x y : Parser A} {f g : A → Parser B} → Eats d c x y → ((a : A) → Near b p q d c (f a) (g a)) → Eats d c (x >>= f) (y >>= g)
  eats_then {x = x} {f = f} s h = record { near = near_then b p q s.near h; takes = λ ts. takes_then ts (x ts) f (s.takes ts) (λ a us. (h a).within us) }

  pub eats_behind : {A B : Type 0} {d c : ℕ} {x y : Parser A} {f g : A → Parser B} → Near b p q d c x y → ((a : A) → Eats d c (f a) (g a)) → Eats d c (x >>= f) (y >>= g)
  eats_behind {x = x} {f = f} s h = record { near = near_then b p q s (λ a. (h a).near); takes = λ ts. takes_behind ts (x ts) f (s.within ts) (λ a us. (h a).takes us) }

  pub eats_less : {A : Type 0} {d c m n : ℕ} {f g : Parser A} → d ≤ m → c ≤ n → Eats m n f g → Eats d c f g
  eats_less x y s = record { near = near_less b p q x y s.near; takes = s.takes }

  -- what is taken leaves less to the second
  pub eats_take : {A : Type 0} {d c : ℕ} {f g : Place → Parser A} → ((l : Place) → Near b p q d c (f l) (g l)) → Eats (suc d) (suc c) (take_one >>= f) (take_one >>= g)
  eats_take {f = f} h = record { near = near_take b p q h; takes = λ ts. takes_then ts (take_one ts) f (takes_one ts) (λ a us. (h a).within us) }

  pub eats_pred : {A : Type 0} {d c : ℕ} {f g : Place → Parser A} → ((l : Place) → Near b p q (pred d) (pred c) (f l) (g l)) → Eats d c (take_one >>= f) (take_one >>= g)
  eats_pred {d = d} {c = c} {f = f} {g = g} h = record { near = go d c h; takes = λ ts. takes_then ts (take_one ts) f (takes_one ts) (λ a us. (h a).within us) }
    where
      go : (d c : ℕ) → ((l : Place) → Near b p q (pred d) (pred c) (f l) (g l)) → Near b p q d c (take_one >>= f) (take_one >>= g)
      go zero c h = near_left b p q (λ ts. within_then ts (take_one ts) f ((near_one b p q {d = zero} {c = zero}).within ts) (λ l us. (h l).within us))
      go (suc d) zero h = near_right b p q (λ ts. within_then ts (take_one ts) f ((near_one b p q {d = zero} {c = zero}).within ts) (λ l us. (h l).within us))
      go (suc d) (suc c) h = near_take b p q h

  pub eats_none : {A : Type 0} {c : ℕ} {f g : Parser A} → ((ts : Tokens) → Within ts (f ts)) → ((ts : Tokens) → Takes ts (f ts)) → Eats zero c f g
  eats_none v t = record { near = near_left b p q v; takes = t }

  pub eats_if : {A : Type 0} {d c : ℕ} {test : Tokens → Bool} {f g x y : Parser A} → Looks test → Eats d c f g → Eats d c x y → Eats d c (λ ts. cond (test ts) (f ts) (x ts)) (λ ts. cond (test ts) (g ts) (y ts))
  eats_if {test = test} {f = f} {x = x} l s r = record { near = near_if b p q l s.near r.near; takes = λ ts. go ts (test ts) }
    where
      go : (ts : Tokens) (k : Bool) → Takes ts (cond k (f ts) (x ts))
      go ts true = s.takes ts
      go ts false = r.takes ts

  pub eats_by : {A K : Type 0} {d c : ℕ} {key : Tokens → K} {f g : K → Parser A} → Looks key → ((k : K) → Eats d c (f k) (g k)) → Eats d c (λ ts. f (key ts) ts) (λ ts. g (key ts) ts)
  eats_by {key = key} {f = f} {g = g} l h = record { near = near_by b p q {f = f} {g = g} l (λ k. (h k).near); takes = λ ts. (h (key ts)).takes ts }

  pub eats_close : {A : Type 0} {d c : ℕ} (m : Punct) (a : A) → Eats d c (expect m >>= λ _. pure a) (expect m >>= λ _. pure a)
  eats_close m a = eats_then (eats_expect m) (λ _. near_pure b p q a)

  -- ---- lists of items

  module _ {A : Type 0} (d c : ℕ) (f g : Parser A) (item : Eats d c f g) (begins : Tokens → Bool) (looks : Looks begins) where
    row_within : (n : ℕ) (found : List A) (ts : Tokens) → Within ts (row begins f n found ts)
    unfolding row
    row_within zero found ts = omega arith
    row_within (suc n) found ts = go (begins ts) (row_within n)
      where
        go : (t : Bool) → ((found : List A) (us : Tokens) → Within us (row begins f n found us)) → Within ts (cond t (and_then (f ts) (λ a. row begins f n (found ++ a ∷ []))) (Ok (found, ts)))
        go true ih = within_then ts (f ts) (λ a. row begins f n (found ++ a ∷ [])) (item.near.within ts) (λ a us. ih (found ++ a ∷ []) us)
        go false ih = omega arith

    row_near : (n m D E : ℕ) (found : List A) → D ≤ n → E ≤ m → D ≤ d → E ≤ c → Near b p q D E (row begins f n found) (row begins g m found)
    unfolding row
    row_near n m zero E found u v x y = near_left b p q (row_within n found)
    row_near n m (suc D) zero found u v x y = near_right b p q (row_within n found)
    row_near zero m (suc D) (suc E) found u v x y = absurd (omega arith)
    row_near (suc n) zero (suc D) (suc E) found u v x y = absurd (omega arith)
    row_near (suc n) (suc m) (suc D) (suc E) found u v x y =
        near_if b p q looks
        (near_taking b p q item.takes (near_less b p q (omega arith) (omega arith) item.near) (λ a. row_near n m D E (found ++ a ∷ []) (omega arith) (omega arith) (omega arith) (omega arith)))
        (near_pure b p q found)

    rest_near : (found : List A) → Near b p q d c (λ ts. row begins f (length ts) found ts) (λ ts. row begins g (length ts) found ts)
    rest_near found = near_length b p q {f = λ n. row begins f n found} {g = λ n. row begins g n found} (λ n m x y. row_near n m n m found (omega arith) (omega arith) x y) (λ ts. row_within (length ts) found ts)

    pub row_of_near : Near b p q d c (row_of begins f) (row_of begins g)
    row_of_near = rest_near []

    pub some_of_near : Near b p q d c (some_of begins f) (some_of begins g)
    some_of_near = near_then b p q item.near (λ a. rest_near (a ∷ []))

  module _ {A : Type 0} (d c : ℕ) (f g : Parser A) (item : Near b p q d c f g) where
    further_within : (n : ℕ) (found : List A) (ts : Tokens) → Within ts (further f n found ts)
    unfolding further
    further_within zero found ts = omega arith
    further_within (suc n) found ts = go (sees punct.Comma ts) (further_within n)
      where
        go : (t : Bool) → ((found : List A) (us : Tokens) → Within us (further f n found us)) → Within ts (cond t (and_then (take_one ts) (λ _. f >>= λ a. further f n (found ++ a ∷ []))) (Ok (found, ts)))
        go true ih =
            within_then ts (take_one ts) (λ _. f >>= λ a. further f n (found ++ a ∷ [])) ((near_one b p q {d = d} {c = c}).within ts)
            (λ l us. within_then us (f us) (λ a. further f n (found ++ a ∷ [])) (item.within us) (λ a vs. ih (found ++ a ∷ []) vs))
        go false ih = omega arith

    further_near : (n m D E : ℕ) (found : List A) → D ≤ n → E ≤ m → D ≤ d → E ≤ c → Near b p q D E (further f n found) (further g m found)
    unfolding further
    further_near n m zero E found u v x y = near_left b p q (further_within n found)
    further_near n m (suc D) zero found u v x y = near_right b p q (further_within n found)
    further_near zero m (suc D) (suc E) found u v x y = absurd (omega arith)
    further_near (suc n) zero (suc D) (suc E) found u v x y = absurd (omega arith)
    further_near (suc n) (suc m) (suc D) (suc E) found u v x y =
        near_if b p q (looks_sees punct.Comma)
        (near_take b p q (λ l. near_then b p q (near_less b p q (omega arith) (omega arith) item) (λ a. further_near n m D E (found ++ a ∷ []) (omega arith) (omega arith) (omega arith) (omega arith))))
        (near_pure b p q found)

    pub further_of_near : (a : A) → Near b p q d c (further_of f a) (further_of g a)
    further_of_near a =
        near_length b p q {f = λ n. further f n (a ∷ [])} {g = λ n. further g n (a ∷ [])} (λ n m x y. further_near n m n m (a ∷ []) (omega arith) (omega arith) x y) (λ ts. further_within (length ts) (a ∷ []) ts)

    pub commas_of_near : Near b p q d c (commas_of f) (commas_of g)
    commas_of_near = near_then b p q item further_of_near
