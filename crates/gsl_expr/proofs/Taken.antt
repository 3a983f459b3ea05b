-- What an outcome says of the tokens that were taken, and how that composes from reader to reader.
use Rattle.std.proofs.Common.{◌≡◌, Bool, true, false, cond, [], ◌∷◌, ◌++◌, length, Result, Ok, Err, refl, sym, ap, subst, ◌∙◌, append_assoc, rules}
use denote.Enum.Bare.{same_true}
use Rattle.gsl_base.specs.declared.fault.Place.{Place}
use Rattle.gsl_base.specs.declared.token.Punct.{Punct}
use Rattle.gsl_base.specs.contracts.token.Punct.{the_type as punct_type}
use Rattle.gsl_base.specs.declared.token.Key.{Key}
use Rattle.gsl_base.specs.contracts.token.Key.{the_type as key_type}
use Rattle.gsl_base.specs.declared.token.Kind.{Kind}
use Rattle.gsl_base.specs.declared.token.Kind.TheVariants as kind
use Rattle.gsl_base.specs.declared.token.Token.{Token}
use Rattle.gsl_syntax.specs.Phrases.{token, sign, word}
use Rattle.gsl_syntax.specs.declared.declaration.Name.{Name}
use Rattle.gsl_expr.specs.Reading.{Tokens, Outcome, Parser, and_then, take_one, is_punct, is_key, sees, sees_key, expect, name_by, name}

-- the tokens up to rest stand for something
pub record Taken (P : Tokens → Type 0) (ts rest : Tokens) : Type 0 where
  pub xs : Tokens
  pub splits : ts ≡ xs ++ rest
  pub stands : P xs

-- whatever was read stands for the tokens that were taken
abbrev pub Good : {A : Type 0} → (A → Tokens → Type 0) → Tokens → Outcome A → Type 0
Good C ts (Ok p) = Taken (C p.0) ts p.1
Good C ts (Err n) = Unit {0}

-- the same of a predicate that also speaks of the tokens that are left
abbrev pub GoodTo : {A : Type 0} → (A → Tokens → Tokens → Type 0) → Tokens → Outcome A → Type 0
GoodTo C ts (Ok p) = Taken (λ xs. C p.0 xs p.1) ts p.1
GoodTo C ts (Err n) = Unit {0}

pub ok_is : {A E : Type 0} (u v : A) → (let r : Result A E = Ok u in r ≡ Ok v) → u ≡ v
ok_is u v h = cc

-- ---- of predicates that speak of what is left

pub to_ok : {A : Type 0} (C : A → Tokens → Tokens → Type 0) (ts : Tokens) (a : A) → C a [] ts → GoodTo C ts (Ok (a, ts))
to_ok C ts a c = record { xs = []; splits = refl; stands = c }

pub to_weaken : {A : Type 0} (C D : A → Tokens → Tokens → Type 0) (ts : Tokens) (r : Outcome A) → GoodTo C ts r
    → ((a : A) (xs rest : Tokens) → ts ≡ xs ++ rest → C a xs rest → D a xs rest) → GoodTo D ts r
to_weaken C D ts (Ok p) g f = record { xs = g.xs; splits = g.splits; stands = f p.0 g.xs p.1 g.splits g.stands }
to_weaken C D ts (Err n) g f = tt

pub to_map : {A B : Type 0} (C : A → Tokens → Tokens → Type 0) (D : B → Tokens → Tokens → Type 0) (f : A → B) (ts : Tokens) (r : Outcome A) → GoodTo C ts r
    → ((a : A) (xs rest : Tokens) → C a xs rest → D (f a) xs rest) → GoodTo D ts (and_then r (λ a rest. Ok (f a, rest)))
to_map C D f ts (Ok p) g k = record { xs = g.xs; splits = g.splits; stands = k p.0 g.xs p.1 g.stands }
to_map C D f ts (Err n) g k = tt

-- more tokens in front
pub to_front : {A : Type 0} (D : A → Tokens → Tokens → Type 0) (ts xs rest : Tokens) (r : Outcome A) → ts ≡ xs ++ rest
    → GoodTo (λ a ys after. D a (xs ++ ys) after) rest r → GoodTo D ts r
to_front D ts xs rest (Ok p) e g = record { xs = xs ++ g.xs; splits = e ∙ ap (λ (z : Tokens). xs ++ z) g.splits ∙ sym (append_assoc xs g.xs p.1); stands = g.stands }
to_front D ts xs rest (Err n) e g = tt

-- one reader behind another
pub to_then : {A B : Type 0} (C : A → Tokens → Tokens → Type 0) (D : B → Tokens → Tokens → Type 0) (ts : Tokens) (r : Outcome A) (f : A → Parser B) → GoodTo C ts r
    → ((a : A) (xs rest : Tokens) → ts ≡ xs ++ rest → C a xs rest → GoodTo (λ b ys after. D b (xs ++ ys) after) rest (f a rest)) → GoodTo D ts (and_then r f)
to_then C D ts (Ok p) f g next = to_front D ts g.xs p.1 (f p.0 p.1) g.splits (next p.0 g.xs p.1 g.splits g.stands)
to_then C D ts (Err n) f g next = tt

-- ---- of predicates on what was taken alone

pub good_ok : {A : Type 0} (C : A → Tokens → Type 0) (ts : Tokens) (a : A) → C a [] → Good C ts (Ok (a, ts))
good_ok C ts a c = record { xs = []; splits = refl; stands = c }

pub good_weaken : {A : Type 0} (C D : A → Tokens → Type 0) (ts : Tokens) (r : Outcome A) → Good C ts r → ((a : A) (xs : Tokens) → C a xs → D a xs) → Good D ts r
good_weaken C D ts (Ok p) g f = record { xs = g.xs; splits = g.splits; stands = f p.0 g.xs g.stands }
good_weaken C D ts (Err n) g f = tt

-- What is left may be forgotten.
pub good_of : {A : Type 0} (C : A → Tokens → Tokens → Type 0) (D : A → Tokens → Type 0) (ts : Tokens) (r : Outcome A) → GoodTo C ts r
    → ((a : A) (xs rest : Tokens) → C a xs rest → D a xs) → Good D ts r
good_of C D ts (Ok p) g f = record { xs = g.xs; splits = g.splits; stands = f p.0 g.xs p.1 g.stands }
good_of C D ts (Err n) g f = tt

-- Where what is left does not matter, it may be anything.
pub to_of : {A : Type 0} (C : A → Tokens → Type 0) (D : A → Tokens → Tokens → Type 0) (ts : Tokens) (r : Outcome A) → Good C ts r
    → ((a : A) (xs rest : Tokens) → C a xs → D a xs rest) → GoodTo D ts r
to_of C D ts (Ok p) g f = record { xs = g.xs; splits = g.splits; stands = f p.0 g.xs p.1 g.stands }
to_of C D ts (Err n) g f = tt

pub good_map : {A B : Type 0} (C : A → Tokens → Type 0) (D : B → Tokens → Type 0) (f : A → B) (ts : Tokens) (r : Outcome A) → Good C ts r
    → ((a : A) (xs : Tokens) → C a xs → D (f a) xs) → Good D ts (and_then r (λ a rest. Ok (f a, rest)))
good_map C D f ts (Ok p) g k = record { xs = g.xs; splits = g.splits; stands = k p.0 g.xs g.stands }
good_map C D f ts (Err n) g k = tt

pub good_front : {A : Type 0} (D : A → Tokens → Type 0) (ts xs rest : Tokens) (r : Outcome A) → ts ≡ xs ++ rest → Good (λ a ys. D a (xs ++ ys)) rest r → Good D ts r
good_front D ts xs rest (Ok p) e g = record { xs = xs ++ g.xs; splits = e ∙ ap (λ (z : Tokens). xs ++ z) g.splits ∙ sym (append_assoc xs g.xs p.1); stands = g.stands }
good_front D ts xs rest (Err n) e g = tt

pub good_then : {A B : Type 0} (C : A → Tokens → Type 0) (D : B → Tokens → Type 0) (ts : Tokens) (r : Outcome A) (f : A → Parser B) → Good C ts r
    → ((a : A) (xs rest : Tokens) → ts ≡ xs ++ rest → C a xs → Good (λ b ys. D b (xs ++ ys)) rest (f a rest)) → Good D ts (and_then r f)
good_then C D ts (Ok p) f g next = good_front D ts g.xs p.1 (f p.0 p.1) g.splits (next p.0 g.xs p.1 g.splits g.stands)
good_then C D ts (Err n) f g next = tt

-- ---- single tokens

pub punct_is : (m : Punct) (k : Kind) → is_punct m k ≡ true → k ≡ kind.Punct m
punct_is m (kind.Punct n) h = ap kind.Punct (same_true punct_type (search rules) n m h)
punct_is m (kind.Name n) h = absurd cc
punct_is m (kind.Key w) h = absurd cc
punct_is m (kind.Signed n) h = absurd cc
punct_is m (kind.Unsigned n) h = absurd cc

pub key_is : (w : Key) (k : Kind) → is_key w k ≡ true → k ≡ kind.Key w
key_is w (kind.Key v) h = ap kind.Key (same_true key_type (search rules) v w h)
key_is w (kind.Name n) h = absurd cc
key_is w (kind.Signed n) h = absurd cc
key_is w (kind.Unsigned n) h = absurd cc
key_is w (kind.Punct m) h = absurd cc

-- A kind with what another has not is not that one.
pub other_kind : (f : Kind → Bool) (j k : Kind) (c : Bool) → (c ≡ true → k ≡ j) → f j ≡ false → f k ≡ true → c ≡ false
other_kind f j k false is lacks has = refl
other_kind f j k true is lacks has = let clash : true ≡ false = sym has ∙ ap f (is refl) ∙ lacks in absurd cc

-- The next token is this one.
pub record Starts (x : Place → Token) (ts : Tokens) : Type 0 where
  pub place : Place
  pub rest : Tokens
  pub is : ts ≡ x place ∷ rest

pub sees_is : (m : Punct) (ts : Tokens) → sees m ts ≡ true → Starts (λ p. sign p m) ts
unfolding sees
sees_is m [] h = absurd cc
sees_is m (t ∷ ts) h = record { place = t.place; rest = ts; is = ap (λ (k : Kind). token t.place k ∷ ts) (punct_is m t.kind h) }

pub sees_key_is : (w : Key) (ts : Tokens) → sees_key w ts ≡ true → Starts (λ p. word p w) ts
unfolding sees_key
sees_key_is w [] h = absurd cc
sees_key_is w (t ∷ ts) h = record { place = t.place; rest = ts; is = ap (λ (k : Kind). token t.place k ∷ ts) (key_is w t.kind h) }

pub expect_good : (m : Punct) (ts : Tokens) → Good (λ p xs. xs ≡ sign p m ∷ []) ts (expect m ts)
unfolding expect sees
expect_good m [] = tt
expect_good m (t ∷ ts) = go (is_punct m t.kind) refl
  where
    go : (b : Bool) → is_punct m t.kind ≡ b → Good (λ p xs. xs ≡ sign p m ∷ []) (t ∷ ts) (cond b (take_one (t ∷ ts)) (Err (t ∷ ts)))
    go true h = record { xs = t ∷ []; splits = refl; stands = ap (λ (k : Kind). token t.place k ∷ []) (punct_is m t.kind h) }
    go false h = tt

pub name_good : (ts : Tokens) → Good (λ n xs. xs ≡ token n.place (kind.Name n.text) ∷ []) ts (name ts)
unfolding name
name_good [] = tt
name_good (t ∷ ts) = go t.kind refl
  where
    go : (k : Kind) → t.kind ≡ k → Good (λ n xs. xs ≡ token n.place (kind.Name n.text) ∷ []) (t ∷ ts) (name_by t ts k)
    go (kind.Name n) h = record { xs = t ∷ []; splits = refl; stands = ap (λ (k : Kind). token t.place k ∷ []) h }
    go (kind.Key w) h = tt
    go (kind.Signed n) h = tt
    go (kind.Unsigned n) h = tt
    go (kind.Punct m) h = tt

-- ---- a single token, and a reader behind it

pub to_expect : {B : Type 0} (D : B → Tokens → Tokens → Type 0) (m : Punct) (ts : Tokens) (f : Place → Parser B)
    → ((p : Place) (rest : Tokens) → ts ≡ sign p m ∷ rest → GoodTo (λ b ys after. D b (sign p m ∷ ys) after) rest (f p rest)) → GoodTo D ts (and_then (expect m ts) f)
to_expect D m ts f next = go (expect m ts) (expect_good m ts)
  where
    go : (r : Outcome Place) → Good (λ p xs. xs ≡ sign p m ∷ []) ts r → GoodTo D ts (and_then r f)
    go (Ok q) g =
        let e : ts ≡ sign q.0 m ∷ q.1 = g.splits ∙ ap (λ (z : Tokens). z ++ q.1) g.stands in
        to_front D ts (sign q.0 m ∷ []) q.1 (f q.0 q.1) e (next q.0 q.1 e)
    go (Err n) g = tt

pub to_name : {B : Type 0} (D : B → Tokens → Tokens → Type 0) (ts : Tokens) (f : Name → Parser B)
    → ((n : Name) (rest : Tokens) → ts ≡ token n.place (kind.Name n.text) ∷ rest → GoodTo (λ b ys after. D b (token n.place (kind.Name n.text) ∷ ys) after) rest (f n rest)) → GoodTo D ts (and_then (name ts) f)
to_name D ts f next = go (name ts) (name_good ts)
  where
    go : (r : Outcome Name) → Good (λ n xs. xs ≡ token n.place (kind.Name n.text) ∷ []) ts r → GoodTo D ts (and_then r f)
    go (Ok q) g =
        let e : ts ≡ token q.0.place (kind.Name q.0.text) ∷ q.1 = g.splits ∙ ap (λ (z : Tokens). z ++ q.1) g.stands in
        to_front D ts (token q.0.place (kind.Name q.0.text) ∷ []) q.1 (f q.0 q.1) e (next q.0 q.1 e)
    go (Err n) g = tt

-- a token that was seen
pub to_sign : {B : Type 0} (D : B → Tokens → Tokens → Type 0) (m : Punct) (ts : Tokens) (f : Place → Parser B) → sees m ts ≡ true
    → ((p : Place) (rest : Tokens) → ts ≡ sign p m ∷ rest → GoodTo (λ b ys after. D b (sign p m ∷ ys) after) rest (f p rest)) → GoodTo D ts (and_then (take_one ts) f)
to_sign D m ts f h next = go (sees_is m ts h)
  where
    go : Starts (λ p. sign p m) ts → GoodTo D ts (and_then (take_one ts) f)
    go s = subst (λ (us : Tokens). GoodTo D us (and_then (take_one us) f)) (sym s.is)
        (to_front D (sign s.place m ∷ s.rest) (sign s.place m ∷ []) s.rest (f s.place s.rest) refl (next s.place s.rest s.is))

pub to_word : {B : Type 0} (D : B → Tokens → Tokens → Type 0) (w : Key) (ts : Tokens) (f : Place → Parser B) → sees_key w ts ≡ true
    → ((p : Place) (rest : Tokens) → ts ≡ word p w ∷ rest → GoodTo (λ b ys after. D b (word p w ∷ ys) after) rest (f p rest)) → GoodTo D ts (and_then (take_one ts) f)
to_word D w ts f h next = go (sees_key_is w ts h)
  where
    go : Starts (λ p. word p w) ts → GoodTo D ts (and_then (take_one ts) f)
    go s = subst (λ (us : Tokens). GoodTo D us (and_then (take_one us) f)) (sym s.is)
        (to_front D (word s.place w ∷ s.rest) (word s.place w ∷ []) s.rest (f s.place s.rest) refl (next s.place s.rest s.is))

pub good_expect : {B : Type 0} (D : B → Tokens → Type 0) (m : Punct) (ts : Tokens) (f : Place → Parser B)
    → ((p : Place) (rest : Tokens) → ts ≡ sign p m ∷ rest → Good (λ b ys. D b (sign p m ∷ ys)) rest (f p rest)) → Good D ts (and_then (expect m ts) f)
good_expect D = to_expect (λ b ys after. D b ys)

pub good_name : {B : Type 0} (D : B → Tokens → Type 0) (ts : Tokens) (f : Name → Parser B)
    → ((n : Name) (rest : Tokens) → ts ≡ token n.place (kind.Name n.text) ∷ rest → Good (λ b ys. D b (token n.place (kind.Name n.text) ∷ ys)) rest (f n rest)) → Good D ts (and_then (name ts) f)
good_name D = to_name (λ b ys after. D b ys)

pub good_sign : {B : Type 0} (D : B → Tokens → Type 0) (m : Punct) (ts : Tokens) (f : Place → Parser B) → sees m ts ≡ true
    → ((p : Place) (rest : Tokens) → ts ≡ sign p m ∷ rest → Good (λ b ys. D b (sign p m ∷ ys)) rest (f p rest)) → Good D ts (and_then (take_one ts) f)
good_sign D = to_sign (λ b ys after. D b ys)

pub good_word : {B : Type 0} (D : B → Tokens → Type 0) (w : Key) (ts : Tokens) (f : Place → Parser B) → sees_key w ts ≡ true
    → ((p : Place) (rest : Tokens) → ts ≡ word p w ∷ rest → Good (λ b ys. D b (word p w ∷ ys)) rest (f p rest)) → Good D ts (and_then (take_one ts) f)
good_word D = to_word (λ b ys after. D b ys)

-- what this punctuator ends
pub good_close : {B : Type 0} (D : B → Tokens → Type 0) (m : Punct) (b : B) (ts : Tokens) → ((p : Place) → D b (sign p m ∷ [])) → Good D ts (and_then (expect m ts) (λ _ rest. Ok (b, rest)))
good_close D m b ts d = good_expect D m ts (λ _ rest. Ok (b, rest)) (λ p rest e. good_ok (λ c ys. D c (sign p m ∷ ys)) rest b (d p))
