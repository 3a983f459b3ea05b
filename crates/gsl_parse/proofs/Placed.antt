-- From what the reader of units does to the place of the first bad token.
use Rattle.std.proofs.Common.{◌≤◌, ◌≡◌, refl, sym, ap, subst, ◌∙◌, append_assoc, length-append, ℕ, suc, Bool, true, false, cond, List, [], ◌∷◌, ◌++◌, length, None, Ok, Err, arith}
use Rattle.std.specs.Prelude.{nat_eq}
use Rattle.std.proofs.lemmas.List.{append-nil}
use Rattle.std.proofs.lemmas.Bool.{eqb-true, eqb-false}
use Rattle.std.proofs.Math.Dec.{eqb-suc-zero}
use Rattle.gsl_base.specs.declared.fault.Place.{Place}
use Rattle.gsl_base.specs.declared.fault.Fault.{Fault}
use Rattle.gsl_base.specs.declared.token.Token.{Token}
use Rattle.gsl_syntax.specs.declared.statement.Global.{Global}
use Rattle.gsl_syntax.specs.Declarations.{Row}
use Rattle.gsl_syntax.specs.Sentences.{IsGlobal, IsUnit}
use Rattle.gsl_expr.specs.Reading.{Tokens, Outcome}
use Rattle.gsl_expr.proofs.Taken.{Good}
use Rattle.gsl_parse.specs.Units.{globals}
use Rattle.gsl_parse.specs.Judged.{place_from, first_line, judged, Begins, last_from, FirstBad}
use Rattle.gsl_parse.proofs.SoundUnits.{globals_sound}
use Rattle.gsl_parse.proofs.CompleteUnits.{globals_complete}
use Rattle.gsl_expr.proofs.Live.{Front, Opened}
use Rattle.gsl_parse.proofs.LiveUnits.{globals_live}
use Rattle.gsl_expr.proofs.Near.{Twin, Same}
use Rattle.gsl_parse.proofs.NearUnits.{globals_near}

-- ---- the place by how many are left

pub at_end : (last : Place) (ts : Tokens) → place_from last ts 0 ≡ last_from last ts
unfolding place_from last_from
at_end last [] = refl
at_end last (t ∷ ts) = ap (λ (c : Bool). cond c t.place (place_from t.place ts 0)) (eqb-suc-zero (length ts)) ∙ at_end t.place ts

same_length : (n : ℕ) → nat_eq n n ≡ true
same_length n = go (nat_eq n n) refl
  where
    go : (c : Bool) → nat_eq n n ≡ c → nat_eq n n ≡ true
    go true h = h
    go false h = absurd (eqb-false n n h refl)

longer : (xs : Tokens) (b : Token) (p : Tokens) → nat_eq (suc (length (xs ++ b ∷ p))) (length (b ∷ p)) ≡ false
longer xs b p = go (nat_eq (suc (length (xs ++ b ∷ p))) (length (b ∷ p))) refl
  where
    go : (c : Bool) → nat_eq (suc (length (xs ++ b ∷ p))) (length (b ∷ p)) ≡ c → nat_eq (suc (length (xs ++ b ∷ p))) (length (b ∷ p)) ≡ false
    go true h = let same : suc (length (xs ++ b ∷ p)) ≡ length (b ∷ p) = eqb-true _ _ h in absurd (omega (arith, length-append xs (b ∷ p)))
    go false h = h

pub at_token : (last : Place) (pre : Tokens) (b : Token) (p : Tokens) → place_from last (pre ++ b ∷ p) (length (b ∷ p)) ≡ b.place
unfolding place_from
at_token last [] b p = ap (λ (c : Bool). cond c b.place (place_from b.place p (length (b ∷ p)))) (same_length (length (b ∷ p)))
at_token last (x ∷ xs) b p = ap (λ (c : Bool). cond c x.place (place_from x.place (xs ++ b ∷ p) (length (b ∷ p)))) (longer xs b p) ∙ at_token x.place xs b p

-- ---- what begins a unit

abbrev pub unit_front : Front
unit_front = record { holds = λ xs. Begins IsUnit xs; closed = λ xs ys h. (ys ++ h.0, h.1, subst (λ (z : Tokens). IsUnit h.1 z) (append_assoc xs ys h.0) h.2) }

pub begun : (a : List Global) (xs : Tokens) → IsUnit a xs → Begins IsUnit xs
begun a xs w = ([], a, subst (λ (z : Tokens). IsUnit a z) (sym (append-nil xs)) w)

-- ---- No unit goes on with a token that is behind where the reader stops.

no_empty : (b : Token) (p q ts : Tokens) → Twin b p q ts [] → ⊥
no_empty b p q ts w = absurd (omega (arith, ap length w.right, length-append w.pre (b ∷ q)))

abbrev left_is : {A : Type 0} → Outcome A → Tokens
left_is (Ok x) = x.1
left_is (Err n) = []

-- by a reader that nests as deeply as there are tokens, at least
breaks : (d : ℕ) (pre : Tokens) (b : Token) (p : Tokens) (o : Outcome (List Global)) → length (pre ++ b ∷ p) ≤ d → globals d (pre ++ b ∷ p) ≡ o
    → ((q : Tokens) (a : List Global) → Same b p q o (Ok (a, [])) → ⊥) → Begins IsUnit (pre ++ b ∷ []) → ⊥
breaks d pre b p o fits e far g =
    let q : Tokens = g.0 in
    let us : Tokens = pre ++ b ∷ q in
    let whole : globals (length us) us ≡ Ok (g.1, []) = globals_complete (subst (λ (z : Tokens). IsUnit g.1 z) (append_assoc pre (b ∷ []) q) g.2) (length us) (omega arith) in
    let same : Same b p q (globals d (pre ++ b ∷ p)) (globals (length us) us) =
    (globals_near b p q d (length us)).same (pre ++ b ∷ p) us fits (omega arith) (record { pre = pre; left = refl; right = refl }) in
    far q g.1 (subst (λ (r : Outcome (List Global)). Same b p q o r) whole (subst (λ (r : Outcome (List Global)). Same b p q r (globals (length us) us)) e same))

by_fault : (b : Token) (p bad : Tokens) → bad ≡ b ∷ p → (q : Tokens) (a : List Global) → (let o : Outcome (List Global) = Err bad in Same b p q o (Ok (a, []))) → ⊥
by_fault b p bad is q a s = let t = s (omega (arith, ap length is)) in let e = t.1 in absurd cc

by_rest : (b : Token) (p : Tokens) (c : List Global) (q : Tokens) (a : List Global) → Same b p q (Ok (c, b ∷ p)) (Ok (a, [])) → ⊥
by_rest b p c q a s =
    let t = s (omega arith) in
    let none : [] ≡ t.0 = ap left_is t.1 in
    no_empty b p q (b ∷ p) (subst (λ (z : Tokens). Twin b p q (b ∷ p) z) (sym none) t.2)

-- ---- all together

module _ (d : ℕ) (ts : Tokens) (fits : length ts ≤ d) where
  split_at : (pre bad : Tokens) → ts ≡ pre ++ bad → Begins IsUnit pre → ((b : Token) (p : Tokens) → bad ≡ b ∷ p → Begins IsUnit (pre ++ b ∷ []) → ⊥) → FirstBad IsUnit ts (place_from first_line ts (length bad))
  split_at pre [] s begins broken =
      let all : pre ≡ ts = sym (append-nil pre) ∙ sym s in
      subst (λ (z : Place). FirstBad IsUnit ts z) (sym (at_end first_line ts)) (FirstBad.too_soon (subst (λ (z : Tokens). Begins IsUnit z) all begins))
  split_at pre (b ∷ p) s begins broken =
      let is : place_from first_line ts (length (b ∷ p)) ≡ b.place = ap (λ (z : Tokens). place_from first_line z (length (b ∷ p))) s ∙ at_token first_line pre b p in
      subst (λ (z : Place). FirstBad IsUnit ts z) (sym is) (FirstBad.bad_token pre b p s begins (broken b p refl))

  again : (pre bad : Tokens) (b : Token) (p : Tokens) (o : Outcome (List Global)) → ts ≡ pre ++ bad → bad ≡ b ∷ p → globals d ts ≡ o → globals d (pre ++ b ∷ p) ≡ o
  again pre bad b p o s i e = ap (λ (z : Tokens). globals d z) (sym (s ∙ ap (λ (z : Tokens). pre ++ z) i)) ∙ e

  fits_still : (pre bad : Tokens) (b : Token) (p : Tokens) → ts ≡ pre ++ bad → bad ≡ b ∷ p → length (pre ++ b ∷ p) ≤ d
  fits_still pre bad b p s i = omega (arith, fits, ap length (s ∙ ap (λ (z : Tokens). pre ++ z) i))

  at_left : (o : Outcome (List Global)) → globals d ts ≡ o → Good (Row IsGlobal) ts o → Opened unit_front ts o → (fault : Fault) → judged ts None o ≡ Err fault → FirstBad IsUnit ts fault.place
  at_left (Ok (a, [])) e good live fault h = absurd cc
  at_left (Ok (a, t ∷ more)) e good live fault h =
      let place : place_from first_line ts (length (t ∷ more)) ≡ fault.place = cc in
      subst (λ (z : Place). FirstBad IsUnit ts z) place
      (split_at good.xs (t ∷ more) good.splits (begun a good.xs good.stands)
      (λ b p i. breaks d good.xs b p (Ok (a, b ∷ p)) (fits_still good.xs (t ∷ more) b p good.splits i) (again good.xs (t ∷ more) b p (Ok (a, t ∷ more)) good.splits i e ∙ ap (λ (z : Tokens). Ok (a, z)) i) (by_rest b p a)))
  at_left (Err bad) e good live fault h =
      let place : place_from first_line ts (length bad) ≡ fault.place = cc in
      subst (λ (z : Place). FirstBad IsUnit ts z) place
      (split_at live.pre bad live.splits live.holds
      (λ b p i. breaks d live.pre b p (Err bad) (fits_still live.pre bad b p live.splits i) (again live.pre bad b p (Err bad) live.splits i e) (by_fault b p bad i)))

-- what the reader stops at is the first bad token
pub first_left_at : (d : ℕ) (ts : Tokens) → length ts ≤ d → (fault : Fault) → judged ts None (globals d ts) ≡ Err fault → FirstBad IsUnit ts fault.place
first_left_at d ts fits fault h = at_left d ts fits (globals d ts) refl (globals_sound d ts) ((globals_live d unit_front begun).opened ts) fault h

pub first_left : (ts : Tokens) (fault : Fault) → judged ts None (globals (length ts) ts) ≡ Err fault → FirstBad IsUnit ts fault.place
first_left ts fault h = first_left_at (length ts) ts (omega arith) fault h
