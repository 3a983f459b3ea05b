-- From what the reader of units answers to what is answered of tokens that are drawn.
use Rattle.std.proofs.Common.{◌≡◌, refl, sym, ap, subst, ◌∙◌, ℕ, ◌+◌, ◌<◌, ◌≤◌, ◌^◌, List, [], ◌∷◌, ◌++◌, length, Option, Some, None, Result, Ok, Err, inl, inr, ◌⊎◌, arith}
use Rattle.gsl_base.specs.Checked.{Checked}
use Rattle.gsl_base.specs.declared.fault.Place.{Place}
use Rattle.gsl_base.specs.declared.fault.Fault.{Fault}
use Rattle.gsl_base.specs.declared.fault.Code.TheVariants as code
use Rattle.gsl_base.specs.declared.fault.Refusal.{Refusal}
use Rattle.gsl_base.specs.declared.fault.Refusal.TheVariants as refusal
use Rattle.gsl_base.specs.declared.token.Token.{Token}
use Rattle.gsl_supply.specs.Coming.{Coming}
use Rattle.gsl_syntax.specs.declared.statement.Global.{Global}
use Rattle.gsl_syntax.specs.Declarations.{Row}
use Rattle.gsl_syntax.specs.Sentences.{IsGlobal, IsUnit}
use Rattle.gsl_expr.specs.InHand.{last_place, ahead_of, place_by, place_of_next}
use Rattle.gsl_expr.specs.Reading.{Tokens, Outcome, Ahead}
use Rattle.gsl_expr.proofs.Live.{Reaches, Opened}
use Rattle.gsl_expr.proofs.Taken.{Good, Taken}
use Rattle.gsl_parse.specs.Units.{globals}
use Rattle.gsl_parse.specs.Judged.{place_from, first_line, bad, judged, Judges, FirstBad, last_from}
use Rattle.gsl_parse.specs.Fed.{unless_fault, answer, fault_or, Refuses, Accepts, Over}
use Rattle.gsl_parse.proofs.CompleteUnits.{globals_complete}
use Rattle.gsl_parse.proofs.LiveUnits.{globals_live}
use Rattle.gsl_parse.proofs.OnePlace.{one_place}
use Rattle.gsl_parse.proofs.OneTree.{unit_is, unit_reads}
use Rattle.gsl_parse.proofs.Placed.{at_end, at_token, unit_front, begun, first_left_at}
use Rattle.gsl_parse.proofs.SoundUnits.{globals_sound}

-- ---- any depth that the tokens cannot exceed

bad_same : (ts : Tokens) (n m : ℕ) → FirstBad IsUnit ts (bad ts n).place → FirstBad IsUnit ts (bad ts m).place → (let r : Checked (List Global) = Err (bad ts n) in r ≡ Err (bad ts m))
bad_same ts n m x y = ap (λ (p : Place). Err (record { place = p; code = code.E0301 })) (one_place IsUnit ts _ _ x y)

module _ (d : ℕ) (ts : Tokens) (fits : length ts ≤ d) where
  faulty : (c : ℕ) → length ts ≤ c → (o : Outcome (List Global)) (n : ℕ) → globals c ts ≡ o → judged ts None o ≡ Err (bad ts n) → FirstBad IsUnit ts (bad ts n).place
  faulty c le o n e h = first_left_at c ts le (bad ts n) (ap (λ (o : Outcome (List Global)). judged ts None o) e ∙ h)

  same_by : (o r : Outcome (List Global)) → globals d ts ≡ o → globals (length ts) ts ≡ r → judged ts None o ≡ judged ts None r
  same_by (Ok (a, [])) r e f = ap (λ (o : Outcome (List Global)). judged ts None o) (sym (unit_reads ts a (unit_is d ts a e)) ∙ f)
  same_by o (Ok (a, [])) e f = ap (λ (o : Outcome (List Global)). judged ts None o) (sym e ∙ globals_complete (unit_is (length ts) ts a f) d fits)
  same_by (Ok (a, t ∷ more)) (Ok (b, u ∷ others)) e f =
      bad_same ts (length (t ∷ more)) (length (u ∷ others)) (faulty d fits (Ok (a, t ∷ more)) (length (t ∷ more)) e refl) (faulty (length ts) (omega arith) (Ok (b, u ∷ others)) (length (u ∷ others)) f refl)
  same_by (Ok (a, t ∷ more)) (Err us) e f = bad_same ts (length (t ∷ more)) (length us) (faulty d fits (Ok (a, t ∷ more)) (length (t ∷ more)) e refl) (faulty (length ts) (omega arith) (Err us) (length us) f refl)
  same_by (Err vs) (Ok (b, u ∷ others)) e f =
      bad_same ts (length vs) (length (u ∷ others)) (faulty d fits (Err vs) (length vs) e refl) (faulty (length ts) (omega arith) (Ok (b, u ∷ others)) (length (u ∷ others)) f refl)
  same_by (Err vs) (Err us) e f = bad_same ts (length vs) (length us) (faulty d fits (Err vs) (length vs) e refl) (faulty (length ts) (omega arith) (Err us) (length us) f refl)

  pub same_depth : judged ts None (globals d ts) ≡ judged ts None (globals (length ts) ts)
  same_depth = same_by (globals d ts) (globals (length ts) ts) refl refl

-- ---- the place by what is left

last_same : (p : Place) (ts : Tokens) → last_place p ts ≡ last_from p ts
unfolding last_place last_from
last_same p [] = refl
last_same p (t ∷ ts) = last_same t.place ts

placed : (ts pre rest : Tokens) (p : Place) → ts ≡ pre ++ rest → p ≡ last_place first_line ts → place_by p rest ≡ place_from first_line ts (length rest)
placed ts pre [] p s e = e ∙ last_same first_line ts ∙ sym (at_end first_line ts)
placed ts pre (b ∷ more) p s e = sym (ap (λ (z : Tokens). place_from first_line z (length (b ∷ more))) s ∙ at_token first_line pre b more)

-- where the reader stops is a last part of the tokens
stop_is : (d : ℕ) (ts us : Tokens) → globals d ts ≡ Err us → (pre : Tokens) × ts ≡ pre ++ us
stop_is d ts us e = go (subst (λ (o : Outcome (List Global)). Opened unit_front ts o) e ((globals_live d unit_front begun).opened ts))
  where
    go : Reaches unit_front ts us → (pre : Tokens) × ts ≡ pre ++ us
    go r = (r.pre, r.splits)

rest_is : (d : ℕ) (ts us : Tokens) (a : List Global) → globals d ts ≡ Ok (a, us) → (pre : Tokens) × ts ≡ pre ++ us
rest_is d ts us a e = go (subst (λ (o : Outcome (List Global)). Good (Row IsGlobal) ts o) e (globals_sound d ts))
  where
    go : Taken (Row IsGlobal a) ts us → (pre : Tokens) × ts ≡ pre ++ us
    go r = (r.xs, r.splits)

-- ---- what is answered

abbrev pub most : ℕ
most = 18446744073709551615

module _ (c : Coming) (new : Ahead) (k : new.kept ≡ (ahead_of c.tokens first_line 0 c).kept) where
  answer_is : length c.tokens ≤ most → answer c ≡ unless_fault c.fault (judged c.tokens None (globals most c.tokens))
  unfolding answer
  answer_is fits = ap (λ (r : Checked (List Global)). unless_fault c.fault r) (sym (same_depth most c.tokens fits))

  fits : new.kept.total < 2 ^ 64 → length c.tokens ≤ most
  fits less = omega (arith, less, ap (λ x. x.total) k)

  refused_by : (x : Option Fault) (f : Fault) (o : Checked (List Global)) → o ≡ Err (fault_or None (place_of_next new)) → f ≡ fault_or x (place_of_next new) → unless_fault x o ≡ Err f
  refused_by (Some fault) f o h is = ap (λ (f : Fault). Err f) (sym is)
  refused_by None f o h is = h ∙ ap (λ (f : Fault). Err f) (sym is)

  refuses_at : (r : Refusal) (pre : Tokens) → c.tokens ≡ pre ++ new.left → judged c.tokens None (globals most c.tokens) ≡ Err (bad c.tokens (length new.left)) → Refuses r new → Judges (let x : Result (List Global) Refusal = Err r in x) (answer c)
  refuses_at (refusal.Source f) pre s h r =
      let here : place_of_next new ≡ place_from first_line c.tokens (length new.left) = placed c.tokens pre new.left new.kept.ends s (ap (λ x. x.ends) k) in
      answer_is (fits r.0)
      ∙ refused_by c.fault f (judged c.tokens None (globals most c.tokens)) (h ∙ ap (λ (p : Place). Err (record { place = p; code = code.E0301 })) (sym here))
      (r.1 ∙ ap (λ x. fault_or x (place_of_next new)) (ap (λ x. x.fault) k))
  refuses_at refusal.Memory pre s h r = tt

  pub refuses : (r : Refusal) → globals most c.tokens ≡ Err new.left → Refuses r new → Judges (let x : Result (List Global) Refusal = Err r in x) (answer c)
  refuses r e h = let s = stop_is most c.tokens new.left e in refuses_at r s.0 s.1 (ap (λ (o : Outcome (List Global)). judged c.tokens None o) e) h

  refuses_more : (r : Refusal) (tree : List Global) (t : Token) (more : Tokens) → new.left ≡ t ∷ more → globals most c.tokens ≡ Ok (tree, new.left) → Refuses r new → Judges (let x : Result (List Global) Refusal = Err r in x) (answer c)
  refuses_more r tree t more i e h =
      let s = rest_is most c.tokens new.left tree e in
      refuses_at r s.0 s.1
      (ap (λ (o : Outcome (List Global)). judged c.tokens None o) (e ∙ ap (λ (z : Tokens). Ok (tree, z)) i) ∙ ap (λ (z : Tokens). Err (bad c.tokens (length z))) (sym i)) h

  taken_by : (x : Option Fault) (tree found : List Global) (o : Checked (List Global)) → o ≡ Ok tree → x ≡ None → found ≡ tree → unless_fault x o ≡ Ok found
  taken_by (Some fault) tree found o h none is = absurd cc
  taken_by None tree found o h none is = h ∙ ap (λ (z : List Global). Ok z) (sym is)

  faulted_by : (x : Option Fault) (f : Fault) (o : Checked (List Global)) → x ≡ Some f → unless_fault x o ≡ Err f
  faulted_by x f o e = ap (λ x. unless_fault x o) e

  whole_is : (tree : List Global) → new.left ≡ [] → globals most c.tokens ≡ Ok (tree, new.left) → judged c.tokens None (globals most c.tokens) ≡ Ok tree
  whole_is tree i e = ap (λ (o : Outcome (List Global)). judged c.tokens None o) (e ∙ ap (λ (z : Tokens). Ok (tree, z)) i)

  accepts_fault : (r : Refusal) (tree : List Global) → Accepts (Err r) tree new → Judges (let x : Result (List Global) Refusal = Err r in x) (answer c)
  unfolding answer
  accepts_fault (refusal.Source f) tree h = faulted_by c.fault f (judged c.tokens None (globals (length c.tokens) c.tokens)) (sym (ap (λ x. x.fault) k) ∙ h)
  accepts_fault refusal.Memory tree h = tt

  pub overs : (r : Result (List Global) Refusal) (tree : List Global) → globals most c.tokens ≡ Ok (tree, new.left) → Over r tree new → Judges r (answer c)
  overs (Ok found) tree e h =
      answer_is (fits h.1.0) ∙ taken_by c.fault tree found (judged c.tokens None (globals most c.tokens)) (whole_is tree h.0 e) (sym (ap (λ x. x.fault) k) ∙ h.1.1) h.1.2
  overs (Err r) tree e (inl h) = accepts_fault r tree h.1
  overs (Err r) tree e (inr h) = refuses_more r tree h.0 h.1 h.2 e h.3
