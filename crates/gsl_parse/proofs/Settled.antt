-- From what is read and what is derived to what is answered.
use Rattle.std.proofs.Common.{◌≡◌, refl, sym, ap, subst, ℕ, suc, [], ◌∷◌, length, Option, Some, None, Result, Ok, Err, inl, inr, arith}
use Rattle.std.specs.Option.{option_map}
use Rattle.gsl_base.specs.declared.fault.Fault.{Fault}
use Rattle.gsl_base.specs.declared.fault.Code.TheVariants as code
use Rattle.gsl_base.specs.declared.fault.Refusal.{Refusal}
use Rattle.gsl_base.specs.declared.fault.Refusal.TheVariants as refusal
use Rattle.gsl_base.specs.declared.token.Token.{Token}
use Rattle.gsl_syntax.specs.Nesting.{first_deep}
use Rattle.gsl_expr.specs.Reading.{Tokens, Outcome}
use Rattle.gsl_expr.proofs.Taken.{ok_is}
use Rattle.gsl_parse.specs.Judged.{place_of, bad, judged, Judges, FirstBad, NoSentence, Parsed, Only}

fault_is : {A : Type 0} (f g : Fault) → (let r : Result A Fault = Err f in r ≡ Err g) → g ≡ f
fault_is f g e = cc

abbrev left_of : {A : Type 0} → Outcome A → ℕ
left_of (Ok p) = length p.1
left_of (Err n) = 0

not_all : {A : Type 0} (a b : A) (t : Token) (more : Tokens) → (let o : Outcome A = Ok (a, t ∷ more) in o ≡ Ok (b, [])) → ⊥
not_all a b t more e = let clash : suc (length more) ≡ 0 = ap left_of e in absurd (omega arith)

module _ {A : Type 0} (Stands : A → Tokens → Type 0) (ts : Tokens) where
  abbrev Reads : Outcome A → Type 0
  Reads o = ((a : A) → o ≡ Ok (a, []) → Stands a ts) × ((a : A) → Stands a ts → o ≡ Ok (a, []))

  -- a fault tells the first bad token
  abbrev Tells : Outcome A → Type 0
  Tells o = (f : Fault) → judged ts None o ≡ Err f → FirstBad Stands ts f.place

  refused : (n : ℕ) (f : Fault) → first_deep ts ≡ None → ((a : A) → Stands a ts → ⊥) → FirstBad Stands ts (bad ts n).place → f ≡ bad ts n → NoSentence Stands ts f
  refused n f h none first is = record { shallow = h; nothing = none; code_is = ap (λ (g : Fault). g.code) is; first = subst (λ (g : Fault). FirstBad Stands ts g.place) (sym is) first }

  due : (n : ℕ) (r : Result A Refusal) → first_deep ts ≡ None → ((a : A) → Stands a ts → ⊥) → FirstBad Stands ts (bad ts n).place → Judges r (Err (bad ts n)) → Parsed Stands ts r
  due n (Ok tree) h none first j = absurd cc
  due n (Err (refusal.Source f)) h none first j = inr (refused n f h none first (fault_is (bad ts n) f j))
  due n (Err refusal.Memory) h none first j = tt

  found : (a : A) (r : Result A Refusal) → first_deep ts ≡ None → Stands a ts → Judges r (Ok a) → Parsed Stands ts r
  found a (Ok tree) h s j = (subst (λ (b : A). Stands b ts) (ok_is a tree j) s, h)
  found a (Err (refusal.Source f)) h s j = absurd cc
  found a (Err refusal.Memory) h s j = tt

  deep : (t : Token) (r : Result A Refusal) → first_deep ts ≡ Some t → Judges r (Err (record { place = t.place; code = code.E0902 })) → Parsed Stands ts r
  deep t (Ok tree) h j = absurd cc
  deep t (Err (refusal.Source f)) h j = inl (record { token = t; deep = h; is = fault_is (record { place = t.place; code = code.E0902 }) f j })
  deep t (Err refusal.Memory) h j = tt

  shallow : (o : Outcome A) (r : Result A Refusal) → Reads o → Tells o → first_deep ts ≡ None → Judges r (judged ts None o) → Parsed Stands ts r
  shallow (Ok (a, [])) r reads tells h j = found a r h (reads.0 a refl) j
  shallow (Ok (a, t ∷ more)) r reads tells h j = due (length (t ∷ more)) r h (λ b s. not_all a b t more (reads.1 b s)) (tells (bad ts (length (t ∷ more))) refl) j
  shallow (Err us) r reads tells h j = due (length us) r h (λ b s. let e = reads.1 b s in absurd cc) (tells (bad ts (length us)) refl) j

  settled_by : (o : Outcome A) (r : Result A Refusal) (d : Option Token) → Reads o → Tells o → first_deep ts ≡ d → Judges r (judged ts (option_map place_of d) o) → Parsed Stands ts r
  settled_by o r (Some t) reads tells h j = deep t r h j
  settled_by o r None reads tells h j = shallow o r reads tells h j

  -- where the reader takes all of the tokens exactly for what they stand for, and stops at the first bad one
  pub settled : (o : Outcome A) (r : Result A Refusal) → ((a : A) → o ≡ Ok (a, []) → Stands a ts) → ((a : A) → Stands a ts → o ≡ Ok (a, []))
      → ((f : Fault) → judged ts None o ≡ Err f → FirstBad Stands ts f.place) → Judges r (judged ts (option_map place_of (first_deep ts)) o) → Parsed Stands ts r
  settled o r sound complete tells j = settled_by o r (first_deep ts) (sound, complete) tells refl j

  -- and they stand for no more than one
  pub only_answer : (r : Result A Refusal) → Parsed Stands ts r → ((a b : A) → Stands a ts → Stands b ts → a ≡ b) → (tree : A) → Stands tree ts → Only tree ts r
  only_answer (Ok found) p one tree s = one found tree p.0 s
  only_answer (Err (refusal.Source f)) (inl deep) one tree s = deep
  only_answer (Err (refusal.Source f)) (inr none) one tree s = absurd (none.nothing tree s)
  only_answer (Err refusal.Memory) p one tree s = tt
