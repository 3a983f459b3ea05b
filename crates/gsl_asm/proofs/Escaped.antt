-- Characters between quotes: what is written is read, and nothing else is.
use Rattle.std.proofs.Common.{◌≡◌, ℕ, suc, ◌+◌, Bool, true, false, cond, ◌||◌, eqb, List, [], ◌∷◌, ◌++◌, length, take, drop, Some, refl, ap, sym, subst, ◌∙◌, arith}
use Rattle.std.proofs.lemmas.Bool.{cond-true, cond-false, eqb-true, or_from, or_parts, true≢false}
use Rattle.std.specs.Option.{option_map}
use Rattle.gsl_asm.specs.declared.step.Step.TheVariants.{Ends, Breaks, Goes}
use Rattle.gsl_asm.specs.Escapes.{is_escape, meant, step_of, by_step, raw_len, unescaped}
use Rattle.gsl_asm.specs.Words.{escape, escaped}
use Rattle.gsl_asm.proofs.Binds.{map_some}

-- A character is written behind a backslash, or as it is.
data Kind (b : ℕ) : Type 0 where
  special : (c : ℕ) → escape b ≡ 92 ∷ c ∷ [] → is_escape c ≡ true → meant c ≡ b → Kind b
  simple : escape b ≡ b ∷ [] → step_of false b ≡ Goes false → eqb b 92 ≡ false → Kind b

kind : (b : ℕ) → Kind b
kind b =
    elim (eqb b 34) as (λ t. eqb b 34 ≡ t → Kind b) [
      | true ↦ λ e. subst Kind (sym (eqb-true b 34 e)) (Kind.special 34 refl refl refl)
      | false ↦ λ quote.
          elim (eqb b 92) as (λ t. eqb b 92 ≡ t → Kind b) [
            | true ↦ λ e. subst Kind (sym (eqb-true b 92 e)) (Kind.special 92 refl refl refl)
            | false ↦ λ back.
                elim (eqb b 10) as (λ t. eqb b 10 ≡ t → Kind b) [
                  | true ↦ λ e. subst Kind (sym (eqb-true b 10 e)) (Kind.special 110 refl refl refl)
                  | false ↦ λ lf.
                      elim (eqb b 13) as (λ t. eqb b 13 ≡ t → Kind b) [
                        | true ↦ λ e. subst Kind (sym (eqb-true b 13 e)) (Kind.special 114 refl refl refl)
                        | false ↦ λ cr.
                            Kind.simple (cond-false _ _ _ quote ∙ cond-false _ _ _ back ∙ cond-false _ _ _ lf ∙ cond-false _ _ _ cr)
                            (cond-false _ _ _ quote ∙ cond-false _ _ _ (or_from _ _ lf cr) ∙ ap Goes back) back
                      ] refl
                ] refl
          ] refl
    ] refl

raw_more : (b : ℕ) (more rest : List ℕ) → Kind b → raw_len false (more ++ 34 ∷ rest) ≡ Some (length more) → raw_len false ((escape b ++ more) ++ 34 ∷ rest) ≡ Some (length (escape b ++ more))
raw_more b more rest (Kind.special c e ok m) later =
    ap (λ l. raw_len false ((l ++ more) ++ 34 ∷ rest)) e
    ∙ ap (λ s. option_map (λ n. 1 + n) (by_step s (λ next. raw_len next (more ++ 34 ∷ rest)))) (cond-true (is_escape c) (Goes false) Breaks ok)
    ∙ ap (λ f. option_map (λ n. 1 + n) (option_map (λ n. 1 + n) f)) later ∙ ap Some (let n : 1 + (1 + length more) ≡ length (92 ∷ c ∷ more) = omega arith in n)
    ∙ ap (λ l. Some (length (l ++ more))) (sym e)
raw_more b more rest (Kind.simple e step plain) later =
    ap (λ l. raw_len false ((l ++ more) ++ 34 ∷ rest)) e ∙ ap (λ s. by_step s (λ next. raw_len next (more ++ 34 ∷ rest))) step
    ∙ ap (λ f. option_map (λ n. 1 + n) f) later ∙ ap Some (let n : 1 + length more ≡ length (b ∷ more) = omega arith in n) ∙ ap (λ l. Some (length (l ++ more))) (sym e)

-- the quote that ends a text is the first that ends one
pub raw_escaped : (text rest : List ℕ) → raw_len false (escaped text ++ 34 ∷ rest) ≡ Some (length (escaped text))
raw_escaped [] rest = refl
raw_escaped (b ∷ text) rest = raw_more b (escaped text) rest (kind b) (raw_escaped text rest)

back_more : (b : ℕ) (more text : List ℕ) → Kind b → unescaped false more ≡ text → unescaped false (escape b ++ more) ≡ b ∷ text
back_more b more text (Kind.special c e ok m) later = ap (λ l. unescaped false (l ++ more)) e ∙ ap (λ x. x ∷ unescaped false more) m ∙ ap (λ t. b ∷ t) later
back_more b more text (Kind.simple e step plain) later = ap (λ l. unescaped false (l ++ more)) e ∙ cond-false _ _ _ plain ∙ ap (λ t. b ∷ t) later

pub unescaped_escaped : (text : List ℕ) → unescaped false (escaped text) ≡ text
unescaped_escaped [] = refl
unescaped_escaped (b ∷ text) = back_more b (escaped text) text (kind b) (unescaped_escaped text)

-- what stands there with a backslash that was seen
abbrev begun : Bool → List ℕ → List ℕ
begun true bytes = 92 ∷ bytes
begun false bytes = bytes

-- So many bytes stand for characters, and a quote is behind them.
pub record Closed (behind : Bool) (bytes : List ℕ) (len : ℕ) : Type 0 where
  pub whole : take len bytes ++ 34 ∷ drop (suc len) bytes ≡ bytes
  pub text : begun behind (take len bytes) ≡ escaped (unescaped behind (take len bytes))

goes : (behind next : Bool) (b : ℕ) (bytes : List ℕ) (len : ℕ) → ((l : List ℕ) → begun next l ≡ escaped (unescaped next l) → begun behind (b ∷ l) ≡ escaped (unescaped behind (b ∷ l))) →
    ((n : ℕ) → raw_len next bytes ≡ Some n → Closed next bytes n) → option_map (λ n. 1 + n) (raw_len next bytes) ≡ Some len → Closed behind (b ∷ bytes) len
goes behind next b bytes len front later e =
    let m = map_some (λ (n : ℕ). 1 + n) (raw_len next bytes) len e in
    let c = later m.0 m.1 in
    let n : suc m.0 ≡ len = omega (arith, m.2) in
    subst (Closed behind (b ∷ bytes)) n (record { whole = ap (λ l. b ∷ l) c.whole; text = front (take m.0 bytes) c.text })

escape_meant : (b : ℕ) → is_escape b ≡ true → escape (meant b) ≡ 92 ∷ b ∷ []
escape_meant b ok =
    elim (eqb b 34) as (λ t. eqb b 34 ≡ t → escape (meant b) ≡ 92 ∷ b ∷ []) [
      | true ↦ λ e. same 34 (eqb-true b 34 e) refl
      | false ↦ λ quote.
          elim (eqb b 92) as (λ t. eqb b 92 ≡ t → escape (meant b) ≡ 92 ∷ b ∷ []) [
            | true ↦ λ e. same 92 (eqb-true b 92 e) refl
            | false ↦ λ back.
                elim (eqb b 110) as (λ t. eqb b 110 ≡ t → escape (meant b) ≡ 92 ∷ b ∷ []) [
                  | true ↦ λ e. same 110 (eqb-true b 110 e) refl
                  | false ↦ λ lf.
                      elim (eqb b 114) as (λ t. eqb b 114 ≡ t → escape (meant b) ≡ 92 ∷ b ∷ []) [
                        | true ↦ λ e. same 114 (eqb-true b 114 e) refl
                        | false ↦ λ cr. absurd (true≢false (sym ok ∙ or_from _ _ (or_from _ _ (or_from _ _ quote back) lf) cr))
                      ] refl
                ] refl
          ] refl
    ] refl
  where
    same : (c : ℕ) → b ≡ c → escape (meant c) ≡ 92 ∷ c ∷ [] → escape (meant b) ≡ 92 ∷ b ∷ []
    same c e is = subst (λ x. escape (meant x) ≡ 92 ∷ x ∷ []) (sym e) is

single : (b : ℕ) → eqb b 34 ≡ false → (eqb b 10 || eqb b 13) ≡ false → eqb b 92 ≡ false → escape b ≡ b ∷ []
single b quote end back = let p = or_parts (eqb b 10) (eqb b 13) end in cond-false _ _ _ quote ∙ cond-false _ _ _ back ∙ cond-false _ _ _ p.0 ∙ cond-false _ _ _ p.1

pub closed : (behind : Bool) (bytes : List ℕ) (len : ℕ) → raw_len behind bytes ≡ Some len → Closed behind bytes len
closed behind [] len e = absurd (cc)
closed true (b ∷ bytes) len e =
    elim (is_escape b) as (λ t. is_escape b ≡ t → by_step (cond t (Goes false) Breaks) (λ next. raw_len next bytes) ≡ Some len → Closed true (b ∷ bytes) len) [
      | true ↦ λ ok found.
          goes true false b bytes len (λ l is. ap (λ t. 92 ∷ b ∷ t) is ∙ ap (λ t. t ++ escaped (unescaped false l)) (sym (escape_meant b ok))) (λ n is. closed false bytes n is) found
      | false ↦ λ other found. absurd (cc)
    ] refl e
closed false (b ∷ bytes) len e =
    elim (eqb b 34) as (λ t. eqb b 34 ≡ t → by_step (cond t Ends (cond (eqb b 10 || eqb b 13) Breaks (Goes (eqb b 92)))) (λ next. raw_len next bytes) ≡ Some len → Closed false (b ∷ bytes) len) [
      | true ↦ λ here found. let z : 0 ≡ len = cc in subst (Closed false (b ∷ bytes)) z (record { whole = ap (λ c. c ∷ bytes) (sym (eqb-true b 34 here)); text = refl })
      | false ↦ λ quote found.
          elim (eqb b 10 || eqb b 13) as (λ t. (eqb b 10 || eqb b 13) ≡ t → by_step (cond t Breaks (Goes (eqb b 92))) (λ next. raw_len next bytes) ≡ Some len → Closed false (b ∷ bytes) len) [
            | true ↦ λ ended found. absurd (cc)
            | false ↦ λ end found.
                elim (eqb b 92) as (λ t. eqb b 92 ≡ t → by_step (Goes t) (λ next. raw_len next bytes) ≡ Some len → Closed false (b ∷ bytes) len) [
                  | true ↦ λ back found. goes false true b bytes len (λ l is. ap (λ c. c ∷ l) (eqb-true b 92 back) ∙ is ∙ ap escaped (sym (cond-true _ _ _ back))) (λ n is. closed true bytes n is) found
                  | false ↦ λ back found.
                      goes false false b bytes len
                      (λ l is. ap (λ t. b ∷ t) is ∙ ap (λ t. t ++ escaped (unescaped false l)) (sym (single b quote end back)) ∙ ap escaped (sym (cond-false _ _ _ back)))
                      (λ n is. closed false bytes n is) found
                ] refl found
          ] refl found
    ] refl e
