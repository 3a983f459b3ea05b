-- Each text is one of its lines.
use Rattle.std.proofs.Common.{◌≡◌, ℕ, zero, suc, ◌+◌, ◌≤◌, true, false, cond, not, ◌⊎◌, List, [], ◌∷◌, ◌++◌, length, take, drop, refl, ap, sym, subst, ◌∙◌, arith, eqb, append_assoc, append-nil, length-append, one-add, take-append-drop, inl, inr}
use Rattle.std.proofs.lemmas.Bool.{eqb-true, or_from, or_parts}
use Rattle.gsl_text.specs.Lines.{without_cr, lines_of}
use Rattle.gsl_manifest.specs.Spelling.{IsText}
use Rattle.gsl_text.proofs.Splitting.{before_lf, last_line, line_ended, NoLf}
use Rattle.gsl_manifest.proofs.SpelledLines.{no_lines_of}

no_lf_before : (bytes : List ℕ) → NoLf (take (before_lf bytes) bytes)
no_lf_before [] = refl
no_lf_before (b ∷ bytes) =
    elim (eqb b 10) as (λ t. eqb b 10 ≡ t → NoLf (take (cond (not t) (1 + before_lf bytes) 0) (b ∷ bytes))) [
      | true ↦ λ e. refl
      | false ↦ λ e. subst (λ k. NoLf (take k (b ∷ bytes))) (sym (one-add (before_lf bytes))) (or_from _ _ e (no_lf_before bytes))
    ] refl

lf_next : (bytes : List ℕ) (x : ℕ) (more : List ℕ) → drop (before_lf bytes) bytes ≡ x ∷ more → 10 ≡ x
lf_next [] x more e = absurd (cc)
lf_next (b ∷ bytes) x more e =
    elim (eqb b 10) as (λ t. eqb b 10 ≡ t → drop (cond (not t) (1 + before_lf bytes) 0) (b ∷ bytes) ≡ x ∷ more → 10 ≡ x) [
      | true ↦ λ here found. let same : b ≡ x = cc in sym (eqb-true b 10 here) ∙ same
      | false ↦ λ other found. lf_next bytes x more (sym (ap (λ k. drop k (b ∷ bytes)) (one-add (before_lf bytes))) ∙ found)
    ] refl e

cr_cases : (piece : List ℕ) → (without_cr piece ≡ piece) ⊎ (without_cr piece ++ 13 ∷ [] ≡ piece)
cr_cases [] = inl refl
cr_cases (b ∷ []) =
    elim (eqb b 13) as (λ t. eqb b 13 ≡ t → (cond t [] (b ∷ []) ≡ b ∷ []) ⊎ (cond t [] (b ∷ []) ++ 13 ∷ [] ≡ b ∷ [])) [
      | true ↦ λ e. inr (ap (λ c. c ∷ []) (sym (eqb-true b 13 e)))
      | false ↦ λ e. inl refl
    ] refl
cr_cases (b ∷ c ∷ piece) = elim (cr_cases (c ∷ piece)) [ inl e ↦ inl (ap (λ r. b ∷ r) e) | inr e ↦ inr (ap (λ r. b ∷ r) e) ]

no_lf_cut : (piece : List ℕ) → NoLf piece → NoLf (without_cr piece)
no_lf_cut [] none = refl
no_lf_cut (b ∷ []) none = elim (eqb b 13) as (λ t. NoLf (cond t [] (b ∷ []))) [ true ↦ refl | false ↦ none ]
no_lf_cut (b ∷ c ∷ piece) none = let parts = or_parts (eqb b 10) _ none in or_from _ _ parts.0 (no_lf_cut (c ∷ piece) parts.1)

-- a line and the LF behind it
ended_so : (piece more : List ℕ) → NoLf piece → IsText more (lines_of more) → IsText (piece ++ 10 ∷ more) (without_cr piece ∷ lines_of more)
ended_so piece more none later = elim (cr_cases piece) [
  | inl e ↦ subst (λ t. IsText (t ++ 10 ∷ more) (without_cr piece ∷ lines_of more)) e (IsText.lf (without_cr piece) (no_lf_cut piece none) (ap without_cr e) later)
  | inr e ↦
      let whole : without_cr piece ++ 13 ∷ (10 ∷ more) ≡ piece ++ 10 ∷ more = sym (append_assoc (without_cr piece) (13 ∷ []) (10 ∷ more)) ∙ ap (λ t. t ++ 10 ∷ more) e in
      subst (λ t. IsText t (without_cr piece ∷ lines_of more)) whole (IsText.cr_lf (without_cr piece) (no_lf_cut piece none) later)
]

text_on : (n : ℕ) (bytes : List ℕ) → length bytes ≤ n → IsText bytes (lines_of bytes)
text_on n [] few = subst (IsText []) (sym no_lines_of) IsText.nothing
text_on zero (b ∷ bytes) few = absurd (omega arith)
text_on (suc n) (b ∷ bytes) few = go (drop (before_lf (b ∷ bytes)) (b ∷ bytes)) refl (λ more small. text_on n more small)
  where
    go : (rest : List ℕ) → rest ≡ drop (before_lf (b ∷ bytes)) (b ∷ bytes) → ((more : List ℕ) → length more ≤ n → IsText more (lines_of more)) → IsText (b ∷ bytes) (lines_of (b ∷ bytes))
    go [] e later =
        let text : List ℕ = b ∷ bytes in
        let piece : List ℕ = take (before_lf text) text in
        let whole : piece ≡ text = sym (append-nil piece) ∙ ap (λ r. piece ++ r) e ∙ take-append-drop (before_lf text) text in
        let lines : lines_of text ≡ piece ∷ [] = last_line text piece [] (before_lf text) refl refl e refl (omega arith) ∙ ap (λ l. piece ∷ l) no_lines_of in
        subst (IsText text) (sym (lines ∙ ap (λ p. p ∷ []) whole)) (IsText.last text (omega arith) (subst NoLf whole (no_lf_before text)))
    go (x ∷ more) e later =
        let text : List ℕ = b ∷ bytes in
        let piece : List ℕ = take (before_lf text) text in
        let whole : piece ++ 10 ∷ more ≡ text = ap (λ c. piece ++ c ∷ more) (lf_next text x more (sym e)) ∙ ap (λ r. piece ++ r) e ∙ take-append-drop (before_lf text) text in
        let lines : lines_of text ≡ without_cr piece ∷ lines_of more = line_ended text piece (x ∷ more) (without_cr piece) more (before_lf text) refl refl e (omega arith) refl refl in
        let shorter : length more ≤ n = omega (arith, ap length whole, length-append piece (10 ∷ more), few) in
        subst (λ l. IsText text l) (sym lines) (subst (λ t. IsText t (without_cr piece ∷ lines_of more)) whole (ended_so piece more (no_lf_before text) (later more shorter)))

pub text_back : (bytes : List ℕ) → IsText bytes (lines_of bytes)
text_back bytes = text_on (length bytes) bytes (omega arith)
