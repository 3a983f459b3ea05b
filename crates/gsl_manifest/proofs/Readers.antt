-- The words of the readers of fields.
use Rattle.std.proofs.Common.{◌≡◌, ℕ, zero, suc, ◌-◌, ◌<◌, ◌≤◌, Bool, true, false, cond, List, [], ◌∷◌, ◌++◌, length, take, drop, Option, Some, None, refl, ap, sym, ◌∙◌, arith, eqb, append_assoc, append-nil}
use Rattle.std.proofs.lemmas.Bool.{and_from, lt-ltb, eqb-true, cond-true, cond-false, false_from_ne_true}
use Rattle.std.proofs.lemmas.List.{take_rest}
use Rattle.std.proofs.lemmas.Str.{IsUtf8-from_is_utf8, is_utf8-from_IsUtf8}
use Rattle.std.specs.Prelude.{Result, Ok, Err, MatchResult}
use Rattle.std.specs.Result.{is_ok}
use Rattle.std.specs.Option.{option_map}
use Rattle.std.specs.Str.{IsUtf8, is_utf8}
use Rattle.gsl_text.specs.Numbers.{◌>>=◌}
use Rattle.gsl_manifest.specs.Fields.{gap_len, behind_gap, number_at, numbers_at, path_at}

pub gap_found : (bytes : List ℕ) (n : ℕ) → n ≡ gap_len bytes → (n ≡ 0 → ⊥) → (n ≡ length bytes → ⊥) → n ≤ length bytes →
    Some (take (length bytes - n) (drop n bytes)) ≡ behind_gap bytes
unfolding behind_gap
gap_found bytes n is some more within =
    let first : 0 < gap_len bytes = omega arith in
    let behind : gap_len bytes < length bytes = omega arith in
    ap Some (take_rest bytes n ∙ ap (λ k. drop k bytes) is) ∙ sym (cond-true _ _ _ (and_from _ _ (lt-ltb _ _ first) (lt-ltb _ _ behind)))

pub path_bad : (bytes path : List ℕ) → Some path ≡ behind_gap bytes → (IsUtf8 path → ⊥) → None ≡ path_at bytes
unfolding path_at
path_bad bytes path here bad =
    sym (cond-false _ _ _ (false_from_ne_true _ (λ e. bad (IsUtf8-from_is_utf8 path e)))) ∙ ap (λ found. found >>= λ p. cond (is_utf8 p) (Some p) None) here

pub path_good : (bytes path text : List ℕ) → Some path ≡ behind_gap bytes → IsUtf8 path → text ≡ path → Some text ≡ path_at bytes
unfolding path_at
path_good bytes path text here good same =
    ap Some same ∙ sym (cond-true _ _ _ (is_utf8-from_IsUtf8 path good)) ∙ ap (λ found. found >>= λ p. cond (is_utf8 p) (Some p) None) here

-- the numbers so far, and those that are left
abbrev pub and_more : List ℕ → Option (List ℕ) → Option (List ℕ)
and_more front found = option_map (λ more. front ++ more) found

-- no number may stand here
pub numbers_full : (front rest : List ℕ) (left : ℕ) (whole : Option (List ℕ)) → false ≡ eqb (length rest) 0 → left ≡ 0 → and_more front (numbers_at left rest) ≡ whole → None ≡ whole
unfolding numbers_at
numbers_full front [] left whole some none e = absurd (cc)
numbers_full front (byte ∷ bytes) left whole some none e = ap (λ k. and_more front (numbers_at k (byte ∷ bytes))) (sym none) ∙ e

-- no number stands here
pub numbers_bad : (front rest : List ℕ) (left : ℕ) (whole : Option (List ℕ)) → false ≡ eqb (length rest) 0 → None ≡ number_at rest → and_more front (numbers_at left rest) ≡ whole → None ≡ whole
unfolding numbers_at
numbers_bad front [] left whole some bad e = absurd (cc)
numbers_bad front (byte ∷ bytes) zero whole some bad e = e
numbers_bad front (byte ∷ bytes) (suc left) whole some bad e =
    ap (λ found. and_more front (found >>= λ n. numbers_at left n.1 >>= λ ns. Some (n.0 ∷ ns))) bad ∙ e

one_more : (front : List ℕ) (n : ℕ) (found : Option (List ℕ)) → and_more (front ++ n ∷ []) found ≡ and_more front (found >>= λ ns. Some (n ∷ ns))
one_more front n None = refl
one_more front n (Some ns) = ap Some (append_assoc front (n ∷ []) ns)

pub numbers_step : (front rest next later : List ℕ) (left n : ℕ) (whole : Option (List ℕ)) → false ≡ eqb (length rest) 0 → (left ≡ 0 → ⊥) → Some (n, later) ≡ number_at rest → next ≡ front ++ n ∷ [] →
    and_more front (numbers_at left rest) ≡ whole → and_more next (numbers_at (left - 1) later) ≡ whole
unfolding numbers_at
numbers_step front [] next later left n whole some more found is e = absurd (cc)
numbers_step front (byte ∷ bytes) next later zero n whole some more found is e = absurd (more refl)
numbers_step front (byte ∷ bytes) next later (suc left) n whole some more found is e =
    let k : suc left - 1 ≡ left = omega arith in
    ap (λ j. and_more next (numbers_at j later)) k ∙ ap (λ f. and_more f (numbers_at left later)) is ∙ one_more front n (numbers_at left later)
    ∙ ap (λ r. and_more front (r >>= λ m. numbers_at left m.1 >>= λ ns. Some (m.0 ∷ ns))) found ∙ e

pub numbers_end : (front rest : List ℕ) (left : ℕ) (whole : Option (List ℕ)) → true ≡ eqb (length rest) 0 → and_more front (numbers_at left rest) ≡ whole → Some front ≡ whole
unfolding numbers_at
numbers_end front [] zero whole end e = ap Some (sym (append-nil front)) ∙ e
numbers_end front [] (suc left) whole end e = ap Some (sym (append-nil front)) ∙ e
numbers_end front (byte ∷ bytes) left whole end e = absurd (omega (arith, eqb-true _ _ (sym end)))

-- whether a text was made
pub utf8_test : {A E : Type 0} (bytes : List ℕ) (made : Result A E) (ok : Bool) (Q : A → Type 0) (R : E → Type 0) → ok ≡ is_ok made →
    MatchResult made (λ s. Q s × IsUtf8 bytes) (λ e. (IsUtf8 bytes → ⊥) × R e) → ok ≡ is_utf8 bytes
utf8_test bytes (Ok s) ok Q R same good = same ∙ sym (is_utf8-from_IsUtf8 bytes good.1)
utf8_test bytes (Err e) ok Q R same bad = same ∙ sym (false_from_ne_true _ (λ t. bad.0 (IsUtf8-from_is_utf8 bytes t)))
