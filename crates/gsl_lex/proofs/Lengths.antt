-- A spelling is found among those of as many bytes.
use Rattle.std.proofs.Common.{◌≡◌, ℕ, true, false, cond, List, [], ◌∷◌, length, Some, refl, ap, sym, ◌∙◌, eqb}
use Rattle.std.specs.List.{filter}
use Rattle.std.specs.Str.{bytes_eq}
use Rattle.std.proofs.lemmas.Bool.{true≢false, cond-false, eq-eqb}
use Rattle.std.proofs.lemmas.Slice.Eq.{bytes_eq-Decides}
use Rattle.gsl_lex.specs.Spellings.{puncts}
use Rattle.gsl_lex.specs.Tables.{lookup, punct_of}
use Rattle.gsl_lex.specs.Searching.{of_len}

unlike : (word s : List ℕ) → eqb (length word) (length s) ≡ false → bytes_eq word s ≡ false
unlike word s other =
    elim (bytes_eq word s) as (λ b. bytes_eq word s ≡ b → b ≡ false) [
      | true ↦ λ same. absurd (true≢false (sym (eq-eqb (length word) (length s) (ap length ((bytes_eq-Decides word s).0 same))) ∙ other))
      | false ↦ λ _. refl
    ] refl

lookup_among : {A : Type 0} (rows : List (List ℕ × A)) (s : List ℕ) → lookup (of_len (length s) rows) s ≡ lookup rows s
lookup_among [] s = refl
lookup_among {A} (row ∷ rows) s =
    let less : List (List ℕ × A) = filter (λ row. eqb (length row.0) (length s)) rows in
    elim (eqb (length row.0) (length s)) as (λ b. eqb (length row.0) (length s) ≡ b → lookup (cond b (row ∷ less) less) s ≡ cond (bytes_eq row.0 s) (Some row.1) (lookup rows s)) [
      | true ↦ λ _. ap (λ found. cond (bytes_eq row.0 s) (Some row.1) found) (lookup_among rows s)
      | false ↦ λ other. lookup_among rows s ∙ sym (cond-false _ _ _ (unlike row.0 s other))
    ] refl

pub punct_among : (s : List ℕ) → lookup (of_len (length s) puncts) s ≡ punct_of s
unfolding punct_of
punct_among s = lookup_among puncts s
