-- How many bytes stand between quotes.
use Rattle.std.proofs.Common.{◌≡◌, ℕ, zero, suc, ◌+◌, ◌<◌, ◌≤◌, Bool, List, [], ◌∷◌, length, get_or, drop, Option, Some, None, refl, ap, sym, ◌∙◌, arith, add-one, add-zero, drop-cons}
use Rattle.std.specs.Option.{option_map}
use Rattle.gsl_asm.specs.declared.step.Step.{Step}
use Rattle.gsl_asm.specs.declared.step.Step.TheVariants.{Ends, Breaks, Goes}
use Rattle.gsl_asm.specs.Escapes.{step_of, by_step, raw_len}

-- so many more
abbrev pub shifted : ℕ → Option ℕ → Option ℕ
shifted n found = option_map (λ k. n + k) found

shifted_more : (i : ℕ) (found : Option ℕ) → shifted i (option_map (λ n. 1 + n) found) ≡ shifted (i + 1) found
shifted_more i None = refl
shifted_more i (Some n) = ap Some (let e : i + (1 + n) ≡ i + 1 + n = omega arith in e)

cut : (bytes : List ℕ) (i : ℕ) → i < length bytes → drop i bytes ≡ get_or bytes i 0 ∷ drop (i + 1) bytes
cut bytes i within = drop-cons bytes i 0 within ∙ ap (λ k. get_or bytes i 0 ∷ drop k bytes) (sym (add-one i))

here : (bytes : List ℕ) (i : ℕ) (behind : Bool) (step : Step) → i < length bytes → step_of behind (get_or bytes i 0) ≡ step → raw_len behind (drop i bytes) ≡ by_step step (λ next. raw_len next (drop (i + 1) bytes))
here bytes i behind step within is = ap (raw_len behind) (cut bytes i within) ∙ ap (λ s. by_step s (λ next. raw_len next (drop (i + 1) bytes))) is

pub ends_here : (bytes : List ℕ) (i : ℕ) (behind : Bool) (whole : Option ℕ) → i < length bytes → step_of behind (get_or bytes i 0) ≡ Ends → shifted i (raw_len behind (drop i bytes)) ≡ whole → Some i ≡ whole
ends_here bytes i behind whole within is e = ap Some (sym (add-zero i)) ∙ sym (ap (shifted i) (here bytes i behind Ends within is)) ∙ e

pub breaks_here : (bytes : List ℕ) (i : ℕ) (behind : Bool) (whole : Option ℕ) → i < length bytes → step_of behind (get_or bytes i 0) ≡ Breaks → shifted i (raw_len behind (drop i bytes)) ≡ whole → None ≡ whole
breaks_here bytes i behind whole within is e = sym (ap (shifted i) (here bytes i behind Breaks within is)) ∙ e

pub goes_on : (bytes : List ℕ) (i : ℕ) (behind next : Bool) (whole : Option ℕ) → i < length bytes → step_of behind (get_or bytes i 0) ≡ Goes next → shifted i (raw_len behind (drop i bytes)) ≡ whole →
    shifted (i + 1) (raw_len next (drop (i + 1) bytes)) ≡ whole
goes_on bytes i behind next whole within is e =
    sym (shifted_more i (raw_len next (drop (i + 1) bytes))) ∙ sym (ap (shifted i) (here bytes i behind (Goes next) within is)) ∙ e

no_bytes : (bytes : List ℕ) (i : ℕ) → length bytes ≤ i → drop i bytes ≡ []
no_bytes [] zero more = refl
no_bytes [] (suc i) more = refl
no_bytes (b ∷ bytes) zero more = absurd (omega arith)
no_bytes (b ∷ bytes) (suc i) more = no_bytes bytes i (omega arith)

pub no_more : (bytes : List ℕ) (i : ℕ) (behind : Bool) (whole : Option ℕ) → length bytes ≤ i → shifted i (raw_len behind (drop i bytes)) ≡ whole → None ≡ whole
no_more bytes i behind whole more e = sym (ap (λ l. shifted i (raw_len behind l)) (no_bytes bytes i more)) ∙ e
