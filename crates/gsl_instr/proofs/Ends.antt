-- Where a text among operand words ends.
use Rattle.std.proofs.Common.{◌≡◌, ℕ, zero, suc, ◌^◌, ◌<◌, ◌≤◌, List, [], ◌∷◌, length, get_or, take, drop, refl, ap, ◌∙◌, arith}
use Rattle.std.proofs.lemmas.Bool.{lt-ltb, le-ltb, cond-true, cond-false}
use Rattle.gsl_instr.specs.Texts.{text_words, after_text}

pub stops_front : (words : List ℕ) (i : ℕ) → i < length words → ((k : ℕ) → k < i → 2 ^ 24 ≤ get_or words k 0) → get_or words i 0 < 2 ^ 24 → text_words words ≡ take (suc i) words
stops_front [] i within before here = absurd (omega arith)
stops_front (w ∷ words) zero within before here = cond-true _ _ _ (lt-ltb _ _ here)
stops_front (w ∷ words) (suc i) within before here =
    cond-false _ _ _ (le-ltb _ _ (before 0 (omega arith))) ∙ ap (λ l. w ∷ l) (stops_front words i (omega arith) (λ k less. before (suc k) (omega arith)) here)

pub stops_behind : (words : List ℕ) (i : ℕ) → i < length words → ((k : ℕ) → k < i → 2 ^ 24 ≤ get_or words k 0) → get_or words i 0 < 2 ^ 24 → after_text words ≡ drop (suc i) words
stops_behind [] i within before here = absurd (omega arith)
stops_behind (w ∷ words) zero within before here = cond-true _ _ _ (lt-ltb _ _ here)
stops_behind (w ∷ words) (suc i) within before here =
    cond-false _ _ _ (le-ltb _ _ (before 0 (omega arith))) ∙ stops_behind words i (omega arith) (λ k less. before (suc k) (omega arith)) here

pub never_front : (words : List ℕ) → ((k : ℕ) → k < length words → 2 ^ 24 ≤ get_or words k 0) → text_words words ≡ take (length words) words
never_front [] before = refl
never_front (w ∷ words) before =
    cond-false _ _ _ (le-ltb _ _ (before 0 (omega arith))) ∙ ap (λ l. w ∷ l) (never_front words (λ k less. before (suc k) (omega arith)))

pub never_behind : (words : List ℕ) → ((k : ℕ) → k < length words → 2 ^ 24 ≤ get_or words k 0) → after_text words ≡ drop (length words) words
never_behind [] before = refl
never_behind (w ∷ words) before =
    cond-false _ _ _ (le-ltb _ _ (before 0 (omega arith))) ∙ never_behind words (λ k less. before (suc k) (omega arith))
