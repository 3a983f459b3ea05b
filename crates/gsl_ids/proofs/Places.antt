-- The instruction at a place, and those behind it.
use Rattle.std.proofs.Common.{◌≡◌, ℕ, zero, suc, ◌+◌, ◌<◌, ◌≤◌, List, [], ◌∷◌, length, drop, refl, ap, ◌∙◌, subst, sym, arith}
use Rattle.std.specs.Prelude.{slice_get, IsSomeAnd, All, ◌^◌}
use Rattle.std.specs.List.{flat_map}
use Rattle.std.proofs.lemmas.List.{length-append}
use Rattle.std.proofs.lemmas.List.Elements.{All-weaker}
use Rattle.gsl_words.specs.Bytes.{instr_words}
use Rattle.gsl_words.specs.declared.module.Instr.{Instr}
use Rattle.gsl_words.specs.Instructions.{word_count, IsInTable}
use Rattle.gsl_valid.specs.Placed.{Code, words_from, placed_from}

abbrev pub made : ℕ → List ℕ → Instr
made op args = record { op = op; args = args }

pub here : (code : Code) (at op : ℕ) (args : List ℕ) → IsSomeAnd (slice_get code at) (λ i. op ≡ i.op) → IsSomeAnd (slice_get code at) (λ i. args ≡ i.args) →
    drop at code ≡ made op args ∷ drop (at + 1) code
here [] at op args o a = absurd o
here (i ∷ code) zero op args o a = sym (ap (λ x. made x args ∷ code) o ∙ ap (λ x. made i.op x ∷ code) a)
here (i ∷ code) (suc at) op args o a =
    let next : suc (at + 1) ≡ suc at + 1 = omega arith in
    subst (λ n. drop at code ≡ made op args ∷ drop n (i ∷ code)) next (here code at op args o a)

words_least : (at : ℕ) (code : Code) → at ≤ words_from at code
words_least at [] = omega arith
words_least at (i ∷ code) = let h = words_least (at + word_count i) code in omega (arith, h)

pub room : (code : Code) (at place op limit : ℕ) (args : List ℕ) → drop at code ≡ made op args ∷ drop (at + 1) code → words_from place (drop at code) < limit →
    words_from (place + (1 + length args)) (drop (at + 1) code) < limit
room code at place op limit args e few = subst (λ c. words_from place c < limit) e few

pub fits : (place limit : ℕ) (rest : Code) (args : List ℕ) → words_from (place + (1 + length args)) rest < limit → place + (1 + length args) < limit
fits place limit rest args few = let h = words_least (place + (1 + length args)) rest in omega (arith, h, few)

pub read_here : (code : Code) (at place op : ℕ) (args : List ℕ) → drop at code ≡ made op args ∷ drop (at + 1) code →
    placed_from place (drop at code) ≡ record { at = place; instr = made op args } ∷ placed_from (place + (1 + length args)) (drop (at + 1) code)
read_here code at place op args e = ap (placed_from place) e

pub none_left : (code : Code) (at place : ℕ) → length code ≤ at → placed_from place (drop at code) ≡ []
none_left [] zero place over = refl
none_left [] (suc at) place over = refl
none_left (i ∷ code) zero place over = absurd (omega arith)
none_left (i ∷ code) (suc at) place over = none_left code at place (omega arith)

-- The words of some code are those that its file has behind the place where it begins.
pub all_words : (at : ℕ) (code : Code) → words_from at code ≡ at + length (flat_map instr_words code)
all_words at [] = let e : at ≡ at + 0 = omega arith in e
all_words at (i ∷ code) =
    let h = all_words (at + word_count i) code in
    let e = length-append (instr_words i) (flat_map instr_words code) in
    omega (arith, h, e)

pub each_short : (code : Code) → All IsInTable code → All (λ (i : Instr). word_count i < 2 ^ 16) code
each_short code all = All-weaker IsInTable (λ (i : Instr). word_count i < 2 ^ 16) (λ i fits. fits.short) code all
