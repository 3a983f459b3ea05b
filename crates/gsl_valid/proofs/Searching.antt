-- The search finds nothing exactly where each instruction passes, and goes over code part by part.
use Rattle.std.proofs.Common.{◌≡◌, ℕ, ◌+◌, Bool, true, false, cond, IsTrue, [], ◌∷◌, ◌++◌, length, drop, Option, Some, None, refl, ap, ◌∙◌}
use Rattle.std.specs.List.{range_with_len}
use Rattle.std.specs.Prelude.{map, zero, suc, ◌≤◌, ◌<◌}
use Rattle.std.proofs.Common.{subst, arith}
use Rattle.std.proofs.lemmas.Bool.{cond-true}
use Rattle.std.proofs.lemmas.List.Prefix.{front_rest}
use Rattle.gsl_words.specs.declared.module.Instr.{Instr}
use Rattle.gsl_words.specs.declared.module.Module.{Module}
use Rattle.gsl_words.specs.Instructions.{word_count}
use Rattle.gsl_valid.specs.Placed.{Code, placed_from, words_from, header_size}
use Rattle.gsl_valid.specs.Search.{Test, broken_from, first_broken, passed, ◌otherwise◌, Passes}

pub passed_append : (before a b : Code) → passed before (a ++ b) ≡ passed (passed before a) b
passed_append before [] b = refl
passed_append before (i ∷ a) b = passed_append (i ∷ before) a b

length_passed : (before a : Code) → length (passed before a) ≡ length before + length a
length_passed before [] = let e : length before ≡ length before + 0 = omega arith in e
length_passed before (i ∷ a) = let h = length_passed (i ∷ before) a in omega (arith, h)

-- What stands behind some code is what follows it.
pub behind_front : (a b : Code) → drop (length (passed [] a)) (a ++ b) ≡ b
behind_front a b = ap (λ n. drop n (a ++ b)) (length_passed [] a ∙ (let e : 0 + length a ≡ length a = omega arith in e)) ∙ front_rest (a ++ b) a b refl

module _ (test : Test) where
  pub broken_none : (before : Code) (at : ℕ) (code : Code) → Passes test before code → broken_from test before (placed_from at code) ≡ None
  broken_none before at [] all = refl
  broken_none before at (i ∷ code) all = cond-true _ _ _ all.0 ∙ broken_none (i ∷ before) (at + word_count i) code all.1

  -- where a test passes or a place is given, no place is given only where it passes
  no_place : (b : Bool) (later : Option ℕ) (at : ℕ) → cond b later (Some at) ≡ None → (b ≡ true) × (later ≡ None)
  no_place true later at none = (refl, none)
  no_place false later at none = absurd (cc)

  pub none_passes : (before : Code) (at : ℕ) (code : Code) → broken_from test before (placed_from at code) ≡ None → Passes test before code
  none_passes before at [] none = tt
  none_passes before at (i ∷ code) none =
      let parts = no_place (test before i) (broken_from test (i ∷ before) (placed_from (at + word_count i) code)) at none in
      (parts.0, none_passes (i ∷ before) (at + word_count i) code parts.1)

  -- The search finds nothing in a module exactly where each of its instructions passes.
  pub none_broken : (m : Module) → Passes test [] m.instrs → first_broken test m ≡ None
  none_broken m all = broken_none [] header_size m.instrs all

  pub each_passes : (m : Module) → first_broken test m ≡ None → Passes test [] m.instrs
  each_passes m none = none_passes [] header_size m.instrs none

  later_place : (b : Bool) (first last : Option ℕ) (at : ℕ) → cond b (first otherwise last) (Some at) ≡ (cond b first (Some at) otherwise last)
  later_place true first last at = refl
  later_place false first last at = refl

  -- The search over two parts is that over the first, and else that over the second behind it.
  pub broken_append : (before a b : Code) (at : ℕ) →
      broken_from test before (placed_from at (a ++ b))
      ≡ (broken_from test before (placed_from at a) otherwise broken_from test (passed before a) (placed_from (words_from at a) b))
  broken_append before [] b at = refl
  broken_append before (i ∷ a) b at =
      ap (λ later. cond (test before i) later (Some at)) (broken_append (i ∷ before) a b (at + word_count i))
      ∙ later_place (test before i) _ _ at

  pub passes_append : (before a b : Code) → Passes test before a → Passes test (passed before a) b → Passes test before (a ++ b)
  passes_append before [] b first last = last
  passes_append before (i ∷ a) b first last = (first.0, passes_append (i ∷ before) a b first.1 last)

  -- Instructions made from numbers in a row pass, where each does and leaves what the next one needs.
  pub passes_range : (ready : ℕ → Code → Type 0) (f : ℕ → Instr) (first count : ℕ) →
      ((k : ℕ) (before : Code) → first ≤ k → k < first + count → ready k before → IsTrue (test before (f k)) × ready (k + 1) (f k ∷ before)) →
      (before : Code) → ready first before →
      Passes test before (map f (range_with_len first count)) × ready (first + count) (passed before (map f (range_with_len first count)))
  passes_range ready f first zero each before now = (tt, subst (λ k. ready k before) (let e : first ≡ first + 0 = omega arith in e) now)
  passes_range ready f first (suc count) each before now =
      let here = each first before (omega arith) (omega arith) now in
      let later = passes_range ready f (first + 1) count (λ k b low high. each k b (omega arith) (omega arith)) (f first ∷ before) here.1 in
      ((here.0, later.0), subst (λ k. ready k (passed (f first ∷ before) (map f (range_with_len (first + 1) count)))) (let e : (first + 1) + count ≡ first + suc count = omega arith in e) later.1)
