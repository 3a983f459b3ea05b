-- A pass finds what the rule's search finds, where what it keeps tells as much as the instructions before.
use Rattle.std.proofs.Common.{◌≡◌, ℕ, Bool, true, false, cond, [], ◌∷◌, length, Option, Some, None, ◌+◌, refl, ap, sym, subst, ◌∙◌, arith}
use Rattle.gsl_words.specs.declared.module.Instr.{Instr}
use Rattle.gsl_words.specs.declared.module.Module.{Module}
use Rattle.gsl_words.specs.Instructions.{word_count}
use Rattle.gsl_valid.specs.Placed.{Code, placed_from, placed, header_size}
use Rattle.gsl_valid.specs.Search.{Test, broken_from, first_broken, passed}
use Rattle.gsl_ids.specs.Pass.{first_failed, kept}

pub as_many : (at : ℕ) (code : Code) → length (placed_from at code) ≡ length code
as_many at [] = refl
as_many at (i ∷ code) = let h = as_many (at + word_count i) code in omega (arith, h)

-- `Tells before code s`: where these instructions stand before some code, `s` tells what a test has to know of them.
module _ {S : Type 0} (passes : S → ℕ → Instr → Bool) (behind : S → ℕ → Instr → S) (test : Test) (Tells : Code → Code → S → Type 0)
    (agrees : (before code : Code) (s : S) (i : Instr) → Tells before (i ∷ code) s → passes s (length before) i ≡ test before i)
    (goes_on : (before code : Code) (s : S) (i : Instr) → Tells before (i ∷ code) s → test before i ≡ true → Tells (i ∷ before) code (behind s (length before) i)) where
  later : (b : Bool) (x y : Option ℕ) (at : ℕ) → (b ≡ true → x ≡ y) → cond b x (Some at) ≡ cond b y (Some at)
  later true x y at e = e refl
  later false x y at e = refl

  pub same_place : (before : Code) (s : S) (number at : ℕ) (code : Code) → number ≡ length before → Tells before code s →
      first_failed passes behind s number (placed_from at code) ≡ broken_from test before (placed_from at code)
  unfolding first_failed
  same_place before s number at [] e tells = refl
  same_place before s number at (i ∷ code) e tells =
      let next : number + 1 ≡ length (i ∷ before) = omega (arith, e) in
      ap (λ n. cond (passes s n i) (first_failed passes behind (behind s n i) (number + 1) (placed_from (at + word_count i) code)) (Some at)) e
      ∙ ap (λ b. cond b (first_failed passes behind (behind s (length before) i) (number + 1) (placed_from (at + word_count i) code)) (Some at)) (agrees before code s i tells)
      ∙ later (test before i) _ _ at (λ passed. same_place (i ∷ before) (behind s (length before) i) (number + 1) (at + word_count i) code next (goes_on before code s i tells passed))

  no_place : (b : Bool) (later : Option ℕ) (at : ℕ) → cond b later (Some at) ≡ None → (b ≡ true) × (later ≡ None)
  no_place true later at none = (refl, none)
  no_place false later at none = absurd (cc)

  -- Where no instruction fails, what is kept at the end tells of all of them.
  pub tells_all : (before : Code) (s : S) (number at : ℕ) (code : Code) → number ≡ length before → Tells before code s → broken_from test before (placed_from at code) ≡ None →
      Tells (passed before code) [] (kept passes behind s number (placed_from at code))
  unfolding kept
  tells_all before s number at [] e tells none = tells
  tells_all before s number at (i ∷ code) e tells none =
      let parts = no_place (test before i) (broken_from test (i ∷ before) (placed_from (at + word_count i) code)) at none in
      let next : number + 1 ≡ length (i ∷ before) = omega (arith, e) in
      subst (λ n. Tells (passed (i ∷ before) code) [] (kept passes behind (behind s n i) (number + 1) (placed_from (at + word_count i) code))) (sym e)
      (tells_all (i ∷ before) (behind s (length before) i) (number + 1) (at + word_count i) code next (goes_on before code s i tells parts.0) parts.1)

-- A test that does not look at the instructions before keeps nothing of them.
pub blind : {S : Type 0} (seen : S → Module) (rule : Module → Test) → ((m : Module) (before : Code) (i : Instr) → rule m [] i ≡ rule m before i) → (s : S) →
    first_failed (λ (s : S) (at : ℕ) (i : Instr). rule (seen s) [] i) (λ (s : S) (at : ℕ) (i : Instr). s) s 0 (placed (seen s)) ≡ first_broken (rule (seen s)) (seen s)
blind {S} seen rule same s =
    same_place (λ (s : S) (at : ℕ) (i : Instr). rule (seen s) [] i) (λ (s : S) (at : ℕ) (i : Instr). s) (rule (seen s))
    (λ before code t. seen t ≡ seen s)
    (λ before code t i e. ap (λ m. rule m [] i) e ∙ same (seen s) before i)
    (λ before code t i e passed. e)
    [] s 0 header_size (seen s).instrs refl refl
