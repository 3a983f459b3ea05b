-- The first instructions that pass a test: as an instruction more is noted, and those at the front of a module.
use Rattle.std.proofs.Common.{◌≡◌, ℕ, zero, suc, ◌+◌, ◌≤◌, Bool, true, false, cond, ◌||◌, [], ◌∷◌, ◌++◌, length, take, drop, Option, refl, ap, sym, ◌∙◌, arith}
use Rattle.std.specs.List.{list_any}
use Rattle.std.proofs.lemmas.List.{drop_all}
use Rattle.std.proofs.lemmas.Bool.{lt-ltb, le-ltb}
use Rattle.std.proofs.Common.{Some, None, is_some}
use Rattle.gsl_words.specs.declared.module.Instr.{Instr}
use Rattle.gsl_words.specs.declared.module.Module.{Module}
use Rattle.gsl_valid.specs.Placed.{Code}
use Rattle.gsl_valid.specs.Search.{passed}
use Rattle.gsl_ids.proofs.Numbers.{passed_length, or_false}
use Rattle.gsl_ids.proofs.Stands.{Stands}
use Rattle.gsl_decorations.specs.Firsts.{is_key, first_from, is_below}

module _ (test : Instr → Bool) where
  pub noted : (at : ℕ) (i : Instr) (code : Code) (b : Bool) (old new : Option ℕ) → test i ≡ b → new ≡ cond b (Some at) old → old ≡ first_from test (at + 1) code →
      new ≡ first_from test at (i ∷ code)
  unfolding first_from
  noted at i code b old new is made behind =
      made ∙ ap (cond b (Some at)) behind ∙ ap (λ b. cond b (Some at) (first_from test (at + 1) code)) (sym is)

  -- no number of what comes later is as small as those of what came before
  not_yet : (at least : ℕ) (code : Code) → least ≤ at → is_below least (first_from test at code) ≡ false
  unfolding first_from
  not_yet at least [] low = refl
  not_yet at least (i ∷ code) low = by_cases (test i) (not_yet (at + 1) least code (omega (arith, low)))
    where
      by_cases : (b : Bool) → is_below least (first_from test (at + 1) code) ≡ false → is_below least (cond b (Some at) (first_from test (at + 1) code)) ≡ false
      by_cases true later = le-ltb at least low
      by_cases false later = later

  -- the first is among so many exactly where one of those passes
  pub in_front : (at count : ℕ) (code : Code) → is_below (at + count) (first_from test at code) ≡ list_any test (take count code)
  unfolding first_from
  in_front at zero code = let e : at + 0 ≡ at = omega arith in ap (λ n. is_below n (first_from test at code)) e ∙ not_yet at at code (omega arith)
  in_front at (suc count) [] = refl
  in_front at (suc count) (i ∷ code) = by_cases (test i) (in_front (at + 1) count code)
    where
      by_cases : (b : Bool) → is_below (at + 1 + count) (first_from test (at + 1) code) ≡ list_any test (take count code) →
          is_below (at + suc count) (cond b (Some at) (first_from test (at + 1) code)) ≡ (b || list_any test (take count code))
      by_cases true later = lt-ltb at (at + suc count) (omega arith)
      by_cases false later = let e : at + suc count ≡ at + 1 + count = omega arith in ap (λ n. is_below n (first_from test (at + 1) code)) e ∙ later

  pub in_front_of_all : (count : ℕ) (code : Code) → is_below count (first_from test 0 code) ≡ list_any test (take count code)
  in_front_of_all count code = let e : count ≡ 0 + count = omega arith in ap (λ n. is_below n (first_from test 0 code)) e ∙ in_front 0 count code

  pub none_behind : (at : ℕ) (code : Code) → length code ≤ at → first_from test at (drop at code) ≡ None
  unfolding first_from
  none_behind at code over = ap (first_from test at) (drop_all at code over)

  -- one has a number exactly where one passes
  pub somewhere : (at : ℕ) (code : Code) → is_some (first_from test at code) ≡ list_any test code
  unfolding first_from
  somewhere at [] = refl
  somewhere at (i ∷ code) = by_cases (test i) (somewhere (at + 1) code)
    where
      by_cases : (b : Bool) → is_some (first_from test (at + 1) code) ≡ list_any test code → is_some (cond b (Some at) (first_from test (at + 1) code)) ≡ (b || list_any test code)
      by_cases true later = refl
      by_cases false later = later

-- What is found by keys: as an instruction more is noted for its key, or for none.
module _ {K : Type 0} (eq : K → K → Bool) (has : K → Instr → Bool) (at : ℕ) (i : Instr) (code rest : Code) (found : Option K) (old : K → Option ℕ) (cut : code ≡ i ∷ rest)
    (keyed : (key : K) → has key i ≡ is_key eq key found) (behind : (key : K) → old key ≡ first_from (has key) (at + 1) rest) where
  pub key_noted : (k : K) (new : K → Option ℕ) → found ≡ Some k → ((key : K) → new key ≡ cond (eq k key) (Some at) (old key)) → (key : K) → new key ≡ first_from (has key) at code
  key_noted k new is made key =
      noted (has key) at i rest (eq k key) (old key) (new key) (keyed key ∙ ap (is_key eq key) is) (made key) (behind key) ∙ sym (ap (first_from (has key) at) cut)

  pub none_noted : found ≡ None → (key : K) → old key ≡ first_from (has key) at code
  none_noted is key =
      noted (has key) at i rest false (old key) (old key) (keyed key ∙ ap (is_key eq key) is) refl (behind key) ∙ sym (ap (first_from (has key) at) cut)

-- What stands before, read either way ----------------------------------------------------------------------------

swap : (a b c : Bool) → (a || (b || c)) ≡ ((b || a) || c)
swap true true c = refl
swap true false c = refl
swap false true c = refl
swap false false c = refl

module _ (test : Instr → Bool) where
  turned : (before code : Code) → list_any test (passed before code) ≡ (list_any test code || list_any test before)
  turned before [] = refl
  turned before (i ∷ code) = turned (i ∷ before) code ∙ swap (list_any test code) (test i) (list_any test before)

  front_taken : (front code : Code) → take (length front) (front ++ code) ≡ front
  front_taken [] code = refl
  front_taken (i ∷ front) code = ap (λ l. i ∷ l) (front_taken front code)

  -- whether one of those before passes, whichever way they are read
  pub any_before : (m : Module) (before code : Code) → Stands m before code → list_any test (take (length before) m.instrs) ≡ list_any test before
  any_before m before code s =
      let count : length before ≡ length s.front = let h = passed_length [] s.front in ap length s.behind ∙ (let e : length (passed [] s.front) ≡ length s.front = omega (arith, h) in e) in
      ap (λ n. list_any test (take n m.instrs)) count ∙ ap (λ c. list_any test (take (length s.front) c)) s.whole
      ∙ ap (list_any test) (front_taken s.front code)
      ∙ sym (ap (list_any test) s.behind ∙ turned [] s.front ∙ or_false (list_any test s.front))
