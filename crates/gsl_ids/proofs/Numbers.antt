-- The number of an id says whether it is defined, and whether before a place.
use Rattle.std.proofs.Common.{◌≡◌, ℕ, ◌+◌, ◌≤◌, Bool, true, false, cond, ◌&&◌, ◌||◌, List, [], ◌∷◌, ◌++◌, length, refl, ap, sym, ◌∙◌, arith}
use Rattle.std.specs.Prelude.{nat_lt, nat_le}
use Rattle.std.specs.List.{list_all}
use Rattle.std.proofs.lemmas.Bool.{lt-ltb, le-leb, lt-leb}
use Rattle.gsl_words.specs.declared.module.Module.{Module}
use Rattle.gsl_valid.specs.Placed.{Code}
use Rattle.gsl_valid.specs.Search.{passed}
use Rattle.gsl_valid.specs.Ids.{defines, defined}
use Rattle.gsl_ids.specs.Table.{number_from, is_defined_in}
use Rattle.gsl_ids.proofs.Stands.{Stands}

pub same_all : (f g : ℕ → Bool) → ((x : ℕ) → f x ≡ g x) → (xs : List ℕ) → list_all f xs ≡ list_all g xs
same_all f g same [] = refl
same_all f g same (x ∷ xs) = ap (λ b. b && list_all f xs) (same x) ∙ ap (λ b. g x && b) (same_all f g same xs)

-- an id has a number exactly where it is defined
pub has_number : (at : ℕ) (code : Code) (id : ℕ) → nat_lt 0 (number_from at code id) ≡ defined code id
unfolding number_from
has_number at [] id = refl
has_number at (i ∷ code) id = by_cases (defines i id) (has_number (at + 1) code id)
  where
    by_cases : (b : Bool) → nat_lt 0 (number_from (at + 1) code id) ≡ defined code id → nat_lt 0 (cond b (at + 1) (number_from (at + 1) code id)) ≡ (b || defined code id)
    by_cases true later = lt-ltb 0 (at + 1) (omega arith)
    by_cases false later = later

-- no number of what comes later is as small as those of what came before
not_yet : (at least : ℕ) (code : Code) (id : ℕ) → least ≤ at → (nat_lt 0 (number_from at code id) && nat_le (number_from at code id) least) ≡ false
unfolding number_from
not_yet at least [] id low = refl
not_yet at least (i ∷ code) id low = by_cases (defines i id) (not_yet (at + 1) least code id (omega (arith, low)))
  where
    by_cases : (b : Bool) → (nat_lt 0 (number_from (at + 1) code id) && nat_le (number_from (at + 1) code id) least) ≡ false →
        (nat_lt 0 (cond b (at + 1) (number_from (at + 1) code id)) && nat_le (cond b (at + 1) (number_from (at + 1) code id)) least) ≡ false
    by_cases true later = ap (λ b. b && nat_le (at + 1) least) (lt-ltb 0 (at + 1) (omega arith)) ∙ lt-leb (at + 1) least (omega (arith, low))
    by_cases false later = later

pub in_front : (at : ℕ) (front code : Code) (id : ℕ) →
    (nat_lt 0 (number_from at (front ++ code) id) && nat_le (number_from at (front ++ code) id) (at + length front)) ≡ defined front id
unfolding number_from
in_front at [] code id = not_yet at (at + 0) code id (omega arith)
in_front at (i ∷ front) code id = by_cases (defines i id) (in_front (at + 1) front code id)
  where
    by_cases : (b : Bool) →
        (nat_lt 0 (number_from (at + 1) (front ++ code) id) && nat_le (number_from (at + 1) (front ++ code) id) (at + 1 + length front)) ≡ defined front id →
        (nat_lt 0 (cond b (at + 1) (number_from (at + 1) (front ++ code) id)) && nat_le (cond b (at + 1) (number_from (at + 1) (front ++ code) id)) (at + length (i ∷ front)))
        ≡ (b || defined front id)
    by_cases true later =
        ap (λ b. b && nat_le (at + 1) (at + length (i ∷ front))) (lt-ltb 0 (at + 1) (omega arith)) ∙ le-leb (at + 1) (at + length (i ∷ front)) (omega arith)
    by_cases false later =
        let same : at + length (i ∷ front) ≡ at + 1 + length front = omega arith in
        ap (λ n. nat_lt 0 (number_from (at + 1) (front ++ code) id) && nat_le (number_from (at + 1) (front ++ code) id) n) same ∙ later

pub turned : (before code : Code) (id : ℕ) → defined (passed before code) id ≡ (defined code id || defined before id)
turned before [] id = refl
turned before (i ∷ code) id = turned (i ∷ before) code id ∙ swap (defined code id) (defines i id) (defined before id)
  where
    swap : (a b c : Bool) → (a || (b || c)) ≡ ((b || a) || c)
    swap true true c = refl
    swap true false c = refl
    swap false true c = refl
    swap false false c = refl

pub or_false : (b : Bool) → (b || false) ≡ b
or_false true = refl
or_false false = refl

pub passed_length : (before code : Code) → length (passed before code) ≡ length before + length code
passed_length before [] = let e : length before ≡ length before + 0 = omega arith in e
passed_length before (i ∷ code) = let h = passed_length (i ∷ before) code in omega (arith, h)

-- An id has a number up to the count of the instructions before exactly where one of them defines it.
pub defined_here : (m : Module) (before code : Code) (s : Stands m before code) (id : ℕ) → is_defined_in m (length before) id ≡ defined before id
defined_here m before code s id =
    let h = passed_length [] s.front in
    let count : length before ≡ 0 + length s.front = ap length s.behind ∙ h in
    ap (λ c. nat_lt 0 (number_from 0 c id) && nat_le (number_from 0 c id) (length before)) s.whole
    ∙ ap (λ k. nat_lt 0 (number_from 0 (s.front ++ code) id) && nat_le (number_from 0 (s.front ++ code) id) k) count ∙ in_front 0 s.front code id
    ∙ sym (ap (λ b. defined b id) s.behind ∙ turned [] s.front id ∙ or_false (defined s.front id))
