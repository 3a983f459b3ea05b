-- Which ids a function's body defines, by their numbers.
use Rattle.std.proofs.Common.{◌≡◌, ℕ, zero, suc, ◌+◌, ◌≤◌, Bool, true, false, true≢false, cond, not, ◌&&◌, ◌||◌, [], ◌∷◌, ◌++◌, length, drop, Option, Some, None, refl, ap, sym, subst, ◌∙◌, arith}
use Rattle.std.specs.Prelude.{nat_lt, nat_le, nat_eq}
use Rattle.std.proofs.lemmas.Bool.{and_parts, or_left, or_right, not-true, lt-ltb, le-ltb, eqb-true}
use Rattle.std.proofs.lemmas.List.{drop_all, length_push}
use Rattle.gsl_words.specs.declared.module.Instr.{Instr}
use Rattle.gsl_words.specs.declared.module.Module.{Module}
use Rattle.gsl_valid.specs.Instruction.{read}
use Rattle.gsl_valid.specs.Ids.{result, is_id, defines, defined}
use Rattle.gsl_valid.specs.IdsDefinedOnce.{defines_once, is_new, ids_defined_once}
use Rattle.gsl_valid.specs.Placed.{Code}
use Rattle.gsl_valid.specs.Search.{Passes, passed}
use Rattle.gsl_valid.proofs.Searching.{passed_append, each_passes}
use Rattle.gsl_ids.specs.Table.{number_from, is_defined_from}
use Rattle.gsl_ids.proofs.Numbers.{in_front, turned, or_false, passed_length}
use Rattle.gsl_ids.proofs.Stands.{Stands}

module _ (bound : ℕ) where
  new_id : (before : Code) (id : ℕ) (r : Option ℕ) → is_new bound before r ≡ true → defined before id ≡ true → is_id id r ≡ false
  new_id before id None new was = refl
  new_id before id (Some n) new was = by_cases (nat_eq n id) refl
    where
      by_cases : (b : Bool) → nat_eq n id ≡ b → b ≡ false
      by_cases false e = refl
      by_cases true e =
          absurd
          (true≢false
          (sym was ∙ sym (ap (defined before) (eqb-true n id e))
          ∙ not-true (defined before n) (and_parts (nat_le 1 n && nat_lt n bound) (not (defined before n)) new).1))

  -- what was defined is not defined again
  pub never_again : (before code : Code) (id : ℕ) → Passes (defines_once bound) before code → defined before id ≡ true → defined code id ≡ false
  never_again before [] id all was = refl
  never_again before (i ∷ code) id all was =
      ap (λ b. b || defined code id) (new_id before id (result (read i)) all.0 was)
      ∙ never_again (i ∷ before) code id all.1 (or_right (defines i id) (defined before id) was)

-- a number counts from where its code begins
counts_from : (at : ℕ) (code : Code) (id : ℕ) → nat_lt at (number_from at code id) ≡ nat_lt 0 (number_from at code id)
unfolding number_from
counts_from at code id = above at at code id (omega arith)
  where
    above : (least at : ℕ) (code : Code) (id : ℕ) → least ≤ at → nat_lt least (number_from at code id) ≡ nat_lt 0 (number_from at code id)
    above least at [] id low = le-ltb least 0 (omega arith)
    above least at (i ∷ code) id low = by_cases (defines i id) (above least (at + 1) code id (omega (arith, low)))
      where
        by_cases : (b : Bool) → nat_lt least (number_from (at + 1) code id) ≡ nat_lt 0 (number_from (at + 1) code id) →
            nat_lt least (cond b (at + 1) (number_from (at + 1) code id)) ≡ nat_lt 0 (cond b (at + 1) (number_from (at + 1) code id))
        by_cases true later = lt-ltb least (at + 1) (omega (arith, low)) ∙ sym (lt-ltb 0 (at + 1) (omega arith))
        by_cases false later = later

front_none : (front rest : Code) (id : ℕ) → defined (front ++ rest) id ≡ false → defined front id ≡ false
front_none [] rest id none = refl
front_none (i ∷ front) rest id none = by_cases (defines i id) (front_none front rest id) none
  where
    by_cases : (b : Bool) → (defined (front ++ rest) id ≡ false → defined front id ≡ false) → (b || defined (front ++ rest) id) ≡ false → (b || defined front id) ≡ false
    by_cases true again none = none
    by_cases false again none = again none

drop_none : (from : ℕ) (code : Code) (id : ℕ) → defined code id ≡ false → defined (drop from code) id ≡ false
drop_none zero code id none = none
drop_none (suc from) [] id none = none
drop_none (suc from) (i ∷ code) id none = by_cases (defines i id) (drop_none from code id) none
  where
    by_cases : (b : Bool) → (defined code id ≡ false → defined (drop from code) id ≡ false) → (b || defined code id) ≡ false → defined (drop from code) id ≡ false
    by_cases true again none = absurd (true≢false none)
    by_cases false again none = again none

-- An id has a number among those of a part of the front exactly where that part defines it.
cut_here : (bound at from : ℕ) (before front rest : Code) (id : ℕ) → Passes (defines_once bound) before (front ++ rest) → from ≤ length front →
    (nat_lt (at + from) (number_from at (front ++ rest) id) && nat_le (number_from at (front ++ rest) id) (at + length front)) ≡ defined (drop from front) id
unfolding number_from
cut_here bound at zero before front rest id all low =
    let e : at + 0 ≡ at = omega arith in
    ap (λ k. nat_lt k (number_from at (front ++ rest) id) && nat_le (number_from at (front ++ rest) id) (at + length front)) e
    ∙ ap (λ b. b && nat_le (number_from at (front ++ rest) id) (at + length front)) (counts_from at (front ++ rest) id) ∙ in_front at front rest id
cut_here bound at (suc from) before [] rest id all low = absurd (omega (arith, low))
cut_here bound at (suc from) before (i ∷ front) rest id all low =
    by_cases (defines i id) refl (cut_here bound (at + 1) from (i ∷ before) front rest id all.1 (omega (arith, low)))
  where
    by_cases : (b : Bool) → defines i id ≡ b →
        (nat_lt (at + 1 + from) (number_from (at + 1) (front ++ rest) id) && nat_le (number_from (at + 1) (front ++ rest) id) (at + 1 + length front)) ≡ defined (drop from front) id →
        (nat_lt (at + suc from) (cond b (at + 1) (number_from (at + 1) (front ++ rest) id)) && nat_le (cond b (at + 1) (number_from (at + 1) (front ++ rest) id)) (at + length (i ∷ front)))
        ≡ defined (drop from front) id
    by_cases true e later =
        ap (λ b. b && nat_le (at + 1) (at + length (i ∷ front))) (le-ltb (at + suc from) (at + 1) (omega arith))
        ∙ sym (drop_none from front id (front_none front rest id (never_again bound (i ∷ before) (front ++ rest) id all.1 (or_left (defines i id) (defined before id) e))))
    by_cases false e later =
        let f : at + suc from ≡ at + 1 + from = omega arith in
        let l : at + length (i ∷ front) ≡ at + 1 + length front = omega arith in
        ap (λ k. nat_lt k (number_from (at + 1) (front ++ rest) id) && nat_le (number_from (at + 1) (front ++ rest) id) (at + length (i ∷ front))) f
        ∙ ap (λ k. nat_lt (at + 1 + from) (number_from (at + 1) (front ++ rest) id) && nat_le (number_from (at + 1) (front ++ rest) id) k) l ∙ later

drop_before : (from : ℕ) (front : Code) (i : Instr) → from ≤ length front → drop from (front ++ i ∷ []) ≡ drop from front ++ i ∷ []
drop_before zero front i low = refl
drop_before (suc from) [] i low = absurd (omega (arith, low))
drop_before (suc from) (j ∷ front) i low = drop_before from front i (omega (arith, low))

-- The last first, a part is what stands in the front from an instruction on.
pub record Since (from : ℕ) (front part : Code) : Type 0 where
  pub low : from ≤ length front
  pub is : part ≡ passed [] (drop from front)

pub since_next : (from at : ℕ) (front part : Code) (i : Instr) (b : Bool) → at ≡ length front → Since from front part →
    Since (cond b (at + 1) from) (front ++ i ∷ []) (cond b [] (i ∷ part))
since_next from at front part i true e s =
    let len = length_push front i in
    let over : length (front ++ i ∷ []) ≤ at + 1 = omega (arith, e, len) in
    record { low = omega (arith, e, len); is = sym (ap (passed []) (drop_all (at + 1) (front ++ i ∷ []) over)) }
since_next from at front part i false e s =
    let len = length_push front i in
    let low = s.low in
    record {
      low = omega (arith, low, len);
      is = ap (λ p. i ∷ p) s.is ∙ sym (passed_append [] (drop from front) (i ∷ [])) ∙ sym (ap (passed []) (drop_before from front i s.low));
    }

module _ (m : Module) (once : ids_defined_once m ≡ None) where
  pub as_long : (before code : Code) (t : Stands m before code) → length before ≡ length t.front
  as_long before code t = let h = passed_length [] t.front in ap length t.behind ∙ h ∙ (let e : 0 + length t.front ≡ length t.front = omega arith in e)

  pub since_defined : (before code : Code) (t : Stands m before code) (from : ℕ) (part : Code) (id : ℕ) → Since from t.front part →
      is_defined_from m from (length before) id ≡ defined part id
  since_defined before code t from part id s =
      let all = subst (Passes (defines_once m.bound) []) t.whole (each_passes (defines_once m.bound) m once) in
      let f : from ≡ 0 + from = omega arith in
      let l : length t.front ≡ 0 + length t.front = omega arith in
      ap (λ c. nat_lt from (number_from 0 c id) && nat_le (number_from 0 c id) (length before)) t.whole
      ∙ ap (λ k. nat_lt k (number_from 0 (t.front ++ code) id) && nat_le (number_from 0 (t.front ++ code) id) (length before)) f
      ∙ ap (λ k. nat_lt (0 + from) (number_from 0 (t.front ++ code) id) && nat_le (number_from 0 (t.front ++ code) id) k) (as_long before code t ∙ l)
      ∙ cut_here m.bound 0 from [] t.front code id all s.low
      ∙ sym (ap (λ p. defined p id) s.is ∙ turned [] (drop from t.front) id ∙ or_false (defined (drop from t.front) id))
