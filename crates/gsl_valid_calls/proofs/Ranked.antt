-- Where no function calls one of a higher rank, none reaches one of a higher rank.
use Rattle.std.proofs.Common.{◌≡◌, sym, ap, ◌∙◌, refl, ℕ, zero, suc, ◌+◌, ◌<◌, ◌≤◌, ◌⊎◌, inl, inr, Bool, true, false, cond, ◌||◌, ◌&&◌, List, [], ◌∷◌, length, subst, ⊎_elim, arith}
use Rattle.std.specs.Prelude.{nat_eq, nat_le, slice_index, Option, Some, None}
use Rattle.std.specs.List.{list_any, list_all}
use Rattle.std.proofs.lemmas.Bool.{or_cases, or_left, or_right, and_parts, true≢false, false≢true, eqb-true, eq-eqb, leb-true}
use Rattle.gsl_words.specs.declared.module.Instr.{Instr}
use Rattle.gsl_words.specs.declared.module.Module.{Module}
use Rattle.gsl_instr.specs.declared.instruction.Instruction.{Instruction}
use Rattle.gsl_instr.specs.declared.instruction.Instruction.TheVariants as instruction
use Rattle.gsl_instr.specs.Instructions.{result_of}
use Rattle.gsl_valid.specs.Instruction.{read}
use Rattle.gsl_valid.specs.Ids.{result, is_id, defines}
use Rattle.gsl_valid.specs.Kinds.{Kind, Asks, Imports, Sets, Enters, Modes, Debugs, Decorates, Declares, Fixes, Holds, Begins, Takes, Calls, Gives, Does, Opens, Merges, Leaves, Ended, Absent, kind, kind_of}
use Rattle.gsl_valid.specs.Placed.{Code}
use Rattle.gsl_valid.specs.Types.{begins, function_begins}
use Rattle.gsl_valid.specs.CallRules.{called, called_by, reaches_by, leads_to, id_in}
use Rattle.gsl_valid_calls.proofs.Begun.{begins_it, some≢none, some_same}
use Rattle.gsl_valid_calls.specs.Ranks.{is_ranked, are_ranked, Ranked}

one_of : (test : ℕ → Bool) (xs : List ℕ) (x : ℕ) → list_all test xs ≡ true → list_any (nat_eq x) xs ≡ true → test x ≡ true
one_of test [] x all e = absurd (false≢true e)
one_of test (y ∷ xs) x all e =
    let p = and_parts (test y) (list_all test xs) all in
    ⊎_elim (λ same. ap test (eqb-true x y same) ∙ p.0) (λ later. one_of test xs x p.1 later) (or_cases (nat_eq x y) (list_any (nat_eq x) xs) e)

record Found (test : ℕ → Bool) (xs : List ℕ) : Type 0 where
  item : ℕ
  within : list_any (nat_eq item) xs ≡ true
  passes : test item ≡ true

any_found : (test : ℕ → Bool) (xs : List ℕ) → list_any test xs ≡ true → Found test xs
any_found test [] e = absurd (false≢true e)
any_found test (x ∷ xs) e =
    ⊎_elim (λ here. record { item = x; within = or_left (nat_eq x x) (list_any (nat_eq x) xs) (eq-eqb x x refl); passes = here })
    (λ later. let f = any_found test xs later in record { item = f.item; within = or_right (nat_eq f.item x) (list_any (nat_eq f.item) xs) f.within; passes = f.passes })
    (or_cases (test x) (list_any test xs) e)

module _ (ranks : List ℕ) (m : Module) where
  all_at : (k : Kind) (id : ℕ) → id_in k ≡ Some id → is_ranked ranks m.instrs k ≡ true →
      list_all (λ next. nat_le (slice_index ranks next) (slice_index ranks id)) (called_by m.instrs id) ≡ true
  all_at Asks id is all = absurd (some≢none id (sym is))
  all_at Imports id is all = absurd (some≢none id (sym is))
  all_at Sets id is all = absurd (some≢none id (sym is))
  all_at (Enters model function name interface) id is all = absurd (some≢none id (sym is))
  all_at (Modes function mode parts) id is all = absurd (some≢none id (sym is))
  all_at Debugs id is all = absurd (some≢none id (sym is))
  all_at (Decorates d) id is all = absurd (some≢none id (sym is))
  all_at (Declares shape) id is all = absurd (some≢none id (sym is))
  all_at (Fixes type value) id is all = absurd (some≢none id (sym is))
  all_at (Holds v) id is all = absurd (some≢none id (sym is))
  all_at (Begins type made function_type) id is all = subst (λ k. list_all (λ next. nat_le (slice_index ranks next) (slice_index ranks k)) (called_by m.instrs k) ≡ true) (some_same made id is) all
  all_at (Takes type) id is all = absurd (some≢none id (sym is))
  all_at (Calls type function arguments) id is all = absurd (some≢none id (sym is))
  all_at (Gives type) id is all = absurd (some≢none id (sym is))
  all_at Does id is all = absurd (some≢none id (sym is))
  all_at Opens id is all = absurd (some≢none id (sym is))
  all_at Merges id is all = absurd (some≢none id (sym is))
  all_at Leaves id is all = absurd (some≢none id (sym is))
  all_at Ended id is all = absurd (some≢none id (sym is))
  all_at Absent id is all = absurd (some≢none id (sym is))

  found_in : (code : Code) (id next : ℕ) → list_all (λ i. is_ranked ranks m.instrs (kind (read i))) code ≡ true → list_any (nat_eq next) (called_by code id) ≡ true →
      list_all (λ next. nat_le (slice_index ranks next) (slice_index ranks id)) (called_by m.instrs id) ≡ true
  found_in [] id next all e = absurd (false≢true e)
  found_in (i ∷ code) id next all e =
      let parts = and_parts (is_ranked ranks m.instrs (kind (read i))) (list_all (λ i. is_ranked ranks m.instrs (kind (read i))) code) all in
      by_cases parts.0 (λ later. found_in code id next parts.1 later) (function_begins (read i) && defines i id) refl e
    where
      by_cases : is_ranked ranks m.instrs (kind (read i)) ≡ true →
          (list_any (nat_eq next) (called_by code id) ≡ true → list_all (λ next. nat_le (slice_index ranks next) (slice_index ranks id)) (called_by m.instrs id) ≡ true) →
          (b : Bool) → (function_begins (read i) && defines i id) ≡ b → list_any (nat_eq next) (cond b (called code) (called_by code id)) ≡ true →
          list_all (λ next. nat_le (slice_index ranks next) (slice_index ranks id)) (called_by m.instrs id) ≡ true
      by_cases one later true is e = all_at (kind (read i)) id (begins_it i id is) one
      by_cases one later false is e = later e

  pub ranked : are_ranked ranks m ≡ true → Ranked ranks m
  ranked all id next e =
      leb-true (slice_index ranks next) (slice_index ranks id)
      (one_of (λ next. nat_le (slice_index ranks next) (slice_index ranks id)) (called_by m.instrs id) next (found_in m.instrs id next all e) e)

  module _ (low : Ranked ranks m) where
    same_low : (from id : ℕ) → nat_eq from id ≡ true → slice_index ranks id ≤ slice_index ranks from
    same_low from id e = let same : slice_index ranks id ≡ slice_index ranks from = ap (slice_index ranks) (sym (eqb-true from id e)) in omega (arith, same)

    no_higher : (n from id : ℕ) → reaches_by m.instrs n from id ≡ true → slice_index ranks id ≤ slice_index ranks from
    unfolding reaches_by
    no_higher zero from id e = same_low from id e
    no_higher (suc n) from id e =
        ⊎_elim (same_low from id)
        (λ way.
        let f = any_found (λ next. reaches_by m.instrs n next id) (called_by m.instrs from) way in
        let one = low from f.item f.within in
        let rest = no_higher n f.item id f.passes in
        omega (arith, one, rest))
        (or_cases (nat_eq from id) (list_any (λ next. reaches_by m.instrs n next id) (called_by m.instrs from)) e)

    pub not_reached : (from id : ℕ) → slice_index ranks from < slice_index ranks id → leads_to m from id ≡ false
    not_reached from id less = by_cases (leads_to m from id) refl
      where
        by_cases : (b : Bool) → leads_to m from id ≡ b → b ≡ false
        by_cases false e = refl
        by_cases true e = let h = no_higher (length m.instrs) from id e in absurd (omega (arith, h, less))
