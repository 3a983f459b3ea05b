-- What the table of depths tells: whether there are so many calls one within the other.
use Rattle.std.proofs.Common.{◌≡◌, ℕ, zero, suc, ◌+◌, ◌<◌, ◌≤◌, Bool, true, false, cond, ◌||◌, ◌&&◌, max, min, List, [], ◌∷◌, length, set, get_or, replicate, Option, Some, None, refl, ap, sym, ◌∙◌, ◌⊎◌, inl, inr, ◌≢◌, ⊎_elim, subst, arith}
use Rattle.std.specs.Prelude.{nat_le, nat_lt, nat_eq, not}
use Rattle.std.specs.List.{list_any, cons_option}
use Rattle.std.proofs.lemmas.Bool.{true≢false, false≢true, cases_eq, cases_lt, eq-eqb, ne_eqb, or_cases, or_left, or_right, and_parts, ltb-true, leb-true, le-leb}
use Rattle.std.proofs.lemmas.List.{get_or-set_same, get_or-set_other, length-set}
use Rattle.gsl_words.specs.declared.module.Instr.{Instr}
use Rattle.gsl_words.specs.declared.module.Module.{Module}
use Rattle.gsl_valid.specs.Instruction.{read}
use Rattle.gsl_valid.specs.Ids.{result, is_id, defines, defined}
use Rattle.gsl_valid.specs.IdsDefinedOnce.{defines_once, is_new, ids_defined_once}
use Rattle.gsl_valid.specs.Kinds.{Kind, Asks, Imports, Sets, Enters, Modes, Debugs, Decorates, Declares, Fixes, Holds, Begins, Takes, Calls, Gives, Does, Opens, Merges, Leaves, Ended, Absent, kind}
use Rattle.gsl_valid.specs.Placed.{Code}
use Rattle.gsl_valid.specs.Search.{Passes}
use Rattle.gsl_valid.specs.Types.{begins}
use Rattle.gsl_valid.specs.CallRules.{called, called_by, callee_in, is_last, has_chain, id_in}
use Rattle.gsl_valid.proofs.Searching.{each_passes}
use Rattle.gsl_valid_calls.specs.Depths.{Swept, one_more, swept, deepened, TellDepths}
use Rattle.gsl_valid_calls.proofs.Begun.{begun_is}
use Rattle.gsl_valid_calls.proofs.Rows.{zeros}

-- The numbers up to a bound that pass are those up to another.
record Measures (n : ℕ) (passes : ℕ → Bool) (v : ℕ) : Type 0 where
  sound : (k : ℕ) → k ≤ n → k ≤ v → passes k ≡ true
  full : (k : ℕ) → k ≤ n → passes k ≡ true → k ≤ v

moved : (n : ℕ) (p q : ℕ → Bool) (v w : ℕ) → Measures n p v → ((k : ℕ) → q k ≡ p k) → w ≡ v → Measures n q w
moved n p q v w m same e =
    record {
      sound = λ k low under. same k ∙ m.sound k low (omega (arith, under, e));
      full = λ k low passes. let h = m.full k low (sym (same k) ∙ passes) in omega (arith, h, e);
    }

as_many : (n : ℕ) → length {A = ℕ} (replicate n 0) ≡ n
as_many zero = refl
as_many (suc n) = ap suc (as_many n)

module _ (whole : Code) where
  -- whether there are so many calls one within the other from these functions on, their own call among them
  abbrev over : List ℕ → ℕ → Bool
  over calls zero = true
  over calls (suc k) = list_any (has_chain whole k) calls

  none_over : (n v : ℕ) → v ≡ 0 → Measures n (over []) v
  none_over n v e =
      record {
        sound = λ k low under. none k (let h : k ≤ 0 = omega (arith, under, e) in h);
        full = λ k low passes. at_most k passes v;
      }
    where
      none : (k : ℕ) → k ≤ 0 → over [] k ≡ true
      none zero low = refl
      none (suc k) low = absurd (omega (arith, low))

      at_most : (k : ℕ) → over [] k ≡ true → (v : ℕ) → k ≤ v
      at_most zero passes v = omega arith
      at_most (suc k) passes v = absurd (false≢true passes)

  from_one : (k from : ℕ) → has_chain whole k from ≡ over (called_by whole from) k
  unfolding has_chain
  from_one zero from = refl
  from_one (suc k) from = refl

  -- A table tells of each function how deeply calls nest from it on, up to a bound.
  abbrev Table : ℕ → List ℕ → Type 0
  Table n rows = (id : ℕ) → Measures n (λ k. has_chain whole k id) (get_or rows id 0)

  more : (n : ℕ) (calls : List ℕ) (f depth old : ℕ) → n < 65 → Measures n (λ k. has_chain whole k f) old → Measures (n + 1) (over calls) depth →
      Measures (n + 1) (over (f ∷ calls)) (max depth (min 65 (1 + old)))
  more n calls f depth old small callee rest = record { sound = sound; full = full }
    where
      sound : (k : ℕ) → k ≤ n + 1 → k ≤ max depth (min 65 (1 + old)) → over (f ∷ calls) k ≡ true
      sound zero low under = refl
      sound (suc k) low under =
          ⊎_elim (λ less. or_left (has_chain whole k f) (list_any (has_chain whole k) calls) (callee.sound k (omega (arith, low)) (omega (arith, under, less))))
          (λ l. or_right (has_chain whole k f) (list_any (has_chain whole k) calls) (rest.sound (suc k) low l)) (cases_lt depth (suc k))

      full : (k : ℕ) → k ≤ n + 1 → over (f ∷ calls) k ≡ true → k ≤ max depth (min 65 (1 + old))
      full zero low passes = omega arith
      full (suc k) low passes =
          ⊎_elim (λ here. let h = callee.full k (omega (arith, low)) here in omega (arith, h, low, small))
          (λ there. let h = rest.full (suc k) low there in omega (arith, h))
          (or_cases (has_chain whole k f) (list_any (has_chain whole k) calls) passes)

  -- What is told of code, by its calls and those of its functions.
  record Told (n bound : ℕ) (calls : List ℕ) (by : ℕ → List ℕ) (s : Swept) : Type 0 where
    room : length s.rows ≡ bound
    depth : Measures (n + 1) (over calls) s.depth
    rows : (id : ℕ) → Measures (n + 1) (over (by id)) (get_or s.rows id 0)

  begun : (n bound : ℕ) (code : Code) (i : Instr) (s : Swept) (id : ℕ) → id < bound → result (read i) ≡ Some id → Told n bound (called code) (called_by code) s →
      Told n bound (called code) (λ k. cond (defines i k) (called code) (called_by code k)) (record { rows = set s.rows id s.depth; depth = s.depth })
  begun n bound code i s id small is t =
      let room = t.room in
      record {
        room = length-set s.rows id s.depth ∙ room;
        depth = t.depth;
        rows = λ k. by_cases k (cases_eq id k);
      }
    where
      by_cases : (k : ℕ) → (id ≡ k) ⊎ (id ≢ k) → Measures (n + 1) (over (cond (defines i k) (called code) (called_by code k))) (get_or (set s.rows id s.depth) k 0)
      by_cases k (inl same) =
          let defined : defines i k ≡ true = ap (is_id k) is ∙ eq-eqb id k same in
          let room = t.room in
          moved (n + 1) (over (called code)) _ s.depth _ t.depth (λ j. ap (λ b. over (cond b (called code) (called_by code k)) j) defined)
          (ap (λ j. get_or (set s.rows id s.depth) j 0) (sym same) ∙ get_or-set_same s.rows id s.depth 0 (omega (arith, small, room)))
      by_cases k (inr other) =
          let defined : defines i k ≡ false = ap (is_id k) is ∙ ne_eqb id k other in
          moved (n + 1) (over (called_by code k)) _ (get_or s.rows k 0) _ (t.rows k) (λ j. ap (λ b. over (cond b (called code) (called_by code k)) j) defined)
          (get_or-set_other s.rows id k s.depth 0 (λ e. other (sym e)))

  begins_some : (i : Instr) (type id function_type : ℕ) → kind (read i) ≡ Begins type id function_type → result (read i) ≡ Some id
  begins_some i type id function_type e =
      ⊎_elim (λ none. absurd (some≢none (sym (ap id_in e) ∙ none))) (λ same. sym same ∙ ap id_in e) (begun_is (read i))
    where
      some≢none : Some id ≡ None → ⊥
      some≢none same = absurd (cc)

  step : (n bound : ℕ) (old : List ℕ) (code : Code) (i : Instr) (s : Swept) → n < 65 → Table n old → ((id : ℕ) → result (read i) ≡ Some id → id < bound) →
      (k : Kind) → kind (read i) ≡ k → Told n bound (called code) (called_by code) s →
      Told n bound (cond (is_last k) [] (cons_option (callee_in k) (called code))) (λ j. cond (begins k && defines i j) (called code) (called_by code j)) (one_more old s k)
  step n bound old code i s small table room Asks e t = t
  step n bound old code i s small table room Imports e t = t
  step n bound old code i s small table room Sets e t = t
  step n bound old code i s small table room (Enters model function name interface) e t = t
  step n bound old code i s small table room (Modes function mode parts) e t = t
  step n bound old code i s small table room Debugs e t = t
  step n bound old code i s small table room (Decorates d) e t = t
  step n bound old code i s small table room (Declares shape) e t = t
  step n bound old code i s small table room (Fixes type value) e t = t
  step n bound old code i s small table room (Holds v) e t = t
  step n bound old code i s small table room (Begins type id function_type) e t = begun n bound code i s id (room id (begins_some i type id function_type e)) (begins_some i type id function_type e) t
  step n bound old code i s small table room (Takes type) e t = t
  step n bound old code i s small table room (Calls type function arguments) e t = record { room = t.room; depth = more n (called code) function s.depth (get_or old function 0) small (table function) t.depth; rows = t.rows }
  step n bound old code i s small table room (Gives type) e t = t
  step n bound old code i s small table room Does e t = t
  step n bound old code i s small table room Opens e t = t
  step n bound old code i s small table room Merges e t = t
  step n bound old code i s small table room Leaves e t = t
  step n bound old code i s small table room Ended e t = record { room = t.room; depth = none_over (n + 1) 0 refl; rows = t.rows }
  step n bound old code i s small table room Absent e t = t

  below_bound : (bound : ℕ) (before : Code) (i : Instr) (id : ℕ) → defines_once bound before i ≡ true → result (read i) ≡ Some id → id < bound
  below_bound bound before i id new is =
      let p : is_new bound before (Some id) ≡ true = ap (is_new bound before) (sym is) ∙ new in
      ltb-true id bound (and_parts (nat_le 1 id) (nat_lt id bound) (and_parts (nat_le 1 id && nat_lt id bound) (not (defined before id)) p).0).1

  told : (n bound : ℕ) (old : List ℕ) → n < 65 → Table n old → length old ≡ bound → (before code : Code) → Passes (defines_once bound) before code →
      Told n bound (called code) (called_by code) (swept old code)
  told n bound old small table room before [] all =
      record {
        room = as_many (length old) ∙ room;
        depth = none_over (n + 1) 0 refl;
        rows = λ id. none_over (n + 1) (get_or (replicate (length old) 0) id 0) (zeros (length old) id);
      }
  told n bound old small table room before (i ∷ code) all =
      step n bound old code i (swept old code) small table (λ id is. below_bound bound before i id all.0 is) (kind (read i)) refl
      (told n bound old small table room (i ∷ before) code all.1)

  again : (bound left n : ℕ) (rows : List ℕ) → Passes (defines_once bound) [] whole → left + n ≡ 65 → Table n rows → length rows ≡ bound → Table 65 (deepened left whole rows)
  unfolding deepened
  again bound zero n rows all count table room = let e : n ≡ 65 = omega (arith, count) in λ id. subst (λ n. Measures n (λ k. has_chain whole k id) (get_or rows id 0)) e (table id)
  again bound (suc left) n rows all count table room =
      let t = told n bound rows (omega (arith, count)) table room [] whole all in
      again bound left (n + 1) (swept rows whole).rows all (omega (arith, count))
      (λ id. moved (n + 1) (over (called_by whole id)) (λ k. has_chain whole k id) _ _ (t.rows id) (λ k. from_one k id) refl) t.room

  pub settled : (n : ℕ) (rows : List ℕ) → (swept rows whole).rows ≡ rows → deepened n whole rows ≡ rows
  unfolding deepened
  settled zero rows e = refl
  settled (suc n) rows e = ap (deepened n whole) e ∙ settled n rows e

  pub once_more : (n left : ℕ) (rows next : List ℕ) → left ≡ n + 1 → next ≡ (swept rows whole).rows → deepened n whole next ≡ deepened left whole rows
  unfolding deepened
  once_more n left rows next count e =
      let count' : suc n ≡ left = omega (arith, count) in
      ap (deepened n whole) e ∙ ap (λ k. deepened k whole rows) count'

  pub finished : (left : ℕ) (rows : List ℕ) → left ≡ 0 → rows ≡ deepened left whole rows
  unfolding deepened
  finished left rows e = ap (λ k. deepened k whole rows) (sym e)

  no_chain : (id k : ℕ) → k ≤ 0 → has_chain whole k id ≡ true
  unfolding has_chain
  no_chain id zero low = refl
  no_chain id (suc k) low = absurd (omega (arith, low))

  -- whatever a table has in it
  at_start : (rows : List ℕ) → Table 0 rows
  at_start rows id = record { sound = λ k low under. no_chain id k low; full = λ k low passes. omega (arith, low) }

same_truth : (a b : Bool) → (a ≡ true → b ≡ true) → (b ≡ true → a ≡ true) → a ≡ b
same_truth true b to from = sym (to refl)
same_truth false true to from = from refl
same_truth false false to from = refl

-- Calls nest more deeply than they may exactly where the table has its greatest number, whatever it was begun with.
pub deep_is : (m : Module) (rows : List ℕ) → ids_defined_once m ≡ None → length rows ≡ m.bound → TellDepths (deepened 65 m.instrs rows) m
deep_is m rows once room id =
    let last = deepened 65 m.instrs rows in
    let table : (id : ℕ) → Measures 65 (λ k. has_chain m.instrs k id) (get_or last id 0) =
    again m.instrs m.bound 65 0 rows (each_passes (defines_once m.bound) m once) (omega arith) (at_start m.instrs rows) room in
    let t = table id in
    same_truth _ _ (λ e. t.sound 65 (omega arith) (leb-true 65 (get_or last id 0) e)) (λ e. le-leb 65 (get_or last id 0) (t.full 65 (omega arith) e))
