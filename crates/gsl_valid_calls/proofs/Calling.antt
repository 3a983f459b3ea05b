-- The pass over calls finds what V11 finds.
use Rattle.std.proofs.Common.{◌≡◌, ℕ, ◌+◌, Bool, true, cond, not, ◌&&◌, ◌||◌, List, [], ◌∷◌, length, drop, Option, Some, None, refl, ap, sym, ◌∙◌, if◌then◌else◌, arith}
use Rattle.std.specs.List.{list_all}
use Rattle.gsl_words.specs.declared.module.Instr.{Instr}
use Rattle.gsl_words.specs.declared.module.Module.{Module}
use Rattle.gsl_instr.specs.declared.instruction.Instruction.{Instruction}
use Rattle.gsl_instr.specs.declared.enumerant.storage_class.TheConstants as storage_class
use Rattle.gsl_valid.specs.Instruction.{read}
use Rattle.gsl_valid.specs.IdsDefinedOnce.{ids_defined_once}
use Rattle.gsl_valid.specs.Kinds.{Kind, Asks, Imports, Sets, Enters, Modes, Debugs, Decorates, Declares, Fixes, Holds, Begins, Takes, Calls, Gives, Does, Opens, Merges, Leaves, Ended, Absent, kind, variable_is}
use Rattle.gsl_valid.specs.Placed.{Code, placed, header_size}
use Rattle.gsl_valid.specs.Search.{passed}
use Rattle.gsl_valid.specs.Types.{begins, function_begins, defined_as, is_variable_of}
use Rattle.gsl_valid.specs.Where.{where_at, bounds_one}
use Rattle.gsl_valid.specs.CallRules.{is_pointer, is_own, is_parameter, fits_function, pointers_differ, is_reached, id_in, may_call, call_of, call_kept, calls}
use Rattle.gsl_ids.specs.Pass.{first_failed}
use Rattle.gsl_ids.proofs.Numbers.{same_all}
use Rattle.gsl_ids.proofs.Passes.{same_place}
use Rattle.gsl_ids.proofs.Stands.{Stands, at_start, one_on}
use Rattle.gsl_valid_calls.specs.Calls.{Kept, is_own_from, may_call_from, call_from, caller_after, passes, behind}
use Rattle.gsl_ids.proofs.Bodies.{Since, since_next, as_long, since_defined}

module _ (m : Module) (once : ids_defined_once m ≡ None) where
  -- What the pass keeps.
  record Tells (before code : Code) (s : Kept) : Type 0 where
    same : s.of ≡ m
    stands : Stands m before code
    caller : s.caller ≡ id_in (kind (where_at m before).function)
    body : Since s.body stands.front (where_at m before).body

  own_same : (before code : Code) (s : Kept) → Tells before code s → (id : ℕ) → is_own_from m s.body (length before) id ≡ is_own m (where_at m before).body id
  own_same before code s t id =
      ap (λ b. not (is_pointer m id) || b && (is_variable_of storage_class.FUNCTION (variable_is (defined_as m id)) || is_parameter (defined_as m id)))
      (since_defined m once before code t.stands s.body (where_at m before).body id t.body)

  may_same : (before code : Code) (s : Kept) (type function : ℕ) (arguments : List ℕ) → Tells before code s →
      may_call_from m s.caller s.body (length before) type function arguments ≡ may_call m (where_at m before) type function arguments
  may_same before code s type function arguments t =
      ap (λ b. fits_function m type arguments (kind (defined_as m function)) && b && pointers_differ m arguments && not (is_reached m function s.caller))
      (same_all (is_own_from m s.body (length before)) (is_own m (where_at m before).body) (own_same before code s t) arguments)
      ∙ ap (λ c. fits_function m type arguments (kind (defined_as m function)) && list_all (is_own m (where_at m before).body) arguments && pointers_differ m arguments && not (is_reached m function c))
      t.caller

  call_same : (before code : Code) (s : Kept) → Tells before code s → (k : Kind) → call_from m s.caller s.body (length before) k ≡ call_of m before k
  call_same before code s t Asks = refl
  call_same before code s t Imports = refl
  call_same before code s t Sets = refl
  call_same before code s t (Enters model function name interface) = refl
  call_same before code s t (Modes function mode parts) = refl
  call_same before code s t Debugs = refl
  call_same before code s t (Decorates d) = refl
  call_same before code s t (Declares shape) = refl
  call_same before code s t (Fixes type value) = refl
  call_same before code s t (Holds v) = refl
  call_same before code s t (Begins type id function_type) = refl
  call_same before code s t (Takes type) = refl
  call_same before code s t (Calls type function arguments) = may_same before code s type function arguments t
  call_same before code s t (Gives type) = refl
  call_same before code s t Does = refl
  call_same before code s t Opens = refl
  call_same before code s t Merges = refl
  call_same before code s t Leaves = refl
  call_same before code s t Ended = refl
  call_same before code s t Absent = refl

  agrees : (before code : Code) (s : Kept) (i : Instr) → Tells before (i ∷ code) s → passes s (length before) i ≡ call_kept m before i
  agrees before code s i t = ap (λ n. call_from n s.caller s.body (length before) (kind (read i))) t.same ∙ call_same before (i ∷ code) s t (kind (read i))

  kept_caller : (d f : Option Instruction) → caller_after (id_in (kind f)) (kind d) ≡ id_in (kind (if function_begins d then d else f))
  kept_caller d f = by_kind (kind d) refl
    where
      by_kind : (k : Kind) → kind d ≡ k → caller_after (id_in (kind f)) k ≡ id_in (kind (cond (begins k) d f))
      by_kind Asks e = refl
      by_kind Imports e = refl
      by_kind Sets e = refl
      by_kind (Enters model function name interface) e = refl
      by_kind (Modes function mode parts) e = refl
      by_kind Debugs e = refl
      by_kind (Decorates d) e = refl
      by_kind (Declares shape) e = refl
      by_kind (Fixes type value) e = refl
      by_kind (Holds v) e = refl
      by_kind (Begins type id function_type) e = ap id_in (sym e)
      by_kind (Takes type) e = refl
      by_kind (Calls type function arguments) e = refl
      by_kind (Gives type) e = refl
      by_kind Does e = refl
      by_kind Opens e = refl
      by_kind Merges e = refl
      by_kind Leaves e = refl
      by_kind Ended e = refl
      by_kind Absent e = refl

  goes_on : (before code : Code) (s : Kept) (i : Instr) → Tells before (i ∷ code) s → call_kept m before i ≡ true → Tells (i ∷ before) code (behind s (length before) i)
  goes_on before code s i t passed =
      record {
        same = t.same;
        stands = one_on m before code i t.stands;
        caller = ap (λ c. caller_after c (kind (read i))) t.caller ∙ kept_caller (read i) (where_at m before).function;
        body = since_next s.body (length before) t.stands.front (where_at m before).body i (bounds_one (kind (read i))) (as_long m once before (i ∷ code) t.stands) t.body;
      }

  pub finds : first_failed passes behind (record { of = m; caller = None; body = 0 }) 0 (placed m) ≡ calls m
  finds =
      same_place passes behind (call_kept m) Tells agrees goes_on [] (record { of = m; caller = None; body = 0 }) 0 header_size m.instrs refl
      (record { same = refl; stands = at_start m; caller = refl; body = record { low = omega arith; is = refl } })
