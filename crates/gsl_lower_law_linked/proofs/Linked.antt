-- What programs that are linked keep of how their functions call each other.
use Rattle.std.proofs.Common.{◌≡◌, refl, sym, ap, ◌∙◌, subst, inl, inr, ◌⊎◌, ℕ, zero, suc, ◌<◌, ◌≤◌, Bool, true, false, not, List, [], ◌∷◌, ◌++◌, map, slice_get, Option, Some, None, Ok, arith}
use Rattle.std.specs.Prelude.{nat_eq}
use Rattle.std.specs.List.{AllByRecursion, filter, flat_map, list_any}
use Rattle.std.proofs.lemmas.Bool.{cases_lt, eq-eqb, false≢true, true≢false}
use Rattle.gsl_base.specs.declared.fault.Place.{Place}
use Rattle.gsl_base.specs.declared.stage.Stage.{Stage}
use Rattle.gsl_tree.specs.WellTyped.{IsFunction, IsProgram, program_lists}
use Rattle.gsl_tree.specs.Weights.{calls_of}
use Rattle.gsl_tree.specs.declared.program.Program.{Program}
use Rattle.gsl_tree.specs.declared.unit.Function.{Function}
use Rattle.gsl_tree.specs.declared.unit.TypedUnit.{TypedUnit}
use Rattle.gsl_link.specs.Joined.{Row, fault_of, first_fault, joined, rows}
use Rattle.gsl_link.specs.Rows.{if_so, is_undefined, place_of_main, same_head, second_definition, too_deep, undefined_call}
use Rattle.gsl_link.specs.Units.{AreUnits}
use Rattle.gsl_link.proofs.OneUnit.{joined_is}
use Rattle.gsl_link_alone.proofs.Undefined.{calls_from, program_calls}
use Rattle.gsl_link_alone.proofs.Unlike.{unlike_again, unlike_at}
use Rattle.gsl_link_calls.specs.declared.call.Call.{Call}
use Rattle.gsl_link_calls.specs.Calls.{all_calls, any_nest, function_calls, global_calls}
use Rattle.gsl_link_calls.specs.Ranks.{IsIn}
use Rattle.gsl_link_law.proofs.Agreed.{no_place, none_mapped}
use Rattle.gsl_link_law.proofs.Members.{In, filter_none, in_behind, in_front}
use Rattle.gsl_link_units.specs.Firsts.{again, first_place}
use Rattle.gsl_link_whole.specs.Whole.{all_sizes, whole}
use Rattle.gsl_link_units.specs.Declarations.{sides_of}
use Rattle.gsl_lower_law_linked.specs.Nesting.{AreOnce, MayNest}
use Rattle.gsl_lower_law_linked.proofs.Called.{function_told}

-- an item of a list has what all have
pub all_at : {A : Type 0} (P : A → Type 0) (xs : List A) (k : ℕ) (x : A) → AllByRecursion P xs → slice_get xs k ≡ Some x → P x
all_at P [] zero x all is = absurd (cc)
all_at P [] (suc k) x all is = absurd (cc)
all_at P (y ∷ xs) zero x all is = let same : y ≡ x = cc in subst P same all.0
all_at P (y ∷ xs) (suc k) x all is = all_at P xs k x all.1 is

-- ---- rows that do not apply

abbrev NoRow : Row → Type 0
NoRow row = row.1 ≡ None

no_rows : (all : List Row) → first_fault all ≡ None → AllByRecursion NoRow all
no_rows [] none = tt
no_rows ((code, None) ∷ rest) none = (refl, no_rows rest none)
no_rows ((code, Some place) ∷ rest) none = absurd cc

no_first : (places : List Place) → first_place places ≡ None → places ≡ []
no_first [] none = refl
no_first (place ∷ places) none = absurd cc

not_so : (b : Bool) (place : Place) → if_so b place ≡ None → b ≡ false
not_so false place none = refl
not_so true place none = absurd cc

not_not : (b : Bool) → not b ≡ false → b ≡ true
not_not true is = refl
not_not false is = absurd (true≢false is)

-- a part of a list of lists
in_flat : {S A : Type 0} (part : S → List A) (xs : List S) (k : ℕ) (x : S) (y : A) → slice_get xs k ≡ Some x → In y (part x) → In y (flat_map part xs)
in_flat part [] zero x y at is = absurd (cc)
in_flat part [] (suc k) x y at is = absurd (cc)
in_flat part (z ∷ xs) zero x y at is = let same : z ≡ x = cc in in_front y (part z) (flat_map part xs) (subst (λ s. In y (part s)) (sym same) is)
in_flat part (z ∷ xs) (suc k) x y at is = in_behind y (part z) (flat_map part xs) (in_flat part xs k x y at is)

module _ (stage : Stage) (units : List TypedUnit) (are : AreUnits stage units) (p : Program) (program : IsProgram p) (is : p ≡ whole stage units) (none : fault_of stage units ≡ None) where
  all_none : AllByRecursion NoRow (rows (all_sizes units) (sides_of units) p)
  all_none = subst (λ q. AllByRecursion NoRow (rows (all_sizes units) (sides_of units) q)) (sym is) (no_rows (rows (all_sizes units) (sides_of units) (whole stage units)) none)

  second : second_definition p ≡ None
  second = all_none.1.0

  undefined : undefined_call p (sides_of units) ≡ None
  undefined = all_none.1.1.1.0

  deep : too_deep p ≡ None
  deep = all_none.1.1.1.1.1.1.1.1.0

  -- ---- no two functions have one head

  apart : again same_head p.functions ≡ []
  apart = none_mapped (λ (f : Function). f.place) (again same_head p.functions) (no_first (map (λ (f : Function). f.place) (again same_head p.functions)) second)

  once : AreOnce p
  once j k f g first other same = by (cases_lt j k) (cases_lt k j)
    where
      by : (j < k) ⊎ (k ≤ j) → (k < j) ⊎ (j ≤ k) → j ≡ k
      by (inl less) more = absurd (true≢false (sym (eq-eqb g.prototype f.prototype (sym same)) ∙ unlike_at same_head p.functions (unlike_again same_head p.functions apart) j k f g first other less))
      by (inr more) (inl less) = absurd (true≢false (sym (eq-eqb f.prototype g.prototype same) ∙ unlike_at same_head p.functions (unlike_again same_head p.functions apart) k j g f other first less))
      by (inr more) (inr less) = omega (arith, more, less)

  -- ---- each call leads to a function

  call_defined : (c : Call) → In c (program_calls p) → list_any (λ (f : Function). nat_eq f.prototype c.head) p.functions ≡ true
  call_defined c at =
      let place_of = λ (call : Call). call.place in
      let undefined_calls = filter (is_undefined p) (all_calls (sides_of units)) in
      let empty = none_mapped place_of undefined_calls (no_place (map place_of undefined_calls) undefined) in
      not_not (list_any (λ (f : Function). nat_eq f.prototype c.head) p.functions)
      (filter_none (is_undefined p) (all_calls (sides_of units)) empty c (calls_from stage units are.typed c (subst (λ q. In c (program_calls q)) is at)))

  nests : MayNest p
  nests = record {
    deep = not_so (any_nest p.functions 65) (place_of_main (slice_get p.functions p.main)) deep;
    defined = λ number head f at.
        let t = all_at (IsFunction (program_lists p)) p.functions number f program.typed.functions at in
        function_told (λ n. list_any (λ (g : Function). nat_eq g.prototype n) p.functions ≡ true) _ t.prototype.result f t.body
        (λ c there. call_defined c (in_behind c (flat_map global_calls p.globals) (flat_map function_calls p.functions) (in_flat function_calls p.functions number f c at there))) head;
  }

pub linked_nest : (stage : Stage) (units : List TypedUnit) (p : Program) → AreUnits stage units → IsProgram p → joined stage units ≡ Ok p → MayNest p × AreOnce p
linked_nest stage units p are program is =
    let w = joined_is stage units p is in
    (nests stage units are p program w.is w.faultless, once stage units are p program w.is w.faultless)
