-- Calls without a definition, found unit by unit.
use Rattle.std.proofs.Common.{◌≡◌, refl, sym, ap, ◌∙◌, ℕ, suc, ◌+◌, length, Bool, true, false, cond, not, ◌||◌, List, [], ◌∷◌, ◌++◌, map, append_assoc, append-nil}
use Rattle.std.specs.Prelude.{nat_eq, filter, if◌then◌else◌}
use Rattle.std.specs.List.{list_any}
use Rattle.std.proofs.lemmas.List.Folds.{list_any-append}
use Rattle.std.proofs.lemmas.Bool.{true≢false, false≢true, eqb-true, eq-eqb}
use Rattle.indexmap.specs.IndexSet.{insert_key, insert_all}
use Rattle.gsl_base.specs.declared.fault.Place.{Place}
use Rattle.gsl_tree.specs.declared.program.Program.{Program}
use Rattle.gsl_tree.specs.declared.unit.Function.{Function}
use Rattle.gsl_link_units.specs.Declarations.{Side}
use Rattle.gsl_link_units.specs.Types.{new_number}
use Rattle.gsl_link_whole.specs.Numbers.{numbering}
use Rattle.gsl_link_whole.specs.Whole.{from_each}
use Rattle.gsl_link_calls.specs.declared.call.Call.{Call}
use Rattle.gsl_link_calls.specs.Calls.{unit_calls, renumbered_call, renumbered_calls, all_calls}
use Rattle.gsl_link_numbers.specs.Numbering.{numberings_from, numberings}
use Rattle.gsl_link.specs.Rows.{is_undefined}
use Rattle.gsl_link.specs.Sides.{defined_heads, undefined_behind, undefined_all}

pub or_false : (b : Bool) → (b || false) ≡ b
or_false true = refl
or_false false = refl

or_both : (a b c : Bool) → ((a || b) || c) ≡ (a || (b || c))
or_both true b c = refl
or_both false b c = refl

or_same : (a b : Bool) → (b ≡ true → a ≡ true) → a ≡ (a || b)
or_same true b to = refl
or_same false true to = to refl
or_same false false to = refl

-- what is in a set
module _ {K : Type 0} (eq : K → K → Bool) (same_is : (x y : K) → eq x y ≡ true → x ≡ y) where
  pub any_put : (keys : List K) (x key : K) → list_any (eq key) (insert_key eq keys x) ≡ (list_any (eq key) keys || eq key x)
  any_put keys x key = by_cases (list_any (eq x) keys) refl
    where
      by_cases : (b : Bool) → list_any (eq x) keys ≡ b → list_any (eq key) (cond b keys (keys ++ x ∷ [])) ≡ (list_any (eq key) keys || eq key x)
      by_cases true is = or_same (list_any (eq key) keys) (eq key x) (λ same. ap (λ k. list_any (eq k) keys) (same_is key x same) ∙ is)
      by_cases false is = list_any-append (eq key) keys (x ∷ []) ∙ ap (λ b. list_any (eq key) keys || b) (or_false (eq key x))

  pub any_in : (keys xs : List K) (key : K) → list_any (eq key) (insert_all eq keys xs) ≡ (list_any (eq key) keys || list_any (eq key) xs)
  any_in keys [] key = sym (or_false (list_any (eq key) keys))
  any_in keys (x ∷ xs) key =
      any_in (insert_key eq keys x) xs key ∙ ap (λ b. b || list_any (eq key) xs) (any_put keys x key)
      ∙ or_both (list_any (eq key) keys) (eq key x) (list_any (eq key) xs)

turned : (n m : ℕ) (b c : Bool) → nat_eq n m ≡ b → nat_eq m n ≡ c → b ≡ c
turned n m true true e f = refl
turned n m true false e f = absurd (true≢false (sym (eq-eqb m n (sym (eqb-true n m e))) ∙ f))
turned n m false true e f = absurd (false≢true (sym e ∙ eq-eqb n m (sym (eqb-true m n f))))
turned n m false false e f = refl

turn : (n m : ℕ) → nat_eq n m ≡ nat_eq m n
turn n m = turned n m (nat_eq n m) (nat_eq m n) refl refl

defined_is : (head : ℕ) (functions : List Function) → list_any (nat_eq head) (defined_heads functions) ≡ list_any (λ (f : Function). nat_eq f.prototype head) functions
defined_is head [] = refl
defined_is head (f ∷ functions) =
    ap (λ b. b || list_any (nat_eq head) (defined_heads functions)) (turn head f.prototype) ∙ ap (λ b. nat_eq f.prototype head || b) (defined_is head functions)

module _ (p : Program) where
  abbrev defined : List ℕ
  defined = insert_all nat_eq [] (defined_heads p.functions)

  in_defined : (head : ℕ) → list_any (nat_eq head) defined ≡ list_any (λ (f : Function). nat_eq f.prototype head) p.functions
  in_defined head = any_in nat_eq (λ x y. eqb-true x y) [] (defined_heads p.functions) head ∙ defined_is head p.functions

  abbrev places_of : List Call → List Place
  places_of calls = map (λ (call : Call). call.place) (filter (is_undefined p) calls)

  behind_is : (heads : List ℕ) (places : List Place) (calls : List Call) → undefined_behind defined heads places calls ≡ places ++ places_of (map (renumbered_call heads) calls)
  behind_is heads places [] = sym (append-nil places)
  behind_is heads places (call ∷ calls) =
      ap (λ b. undefined_behind defined heads (if b then places else places ++ call.place ∷ []) calls) (in_defined (new_number heads call.head))
      ∙ by_cases (list_any (λ (f : Function). nat_eq f.prototype (new_number heads call.head)) p.functions) (λ l. behind_is heads l calls)
    where
      later : List Call
      later = map (renumbered_call heads) calls

      by_cases : (b : Bool) → ((l : List Place) → undefined_behind defined heads l calls ≡ l ++ places_of later)
          → undefined_behind defined heads (if b then places else places ++ call.place ∷ []) calls
          ≡ places ++ map (λ (c : Call). c.place) (cond (not b) (renumbered_call heads call ∷ filter (is_undefined p) later) (filter (is_undefined p) later))
      by_cases true is = is places
      by_cases false is = is (places ++ call.place ∷ []) ∙ append_assoc places (call.place ∷ []) (places_of later)

  places_both : (xs ys : List Call) → places_of (xs ++ ys) ≡ places_of xs ++ places_of ys
  places_both [] ys = refl
  places_both (x ∷ xs) ys = by_cases (is_undefined p x) (places_both xs ys)
    where
      by_cases : (b : Bool) → places_of (xs ++ ys) ≡ places_of xs ++ places_of ys
          → map (λ (c : Call). c.place) (cond b (x ∷ filter (is_undefined p) (xs ++ ys)) (filter (is_undefined p) (xs ++ ys)))
          ≡ map (λ (c : Call). c.place) (cond b (x ∷ filter (is_undefined p) xs) (filter (is_undefined p) xs)) ++ places_of ys
      by_cases true e = ap (λ l. x.place ∷ l) e
      by_cases false e = e

  module _ (sides : List Side) where
    from_is : (places : List Place) (unit : ℕ) (rest : List Side)
        → undefined_all defined places (numberings_from sides unit rest) rest ≡ places ++ places_of (from_each (renumbered_calls sides) unit rest)
    from_is places unit [] = sym (append-nil places)
    from_is places unit (side ∷ rest) =
        ap (λ l. undefined_all defined l (numberings_from sides (unit + 1) rest) rest) (behind_is (numbering sides unit side).heads places (unit_calls side))
        ∙ from_is (places ++ places_of (renumbered_calls sides unit side)) (unit + 1) rest
        ∙ append_assoc places (places_of (renumbered_calls sides unit side)) (places_of (from_each (renumbered_calls sides) (unit + 1) rest))
        ∙ ap (λ l. places ++ l) (sym (places_both (renumbered_calls sides unit side) (from_each (renumbered_calls sides) (unit + 1) rest)))

    pub undefined_is : undefined_all defined [] (numberings sides) sides ≡ places_of (all_calls sides)
    undefined_is = from_is [] 0 sides

pub as_many : (sides : List Side) → length (numberings sides) ≡ length sides
as_many sides = from 0 sides
  where
    from : (unit : ℕ) (rest : List Side) → length (numberings_from sides unit rest) ≡ length rest
    from unit [] = refl
    from unit (side ∷ rest) = ap suc (from (unit + 1) rest)
