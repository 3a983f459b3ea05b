-- The passes over the code find what the lists of variables say.
use Rattle.std.proofs.Common.{◌≡◌, refl, sym, ap, ◌∙◌, ℕ, Bool, true, false, ◌&&◌, ◌||◌, if◌then◌else◌, List, [], ◌∷◌, Option, Some, None, Ok, Err, arith}
use Rattle.std.specs.Prelude.{nat_lt, ◌==◌}
use Rattle.std.specs.List.{cons_option, filter_map}
use Rattle.std.proofs.lemmas.Bool.Decides.{nat_tests}
use Rattle.gsl_base.specs.declared.input.Input.{Input}
use Rattle.gsl_base.specs.declared.input.InputRefusal.TheVariants.{NoValue}
use Rattle.gsl_words.specs.declared.module.Module.{Module}
use Rattle.gsl_instr.specs.declared.enumerant.execution_mode.TheConstants as execution_mode
use Rattle.gsl_inputs.specs.Demands.{Met, all_met, and_met, has_words}
use Rattle.gsl_inputs.specs.Given.{words_at}
use Rattle.gsl_valid.specs.EntryRules.{Mode, mode_of}
use Rattle.gsl_valid.specs.Instruction.{read}
use Rattle.gsl_valid.specs.Kinds.{Variable, variable_is}
use Rattle.gsl_valid.specs.Placed.{Code}
use Rattle.gsl_valid.specs.Types.{before_functions, function_begins, is_block_class}
use Rattle.gsl_machine.specs.Fits.{Bound, Place, bound_met, bound_of, fits, ids_met, place_met, place_of, push_met, push_of, put_bound, put_place, sorted_bounds, sorted_places, stands_before}
use Rattle.gsl_machine.specs.Interfaces.{block_variables, holds_block, holds_value, local_size, size_in, value_variables}
use Rattle.gsl_enact_fits.specs.declared.missed.Missed.{Missed}
use Rattle.gsl_enact_fits.specs.Passes.{all_passed, bound_missed, bound_missed_if, bounds_missed, bounds_step, earlier, lowest, missed_by, stands, place_missed, place_missed_if, places_missed, places_step, push_met_by, push_met_if, pushes_met, pushes_step, refusal_at, refusal_in, size_by, size_from, size_or, size_step}
use Rattle.gsl_enact_fits.proofs.Orders.{all_folded, folded}

-- ---- the order of buffers, and that of locations

cross_numbers : (a x b y c z : ℕ) → (nat_lt a b || a == b && nat_lt x y) ≡ true → (nat_lt c b || c == b && nat_lt z y) ≡ false → (nat_lt a c || a == c && nat_lt x z) ≡ true
cross_numbers a x b y c z e f = grind (arith, nat_tests)

apart_numbers : (a x b y : ℕ) → (nat_lt a b || a == b && nat_lt x y) ≡ true → (nat_lt b a || b == a && nat_lt y x) ≡ false
apart_numbers a x b y e = grind (arith, nat_tests)

lower_cross : (a b c : ℕ) → nat_lt a b ≡ true → nat_lt c b ≡ false → nat_lt a c ≡ true
lower_cross a b c e f = grind (arith, nat_tests)

lower_apart : (a b : ℕ) → nat_lt a b ≡ true → nat_lt b a ≡ false
lower_apart a b e = grind (arith, nat_tests)

-- ---- what is missed of buffers and of inputs

abbrev met : Met
met = Ok tt

abbrev place_before : Place → Place → Bool
place_before a b = nat_lt a.location b.location

abbrev set_or : Option Missed → ℕ
set_or None = 0
set_or (Some x) = x.set

abbrev binding_or : Option Missed → ℕ
binding_or None = 0
binding_or (Some x) = x.binding

abbrev some_or : Option ℕ → ℕ
some_or None = 0
some_or (Some x) = x

missed_set : (b : Bound) (met : Met) (x : Missed) → missed_by b met ≡ Some x → x.set ≡ b.set
missed_set b (Ok t) x e = absurd (cc)
missed_set b (Err refusal) x e = sym (ap set_or e)

missed_binding : (b : Bound) (met : Met) (x : Missed) → missed_by b met ≡ Some x → x.binding ≡ b.binding
missed_binding b (Ok t) x e = absurd (cc)
missed_binding b (Err refusal) x e = sym (ap binding_or e)

module _ (input : Input) where
  abbrev bound_miss : Bound → Option Missed
  bound_miss b = missed_by b (bound_met input b)

  abbrev place_miss : Place → Option ℕ
  place_miss p = place_missed_if input (Some p)

  same_order : (a b : Bound) (x y : Missed) → bound_miss a ≡ Some x → bound_miss b ≡ Some y → stands x y ≡ stands_before a b
  same_order a b x y e f =
      ap (λ n. nat_lt n y.set || n == y.set && nat_lt x.binding y.binding) (missed_set a (bound_met input a) x e)
      ∙ ap (λ n. nat_lt a.set n || a.set == n && nat_lt x.binding y.binding) (missed_set b (bound_met input b) y f)
      ∙ ap (λ n. nat_lt a.set b.set || a.set == b.set && nat_lt n y.binding) (missed_binding a (bound_met input a) x e)
      ∙ ap (λ n. nat_lt a.set b.set || a.set == b.set && nat_lt a.binding n) (missed_binding b (bound_met input b) y f)

  bound_first : (a b : Bound) (x y : Missed) → bound_miss a ≡ Some x → bound_miss b ≡ Some y → stands_before a b ≡ true → earlier (Some x) (Some y) ≡ Some x
  bound_first a b x y e f is = ap (λ t. if t then Some x else Some y) (same_order a b x y e f ∙ is)

  bound_later : (a b : Bound) (x y : Missed) → bound_miss a ≡ Some x → bound_miss b ≡ Some y → stands_before a b ≡ false → earlier (Some x) (Some y) ≡ Some y
  bound_later a b x y e f is = ap (λ t. if t then Some x else Some y) (same_order a b x y e f ∙ is)

  place_is : (has : Bool) (location x : ℕ) → (if has then None else Some location) ≡ Some x → x ≡ location
  place_is true location x e = absurd (cc)
  place_is false location x e = sym (ap some_or e)

  same_locations : (a b : Place) (x y : ℕ) → place_miss a ≡ Some x → place_miss b ≡ Some y → nat_lt x y ≡ nat_lt a.location b.location
  same_locations a b x y e f =
      ap (λ n. nat_lt n y) (place_is (has_words a.count (words_at input.ins a.location)) a.location x e)
      ∙ ap (λ n. nat_lt a.location n) (place_is (has_words b.count (words_at input.ins b.location)) b.location y f)

  place_first : (a b : Place) (x y : ℕ) → place_miss a ≡ Some x → place_miss b ≡ Some y → place_before a b ≡ true → lowest (Some x) (Some y) ≡ Some x
  place_first a b x y e f is = ap (λ t. if t then Some x else Some y) (same_locations a b x y e f ∙ is)

  place_later : (a b : Place) (x y : ℕ) → place_miss a ≡ Some x → place_miss b ≡ Some y → place_before a b ≡ false → lowest (Some x) (Some y) ≡ Some y
  place_later a b x y e f is = ap (λ t. if t then Some x else Some y) (same_locations a b x y e f ∙ is)

  bound_told : (b : Bound) (met : Met) → met ≡ refusal_in (missed_by b met)
  bound_told b (Ok x) = refl
  bound_told b (Err refusal) = refl

  place_told : (has : Bool) (location : ℕ) → (if has then met else Err (NoValue location)) ≡ refusal_at (if has then None else Some location)
  place_told true location = refl
  place_told false location = refl

  abbrev bounds_folded : List Bound → Option Missed
  bounds_folded [] = None
  bounds_folded (b ∷ bounds) = earlier (bound_miss b) (bounds_folded bounds)

  abbrev places_folded : List Place → Option ℕ
  places_folded [] = None
  places_folded (p ∷ places) = lowest (place_miss p) (places_folded places)

  bounds_fold_is : (bounds : List Bound) →
      folded stands_before (λ a b c. cross_numbers a.set a.binding b.set b.binding c.set c.binding) (λ a b. apart_numbers a.set a.binding b.set b.binding) bound_miss earlier (λ l. refl) (λ x. refl) bound_first bound_later
      put_bound (λ a. refl) (λ a n s. refl) sorted_bounds refl (λ a s. refl) bounds ≡ bounds_folded bounds
  bounds_fold_is [] = refl
  bounds_fold_is (b ∷ bounds) = ap (earlier (bound_miss b)) (bounds_fold_is bounds)

  places_fold_is : (places : List Place) →
      folded place_before (λ a b c. lower_cross a.location b.location c.location) (λ a b. lower_apart a.location b.location) place_miss lowest (λ l. refl) (λ x. refl) place_first place_later
      put_place (λ a. refl) (λ a n s. refl) sorted_places refl (λ a s. refl) places ≡ places_folded places
  places_fold_is [] = refl
  places_fold_is (p ∷ places) = ap (lowest (place_miss p)) (places_fold_is places)

  bounds_met : (bounds : List Bound) → all_met (bound_met input) (sorted_bounds bounds) ≡ refusal_in (bounds_folded bounds)
  bounds_met bounds =
      all_folded stands_before (λ a b c. cross_numbers a.set a.binding b.set b.binding c.set c.binding) (λ a b. apart_numbers a.set a.binding b.set b.binding) bound_miss earlier (λ l. refl) (λ x. refl) bound_first bound_later
      put_bound (λ a. refl) (λ a n s. refl) sorted_bounds refl (λ a s. refl) (bound_met input) refusal_in (λ b. bound_told b (bound_met input b)) refl (λ x later. refl) bounds
      ∙ ap refusal_in (bounds_fold_is bounds)

  places_met : (places : List Place) → all_met (place_met input) (sorted_places places) ≡ refusal_at (places_folded places)
  places_met places =
      all_folded place_before (λ a b c. lower_cross a.location b.location c.location) (λ a b. lower_apart a.location b.location) place_miss lowest (λ l. refl) (λ x. refl) place_first place_later
      put_place (λ a. refl) (λ a n s. refl) sorted_places refl (λ a s. refl) (place_met input) refusal_at (λ p. place_told (has_words p.count (words_at input.ins p.location)) p.location) refl (λ x later. refl) places
      ∙ ap refusal_at (places_fold_is places)

-- ---- along the code

abbrev variables_in : Code → List Variable
variables_in code = filter_map (λ i. variable_is (read i)) (before_functions code)

module _ (m : Module) (input : Input) where
  one_bound : (o : Option Bound) (bounds : List Bound) → bounds_folded input (cons_option o bounds) ≡ earlier (bound_missed_if input o) (bounds_folded input bounds)
  one_bound None bounds = refl
  one_bound (Some b) bounds = refl

  bounds_of_variable : (v : Option Variable) (variables : List Variable) →
      bounds_folded input (filter_map (bound_of m) (filter_map holds_block (cons_option v variables))) ≡ earlier (bound_missed m input v) (bounds_folded input (filter_map (bound_of m) (filter_map holds_block variables)))
  bounds_of_variable None variables = refl
  bounds_of_variable (Some v) variables = by_class (is_block_class v.class) refl
    where
      by_class : (b : Bool) → is_block_class v.class ≡ b → bounds_folded input (filter_map (bound_of m) (cons_option (if b then Some v else None) (filter_map holds_block variables)))
          ≡ earlier (if b then bound_missed_if input (bound_of m v) else None) (bounds_folded input (filter_map (bound_of m) (filter_map holds_block variables)))
      by_class true e = one_bound (bound_of m v) (filter_map (bound_of m) (filter_map holds_block variables))
      by_class false e = refl

  bounds_walked : (code : Code) → bounds_folded input (filter_map (bound_of m) (filter_map holds_block (variables_in code))) ≡ bounds_missed m input code
  unfolding bounds_missed bounds_step
  bounds_walked [] = refl
  bounds_walked (i ∷ code) = by_kind (function_begins (read i)) (bounds_walked code)
    where
      by_kind : (b : Bool) → bounds_folded input (filter_map (bound_of m) (filter_map holds_block (variables_in code))) ≡ bounds_missed m input code
          → bounds_folded input (filter_map (bound_of m) (filter_map holds_block (filter_map (λ i. variable_is (read i)) (if b then [] else i ∷ before_functions code)))) ≡ (if b then None else earlier (bound_missed m input (variable_is (read i))) (bounds_missed m input code))
      by_kind true later = refl
      by_kind false later = bounds_of_variable (variable_is (read i)) (variables_in code) ∙ ap (earlier (bound_missed m input (variable_is (read i)))) later

  one_push : (o : Option ℕ) (needs : List ℕ) → all_met (push_met input) (cons_option o needs) ≡ and_met (push_met_if input o) (all_met (push_met input) needs)
  one_push None needs = refl
  one_push (Some need) needs = refl

  pushes_of_variable : (v : Option Variable) (variables : List Variable) →
      all_met (push_met input) (filter_map (push_of m) (filter_map holds_block (cons_option v variables))) ≡ and_met (push_met_by m input v) (all_met (push_met input) (filter_map (push_of m) (filter_map holds_block variables)))
  pushes_of_variable None variables = refl
  pushes_of_variable (Some v) variables = by_class (is_block_class v.class)
    where
      by_class : (b : Bool) → all_met (push_met input) (filter_map (push_of m) (cons_option (if b then Some v else None) (filter_map holds_block variables)))
          ≡ and_met (if b then push_met_if input (push_of m v) else met) (all_met (push_met input) (filter_map (push_of m) (filter_map holds_block variables)))
      by_class true = one_push (push_of m v) (filter_map (push_of m) (filter_map holds_block variables))
      by_class false = refl

  pushes_walked : (code : Code) → all_met (push_met input) (filter_map (push_of m) (filter_map holds_block (variables_in code))) ≡ pushes_met m input code
  unfolding pushes_met pushes_step
  pushes_walked [] = refl
  pushes_walked (i ∷ code) = by_kind (function_begins (read i)) (pushes_walked code)
    where
      by_kind : (b : Bool) → all_met (push_met input) (filter_map (push_of m) (filter_map holds_block (variables_in code))) ≡ pushes_met m input code
          → all_met (push_met input) (filter_map (push_of m) (filter_map holds_block (filter_map (λ i. variable_is (read i)) (if b then [] else i ∷ before_functions code)))) ≡ (if b then met else and_met (push_met_by m input (variable_is (read i))) (pushes_met m input code))
      by_kind true later = refl
      by_kind false later = pushes_of_variable (variable_is (read i)) (variables_in code) ∙ ap (and_met (push_met_by m input (variable_is (read i)))) later

  one_place : (o : Option Place) (places : List Place) → places_folded input (cons_option o places) ≡ lowest (place_missed_if input o) (places_folded input places)
  one_place None places = refl
  one_place (Some p) places = refl

  places_of_variable : (v : Option Variable) (variables : List Variable) →
      places_folded input (filter_map (place_of m) (filter_map holds_value (cons_option v variables))) ≡ lowest (place_missed m input v) (places_folded input (filter_map (place_of m) (filter_map holds_value variables)))
  places_of_variable None variables = refl
  places_of_variable (Some v) variables = by_class (is_block_class v.class)
    where
      by_class : (b : Bool) → places_folded input (filter_map (place_of m) (cons_option (if b then None else Some v) (filter_map holds_value variables)))
          ≡ lowest (if b then None else place_missed_if input (place_of m v)) (places_folded input (filter_map (place_of m) (filter_map holds_value variables)))
      by_class true = refl
      by_class false = one_place (place_of m v) (filter_map (place_of m) (filter_map holds_value variables))

  places_walked : (code : Code) → places_folded input (filter_map (place_of m) (filter_map holds_value (variables_in code))) ≡ places_missed m input code
  unfolding places_missed places_step
  places_walked [] = refl
  places_walked (i ∷ code) = by_kind (function_begins (read i)) (places_walked code)
    where
      by_kind : (b : Bool) → places_folded input (filter_map (place_of m) (filter_map holds_value (variables_in code))) ≡ places_missed m input code
          → places_folded input (filter_map (place_of m) (filter_map holds_value (filter_map (λ i. variable_is (read i)) (if b then [] else i ∷ before_functions code)))) ≡ (if b then None else lowest (place_missed m input (variable_is (read i))) (places_missed m input code))
      by_kind true later = refl
      by_kind false later = places_of_variable (variable_is (read i)) (variables_in code) ∙ ap (lowest (place_missed m input (variable_is (read i)))) later

  -- what the passes find is the answer of an input
  pub all_walked : all_passed m input ≡ fits m input
  unfolding all_passed fits
  all_walked =
      ap (λ r. and_met (refusal_in r) (and_met (pushes_met m input m.instrs) (and_met (refusal_at (places_missed m input m.instrs)) (ids_met m input)))) (sym (bounds_walked m.instrs))
      ∙ ap (λ r. and_met r (and_met (pushes_met m input m.instrs) (and_met (refusal_at (places_missed m input m.instrs)) (ids_met m input)))) (sym (bounds_met input (filter_map (bound_of m) (block_variables m))))
      ∙ ap (λ r. and_met (all_met (bound_met input) (sorted_bounds (filter_map (bound_of m) (block_variables m)))) (and_met r (and_met (refusal_at (places_missed m input m.instrs)) (ids_met m input)))) (sym (pushes_walked m.instrs))
      ∙ ap (λ r. and_met (all_met (bound_met input) (sorted_bounds (filter_map (bound_of m) (block_variables m)))) (and_met (all_met (push_met input) (filter_map (push_of m) (block_variables m))) (and_met r (ids_met m input))))
      (ap refusal_at (sym (places_walked m.instrs)) ∙ sym (places_met input (filter_map (place_of m) (value_variables m))))

-- ---- the size of a work group

one_size : (o : Option Mode) (modes : List Mode) (later : Option (List ℕ)) → size_in modes ≡ size_or later → size_in (cons_option o modes) ≡ size_or (size_by o later)
one_size None modes later is = is
one_size (Some mode) modes later is = by_mode (mode.mode == execution_mode.LOCAL_SIZE)
  where
    by_mode : (b : Bool) → (if b then mode.parts else size_in modes) ≡ size_or (if b then Some mode.parts else later)
    by_mode true = refl
    by_mode false = is

size_walked : (code : Code) → size_in (filter_map (λ i. mode_of (read i)) code) ≡ size_or (size_from code)
unfolding size_from size_step
size_walked [] = refl
size_walked (i ∷ code) = one_size (mode_of (read i)) (filter_map (λ i. mode_of (read i)) code) (size_from code) (size_walked code)

pub size_is : (m : Module) → size_or (size_from m.instrs) ≡ local_size m
size_is m = sym (size_walked m.instrs)
