-- What stands outside the functions of a module.
use Rattle.std.proofs.Common.{◌≡◌, ℕ, Bool, true, false, cond, ◌||◌, [], ◌∷◌, ◌++◌, drop, Option, Some, None, refl, sym, ap, ◌∙◌, inr}
use Rattle.std.specs.Prelude.{zero, suc}
use Rattle.std.specs.List.{AllByRecursion}
use Rattle.std.proofs.lemmas.Bool.{cond-true, cond-false, or_left, or_right, true≢false, not-true}
use Rattle.gsl_words.specs.declared.module.Instr.{Instr}
use Rattle.gsl_words.specs.declared.module.Module.{Module}
use Rattle.gsl_instr.specs.declared.instruction.Instruction.{Instruction}
use Rattle.gsl_valid.specs.Ids.{defined, definition, defines}
use Rattle.gsl_valid.specs.Instruction.{read}
use Rattle.gsl_valid.specs.Kinds as kinds
use Rattle.gsl_valid.specs.Kinds.{Kind, kind}
use Rattle.gsl_valid.specs.LocalityRules.{of_block, of_function}
use Rattle.gsl_valid.specs.LocalityRules as locality
use Rattle.gsl_valid.specs.Placed.{Code}
use Rattle.gsl_valid.specs.Search.{passed}
use Rattle.gsl_valid.specs.Types.{before_functions, begins, defined_as, function_begins, outside_of}
use Rattle.gsl_valid.specs.Where.{Standing, inside_after, stands_after}
use Rattle.gsl_valid.proofs.Lookups.{Has, defined_behind}
use Rattle.gsl_fitting.specs.Fits as fits
use Rattle.gsl_fitting.specs.Functions.{AreFunctions}
use Rattle.gsl_fitting_code.specs.Kept.{Stands, is_outer}

-- Lists of instructions -----------------------------------------------------------------------------------------------

-- what is defined in a part is defined in the whole
pub defined_left : (a b : Code) (id : ℕ) → defined a id ≡ true → defined (a ++ b) id ≡ true
defined_left [] b id h = absurd (true≢false (sym h))
defined_left (i ∷ a) b id h = by_case (defines i id) (defined_left a b id) h
  where
    by_case : (c : Bool) {x y : Bool} → (x ≡ true → y ≡ true) → (c || x) ≡ true → (c || y) ≡ true
    by_case true more h = refl
    by_case false more h = more h

pub defined_right : (a b : Code) (id : ℕ) → defined b id ≡ true → defined (a ++ b) id ≡ true
defined_right [] b id h = h
defined_right (i ∷ a) b id h = or_right (defines i id) _ (defined_right a b id h)

-- what some code defines is defined behind it
pub defined_passed : (before code : Code) (id : ℕ) → defined code id ≡ true → defined (passed before code) id ≡ true
defined_passed before [] id h = absurd (true≢false (sym h))
defined_passed before (i ∷ code) id h = by_case (defines i id) refl (defined_passed (i ∷ before) code id) h
  where
    by_case : (c : Bool) → defines i id ≡ c → (defined code id ≡ true → defined (passed (i ∷ before) code) id ≡ true) → (c || defined code id) ≡ true → defined (passed (i ∷ before) code) id ≡ true
    by_case true e more h = defined_behind (i ∷ before) code id (or_left _ _ e)
    by_case false e more h = more h

-- what a front defines is what the whole says of it
pub definition_left : (a b : Code) (id : ℕ) → defined a id ≡ true → definition (a ++ b) id ≡ definition a id
definition_left [] b id h = absurd (true≢false (sym h))
definition_left (i ∷ a) b id h = by_case (defines i id) (definition_left a b id) h
  where
    by_case : (c : Bool) {x : Bool} {d e : Option Instruction} → (x ≡ true → d ≡ e) → (c || x) ≡ true → cond c (read i) d ≡ cond c (read i) e
    by_case true more h = refl
    by_case false more h = more h

-- what an id stands for in code of which each instruction has a property has it, if the id is defined
pub definition_has : (P : Option Instruction → Bool) (code : Code) (id : ℕ) → AllByRecursion (λ i. P (read i) ≡ true) code → defined code id ≡ true → P (definition code id) ≡ true
definition_has P [] id all h = absurd (true≢false (sym h))
definition_has P (i ∷ code) id all h = by_case (defines i id) (definition_has P code id all.1) h
  where
    by_case : (c : Bool) {x : Bool} {d : Option Instruction} → (x ≡ true → P d ≡ true) → (c || x) ≡ true → P (cond c (read i) d) ≡ true
    by_case true more h = all.0
    by_case false more h = more h

-- an id that stands for something is defined
pub definition_defined : (code : Code) (id : ℕ) (d : Instruction) → definition code id ≡ Some d → defined code id ≡ true
definition_defined [] id d h = absurd cc
definition_defined (i ∷ code) id d h = by_case (defines i id) (definition_defined code id d) h
  where
    by_case : (c : Bool) {x : Bool} {o : Option Instruction} → (o ≡ Some d → x ≡ true) → cond c (read i) o ≡ Some d → (c || x) ≡ true
    by_case true more h = refl
    by_case false more h = more h

pub has_drop : (n : ℕ) (code : Code) (i : Instr) → Has (drop n code) i → Has code i
has_drop zero code i has = has
has_drop (suc n) [] i has = absurd has
has_drop (suc n) (j ∷ code) i has = inr (has_drop n code i has)

pub drop_more : (n : ℕ) (code : Code) → drop (suc n) code ≡ drop 1 (drop n code)
drop_more zero code = refl
drop_more (suc n) [] = refl
drop_more (suc n) (j ∷ code) = drop_more n code

-- Outside functions ----------------------------------------------------------------------------------------------------

pub outer_no_function : (k : Kind) → is_outer k ≡ true → begins k ≡ false
outer_no_function (kinds.Begins type id function_type) h = absurd (true≢false (sym h))
outer_no_function _ h = refl

pub outer_no_value : (k : Kind) → is_outer k ≡ true → locality.gives_value k ≡ false
outer_no_value (kinds.Calls type function arguments) h = absurd (true≢false (sym h))
outer_no_value (kinds.Gives type) h = absurd (true≢false (sym h))
outer_no_value _ h = refl

outer_no_local : (k : Kind) → is_outer k ≡ true → locality.is_local k ≡ false
outer_no_local (kinds.Holds v) h = not-true _ h
outer_no_local (kinds.Takes type) h = absurd (true≢false (sym h))
outer_no_local _ h = refl

-- what stands outside functions leaves code there
pub outer_stays : (m : Module) (k : Kind) (s : Standing) → is_outer k ≡ true → stands_after m s k ≡ s
outer_stays m kinds.Asks s h = refl
outer_stays m kinds.Imports s h = refl
outer_stays m kinds.Sets s h = refl
outer_stays m (kinds.Enters model function name interface) s h = refl
outer_stays m (kinds.Modes function mode parts) s h = refl
outer_stays m kinds.Debugs s h = refl
outer_stays m (kinds.Decorates d) s h = refl
outer_stays m (kinds.Declares shape) s h = refl
outer_stays m (kinds.Fixes type value) s h = refl
outer_stays m (kinds.Holds v) s h = refl
outer_stays m _ s h = absurd (true≢false (sym h))

pub outer_inside : (inside : Bool) (k : Kind) → is_outer k ≡ true → inside_after inside k ≡ inside
outer_inside inside (kinds.Begins type id function_type) h = absurd (true≢false (sym h))
outer_inside inside kinds.Ended h = absurd (true≢false (sym h))
outer_inside inside _ h = refl

-- functions begin with a Function
begin_first : {m : Module} {rank : ℕ → ℕ} (functions : Code) → AreFunctions m rank functions → before_functions functions ≡ []
begin_first _ AreFunctions.none = refl
begin_first {m} {rank} _ (AreFunctions.one {first = first} {more = more} f rest) = ap (λ c. before_functions (c ++ more)) f.is ∙ cond-true _ _ _ (ap function_begins f.begins)

front_only : (front functions : Code) → AllByRecursion (λ i. is_outer (kind (read i)) ≡ true) front → before_functions functions ≡ [] → before_functions (front ++ functions) ≡ front
front_only [] functions all none = none
front_only (i ∷ front) functions all none = cond-false _ _ _ (outer_no_function (kind (read i)) all.0) ∙ ap (λ c. i ∷ c) (front_only front functions all.1 none)

module _ {m : Module} {rank : ℕ → ℕ} {front functions : Code} (s : Stands m rank front functions) where
  pub outside_is : outside_of m ≡ front
  outside_is = ap before_functions s.is ∙ front_only front functions s.outer (begin_first functions s.each)

  -- what is known of an id from outside functions
  outer_definition : (id : ℕ) → defined (outside_of m) id ≡ true → is_outer (kind (defined_as m id)) ≡ true
  outer_definition id h =
      let there : defined front id ≡ true = ap (λ c. defined c id) (sym outside_is) ∙ h in
      ap (λ d. is_outer (kind d)) (ap (λ c. definition c id) s.is ∙ definition_left front functions id there)
      ∙ definition_has (λ d. is_outer (kind d)) front id s.outer there

  pub outer_not_of_block : (id : ℕ) → defined (outside_of m) id ≡ true → of_block (defined_as m id) ≡ false
  outer_not_of_block id h = outer_no_value (kind (defined_as m id)) (outer_definition id h)

  pub outer_not_of_function : (id : ℕ) → defined (outside_of m) id ≡ true → of_function (defined_as m id) ≡ false
  outer_not_of_function id h = outer_no_local (kind (defined_as m id)) (outer_definition id h)

  pub outer_before : (before : Code) (id : ℕ) → defined (outside_of m) id ≡ true → defined (passed before front) id ≡ true
  outer_before before id h = defined_passed before front id (ap (λ c. defined c id) (sym outside_is) ∙ h)

-- Marks -----------------------------------------------------------------------------------------------------------------

mark_no_value : (k : Kind) → fits.begins k ≡ true → (locality.gives_value k ≡ false) × (locality.is_local k ≡ false)
mark_no_value (kinds.Begins type id function_type) h = (refl, refl)
mark_no_value kinds.Opens h = (refl, refl)
mark_no_value _ h = absurd (true≢false (sym h))

module _ (m : Module) where
  pub mark_defined : (id : ℕ) → fits.is_mark m id ≡ true → defined m.instrs id ≡ true
  mark_defined id h = by_case (defined_as m id) refl h
    where
      by_case : (d : Option Instruction) → defined_as m id ≡ d → fits.begins (kind d) ≡ true → defined m.instrs id ≡ true
      by_case None e h = absurd (true≢false (sym h))
      by_case (Some d) e h = definition_defined m.instrs id d e

  pub mark_not_of_block : (id : ℕ) → fits.is_mark m id ≡ true → of_block (defined_as m id) ≡ false
  mark_not_of_block id h = (mark_no_value (kind (defined_as m id)) h).0

  pub mark_not_of_function : (id : ℕ) → fits.is_mark m id ≡ true → of_function (defined_as m id) ≡ false
  mark_not_of_function id h = (mark_no_value (kind (defined_as m id)) h).1
