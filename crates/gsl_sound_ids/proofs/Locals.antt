-- What ids stand for as a function begins.
use Rattle.std.proofs.Common.{◌≡◌, refl, sym, ap, ◌∙◌, subst, ℕ, ◌+◌, ◌≤◌, Bool, true, false, ◌||◌, not, if◌then◌else◌, List, [], ◌∷◌, length, Option, Some, None, ◌⊎◌, inl, inr, arith}
use Rattle.std.specs.List.{AllByRecursion, cons_option}
use Rattle.std.specs.Prelude.{◌==◌}
use Rattle.std.proofs.lemmas.Bool.{cond-true, cond-false, eq-eqb, eqb-true, true≢false, false≢true, cases_Bool}
use Rattle.gsl_instr.specs.declared.enumerant.storage_class.TheConstants as storage_class
use Rattle.gsl_words.specs.declared.module.Module.{Module}
use Rattle.gsl_valid.specs.CallRules.{takes}
use Rattle.gsl_valid.specs.FunctionRules.{gives, outside}
use Rattle.gsl_valid.specs.Ids.{defined, defines, result}
use Rattle.gsl_valid.specs.Instruction.{read}
use Rattle.gsl_valid.specs.Kinds.{Kind, Fixes, Holds, Takes, Value as Fixed, Variable, kind, type_of, variable_in, variable_is}
use Rattle.gsl_valid.specs.LocalityRules.{gives_value, is_local, of_function}
use Rattle.gsl_valid.specs.Placed.{Code, Placed}
use Rattle.gsl_valid.specs.Types.{Target, defined_as, is_void, target_of}
use Rattle.gsl_valid.specs.Where.{where_at}
use Rattle.gsl_machine.specs.Functions as machine
use Rattle.gsl_machine.specs.Functions.{begins_as, entered, from_first_label, function_at, function_in, give_each, own_ids, parameter_of, point_each, up_to_end, variables_of}
use Rattle.gsl_machine.specs.Interfaces.{globals, value_variables}
use Rattle.gsl_machine.specs.State.{Held, Ids, InBlock, InVariable, Points, Whole, give}
use Rattle.gsl_sound_ids.specs.Held.{Agrees, IsGiven, IsOf, usable_as}
use Rattle.gsl_sound_code.specs.Rules.{Keeps}
use Rattle.gsl_sound_code.specs.Spots.{Spot, bare}
use Rattle.gsl_sound_ids.proofs.Globals.{Among, block_is_outer, globals_agree, pointed, sorted, unpointed}
use Rattle.gsl_sound_code.proofs.Looks.{Kept, defines_result}
use Rattle.gsl_sound_ids.proofs.Variables.{local_variable, own_id, variable_result}
use Rattle.gsl_sound_code.proofs.Walks.{AreTaken, taken_op, walk}

-- ---- parameters and variables

-- What is held is of these types.
abbrev pub AreHeld : Module → ℕ → List ℕ → List Held → Type 0
AreHeld m count [] [] = Unit {0}
AreHeld m count [] (h ∷ held) = ⊥
AreHeld m count (type ∷ types) [] = ⊥
AreHeld m count (type ∷ types) (h ∷ held) = IsOf m count (target_of (defined_as m type)) h × AreHeld m count types held

-- An id has what a parameter of its type may be.
record TakenAs (m : Module) (count id : ℕ) (o : Option Held) : Type 0 where
  it : Held
  is : o ≡ Some it
  of : (type : ℕ) → kind (defined_as m id) ≡ Takes type → IsOf m count (target_of (defined_as m type)) it

abbrev Lists : ℕ → List ℕ → Type 0
Lists id [] = ⊥
Lists id (other ∷ ids) = (other ≡ id) ⊎ Lists id ids

lists_more : (id : ℕ) (o : Option ℕ) (ids : List ℕ) → Lists id ids → Lists id (cons_option o ids)
lists_more id None ids lists = lists
lists_more id (Some other) ids lists = inr lists

module _ (m : Module) (count id : ℕ) where
  one_taken : (other type : ℕ) (h : Held) → kind (defined_as m other) ≡ Takes type → IsOf m count (target_of (defined_as m type)) h → id ≡ other → (t : ℕ) → kind (defined_as m id) ≡ Takes t → IsOf m count (target_of (defined_as m t)) h
  one_taken other type h taken of same t is =
      let both : Takes type ≡ Takes t = sym taken ∙ ap (λ n. kind (defined_as m n)) (sym same) ∙ is in
      let e : type ≡ t = cc in subst (λ n. IsOf m count (target_of (defined_as m n)) h) e of

  stays_taken : (ids : Ids) (types parameters : List ℕ) (held : List Held) → AreTaken m types parameters → AreHeld m count types held → TakenAs m count id (ids id) → TakenAs m count id (give_each ids parameters held id)
  stays_taken ids [] [] held taken are t = t
  stays_taken ids [] (p ∷ ps) held taken are t = absurd taken
  stays_taken ids (type ∷ types) [] held taken are t = t
  stays_taken ids (type ∷ types) (p ∷ ps) [] taken are t = absurd are
  stays_taken ids (type ∷ types) (p ∷ ps) (h ∷ held) taken are t = stays_taken (give ids p h) types ps held taken.1 are.1 (by_same (id == p) refl)
    where
      by_same : (b : Bool) → (id == p) ≡ b → TakenAs m count id (if b then Some h else ids id)
      by_same true same = record { it = h; is = refl; of = one_taken p type h taken.0 are.0 (eqb-true id p same) }
      by_same false differ = t

  taken_as : (ids : Ids) (types parameters : List ℕ) (held : List Held) → AreTaken m types parameters → AreHeld m count types held → Lists id parameters → TakenAs m count id (give_each ids parameters held id)
  taken_as ids types [] held taken are lists = absurd lists
  taken_as ids [] (p ∷ ps) held taken are lists = absurd taken
  taken_as ids (type ∷ types) (p ∷ ps) [] taken are lists = absurd are
  taken_as ids (type ∷ types) (p ∷ ps) (h ∷ held) taken are (inl same) =
      stays_taken (give ids p h) types ps held taken.1 are.1 (record { it = h; is = cond-true _ _ _ (eq-eqb id p (sym same)); of = one_taken p type h taken.0 are.0 (sym same) })
  taken_as ids (type ∷ types) (p ∷ ps) (h ∷ held) taken are (inr later) = taken_as (give ids p h) types ps held taken.1 are.1 later

  -- an id that is no parameter's
  untaken : (ids : Ids) (types parameters : List ℕ) (held : List Held) → AreTaken m types parameters → takes (kind (defined_as m id)) ≡ false → give_each ids parameters held id ≡ ids id
  untaken ids types [] held taken none = refl
  untaken ids [] (p ∷ ps) held taken none = absurd taken
  untaken ids (type ∷ types) (p ∷ ps) [] taken none = refl
  untaken ids (type ∷ types) (p ∷ ps) (h ∷ held) taken none =
      untaken (give ids p h) types ps held taken.1 none
      ∙ elim (cases_Bool (id == p)) [
        | inl same ↦ absurd (true≢false (sym (ap (λ n. takes (kind (defined_as m n))) (eqb-true id p same) ∙ ap takes taken.0) ∙ none))
        | inr differ ↦ cond-false _ _ _ differ
      ]

-- What an instruction of a function defines is found by its id, and its variables are local.
record IsLocal (m : Module) (p : Placed) : Type 0 where
  own : (id : ℕ) → result (read p.instr) ≡ Some id → defined_as m id ≡ read p.instr
  local : (v : Variable) → variable_is (read p.instr) ≡ Some v → ((v.class == storage_class.FUNCTION) ≡ true) × ((t : Target) × (target_of (defined_as m v.type) ≡ Some t))

is_local_one : (m : Module) (before : Code) (p : Placed) (code : Code) → Keeps m before p.instr code → outside (where_at m before).standing ≡ false → IsLocal m p
is_local_one m before p code keeps started = record { own = keeps.own; local = λ v is. local_variable m before p.instr code v keeps started is }

module _ (m : Module) where
  -- ids that a function defines
  listed : (id type : ℕ) (rest : List Placed) → AllByRecursion (IsLocal m) rest → defined (bare rest) id ≡ true → kind (defined_as m id) ≡ Takes type → Lists id (machine.parameters_of rest)
  listed id type [] all is kind_is = absurd (false≢true is)
  listed id type (p ∷ rest) all is kind_is = by_test (defines p.instr id) refl (λ later. listed id type rest all.1 later kind_is) is
    where
      by_test : (b : Bool) → defines p.instr id ≡ b → (defined (bare rest) id ≡ true → Lists id (machine.parameters_of rest)) → (b || defined (bare rest) id) ≡ true → Lists id (machine.parameters_of (p ∷ rest))
      by_test true here later is =
          let gives = defines_result p.instr id here in
          let first : parameter_of p ≡ Some id = cond-true _ _ _ (taken_op p.instr (read p.instr) refl (ap (λ x. takes (kind x)) (sym (all.0.own id gives)) ∙ ap takes kind_is)) ∙ gives in
          subst (λ o. Lists id (cons_option o (machine.parameters_of rest))) (sym first) (inl refl)
      by_test false here later is = lists_more id (parameter_of p) (machine.parameters_of rest) (later is)

  among_local : (id : ℕ) (v : Variable) (rest : List Placed) → AllByRecursion (IsLocal m) rest → defined (bare rest) id ≡ true → variable_is (defined_as m id) ≡ Some v → Among v (variables_of rest)
  among_local id v [] all is variable = absurd (false≢true is)
  among_local id v (p ∷ rest) all is variable = by_test (defines p.instr id) refl (λ later. among_local id v rest all.1 later variable) is
    where
      skip : (o : Option Variable) → Among v (variables_of rest) → Among v (cons_option o (variables_of rest))
      skip None among = among
      skip (Some w) among = inr among

      by_test : (b : Bool) → defines p.instr id ≡ b → (defined (bare rest) id ≡ true → Among v (variables_of rest)) → (b || defined (bare rest) id) ≡ true → Among v (variables_of (p ∷ rest))
      by_test true here later is =
          subst (λ o. Among v (cons_option o (variables_of rest))) (sym (ap variable_is (sym (all.0.own id (defines_result p.instr id here))) ∙ variable)) (inl refl)
      by_test false here later is = skip (variable_is (read p.instr)) (later is)

  -- variables of a function
  local_is : (v : Variable) (rest : List Placed) → AllByRecursion (IsLocal m) rest → Among v (variables_of rest) → (variable_is (defined_as m v.id) ≡ Some v) × ((v.class == storage_class.FUNCTION) ≡ true) × ((t : Target) × (target_of (defined_as m v.type) ≡ Some t))
  local_is v [] all among = absurd among
  local_is v (p ∷ rest) all among = by_first (variable_is (read p.instr)) refl (local_is v rest all.1) among
    where
      by_first : (o : Option Variable) → variable_is (read p.instr) ≡ o → (Among v (variables_of rest) → (variable_is (defined_as m v.id) ≡ Some v) × ((v.class == storage_class.FUNCTION) ≡ true) × ((t : Target) × (target_of (defined_as m v.type) ≡ Some t)))
          → Among v (cons_option o (variables_of rest)) → (variable_is (defined_as m v.id) ≡ Some v) × ((v.class == storage_class.FUNCTION) ≡ true) × ((t : Target) × (target_of (defined_as m v.type) ≡ Some t))
      by_first None gives later among = later among
      by_first (Some w) gives later (inl same) =
          let is : variable_is (read p.instr) ≡ Some v = gives ∙ ap Some same in
          (ap variable_is (all.0.own v.id (variable_result (read p.instr) v is)) ∙ is, (all.0.local v is).0, (all.0.local v is).1)
      by_first (Some w) gives later (inr among) = later among

-- ---- what ids stand for as a function begins

more_variables : (m : Module) (count more : ℕ) (t : Option Target) (h : Held) → count ≤ more → IsOf m count t h → IsOf m more t h
more_variables m count more None (Whole v) room of = of
more_variables m count more None (Points to) room of = absurd of
more_variables m count more (Some t) (Whole v) room of = absurd of
more_variables m count more (Some t) (Points (InBlock variable offset pointee)) room of = of
more_variables m count more (Some t) (Points (InVariable number path)) room of = omega (arith, of, room)

module _ (m : Module) (kept : Kept m) (returned : ℕ) (body : List Placed) (start : Code) (spot : Spot m body returned start body) (types : List ℕ) (taken : AreTaken m types (machine.parameters_of body)) (held : List Held) (count : ℕ) where
  locals : AllByRecursion (IsLocal m) body
  locals = walk m kept body returned (IsLocal m) (is_local_one m) start body spot

  abbrev Own : Ids
  Own = own_ids (globals m) body held count

  -- an id that is no variable of the function
  no_variable : (id : ℕ) → ((v : Variable) → variable_is (defined_as m id) ≡ Some v → (v.class == storage_class.FUNCTION) ≡ false) → Own id ≡ give_each (globals m) (machine.parameters_of body) held id
  no_variable id outside = unpointed (give_each (globals m) (machine.parameters_of body) held) count (variables_of body) id (λ v among same.
      let l = local_is m v body locals among in
      absurd (true≢false (sym l.1 ∙ outside v (ap (λ n. variable_is (defined_as m n)) (sym same) ∙ l.0))))

  pub lasts : (id : ℕ) → ((v : Variable) → variable_is (defined_as m id) ≡ Some v → (v.class == storage_class.FUNCTION) ≡ false) → takes (kind (defined_as m id)) ≡ false → Own id ≡ globals m id
  lasts id outside none = no_variable id outside ∙ untaken m count id (globals m) types (machine.parameters_of body) held taken none

  module _ (are : AreHeld m count types held) (room : length (value_variables m) ≤ count) where
    given_before : (id type : ℕ) → type_of (defined_as m id) ≡ Some type → is_void m type ≡ false → usable_as [] [] id (defined_as m id) ≡ true → ((v : Variable) → variable_is (defined_as m id) ≡ Some v → (v.class == storage_class.FUNCTION) ≡ false) → takes (kind (defined_as m id)) ≡ false
        → IsGiven m (count + length (variables_of body)) type (Own id)
    given_before id type typed full usable outside none =
        let g = (globals_agree m kept (count + length (variables_of body)) (omega (arith, room))).given id type typed full usable in
        record { it = g.it; is = lasts id outside none ∙ g.is; of = g.of }

    local_given : (id type : ℕ) (v : Variable) → kind (defined_as m id) ≡ Holds v → v.type ≡ type → defined (bare body) id ≡ true → IsGiven m (count + length (variables_of body)) type (Own id)
    local_given id type v is same here =
        let e = ap variable_in is in
        let among = among_local m id v body locals here e in
        let p = pointed (give_each (globals m) (machine.parameters_of body) held) count (variables_of body) (count + length (variables_of body)) id v (omega arith) among (own_id m kept id v e) in
        let t = (local_is m v body locals among).2 in
        let low = p.below in
        record {
          it = Points (InVariable p.number []);
          is = p.is;
          of = subst (λ x. IsOf m (count + length (variables_of body)) x (Points (InVariable p.number []))) (sym (ap (λ n. target_of (defined_as m n)) (sym same) ∙ t.1)) low;
        }

    parameter_given : (id type : ℕ) → kind (defined_as m id) ≡ Takes type → defined (bare body) id ≡ true → IsGiven m (count + length (variables_of body)) type (Own id)
    parameter_given id type is here =
        let t = taken_as m count id (globals m) types (machine.parameters_of body) held taken are (listed m id type body locals here is) in
        record {
          it = t.it;
          is = no_variable id (λ v variable. let over : None ≡ Some v = sym (ap variable_in is) ∙ variable in absurd (cc)) ∙ t.is;
          of = more_variables m count (count + length (variables_of body)) (target_of (defined_as m type)) t.it (omega arith) (t.of type is);
        }

    -- what lasts for the function
    pub own_agree : Agrees m (count + length (variables_of body)) (bare body) [] Own
    own_agree = record {
      given = λ id type typed full usable. by_sort id type typed full usable (sorted (kind (defined_as m id)) type typed);
      blocks = λ id v is class. lasts id (λ w other. let same : Some w ≡ Some v = sym other ∙ is in let e : w ≡ v = cc in ap (λ x. x.class == storage_class.FUNCTION) e ∙ block_is_outer v.class class) (by_variable (kind (defined_as m id)) v is)
          ∙ (globals_agree m kept count room).blocks id v is class;
    }
      where
        by_variable : (k : Kind) (v : Variable) → variable_in k ≡ Some v → takes k ≡ false
        by_variable (Takes type) v is = absurd (cc)
        by_variable _ v is = refl

        by_class : (id type : ℕ) (v : Variable) → type_of (defined_as m id) ≡ Some type → is_void m type ≡ false → kind (defined_as m id) ≡ Holds v → v.type ≡ type → (b : Bool) → (v.class == storage_class.FUNCTION) ≡ b
            → usable_as (bare body) [] id (defined_as m id) ≡ true → IsGiven m (count + length (variables_of body)) type (Own id)
        by_class id type v typed full is same true class usable =
            local_given id type v is same (ap (λ b. not b || defined (bare body) id) (sym class) ∙ ap (λ k. if gives_value k then false else (not (is_local k) || defined (bare body) id)) (sym is) ∙ usable)
        by_class id type v typed full is same false class usable =
            given_before id type typed full (ap (λ k. if gives_value k then false else (not (is_local k) || false)) is ∙ ap (λ b. not b || false) class)
            (λ w other. let both : Some w ≡ Some v = sym other ∙ ap variable_in is in let e : w ≡ v = cc in ap (λ x. x.class == storage_class.FUNCTION) e ∙ class) (ap takes is)

        by_sort : (id type : ℕ) → type_of (defined_as m id) ≡ Some type → is_void m type ≡ false → usable_as (bare body) [] id (defined_as m id) ≡ true
            → ((value : Fixed) × (kind (defined_as m id) ≡ Fixes type value)) ⊎ (((v : Variable) × (kind (defined_as m id) ≡ Holds v) × (v.type ≡ type)) ⊎ ((kind (defined_as m id) ≡ Takes type) ⊎ (gives_value (kind (defined_as m id)) ≡ true)))
            → IsGiven m (count + length (variables_of body)) type (Own id)
        by_sort id type typed full usable (inl fixed) =
            given_before id type typed full (ap (λ k. if gives_value k then false else (not (is_local k) || false)) fixed.1)
            (λ w other. let over : None ≡ Some w = sym (ap variable_in fixed.1) ∙ other in absurd (cc)) (ap takes fixed.1)
        by_sort id type typed full usable (inr (inl has)) = by_class id type has.0 typed full has.1 has.2 (has.0.class == storage_class.FUNCTION) refl usable
        by_sort id type typed full usable (inr (inr (inl is))) =
            parameter_given id type is (ap (λ k. if gives_value k then false else (not (is_local k) || defined (bare body) id)) (sym is) ∙ usable)
        by_sort id type typed full usable (inr (inr (inr given))) = absurd (false≢true (ap (λ b. if b then false else (not (of_function (defined_as m id)) || defined (bare body) id)) (sym given) ∙ usable))
