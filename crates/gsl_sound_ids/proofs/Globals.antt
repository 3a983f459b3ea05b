-- What ids stand for that last for all functions.
use Rattle.std.proofs.Common.{◌≡◌, refl, sym, ap, ◌∙◌, subst, ℕ, ◌+◌, ◌<◌, ◌≤◌, Bool, true, false, ◌||◌, not, if◌then◌else◌, List, [], ◌∷◌, length, Option, Some, None, ◌⊎◌, inl, inr, arith}
use Rattle.std.specs.List.{cons_option, filter_map, list_all, list_any}
use Rattle.std.specs.Prelude.{◌==◌}
use Rattle.std.proofs.lemmas.Bool.{and_from, and_parts, cond-true, cond-false, eq-eqb, eqb-true, or_left, or_right, true≢false, false≢true, cases_Bool}
use Rattle.gsl_instr.specs.declared.enumerant.storage_class.TheConstants as storage_class
use Rattle.gsl_instr.specs.declared.instruction.Instruction.{Instruction}
use Rattle.gsl_instr.specs.declared.instruction.Instruction.TheVariants as instruction
use Rattle.gsl_words.specs.declared.module.Instr.{Instr}
use Rattle.gsl_words.specs.declared.module.Module.{Module}
use Rattle.gsl_valid.specs.ConstantRules.{are_parts, is_constant, is_constant_of, is_fixed}
use Rattle.gsl_valid.specs.DecorationRules.{pointee, pointee_of}
use Rattle.gsl_valid.specs.GlobalRules.{is_global, is_global_of}
use Rattle.gsl_valid.specs.Ids.{defined, defines, needs}
use Rattle.gsl_valid.specs.Instruction.{read}
use Rattle.gsl_valid.specs.Kinds.{Kind, Fixes, Holds, Takes, Calls, Gives, Shape, OfVoid, OfPointer, Value, Truth, Word, Parts, Zeros, Variable, constant_in, kind, type_in, variable_in, variable_is}
use Rattle.gsl_valid.specs.LayoutRules.{is_in_block, reaches_it}
use Rattle.gsl_valid.specs.LocalityRules.{gives_value, is_local, of_function}
use Rattle.gsl_valid.specs.Placed.{Code}
use Rattle.gsl_valid.specs.Search.{whole}
use Rattle.gsl_valid.specs.Types.{Target, defined_as, is_block_class, is_value_type, outside_of, target_of}
use Rattle.gsl_valid.proofs.Lookups.{Has}
use Rattle.gsl_machine.specs.Constants.{constant}
use Rattle.gsl_machine.specs.Functions.{point_each}
use Rattle.gsl_machine.specs.Interfaces.{all_variables, block_variables, constant_held, globals, holds_block, holds_value, if_there, point_blocks, value_variables}
use Rattle.gsl_machine.specs.State.{Held, Ids, InBlock, InVariable, Points, Whole, give}
use Rattle.gsl_sound_ids.specs.Held.{Agrees, IsGiven, IsOf, usable_as}
use Rattle.gsl_sound_ids.proofs.Laid.{has_self}
use Rattle.gsl_sound_code.proofs.Looks.{Kept, found, kept_behind, constant_at}
use Rattle.gsl_sound_ids.proofs.Plain.{IsPlain, bool_type_plain, int_type_plain, plain_shape, points_nowhere, value_type_plain}
use Rattle.gsl_sound_ids.proofs.Variables.{Outer, outer, outer_own, own_id}

-- ---- variables in lists

-- The list has the variable.
abbrev pub Among : Variable → List Variable → Type 0
Among v [] = ⊥
Among v (w ∷ variables) = (w ≡ v) ⊎ Among v variables

pub among_mapped : {A : Type 0} (f : A → Option Variable) (In : A → List A → Type 0) (v : Variable) (a : A) (list : List A) → ((b : A) (rest : List A) → In a (b ∷ rest) → (b ≡ a) ⊎ In a rest) → (In a [] → ⊥)
    → In a list → f a ≡ Some v → Among v (filter_map f list)
among_mapped f In v a [] cons empty is gives = absurd (empty is)
among_mapped f In v a (b ∷ list) cons empty is gives = elim (cons b list is) [
  | inl same ↦ subst (λ o. Among v (cons_option o (filter_map f list))) (sym (ap f same ∙ gives)) (inl refl)
  | inr later ↦ skip (f b) (among_mapped f In v a list cons empty later gives)
]
  where
    skip : (o : Option Variable) → Among v (filter_map f list) → Among v (cons_option o (filter_map f list))
    skip None among = among
    skip (Some w) among = inr among

-- what a list has that was gathered comes from something
pub gathered : {A : Type 0} (f : A → Option Variable) (v : Variable) (list : List A) (P : Type 0) (In : A → List A → Type 0) → ((a : A) (rest : List A) → In a (a ∷ rest)) → ((a b : A) (rest : List A) → In a rest → In a (b ∷ rest))
    → Among v (filter_map f list) → ((a : A) → In a list → f a ≡ Some v → P) → P
gathered f v [] P In here later among each = absurd among
gathered f v (a ∷ list) P In here later among each = by_first (f a) refl among (λ among. gathered f v list P In here later among (λ b is gives. each b (later b a list is) gives))
  where
    by_first : (o : Option Variable) → f a ≡ o → Among v (cons_option o (filter_map f list)) → (Among v (filter_map f list) → P) → P
    by_first None gives among next = next among
    by_first (Some w) gives (inl same) next = each a (here a list) (gives ∙ ap Some same)
    by_first (Some w) gives (inr among) next = next among

-- ---- ids of variables that point to them

-- An id stands for a pointer to one of so many variables.
pub record PointsBelow (bound : ℕ) (held : Option Held) : Type 0 where
  pub number : ℕ
  pub is : held ≡ Some (Points (InVariable number []))
  pub below : number < bound

pub stays_pointed : (ids : Ids) (number : ℕ) (vs : List Variable) (bound id : ℕ) → number + length vs ≤ bound → PointsBelow bound (ids id) → PointsBelow bound (point_each ids number vs id)
stays_pointed ids number [] bound id room p = p
stays_pointed ids number (v ∷ vs) bound id room p = stays_pointed (give ids v.id (Points (InVariable number []))) (number + 1) vs bound id (omega (arith, room)) (by_same (id == v.id))
  where
    by_same : (b : Bool) → PointsBelow bound (if b then Some (Points (InVariable number [])) else ids id)
    by_same true = record { number = number; is = refl; below = omega (arith, room) }
    by_same false = p

pub pointed : (ids : Ids) (number : ℕ) (vs : List Variable) (bound id : ℕ) (v : Variable) → number + length vs ≤ bound → Among v vs → v.id ≡ id → PointsBelow bound (point_each ids number vs id)
pointed ids number [] bound id v room among same = absurd among
pointed ids number (w ∷ vs) bound id v room (inl is) same =
    stays_pointed (give ids w.id (Points (InVariable number []))) (number + 1) vs bound id (omega (arith, room))
    (record { number = number; is = cond-true _ _ _ (eq-eqb id w.id (sym same ∙ ap (λ x. x.id) (sym is))); below = omega (arith, room) })
pointed ids number (w ∷ vs) bound id v room (inr among) same = pointed (give ids w.id (Points (InVariable number []))) (number + 1) vs bound id v (omega (arith, room)) among same

-- an id that is no variable's
pub unpointed : (ids : Ids) (number : ℕ) (vs : List Variable) (id : ℕ) → ((v : Variable) → Among v vs → v.id ≡ id → ⊥) → point_each ids number vs id ≡ ids id
unpointed ids number [] id none = refl
unpointed ids number (v ∷ vs) id none =
    unpointed (give ids v.id (Points (InVariable number []))) (number + 1) vs id (λ w among same. none w (inr among) same)
    ∙ elim (cases_Bool (id == v.id)) [ inl same ↦ absurd (none v (inl refl) (sym (eqb-true id v.id same))) | inr differ ↦ cond-false _ _ _ differ ]

module _ (m : Module) where
  pub unblocked : (ids : Ids) (vs : List Variable) (id : ℕ) → ((v : Variable) → Among v vs → v.id ≡ id → ⊥) → point_blocks m ids vs id ≡ ids id
  unblocked ids [] id none = refl
  unblocked ids (v ∷ vs) id none =
      unblocked (give ids v.id (Points (InBlock v.id 0 (pointee m v.type)))) vs id (λ w among same. none w (inr among) same)
      ∙ elim (cases_Bool (id == v.id)) [ inl same ↦ absurd (none v (inl refl) (sym (eqb-true id v.id same))) | inr differ ↦ cond-false _ _ _ differ ]

  -- where there is one variable of an id, it points to its start
  stays_blocked : (ids : Ids) (vs : List Variable) (id : ℕ) (v : Variable) → ((w : Variable) → Among w vs → w.id ≡ id → w ≡ v) → ids id ≡ Some (Points (InBlock v.id 0 (pointee m v.type)))
      → point_blocks m ids vs id ≡ Some (Points (InBlock v.id 0 (pointee m v.type)))
  stays_blocked ids [] id v one is = is
  stays_blocked ids (w ∷ vs) id v one is = stays_blocked (give ids w.id (Points (InBlock w.id 0 (pointee m w.type)))) vs id v (λ x among same. one x (inr among) same) (elim (cases_Bool (id == w.id)) [
    | inl same ↦ cond-true _ _ _ same ∙ ap (λ x. Some (Points (InBlock x.id 0 (pointee m x.type)))) (one w (inl refl) (sym (eqb-true id w.id same)))
    | inr differ ↦ cond-false _ _ _ differ ∙ is
  ])

  blocked : (ids : Ids) (vs : List Variable) (id : ℕ) (v : Variable) → ((w : Variable) → Among w vs → w.id ≡ id → w ≡ v) → Among v vs → v.id ≡ id → point_blocks m ids vs id ≡ Some (Points (InBlock v.id 0 (pointee m v.type)))
  blocked ids [] id v one among same = absurd among
  blocked ids (w ∷ vs) id v one (inl is) same =
      stays_blocked (give ids w.id (Points (InBlock w.id 0 (pointee m w.type)))) vs id v (λ x among e. one x (inr among) e)
      (cond-true _ _ _ (eq-eqb id w.id (sym same ∙ ap (λ x. x.id) (sym is))) ∙ ap (λ x. Some (Points (InBlock x.id 0 (pointee m x.type)))) is)
  blocked ids (w ∷ vs) id v one (inr among) same = blocked (give ids w.id (Points (InBlock w.id 0 (pointee m w.type)))) vs id v (λ x a e. one x (inr a) e) among same

-- ---- ids by what they are

-- An id that has a type is a constant, a variable, a parameter or of a block.
pub sorted : (k : Kind) (type : ℕ) → type_in k ≡ Some type → ((value : Value) × (k ≡ Fixes type value)) ⊎ (((v : Variable) × (k ≡ Holds v) × (v.type ≡ type)) ⊎ ((k ≡ Takes type) ⊎ (gives_value k ≡ true)))
sorted (Fixes t value) type is = inl (value, ap (λ n. Fixes n value) (let e : Some t ≡ Some type = is in cc))
sorted (Holds v) type is = inr (inl (v, refl, (let e : Some v.type ≡ Some type = is in cc)))
sorted (Takes t) type is = inr (inr (inl (ap Takes (let e : Some t ≡ Some type = is in cc))))
sorted (Calls t function arguments) type is = inr (inr (inr refl))
sorted (Gives t) type is = inr (inr (inr refl))
sorted _ type is = absurd (cc)

parts_plain : (m : Module) (ids : List ℕ) (s : Shape) → are_parts m (is_constant_of m) ids s ≡ true → plain_shape s ≡ true
parts_plain m ids OfVoid is = absurd (false≢true is)
parts_plain m ids (OfPointer class pointee) is = absurd (false≢true is)
parts_plain m ids _ is = refl

pub fixed_plain : (m : Module) (type : ℕ) (value : Value) → is_fixed m type value ≡ true → IsPlain m type
fixed_plain m type Truth is = bool_type_plain m type is
fixed_plain m type (Word word) is = int_type_plain m type is
fixed_plain m type (Parts parts) is = parts_plain m parts _ is
fixed_plain m type Zeros is = value_type_plain m type (and_parts (is_value_type m type) _ is).0

any_has : (f : Instr → Bool) (code : Code) (i : Instr) → Has code i → f i ≡ true → list_any f code ≡ true
any_has f [] i has passes = absurd has
any_has f (j ∷ code) i (inl same) passes = or_left _ _ (ap f same ∙ passes)
any_has f (j ∷ code) i (inr later) passes = or_right (f j) _ (any_has f code i later passes)

-- what a pointer's type points to stands before it
pointer_needs : (test : ℕ → Bool) (d : Option Instruction) (t : Target) → target_of d ≡ Some t → list_all test (needs d) ≡ true → test t.pointee ≡ true
pointer_needs test None t is all = absurd (cc)
pointer_needs test (Some (instruction.TypePointer result class pointee)) t is all =
    let both : Some (record { class = class; pointee = pointee }) ≡ Some t = is in
    let same : record { class = class; pointee = pointee } ≡ t = cc in ap (λ x. test x.pointee) (sym same) ∙ (and_parts (test pointee) _ all).0
pointer_needs test (Some d) t is all = absurd (cc)

pub block_is_outer : (class : ℕ) → is_block_class class ≡ true → (class == storage_class.FUNCTION) ≡ false
block_is_outer class is = elim (cases_Bool (class == storage_class.FUNCTION)) [
  | inl same ↦ absurd (false≢true (ap is_block_class (sym (eqb-true class storage_class.FUNCTION same)) ∙ is))
  | inr differ ↦ differ
]

module _ (m : Module) (kept : Kept m) where
  pub among_all : (v : Variable) → Among v (all_variables m) → variable_is (defined_as m v.id) ≡ Some v
  among_all v among =
      gathered (λ i. variable_is (read i)) v (outside_of m) (variable_is (defined_as m v.id) ≡ Some v) (λ i code. Has code i) (λ i code. inl refl) (λ i j code later. inr later) among
      (λ i has is. ap variable_is (outer_own m kept i v has is) ∙ is)

  pub value_held : (w v : Variable) → holds_value w ≡ Some v → (w ≡ v) × (is_block_class v.class ≡ false)
  value_held w v is = by_class (is_block_class w.class) refl is
    where
      by_class : (b : Bool) → is_block_class w.class ≡ b → (if b then None else Some w) ≡ Some v → (w ≡ v) × (is_block_class v.class ≡ false)
      by_class true class is = absurd (cc)
      by_class false class is = let same : w ≡ v = cc in (same, ap (λ x. is_block_class x.class) (sym same) ∙ class)

  pub block_held : (w v : Variable) → holds_block w ≡ Some v → (w ≡ v) × (is_block_class v.class ≡ true)
  block_held w v is = by_class (is_block_class w.class) refl is
    where
      by_class : (b : Bool) → is_block_class w.class ≡ b → (if b then Some w else None) ≡ Some v → (w ≡ v) × (is_block_class v.class ≡ true)
      by_class true class is = let same : w ≡ v = cc in (same, ap (λ x. is_block_class x.class) (sym same) ∙ class)
      by_class false class is = absurd (cc)

  pub among_values : (v : Variable) → Among v (value_variables m) → (variable_is (defined_as m v.id) ≡ Some v) × (is_block_class v.class ≡ false)
  among_values v among =
      gathered holds_value v (all_variables m) ((variable_is (defined_as m v.id) ≡ Some v) × (is_block_class v.class ≡ false)) Among (λ w vs. inl refl) (λ w x vs later. inr later) among
      (λ w all is. let h = value_held w v is in (among_all v (subst (λ x. Among x (all_variables m)) h.0 all), h.1))

  pub among_blocks : (v : Variable) → Among v (block_variables m) → (variable_is (defined_as m v.id) ≡ Some v) × (is_block_class v.class ≡ true)
  among_blocks v among =
      gathered holds_block v (all_variables m) ((variable_is (defined_as m v.id) ≡ Some v) × (is_block_class v.class ≡ true)) Among (λ w vs. inl refl) (λ w x vs later. inr later) among
      (λ w all is. let h = block_held w v is in (among_all v (subst (λ x. Among x (all_variables m)) h.0 all), h.1))

  in_all : (id : ℕ) (v : Variable) → Outer m id v → Among v (all_variables m)
  in_all id v o = among_mapped (λ i. variable_is (read i)) (λ i code. Has code i) v o.instr (outside_of m) (λ j rest has. has) (λ none. none) o.has o.is

  in_values : (id : ℕ) (v : Variable) → Outer m id v → is_block_class v.class ≡ false → Among v (value_variables m)
  in_values id v o class = among_mapped holds_value Among v v (all_variables m) (λ w rest among. among) (λ none. none) (in_all id v o) (cond-false (is_block_class v.class) None (Some v) class)

  pub in_blocks : (id : ℕ) (v : Variable) → Outer m id v → is_block_class v.class ≡ true → Among v (block_variables m)
  in_blocks id v o class = among_mapped holds_block Among v v (all_variables m) (λ w rest among. among) (λ none. none) (in_all id v o) (cond-true (is_block_class v.class) (Some v) None class)

  -- an outer variable's type points to something
  outer_target : (id : ℕ) (v : Variable) → Outer m id v → (t : Target) × (target_of (defined_as m v.type) ≡ Some t)
  outer_target id v o = by_target (target_of (defined_as m v.type)) (ap (is_global m) (sym o.is) ∙ ap (λ b. b || is_global m (variable_is (read o.instr))) (sym o.inside) ∙ o.keeps.global)
    where
      by_target : (t : Option Target) → is_global_of m v.class v.initialiser t ≡ true → (u : Target) × (t ≡ Some u)
      by_target None is = absurd (false≢true is)
      by_target (Some t) is = (t, refl)

  pub pointee_stands : (id : ℕ) (v : Variable) → Outer m id v → is_block_class v.class ≡ true → is_in_block m (pointee m v.type) ≡ true
  pointee_stands id v o class =
      any_has (λ i. reaches_it m (pointee m v.type) (variable_is (read i))) (outside_of m) o.instr o.has
      (ap (reaches_it m (pointee m v.type)) o.is ∙ and_from _ _ class (has_self (whole m) (pointee m v.type) (by_definition (defined_as m v.type) refl)))
    where
      by_definition : (d : Option Instruction) → defined_as m v.type ≡ d → defined (whole m) (pointee m v.type) ≡ true
      by_definition None is =
          let t = outer_target id v o in let over : None ≡ Some t.0 = ap target_of (sym is) ∙ t.1 in absurd (cc)
      by_definition (Some d) is =
          let t = outer_target id v o in
          let f = found m [] m.instrs v.type d kept.all is in
          let stands = pointer_needs (defined f.before) (read f.instr) t.0 (ap target_of (f.reads ∙ sym is) ∙ t.1) (and_parts (list_all (defined f.before) (needs (read f.instr))) _ f.keeps.uses).0 in
          ap (λ x. defined (whole m) (pointee_of x)) t.1 ∙ kept_behind m (f.instr ∷ f.before) f.code t.0.pointee f.later (or_right (defines f.instr t.0.pointee) _ stands)

  pub same_variable : (id : ℕ) (v w : Variable) → variable_is (defined_as m id) ≡ Some v → variable_is (defined_as m w.id) ≡ Some w → w.id ≡ id → w ≡ v
  same_variable id v w here there same = let both : Some w ≡ Some v = sym there ∙ ap (λ n. variable_is (defined_as m n)) same ∙ here in cc

  -- an id that is no variable's
  pub constant_passes : (id : ℕ) → variable_is (defined_as m id) ≡ None → globals m id ≡ constant_held m id
  constant_passes id none =
      unblocked m (point_each (constant_held m) 0 (value_variables m)) (block_variables m) id (λ v among same. let over : None ≡ Some v = sym none ∙ ap (λ n. variable_is (defined_as m n)) (sym same) ∙ (among_blocks v among).0 in absurd (cc))
      ∙ unpointed (constant_held m) 0 (value_variables m) id (λ v among same. let over : None ≡ Some v = sym none ∙ ap (λ n. variable_is (defined_as m n)) (sym same) ∙ (among_values v among).0 in absurd (cc))

  block_starts : (id : ℕ) (v : Variable) → variable_is (defined_as m id) ≡ Some v → is_block_class v.class ≡ true → globals m id ≡ Some (Points (InBlock id 0 (pointee m v.type)))
  block_starts id v is class =
      let o = outer m kept id v is (block_is_outer v.class class) in
      blocked m (point_each (constant_held m) 0 (value_variables m)) (block_variables m) id v (λ w among same. same_variable id v w is (among_blocks w among).0 same) (in_blocks id v o class) (own_id m kept id v is)
      ∙ ap (λ n. Some (Points (InBlock n 0 (pointee m v.type)))) (own_id m kept id v is)

  value_points : (id : ℕ) (v : Variable) → variable_is (defined_as m id) ≡ Some v → (v.class == storage_class.FUNCTION) ≡ false → is_block_class v.class ≡ false → PointsBelow (length (value_variables m)) (globals m id)
  value_points id v is outside class =
      let o = outer m kept id v is outside in
      let passes : globals m id ≡ point_each (constant_held m) 0 (value_variables m) id =
      unblocked m (point_each (constant_held m) 0 (value_variables m)) (block_variables m) id (λ w among same.
      let e = same_variable id v w is (among_blocks w among).0 same in absurd (true≢false (sym (among_blocks w among).1 ∙ ap (λ x. is_block_class x.class) e ∙ class))) in
      subst (PointsBelow (length (value_variables m))) (sym passes) (pointed (constant_held m) 0 (value_variables m) (length (value_variables m)) id v (omega arith) (in_values id v o class) (own_id m kept id v is))

  -- what lasts for all functions
  pub globals_agree : (count : ℕ) → length (value_variables m) ≤ count → Agrees m count [] [] (globals m)
  globals_agree count room = record { given = λ id type typed full usable. by_sort id type usable (sorted (kind (defined_as m id)) type typed); blocks = block_starts }
    where
      of_value : (id type : ℕ) (v : Variable) → kind (defined_as m id) ≡ Holds v → v.type ≡ type → (v.class == storage_class.FUNCTION) ≡ false → (b : Bool) → is_block_class v.class ≡ b → IsGiven m count type (globals m id)
      of_value id type v is same outside true class =
          let e = ap variable_in is in
          let o = outer m kept id v e outside in
          let t = outer_target id v o in
          record {
            it = Points (InBlock id 0 (pointee m v.type));
            is = block_starts id v e class;
            of = subst (λ x. IsOf m count x (Points (InBlock id 0 (pointee m v.type)))) (sym (ap (λ n. target_of (defined_as m n)) (sym same) ∙ t.1)) (record { variable = v; is = e; class = class }, inl (pointee_stands id v o class));
          }
      of_value id type v is same outside false class =
          let e = ap variable_in is in
          let t = outer_target id v (outer m kept id v e outside) in
          let p = value_points id v e outside class in
          let low = p.below in
          record {
            it = Points (InVariable p.number []);
            is = p.is;
            of = subst (λ x. IsOf m count x (Points (InVariable p.number []))) (sym (ap (λ n. target_of (defined_as m n)) (sym same) ∙ t.1)) (omega (arith, low, room));
          }

      by_class : (id type : ℕ) (v : Variable) → kind (defined_as m id) ≡ Holds v → v.type ≡ type → (b : Bool) → (v.class == storage_class.FUNCTION) ≡ b → usable_as [] [] id (defined_as m id) ≡ true → IsGiven m count type (globals m id)
      by_class id type v is same true class usable =
          absurd (false≢true (ap (λ b. not b || false) (sym class) ∙ ap (λ k. if gives_value k then false else (not (is_local k) || false)) (sym is) ∙ usable))
      by_class id type v is same false class usable = of_value id type v is same class (is_block_class v.class) refl

      by_sort : (id type : ℕ) → usable_as [] [] id (defined_as m id) ≡ true → ((value : Value) × (kind (defined_as m id) ≡ Fixes type value)) ⊎ (((v : Variable) × (kind (defined_as m id) ≡ Holds v) × (v.type ≡ type)) ⊎ ((kind (defined_as m id) ≡ Takes type) ⊎ (gives_value (kind (defined_as m id)) ≡ true)))
          → IsGiven m count type (globals m id)
      by_sort id type usable (inl fixed) =
          let plain : IsPlain m type = fixed_plain m type fixed.0 (ap (λ k. is_constant m (constant_in k)) (sym fixed.1) ∙ constant_at m kept id) in
          record {
            it = Whole (constant m id);
            is = constant_passes id (ap variable_in fixed.1) ∙ ap (λ k. if_there (constant_in k) (Whole (constant m id))) fixed.1;
            of = subst (λ t. IsOf m count t (Whole (constant m id))) (sym (points_nowhere m type plain)) tt;
          }
      by_sort id type usable (inr (inl held)) = by_class id type held.0 held.1 held.2 (held.0.class == storage_class.FUNCTION) refl usable
      by_sort id type usable (inr (inr (inl taken))) = absurd (false≢true (ap (λ k. if gives_value k then false else (not (is_local k) || false)) (sym taken) ∙ usable))
      by_sort id type usable (inr (inr (inr given))) = absurd (false≢true (ap (λ b. if b then false else (not (of_function (defined_as m id)) || false)) (sym given) ∙ usable))
