-- Instructions on pointers.
use Rattle.std.proofs.Common.{◌≡◌, refl, sym, ap, ◌∙◌, subst, ℕ, ◌+◌, Bool, true, false, ◌&&◌, ◌||◌, not, if◌then◌else◌, nat_lt, List, [], ◌∷◌, length, Option, Some, None, inl, arith}
use Rattle.std.specs.List.{AllByRecursion}
use Rattle.std.specs.Prelude.{◌==◌}
use Rattle.std.proofs.lemmas.Bool.{and_parts, eq-eqb, eqb-true, lt-ltb, false≢true, or_left}
use Rattle.gsl_base.specs.declared.input.Input.{Input}
use Rattle.gsl_instr.specs.declared.enumerant.storage_class.TheConstants as storage_class
use Rattle.gsl_instr.specs.declared.instruction.Instruction.{Instruction}
use Rattle.gsl_instr.specs.declared.instruction.Instruction.TheVariants as instruction
use Rattle.gsl_words.specs.declared.module.Module.{Module}
use Rattle.gsl_values.specs.declared.value.Value.TheVariants.{Word}
use Rattle.gsl_valid.specs.CallRules.{points, target}
use Rattle.gsl_valid.specs.ConstantRules.{is_constant}
use Rattle.gsl_valid.specs.DecorationRules.{pointee, pointee_of}
use Rattle.gsl_valid.specs.Decorations.{has}
use Rattle.gsl_valid.specs.Ids.{defined, is_id, result}
use Rattle.gsl_valid.specs.Instruction.{passes_if, read}
use Rattle.gsl_valid.specs.Kinds.{Kind, Fixes, Holds, Shape, OfVoid, OfVector, OfArray, OfRuntimeArray, OfStruct, OfPointer, Value as Fixed, Truth, Word as OneWord, Parts, Zeros, Variable, constant_in, kind, shape_of, type_in, type_of, value_of, variable_in, variable_is, word_if, word_in}
use Rattle.gsl_valid.specs.LayoutRules.{is_storage}
use Rattle.gsl_valid.specs.MemoryRules.{grows, grows_at, is_part, leads_to, may_load, may_store, member_at, memory_of, part_at, part_by, part_of, stores}
use Rattle.gsl_valid.specs.Placed.{Code, Placed}
use Rattle.gsl_valid.specs.TypeRules.{is_made}
use Rattle.gsl_valid.specs.Types.{Target, defined_as, has_type, int_of, is_block_class, is_int_of, is_int_value, is_value_type, target_in, target_of}
use Rattle.gsl_valid.specs.Where.{where_at}
use Rattle.gsl_machine.specs.Functions.{begins_as}
use Rattle.gsl_machine.specs.Memory.{along, counting, loading, parts_as, storing}
use Rattle.gsl_machine.specs.State.{Going, Outcome, Pointer, Points, State, giving, giving_value, on_pointer, on_whole}
use Rattle.gsl_machine.specs.Steps.{act}
use Rattle.gsl_sound_ids.specs.Held.{IsOf, LeadsSomewhere, usable_as}
use Rattle.gsl_sound.specs.Sound.{Fine}
use Rattle.gsl_sound_code.specs.Spots.{bare}
use Rattle.gsl_sound_ids.proofs.Globals.{block_is_outer, pointee_stands}
use Rattle.gsl_sound_code.proofs.Looks.{Kept, constant_at, made_at}
use Rattle.gsl_sound.proofs.Moving.{IsIndex, fine_along, fine_counting, fine_loading, fine_storing, fine_pointer}
use Rattle.gsl_sound_ids.proofs.Plain.{IsPlain, IsPointer, IsValue, int_type_plain, int_value, plain_shape, value_of_type, value_type_plain}
use Rattle.gsl_sound.proofs.Ready.{Ready, give_one, give_value, going, usable}
use Rattle.gsl_sound.proofs.Valued.{with_value_of}
use Rattle.gsl_sound_ids.proofs.Variables.{local_variable, outer}

module _ (m : Module) where
  -- an id that points to something
  pub pointer_of : (test : Option Target → Bool) (id : ℕ) → test None ≡ false → test (target m id) ≡ true → (pointer : IsPointer m id) × (target m id ≡ Some pointer.target) × (test (Some pointer.target) ≡ true)
  pointer_of test id none is = by_type (type_of (defined_as m id)) refl is
    where
      by_target : (type : ℕ) → type_of (defined_as m id) ≡ Some type → (t : Option Target) → target_of (defined_as m type) ≡ t → test t ≡ true → (pointer : IsPointer m id) × (target m id ≡ Some pointer.target) × (test (Some pointer.target) ≡ true)
      by_target type typed None e is = absurd (false≢true (sym none ∙ is))
      by_target type typed (Some t) e is = (record { type = type; typed = typed; target = t; points = e }, ap (points m) typed ∙ e, is)

      by_type : (o : Option ℕ) → type_of (defined_as m id) ≡ o → test (points m o) ≡ true → (pointer : IsPointer m id) × (target m id ≡ Some pointer.target) × (test (Some pointer.target) ≡ true)
      by_type None typed is = absurd (false≢true (sym none ∙ is))
      by_type (Some type) typed is = by_target type typed (target_of (defined_as m type)) refl is

  part_none : (indexes : List ℕ) (to : ℕ) → is_part to (part_at m None indexes) ≡ true → ⊥
  part_none [] to is = false≢true is
  part_none (index ∷ indexes) to is = false≢true is

  int_shape_plain : (sign : ℕ) (s : Shape) → is_int_of sign s ≡ true → plain_shape s ≡ true
  int_shape_plain sign OfVoid is = absurd (false≢true is)
  int_shape_plain sign (OfPointer class pointee) is = absurd (false≢true is)
  int_shape_plain sign _ is = refl

  storage_is_block : (v : Variable) → is_storage m v ≡ true → is_block_class v.class ≡ true
  storage_is_block v is = by_class (v.class == storage_class.UNIFORM) (v.class == storage_class.STORAGE_BUFFER) (v.class == storage_class.PUSH_CONSTANT) (has m _ (pointee m v.type)) is
    where
      by_class : (uniform storage push buffer : Bool) → (storage || uniform && buffer) ≡ true → (uniform || storage || push) ≡ true
      by_class true storage push buffer is = refl
      by_class false true push buffer is = refl
      by_class false false push buffer is = absurd (false≢true is)

  -- where a struct grows, its last member is below the count
  grows_below : (member size offset type : ℕ) (s : Shape) → grows_at m member s ≡ true → nat_lt member (parts_as m size offset type s) ≡ true
  grows_below member size offset type (OfStruct id members) is =
      let e : length members ≡ member + 1 = eqb-true (length members) (member + 1) (and_parts (length members == member + 1) _ is).0 in lt-ltb member (length members) (omega (arith, e))
  grows_below member size offset type _ is = absurd (false≢true is)

module _ (m : Module) (kept : Kept m) where
  -- what a pointer points to is of values
  pointee_plain : (type : ℕ) (t : Target) → target_of (defined_as m type) ≡ Some t → IsPlain m t.pointee
  pointee_plain type t is = by_shape (shape_of (defined_as m type)) (made_at m kept type) is
    where
      by_shape : (s : Shape) → ((first : Bool) × (is_made m first s ≡ true)) → target_in s ≡ Some t → IsPlain m t.pointee
      by_shape (OfPointer class pointee) made is =
          let both : Some (record { class = class; pointee = pointee }) ≡ Some t = is in
          let same : record { class = class; pointee = pointee } ≡ t = cc in
          subst (λ x. IsPlain m x.pointee) same (value_type_plain m pointee (and_parts (is_value_type m pointee) _ made.1).0)
      by_shape _ made is = absurd (cc)

  -- a constant of one word is an Int
  word_value : (id word : ℕ) → value_of (defined_as m id) ≡ Some word → IsValue m id
  word_value id word is = by_kind (kind (defined_as m id)) refl is
    where
      by_fixed : (type : ℕ) (value : Fixed) → kind (defined_as m id) ≡ Fixes type value → word_in value ≡ Some word → IsValue m id
      by_fixed type Truth e is = absurd (cc)
      by_fixed type (OneWord w) e is = record { type = type; typed = ap type_in e; plain = int_type_plain m type (ap (λ k. is_constant m (constant_in k)) (sym e) ∙ constant_at m kept id) }
      by_fixed type (Parts parts) e is = absurd (cc)
      by_fixed type Zeros e is = absurd (cc)

      by_kind : (k : Kind) → kind (defined_as m id) ≡ k → word_if (constant_in k) ≡ Some word → IsValue m id
      by_kind (Fixes type value) e is = by_fixed type value e is
      by_kind _ e is = absurd (cc)

  -- the indexes of a chain are values
  index_value : (index : ℕ) (s : Shape) (part : ℕ) → part_by (is_int_value m index) (value_of (defined_as m index)) s ≡ Some part → IsValue m index
  index_value index s part is = by_shape s is
    where
      by_indexed : (b : Bool) (type : ℕ) → is_int_value m index ≡ b → (if b then Some type else None) ≡ Some part → IsValue m index
      by_indexed true type e is = int_value m index e
      by_indexed false type e is = absurd (cc)

      by_member : (members : List ℕ) (o : Option ℕ) → value_of (defined_as m index) ≡ o → member_at members o ≡ Some part → IsValue m index
      by_member members None e is = absurd (cc)
      by_member members (Some k) e is = word_value index k e

      by_shape : (s : Shape) → part_by (is_int_value m index) (value_of (defined_as m index)) s ≡ Some part → IsValue m index
      by_shape (OfVector component count) is = by_indexed (is_int_value m index) component refl is
      by_shape (OfArray element length) is = by_indexed (is_int_value m index) element refl is
      by_shape (OfRuntimeArray element) is = by_indexed (is_int_value m index) element refl is
      by_shape (OfStruct id members) is = by_member members (value_of (defined_as m index)) refl is
      by_shape _ is = absurd (cc)

  chain_values : (body block : Code) (indexes : List ℕ) (type to : ℕ) → AllByRecursion (λ id. usable_as body block id (defined_as m id) ≡ true) indexes → is_part to (part_at m (Some type) indexes) ≡ true → AllByRecursion (IsIndex m body block) indexes
  chain_values body block [] type to all is = tt
  chain_values body block (index ∷ indexes) type to all is = by_part (part_of m type index) refl (λ next e. chain_values body block indexes next to all.1 e) is
    where
      by_part : (o : Option ℕ) → part_of m type index ≡ o → ((next : ℕ) → is_part to (part_at m (Some next) indexes) ≡ true → AllByRecursion (IsIndex m body block) indexes)
          → is_part to (part_at m o indexes) ≡ true → AllByRecursion (IsIndex m body block) (index ∷ indexes)
      by_part None e later is = absurd (part_none m indexes to is)
      by_part (Some next) e later is = (record { usable = all.0; value = index_value index (shape_of (defined_as m type)) next e }, later next is)

module _ (m : Module) (kept : Kept m) (input : Input) (before : Code) (p : Placed) (state : State) where
  memory_is : (d : Instruction) → Ready m input before p d state → memory_of m d ≡ true
  memory_is d r = ap (passes_if (memory_of m)) (sym r.reads) ∙ r.step.keeps.memory

  with_pointer_of : (d : Instruction) → Ready m input before p d state → (id : ℕ) (go : Pointer → Outcome) → usable_as (bare state.body) (where_at m before).block id (defined_as m id) ≡ true → IsPointer m id
      → ((to : Pointer) → LeadsSomewhere m (length state.variables) to → Fine m input (go to)) → Fine m input (on_pointer (state.ids id) go)
  with_pointer_of d r id go u pointer fine = fine_pointer m input (length state.variables) (bare state.body) (where_at m before).block state.ids r.agrees id go u pointer fine

  pub loads : (type id pointer : ℕ) → Ready m input before p (instruction.Load type id pointer) state → Fine m input (act m input p.at state (instruction.Load type id pointer))
  loads type id pointer r =
      let d = instruction.Load type id pointer in
      let u = usable m kept input before p d state r in
      let to = pointer_of m (may_load m type pointer) pointer refl (memory_is d r) in
      let same = eqb-true to.0.target.pointee type (and_parts (to.0.target.pointee == type) _ (and_parts (to.0.target.pointee == type && _) _ to.2).0).0 in
      let plain = subst (IsPlain m) same (pointee_plain m kept to.0.type to.0.target to.0.points) in
      with_pointer_of d r pointer (λ from. loading m input state from (giving_value state id)) u.1.0 to.0
      (λ from leads. fine_loading m kept input p.at state r.bytes from (giving_value state id) leads (λ v. give_value m kept input before p d state r id type v refl refl plain))

  pub stores_value : (pointer value : ℕ) → Ready m input before p (instruction.Store pointer value) state → Fine m input (act m input p.at state (instruction.Store pointer value))
  stores_value pointer value r =
      let d = instruction.Store pointer value in
      let u = usable m kept input before p d state r in
      let to = pointer_of m (may_store m pointer value) pointer refl (memory_is d r) in
      let typed = (and_parts (has_type m to.0.target.pointee value) _ (and_parts (has_type m to.0.target.pointee value && _) _ to.2).0).0 in
      let good = going m kept input before p d state r refl refl refl refl in
      with_pointer_of d r pointer (λ to. on_whole (state.ids value) (λ v. storing m input state to v Going)) u.0 to.0
      (λ at leads. with_value_of m kept input before p state d r value (λ v. storing m input state at v Going) u.1.0 (value_of_type m to.0.target.pointee value typed (pointee_plain m kept to.0.type to.0.target to.0.points))
      (λ v. fine_storing m input state good at v leads))

  -- where a chain leads to
  leads_on : (base indexes_to : Target) (indexes : List ℕ) → leads_to m (Some base) indexes (Some indexes_to) ≡ true → is_part indexes_to.pointee (part_at m (Some base.pointee) indexes) ≡ true
  leads_on base to indexes is = (and_parts (base.class == to.class) _ is).1

  pub chains : (type id base : ℕ) (indexes : List ℕ) → Ready m input before p (instruction.AccessChain type id base indexes) state → Fine m input (act m input p.at state (instruction.AccessChain type id base indexes))
  chains type id base indexes r =
      let d = instruction.AccessChain type id base indexes in
      let u = usable m kept input before p d state r in
      let from = pointer_of m (λ t. leads_to m t indexes (target_of (defined_as m type))) base refl (and_parts _ (leads_to m (target m base) indexes (target_of (defined_as m type))) (memory_is d r)).1 in
      by_target from.0 (target_of (defined_as m type)) refl from.2 u.1.0 u.1.1
    where
      by_target : (pointer : IsPointer m base) (t : Option Target) → target_of (defined_as m type) ≡ t → leads_to m (Some pointer.target) indexes t ≡ true
          → usable_as (bare state.body) (where_at m before).block base (defined_as m base) ≡ true → AllByRecursion (λ id. usable_as (bare state.body) (where_at m before).block id (defined_as m id) ≡ true) indexes
          → Fine m input (act m input p.at state (instruction.AccessChain type id base indexes))
      by_target pointer None e is first all = absurd (false≢true is)
      by_target pointer (Some t) e is first all =
          let d = instruction.AccessChain type id base indexes in
          with_pointer_of d r base (λ from. along m input p.at state from indexes (λ to. giving state id (Points to))) first pointer
          (λ from leads. fine_along m kept input p.at state r.bytes (bare state.body) (where_at m before).block r.agrees indexes
          (chain_values m kept (bare state.body) (where_at m before).block indexes pointer.target.pointee t.pointee all (leads_on pointer.target t indexes is)) from (λ to. giving state id (Points to)) leads
          (λ to next. give_one m kept input before p d state r id type (Points to) refl refl (subst (λ o. IsOf m (length state.variables) o (Points to)) (sym e) next)))

  pub lengths : (type id pointer member : ℕ) → Ready m input before p (instruction.ArrayLength type id pointer member) state → Fine m input (act m input p.at state (instruction.ArrayLength type id pointer member))
  lengths type id pointer member r =
      let d = instruction.ArrayLength type id pointer member in
      let last = and_parts (int_of 0 (defined_as m type) && stores m (variable_is (defined_as m pointer))) (grows m member (target m pointer)) (memory_is d r) in
      let first = and_parts (int_of 0 (defined_as m type)) (stores m (variable_is (defined_as m pointer))) last.0 in
      by_variable (variable_is (defined_as m pointer)) refl first.1 last.1 (int_shape_plain m 0 (shape_of (defined_as m type)) first.0)
    where
      variable_type : (v : Variable) → variable_is (defined_as m pointer) ≡ Some v → type_of (defined_as m pointer) ≡ Some v.type
      variable_type v is = by_kind (kind (defined_as m pointer)) is
        where
          by_kind : (k : Kind) → variable_in k ≡ Some v → type_in k ≡ Some v.type
          by_kind (Holds w) is = ap (λ (x : Variable). Some x.type) (let both : Some w ≡ Some v = is in let same : w ≡ v = cc in same)
          by_kind _ is = absurd (cc)

      below : (v : Variable) → variable_is (defined_as m pointer) ≡ Some v → (t : Option Target) → target_of (defined_as m v.type) ≡ t → grows m member t ≡ true → (size : ℕ) → nat_lt member (parts_as m size 0 (pointee m v.type) (shape_of (defined_as m (pointee m v.type)))) ≡ true
      below v is None e grow size = absurd (false≢true grow)
      below v is (Some t) e grow size =
          let same : pointee m v.type ≡ t.pointee = ap pointee_of e in
          grows_below m member size 0 (pointee m v.type) (shape_of (defined_as m (pointee m v.type))) (ap (λ n. grows_at m member (shape_of (defined_as m n))) same ∙ grow)

      by_variable : (o : Option Variable) → variable_is (defined_as m pointer) ≡ o → stores m o ≡ true → grows m member (target m pointer) ≡ true → IsPlain m type → Fine m input (act m input p.at state (instruction.ArrayLength type id pointer member))
      by_variable None is stored grow plain = absurd (false≢true stored)
      by_variable (Some v) is stored grow plain =
          let d = instruction.ArrayLength type id pointer member in
          let class = storage_is_block m v stored in
          let start = r.agrees.blocks pointer v is class in
          let grow_here : grows m member (target_of (defined_as m v.type)) ≡ true = ap (λ o. grows m member (points m o)) (sym (variable_type v is)) ∙ grow in
          subst (λ o. Fine m input (on_pointer o (λ from. counting m input state from member (λ count. giving_value state id (Word count))))) (sym start)
          (fine_counting m kept input p.at state r.bytes pointer 0 (pointee m v.type) member (λ count. giving_value state id (Word count)) (record { variable = v; is = is; class = class })
          (inl (pointee_stands m kept pointer v (outer m kept pointer v is (block_is_outer v.class class)) class)) (below v is (target_of (defined_as m v.type)) refl grow_here)
          (λ count. give_value m kept input before p d state r id type (Word count) refl refl plain))

  pub declares : (type id class : ℕ) (initialiser : List ℕ) → Ready m input before p (instruction.Variable type id class initialiser) state → Fine m input (act m input p.at state (instruction.Variable type id class initialiser))
  declares type id class initialiser r =
      let d = instruction.Variable type id class initialiser in
      let v : Variable = record { type = type; id = id; class = class; initialiser = initialiser } in
      let local = local_variable m before p.instr r.step.code v r.step.keeps r.spot.started (ap variable_is r.reads) in
      let gives : result (read p.instr) ≡ Some id = ap result r.reads in
      let own : defined_as m id ≡ Some d = r.step.keeps.own id gives ∙ r.reads in
      let here : defined (bare state.body) id ≡ true = r.spot.later id (or_left _ _ (ap (is_id id) gives ∙ eq-eqb id id refl)) in
      let u : usable_as (bare state.body) (where_at m before).block id (defined_as m id) ≡ true =
      ap (usable_as (bare state.body) (where_at m before).block id) own ∙ ap (λ b. not b || defined (bare state.body) id) local.0 ∙ here in
      let good = going m kept input before p d state r refl refl refl r.standing in
      with_pointer_of d r id (λ to. storing m input state to (begins_as m v) Going) u (record { type = type; typed = ap type_of own; target = local.1.0; points = local.1.1 })
      (λ to leads. fine_storing m input state good to (begins_as m v) leads)
