-- Instructions on pointers, by types.
use Rattle.std.proofs.Common.{◌≡◌, refl, sym, ap, ◌∙◌, subst, ℕ, true, false, ◌&&◌, List, [], ◌∷◌, length, Option, Some, None}
use Rattle.std.specs.Prelude.{◌==◌}
use Rattle.std.proofs.lemmas.Bool.{and_parts, cond-true, eqb-true, or_left, false≢true, true≢false}
use Rattle.gsl_base.specs.declared.input.Input.{Input}
use Rattle.gsl_instr.specs.declared.enumerant.storage_class.TheConstants as storage_class
use Rattle.gsl_instr.specs.declared.instruction.Instruction.{Instruction}
use Rattle.gsl_instr.specs.declared.instruction.Instruction.TheVariants as instruction
use Rattle.gsl_words.specs.declared.module.Instr.{Instr}
use Rattle.gsl_words.specs.declared.module.Module.{Module}
use Rattle.gsl_values.specs.declared.value.Value.TheVariants.{Word}
use Rattle.gsl_valid.specs.CallRules.{points, target}
use Rattle.gsl_valid.specs.DecorationRules.{pointee}
use Rattle.gsl_valid.specs.FunctionRules.{is_local_of, may_be_variable, may_stand_here, outside}
use Rattle.gsl_valid.specs.Ids.{result}
use Rattle.gsl_valid.specs.Instruction.{passes_if, read}
use Rattle.gsl_valid.specs.Kinds.{Kind, Holds, Shape, OfInt, Value as Fixed, Variable, constant_is, constant_type, kind, shape_of, type_of, variable_in, variable_is}
use Rattle.gsl_valid.specs.MemoryRules.{grows, is_moved, is_part, leads_to, may_load, may_store, memory_of, part_at, stores}
use Rattle.gsl_valid.specs.Placed.{Code, Placed}
use Rattle.gsl_valid.specs.Types.{Target, defined_as, has_type, initialises, int_of, is_block_class, is_int_of, is_int_shape, is_ints, is_type, is_words, target_of}
use Rattle.gsl_valid.specs.Where.{Standing, Outside, Begun, AtHead, InBlock as InOne, AtMerge, Behind, where_at}
use Rattle.gsl_machine.specs.Constants.{constant}
use Rattle.gsl_machine.specs.Functions.{begins_as, initial}
use Rattle.gsl_machine.specs.Memory.{along, bytes_of, counting, loading, part_as, parts_as, storing}
use Rattle.gsl_machine.specs.State.{Going, Held, InBlock, InVariable, Outcome, Pointer, Points, State, Stuck, Whole, giving, giving_value, on, on_pointer, on_whole}
use Rattle.gsl_sound.proofs.Memories.{pointer_of}
use Rattle.gsl_sound_ids.proofs.Plain.{IsPointer}
use Rattle.gsl_sound_code.specs.Rules.{Keeps}
use Rattle.gsl_sound_code.proofs.Looks.{Kept}
use Rattle.gsl_sound_values.specs.Shaped.{is_shaped}
use Rattle.gsl_sound_values.proofs.Constants.{constant_shaped, word_shaped}
use Rattle.gsl_sound_values.proofs.Counted.{HasLanes, lanes_there}
use Rattle.gsl_sound_types.specs.Typed.{PointsTo, Typed, types_in}
use Rattle.gsl_sound_types.proofs.Holding.{pointer_of_type}
use Rattle.gsl_sound_types.proofs.Moving.{TypedOut, typed_along, typed_loading, typed_pointer, typed_storing}
use Rattle.gsl_sound_types.proofs.Valued.{gives_held, gives_shaped, with_type}

-- what is moved through a pointer into a block has components
moved_lanes : (m : Module) (t : Target) → is_moved m t ≡ true → is_block_class t.class ≡ true → HasLanes m t.pointee
moved_lanes m t is block = lanes_there m is_words t.pointee (sym (cond-true (is_block_class t.class) (is_ints m t.pointee) _ block) ∙ is)

-- a variable with an initialiser begins as a value of its type
pub initial_shaped : (m : Module) (kept : Kept m) (v : Variable) (type : ℕ) → initialises m type v.initialiser ≡ true → is_shaped m type (begins_as m v) ≡ true
initial_shaped m kept v type is = by_initialiser v.initialiser is
  where
    by_constant : (id : ℕ) (o : Option (ℕ × Fixed)) → constant_is (defined_as m id) ≡ o → is_type type (constant_type o) ≡ true → is_shaped m type (constant m id) ≡ true
    by_constant id None e is = absurd (false≢true is)
    by_constant id (Some c) e is = constant_shaped m kept id type c.1 (e ∙ ap (λ t. Some (t, c.1)) (eqb-true c.0 type is))

    by_initialiser : (ids : List ℕ) → initialises m type ids ≡ true → is_shaped m type (initial m v ids) ≡ true
    by_initialiser [] is = absurd (false≢true is)
    by_initialiser (id ∷ []) is = by_constant id (constant_is (defined_as m id)) refl is
    by_initialiser (id ∷ other ∷ ids) is = absurd (false≢true is)

-- ---- variables of functions

-- A variable of a function: its type points to what it holds, and its initialiser is of that.
pub record IsLocal (m : Module) (v : Variable) : Type 0 where
  pub target : Target
  pub points : target_of (defined_as m v.type) ≡ Some target
  pub class : (target.class == storage_class.FUNCTION) ≡ true
  pub begins : initialises m target.pointee v.initialiser ≡ true

pub variable_kind : (k : Kind) (v : Variable) → variable_in k ≡ Some v → k ≡ Holds v
variable_kind (Holds w) v is = ap Holds (let same : Some w ≡ Some v = is in cc)
variable_kind _ v is = absurd (cc)

local_here : (m : Module) (v : Variable) (s : Standing) → outside s ≡ false → may_be_variable m v.type v.class v.initialiser s ≡ true → IsLocal m v
local_here m v Outside out may = absurd (true≢false out)
local_here m v (Begun types) out may = absurd (false≢true may)
local_here m v AtHead out may = by_target (target_of (defined_as m v.type)) refl may
  where
    by_target : (o : Option Target) → target_of (defined_as m v.type) ≡ o → is_local_of m v.class v.initialiser o ≡ true → IsLocal m v
    by_target None e may = absurd (false≢true may)
    by_target (Some t) e may =
        let last = and_parts (t.class == v.class && v.class == storage_class.FUNCTION) (initialises m t.pointee v.initialiser) may in
        let first = and_parts (t.class == v.class) (v.class == storage_class.FUNCTION) last.0 in
        record { target = t; points = e; class = ap (λ n. n == storage_class.FUNCTION) (eqb-true t.class v.class first.0) ∙ first.1; begins = last.1 }
local_here m v InOne out may = absurd (false≢true may)
local_here m v AtMerge out may = absurd (false≢true may)
local_here m v Behind out may = absurd (false≢true may)

pub local_one : (m : Module) (before : Code) (i : Instr) (code : Code) (v : Variable) → Keeps m before i code → outside (where_at m before).standing ≡ false → variable_is (read i) ≡ Some v → IsLocal m v
local_one m before i code v keeps started is =
    local_here m v (where_at m before).standing started (ap (may_stand_here m _ (where_at m before).standing) (sym (variable_kind (kind (read i)) v is)) ∙ keeps.shape)

-- ---- instructions on pointers

module _ (m : Module) (kept : Kept m) (input : Input) (before : Code) (p : Placed) (code : Code) (keeps : Keeps m before p.instr code) (state : State) (typed : Typed m state) where
  memory_is : (d : Instruction) → read p.instr ≡ Some d → memory_of m d ≡ true
  memory_is d reads = ap (passes_if (memory_of m)) (sym reads) ∙ keeps.memory

  pub loads : (type id pointer : ℕ) → read p.instr ≡ Some (instruction.Load type id pointer) → TypedOut m (on_pointer (state.ids pointer) (λ from. loading m input state from (giving_value state id)))
  loads type id pointer reads =
      let d = instruction.Load type id pointer in
      let to = pointer_of m (may_load m type pointer) pointer refl (memory_is d reads) in
      let first = and_parts (to.0.target.pointee == type) (is_moved m to.0.target) (and_parts (to.0.target.pointee == type && is_moved m to.0.target) _ to.2).0 in
      typed_pointer m kept (types_in m state) state.ids typed.frame.held pointer to.0.type to.0.target (λ from. loading m input state from (giving_value state id)) to.0.typed to.0.points
      (λ from leads. typed_loading m kept input p.at state (types_in m state) typed.variables to.0.target from (giving_value state id) leads (moved_lanes m to.0.target first.1)
      (λ v shaped. gives_shaped m kept before p code keeps state typed d reads id type v refl refl (subst (λ t. is_shaped m t v ≡ true) (eqb-true to.0.target.pointee type first.0) shaped)))

  pub stores_value : (pointer value : ℕ) → read p.instr ≡ Some (instruction.Store pointer value) → TypedOut m (on_pointer (state.ids pointer) (λ to. on_whole (state.ids value) (λ v. storing m input state to v Going)))
  stores_value pointer value reads =
      let d = instruction.Store pointer value in
      let to = pointer_of m (may_store m pointer value) pointer refl (memory_is d reads) in
      let valued = (and_parts (has_type m to.0.target.pointee value) (is_moved m to.0.target) (and_parts (has_type m to.0.target.pointee value && is_moved m to.0.target) _ to.2).0).0 in
      typed_pointer m kept (types_in m state) state.ids typed.frame.held pointer to.0.type to.0.target (λ to. on_whole (state.ids value) (λ v. storing m input state to v Going)) to.0.typed to.0.points
      (λ at leads. with_type m kept before p code keeps state typed to.0.target.pointee value (λ v. storing m input state at v Going) valued
      (λ v shaped. typed_storing m kept input state to.0.target at v typed leads shaped))

  part_is : (type : ℕ) (o : Option ℕ) → is_part type o ≡ true → o ≡ Some type
  part_is type None is = absurd (false≢true is)
  part_is type (Some part) is = ap Some (eqb-true part type is)

  pub chains : (type id base : ℕ) (indexes : List ℕ) → read p.instr ≡ Some (instruction.AccessChain type id base indexes)
      → TypedOut m (on_pointer (state.ids base) (λ from. along m input p.at state from indexes (λ to. giving state id (Points to))))
  chains type id base indexes reads =
      let d = instruction.AccessChain type id base indexes in
      let from = pointer_of m (λ t. leads_to m t indexes (target_of (defined_as m type))) base refl (and_parts _ (leads_to m (target m base) indexes (target_of (defined_as m type))) (memory_is d reads)).1 in
      by_target from.0 (target_of (defined_as m type)) refl from.2
    where
      by_target : (pointer : IsPointer m base) (o : Option Target) → target_of (defined_as m type) ≡ o → leads_to m (Some pointer.target) indexes o ≡ true
          → TypedOut m (on_pointer (state.ids base) (λ from. along m input p.at state from indexes (λ to. giving state id (Points to))))
      by_target pointer None e is = absurd (false≢true is)
      by_target pointer (Some t) e is =
          let both = and_parts (pointer.target.class == t.class) (is_part t.pointee (part_at m (Some pointer.target.pointee) indexes)) is in
          let same = eqb-true pointer.target.class t.class both.0 in
          typed_pointer m kept (types_in m state) state.ids typed.frame.held base pointer.type pointer.target (λ from. along m input p.at state from indexes (λ to. giving state id (Points to))) pointer.typed pointer.points
          (λ from leads. typed_along m kept input p.at state (types_in m state) typed.variables typed.frame.held pointer.target.class pointer.target.pointee t.pointee from indexes (λ to. giving state id (Points to)) leads
          (part_is t.pointee (part_at m (Some pointer.target.pointee) indexes) both.1)
          (λ to points. gives_held m kept before p code keeps state typed (instruction.AccessChain type id base indexes) reads id type (Points to) refl refl
          (pointer_of_type m kept (types_in m state) type t to e (subst (λ c. PointsTo m (types_in m state) (record { class = c; pointee = t.pointee }) to) same points))))

  counts : (from : Pointer) (member : ℕ) (go : ℕ → Outcome) → ((n : ℕ) → TypedOut m (go n)) → TypedOut m (counting m input state from member go)
  counts (InBlock variable offset pointee) member go fine = counted _ (λ them variable offset pointee. refl) (λ them number path. refl)
    where
      counted : (count_at : List ℕ → Pointer → Outcome) → ((them : List ℕ) (variable offset pointee : ℕ) → count_at them (InBlock variable offset pointee) ≡ go (parts_as m (length them) offset pointee (shape_of (defined_as m pointee))))
          → ((them : List ℕ) (number : ℕ) (path : List ℕ) → count_at them (InVariable number path) ≡ Stuck)
          → TypedOut m (on (bytes_of m input state variable) (λ them. on (part_as m variable offset pointee member (shape_of (defined_as m pointee))) (count_at them)))
      counted count_at counts stuck = by_bytes (bytes_of m input state variable)
        where
          by_pointer : (them : List ℕ) (to : Pointer) → TypedOut m (count_at them to)
          by_pointer them (InBlock v o t) = subst (TypedOut m) (sym (counts them v o t)) (fine (parts_as m (length them) o t (shape_of (defined_as m t))))
          by_pointer them (InVariable number path) = subst (TypedOut m) (sym (stuck them number path)) tt

          by_part : (them : List ℕ) (o : Option Pointer) → TypedOut m (on o (count_at them))
          by_part them None = tt
          by_part them (Some to) = by_pointer them to

          by_bytes : (o : Option (List ℕ)) → TypedOut m (on o (λ them. on (part_as m variable offset pointee member (shape_of (defined_as m pointee))) (count_at them)))
          by_bytes None = tt
          by_bytes (Some them) = by_part them (part_as m variable offset pointee member (shape_of (defined_as m pointee)))
  counts (InVariable number path) member go fine = tt

  pub lengths : (type id pointer member : ℕ) → read p.instr ≡ Some (instruction.ArrayLength type id pointer member)
      → TypedOut m (on_pointer (state.ids pointer) (λ from. counting m input state from member (λ count. giving_value state id (Word count))))
  lengths type id pointer member reads =
      let d = instruction.ArrayLength type id pointer member in
      let last = and_parts (int_of 0 (defined_as m type) && stores m (variable_is (defined_as m pointer))) (grows m member (target m pointer)) (memory_is d reads) in
      let int = by_shape (shape_of (defined_as m type)) (and_parts (int_of 0 (defined_as m type)) (stores m (variable_is (defined_as m pointer))) last.0).0 in
      by_held (state.ids pointer) (λ count. gives_shaped m kept before p code keeps state typed d reads id type (Word count) refl refl (word_shaped m kept type count (or_left _ _ int)))
    where
      by_shape : (s : Shape) → is_int_of 0 s ≡ true → is_int_shape s ≡ true
      by_shape (OfInt signedness) is = refl
      by_shape _ is = absurd (false≢true is)

      by_held : (o : Option Held) → ((count : ℕ) → TypedOut m (giving_value state id (Word count))) → TypedOut m (on_pointer o (λ from. counting m input state from member (λ count. giving_value state id (Word count))))
      by_held None fine = tt
      by_held (Some (Whole v)) fine = tt
      by_held (Some (Points from)) fine = counts from member (λ count. giving_value state id (Word count)) fine

  -- a variable has its initialiser again
  pub declares : (type id class : ℕ) (initialiser : List ℕ) → outside (where_at m before).standing ≡ false → read p.instr ≡ Some (instruction.Variable type id class initialiser)
      → TypedOut m (on_pointer (state.ids id) (λ to. storing m input state to (begins_as m (record { type = type; id = id; class = class; initialiser = initialiser })) Going))
  declares type id class initialiser started reads =
      let d = instruction.Variable type id class initialiser in
      let v : Variable = record { type = type; id = id; class = class; initialiser = initialiser } in
      let local = local_one m before p.instr code v keeps started (ap variable_is reads) in
      let known : type_of (defined_as m id) ≡ Some type = ap type_of (keeps.own id (ap result reads) ∙ reads) in
      typed_pointer m kept (types_in m state) state.ids typed.frame.held id type local.target (λ to. storing m input state to (begins_as m v) Going) known local.points
      (λ to leads. typed_storing m kept input state local.target to (begins_as m v) typed leads (initial_shaped m kept v local.target.pointee local.begins))
