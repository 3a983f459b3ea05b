-- Where chains lead, what is loaded and what is stored, by types.
use Rattle.std.proofs.Common.{◌≡◌, refl, sym, ap, ◌∙◌, subst, ℕ, ◌+◌, ◌*◌, Bool, true, false, is_some, if◌then◌else◌, nat_lt, List, [], ◌∷◌, ◌++◌, length, slice_index, Option, Some, None}
use Rattle.gsl_base.specs.declared.input.Input.{Input}
use Rattle.gsl_instr.specs.declared.enumerant.decoration.TheConstants as decoration
use Rattle.gsl_words.specs.declared.module.Module.{Module}
use Rattle.gsl_values.specs.declared.value.Value.{Value}
use Rattle.gsl_values.specs.declared.value.Value.TheVariants.{Word, outs-Word}
use Rattle.gsl_tree.specs.Operations.{value_at, with_value_at}
use Rattle.gsl_tree.specs.Values.{components_in, of_components, parts_in, word_in, word_layer}
use Rattle.gsl_views.specs.Buffers.{put_words}
use Rattle.gsl_valid.specs.Decorations.{number_on, number_on_member}
use Rattle.gsl_valid.specs.Kinds.{Shape, OfVector, OfArray, OfRuntimeArray, OfStruct, Value as Fixed, constant_is, shape_of, type_of, value_of, word_if}
use Rattle.gsl_valid.specs.MemoryRules.{member_at, part_at, part_by, part_of}
use Rattle.gsl_valid.specs.Types.{Target, defined_as, is_block_class, is_int_value, target_of}
use Rattle.gsl_machine.specs.Constants.{constant}
use Rattle.gsl_machine.specs.Memory.{along, at_offset, at_stride, bytes_of, into, into_block, into_variable, loading, part_as, parts_as, storing, with_block, with_variable, words_at}
use Rattle.gsl_machine.specs.State.{Ended, Going, Held, Ids, InBlock, InVariable, Outcome, Pointer, Points, State, Strayed, Stuck, Whole, on, on_pointer, on_whole}
use Rattle.gsl_sound_code.proofs.Looks.{Kept}
use Rattle.gsl_sound_values.specs.Shaped.{is_shaped}
use Rattle.gsl_sound_values.proofs.Counted.{HasLanes}
use Rattle.gsl_sound_values.proofs.Parts.{read_shaped, within_shaped}
use Rattle.gsl_memory_law.specs.Typed.{HaveTypes}
use Rattle.gsl_sound_types.specs.Typed.{HoldTypes, LeadsTo, PointsTo, Typed, types_in}
use Rattle.gsl_memory_law.proofs.Typed.{set_typed, type_on, typed_at}
use Rattle.gsl_sound_types.proofs.Holding.{of_pointer, of_value}
use Rattle.gsl_sound_types.proofs.Parts.{constant_word, part_named}

-- A run that goes on has a state that is typed.
abbrev pub TypedOut : Module → Outcome → Type 0
TypedOut m (Going state) = Typed m state
TypedOut m (Ended output) = Unit {0}
TypedOut m (Strayed place) = Unit {0}
TypedOut m Stuck = Unit {0}

abbrev To : (class pointee : ℕ) → Target
To class pointee = record { class = class; pointee = pointee }

-- ---- what ids stand for

module _ (m : Module) (kept : Kept m) (types : List ℕ) (ids : Ids) (hold : HoldTypes m types ids) where
  pub shaped_value : (id : ℕ) (go : Value → Outcome) → ((v : Value) → ((type : ℕ) → type_of (defined_as m id) ≡ Some type → is_shaped m type v ≡ true) → TypedOut m (go v)) → TypedOut m (on_whole (ids id) go)
  shaped_value id go fine = by_held (ids id) refl
    where
      by_held : (o : Option Held) → ids id ≡ o → TypedOut m (on_whole o go)
      by_held None is = tt
      by_held (Some (Whole v)) is = fine v (λ type typed. of_value m kept types type v (hold.each id type (Whole v) is typed))
      by_held (Some (Points to)) is = tt

  pub typed_value : (id type : ℕ) (go : Value → Outcome) → type_of (defined_as m id) ≡ Some type → ((v : Value) → is_shaped m type v ≡ true → TypedOut m (go v)) → TypedOut m (on_whole (ids id) go)
  typed_value id type go typed fine = shaped_value id go (λ v shaped. fine v (shaped type typed))

  pub typed_pointer : (id type : ℕ) (t : Target) (go : Pointer → Outcome) → type_of (defined_as m id) ≡ Some type → target_of (defined_as m type) ≡ Some t → ((to : Pointer) → PointsTo m types t to → TypedOut m (go to))
      → TypedOut m (on_pointer (ids id) go)
  typed_pointer id type t go typed target fine = by_held (ids id) refl
    where
      by_held : (o : Option Held) → ids id ≡ o → TypedOut m (on_pointer o go)
      by_held None is = tt
      by_held (Some (Whole v)) is = tt
      by_held (Some (Points to)) is = fine to (of_pointer m kept types type t to target (hold.each id type (Points to) is typed))

  pub any_value : (id : ℕ) (go : Value → Outcome) → ((v : Value) → TypedOut m (go v)) → TypedOut m (on_whole (ids id) go)
  any_value id go fine = by_held (ids id)
    where
      by_held : (o : Option Held) → TypedOut m (on_whole o go)
      by_held None = tt
      by_held (Some (Whole v)) = fine v
      by_held (Some (Points to)) = tt

  -- an index: a constant of one word is that word
  pub index_value : (id : ℕ) (go : Value → Outcome) → ((v : Value) → ((k : ℕ) → value_of (defined_as m id) ≡ Some k → v ≡ Word k) → TypedOut m (go v)) → TypedOut m (on_whole (ids id) go)
  index_value id go fine = by_held (ids id) refl
    where
      is_constant : (o : Option (ℕ × Fixed)) (k : ℕ) → word_if o ≡ Some k → is_some o ≡ true
      is_constant None k is = absurd (cc)
      is_constant (Some c) k is = refl

      same_word : (v : Value) → ids id ≡ Some (Whole v) → (k : ℕ) → value_of (defined_as m id) ≡ Some k → v ≡ Word k
      same_word v is k constant_is_k =
          let held : Whole v ≡ Whole (constant m id) = hold.constants id (Whole v) is (is_constant (constant_is (defined_as m id)) k constant_is_k) in
          let same : v ≡ constant m id = cc in same ∙ constant_word m kept id k constant_is_k

      by_held : (o : Option Held) → ids id ≡ o → TypedOut m (on_whole o go)
      by_held None is = tt
      by_held (Some (Whole v)) is = fine v (same_word v is)
      by_held (Some (Points to)) is = tt

-- ---- chains

module _ (m : Module) (kept : Kept m) (input : Input) (place : ℕ) (state : State) (types : List ℕ) (have : HaveTypes m types state.variables) where
  named : (b : Bool) (t next : ℕ) → (if b then Some t else None) ≡ Some next → t ≡ next
  named true t next is = cc
  named false t next is = absurd (cc)

  -- the part of what stands in a block
  module _ (class next : ℕ) (go : Pointer → Outcome) (block : is_block_class class ≡ true) (fine : (to : Pointer) → PointsTo m types (To class next) to → TypedOut m (go to)) (indexed : Bool) (value : Option ℕ) (index : ℕ)
      (agree : (k : ℕ) → value ≡ Some k → index ≡ k) (variable offset : ℕ) where
    part_in_block : (pointee : ℕ) (s : Shape) → part_by indexed value s ≡ Some next → TypedOut m (on (part_as m variable offset pointee index s) go)
    part_in_block pointee (OfVector component count) is = fine (InBlock variable (offset + 4 * index) component) (block, named indexed component next is)
    part_in_block pointee (OfArray element size) is = by_stride (number_on m decoration.ARRAY_STRIDE pointee)
      where
        by_stride : (o : Option ℕ) → TypedOut m (on (at_stride variable offset o index element) go)
        by_stride None = tt
        by_stride (Some stride) = fine (InBlock variable (offset + stride * index) element) (block, named indexed element next is)
    part_in_block pointee (OfRuntimeArray element) is = by_stride (number_on m decoration.ARRAY_STRIDE pointee)
      where
        by_stride : (o : Option ℕ) → TypedOut m (on (at_stride variable offset o index element) go)
        by_stride None = tt
        by_stride (Some stride) = fine (InBlock variable (offset + stride * index) element) (block, named indexed element next is)
    part_in_block pointee (OfStruct id members) is = by_member value refl is
      where
        by_offset : (o : Option ℕ) → slice_index members index ≡ next → TypedOut m (on (at_offset variable offset o (slice_index members index)) go)
        by_offset None same = tt
        by_offset (Some more) same = fine (InBlock variable (offset + more) (slice_index members index)) (block, same)

        by_member : (o : Option ℕ) → value ≡ o → member_at members o ≡ Some next → TypedOut m (on (at_offset variable offset (number_on_member m decoration.OFFSET pointee index) (slice_index members index)) go)
        by_member None e is = absurd (cc)
        by_member (Some k) e is = by_offset (number_on_member m decoration.OFFSET pointee index) (ap (slice_index members) (agree k e) ∙ named (nat_lt k (length members)) (slice_index members k) next is)
    part_in_block pointee _ is = absurd (cc)

    into_one_block : (pointee : ℕ) (bytes : List ℕ) → part_by indexed value (shape_of (defined_as m pointee)) ≡ Some next → TypedOut m (into_block m input place variable offset pointee index go bytes)
    into_one_block pointee bytes is = by_test (nat_lt index (parts_as m (length bytes) offset pointee (shape_of (defined_as m pointee))))
      where
        by_test : (b : Bool) → TypedOut m (if b then on (part_as m variable offset pointee index (shape_of (defined_as m pointee))) go else Strayed place)
        by_test true = part_in_block pointee (shape_of (defined_as m pointee)) is
        by_test false = tt

  typed_into : (class pointee next : ℕ) (from : Pointer) (go : Pointer → Outcome) (indexed : Bool) (value : Option ℕ) (index : ℕ) → ((k : ℕ) → value ≡ Some k → index ≡ k) → part_by indexed value (shape_of (defined_as m pointee)) ≡ Some next
      → PointsTo m types (To class pointee) from → ((to : Pointer) → PointsTo m types (To class next) to → TypedOut m (go to)) → TypedOut m (into m input place state from index go)
  typed_into class pointee next (InBlock variable offset other) go indexed value index agree is points fine = by_bytes (bytes_of m input state variable)
    where
      by_bytes : (o : Option (List ℕ)) → TypedOut m (on o (into_block m input place variable offset other index go))
      by_bytes None = tt
      by_bytes (Some bytes) = into_one_block class next go points.0 fine indexed value index agree variable offset other bytes (ap (λ n. part_by indexed value (shape_of (defined_as m n))) points.1 ∙ is)
  typed_into class pointee next (InVariable number path) go indexed value index agree is points fine =
      let lead : LeadsTo m types number path pointee = points.1 in
      let at = typed_at m types state.variables number lead.type have lead.is in
      subst (λ o. TypedOut m (on o (into_variable m input place number path index go))) (sym at.is)
      (by_test at.v (nat_lt index (length (parts_in (value_at at.v path)))) refl lead (within_shaped m kept lead.type path pointee at.v at.v lead.leads at.shaped).0)
    where
      by_test : (v : Value) (b : Bool) → nat_lt index (length (parts_in (value_at v path))) ≡ b → LeadsTo m types number path pointee → is_shaped m pointee (value_at v path) ≡ true
          → TypedOut m (if b then go (InVariable number (path ++ index ∷ [])) else Strayed place)
      by_test v true below lead shaped = fine (InVariable number (path ++ index ∷ [])) (
        points.0,
        record {
          type = lead.type;
          is = lead.is;
          leads = type_on m path lead.type pointee index lead.leads ∙ part_named m kept pointee index next indexed value (value_at v path) is agree shaped below;
        },
      )
      by_test v false below lead shaped = tt

  pub typed_along : (hold : HoldTypes m types state.ids) (class pointee next : ℕ) (from : Pointer) (indexes : List ℕ) (go : Pointer → Outcome) → PointsTo m types (To class pointee) from → part_at m (Some pointee) indexes ≡ Some next
      → ((to : Pointer) → PointsTo m types (To class next) to → TypedOut m (go to)) → TypedOut m (along m input place state from indexes go)
  typed_along hold class pointee next from [] go points is fine = let same : pointee ≡ next = cc in fine from (subst (λ n. PointsTo m types (To class n) from) same points)
  typed_along hold class pointee next from (index ∷ indexes) go points is fine =
      index_value m kept types state.ids hold index (λ v. into m input place state from (word_in v) (λ to. along m input place state to indexes go))
      (λ v agree. by_part v agree (part_of m pointee index) refl (λ part to points is. typed_along hold class part next to indexes go points is fine) is)
    where
      no_part : (indexes : List ℕ) → part_at m None indexes ≡ Some next → ⊥
      no_part [] is = cc
      no_part (i ∷ indexes) is = cc

      by_part : (v : Value) → ((k : ℕ) → value_of (defined_as m index) ≡ Some k → v ≡ Word k) → (o : Option ℕ) → part_of m pointee index ≡ o
          → ((part : ℕ) (to : Pointer) → PointsTo m types (To class part) to → part_at m (Some part) indexes ≡ Some next → TypedOut m (along m input place state to indexes go))
          → part_at m o indexes ≡ Some next → TypedOut m (into m input place state from (word_in v) (λ to. along m input place state to indexes go))
      by_part v agree None e later is = absurd (no_part indexes is)
      by_part v agree (Some part) e later is =
          typed_into class pointee part from (λ to. along m input place state to indexes go) (is_int_value m index) (value_of (defined_as m index)) (word_in v) (λ k is. ap word_in (agree k is) ∙ ap word_layer (outs-Word k)) e points (λ to points. later part to points is)

  -- ---- loads

  pub typed_loading : (t : Target) (from : Pointer) (go : Value → Outcome) → PointsTo m types t from → (is_block_class t.class ≡ true → HasLanes m t.pointee) → ((v : Value) → is_shaped m t.pointee v ≡ true → TypedOut m (go v))
      → TypedOut m (loading m input state from go)
  typed_loading t (InBlock variable offset pointee) go points lanes fine = by_bytes (bytes_of m input state variable)
    where
      by_bytes : (o : Option (List ℕ)) → TypedOut m (on o (λ bytes. go (of_components (words_at m offset pointee bytes))))
      by_bytes None = tt
      by_bytes (Some bytes) =
          fine (of_components (words_at m offset pointee bytes)) (subst (λ n. is_shaped m n (of_components (words_at m offset pointee bytes)) ≡ true) points.1 (read_shaped m kept pointee offset bytes (subst (HasLanes m) (sym points.1) (lanes points.0))))
  typed_loading t (InVariable number path) go points lanes fine =
      let lead = points.1 in
      let at = typed_at m types state.variables number lead.type have lead.is in
      subst (λ o. TypedOut m (on o (λ v. go (value_at v path)))) (sym at.is) (fine (value_at at.v path) (within_shaped m kept lead.type path t.pointee at.v at.v lead.leads at.shaped).0)

-- ---- stores

-- a state with other buffers
pub other_buffers : (m : Module) (state : State) (variable : ℕ) (bytes : List ℕ) → Typed m state → Typed m (with_block m state variable bytes)
other_buffers m state variable bytes typed = record { variables = typed.variables; frame = typed.frame; waiting = typed.waiting }

pub typed_storing : (m : Module) (kept : Kept m) (input : Input) (state : State) (t : Target) (to : Pointer) (new : Value) → Typed m state → PointsTo m (types_in m state) t to → is_shaped m t.pointee new ≡ true → TypedOut m (storing m input state to new Going)
typed_storing m kept input state t (InBlock variable offset pointee) new typed points shaped = by_bytes (bytes_of m input state variable)
  where
    by_bytes : (o : Option (List ℕ)) → TypedOut m (on o (λ bytes. Going (with_block m state variable (put_words offset (components_in new) bytes))))
    by_bytes None = tt
    by_bytes (Some bytes) = other_buffers m state variable (put_words offset (components_in new) bytes) typed
typed_storing m kept input state t (InVariable number path) new typed points shaped =
    let lead = points.1 in
    let types = types_in m state in
    let at = typed_at m types state.variables number lead.type typed.variables lead.is in
    subst (λ o. TypedOut m (on o (λ old. Going (with_variable state number (with_value_at old path new))))) (sym at.is)
    (record {
      variables = set_typed m types state.variables number lead.type (with_value_at at.v path new) typed.variables lead.is ((within_shaped m kept lead.type path t.pointee at.v new lead.leads at.shaped).1 shaped);
      frame = typed.frame;
      waiting = typed.waiting;
    })
