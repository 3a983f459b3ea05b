-- What built-in functions give on operands, in words.
use Rattle.std.proofs.Common.{◌≡◌, refl, sym, ap, ◌∙◌, subst, ℕ, ◌<◌, ◌≤◌, Bool, true, false, ◌&&◌, if◌then◌else◌, ◌⊎◌, List, [], ◌∷◌, length, map, take, drop, Option, Some, None, inl, inr, arith}
use Rattle.std.specs.List.{AllByRecursion, list_all}
use Rattle.std.specs.Prelude.{◌==◌, find, nat_le}
use Rattle.std.proofs.lemmas.Bool.{and_from, and_parts, eqb-true, false≢true, leb-true}
use Rattle.gsl_base.specs.declared.input.Input.{Input}
use Rattle.gsl_instr.specs.declared.instruction.Instruction.{Instruction}
use Rattle.gsl_instr.specs.declared.instruction.Instruction.TheVariants as instruction
use Rattle.gsl_instr.specs.declared.op.TheConstants as op_code
use Rattle.gsl_instr.specs.Instructions as table
use Rattle.gsl_words.specs.declared.module.Module.{Module}
use Rattle.gsl_values.specs.declared.function.Builtin.{Builtin}
use Rattle.gsl_values.specs.declared.function.Builtin.TheVariants as f
use Rattle.gsl_values.specs.declared.value.Value.{Value}
use Rattle.gsl_tree.specs.Operations.{builtin_each, builtin_value, first_count}
use Rattle.gsl_valid.specs.ExtendedRules.{Extended, extended_of, first_type, fit_as, fit_with, fits_row, imports, is_result, rows}
use Rattle.gsl_valid.specs.Instruction.{passes_if, read}
use Rattle.gsl_valid.specs.Kinds.{Shape, OfInt, Gives, kind, kind_of, shape_of, type_of}
use Rattle.gsl_valid.specs.OperandRules.{Only, is_signed, is_truth, is_truth_sized, sign_of, size_in}
use Rattle.gsl_valid.specs.Placed.{Placed}
use Rattle.gsl_valid.specs.Search.{whole}
use Rattle.gsl_valid.specs.Types.{Lanes, defined_as, has_type, is_int_shape, is_int_type, is_int_value, is_ints, is_words, lanes_in, lanes_of, same_size}
use Rattle.gsl_machine.specs.Operations.{extend, extracted, function_of, inserted, select}
use Rattle.gsl_machine.specs.State.{Outcome, State, on_whole, giving_value}
use Rattle.gsl_machine.specs.Steps.{drawing, on_all}
use Rattle.gsl_region.specs.Flat.{flat}
use Rattle.gsl_leaves.specs.Leaves.{leaves}
use Rattle.gsl_leaves_law.proofs.Counted.{counted_in}
use Rattle.gsl_operations_law.specs.Lanes.{is_lanes}
use Rattle.gsl_operations_law.proofs.Lanes.{builtin_flat, made_flat}
use Rattle.gsl_sound.specs.Sound.{Good}
use Rattle.gsl_sound_code.proofs.Looks.{Kept}
use Rattle.gsl_sound_ids.proofs.Plain.{has_type_is}
use Rattle.gsl_sound_types.specs.Typed.{Typed}
use Rattle.gsl_sound_values.specs.Shaped.{is_shaped}
use Rattle.gsl_sound_values.proofs.Counted.{HasLanes, Size, lanes_first, lanes_there, sizes_same}
use Rattle.gsl_sound_values.proofs.Operated.{each_words, extend_shaped, extended_each, extracted_shaped, inserted_shaped, joins, select_shaped}
use Rattle.gsl_slots.specs.Holding.{IsHeld}
use Rattle.gsl_step.specs.Machine.{IsShown, Leads, Puts}
use Rattle.gsl_step.specs.declared.machine.Machine.{Machine}
use Rattle.gsl_step.proofs.Giving.{at_top, gives_words, room_there, rules_kept}
use Rattle.gsl_step.proofs.Operands.{Top, below_bound, with_operand}
use Rattle.gsl_step.proofs.Passing.{number_fits}
use Rattle.gsl_step_values.specs.Values.{HasRoomFor, Part, PutsGiven, PutsPlain, Serves, all_words, from, to}
use Rattle.gsl_step_values.proofs.Two.{lanes_are, leaves_sized, operands, words_sized}

-- the words of what a function gives that goes component by component
pub given_words : (which : Builtin) (signed : Bool) (vs : List Value) (choices : List ℕ) → joins which ≡ false → list_all is_lanes vs ≡ true
    → (flat (builtin_value which signed vs choices).0 ≡ (builtin_each which signed (map flat vs) (first_count (map flat vs)) 0 choices).0) × ((builtin_value which signed vs choices).1 ≡ (builtin_each which signed (map flat vs) (first_count (map flat vs)) 0 choices).1)
given_words which signed vs choices each all =
    let is = builtin_flat which signed vs choices all ∙ each_words which signed (map flat vs) choices each in
    (ap (λ (g : Value × List ℕ). flat g.0) is ∙ made_flat (builtin_each which signed (map flat vs) (first_count (map flat vs)) 0 choices).0, ap (λ (g : Value × List ℕ). g.1) is)

module _ (m : Module) (kept : Kept m) (input : Input) (machine next : Machine) (state : State) (good : Good m input state) (typed : Typed m state) (shown : IsShown m machine state) (p : Placed) (more : List Placed) (comes : state.rest ≡ p ∷ more) where
  abbrev Now : State
  Now = record state { rest = more }

  abbrev End : ℕ
  End = Top m kept input machine state typed shown

  -- A value is that of an operand, of as many components as one of a type has, or of one.
  record IsPart (type : ℕ) (part : Part) (v : Value) : Type 0 where
    low : part.0 < m.bound
    held : IsHeld machine.slots End (from m machine part.0) (flat v)
    size : length (flat v) ≡ part.1
    lanes : is_lanes v ≡ true
    serves : (part.1 ≡ 1) ⊎ (part.1 ≡ leaves m type)

  abbrev AreParts : ℕ → List Part → List Value → Type 0
  AreParts type [] [] = Unit {0}
  AreParts type [] (v ∷ vs) = ⊥
  AreParts type (part ∷ parts) [] = ⊥
  AreParts type (part ∷ parts) (v ∷ vs) = IsPart type part v × AreParts type parts vs

  words_same : (type : ℕ) (parts : List Part) (vs : List Value) → AreParts type parts vs → map flat vs ≡ all_words m machine parts
  words_same type [] [] are = refl
  words_same type [] (v ∷ vs) are = absurd are
  words_same type (part ∷ parts) [] are = absurd are
  words_same type (part ∷ parts) (v ∷ vs) are =
      ap (λ l. flat v ∷ l) (words_same type parts vs are.1) ∙ ap (λ l. l ∷ all_words m machine parts) (sym (ap (λ n. take n (drop (from m machine part.0) machine.slots)) (sym are.0.size) ∙ are.0.held.is))

  all_lanes : (type : ℕ) (parts : List Part) (vs : List Value) → AreParts type parts vs → list_all is_lanes vs ≡ true
  all_lanes type [] [] are = refl
  all_lanes type [] (v ∷ vs) are = absurd are
  all_lanes type (part ∷ parts) [] are = absurd are
  all_lanes type (part ∷ parts) (v ∷ vs) are = and_from (is_lanes v) (list_all is_lanes vs) are.0.lanes (all_lanes type parts vs are.1)

  serve_all : (id type : ℕ) (parts : List Part) (vs : List Value) → to m machine id ≡ End → AreParts type parts vs → AllByRecursion (Serves m machine id (leaves m type)) parts
  serve_all id type [] [] top are = tt
  serve_all id type [] (v ∷ vs) top are = absurd are
  serve_all id type (part ∷ parts) [] top are = absurd are
  serve_all id type (part ∷ parts) (v ∷ vs) top are =
      let below = are.0.held.below in
      let size = are.0.size in
      ((are.0.low, (omega (arith, below, size, top), are.0.serves)), serve_all id type parts vs top are.1)

  -- an operand of the type's size, and a scalar
  whole_part : (type id other : ℕ) (v : Value) → type_of (defined_as m id) ≡ Some other → HasLanes m other → Size m other ≡ leaves m type → is_shaped m other v ≡ true → IsHeld machine.slots End (from m machine id) (flat v) → IsPart type (id, leaves m type) v
  whole_part type id other v known has size shaped held = record { low = below_bound m kept id other known; held = held; size = words_sized m kept other has v shaped ∙ size; lanes = lanes_are m kept other has v shaped; serves = inr refl }

  scalar_part : (type id other : ℕ) (v : Value) → type_of (defined_as m id) ≡ Some other → HasLanes m other → Size m other ≡ 1 → is_shaped m other v ≡ true → IsHeld machine.slots End (from m machine id) (flat v) → IsPart type (id, 1) v
  scalar_part type id other v known has size shaped held = record { low = below_bound m kept id other known; held = held; size = words_sized m kept other has v shaped ∙ size; lanes = lanes_are m kept other has v shaped; serves = inl refl }

  module _ (d : Instruction) (reads : read p.instr ≡ Some d) (id type : ℕ) (gives : kind_of d ≡ Gives type) (result_is : table.result_of d ≡ Some id) (which : Builtin) (signed : Bool) (each : joins which ≡ false) (parts : List Part) (vs : List Value) (are : AreParts type parts vs)
      (first : first_count (map flat vs) ≡ leaves m type) where
    room_for : (v : Value) (later : List ℕ) → is_shaped m type v ≡ true → HasRoomFor m machine id (leaves m type) parts
    room_for v later shaped =
        let there = room_there m kept input machine state good typed shown p more comes d reads id type gives result_is v later shaped in
        let size = counted_in m (whole m) type v shaped in
        record {
          room = omega (arith, there, size);
          serve = serve_all id type parts vs (at_top m kept input machine state good typed shown p more comes d reads id type gives result_is v later shaped) are;
          places = shown.places;
          number = number_fits m machine state shown p more comes (Gives type) (ap kind reads ∙ gives) refl;
        }

    same : (choices : List ℕ) → builtin_each which signed (map flat vs) (first_count (map flat vs)) 0 choices ≡ builtin_each which signed (all_words m machine parts) (leaves m type) 0 choices
    same choices = ap (λ n. builtin_each which signed (map flat vs) n 0 choices) first ∙ ap (λ l. builtin_each which signed l (leaves m type) 0 choices) (words_same type parts vs are)

    plain : is_shaped m type (builtin_value which signed vs []).0 ≡ true → PutsPlain m which signed type id parts machine next → Leads m next (giving_value Now id (builtin_value which signed vs []).0)
    plain shaped puts =
        let v = (builtin_value which signed vs []).0 in
        gives_words m kept input machine state good typed shown p more comes d reads id type gives result_is v state.choices shaped (builtin_each which signed (all_words m machine parts) (leaves m type) 0 []).0
        ((given_words which signed vs [] each (all_lanes type parts vs are)).0 ∙ ap (λ (g : List ℕ × List ℕ). g.0) (same [])) next
        (subst (λ l. Puts machine (to m machine id) (builtin_each which signed (all_words m machine parts) (leaves m type) 0 []).0 l next) shown.shows.choices_are (puts (room_for v state.choices shaped)))

    draws : is_shaped m type (builtin_value which signed vs state.choices).0 ≡ true → PutsGiven m which signed type id parts machine next → Leads m next (drawing Now id (builtin_value which signed vs))
    draws shaped puts =
        let v = (builtin_value which signed vs state.choices).0 in
        let later = (builtin_value which signed vs state.choices).1 in
        let words_are = given_words which signed vs state.choices each (all_lanes type parts vs are) in
        let all = same state.choices ∙ ap (λ l. builtin_each which signed (all_words m machine parts) (leaves m type) 0 l) (sym shown.shows.choices_are) in
        gives_words m kept input machine state good typed shown p more comes d reads id type gives result_is v later shaped (builtin_each which signed (all_words m machine parts) (leaves m type) 0 machine.choices).0
        (words_are.0 ∙ ap (λ (g : List ℕ × List ℕ). g.0) all) next
        (subst (λ l. Puts machine (to m machine id) (builtin_each which signed (all_words m machine parts) (leaves m type) 0 machine.choices).0 l next) (sym (words_are.1 ∙ ap (λ (g : List ℕ × List ℕ). g.1) all)) (puts (room_for v later shaped)))

  -- ---- instructions

  pub selects : (type id condition a b : ℕ) → read p.instr ≡ Some (instruction.Select type id condition a b) → PutsPlain m f.Mix false type id ((b, leaves m type) ∷ (a, leaves m type) ∷ (condition, leaves m type) ∷ []) machine next
      → Leads m next (on_whole (state.ids condition) (λ c. on_whole (state.ids a) (λ x. on_whole (state.ids b) (λ y. giving_value Now id (select c x y)))))
  selects type id condition a b reads puts = by_type (type_of (defined_as m condition)) refl last.1
    where
      d : Instruction
      d = instruction.Select type id condition a b

      last : ((has_type m type a && has_type m type b) ≡ true) × (is_truth_sized m type (type_of (defined_as m condition)) ≡ true)
      last = and_parts (has_type m type a && has_type m type b) (is_truth_sized m type (type_of (defined_as m condition))) (operands m kept input machine next state good typed shown p more comes (instruction.Select type id condition a b) reads)

      known : (type_of (defined_as m a) ≡ Some type) × (type_of (defined_as m b) ≡ Some type)
      known = let both = and_parts (has_type m type a) (has_type m type b) last.0 in (has_type_is m type a both.0, has_type_is m type b both.1)

      by_type : (o : Option ℕ) → type_of (defined_as m condition) ≡ o → is_truth_sized m type o ≡ true → Leads m next (on_whole (state.ids condition) (λ c. on_whole (state.ids a) (λ x. on_whole (state.ids b) (λ y. giving_value Now id (select c x y)))))
      by_type None e is = absurd (false≢true is)
      by_type (Some other) e is =
          let alike = (and_parts (is_truth m other) (same_size (lanes_of m type) (lanes_of m other)) is).1 in
          let has = lanes_first m type (lanes_of m other) alike in
          let had = lanes_there m _ other (and_parts (is_truth m other) (same_size (lanes_of m type) (lanes_of m other)) is).0 in
          with_operand m kept input machine state typed shown next condition other (λ c. on_whole (state.ids a) (λ x. on_whole (state.ids b) (λ y. giving_value Now id (select c x y)))) e
          (λ c shaped_c held_c. with_operand m kept input machine state typed shown next a type (λ x. on_whole (state.ids b) (λ y. giving_value Now id (select c x y))) known.0
          (λ x shaped_x held_x. with_operand m kept input machine state typed shown next b type (λ y. giving_value Now id (select c x y)) known.1
          (λ y shaped_y held_y.
          let sized : Size m type ≡ leaves m type = sym (leaves_sized m kept type has y shaped_y) in
          plain (instruction.Select type id condition a b) reads id type refl refl f.Mix false refl ((b, leaves m type) ∷ (a, leaves m type) ∷ (condition, leaves m type) ∷ []) (y ∷ x ∷ c ∷ []) (
            whole_part type b type y known.1 has sized shaped_y held_y,
            (whole_part type a type x known.0 has sized shaped_x held_x, (whole_part type condition other c e had (sym (sizes_same (lanes_of m type) (lanes_of m other) alike) ∙ sized) shaped_c held_c, tt)),
          )
          (words_sized m kept type has y shaped_y ∙ sized) (select_shaped m kept type other c x y alike shaped_y) puts)))

  int_lanes : (other : ℕ) → is_int_type m (Some other) ≡ true → HasLanes m other × (Size m other ≡ 1)
  int_lanes other is = by_shape (shape_of (defined_as m other)) is
    where
      by_shape : (s : Shape) → is_int_shape s ≡ true → ((lanes : Lanes) × (lanes_in m s ≡ Some lanes)) × (size_in (lanes_in m s) ≡ 1)
      by_shape (OfInt signedness) is = ((_, refl), refl)
      by_shape _ is = absurd (false≢true is)

  -- goes on with the word of an operand that is a scalar
  with_scalar : (id : ℕ) (go : Value → Outcome) → is_int_value m id ≡ true → ((v : Value) → ((type : ℕ) → IsPart type (id, 1) v) → Leads m next (go v)) → Leads m next (on_whole (state.ids id) go)
  with_scalar id go is fine = by_type (type_of (defined_as m id)) refl is
    where
      by_type : (o : Option ℕ) → type_of (defined_as m id) ≡ o → is_int_type m o ≡ true → Leads m next (on_whole (state.ids id) go)
      by_type None e is = absurd (false≢true is)
      by_type (Some other) e is =
          let lanes = int_lanes other is in
          with_operand m kept input machine state typed shown next id other go e (λ v shaped held. fine v (λ type. scalar_part type id other v e lanes.0 lanes.1 shaped held))

  pub extracts : (op type id base offset count : ℕ) → read p.instr ≡ Some (instruction.BitFieldExtract op type id base offset count)
      → PutsGiven m f.BitfieldExtract (op == op_code.BIT_FIELD_S_EXTRACT) type id ((base, leaves m type) ∷ (offset, 1) ∷ (count, 1) ∷ []) machine next
      → Leads m next (on_whole (state.ids base) (λ x. on_whole (state.ids offset) (λ at. on_whole (state.ids count) (λ n. drawing Now id (extracted op x at n)))))
  extracts op type id base offset count reads puts =
      let d = instruction.BitFieldExtract op type id base offset count in
      let fifth = and_parts (is_ints m type && is_signed m (sign_of op) type && has_type m type base && is_int_value m offset) (is_int_value m count) (operands m kept input machine next state good typed shown p more comes d reads) in
      let fourth = and_parts (is_ints m type && is_signed m (sign_of op) type && has_type m type base) (is_int_value m offset) fifth.0 in
      let third = and_parts (is_ints m type && is_signed m (sign_of op) type) (has_type m type base) fourth.0 in
      let ints = (and_parts (is_ints m type) (is_signed m (sign_of op) type) third.0).0 in
      let has = lanes_there m is_words type ints in
      let known = has_type_is m type base third.1 in
      with_operand m kept input machine state typed shown next base type (λ x. on_whole (state.ids offset) (λ at. on_whole (state.ids count) (λ n. drawing Now id (extracted op x at n)))) known
      (λ x shaped held. with_scalar offset (λ at. on_whole (state.ids count) (λ n. drawing Now id (extracted op x at n))) fourth.1
      (λ at at_part. with_scalar count (λ n. drawing Now id (extracted op x at n)) fifth.1
      (λ n n_part.
      let sized : Size m type ≡ leaves m type = sym (leaves_sized m kept type has x shaped) in
      draws d reads id type refl refl f.BitfieldExtract (op == op_code.BIT_FIELD_S_EXTRACT) refl ((base, leaves m type) ∷ (offset, 1) ∷ (count, 1) ∷ []) (x ∷ at ∷ n ∷ [])
      (whole_part type base type x known has sized shaped held, (at_part type, (n_part type, tt))) (words_sized m kept type has x shaped ∙ sized) (extracted_shaped m kept type op x at n state.choices ints shaped) puts)))

  pub inserts : (type id base insert offset count : ℕ) → read p.instr ≡ Some (instruction.BitFieldInsert type id base insert offset count)
      → PutsGiven m f.BitfieldInsert false type id ((base, leaves m type) ∷ (insert, leaves m type) ∷ (offset, 1) ∷ (count, 1) ∷ []) machine next
      → Leads m next (on_whole (state.ids base) (λ x. on_whole (state.ids insert) (λ y. on_whole (state.ids offset) (λ at. on_whole (state.ids count) (λ n. drawing Now id (inserted x y at n))))))
  inserts type id base insert offset count reads puts =
      let d = instruction.BitFieldInsert type id base insert offset count in
      let fifth = and_parts (is_ints m type && has_type m type base && has_type m type insert && is_int_value m offset) (is_int_value m count) (operands m kept input machine next state good typed shown p more comes d reads) in
      let fourth = and_parts (is_ints m type && has_type m type base && has_type m type insert) (is_int_value m offset) fifth.0 in
      let third = and_parts (is_ints m type && has_type m type base) (has_type m type insert) fourth.0 in
      let second = and_parts (is_ints m type) (has_type m type base) third.0 in
      let has = lanes_there m is_words type second.0 in
      let known = has_type_is m type base second.1 in
      let put = has_type_is m type insert third.1 in
      with_operand m kept input machine state typed shown next base type (λ x. on_whole (state.ids insert) (λ y. on_whole (state.ids offset) (λ at. on_whole (state.ids count) (λ n. drawing Now id (inserted x y at n))))) known
      (λ x shaped held. with_operand m kept input machine state typed shown next insert type (λ y. on_whole (state.ids offset) (λ at. on_whole (state.ids count) (λ n. drawing Now id (inserted x y at n)))) put
      (λ y shaped_y held_y. with_scalar offset (λ at. on_whole (state.ids count) (λ n. drawing Now id (inserted x y at n))) fourth.1
      (λ at at_part. with_scalar count (λ n. drawing Now id (inserted x y at n)) fifth.1
      (λ n n_part.
      let sized : Size m type ≡ leaves m type = sym (leaves_sized m kept type has x shaped) in
      draws d reads id type refl refl f.BitfieldInsert false refl ((base, leaves m type) ∷ (insert, leaves m type) ∷ (offset, 1) ∷ (count, 1) ∷ []) (x ∷ y ∷ at ∷ n ∷ [])
      (whole_part type base type x known has sized shaped held, (whole_part type insert type y put has sized shaped_y held_y, (at_part type, (n_part type, tt)))) (words_sized m kept type has x shaped ∙ sized)
      (inserted_shaped m kept type x y at n state.choices second.0 shaped) puts))))

  -- ---- extended instructions

  -- Values of one type stand where the words of operands do.
  abbrev Hold : ℕ → List ℕ → List Value → Type 0
  Hold other [] [] = Unit {0}
  Hold other [] (v ∷ vs) = ⊥
  Hold other (id ∷ ids) [] = ⊥
  Hold other (id ∷ ids) (v ∷ vs) = (is_shaped m other v ≡ true) × IsHeld machine.slots End (from m machine id) (flat v) × (type_of (defined_as m id) ≡ Some other) × Hold other ids vs

  with_all : (other : ℕ) (ids : List ℕ) (go : List Value → Outcome) → list_all (has_type m other) ids ≡ true → ((vs : List Value) → Hold other ids vs → Leads m next (go vs)) → Leads m next (on_all Now ids go)
  with_all other [] go all fine = fine [] tt
  with_all other (id ∷ ids) go all fine =
      let both = and_parts (has_type m other id) (list_all (has_type m other) ids) all in
      let known = has_type_is m other id both.0 in
      with_operand m kept input machine state typed shown next id other (λ v. on_all Now ids (λ vs. go (v ∷ vs))) known
      (λ v shaped held. with_all other ids (λ vs. go (v ∷ vs)) both.1 (λ vs hold. fine (v ∷ vs) (shaped, held, known, hold)))

  abbrev Each : ℕ → List ℕ → List Part
  Each type ids = map (λ id. (id, leaves m type)) ids

  parts_of : (type other : ℕ) → HasLanes m other → Size m other ≡ leaves m type → (ids : List ℕ) (vs : List Value) → Hold other ids vs → AreParts type (Each type ids) vs
  parts_of type other has size [] [] hold = tt
  parts_of type other has size [] (v ∷ vs) hold = absurd hold
  parts_of type other has size (id ∷ ids) [] hold = absurd hold
  parts_of type other has size (id ∷ ids) (v ∷ vs) hold = (whole_part type id other v hold.2 has size hold.0 hold.1, parts_of type other has size ids vs hold.3)

  result_sized : (type other : ℕ) → HasLanes m other → (finds : Bool) → is_result m finds type other ≡ true → HasLanes m type × (Size m type ≡ Size m other)
  result_sized type other has true is = let alike = (and_parts (is_signed m (Only 1) type) (same_size (lanes_of m type) (lanes_of m other)) is).1 in (lanes_first m type (lanes_of m other) alike, sizes_same (lanes_of m type) (lanes_of m other) alike)
  result_sized type other has false is = let same = eqb-true type other is in (subst (HasLanes m) (sym same) has, ap (Size m) same)

  few_operands : (list : List Extended) (number : ℕ) (e : Extended) → list_all (λ (e : Extended). nat_le e.count 3) list ≡ true → find (λ (e : Extended). e.number == number) list ≡ Some e → e.count ≤ 3
  few_operands [] number e all is = absurd (cc)
  few_operands (r ∷ list) number e all is =
      by_test (r.number == number) (few_operands list number e (and_parts (nat_le r.count 3) (list_all (λ (e : Extended). nat_le e.count 3) list) all).1) is
    where
      by_test : (b : Bool) → (find (λ (e : Extended). e.number == number) list ≡ Some e → e.count ≤ 3) → (if b then Some r else find (λ (e : Extended). e.number == number) list) ≡ Some e → e.count ≤ 3
      by_test true later here = subst (λ (x : Extended). x.count ≤ 3) (let same : r ≡ e = cc in same) (leb-true r.count 3 (and_parts (nat_le r.count 3) (list_all (λ (e : Extended). nat_le e.count 3) list) all).0)
      by_test false later here = later here

  pub extends : (type id set number : ℕ) (values : List ℕ) → read p.instr ≡ Some (instruction.ExtInst type id set number values)
      → (length values ≤ 3 → PutsPlain m (function_of number).0 (function_of number).1 type id (Each type values) machine next) → Leads m next (on_all Now values (λ vs. giving_value Now id (extend number vs)))
  extends type id set number values reads puts =
      by_row (find (λ (e : Extended). e.number == number) rows) refl
      (and_parts (imports (kind (defined_as m set))) (fits_row m type values (find (λ (e : Extended). e.number == number) rows)) (ap (passes_if (extended_of m)) (sym reads) ∙ (rules_kept m kept input state good p more comes).1.extension)).1
    where
      given : (e : Extended) (other first : ℕ) (ids : List ℕ) → fit_as m e type (first ∷ ids) other ≡ true → (vs : List Value) → Hold other (first ∷ ids) vs → PutsPlain m (function_of number).0 (function_of number).1 type id (Each type (first ∷ ids)) machine next
          → Leads m next (giving_value Now id (extend number vs))
      given e other first ids fit [] hold now = absurd hold
      given e other first ids fit (v ∷ vs) hold now =
          let last = and_parts (is_ints m other && is_signed m e.sign other && list_all (has_type m other) (first ∷ ids)) (is_result m e.finds type other) fit in
          let middle = and_parts (is_ints m other && is_signed m e.sign other) (list_all (has_type m other) (first ∷ ids)) last.0 in
          let has = lanes_there m is_words other (and_parts (is_ints m other) (is_signed m e.sign other) middle.0).0 in
          let result = result_sized type other has e.finds last.1 in
          let shaped = extend_shaped m kept e type other number (first ∷ ids) v vs fit hold.0 in
          let sized : Size m other ≡ leaves m type = sym result.1 ∙ sym (leaves_sized m kept type result.0 (extend number (v ∷ vs)) shaped) in
          plain (instruction.ExtInst type id set number values) reads id type refl refl (function_of number).0 (function_of number).1 (extended_each number) (Each type (first ∷ ids)) (v ∷ vs) (parts_of type other has sized (first ∷ ids) (v ∷ vs) hold)
          (words_sized m kept other has v hold.0 ∙ sized) shaped now

      by_first : (e : Extended) (ids : List ℕ) (o : Option ℕ) → first_type m ids ≡ o → fit_with m e type ids o ≡ true → PutsPlain m (function_of number).0 (function_of number).1 type id (Each type ids) machine next
          → Leads m next (on_all Now ids (λ vs. giving_value Now id (extend number vs)))
      by_first e ids None first fit now = absurd (false≢true fit)
      by_first e [] (Some other) first fit now = absurd (cc)
      by_first e (id_of_first ∷ ids) (Some other) first fit now =
          let last = and_parts (is_ints m other && is_signed m e.sign other && list_all (has_type m other) (id_of_first ∷ ids)) (is_result m e.finds type other) fit in
          let middle = and_parts (is_ints m other && is_signed m e.sign other) (list_all (has_type m other) (id_of_first ∷ ids)) last.0 in
          with_all other (id_of_first ∷ ids) (λ vs. giving_value Now id (extend number vs)) middle.1 (λ vs hold. given e other id_of_first ids fit vs hold now)

      by_row : (o : Option Extended) → find (λ (e : Extended). e.number == number) rows ≡ o → fits_row m type values o ≡ true → Leads m next (on_all Now values (λ vs. giving_value Now id (extend number vs)))
      by_row None found is = absurd (false≢true is)
      by_row (Some e) found is =
          let parts = and_parts (length values == e.count) (fit_with m e type values (first_type m values)) is in
          let few = few_operands rows number e refl found in
          let long = eqb-true (length values) e.count parts.0 in
          by_first e values (first_type m values) refl parts.1 (puts (omega (arith, few, long)))
