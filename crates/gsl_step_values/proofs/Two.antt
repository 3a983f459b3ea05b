-- What an operator on two values gives, in words.
use Rattle.std.proofs.Common.{◌≡◌, refl, sym, ap, ◌∙◌, subst, ℕ, ◌≤◌, true, ◌&&◌, List, [], ◌∷◌, length, take, drop, Option, Some, None, arith}
use Rattle.std.proofs.lemmas.Bool.{and_parts, eq-eqb, false≢true}
use Rattle.gsl_base.specs.declared.input.Input.{Input}
use Rattle.gsl_instr.specs.declared.instruction.Instruction.{Instruction}
use Rattle.gsl_instr.specs.declared.instruction.Instruction.TheVariants as instruction
use Rattle.gsl_instr.specs.Instructions as table
use Rattle.gsl_words.specs.declared.module.Module.{Module}
use Rattle.gsl_values.specs.Vectors.{binary_each}
use Rattle.gsl_values.specs.declared.value.Value.{Value}
use Rattle.gsl_tree.specs.Operations.{binary_words}
use Rattle.gsl_valid.specs.Instruction.{passes_if, read}
use Rattle.gsl_valid.specs.Kinds.{Gives, kind, kind_of, type_of}
use Rattle.gsl_valid.specs.OperandRules.{are_compared, is_ints_sized, is_signed, is_truth, operands_typed, sign_of}
use Rattle.gsl_valid.specs.Placed.{Placed}
use Rattle.gsl_valid.specs.Search.{whole}
use Rattle.gsl_valid.specs.Types.{defined_as, has_type, is_ints, is_truths, is_type, is_words, lanes_of, same_size}
use Rattle.gsl_machine.specs.Operations.{Operator, arithmetic, binary, comparison, logical, shift}
use Rattle.gsl_machine.specs.State.{State, on_whole}
use Rattle.gsl_machine.specs.Steps.{drawing, on_two}
use Rattle.gsl_region.specs.Flat.{flat}
use Rattle.gsl_lanes.proofs.Each.{one_size}
use Rattle.gsl_leaves.specs.Leaves.{leaves}
use Rattle.gsl_leaves.specs.Table.{most, told}
use Rattle.gsl_leaves_law.proofs.Counted.{counted_in}
use Rattle.gsl_operations_law.specs.Lanes.{is_lanes}
use Rattle.gsl_operations_law.proofs.Lanes.{binary_drawn, binary_flat, components_are, type_lanes}
use Rattle.gsl_sound.specs.Sound.{Good}
use Rattle.gsl_sound_code.proofs.Looks.{Kept}
use Rattle.gsl_sound_ids.proofs.Plain.{has_type_is}
use Rattle.gsl_sound_types.specs.Typed.{Typed}
use Rattle.gsl_sound_types.proofs.Valued.{same_back, same_itself, same_second}
use Rattle.gsl_sound_values.specs.Shaped.{is_shaped}
use Rattle.gsl_sound_values.proofs.Counted.{HasLanes, Size, counted, lanes_first, sizes_same}
use Rattle.gsl_sound_values.proofs.Operated.{binary_shaped}
use Rattle.gsl_slots.specs.Holding.{IsHeld}
use Rattle.gsl_step.specs.Machine.{IsShown, Leads, Puts}
use Rattle.gsl_step.specs.declared.machine.Machine.{Machine}
use Rattle.gsl_step.proofs.Giving.{at_top, gives_words, room_there, rules_kept}
use Rattle.gsl_step.proofs.Operands.{Top, below_bound, with_operand}
use Rattle.gsl_step.proofs.Passing.{number_fits}
use Rattle.gsl_step_values.specs.Values.{HasRoom, PutsTwo, from, to, words}

-- a count that is told
pub told_low : (n : ℕ) → n ≤ most → told n ≡ n
unfolding told
told_low n low = omega (arith, low)

-- values of scalars and vectors have a word a component
module _ (m : Module) (kept : Kept m) (type : ℕ) (has : HasLanes m type) (v : Value) (shaped : is_shaped m type v ≡ true) where
  pub lanes_are : is_lanes v ≡ true
  lanes_are = type_lanes m kept type has.0 v has.1 shaped

  pub words_sized : length (flat v) ≡ Size m type
  words_sized = ap length (sym (components_are v lanes_are)) ∙ counted m kept type v has shaped

  pub leaves_sized : leaves m type ≡ Size m type
  leaves_sized = sym (counted_in m (whole m) type v shaped) ∙ words_sized

module _ (m : Module) (kept : Kept m) (input : Input) (machine next : Machine) (state : State) (good : Good m input state) (typed : Typed m state) (shown : IsShown m machine state) (p : Placed) (more : List Placed) (comes : state.rest ≡ p ∷ more) where
  abbrev Now : State
  Now = record state { rest = more }

  pub operands : (d : Instruction) → read p.instr ≡ Some d → operands_typed m d ≡ true
  operands d reads = ap (passes_if (operands_typed m)) (sym reads) ∙ (rules_kept m kept input state good p more comes).1.operands

  two : (d : Instruction) → read p.instr ≡ Some d → (id type a b first second : ℕ) (operator : Operator) → kind_of d ≡ Gives type → table.result_of d ≡ Some id → has_type m first a ≡ true → type_of (defined_as m b) ≡ Some second
      → same_size (lanes_of m type) (lanes_of m first) ≡ true → same_size (lanes_of m first) (lanes_of m second) ≡ true → PutsTwo m operator type id a b machine next → Leads m next (on_two Now id a b operator)
  two d reads id type a b first second operator gives result_is typed_a typed_b same alike puts =
      with_operand m kept input machine state typed shown next a first (λ x. on_whole (state.ids b) (λ y. drawing Now id (binary operator x y))) known_a
      (λ x left held_a. with_operand m kept input machine state typed shown next b second (λ y. drawing Now id (binary operator x y)) typed_b (λ y right held_b. given x y left right held_a held_b))
    where
      known_a : type_of (defined_as m a) ≡ Some first
      known_a = has_type_is m first a typed_a

      has : HasLanes m type
      has = lanes_first m type (lanes_of m first) same

      had_a : HasLanes m first
      had_a = lanes_first m first (lanes_of m second) alike

      had_b : HasLanes m second
      had_b = lanes_first m second (lanes_of m first) (same_back (lanes_of m first) (lanes_of m second) alike)

      given : (x y : Value) → is_shaped m first x ≡ true → is_shaped m second y ≡ true → IsHeld machine.slots (Top m kept input machine state typed shown) (from m machine a) (flat x)
          → IsHeld machine.slots (Top m kept input machine state typed shown) (from m machine b) (flat y) → Leads m next (drawing Now id (binary operator x y))
      given x y left right held_a held_b =
          let op = operator.0 in
          let signed = operator.1 in
          let v = (binary operator x y state.choices).0 in
          let later = (binary operator x y state.choices).1 in
          let shaped = binary_shaped m kept type first second operator x y state.choices same alike (same_back (lanes_of m first) (lanes_of m second) alike) left right in
          let sized = leaves_sized m kept type has (binary operator x y state.choices).0 shaped in
          let size_x : length (flat x) ≡ leaves m type = words_sized m kept first had_a x left ∙ sym (sizes_same (lanes_of m type) (lanes_of m first) same) ∙ sym sized in
          let size_y : length (flat y) ≡ leaves m type =
          words_sized m kept second had_b y right ∙ sym (sizes_same (lanes_of m first) (lanes_of m second) alike) ∙ sym (sizes_same (lanes_of m type) (lanes_of m first) same) ∙ sym sized in
          let words_x : words m machine a (leaves m type) ≡ flat x = ap (λ n. take n (drop (from m machine a) machine.slots)) (sym size_x) ∙ held_a.is in
          let words_y : words m machine b (leaves m type) ≡ flat y = ap (λ n. take n (drop (from m machine b) machine.slots)) (sym size_y) ∙ held_b.is in
          let each : binary_words op signed (flat x) (flat y) state.choices ≡ binary_each op signed (words m machine a (leaves m type)) (words m machine b (leaves m type)) machine.choices =
          one_size op signed (flat x) (flat y) state.choices (size_x ∙ sym size_y) ∙ ap (λ l. binary_each op signed l (flat y) state.choices) (sym words_x)
          ∙ ap (λ l. binary_each op signed (words m machine a (leaves m type)) l state.choices) (sym words_y)
          ∙ ap (λ l. binary_each op signed (words m machine a (leaves m type)) (words m machine b (leaves m type)) l) (sym shown.shows.choices_are) in
          let lanes_x = lanes_are m kept first had_a x left in
          let lanes_y = lanes_are m kept second had_b y right in
          let written = binary_flat operator x y state.choices lanes_x lanes_y ∙ ap (λ (g : List ℕ × List ℕ). g.0) each in
          let drawn = binary_drawn operator x y state.choices lanes_x lanes_y ∙ ap (λ (g : List ℕ × List ℕ). g.1) each in
          let there = room_there m kept input machine state good typed shown p more comes d reads id type gives result_is v later shaped in
          let top = at_top m kept input machine state good typed shown p more comes d reads id type gives result_is v later shaped in
          let size = counted_in m (whole m) type (binary operator x y state.choices).0 shaped in
          let below_a = held_a.below in
          let below_b = held_b.below in
          let room : HasRoom m machine id (leaves m type) (a ∷ b ∷ []) = record {
            room = omega (arith, there, size);
            behind = ((below_bound m kept a first known_a, omega (arith, below_a, size_x, top)), ((below_bound m kept b second typed_b, omega (arith, below_b, size_y, top)), tt));
            places = shown.places;
            number = number_fits m machine state shown p more comes (Gives type) (ap kind reads ∙ gives) refl;
          } in
          gives_words m kept input machine state good typed shown p more comes d reads id type gives result_is v later shaped
          (binary_each op signed (words m machine a (leaves m type)) (words m machine b (leaves m type)) machine.choices).0 written next
          (subst (λ l. Puts machine (to m machine id) (binary_each op signed (words m machine a (leaves m type)) (words m machine b (leaves m type)) machine.choices).0 l next) (sym drawn) (puts room))

  pub arithmetics : (op type id a b : ℕ) → read p.instr ≡ Some (instruction.Arithmetic op type id a b) → PutsTwo m (arithmetic op) type id a b machine next → Leads m next (on_two Now id a b (arithmetic op))
  arithmetics op type id a b reads =
      let d = instruction.Arithmetic op type id a b in
      let last = and_parts (is_ints m type && is_signed m (sign_of op) type && has_type m type a) (has_type m type b) (operands d reads) in
      let middle = and_parts (is_ints m type && is_signed m (sign_of op) type) (has_type m type a) last.0 in
      let same = same_itself is_words (lanes_of m type) (and_parts (is_ints m type) _ middle.0).0 in
      two d reads id type a b type type (arithmetic op) refl refl middle.1 (has_type_is m type b last.1) same same

  pub shifts : (op type id a b : ℕ) → read p.instr ≡ Some (instruction.Shift op type id a b) → PutsTwo m (shift op) type id a b machine next → Leads m next (on_two Now id a b (shift op))
  shifts op type id a b reads =
      let d = instruction.Shift op type id a b in
      let last = and_parts (is_ints m type && has_type m type a) (is_ints_sized m type (type_of (defined_as m b))) (operands d reads) in
      let first = and_parts (is_ints m type) (has_type m type a) last.0 in
      by_type (type_of (defined_as m b)) refl first.1 (same_itself is_words (lanes_of m type) first.0) last.1
    where
      by_type : (o : Option ℕ) → type_of (defined_as m b) ≡ o → has_type m type a ≡ true → same_size (lanes_of m type) (lanes_of m type) ≡ true → is_ints_sized m type o ≡ true
          → PutsTwo m (shift op) type id a b machine next → Leads m next (on_two Now id a b (shift op))
      by_type None e typed_a same is = absurd (false≢true is)
      by_type (Some other) e typed_a same is =
          two (instruction.Shift op type id a b) reads id type a b type other (shift op) refl refl typed_a e same (and_parts (is_ints m other) (same_size (lanes_of m type) (lanes_of m other)) is).1

  pub logicals : (op type id a b : ℕ) → read p.instr ≡ Some (instruction.Logical op type id a b) → PutsTwo m (logical op) type id a b machine next → Leads m next (on_two Now id a b (logical op))
  logicals op type id a b reads =
      let d = instruction.Logical op type id a b in
      let last = and_parts (is_truth m type && has_type m type a) (has_type m type b) (operands d reads) in
      let first = and_parts (is_truth m type) (has_type m type a) last.0 in
      let same = same_itself is_truths (lanes_of m type) first.0 in
      two d reads id type a b type type (logical op) refl refl first.1 (has_type_is m type b last.1) same same

  pub comparisons : (op type id a b : ℕ) → read p.instr ≡ Some (instruction.Comparison op type id a b) → PutsTwo m (comparison op) type id a b machine next → Leads m next (on_two Now id a b (comparison op))
  comparisons op type id a b reads =
      by_type (type_of (defined_as m a)) refl (and_parts (is_truth m type) (are_compared m (sign_of op) type b (type_of (defined_as m a))) (operands (instruction.Comparison op type id a b) reads)).1
    where
      by_type : (o : Option ℕ) → type_of (defined_as m a) ≡ o → are_compared m (sign_of op) type b o ≡ true → PutsTwo m (comparison op) type id a b machine next → Leads m next (on_two Now id a b (comparison op))
      by_type None e is = absurd (false≢true is)
      by_type (Some other) e is =
          let last = and_parts (is_ints m other && is_signed m (sign_of op) other && has_type m other b) (same_size (lanes_of m type) (lanes_of m other)) is in
          let second = and_parts (is_ints m other && is_signed m (sign_of op) other) (has_type m other b) last.0 in
          two (instruction.Comparison op type id a b) reads id type a b other other (comparison op) refl refl (ap (is_type other) e ∙ eq-eqb other other refl) (has_type_is m other b second.1) last.1
          (same_second (lanes_of m type) (lanes_of m other) last.1)
