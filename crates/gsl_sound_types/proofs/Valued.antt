-- Instructions that give values: what they give is of their type.
use Rattle.std.proofs.Common.{◌≡◌, refl, sym, ap, ◌∙◌, subst, ℕ, Bool, true, false, ◌&&◌, ◌||◌, is_some, if◌then◌else◌, List, [], ◌∷◌, length, slice_get, Option, Some, None}
use Rattle.std.specs.Prelude.{◌==◌, find}
use Rattle.std.proofs.lemmas.Bool.{and_parts, eq-eqb, eqb-true, false≢true, true≢false}
use Rattle.gsl_instr.specs.declared.instruction.Instruction.{Instruction}
use Rattle.gsl_instr.specs.declared.instruction.Instruction.TheVariants as instruction
use Rattle.gsl_instr.specs.Instructions as table
use Rattle.gsl_words.specs.declared.module.Module.{Module}
use Rattle.gsl_values.specs.declared.value.Value.{Value}
use Rattle.gsl_tree.specs.Operations.{value_at, with_value_at}
use Rattle.gsl_tree.specs.Values.{parts_in, word_in}
use Rattle.gsl_valid.specs.ExtendedRules.{Extended, extended_of, first_type, fit_with, fits_row, rows}
use Rattle.gsl_valid.specs.Ids.{result}
use Rattle.gsl_valid.specs.Instruction.{passes_if, read}
use Rattle.gsl_valid.specs.Kinds.{Shape, OfBool, OfInt, OfVector, Gives, constant_in, constant_is, kind, kind_of, shape_of, type_in, type_of}
use Rattle.gsl_valid.specs.LocalityRules.{gives_value, of_block}
use Rattle.gsl_valid.specs.OperandRules.{are_compared, are_shuffled, component_in, is_ints_sized, is_part, is_picked, is_picked_of, is_shuffled, is_shuffled_as, is_signed, is_truth, is_truth_sized, is_type_of, is_unary, is_vector, operands_typed, part_within, sign_of, size_in}
use Rattle.gsl_valid.specs.Placed.{Code, Placed}
use Rattle.gsl_valid.specs.TypeRules.{is_component, is_made}
use Rattle.gsl_valid.specs.Types.{Lanes, Scalar, defined_as, has_lanes, has_type, is_bool_shape, is_int_shape, is_int_value, is_ints, is_truths, is_type, is_words, lanes_in, lanes_of, lanes_with, same_size, scalar_in}
use Rattle.gsl_machine.specs.Operations.{arithmetic, binary, comparison, constructed, extend, extracted, inserted, logical, select, shift, shuffled, unary, Operator}
use Rattle.gsl_machine.specs.State.{Held, Outcome, State, Whole, give, giving, giving_value, on_whole}
use Rattle.gsl_machine.specs.Steps.{drawing, on_all, on_two, picking}
use Rattle.gsl_sound_code.specs.Rules.{Keeps}
use Rattle.gsl_sound_code.proofs.Looks.{Kept, made_at}
use Rattle.gsl_sound_ids.proofs.Plain.{has_type_is}
use Rattle.gsl_sound_values.specs.Shaped.{HaveShapes, is_shaped}
use Rattle.gsl_sound_values.proofs.Composed.{constructed_shaped}
use Rattle.gsl_sound_values.proofs.Counted.{HasLanes, Size}
use Rattle.gsl_sound_values.proofs.Operated.{binary_shaped, extend_shaped, extracted_shaped, inserted_shaped, select_shaped, shuffled_shaped, unary_shaped}
use Rattle.gsl_sound_values.proofs.Parts.{component_shaped, within_shaped}
use Rattle.gsl_sound_types.specs.Typed.{IsOfType, Typed, types_in}
use Rattle.gsl_sound_types.proofs.Holding.{hold_give, value_of_type}
use Rattle.gsl_sound_types.proofs.Moving.{TypedOut, any_value, shaped_value, typed_value}

-- ---- sizes

pub same_itself : (test : Scalar → Bool) (o : Option Lanes) → has_lanes test o ≡ true → same_size o o ≡ true
same_itself test None is = absurd (false≢true is)
same_itself test (Some lanes) is = eq-eqb lanes.size lanes.size refl

pub same_back : (a b : Option Lanes) → same_size a b ≡ true → same_size b a ≡ true
same_back None b is = absurd (false≢true is)
same_back (Some a) None is = absurd (false≢true is)
same_back (Some a) (Some b) is = eq-eqb b.size a.size (sym (eqb-true a.size b.size is))

pub same_second : (a b : Option Lanes) → same_size a b ≡ true → same_size b b ≡ true
same_second None b is = absurd (false≢true is)
same_second (Some a) None is = absurd (false≢true is)
same_second (Some a) (Some b) is = eq-eqb b.size b.size refl

pub part_is : (type : ℕ) (o : Option ℕ) → is_part type o ≡ true → o ≡ Some type
part_is type None is = absurd (false≢true is)
part_is type (Some part) is = ap Some (eqb-true part type is)

module _ (m : Module) (kept : Kept m) where
  -- a vector's type has its components
  vector_lanes : (component count : ℕ) → ((first : Bool) × (is_made m first (OfVector component count) ≡ true)) → (lanes : Lanes) × (lanes_in m (OfVector component count) ≡ Some lanes) × (lanes.size ≡ count)
  vector_lanes component count made = by_shape (shape_of (defined_as m component)) (and_parts (is_component m component) _ (and_parts (is_component m component && _) _ (and_parts (is_component m component && _ && _) made.0 made.1).0).0).0
    where
      by_shape : (s : Shape) → (is_int_shape s || is_bool_shape s) ≡ true → (lanes : Lanes) × (lanes_with count (scalar_in s) ≡ Some lanes) × (lanes.size ≡ count)
      by_shape OfBool is = (_, refl, refl)
      by_shape (OfInt signedness) is = (_, refl, refl)
      by_shape _ is = absurd (false≢true is)

  -- a vector that is shuffled has as many components as are named
  pub shuffled_sized : (places : List ℕ) (type first : ℕ) → is_shuffled_as m places (shape_of (defined_as m type)) (shape_of (defined_as m first)) ≡ true → HasLanes m type × (length places ≡ Size m type)
  shuffled_sized places type first is = by_shape (shape_of (defined_as m type)) (made_at m kept type) is
    where
      by_other : (component count : ℕ) (other : Shape) → are_shuffled places component count other ≡ true → length places ≡ count
      by_other component count (OfVector c n) is = eqb-true (length places) count (and_parts (c == component) _ (and_parts (c == component && length places == count) _ is).0).1
      by_other component count _ is = absurd (false≢true is)

      by_shape : (s : Shape) → ((first : Bool) × (is_made m first s ≡ true)) → is_shuffled_as m places s (shape_of (defined_as m first)) ≡ true → ((lanes : Lanes) × (lanes_in m s ≡ Some lanes)) × (length places ≡ size_in (lanes_in m s))
      by_shape (OfVector component count) made is =
          let l = vector_lanes component count made in
          ((l.0, l.1), by_other component count (shape_of (defined_as m first)) is ∙ sym l.2 ∙ sym (ap size_in l.1))
      by_shape _ made is = absurd (false≢true is)

-- ---- an id more

module _ (m : Module) (kept : Kept m) (before : Code) (p : Placed) (code : Code) (keeps : Keeps m before p.instr code) (state : State) (typed : Typed m state) where
  abbrev Types : List ℕ
  Types = types_in m state

  -- an instruction gives an id of its block what is of its type
  pub gives_held : (d : Instruction) → read p.instr ≡ Some d → (id type : ℕ) (held : Held) → kind_of d ≡ Gives type → table.result_of d ≡ Some id → IsOfType m Types type held → TypedOut m (giving state id held)
  gives_held d reads id type held gives result_is of = record {
    variables = typed.variables;
    frame = record {
      held = hold_give m kept Types state.ids id held typed.frame.held (λ other known. let both : Some type ≡ Some other = sym type_is ∙ known in let same : type ≡ other = cc in subst (λ t. IsOfType m Types t held) same of) no_constant;
      lasting = typed.frame.lasting;
      lasts = record { arguments = typed.frame.lasts.arguments; own_is = typed.frame.lasts.own_is; same = λ other lasting. by_same other (other == id) refl lasting };
    };
    waiting = typed.waiting;
  }
    where
      kind_is : kind (defined_as m id) ≡ Gives type
      kind_is = ap kind (keeps.own id (ap result reads ∙ result_is)) ∙ ap kind reads ∙ gives

      type_is : type_of (defined_as m id) ≡ Some type
      type_is = ap type_in kind_is

      no_constant : is_some (constant_is (defined_as m id)) ≡ false
      no_constant = ap (λ k. is_some (constant_in k)) kind_is

      by_same : (other : ℕ) (b : Bool) → (other == id) ≡ b → of_block (defined_as m other) ≡ false → (if b then Some held else state.ids other) ≡ state.own other
      by_same other true same lasting = absurd (true≢false (sym (ap gives_value kind_is) ∙ ap (λ n. of_block (defined_as m n)) (sym (eqb-true other id same)) ∙ lasting))
      by_same other false differ lasting = typed.frame.lasts.same other lasting

  pub gives_shaped : (d : Instruction) → read p.instr ≡ Some d → (id type : ℕ) (v : Value) → kind_of d ≡ Gives type → table.result_of d ≡ Some id → is_shaped m type v ≡ true → TypedOut m (giving_value state id v)
  gives_shaped d reads id type v gives result_is shaped = gives_held d reads id type (Whole v) gives result_is (value_of_type m kept Types type v shaped)

-- what is drawn changes nothing of this
pub drawn : (m : Module) (state : State) (choices : List ℕ) → Typed m state → Typed m (record state { choices = choices })
drawn m state choices typed = record { variables = typed.variables; frame = typed.frame; waiting = typed.waiting }

-- ---- instructions that give values

module _ (m : Module) (kept : Kept m) (before : Code) (p : Placed) (code : Code) (keeps : Keeps m before p.instr code) (state : State) (typed : Typed m state) where
  operands : (d : Instruction) → read p.instr ≡ Some d → operands_typed m d ≡ true
  operands d reads = ap (passes_if (operands_typed m)) (sym reads) ∙ keeps.operands

  -- goes on with the value of an id of a type
  pub with_type : (type id : ℕ) (go : Value → Outcome) → has_type m type id ≡ true → ((v : Value) → is_shaped m type v ≡ true → TypedOut m (go v)) → TypedOut m (on_whole (state.ids id) go)
  with_type type id go is fine = typed_value m kept (types_in m state) state.ids typed.frame.held id type go (has_type_is m type id is) fine

  with_any : (id : ℕ) (go : Value → Outcome) → ((v : Value) → TypedOut m (go v)) → TypedOut m (on_whole (state.ids id) go)
  with_any id go fine = any_value m kept (types_in m state) state.ids typed.frame.held id go fine

  -- with the value of an id whose type passes a test
  with_tested : (test : Option ℕ → Bool) (id : ℕ) (go : Value → Outcome) → test None ≡ false → test (type_of (defined_as m id)) ≡ true
      → ((type : ℕ) (v : Value) → test (Some type) ≡ true → is_shaped m type v ≡ true → TypedOut m (go v)) → TypedOut m (on_whole (state.ids id) go)
  with_tested test id go none is fine = by_type (type_of (defined_as m id)) refl is
    where
      by_type : (o : Option ℕ) → type_of (defined_as m id) ≡ o → test o ≡ true → TypedOut m (on_whole (state.ids id) go)
      by_type None e is = absurd (false≢true (sym none ∙ is))
      by_type (Some type) e is = typed_value m kept (types_in m state) state.ids typed.frame.held id type go e (λ v shaped. fine type v is shaped)

  typed_all : (ids : List ℕ) (go : List Value → Outcome) → ((vs : List Value) → HaveShapes m ids vs → TypedOut m (go vs)) → TypedOut m (on_all state ids go)
  typed_all [] go fine = fine [] tt
  typed_all (id ∷ ids) go fine =
      shaped_value m kept (types_in m state) state.ids typed.frame.held id (λ v. on_all state ids (λ vs. go (v ∷ vs)))
      (λ v shaped. typed_all ids (λ vs. go (v ∷ vs)) (λ vs have. fine (v ∷ vs) (shaped, have)))

  give_value : (d : Instruction) → read p.instr ≡ Some d → (id type : ℕ) (v : Value) → kind_of d ≡ Gives type → table.result_of d ≡ Some id → is_shaped m type v ≡ true → TypedOut m (giving_value state id v)
  give_value d reads id type v gives result_is shaped = gives_shaped m kept before p code keeps state typed d reads id type v gives result_is shaped

  typed_drawing : (d : Instruction) → read p.instr ≡ Some d → (id type : ℕ) (draw : List ℕ → Value × List ℕ) → kind_of d ≡ Gives type → table.result_of d ≡ Some id → is_shaped m type (draw state.choices).0 ≡ true → TypedOut m (drawing state id draw)
  typed_drawing d reads id type draw gives result_is shaped =
      gives_shaped m kept before p code keeps (record state { choices = (draw state.choices).1 }) (drawn m state (draw state.choices).1 typed) d reads id type (draw state.choices).0 gives result_is shaped

  -- an operator on two values of types that have one size
  typed_two : (d : Instruction) → read p.instr ≡ Some d → (id type a b first second : ℕ) (operator : Operator) → kind_of d ≡ Gives type → table.result_of d ≡ Some id → has_type m first a ≡ true → type_of (defined_as m b) ≡ Some second
      → same_size (lanes_of m type) (lanes_of m first) ≡ true → same_size (lanes_of m first) (lanes_of m second) ≡ true → TypedOut m (on_two state id a b operator)
  typed_two d reads id type a b first second operator gives result_is typed_a typed_b same alike =
      with_type first a (λ x. on_whole (state.ids b) (λ y. drawing state id (binary operator x y))) typed_a
      (λ x left. typed_value m kept (types_in m state) state.ids typed.frame.held b second (λ y. drawing state id (binary operator x y)) typed_b
      (λ y right. typed_drawing d reads id type (binary operator x y) gives result_is
      (binary_shaped m kept type first second operator x y state.choices same alike (same_back (lanes_of m first) (lanes_of m second) alike) left right)))

  pub arithmetics : (op type id a b : ℕ) → read p.instr ≡ Some (instruction.Arithmetic op type id a b) → TypedOut m (on_two state id a b (arithmetic op))
  arithmetics op type id a b reads =
      let d = instruction.Arithmetic op type id a b in
      let last = and_parts (is_ints m type && is_signed m (sign_of op) type && has_type m type a) (has_type m type b) (operands d reads) in
      let middle = and_parts (is_ints m type && is_signed m (sign_of op) type) (has_type m type a) last.0 in
      let same = same_itself is_words (lanes_of m type) (and_parts (is_ints m type) _ middle.0).0 in
      typed_two d reads id type a b type type (arithmetic op) refl refl middle.1 (has_type_is m type b last.1) same same

  pub shifts : (op type id a b : ℕ) → read p.instr ≡ Some (instruction.Shift op type id a b) → TypedOut m (on_two state id a b (shift op))
  shifts op type id a b reads =
      let d = instruction.Shift op type id a b in
      let last = and_parts (is_ints m type && has_type m type a) (is_ints_sized m type (type_of (defined_as m b))) (operands d reads) in
      let first = and_parts (is_ints m type) (has_type m type a) last.0 in
      by_type (type_of (defined_as m b)) refl first.1 (same_itself is_words (lanes_of m type) first.0) last.1
    where
      by_type : (o : Option ℕ) → type_of (defined_as m b) ≡ o → has_type m type a ≡ true → same_size (lanes_of m type) (lanes_of m type) ≡ true → is_ints_sized m type o ≡ true → TypedOut m (on_two state id a b (shift op))
      by_type None e typed_a same is = absurd (false≢true is)
      by_type (Some other) e typed_a same is =
          typed_two (instruction.Shift op type id a b) reads id type a b type other (shift op) refl refl typed_a e same (and_parts (is_ints m other) (same_size (lanes_of m type) (lanes_of m other)) is).1

  pub logicals : (op type id a b : ℕ) → read p.instr ≡ Some (instruction.Logical op type id a b) → TypedOut m (on_two state id a b (logical op))
  logicals op type id a b reads =
      let d = instruction.Logical op type id a b in
      let last = and_parts (is_truth m type && has_type m type a) (has_type m type b) (operands d reads) in
      let first = and_parts (is_truth m type) (has_type m type a) last.0 in
      let same = same_itself is_truths (lanes_of m type) first.0 in
      typed_two d reads id type a b type type (logical op) refl refl first.1 (has_type_is m type b last.1) same same

  pub comparisons : (op type id a b : ℕ) → read p.instr ≡ Some (instruction.Comparison op type id a b) → TypedOut m (on_two state id a b (comparison op))
  comparisons op type id a b reads =
      by_type (type_of (defined_as m a)) refl (and_parts (is_truth m type) (are_compared m (sign_of op) type b (type_of (defined_as m a))) (operands (instruction.Comparison op type id a b) reads)).1
    where
      by_type : (o : Option ℕ) → type_of (defined_as m a) ≡ o → are_compared m (sign_of op) type b o ≡ true → TypedOut m (on_two state id a b (comparison op))
      by_type None e is = absurd (false≢true is)
      by_type (Some other) e is =
          let last = and_parts (is_ints m other && is_signed m (sign_of op) other && has_type m other b) (same_size (lanes_of m type) (lanes_of m other)) is in
          let second = and_parts (is_ints m other && is_signed m (sign_of op) other) (has_type m other b) last.0 in
          typed_two (instruction.Comparison op type id a b) reads id type a b other other (comparison op) refl refl (ap (is_type other) e ∙ eq-eqb other other refl) (has_type_is m other b second.1) last.1 (same_second (lanes_of m type) (lanes_of m other) last.1)

  pub unaries : (op type id a : ℕ) → read p.instr ≡ Some (instruction.Unary op type id a) → TypedOut m (on_whole (state.ids a) (λ v. giving_value state id (unary op v)))
  unaries op type id a reads =
      let d = instruction.Unary op type id a in
      with_tested (is_unary m op type) a (λ v. giving_value state id (unary op v)) refl (operands d reads)
      (λ other v rule shaped. give_value d reads id type (unary op v) refl refl (unary_shaped m kept op type other v rule shaped))

  pub selects : (type id condition a b : ℕ) → read p.instr ≡ Some (instruction.Select type id condition a b) → TypedOut m (on_whole (state.ids condition) (λ c. on_whole (state.ids a) (λ x. on_whole (state.ids b) (λ y. giving_value state id (select c x y)))))
  selects type id condition a b reads =
      let d = instruction.Select type id condition a b in
      let last = and_parts (has_type m type a && has_type m type b) (is_truth_sized m type (type_of (defined_as m condition))) (operands d reads) in
      let first = and_parts (has_type m type a) (has_type m type b) last.0 in
      with_tested (is_truth_sized m type) condition (λ c. on_whole (state.ids a) (λ x. on_whole (state.ids b) (λ y. giving_value state id (select c x y)))) refl last.1
      (λ other c rule shaped. with_any a (λ x. on_whole (state.ids b) (λ y. giving_value state id (select c x y)))
      (λ x. with_type type b (λ y. giving_value state id (select c x y)) first.1
      (λ y right. give_value d reads id type (select c x y) refl refl (select_shaped m kept type other c x y (and_parts (is_truth m other) (same_size (lanes_of m type) (lanes_of m other)) rule).1 right))))

  pub inserts : (type id base insert offset count : ℕ) → read p.instr ≡ Some (instruction.BitFieldInsert type id base insert offset count)
      → TypedOut m (on_whole (state.ids base) (λ x. on_whole (state.ids insert) (λ y. on_whole (state.ids offset) (λ at. on_whole (state.ids count) (λ n. drawing state id (inserted x y at n))))))
  inserts type id base insert offset count reads =
      let d = instruction.BitFieldInsert type id base insert offset count in
      let fifth = and_parts (is_ints m type && has_type m type base && has_type m type insert && is_int_value m offset) (is_int_value m count) (operands d reads) in
      let fourth = and_parts (is_ints m type && has_type m type base && has_type m type insert) (is_int_value m offset) fifth.0 in
      let third = and_parts (is_ints m type && has_type m type base) (has_type m type insert) fourth.0 in
      let second = and_parts (is_ints m type) (has_type m type base) third.0 in
      with_type type base (λ x. on_whole (state.ids insert) (λ y. on_whole (state.ids offset) (λ at. on_whole (state.ids count) (λ n. drawing state id (inserted x y at n))))) second.1
      (λ x shaped. with_any insert (λ y. on_whole (state.ids offset) (λ at. on_whole (state.ids count) (λ n. drawing state id (inserted x y at n))))
      (λ y. with_any offset (λ at. on_whole (state.ids count) (λ n. drawing state id (inserted x y at n)))
      (λ at. with_any count (λ n. drawing state id (inserted x y at n)) (λ n. typed_drawing d reads id type (inserted x y at n) refl refl (inserted_shaped m kept type x y at n state.choices second.0 shaped)))))

  pub extracts : (op type id base offset count : ℕ) → read p.instr ≡ Some (instruction.BitFieldExtract op type id base offset count)
      → TypedOut m (on_whole (state.ids base) (λ x. on_whole (state.ids offset) (λ at. on_whole (state.ids count) (λ n. drawing state id (extracted op x at n)))))
  extracts op type id base offset count reads =
      let d = instruction.BitFieldExtract op type id base offset count in
      let fifth = and_parts (is_ints m type && is_signed m (sign_of op) type && has_type m type base && is_int_value m offset) (is_int_value m count) (operands d reads) in
      let fourth = and_parts (is_ints m type && is_signed m (sign_of op) type && has_type m type base) (is_int_value m offset) fifth.0 in
      let third = and_parts (is_ints m type && is_signed m (sign_of op) type) (has_type m type base) fourth.0 in
      with_type type base (λ x. on_whole (state.ids offset) (λ at. on_whole (state.ids count) (λ n. drawing state id (extracted op x at n)))) third.1
      (λ x shaped. with_any offset (λ at. on_whole (state.ids count) (λ n. drawing state id (extracted op x at n)))
      (λ at. with_any count (λ n. drawing state id (extracted op x at n))
      (λ n. typed_drawing d reads id type (extracted op x at n) refl refl (extracted_shaped m kept type op x at n state.choices (and_parts (is_ints m type) _ third.0).0 shaped))))

  pub extends : (type id set number : ℕ) (values : List ℕ) → read p.instr ≡ Some (instruction.ExtInst type id set number values) → TypedOut m (on_all state values (λ vs. giving_value state id (extend number vs)))
  extends type id set number values reads =
      let d = instruction.ExtInst type id set number values in
      typed_all values (λ vs. giving_value state id (extend number vs)) (λ vs have. give_value d reads id type (extend number vs) refl refl
      (by_row (find (λ e. e.number == number) rows) values vs have (and_parts _ (fits_row m type values (find (λ e. e.number == number) rows)) (ap (passes_if (extended_of m)) (sym reads) ∙ keeps.extension)).1))
    where
      by_first : (e : Extended) (first : ℕ) (more : List ℕ) (v : Value) (vs : List Value) (o : Option ℕ) → type_of (defined_as m first) ≡ o → ((t : ℕ) → type_of (defined_as m first) ≡ Some t → is_shaped m t v ≡ true) → fit_with m e type (first ∷ more) o ≡ true
          → is_shaped m type (extend number (v ∷ vs)) ≡ true
      by_first e first more v vs None typed_first shaped is = absurd (false≢true is)
      by_first e first more v vs (Some other) typed_first shaped is = extend_shaped m kept e type other number (first ∷ more) v vs is (shaped other typed_first)

      by_row : (o : Option Extended) (ids : List ℕ) (vs : List Value) → HaveShapes m ids vs → fits_row m type ids o ≡ true → is_shaped m type (extend number vs) ≡ true
      by_row None ids vs have is = absurd (false≢true is)
      by_row (Some e) [] vs have is = absurd (false≢true (and_parts (length {A = ℕ} [] == e.count) false is).1)
      by_row (Some e) (first ∷ more) [] have is = absurd have
      by_row (Some e) (first ∷ more) (v ∷ vs) have is =
          by_first e first more v vs (type_of (defined_as m first)) refl have.0 (and_parts (length (first ∷ more) == e.count) (fit_with m e type (first ∷ more) (first_type m (first ∷ more))) is).1

  pub constructs : (type id : ℕ) (parts : List ℕ) → read p.instr ≡ Some (instruction.CompositeConstruct type id parts) → TypedOut m (on_all state parts (λ vs. giving_value state id (constructed (is_vector (shape_of (defined_as m type))) vs)))
  constructs type id parts reads =
      let d = instruction.CompositeConstruct type id parts in
      typed_all parts (λ vs. giving_value state id (constructed (is_vector (shape_of (defined_as m type))) vs))
      (λ vs have. give_value d reads id type (constructed (is_vector (shape_of (defined_as m type))) vs) refl refl (constructed_shaped m kept type parts vs have (operands d reads)))

  pub picks : (type id vector index : ℕ) → read p.instr ≡ Some (instruction.VectorExtractDynamic type id vector index)
      → TypedOut m (on_whole (state.ids vector) (λ v. on_whole (state.ids index) (λ i. picking p.at state id v (slice_get (parts_in v) (word_in i)))))
  picks type id vector index reads =
      let d = instruction.VectorExtractDynamic type id vector index in
      with_tested (is_picked_of m type) vector (λ v. on_whole (state.ids index) (λ i. picking p.at state id v (slice_get (parts_in v) (word_in i)))) refl (and_parts (is_picked m type vector) (is_int_value m index) (operands d reads)).0
      (λ other v rule shaped. with_any index (λ i. picking p.at state id v (slice_get (parts_in v) (word_in i))) (λ i. by_component v other (word_in i) rule shaped (slice_get (parts_in v) (word_in i)) refl))
    where
      by_component : (v : Value) (other k : ℕ) → is_type type (component_in (shape_of (defined_as m other))) ≡ true → is_shaped m other v ≡ true → (o : Option Value) → slice_get (parts_in v) k ≡ o → TypedOut m (picking p.at state id v o)
      by_component v other k rule shaped None here = tt
      by_component v other k rule shaped (Some c) here = give_value (instruction.VectorExtractDynamic type id vector index) reads id type c refl refl (component_shaped m kept type other k v c rule shaped here)

  pub shuffles : (type id a b : ℕ) (places : List ℕ) → read p.instr ≡ Some (instruction.VectorShuffle type id a b places) → TypedOut m (on_whole (state.ids a) (λ x. on_whole (state.ids b) (λ y. giving_value state id (shuffled x y places))))
  shuffles type id a b places reads =
      let d = instruction.VectorShuffle type id a b places in
      with_tested (λ o. is_shuffled m type places o (type_of (defined_as m b))) a (λ x. on_whole (state.ids b) (λ y. giving_value state id (shuffled x y places))) refl (operands d reads)
      (λ first x rule shaped. with_any b (λ y. giving_value state id (shuffled x y places)) (λ y.
      let s = shuffled_sized m kept places type first (and_parts (is_type first (type_of (defined_as m b))) _ rule).1 in
      give_value d reads id type (shuffled x y places) refl refl (shuffled_shaped m kept type x y places s.0 s.1)))

  pub takes_part : (type id composite : ℕ) (indexes : List ℕ) → read p.instr ≡ Some (instruction.CompositeExtract type id composite indexes) → TypedOut m (on_whole (state.ids composite) (λ v. giving_value state id (value_at v indexes)))
  takes_part type id composite indexes reads =
      let d = instruction.CompositeExtract type id composite indexes in
      with_tested (λ o. is_part type (part_within m o indexes)) composite (λ v. giving_value state id (value_at v indexes)) (none indexes) (operands d reads)
      (λ whole v rule shaped. give_value d reads id type (value_at v indexes) refl refl (within_shaped m kept whole indexes type v v (part_is type (part_within m (Some whole) indexes) rule) shaped).0)
    where
      none : (indexes : List ℕ) → is_part type (part_within m None indexes) ≡ false
      none indexes = refl

  pub puts_part : (type id part composite : ℕ) (indexes : List ℕ) → read p.instr ≡ Some (instruction.CompositeInsert type id part composite indexes)
      → TypedOut m (on_whole (state.ids part) (λ x. on_whole (state.ids composite) (λ v. giving_value state id (with_value_at v indexes x))))
  puts_part type id part composite indexes reads =
      let both = and_parts (has_type m type composite) (is_type_of m part (part_within m (Some type) indexes)) (operands (instruction.CompositeInsert type id part composite indexes) reads) in
      by_part (part_within m (Some type) indexes) refl both.0 both.1
    where
      by_part : (o : Option ℕ) → part_within m (Some type) indexes ≡ o → has_type m type composite ≡ true → is_type_of m part o ≡ true
          → TypedOut m (on_whole (state.ids part) (λ x. on_whole (state.ids composite) (λ v. giving_value state id (with_value_at v indexes x))))
      by_part None e whole is = absurd (false≢true is)
      by_part (Some other) e whole is =
          with_type other part (λ x. on_whole (state.ids composite) (λ v. giving_value state id (with_value_at v indexes x))) is
          (λ x new. with_type type composite (λ v. giving_value state id (with_value_at v indexes x)) whole
          (λ v old. give_value (instruction.CompositeInsert type id part composite indexes) reads id type (with_value_at v indexes x) refl refl ((within_shaped m kept type indexes other v x e old).1 new)))
