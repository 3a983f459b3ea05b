-- Instructions that give values, on values of the types that they need.
use Rattle.std.proofs.Common.{◌≡◌, refl, sym, ap, ◌∙◌, subst, ℕ, Bool, true, false, ◌&&◌, ◌||◌, if◌then◌else◌, List, [], ◌∷◌, length, Option, Some, None}
use Rattle.std.specs.List.{AllByRecursion, list_all}
use Rattle.std.specs.Prelude.{◌==◌, find, slice_get}
use Rattle.std.proofs.lemmas.Bool.{and_parts, eq-eqb, eqb-true, false≢true}
use Rattle.gsl_base.specs.declared.input.Input.{Input}
use Rattle.gsl_instr.specs.declared.instruction.Instruction.{Instruction}
use Rattle.gsl_instr.specs.declared.instruction.Instruction.TheVariants as instruction
use Rattle.gsl_instr.specs.declared.op.TheConstants as op_code
use Rattle.gsl_instr.specs.Instructions as table
use Rattle.gsl_words.specs.declared.module.Module.{Module}
use Rattle.gsl_values.specs.declared.value.Value.{Value}
use Rattle.gsl_tree.specs.Operations.{value_at, with_value_at}
use Rattle.gsl_tree.specs.Values.{parts_in, word_in}
use Rattle.gsl_valid.specs.ExtendedRules.{Extended, extended_of, first_type, fit_with, fits_row, is_result, rows}
use Rattle.gsl_valid.specs.Instruction.{passes_if}
use Rattle.gsl_valid.specs.Kinds.{Shape, OfVoid, OfVector, OfPointer, Gives, kind_of, shape_of, type_of}
use Rattle.gsl_valid.specs.OperandRules.{Only, are_compared, component_in, is_built, is_ints_sized, is_part, is_picked, is_picked_of, is_shuffled, is_shuffled_as, is_signed, is_truth, is_truth_sized, is_type_of, is_unary, is_unary_of, is_vector, operands_typed, part_within, sign_of}
use Rattle.gsl_valid.specs.Placed.{Code, Placed}
use Rattle.gsl_valid.specs.TypeRules.{is_component, is_made}
use Rattle.gsl_valid.specs.Types.{Lanes, bool_type, defined_as, has_type, is_int_value, is_ints, is_truths, is_type, is_words, is_words_of, lanes_in, lanes_of, same_size}
use Rattle.gsl_valid.specs.Where.{where_at}
use Rattle.gsl_machine.specs.Operations.{arithmetic, binary, comparison, constructed, extend, extracted, inserted, logical, select, shift, shuffled, unary, Operator}
use Rattle.gsl_machine.specs.State.{Outcome, State, giving_value, on_whole}
use Rattle.gsl_machine.specs.Steps.{act, drawing, on_all, on_two, picking}
use Rattle.gsl_sound_ids.specs.Held.{usable_as}
use Rattle.gsl_sound.specs.Sound.{Fine}
use Rattle.gsl_sound_code.specs.Spots.{bare}
use Rattle.gsl_sound_code.proofs.Looks.{Kept, made_at}
use Rattle.gsl_sound_code.proofs.Opcodes.{names_parts}
use Rattle.gsl_sound_ids.proofs.Plain.{IsPlain, IsValue, bool_type_plain, built_values, component_plain, int_value, lanes_type_plain, plain_shape, same_values, taken_from, value_by, value_of_type}
use Rattle.gsl_sound.proofs.Ready.{Ready, drawn, give_value, usable}
use Rattle.gsl_sound.proofs.Moving.{fine_whole}

module _ (m : Module) where
  ints : (type : ℕ) → is_ints m type ≡ true → IsPlain m type
  ints type is = lanes_type_plain m is_words type is

  truths : (type : ℕ) → is_truth m type ≡ true → IsPlain m type
  truths type is = lanes_type_plain m is_truths type is

  ints_sized : (type id : ℕ) → is_ints_sized m type (type_of (defined_as m id)) ≡ true → IsValue m id
  ints_sized type id is = value_by m (is_ints_sized m type) id refl (λ other e. ints other (and_parts (is_ints m other) _ e).0) is

  -- two types are one
  same_plain : (type other : ℕ) → (type == other) ≡ true → IsPlain m other → IsPlain m type
  same_plain type other same plain = subst (IsPlain m) (sym (eqb-true type other same)) plain

  -- a type that has components
  sized_plain : (s : Shape) (other : Option Lanes) → same_size (lanes_in m s) other ≡ true → plain_shape s ≡ true
  sized_plain OfVoid other is = absurd (false≢true is)
  sized_plain (OfPointer class pointee) other is = absurd (false≢true is)
  sized_plain _ other is = refl

  -- what an operator of one operand gives, and takes
  unary_types : (op type other : ℕ) → is_unary_of m op type other ≡ true → IsPlain m type × IsPlain m other
  unary_types op type other is = by_cast (op == op_code.BITCAST || op == op_code.BIT_COUNT) is
    where
      same_types : (test : ℕ → Bool) → ((t : ℕ) → test t ≡ true → IsPlain m t) → (test type && type == other) ≡ true → IsPlain m type × IsPlain m other
      same_types test plain is = let parts = and_parts (test type) (type == other) is in let p = plain type parts.0 in (p, subst (IsPlain m) (eqb-true type other parts.1) p)

      by_not : (b : Bool) → (if b then is_truth m type && type == other else (is_ints m type && type == other)) ≡ true → IsPlain m type × IsPlain m other
      by_not true is = same_types (is_truth m) truths is
      by_not false is = same_types (is_ints m) ints is

      by_any : (b : Bool) → (if b then bool_type (defined_as m type) && is_truth m other && is_vector (shape_of (defined_as m other)) else if op == op_code.LOGICAL_NOT then is_truth m type && type == other else (is_ints m type && type == other)) ≡ true
          → IsPlain m type × IsPlain m other
      by_any true is =
          let parts = and_parts (bool_type (defined_as m type)) (is_truth m other) (and_parts (bool_type (defined_as m type) && is_truth m other) _ is).0 in (bool_type_plain m type parts.0, truths other parts.1)
      by_any false is = by_not (op == op_code.LOGICAL_NOT) is

      by_cast : (b : Bool)
          → (if b then is_ints m type && is_ints m other && same_size (lanes_of m type) (lanes_of m other) else if op == op_code.ANY || op == op_code.ALL then bool_type (defined_as m type) && is_truth m other && is_vector (shape_of (defined_as m other)) else if op == op_code.LOGICAL_NOT then is_truth m type && type == other else (is_ints m type && type == other)) ≡ true
          → IsPlain m type × IsPlain m other
      by_cast true is = let parts = and_parts (is_ints m type) (is_ints m other) (and_parts (is_ints m type && is_ints m other) _ is).0 in (ints type parts.0, ints other parts.1)
      by_cast false is = by_any (op == op_code.ANY || op == op_code.ALL) is

  unary_operand : (op type a : ℕ) → is_unary m op type (type_of (defined_as m a)) ≡ true → IsPlain m type × IsValue m a
  unary_operand op type a is = by_type (type_of (defined_as m a)) refl is
    where
      by_type : (o : Option ℕ) → type_of (defined_as m a) ≡ o → is_unary m op type o ≡ true → IsPlain m type × IsValue m a
      by_type None typed is = absurd (false≢true is)
      by_type (Some other) typed is = let t = unary_types op type other is in (t.0, record { type = other; typed = typed; plain = t.1 })

  -- what is compared
  compared : (op type a b : ℕ) → are_compared m (sign_of op) type b (type_of (defined_as m a)) ≡ true → IsValue m a × IsValue m b
  compared op type a b is = by_type (type_of (defined_as m a)) refl is
    where
      by_type : (o : Option ℕ) → type_of (defined_as m a) ≡ o → are_compared m (sign_of op) type b o ≡ true → IsValue m a × IsValue m b
      by_type None typed is = absurd (false≢true is)
      by_type (Some other) typed is =
          let first = and_parts (is_ints m other && is_signed m (sign_of op) other && has_type m other b) _ is in
          let second = and_parts (is_ints m other && is_signed m (sign_of op) other) (has_type m other b) first.0 in
          let plain = ints other (and_parts (is_ints m other) _ second.0).0 in
          (record { type = other; typed = typed; plain = plain }, value_of_type m other b second.1 plain)

  -- what is selected by
  selecting : (type condition : ℕ) → is_truth_sized m type (type_of (defined_as m condition)) ≡ true → IsPlain m type × IsValue m condition
  selecting type condition is = by_type (type_of (defined_as m condition)) refl is
    where
      by_type : (o : Option ℕ) → type_of (defined_as m condition) ≡ o → is_truth_sized m type o ≡ true → IsPlain m type × IsValue m condition
      by_type None typed is = absurd (false≢true is)
      by_type (Some other) typed is =
          let parts = and_parts (is_truth m other) (same_size (lanes_of m type) (lanes_of m other)) is in
          (sized_plain (shape_of (defined_as m type)) (lanes_of m other) parts.1, record { type = other; typed = typed; plain = truths other parts.0 })

  -- vectors that are shuffled
  shuffled_as : (places : List ℕ) (s other : Shape) → is_shuffled_as m places s other ≡ true → (plain_shape s ≡ true) × (plain_shape other ≡ true)
  shuffled_as places (OfVector component count) other is = (refl, by_other other is)
    where
      by_other : (o : Shape) → is_shuffled_as m places (OfVector component count) o ≡ true → plain_shape o ≡ true
      by_other OfVoid is = absurd (false≢true is)
      by_other (OfPointer class pointee) is = absurd (false≢true is)
      by_other _ is = refl
  shuffled_as places _ other is = absurd (false≢true is)

  shuffling : (type a b : ℕ) (places : List ℕ) → is_shuffled m type places (type_of (defined_as m a)) (type_of (defined_as m b)) ≡ true → IsPlain m type × IsValue m a × IsValue m b
  shuffling type a b places is = by_type (type_of (defined_as m a)) refl is
    where
      by_type : (o : Option ℕ) → type_of (defined_as m a) ≡ o → is_shuffled m type places o (type_of (defined_as m b)) ≡ true → IsPlain m type × IsValue m a × IsValue m b
      by_type None typed is = absurd (false≢true is)
      by_type (Some first) typed is =
          let parts = and_parts (is_type first (type_of (defined_as m b))) _ is in
          let shapes = shuffled_as places (shape_of (defined_as m type)) (shape_of (defined_as m first)) parts.1 in
          (shapes.0, record { type = first; typed = typed; plain = shapes.1 }, value_of_type m first b parts.0 shapes.1)

  built_plain : (parts : List ℕ) (s : Shape) → is_built m parts s ≡ true → plain_shape s ≡ true
  built_plain parts OfVoid is = absurd (false≢true is)
  built_plain parts (OfPointer class pointee) is = absurd (false≢true is)
  built_plain parts _ is = refl

module _ (m : Module) (kept : Kept m) where
  -- a component that is picked from a vector
  picking_from : (type vector : ℕ) → is_picked m type vector ≡ true → IsPlain m type × IsValue m vector
  picking_from type vector is = by_type (type_of (defined_as m vector)) refl is
    where
      by_shape : (s : Shape) → ((first : Bool) × (is_made m first s ≡ true)) → is_type type (component_in s) ≡ true → IsPlain m type × (plain_shape s ≡ true)
      by_shape (OfVector component count) made is =
          let parts = and_parts (is_component m component) _ (and_parts (is_component m component && _) _ (and_parts (is_component m component && _ && _) made.0 made.1).0).0 in
          (subst (IsPlain m) (eqb-true component type is) (component_plain m component parts.0), refl)
      by_shape _ made is = absurd (false≢true is)

      by_type : (o : Option ℕ) → type_of (defined_as m vector) ≡ o → is_picked_of m type o ≡ true → IsPlain m type × IsValue m vector
      by_type None typed is = absurd (false≢true is)
      by_type (Some other) typed is = let s = by_shape (shape_of (defined_as m other)) (made_at m kept other) is in (s.0, record { type = other; typed = typed; plain = s.1 })

  -- a part that is put into a composite
  put_into : (type k part : ℕ) (places : List ℕ) → is_type_of m part (part_within m (Some type) (k ∷ places)) ≡ true → IsPlain m type × IsValue m part
  put_into type k part places is = by_part (part_within m (Some type) (k ∷ places)) refl is
    where
      by_part : (o : Option ℕ) → part_within m (Some type) (k ∷ places) ≡ o → is_type_of m part o ≡ true → IsPlain m type × IsValue m part
      by_part None e is = absurd (false≢true is)
      by_part (Some other) e is =
          let t = taken_from m kept other k places (Some type) (ap (is_part other) e ∙ eq-eqb other other refl) in
          let same : Some type ≡ Some t.0 = t.1 in
          let whole : type ≡ t.0 = cc in
          (subst (IsPlain m) (sym whole) t.2, value_of_type m other part is t.3)

  -- operands of extended instructions
  extended_values : (type number : ℕ) (operands : List ℕ) → fits_row m type operands (find (λ e. e.number == number) rows) ≡ true → IsPlain m type × AllByRecursion (IsValue m) operands
  extended_values type number operands is = by_row (find (λ e. e.number == number) rows) is
    where
      by_result : (finds : Bool) (other : ℕ) → is_result m finds type other ≡ true → IsPlain m other → IsPlain m type
      by_result true other is plain = lanes_type_plain m (is_words_of 1) type (and_parts (is_signed m (Only 1) type) _ is).0
      by_result false other is plain = same_plain m type other is plain

      by_type : (e : Extended) (o : Option ℕ) → fit_with m e type operands o ≡ true → IsPlain m type × AllByRecursion (IsValue m) operands
      by_type e None is = absurd (false≢true is)
      by_type e (Some other) is =
          let last = and_parts (is_ints m other && is_signed m e.sign other && list_all (has_type m other) operands) (is_result m e.finds type other) is in
          let middle = and_parts (is_ints m other && is_signed m e.sign other) (list_all (has_type m other) operands) last.0 in
          let plain = ints m other (and_parts (is_ints m other) _ middle.0).0 in
          (by_result e.finds other last.1 plain, same_values m kept other operands plain middle.1)

      by_row : (o : Option Extended) → fits_row m type operands o ≡ true → IsPlain m type × AllByRecursion (IsValue m) operands
      by_row None is = absurd (false≢true is)
      by_row (Some e) is = by_type e (first_type m operands) (and_parts (length operands == e.count) _ is).1

-- ---- instructions that give values

module _ (m : Module) (kept : Kept m) (input : Input) (before : Code) (p : Placed) (state : State) where
  pub operands : (d : Instruction) → Ready m input before p d state → operands_typed m d ≡ true
  operands d r = ap (passes_if (operands_typed m)) (sym r.reads) ∙ r.step.keeps.operands

  abbrev Usable : ℕ → Type 0
  Usable id = usable_as (bare state.body) (where_at m before).block id (defined_as m id) ≡ true

  -- goes on with the value of an id
  pub with_value_of : (d : Instruction) → Ready m input before p d state → (id : ℕ) (go : Value → Outcome) → Usable id → IsValue m id → ((v : Value) → Fine m input (go v)) → Fine m input (on_whole (state.ids id) go)
  with_value_of d r id go usable value fine = fine_whole m input (length state.variables) (bare state.body) (where_at m before).block state.ids r.agrees id go usable value fine

  fine_all : (d : Instruction) → Ready m input before p d state → (ids : List ℕ) (go : List Value → Outcome) → AllByRecursion Usable ids → AllByRecursion (IsValue m) ids → ((vs : List Value) → Fine m input (go vs)) → Fine m input (on_all state ids go)
  fine_all d r [] go each values fine = fine []
  fine_all d r (id ∷ ids) go each values fine =
      with_value_of d r id (λ v. on_all state ids (λ vs. go (v ∷ vs))) each.0 values.0 (λ v. fine_all d r ids (λ vs. go (v ∷ vs)) each.1 values.1 (λ vs. fine (v ∷ vs)))

  fine_drawing : (d : Instruction) → Ready m input before p d state → (id type : ℕ) (draw : List ℕ → Value × List ℕ) → kind_of d ≡ Gives type → table.result_of d ≡ Some id → IsPlain m type → Fine m input (drawing state id draw)
  fine_drawing d r id type draw gives result plain =
      give_value m kept input before p d (record state { choices = (draw state.choices).1 }) (drawn m kept input before p d state r (draw state.choices).1) id type (draw state.choices).0 gives result plain

  fine_two : (d : Instruction) → Ready m input before p d state → (id type a b : ℕ) (operator : Operator) → kind_of d ≡ Gives type → table.result_of d ≡ Some id → IsPlain m type → Usable a → Usable b → IsValue m a → IsValue m b
      → Fine m input (on_two state id a b operator)
  fine_two d r id type a b operator gives result plain usable_a usable_b value_a value_b =
      with_value_of d r a (λ x. on_whole (state.ids b) (λ y. drawing state id (binary operator x y))) usable_a value_a
      (λ x. with_value_of d r b (λ y. drawing state id (binary operator x y)) usable_b value_b (λ y. fine_drawing d r id type (binary operator x y) gives result plain))

  pub arithmetics : (op type id a b : ℕ) → Ready m input before p (instruction.Arithmetic op type id a b) state → Fine m input (act m input p.at state (instruction.Arithmetic op type id a b))
  arithmetics op type id a b r =
      let d = instruction.Arithmetic op type id a b in
      let u = usable m kept input before p d state r in
      let last = and_parts (is_ints m type && is_signed m (sign_of op) type && has_type m type a) (has_type m type b) (operands d r) in
      let middle = and_parts (is_ints m type && is_signed m (sign_of op) type) (has_type m type a) last.0 in
      let plain = ints m type (and_parts (is_ints m type) _ middle.0).0 in
      fine_two d r id type a b (arithmetic op) refl refl plain u.1.0 u.1.1.0 (value_of_type m type a middle.1 plain) (value_of_type m type b last.1 plain)

  pub shifts : (op type id a b : ℕ) → Ready m input before p (instruction.Shift op type id a b) state → Fine m input (act m input p.at state (instruction.Shift op type id a b))
  shifts op type id a b r =
      let d = instruction.Shift op type id a b in
      let u = usable m kept input before p d state r in
      let last = and_parts (is_ints m type && has_type m type a) (is_ints_sized m type (type_of (defined_as m b))) (operands d r) in
      let first = and_parts (is_ints m type) (has_type m type a) last.0 in
      let plain = ints m type first.0 in
      fine_two d r id type a b (shift op) refl refl plain u.1.0 u.1.1.0 (value_of_type m type a first.1 plain) (ints_sized m type b last.1)

  pub logicals : (op type id a b : ℕ) → Ready m input before p (instruction.Logical op type id a b) state → Fine m input (act m input p.at state (instruction.Logical op type id a b))
  logicals op type id a b r =
      let d = instruction.Logical op type id a b in
      let u = usable m kept input before p d state r in
      let last = and_parts (is_truth m type && has_type m type a) (has_type m type b) (operands d r) in
      let first = and_parts (is_truth m type) (has_type m type a) last.0 in
      let plain = truths m type first.0 in
      fine_two d r id type a b (logical op) refl refl plain u.1.0 u.1.1.0 (value_of_type m type a first.1 plain) (value_of_type m type b last.1 plain)

  pub comparisons : (op type id a b : ℕ) → Ready m input before p (instruction.Comparison op type id a b) state → Fine m input (act m input p.at state (instruction.Comparison op type id a b))
  comparisons op type id a b r =
      let d = instruction.Comparison op type id a b in
      let u = usable m kept input before p d state r in
      let both = and_parts (is_truth m type) (are_compared m (sign_of op) type b (type_of (defined_as m a))) (operands d r) in
      let values = compared m op type a b both.1 in
      fine_two d r id type a b (comparison op) refl refl (truths m type both.0) u.1.0 u.1.1.0 values.0 values.1

  pub unaries : (op type id a : ℕ) → Ready m input before p (instruction.Unary op type id a) state → Fine m input (act m input p.at state (instruction.Unary op type id a))
  unaries op type id a r =
      let d = instruction.Unary op type id a in
      let u = usable m kept input before p d state r in
      let value = unary_operand m op type a (operands d r) in
      with_value_of d r a (λ v. giving_value state id (unary op v)) u.1.0 value.1 (λ v. give_value m kept input before p d state r id type (unary op v) refl refl value.0)

  pub selects : (type id condition a b : ℕ) → Ready m input before p (instruction.Select type id condition a b) state → Fine m input (act m input p.at state (instruction.Select type id condition a b))
  selects type id condition a b r =
      let d = instruction.Select type id condition a b in
      let u = usable m kept input before p d state r in
      let last = and_parts (has_type m type a && has_type m type b) (is_truth_sized m type (type_of (defined_as m condition))) (operands d r) in
      let first = and_parts (has_type m type a) (has_type m type b) last.0 in
      let by = selecting m type condition last.1 in
      with_value_of d r condition (λ c. on_whole (state.ids a) (λ x. on_whole (state.ids b) (λ y. giving_value state id (select c x y)))) u.1.0 by.1
      (λ c. with_value_of d r a (λ x. on_whole (state.ids b) (λ y. giving_value state id (select c x y))) u.1.1.0 (value_of_type m type a first.0 by.0)
      (λ x. with_value_of d r b (λ y. giving_value state id (select c x y)) u.1.1.1.0 (value_of_type m type b first.1 by.0) (λ y. give_value m kept input before p d state r id type (select c x y) refl refl by.0)))

  pub inserts : (type id base insert offset count : ℕ) → Ready m input before p (instruction.BitFieldInsert type id base insert offset count) state → Fine m input (act m input p.at state (instruction.BitFieldInsert type id base insert offset count))
  inserts type id base insert offset count r =
      let d = instruction.BitFieldInsert type id base insert offset count in
      let u = usable m kept input before p d state r in
      let fifth = and_parts (is_ints m type && has_type m type base && has_type m type insert && is_int_value m offset) (is_int_value m count) (operands d r) in
      let fourth = and_parts (is_ints m type && has_type m type base && has_type m type insert) (is_int_value m offset) fifth.0 in
      let third = and_parts (is_ints m type && has_type m type base) (has_type m type insert) fourth.0 in
      let second = and_parts (is_ints m type) (has_type m type base) third.0 in
      let plain = ints m type second.0 in
      with_value_of d r base (λ x. on_whole (state.ids insert) (λ y. on_whole (state.ids offset) (λ at. on_whole (state.ids count) (λ n. drawing state id (inserted x y at n))))) u.1.0 (value_of_type m type base second.1 plain)
      (λ x. with_value_of d r insert (λ y. on_whole (state.ids offset) (λ at. on_whole (state.ids count) (λ n. drawing state id (inserted x y at n)))) u.1.1.0 (value_of_type m type insert third.1 plain)
      (λ y. with_value_of d r offset (λ at. on_whole (state.ids count) (λ n. drawing state id (inserted x y at n))) u.1.1.1.0 (int_value m offset fourth.1)
      (λ at. with_value_of d r count (λ n. drawing state id (inserted x y at n)) u.1.1.1.1.0 (int_value m count fifth.1) (λ n. fine_drawing d r id type (inserted x y at n) refl refl plain))))

  pub extracts : (op type id base offset count : ℕ) → Ready m input before p (instruction.BitFieldExtract op type id base offset count) state → Fine m input (act m input p.at state (instruction.BitFieldExtract op type id base offset count))
  extracts op type id base offset count r =
      let d = instruction.BitFieldExtract op type id base offset count in
      let u = usable m kept input before p d state r in
      let fifth = and_parts (is_ints m type && is_signed m (sign_of op) type && has_type m type base && is_int_value m offset) (is_int_value m count) (operands d r) in
      let fourth = and_parts (is_ints m type && is_signed m (sign_of op) type && has_type m type base) (is_int_value m offset) fifth.0 in
      let third = and_parts (is_ints m type && is_signed m (sign_of op) type) (has_type m type base) fourth.0 in
      let plain = ints m type (and_parts (is_ints m type) _ third.0).0 in
      with_value_of d r base (λ x. on_whole (state.ids offset) (λ at. on_whole (state.ids count) (λ n. drawing state id (extracted op x at n)))) u.1.0 (value_of_type m type base third.1 plain)
      (λ x. with_value_of d r offset (λ at. on_whole (state.ids count) (λ n. drawing state id (extracted op x at n))) u.1.1.0 (int_value m offset fourth.1)
      (λ at. with_value_of d r count (λ n. drawing state id (extracted op x at n)) u.1.1.1.0 (int_value m count fifth.1) (λ n. fine_drawing d r id type (extracted op x at n) refl refl plain)))

  pub extends : (type id set number : ℕ) (values : List ℕ) → Ready m input before p (instruction.ExtInst type id set number values) state → Fine m input (act m input p.at state (instruction.ExtInst type id set number values))
  extends type id set number values r =
      let d = instruction.ExtInst type id set number values in
      let u = usable m kept input before p d state r in
      let typed = extended_values m kept type number values (and_parts _ (fits_row m type values (find (λ e. e.number == number) rows)) (ap (passes_if (extended_of m)) (sym r.reads) ∙ r.step.keeps.extension)).1 in
      fine_all d r values (λ vs. giving_value state id (extend number vs)) u.1.1 typed.1 (λ vs. give_value m kept input before p d state r id type (extend number vs) refl refl typed.0)

  pub constructs : (type id : ℕ) (parts : List ℕ) → Ready m input before p (instruction.CompositeConstruct type id parts) state → Fine m input (act m input p.at state (instruction.CompositeConstruct type id parts))
  constructs type id parts r =
      let d = instruction.CompositeConstruct type id parts in
      let u = usable m kept input before p d state r in
      let built = operands d r in
      fine_all d r parts (λ vs. giving_value state id (constructed (is_vector (shape_of (defined_as m type))) vs)) u.1 (built_values m kept parts (shape_of (defined_as m type)) (made_at m kept type) built)
      (λ vs. give_value m kept input before p d state r id type (constructed (is_vector (shape_of (defined_as m type))) vs) refl refl (built_plain m parts (shape_of (defined_as m type)) built))

  pub picks : (type id vector index : ℕ) → Ready m input before p (instruction.VectorExtractDynamic type id vector index) state → Fine m input (act m input p.at state (instruction.VectorExtractDynamic type id vector index))
  picks type id vector index r =
      let d = instruction.VectorExtractDynamic type id vector index in
      let u = usable m kept input before p d state r in
      let both = and_parts (is_picked m type vector) (is_int_value m index) (operands d r) in
      let from = picking_from m kept type vector both.0 in
      with_value_of d r vector (λ v. on_whole (state.ids index) (λ i. picking p.at state id v (slice_get (parts_in v) (word_in i)))) u.1.0 from.1
      (λ v. with_value_of d r index (λ i. picking p.at state id v (slice_get (parts_in v) (word_in i))) u.1.1.0 (int_value m index both.1) (λ i. by_component v (slice_get (parts_in v) (word_in i)) from.0))
    where
      by_component : (v : Value) (o : Option Value) → IsPlain m type → Fine m input (picking p.at state id v o)
      by_component v None plain = tt
      by_component v (Some c) plain = give_value m kept input before p (instruction.VectorExtractDynamic type id vector index) state r id type c refl refl plain

  pub shuffles : (type id a b : ℕ) (places : List ℕ) → Ready m input before p (instruction.VectorShuffle type id a b places) state → Fine m input (act m input p.at state (instruction.VectorShuffle type id a b places))
  shuffles type id a b places r =
      let d = instruction.VectorShuffle type id a b places in
      let u = usable m kept input before p d state r in
      let t = shuffling m type a b places (operands d r) in
      with_value_of d r a (λ x. on_whole (state.ids b) (λ y. giving_value state id (shuffled x y places))) u.1.0 t.1
      (λ x. with_value_of d r b (λ y. giving_value state id (shuffled x y places)) u.1.1.0 t.2 (λ y. give_value m kept input before p d state r id type (shuffled x y places) refl refl t.0))

  pub takes_part : (type id composite : ℕ) (indexes : List ℕ) → Ready m input before p (instruction.CompositeExtract type id composite indexes) state → Fine m input (act m input p.at state (instruction.CompositeExtract type id composite indexes))
  takes_part type id composite indexes r =
      let d = instruction.CompositeExtract type id composite indexes in
      let u = usable m kept input before p d state r in
      let some = names_parts p.instr d r.step.keeps.table r.reads in
      let t = taken_from m kept type some.first some.more (type_of (defined_as m composite)) (ap (λ l. is_part type (part_within m (type_of (defined_as m composite)) l)) (sym some.is) ∙ operands d r) in
      with_value_of d r composite (λ v. giving_value state id (value_at v indexes)) u.1.0 (record { type = t.0; typed = t.1; plain = t.2 })
      (λ v. give_value m kept input before p d state r id type (value_at v indexes) refl refl t.3)

  pub puts_part : (type id part composite : ℕ) (indexes : List ℕ) → Ready m input before p (instruction.CompositeInsert type id part composite indexes) state → Fine m input (act m input p.at state (instruction.CompositeInsert type id part composite indexes))
  puts_part type id part composite indexes r =
      let d = instruction.CompositeInsert type id part composite indexes in
      let u = usable m kept input before p d state r in
      let some = names_parts p.instr d r.step.keeps.table r.reads in
      let both = and_parts (has_type m type composite) (is_type_of m part (part_within m (Some type) indexes)) (operands d r) in
      let t = put_into m kept type some.first part some.more (ap (λ l. is_type_of m part (part_within m (Some type) l)) (sym some.is) ∙ both.1) in
      with_value_of d r part (λ x. on_whole (state.ids composite) (λ v. giving_value state id (with_value_at v indexes x))) u.1.0 t.1
      (λ x. with_value_of d r composite (λ v. giving_value state id (with_value_at v indexes x)) u.1.1.0 (value_of_type m type composite both.0 t.0)
      (λ v. give_value m kept input before p d state r id type (with_value_at v indexes x) refl refl t.0))
