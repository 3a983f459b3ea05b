-- Where branches lead.
use Rattle.std.proofs.Common.{◌≡◌, refl, sym, ap, ◌∙◌, subst, ℕ, zero, suc, ◌-◌, ◌<◌, ◌≤◌, Bool, true, false, ◌||◌, if◌then◌else◌, List, [], ◌∷◌, length, map, take, drop, slice_index, Option, Some, None, arith}
use Rattle.std.specs.Prelude.{◌==◌}
use Rattle.std.proofs.lemmas.Bool.{false≢true, or_left, or_right}
use Rattle.gsl_base.specs.declared.input.Input.{Input}
use Rattle.gsl_instr.specs.declared.instruction.Instruction.{Instruction}
use Rattle.gsl_instr.specs.declared.instruction.Instruction.TheVariants as instruction
use Rattle.gsl_words.specs.declared.module.Module.{Module}
use Rattle.gsl_values.specs.declared.value.Value.{Value}
use Rattle.gsl_values.specs.declared.value.Value.TheViews.{out-Value}
use Rattle.gsl_tree.specs.Values.{word_in}
use Rattle.gsl_valid.specs.IdsDefinedOnce.{ids_defined_once}
use Rattle.gsl_valid.specs.Instruction.{passes_if, read}
use Rattle.gsl_valid.specs.Kinds.{Shape, OfBool, OfInt, shape_of, type_of}
use Rattle.gsl_valid.specs.OperandRules.{is_bool_value, operands_typed}
use Rattle.gsl_valid.specs.Placed.{Placed}
use Rattle.gsl_valid.specs.Types.{defined_as, is_bool_shape, is_int_shape, is_int_type}
use Rattle.gsl_machine.specs.Functions.{from_label}
use Rattle.gsl_machine.specs.State.{Going, Outcome, State, on, on_whole}
use Rattle.gsl_machine.specs.Steps.{branching, in_new_block, label_for}
use Rattle.gsl_ids.specs.Table.{number_of}
use Rattle.gsl_positions.specs.Positions.{left}
use Rattle.gsl_positions.proofs.Standing.{label_stands}
use Rattle.gsl_region.specs.Flat.{flat}
use Rattle.gsl_slots.specs.Holding.{IsHeld}
use Rattle.gsl_leaves.specs.Table.{most}
use Rattle.gsl_leaves_law.proofs.Parts.{unfolded}
use Rattle.gsl_operations_law.proofs.Lanes.{one_flat}
use Rattle.gsl_sound.specs.Sound.{Good}
use Rattle.gsl_sound_code.proofs.Looks.{Kept}
use Rattle.gsl_sound_types.specs.Typed.{Typed}
use Rattle.gsl_sound_values.specs.Shaped.{is_shaped, shaped_as}
use Rattle.gsl_shown.proofs.Branching.{branch_shown}
use Rattle.gsl_operands.specs.Operands.{stands}
use Rattle.gsl_step.specs.Machine.{IsShown, Leads, stood}
use Rattle.gsl_step.specs.declared.machine.Machine.{Machine}
use Rattle.gsl_step.proofs.Giving.{rules_kept}
use Rattle.gsl_step.proofs.Operands.{Top, below_bound, with_operand}

-- ---- values of one word

one_word : (m : Module) (f : ℕ → Value → Bool) (s : Shape) (v : Value) → (is_int_shape s || is_bool_shape s) ≡ true → shaped_as m f s v ≡ true → flat v ≡ word_in v ∷ []
one_word m f OfBool v ok is = one_flat v (out-Value v) refl is
one_word m f (OfInt signedness) v ok is = one_flat v (out-Value v) refl is
one_word m f _ v ok is = absurd (false≢true ok)

first_word : (words : List ℕ) (at word : ℕ) → take 1 (drop at words) ≡ word ∷ [] → (at < length words) × (slice_index words at ≡ word)
first_word [] zero word is = absurd (cc)
first_word [] (suc at) word is = absurd (cc)
first_word (w ∷ words) zero word is = (omega arith, (let same : w ≡ word = cc in same))
first_word (w ∷ words) (suc at) word is = let later = first_word words at word is in let low = later.0 in (omega (arith, low), later.1)

-- the word of a value of a scalar type is the one where its words stand
pub word_stands : (m : Module) (kept : Kept m) (type : ℕ) (v : Value) (slots : List ℕ) (top at : ℕ) → (is_int_shape (shape_of (defined_as m type)) || is_bool_shape (shape_of (defined_as m type))) ≡ true → is_shaped m type v ≡ true → IsHeld slots top at (flat v)
    → (at < length slots) × (slice_index slots at ≡ word_in v)
word_stands m kept type v slots top at scalar shaped held =
    let one = one_word m (is_shaped m) (shape_of (defined_as m type)) v scalar (unfolded m kept type v shaped) in
    first_word slots at (word_in v) (sym (ap (λ l. take (length l) (drop at slots)) one) ∙ held.is ∙ one)

-- ---- branches

module _ (m : Module) (kept : Kept m) (once : ids_defined_once m ≡ None) (input : Input) (machine : Machine) (state : State) (good : Good m input state) (shown : IsShown m machine state) (more : List Placed) where
  abbrev Now : State
  Now = record state { rest = more }

  -- at the number of a label
  abbrev pub At : ℕ → Machine
  At label = record machine { standing = record machine.standing { at = number_of m label - 1 } }

  pub branches : (label : ℕ) → Leads m (At label) (branching Now label)
  branches label = by_code (from_label state.body label) refl
    where
      by_code : (o : Option (List Placed)) → from_label state.body label ≡ o → Leads m (At label) (on o (λ code. Going (in_new_block (record Now { rest = code }))))
      by_code None found = tt
      by_code (Some code) found =
          let place : code ≡ left m (number_of m label - 1) = (label_stands m once machine.standing.body label code (ap (λ l. from_label l label) (sym shown.shows.ids.body_is) ∙ found)).1 in
          let there = branch_shown m kept input (stood machine.standing) (map stood machine.callers) machine.slots machine.words machine.buffers machine.choices state good shown.shows label (number_of m label - 1) (found ∙ ap Some place) in
          subst (λ l. IsShown m (At label) (in_new_block (record state { rest = l }))) (sym place)
          (record { shows = there; constants_are = shown.constants_are; behind = shown.behind; places = shown.places; reach = shown.reach; numbers = shown.numbers })

  module _ (typed : Typed m state) (p : Placed) (comes : state.rest ≡ p ∷ more) where
    operands : (d : Instruction) → read p.instr ≡ Some d → operands_typed m d ≡ true
    operands d reads = ap (passes_if (operands_typed m)) (sym reads) ∙ (rules_kept m kept input state good p more comes).1.operands

    -- goes on with the word of the value of an id of a scalar type, which stands where its words do
    with_word : (next : Machine) (id type : ℕ) (go : Value → Outcome) → type_of (defined_as m id) ≡ Some type → (is_int_shape (shape_of (defined_as m type)) || is_bool_shape (shape_of (defined_as m type))) ≡ true
        → ((v : Value) → id < m.bound → stands m machine.standing.slots id ≤ most → stands m machine.standing.slots id < length machine.slots → slice_index machine.slots (stands m machine.standing.slots id) ≡ word_in v → Leads m next (go v))
        → Leads m next (on_whole (state.ids id) go)
    with_word next id type go known scalar fine = with_operand m kept input machine state typed shown next id type go known (λ v shaped held.
        let word = word_stands m kept type v machine.slots (Top m kept input machine state typed shown) (stands m machine.standing.slots id) scalar shaped held in
        let low = word.0 in
        let places = shown.places in
        fine v (below_bound m kept id type known) (omega (arith, low, places)) low word.1)

    -- the word where a scalar stands, as a machine reads it
    abbrev pub IsRead : ℕ → ℕ → Type 0
    IsRead id word = id < m.bound → stands m machine.standing.slots id ≤ most → stands m machine.standing.slots id < length machine.slots → word ≡ slice_index machine.slots (stands m machine.standing.slots id)

    pub branches_if : (condition on_true on_false word : ℕ) → read p.instr ≡ Some (instruction.BranchConditional condition on_true on_false) → IsRead condition word
        → Leads m (At (if word == 0 then on_false else on_true)) (on_whole (state.ids condition) (λ c. if word_in c == 0 then branching Now on_false else branching Now on_true))
    branches_if condition on_true on_false word reads is_read = by_type (type_of (defined_as m condition)) refl (operands (instruction.BranchConditional condition on_true on_false) reads)
      where
        by_test : (b : Bool) → Leads m (At (if b then on_false else on_true)) (if b then branching Now on_false else branching Now on_true)
        by_test true = branches on_false
        by_test false = branches on_true

        by_type : (o : Option ℕ) → type_of (defined_as m condition) ≡ o → is_bool_value m o ≡ true
            → Leads m (At (if word == 0 then on_false else on_true)) (on_whole (state.ids condition) (λ c. if word_in c == 0 then branching Now on_false else branching Now on_true))
        by_type None known is = absurd (false≢true is)
        by_type (Some type) known is =
            with_word (At (if word == 0 then on_false else on_true)) condition type (λ c. if word_in c == 0 then branching Now on_false else branching Now on_true) known (or_right (is_int_shape (shape_of (defined_as m type))) _ is)
            (λ c low place within found.
            let same : word ≡ word_in c = is_read low place within ∙ found in
            subst (λ w. Leads m (At (if word == 0 then on_false else on_true)) (if w == 0 then branching Now on_false else branching Now on_true)) same (by_test (word == 0)))

    pub switches : (selector default : ℕ) (targets : List ℕ) (word : ℕ) → read p.instr ≡ Some (instruction.Switch selector default targets) → IsRead selector word
        → Leads m (At (label_for word default targets)) (on_whole (state.ids selector) (λ v. branching Now (label_for (word_in v) default targets)))
    switches selector default targets word reads is_read = by_type (type_of (defined_as m selector)) refl (operands (instruction.Switch selector default targets) reads)
      where
        by_type : (o : Option ℕ) → type_of (defined_as m selector) ≡ o → is_int_type m o ≡ true → Leads m (At (label_for word default targets)) (on_whole (state.ids selector) (λ v. branching Now (label_for (word_in v) default targets)))
        by_type None known is = absurd (false≢true is)
        by_type (Some type) known is =
            with_word (At (label_for word default targets)) selector type (λ v. branching Now (label_for (word_in v) default targets)) known (or_left (is_int_shape (shape_of (defined_as m type))) _ is)
            (λ v low place within found.
            let same : word ≡ word_in v = is_read low place within ∙ found in
            subst (λ w. Leads m (At (label_for word default targets)) (branching Now (label_for w default targets))) same (branches (label_for word default targets)))
