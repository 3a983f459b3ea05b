-- What operations on one value give, in words.
use Rattle.std.proofs.Common.{◌≡◌, refl, sym, ap, ◌∙◌, subst, ℕ, ◌+◌, ◌<◌, ◌≤◌, ◌^◌, Bool, true, false, ◌||◌, if◌then◌else◌, List, [], ◌∷◌, length, take, drop, Option, Some, None, inl, inr, arith}
use Rattle.std.specs.List.{list_all, list_any}
use Rattle.std.specs.Prelude.{◌==◌}
use Rattle.std.proofs.lemmas.Bool.{and_from, eqb-true, false≢true, or_cases}
use Rattle.gsl_base.specs.declared.input.Input.{Input}
use Rattle.gsl_instr.specs.declared.instruction.Instruction.TheVariants as instruction
use Rattle.gsl_instr.specs.declared.op.TheConstants as op_code
use Rattle.gsl_words.specs.declared.module.Module.{Module}
use Rattle.gsl_values.specs.Word.{word_of_bool}
use Rattle.gsl_values.specs.declared.function.Builtin.{Builtin}
use Rattle.gsl_values.specs.declared.function.Builtin.TheVariants as f
use Rattle.gsl_values.specs.declared.op.UnaryOp.TheVariants as u
use Rattle.gsl_values.specs.declared.value.Value.{Value}
use Rattle.gsl_tree.specs.Operations.{builtin_each, builtin_value, is_true}
use Rattle.gsl_tree.specs.Values.{components_in}
use Rattle.gsl_valid.specs.Instruction.{read}
use Rattle.gsl_valid.specs.Kinds.{Gives, kind, type_of}
use Rattle.gsl_valid.specs.OperandRules.{is_unary, is_unary_of}
use Rattle.gsl_valid.specs.Placed.{Placed}
use Rattle.gsl_valid.specs.Search.{whole}
use Rattle.gsl_valid.specs.Types.{defined_as}
use Rattle.gsl_machine.specs.Operations.{unary}
use Rattle.gsl_machine.specs.State.{State, giving_value, on_whole}
use Rattle.gsl_region.specs.Flat.{flat}
use Rattle.gsl_region.proofs.Focus.{flat_word}
use Rattle.gsl_leaves.specs.Leaves.{leaves}
use Rattle.gsl_leaves_law.proofs.Counted.{counted_in}
use Rattle.gsl_operations_law.specs.Lanes.{is_lanes}
use Rattle.gsl_operations_law.proofs.Lanes.{components_are, unary_flat}
use Rattle.gsl_sound.specs.Sound.{Good}
use Rattle.gsl_sound_code.proofs.Looks.{Kept}
use Rattle.gsl_sound_types.specs.Typed.{Typed}
use Rattle.gsl_sound_values.specs.Shaped.{is_shaped}
use Rattle.gsl_sound_values.proofs.Operated.{joined_lanes, unary_alike, unary_shaped}
use Rattle.gsl_slots.specs.Holding.{IsHeld}
use Rattle.gsl_step.specs.Machine.{IsShown, Leads, Puts}
use Rattle.gsl_step.specs.declared.machine.Machine.{Machine}
use Rattle.gsl_step.proofs.Giving.{at_top, gives_words, room_there}
use Rattle.gsl_step.proofs.Operands.{Top, below_bound, with_operand}
use Rattle.gsl_step.proofs.Passing.{number_fits}
use Rattle.gsl_step_values.specs.Values.{HasRoom, HasRoomToJoin, PutsEach, PutsJoined, from, joined_word, joins, to, unary_words, words}
use Rattle.gsl_step_values.proofs.Built.{given_words}
use Rattle.gsl_step_values.proofs.Two.{lanes_are, leaves_sized, operands, words_sized}

-- ---- words

one_of : (b : Bool) (x y : Value) (xs ys : List ℕ) → flat x ≡ xs → flat y ≡ ys → flat (if b then x else y) ≡ (if b then xs else ys)
one_of true x y xs ys first second = first
one_of false x y xs ys first second = second

bits : (which : Builtin) (v : Value) (count : ℕ) → flat (builtin_value which false (v ∷ []) []).0 ≡ (builtin_each which false (flat v ∷ []) (length (flat v)) 0 []).0 → length (flat v) ≡ count
    → flat (builtin_value which false (v ∷ []) []).0 ≡ (builtin_each which false (flat v ∷ []) count 0 []).0
bits which v count is size = is ∙ ap (λ n. (builtin_each which false (flat v ∷ []) n 0 []).0) size

-- what joins none
each_is : (code count : ℕ) (v : Value) → is_lanes v ≡ true → length (flat v) ≡ count → (code == op_code.ANY) ≡ false → (code == op_code.ALL) ≡ false → flat (unary code v) ≡ unary_words code count (flat v)
unfolding unary_words
each_is code count v lanes size any all =
    let alone : list_all is_lanes (v ∷ []) ≡ true = and_from (is_lanes v) true lanes refl in
    one_of (code == op_code.S_NEGATE) _ _ _ _ (unary_flat u.Negate v lanes) (one_of (code == op_code.NOT) _ _ _ _ (unary_flat u.Flip v lanes) (one_of (code == op_code.LOGICAL_NOT) _ _ _ _ (unary_flat u.Not v lanes)
    (one_of (code == op_code.BIT_REVERSE) _ _ _ _ (bits f.BitfieldReverse v count (given_words f.BitfieldReverse false (v ∷ []) [] refl alone).0 size)
    (one_of (code == op_code.BIT_COUNT) _ _ _ _ (bits f.BitCount v count (given_words f.BitCount false (v ∷ []) [] refl alone).0 size)
    (ap (λ b. flat (if b then (builtin_value f.Any false (v ∷ []) []).0 else if code == op_code.ALL then (builtin_value f.All false (v ∷ []) []).0 else v)) any
    ∙ ap (λ b. flat (if b then (builtin_value f.All false (v ∷ []) []).0 else v)) all)))))

-- what joins them
joined_is : (code : ℕ) (v : Value) → is_lanes v ≡ true → joins code ≡ true → flat (unary code v) ≡ joined_word code (flat v) ∷ []
joined_is code v lanes which = elim (or_cases (code == op_code.ANY) (code == op_code.ALL) which) [
  | inl e ↦ subst (λ n. flat (unary n v) ≡ joined_word n (flat v) ∷ []) (sym (eqb-true code op_code.ANY e)) (flat_word (word_of_bool (list_any is_true (components_in v))) ∙ ap (λ l. word_of_bool (list_any is_true l) ∷ []) (components_are v lanes))
  | inr e ↦ subst (λ n. flat (unary n v) ≡ joined_word n (flat v) ∷ []) (sym (eqb-true code op_code.ALL e)) (flat_word (word_of_bool (list_all is_true (components_in v))) ∙ ap (λ l. word_of_bool (list_all is_true l) ∷ []) (components_are v lanes))
]

not_joined : (code : ℕ) → (code == op_code.ANY) ≡ false → (code == op_code.ALL) ≡ false → joins code ≡ false
not_joined code any all = ap (λ b. b || code == op_code.ALL) any ∙ all

-- ---- the instruction

module _ (m : Module) (kept : Kept m) (input : Input) (machine next : Machine) (state : State) (good : Good m input state) (typed : Typed m state) (shown : IsShown m machine state) (p : Placed) (more : List Placed) (comes : state.rest ≡ p ∷ more) where
  abbrev Now : State
  Now = record state { rest = more }

  pub unaries : (code type id a : ℕ) → read p.instr ≡ Some (instruction.Unary code type id a) → (joins code ≡ false → PutsEach m code type id a machine next) → (joins code ≡ true → PutsJoined m code id a machine next)
      → Leads m next (on_whole (state.ids a) (λ v. giving_value Now id (unary code v)))
  unaries code type id a reads each joined = by_type (type_of (defined_as m a)) refl (operands m kept input machine next state good typed shown p more comes (instruction.Unary code type id a) reads)
    where
      known_number : machine.standing.at + 1 < 2 ^ 32
      known_number = number_fits m machine state shown p more comes (Gives type) (ap kind reads) refl

      given : (other : ℕ) (v : Value) → type_of (defined_as m a) ≡ Some other → is_unary_of m code type other ≡ true → is_shaped m other v ≡ true → IsHeld machine.slots (Top m kept input machine state typed shown) (from m machine a) (flat v)
          → Leads m next (giving_value Now id (unary code v))
      given other v known rule shaped held = elim (unary_alike m kept code type other rule) [
        | inl alike ↦ (
            let size : length (flat v) ≡ leaves m type = words_sized m kept other alike.had v shaped ∙ sym alike.same ∙ sym (leaves_sized m kept type alike.has (unary code v) result) in
            let room_for : HasRoom m machine id (leaves m type) (a ∷ []) = record {
              room = let long = counted_in m (whole m) type (unary code v) result in omega (arith, there, long);
              behind = ((below_bound m kept a other known, omega (arith, below, size, top)), tt);
              places = shown.places;
              number = known_number;
            } in
            let words_are : words m machine a (leaves m type) ≡ flat v = ap (λ n. take n (drop (from m machine a) machine.slots)) (sym size) ∙ held.is in
            put (unary_words code (leaves m type) (words m machine a (leaves m type)))
            (each_is code (leaves m type) v (lanes_are m kept other alike.had v shaped) size alike.any alike.all ∙ ap (unary_words code (leaves m type)) (sym words_are)) (each (not_joined code alike.any alike.all) room_for)
            )
        | inr joins_them ↦ (
            let has = joined_lanes m kept code type other rule joins_them.0 in
            let size : length (flat v) ≡ leaves m other = counted_in m (whole m) other v shaped in
            let lanes = lanes_are m kept other has v shaped in
            let room_for : HasRoomToJoin m machine id a (leaves m other) = record {
              room = let long = ap length (joined_is code v lanes joins_them.0) in omega (arith, there, long);
              low = below_bound m kept a other known;
              behind = omega (arith, below, size, top);
              places = shown.places;
              number = known_number;
            } in
            let words_are : words m machine a (leaves m other) ≡ flat v = ap (λ n. take n (drop (from m machine a) machine.slots)) (sym size) ∙ held.is in
            put (joined_word code (words m machine a (leaves m other)) ∷ []) (joined_is code v lanes joins_them.0 ∙ ap (λ l. joined_word code l ∷ []) (sym words_are)) (joined joins_them.0 other known room_for)
            )
      ]
        where
          result : is_shaped m type (unary code v) ≡ true
          result = unary_shaped m kept code type other v rule shaped

          there : to m machine id + length (flat (unary code v)) ≤ length machine.slots
          there = room_there m kept input machine state good typed shown p more comes (instruction.Unary code type id a) reads id type refl refl (unary code v) machine.choices result

          top : to m machine id ≡ Top m kept input machine state typed shown
          top = at_top m kept input machine state good typed shown p more comes (instruction.Unary code type id a) reads id type refl refl (unary code v) machine.choices result

          below : from m machine a + length (flat v) ≤ Top m kept input machine state typed shown
          below = held.below

          put : (words : List ℕ) → flat (unary code v) ≡ words → Puts machine (to m machine id) words machine.choices next → Leads m next (giving_value Now id (unary code v))
          put words is puts =
              gives_words m kept input machine state good typed shown p more comes (instruction.Unary code type id a) reads id type refl refl (unary code v) state.choices result words is next
              (subst (λ l. Puts machine (to m machine id) words l next) shown.shows.choices_are puts)

      by_type : (o : Option ℕ) → type_of (defined_as m a) ≡ o → is_unary m code type o ≡ true → Leads m next (on_whole (state.ids a) (λ v. giving_value Now id (unary code v)))
      by_type None e is = absurd (false≢true is)
      by_type (Some other) e is = with_operand m kept input machine state typed shown next a other (λ v. giving_value Now id (unary code v)) e (λ v shaped held. given other v e is shaped held)
