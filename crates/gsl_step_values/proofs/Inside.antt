-- What is taken out of values and put into them, in words.
use Rattle.std.proofs.Common.{◌≡◌, refl, sym, ap, ◌∙◌, subst, ℕ, zero, suc, ◌+◌, ◌<◌, ◌≤◌, true, List, [], ◌∷◌, ◌++◌, length, take, drop, Option, Some, None, arith, append_assoc, length-append}
use Rattle.std.specs.Prelude.{min, slice_index}
use Rattle.std.proofs.lemmas.Bool.{and_parts, false≢true}
use Rattle.std.proofs.lemmas.List.{drop-drop, length-drop, length-take-le, take-append-drop}
use Rattle.gsl_base.specs.declared.input.Input.{Input}
use Rattle.gsl_instr.specs.declared.instruction.Instruction.TheVariants as instruction
use Rattle.gsl_words.specs.declared.module.Module.{Module}
use Rattle.gsl_values.specs.declared.value.Value.{Value}
use Rattle.gsl_tree.specs.Operations.{value_at, with_value_at}
use Rattle.gsl_valid.specs.Instruction.{read}
use Rattle.gsl_valid.specs.Kinds.{Gives, kind, type_of}
use Rattle.gsl_valid.specs.OperandRules.{is_part, is_type_of, part_within}
use Rattle.gsl_valid.specs.Placed.{Placed}
use Rattle.gsl_valid.specs.Search.{whole}
use Rattle.gsl_valid.specs.Types.{defined_as, has_type}
use Rattle.gsl_machine.specs.State.{State, giving_value, on_whole}
use Rattle.gsl_region.specs.Flat.{flat}
use Rattle.gsl_region.specs.Places.{in_front}
use Rattle.gsl_region.specs.Showing.{with_words}
use Rattle.gsl_region.proofs.Focus.{put_middle}
use Rattle.gsl_leaves.specs.Leaves.{leaves, offset}
use Rattle.gsl_leaves.specs.Table.{most, told}
use Rattle.gsl_leaves_law.proofs.Counted.{counted_in}
use Rattle.gsl_leaves_law.proofs.Parts.{path_stands, within_words}
use Rattle.gsl_operations_law.proofs.Lanes.{part_words, put_words}
use Rattle.gsl_sound.specs.Sound.{Good}
use Rattle.gsl_sound_code.proofs.Looks.{Kept}
use Rattle.gsl_sound_ids.proofs.Plain.{has_type_is}
use Rattle.gsl_sound_types.specs.Typed.{Typed}
use Rattle.gsl_sound_types.proofs.Valued.{part_is}
use Rattle.gsl_sound_values.specs.Shaped.{is_shaped}
use Rattle.gsl_sound_values.proofs.Parts.{within_shaped}
use Rattle.gsl_slots.specs.Holding.{IsHeld}
use Rattle.gsl_step.specs.Machine.{IsShown, Leads, Puts}
use Rattle.gsl_step.specs.declared.machine.Machine.{Machine}
use Rattle.gsl_step.proofs.Giving.{at_top, gives_words, room_there}
use Rattle.gsl_step.proofs.Operands.{Top, below_bound, with_operand}
use Rattle.gsl_step.proofs.Passing.{number_fits}
use Rattle.gsl_step_values.specs.Parts.{HasRoomForPart, HasRoomToInsert, PutsInside, PutsPart, ahead_of, part_of}
use Rattle.gsl_step_values.specs.Values.{from, to, words}
use Rattle.gsl_step_values.proofs.Two.{operands}

-- ---- lists

-- words among words
inner : (xs : List ℕ) (n k c : ℕ) → k + c ≤ n → take c (drop k (take n xs)) ≡ take c (drop k xs)
inner xs n k zero inside = refl
inner xs zero k (suc c) inside = absurd (omega (arith, inside))
inner [] (suc n) k (suc c) inside = refl
inner (x ∷ xs) (suc n) zero (suc c) inside = ap (λ l. x ∷ l) (inner xs n zero c (omega (arith, inside)))
inner (x ∷ xs) (suc n) (suc k) (suc c) inside = inner xs n k (suc c) (omega (arith, inside))

pub inner_words : (slots : List ℕ) (at n k c : ℕ) → k + c ≤ n → take c (drop k (take n (drop at slots))) ≡ take c (drop (at + k) slots)
inner_words slots at n k c inside = inner (drop at slots) n k c inside ∙ ap (take c) (drop-drop k at slots)

-- words put into words that are put
pub put_inside : (slots new part : List ℕ) (at k : ℕ) → at + length new ≤ length slots → k + length part ≤ length new → with_words (with_words slots at new) (at + k) part ≡ with_words slots at (with_words new k part)
put_inside slots new part at k room inside =
    let a = take at slots in
    let c = drop (at + length new) slots in
    let w1 = take k new in
    let w2 = take (length part) (drop k new) in
    let w3 = drop (k + length part) new in
    let long_a : length (take at slots) ≡ at = length-take-le at slots (omega (arith, room)) in
    let long_w1 : length (take k new) ≡ k = length-take-le k new (omega (arith, inside)) in
    let rest = length-drop k new in
    let long_w2 : length (take (length part) (drop k new)) ≡ length part = length-take-le (length part) (drop k new) (omega (arith, inside, rest)) in
    let split : new ≡ take k new ++ (take (length part) (drop k new) ++ drop (k + length part) new) =
    sym (take-append-drop k new) ∙ ap (λ l. take k new ++ l) (sym (take-append-drop (length part) (drop k new)) ∙ ap (λ l. take (length part) (drop k new) ++ l) (drop-drop (length part) k new)) in
    let now : with_words slots at new ≡ (a ++ w1) ++ (w2 ++ (w3 ++ c)) =
    ap (λ l. a ++ (l ++ c)) split ∙ ap (λ l. a ++ l) (append_assoc w1 (w2 ++ w3) c ∙ ap (λ l. w1 ++ l) (append_assoc w2 w3 c)) ∙ sym (append_assoc a w1 (w2 ++ (w3 ++ c))) in
    let front : length (a ++ w1) ≡ at + k = (let both = length-append a w1 in omega (arith, both, long_a, long_w1)) in
    let later : length (w1 ++ (part ++ w3)) ≡ length new =
    (let x = length-append w1 (part ++ w3) in let y = length-append part w3 in let z = length-drop (k + length part) new in omega (arith, x, y, z, long_w1, inside)) in
    ap (λ l. with_words l (at + k) part) now ∙ put_middle (a ++ w1) w2 (w3 ++ c) part (at + k) front (sym long_w2) ∙ append_assoc a w1 (part ++ (w3 ++ c))
    ∙ ap (λ l. a ++ l) (ap (λ l. w1 ++ l) (sym (append_assoc part w3 c)) ∙ sym (append_assoc w1 (part ++ w3) c)) ∙ ap (λ n. a ++ ((w1 ++ (part ++ w3)) ++ drop (at + n) slots)) (sym later)

-- a list from one of its items on
pub cut_at : (xs : List ℕ) (k : ℕ) → k < length xs → drop k xs ≡ slice_index xs k ∷ drop (k + 1) xs
cut_at [] k low = absurd (omega (arith, low))
cut_at (x ∷ xs) zero low = refl
cut_at (x ∷ xs) (suc k) low = cut_at xs k (omega (arith, low)) ∙ ap (λ n. slice_index xs k ∷ drop n (x ∷ xs)) (let e : suc (k + 1) ≡ suc k + 1 = omega arith in e)

-- ---- offsets

pub offset_none : (m : Module) (o : Option ℕ) → offset m o [] ≡ 0
unfolding offset
offset_none m None = refl
offset_none m (Some type) = refl

pub offset_step : (m : Module) (o : Option ℕ) (number : ℕ) (path : List ℕ) → offset m o (number ∷ path) ≡ ahead_of m o number + offset m (part_of m o number) path
unfolding offset
offset_step m None number [] = refl
offset_step m None number (n ∷ path) = refl
offset_step m (Some type) number path = refl

pub offset_more : (m : Module) (type part next : Option ℕ) (path : List ℕ) (at k x then_at : ℕ) → drop k path ≡ x ∷ drop (k + 1) path → (offset m type path ≤ most → at + offset m part (drop k path) ≡ offset m type path)
    → then_at ≡ min (at + told (ahead_of m part x)) 18446744073709551615 → next ≡ part_of m part x → offset m type path ≤ most → then_at + offset m next (drop (k + 1) path) ≡ offset m type path
unfolding told
offset_more m type part next path at k x then_at cut so_far sum is low =
    let now = so_far low in
    let here : offset m part (drop k path) ≡ ahead_of m part x + offset m next (drop (k + 1) path) =
    ap (offset m part) cut ∙ offset_step m part x (drop (k + 1) path) ∙ ap (λ o. ahead_of m part x + offset m o (drop (k + 1) path)) (sym is) in
    omega (arith, now, here, sum, low)

all_dropped : (xs : List ℕ) (k : ℕ) → length xs ≤ k → drop k xs ≡ []
all_dropped [] zero over = refl
all_dropped [] (suc k) over = refl
all_dropped (x ∷ xs) zero over = absurd (omega (arith, over))
all_dropped (x ∷ xs) (suc k) over = all_dropped xs k (omega (arith, over))

pub offset_ends : (m : Module) (type part : Option ℕ) (path : List ℕ) (at k : ℕ) → length path ≤ k → (offset m type path ≤ most → at + offset m part (drop k path) ≡ offset m type path) → offset m type path ≤ most → at ≡ offset m type path
offset_ends m type part path at k over so_far low =
    let now = so_far low in
    let none : offset m part (drop k path) ≡ 0 = ap (offset m part) (all_dropped path k over) ∙ offset_none m part in
    omega (arith, now, none)

-- ---- instructions

module _ (m : Module) (kept : Kept m) (input : Input) (machine next : Machine) (state : State) (good : Good m input state) (typed : Typed m state) (shown : IsShown m machine state) (p : Placed) (more : List Placed) (comes : state.rest ≡ p ∷ more) where
  abbrev Now : State
  Now = record state { rest = more }

  abbrev End : ℕ
  End = Top m kept input machine state typed shown

  pub takes_part : (type id composite : ℕ) (indexes : List ℕ) → read p.instr ≡ Some (instruction.CompositeExtract type id composite indexes) → PutsPart m type id composite indexes machine next → Leads m next (on_whole (state.ids composite) (λ v. giving_value Now id (value_at v indexes)))
  takes_part type id composite indexes reads puts = by_type (type_of (defined_as m composite)) refl (operands m kept input machine next state good typed shown p more comes (instruction.CompositeExtract type id composite indexes) reads)
    where
      given : (all : ℕ) (v : Value) → type_of (defined_as m composite) ≡ Some all → part_within m (Some all) indexes ≡ Some type → is_shaped m all v ≡ true → IsHeld machine.slots End (from m machine composite) (flat v) → Leads m next (giving_value Now id (value_at v indexes))
      given all v known leads shaped held =
          let part = value_at v indexes in
          let d = instruction.CompositeExtract type id composite indexes in
          let result : is_shaped m type (value_at v indexes) ≡ true = (within_shaped m kept all indexes type v v leads shaped).0 in
          let stands = path_stands m kept all indexes type v leads shaped in
          let inside = within_words m kept all indexes type v leads shaped in
          let size : length (flat (value_at v indexes)) ≡ leaves m type = counted_in m (whole m) type (value_at v indexes) result in
          let size_all : length (flat v) ≡ leaves m all = counted_in m (whole m) all v shaped in
          let there = room_there m kept input machine state good typed shown p more comes d reads id type refl refl (value_at v indexes) machine.choices result in
          let top = at_top m kept input machine state good typed shown p more comes d reads id type refl refl (value_at v indexes) machine.choices result in
          let below = held.below in
          let room_for : HasRoomForPart m machine id composite (offset m (Some all) indexes) (leaves m type) = record {
            room = omega (arith, there, size);
            low = below_bound m kept composite all known;
            behind = omega (arith, below, size_all, inside, top);
            places = shown.places;
            number = number_fits m machine state shown p more comes (Gives type) (ap kind reads) refl;
          } in
          let words_are : flat (value_at v indexes) ≡ take (leaves m type) (drop (from m machine composite + offset m (Some all) indexes) machine.slots) =
          part_words v indexes stands.leads ∙ ap (λ n. take n (drop (in_front v indexes) (flat v))) size ∙ ap (λ k. take (leaves m type) (drop k (flat v))) stands.front
          ∙ ap (λ l. take (leaves m type) (drop (offset m (Some all) indexes) l)) (sym held.is)
          ∙ inner_words machine.slots (from m machine composite) (length (flat v)) (offset m (Some all) indexes) (leaves m type) (omega (arith, inside, size_all)) in
          gives_words m kept input machine state good typed shown p more comes d reads id type refl refl part state.choices result (take (leaves m type) (drop (from m machine composite + offset m (Some all) indexes) machine.slots)) words_are next
          (subst (λ l. Puts machine (to m machine id) (take (leaves m type) (drop (from m machine composite + offset m (Some all) indexes) machine.slots)) l next) shown.shows.choices_are (puts all known room_for))

      by_type : (o : Option ℕ) → type_of (defined_as m composite) ≡ o → is_part type (part_within m o indexes) ≡ true → Leads m next (on_whole (state.ids composite) (λ v. giving_value Now id (value_at v indexes)))
      by_type None e is = absurd (false≢true is)
      by_type (Some all) e is =
          with_operand m kept input machine state typed shown next composite all (λ v. giving_value Now id (value_at v indexes)) e (λ v shaped held. given all v e (part_is type (part_within m (Some all) indexes) is) shaped held)

  pub puts_part : (type id part composite : ℕ) (indexes : List ℕ) → read p.instr ≡ Some (instruction.CompositeInsert type id part composite indexes) → PutsInside m type id part composite indexes machine next
      → Leads m next (on_whole (state.ids part) (λ x. on_whole (state.ids composite) (λ v. giving_value Now id (with_value_at v indexes x))))
  puts_part type id part composite indexes reads puts = by_part (part_within m (Some type) indexes) refl both.0 both.1
    where
      both : (has_type m type composite ≡ true) × (is_type_of m part (part_within m (Some type) indexes) ≡ true)
      both = and_parts (has_type m type composite) (is_type_of m part (part_within m (Some type) indexes)) (operands m kept input machine next state good typed shown p more comes (instruction.CompositeInsert type id part composite indexes) reads)

      given : (inner : ℕ) (x v : Value) → part_within m (Some type) indexes ≡ Some inner → type_of (defined_as m part) ≡ Some inner → type_of (defined_as m composite) ≡ Some type → is_shaped m inner x ≡ true → is_shaped m type v ≡ true
          → IsHeld machine.slots End (from m machine part) (flat x) → IsHeld machine.slots End (from m machine composite) (flat v) → Leads m next (giving_value Now id (with_value_at v indexes x))
      given inner x v leads known_part known shaped_x shaped held_x held =
          let new = with_value_at v indexes x in
          let d = instruction.CompositeInsert type id part composite indexes in
          let within = within_shaped m kept type indexes inner v x leads shaped in
          let result : is_shaped m type (with_value_at v indexes x) ≡ true = within.1 shaped_x in
          let stands = path_stands m kept type indexes inner v leads shaped in
          let inside = within_words m kept type indexes inner v leads shaped in
          let size_x : length (flat x) ≡ leaves m inner = counted_in m (whole m) inner x shaped_x in
          let size_old : length (flat (value_at v indexes)) ≡ leaves m inner = counted_in m (whole m) inner (value_at v indexes) within.0 in
          let size : length (flat v) ≡ leaves m type = counted_in m (whole m) type v shaped in
          let size_new : length (flat (with_value_at v indexes x)) ≡ leaves m type = counted_in m (whole m) type (with_value_at v indexes x) result in
          let there = room_there m kept input machine state good typed shown p more comes d reads id type refl refl (with_value_at v indexes x) machine.choices result in
          let top = at_top m kept input machine state good typed shown p more comes d reads id type refl refl (with_value_at v indexes x) machine.choices result in
          let below = held.below in
          let below_x = held_x.below in
          let room_for : HasRoomToInsert m machine id part composite (offset m (Some type) indexes) (leaves m inner) (leaves m type) = record {
            room = omega (arith, there, size_new);
            low = (below_bound m kept composite type known, below_bound m kept part inner known_part);
            behind = (omega (arith, below, size, top), omega (arith, below_x, size_x, top));
            inside = inside;
            places = shown.places;
            number = number_fits m machine state shown p more comes (Gives type) (ap kind reads) refl;
          } in
          let whole_are : words m machine composite (leaves m type) ≡ flat v = ap (λ n. take n (drop (from m machine composite) machine.slots)) (sym size) ∙ held.is in
          let part_are : words m machine part (leaves m inner) ≡ flat x = ap (λ n. take n (drop (from m machine part) machine.slots)) (sym size_x) ∙ held_x.is in
          let words_are : flat (with_value_at v indexes x) ≡ with_words (words m machine composite (leaves m type)) (offset m (Some type) indexes) (words m machine part (leaves m inner)) =
          put_words v x indexes stands.leads (size_x ∙ sym size_old) ∙ ap (λ k. with_words (flat v) k (flat x)) stands.front ∙ ap (λ l. with_words l (offset m (Some type) indexes) (flat x)) (sym whole_are)
          ∙ ap (λ l. with_words (words m machine composite (leaves m type)) (offset m (Some type) indexes) l) (sym part_are) in
          gives_words m kept input machine state good typed shown p more comes d reads id type refl refl new state.choices result
          (with_words (words m machine composite (leaves m type)) (offset m (Some type) indexes) (words m machine part (leaves m inner))) words_are next
          (subst (λ l. Puts machine (to m machine id) (with_words (words m machine composite (leaves m type)) (offset m (Some type) indexes) (words m machine part (leaves m inner))) l next) shown.shows.choices_are (puts inner known_part room_for))

      by_part : (o : Option ℕ) → part_within m (Some type) indexes ≡ o → has_type m type composite ≡ true → is_type_of m part o ≡ true → Leads m next (on_whole (state.ids part) (λ x. on_whole (state.ids composite) (λ v. giving_value Now id (with_value_at v indexes x))))
      by_part None e all is = absurd (false≢true is)
      by_part (Some inner) e all is =
          let known = has_type_is m type composite all in
          let known_part = has_type_is m inner part is in
          with_operand m kept input machine state typed shown next part inner (λ x. on_whole (state.ids composite) (λ v. giving_value Now id (with_value_at v indexes x))) known_part
          (λ x shaped_x held_x. with_operand m kept input machine state typed shown next composite type (λ v. giving_value Now id (with_value_at v indexes x)) known
          (λ v shaped held. given inner x v e known_part known shaped_x shaped held_x held))
