-- What is stored at a component that is out of bounds, and what is stored behind an index out of bounds.
use Rattle.std.proofs.Common.{◌≡◌, refl, subst, ℕ, ◌+◌, ◌≤◌, Bool, true, false, if◌then◌else◌, List, [], ◌∷◌, ◌++◌, length, Option, Some, None, arith}
use Rattle.std.specs.Prelude.{◌==◌}
use Rattle.std.proofs.lemmas.Bool.{eqb-true, true≢false}
use Rattle.gsl_base.specs.declared.input.Input.{Input}
use Rattle.gsl_words.specs.declared.module.Module.{Module}
use Rattle.gsl_values.specs.declared.value.Value.{Value}
use Rattle.gsl_tree.specs.Shapes.{Shape}
use Rattle.gsl_machine.specs.State.{Pointer, Points, State}
use Rattle.gsl_spv.specs.Sections.{Sections}
use Rattle.gsl_lower_values.specs.Constructors.{operand, picked}
use Rattle.gsl_lower_values.specs.declared.operand.Operand.{Operand}
use Rattle.gsl_lower_places.specs.Writing.{each_from, one_at, put_at, put_by, put_picked, stored}
use Rattle.gsl_lower_places.specs.declared.reached.Base.TheVariants as base
use Rattle.gsl_lower_places.specs.declared.reached.Part.{Part}
use Rattle.gsl_lower_places.specs.declared.reached.Part.TheVariants.{Fixed}
use Rattle.gsl_lower_places.specs.declared.reached.Picked.{Picked}
use Rattle.gsl_lower_law.specs.Computing.{drawing}
use Rattle.gsl_lower_law.specs.Straying.{Strays}
use Rattle.gsl_lower_law.specs.Values.{IsOf, Stands}
use Rattle.gsl_lower_law.proofs.Picking.{picked_computes}
use Rattle.gsl_lower_law.proofs.Straying.{strays_before, strays_then}
use Rattle.gsl_lower_law_places.specs.Components.{Chooses}
use Rattle.gsl_lower_law_places.specs.Leading.{LeadsTo, NumberEach, Numbers, StraysFrom}
use Rattle.gsl_lower_law_places.specs.Storing.{AreStored}
use Rattle.gsl_lower_law_places.proofs.Chains.{still_number}
use Rattle.gsl_lower_law_places.proofs.Each.{each_grows, word_of}
use Rattle.gsl_lower_law_places.proofs.Outside.{put_strays}
use Rattle.gsl_lower_law_places.proofs.Reading.{numbers_on, one_is}
use Rattle.gsl_lower_law_places.proofs.Stored.{put_grows}
use Rattle.gsl_lower_law_picks.specs.Outside.{CanPick, PicksOutside}
use Rattle.gsl_lower_law_picks.proofs.Along.{stray_behind, stray_on}
use Rattle.gsl_lower_law_picks.proofs.Outside.{not_one}

module _ (m : Module) (input : Input) (whole : Sections) where
  -- several components of what an index out of bounds leads to: the first of them strays
  each_strays : (id class : ℕ) (parts : List Part) (a : Operand) (position : ℕ) (positions words : List ℕ) (from : Pointer) (w : Value) (state : State) (before : Sections) → state.ids id ≡ Some (Points from) → NumberEach state.ids parts words → StraysFrom m input state from words
      → IsOf a.shape w → 1 ≤ a.shape.1 → Stands state.ids a.id w → Strays m input whole state before (each_from id class parts a 0 (position ∷ positions))
  unfolding each_from one_at
  each_strays id class parts a position positions words from w state before points each out is some stands =
      strays_before m input whole state before (one_at id class parts a 0 position) (λ done. each_from id class parts a (0 + 1) positions)
      (strays_then m input whole (λ word ids. Stands ids word (word_of m input whole id class parts a w 0)) (drawing state state.choices) state before (picked a (0 ∷ [])) (λ word. put_at id class (a.shape.0, 1) (parts ++ Fixed position ∷ []) word)
      (picked_computes m input whole a w is state before stands (0 ∷ []) (omega arith) (omega (arith, some), tt))
      (λ word between. put_grows m input whole id class (a.shape.0, 1) (parts ++ Fixed position ∷ []) word state between)
      (λ word between ids there keeps.
      put_strays m input whole id class (a.shape.0, 1) (parts ++ Fixed position ∷ []) word (words ++ position ∷ []) from (word_of m input whole id class parts a w 0) (record state { ids = ids }) between (keeps.same id _ points)
      (numbers_on ids parts (Fixed position ∷ []) words (position ∷ []) (still_number state.ids ids keeps parts words each) (refl, tt)) (stray_on m input state from words (position ∷ []) out) (one_is a.shape w 0 is (omega (arith, some))) there))
      (λ done between. each_grows m input whole id class parts a (0 + 1) positions state between)

  module _ (id class : ℕ) (parts : List Part) (p : Picked) (value : ℕ) (words : List ℕ) (from : Pointer) (w : Value) (state : State) (before : Sections) (points : state.ids id ≡ Some (Points from)) (each : NumberEach state.ids parts words) (is : IsOf (p.shape.0, length p.positions) w)
      (stands : Stands state.ids value w) where
    single : length p.positions ≡ 1 → IsOf (p.shape.0, 1) w
    single one = subst (λ n. IsOf (p.shape.0, n) w) one is

    puts_out : (part : Part) (k : ℕ) → Numbers state.ids part k → length p.positions ≡ 1 → StraysFrom m input state from (words ++ k ∷ []) → Strays m input whole state before (put_at id class (p.shape.0, 1) (parts ++ part ∷ []) value)
    puts_out part k number one out = put_strays m input whole id class (p.shape.0, 1) (parts ++ part ∷ []) value (words ++ k ∷ []) from w state before points (numbers_on state.ids parts (part ∷ []) words (k ∷ []) each (number, tt)) out (single one) stands

    component_put_out : (to : Pointer) (word : ℕ) → LeadsTo m input state from words to → StraysFrom m input state to (word ∷ []) → PicksOutside state.ids p word → length p.positions ≡ 1 → Strays m input whole state before (put_picked id class parts value p)
    unfolding put_picked
    component_put_out to word leads out picks one = by_count (p.shape.1 == 1) (not_one p.shape.1 picks.several)
      where
        by_part : (part : Option Part) → Chooses state.ids part (Some word) → Strays m input whole state before (put_by id class p.shape part p.positions parts value)
        by_part None chooses = absurd chooses
        by_part (Some part) chooses = puts_out part word chooses one (stray_behind m input state from to words (word ∷ []) leads out)

        by_count : (b : Bool) → b ≡ false → Strays m input whole state before (if b then put_at id class p.shape parts value else put_by id class p.shape p.by p.positions parts value)
        by_count true e = absurd (true≢false e)
        by_count false e = by_part p.by picks.by_word

    pub stored_out : (shape : Shape) (to : Pointer) (word : ℕ) → LeadsTo m input state from words to → StraysFrom m input state to (word ∷ []) → PicksOutside state.ids p word → length p.positions ≡ 1
        → Strays m input whole state before (stored shape (record { base = base.Variable id class; path = parts; picked = Some p }) value)
    unfolding stored
    stored_out shape to word leads out picks one = component_put_out to word leads out picks one

    module _ (out : StraysFrom m input state from words) where
      vector_put_out : (positions : List ℕ) → 1 ≤ length positions → 1 ≤ length p.positions → Strays m input whole state before (each_from id class parts (operand (p.shape.0, length p.positions) value) 0 positions)
      vector_put_out [] some any = absurd (let z : 1 ≤ 0 = some in omega (arith, z))
      vector_put_out (position ∷ positions) some any = each_strays id class parts (operand (p.shape.0, length p.positions) value) position positions words from w state before points each out is any stands

      components_put_out : (by : Option ℕ) → Chooses state.ids p.by by → CanPick p → AreStored by p.positions → length p.positions ≤ p.shape.1 → Strays m input whole state before (put_picked id class parts value p)
      unfolding put_picked
      components_put_out by chooses can fits few = by_count (p.shape.1 == 1) refl
        where
          by_part : (part : Option Part) (by : Option ℕ) → Chooses state.ids part by → AreStored by p.positions → Strays m input whole state before (put_by id class p.shape part p.positions parts value)
          by_part None None chooses fits = vector_put_out p.positions can.some can.some
          by_part None (Some k) chooses fits = absurd chooses
          by_part (Some part) None chooses fits = absurd chooses
          by_part (Some part) (Some k) chooses fits = puts_out part k chooses fits (stray_on m input state from words (k ∷ []) out)

          by_count : (b : Bool) → (p.shape.1 == 1) ≡ b → Strays m input whole state before (if b then put_at id class p.shape parts value else put_by id class p.shape p.by p.positions parts value)
          by_count true e =
              let one : p.shape.1 ≡ 1 = eqb-true p.shape.1 1 e in
              let some = can.some in
              put_strays m input whole id class p.shape parts value words from w state before points each out (subst (λ n. IsOf (p.shape.0, n) w) (let same : length p.positions ≡ p.shape.1 = omega (arith, one, some, few) in same) is) stands
          by_count false e = by_part p.by by chooses fits

      pub path_stored_out : (shape : Shape) (by : Option ℕ) → Chooses state.ids p.by by → CanPick p → AreStored by p.positions → length p.positions ≤ p.shape.1
          → Strays m input whole state before (stored shape (record { base = base.Variable id class; path = parts; picked = Some p }) value)
      unfolding stored
      path_stored_out shape by chooses can fits few = components_put_out by chooses can fits few
