-- Arguments that are put one by one.
use Rattle.std.proofs.Common.{◌≡◌, refl, sym, ap, ◌∙◌, subst, ℕ, ◌+◌, ◌<◌, ◌≤◌, true, false, is_some, List, [], ◌∷◌, ◌++◌, length, take, drop, Option, Some, None, arith, append-nil, length-append}
use Rattle.std.specs.List.{AllByRecursion, flat_map}
use Rattle.std.specs.Prelude.{min}
use Rattle.std.proofs.lemmas.Bool.{false≢true, true≢false}
use Rattle.std.proofs.lemmas.List.{take-append-drop, take_all}
use Rattle.gsl_words.specs.declared.module.Module.{Module}
use Rattle.gsl_valid.specs.Kinds.{Variable, variable_is}
use Rattle.gsl_valid.specs.Types.{defined_as}
use Rattle.gsl_region.specs.Showing.{with_words}
use Rattle.gsl_leaves.specs.Table.{most}
use Rattle.gsl_slots.proofs.Held.{front_of}
use Rattle.gsl_operands.specs.Operands.{stands}
use Rattle.gsl_shown.specs.Shown.{two_words}
use Rattle.gsl_shown.proofs.Giving.{length_with}
use Rattle.gsl_step.specs.declared.machine.Machine.{Machine}
use Rattle.gsl_step.specs.declared.standing.Standing.{Standing}
use Rattle.gsl_step_memory.specs.Pointers.{IsTold, IsToldAs, led_as, led_to}
use Rattle.gsl_step_memory.proofs.Copied.{none_copied, row_long}
use Rattle.gsl_step_values.proofs.Gathered.{map_behind, nth_each, put_behind, taken_more}
use Rattle.gsl_step_entering.specs.Passed.{HasRoomToPass, IsArgument, IsArgumentAs, Passes, argument, argument_as, count_of, with_slots}

-- what is put at a place or behind it changes no argument in front of it
same_argument : (m : Module) (f : Standing) (slots new : List ℕ) (base id : ℕ) → IsArgument m f base id → base ≤ length slots → argument m f (with_words slots base new) id ≡ argument m f slots id
same_argument m f slots new base id is room = by (variable_is (defined_as m id)) is
  where
    by : (o : Option Variable) → IsArgumentAs m f base id o → argument_as m f (with_words slots base new) id o ≡ argument_as m f slots id o
    by None is = front_of slots new (stands m f.slots id) (count_of m id) base is.1 room
    by (Some v) is = refl

further_off : (m : Module) (f : Standing) (base at id : ℕ) → base ≤ at → IsArgument m f base id → IsArgument m f at id
further_off m f base at id later is = by (variable_is (defined_as m id)) is
  where
    by : (o : Option Variable) → IsArgumentAs m f base id o → IsArgumentAs m f at id o
    by None is = let below = is.1 in (is.0, omega (arith, below, later))
    by (Some v) is = is

-- What is put so far, and where it ends.
pub record SoFar (m : Module) (first : Machine) (ids : List ℕ) (base k : ℕ) (now : Machine) (end : ℕ) : Type 0 where
  pub put : now ≡ with_slots first base (flat_map (argument m first.standing first.slots) (take k ids))
  pub ends : end ≡ base + length (flat_map (argument m first.standing first.slots) (take k ids))

module _ (m : Module) (first : Machine) (ids : List ℕ) (base : ℕ) (fits : HasRoomToPass m first.standing first.slots ids base) where
  abbrev W : ℕ → List ℕ
  W = argument m first.standing first.slots

  pub none_passed : SoFar m first ids base 0 first base
  none_passed = record { put = ap (λ l. record first { slots = l }) (none_copied first.slots base); ends = (let e : base ≡ base + 0 = omega arith in e) }

  pub one_passed : (k x : ℕ) (now later : Machine) (end then_end : ℕ) → SoFar m first ids base k now end → drop k ids ≡ x ∷ drop (k + 1) ids → Passes m x end now later then_end → SoFar m first ids base (k + 1) later then_end
  one_passed k x now later end then_end so_far here passes =
      let done = flat_map W (take k ids) in
      let w = W x in
      let is = nth_each (IsArgument m first.standing base) ids k x fits.each here in
      let longer : flat_map W (take (k + 1) ids) ≡ flat_map W (take k ids) ++ W x = ap (flat_map W) (taken_more ids k x here) ∙ map_behind W (take k ids) (x ∷ []) ∙ ap (λ l. flat_map W (take k ids) ++ l) (append-nil (W x)) in
      let all : flat_map W ids ≡ flat_map W (take (k + 1) ids) ++ flat_map W (drop (k + 1) ids) = ap (flat_map W) (sym (take-append-drop (k + 1) ids)) ∙ map_behind W (take (k + 1) ids) (drop (k + 1) ids) in
      let total = ap length all ∙ length-append (flat_map W (take (k + 1) ids)) (flat_map W (drop (k + 1) ids)) in
      let more = ap length longer ∙ length-append (flat_map W (take k ids)) (W x) in
      let room = fits.room in
      let places = fits.places in
      let inside : base + (length done + length w) ≤ length first.slots = omega (arith, room, total, more) in
      let slots_now = with_words first.slots base done in
      let long : length (with_words first.slots base done) ≡ length first.slots = length_with first.slots done base (omega (arith, inside)) in
      let at = base + length done in
      let moved : Passes m x (base + length done) (with_slots first base done) later then_end = subst (λ n. Passes m x n (with_slots first base done) later then_end) so_far.ends (subst (λ (n : Machine). Passes m x end n later then_end) so_far.put passes) in
      let same : argument m first.standing (with_words first.slots base done) x ≡ W x = same_argument m first.standing first.slots done base x is (omega (arith, inside)) in
      let size = ap length same in
      let it = moved (further_off m first.standing base (base + length done) x (omega arith) is) (omega (arith, long, places)) (omega (arith, size, inside, long)) in
      record {
        put = it.0 ∙ ap (λ l. record first { slots = with_words (with_words first.slots base done) (base + length done) l }) same ∙ ap (λ l. record first { slots = l }) (put_behind first.slots done w base inside ∙ ap (with_words first.slots base) (sym longer));
        ends = (let e = it.1 in omega (arith, e, size, more));
      }

  pub all_passed : (k : ℕ) (now : Machine) (end : ℕ) → length ids ≤ k → SoFar m first ids base k now end → now ≡ with_slots first base (flat_map W ids)
  all_passed k now end over so_far = so_far.put ∙ ap (λ l. with_slots first base (flat_map W l)) (take_all k ids over)

-- ---- one argument

-- a variable is put as a pointer to it
pub pointer_passed : (m : Module) (now : Machine) (id at place_is end : ℕ) (slots : List ℕ) → is_some (variable_is (defined_as m id)) ≡ true → (IsTold m now id → place_is ≡ led_to m now id) → (at + 3 ≤ length now.slots → slots ≡ with_words now.slots at (0 ∷ two_words place_is))
    → end ≡ min (at + 3) 18446744073709551615 → Passes m id at now (record now { slots = slots }) end
pointer_passed m now id at place_is end slots some placed puts ends = by (variable_is (defined_as m id)) some placed
  where
    by : (o : Option Variable) → is_some o ≡ true → (IsToldAs m now id o → place_is ≡ led_as m now id o) → IsArgumentAs m now.standing at id o → length now.slots ≤ most → at + length (argument_as m now.standing now.slots id o) ≤ length now.slots
        → (record now { slots = slots } ≡ with_slots now at (argument_as m now.standing now.slots id o)) × (end ≡ at + length (argument_as m now.standing now.slots id o))
    by None some placed is places room = absurd (false≢true some)
    by (Some v) some placed is places room = (
      ap (λ l. record now { slots = l }) (puts room ∙ ap (λ n. with_words now.slots at (0 ∷ two_words n)) (placed is)),
      omega (arith, ends, room, places),
    )

-- what stands among the slots is copied
pub words_passed : (m : Module) (now : Machine) (id at count from end : ℕ) (slots : List ℕ) → is_some (variable_is (defined_as m id)) ≡ false → (count_of m id ≤ most → count ≡ count_of m id) → (id < m.bound → stands m now.standing.slots id ≤ most → from ≡ stands m now.standing.slots id)
    → (from + count ≤ at → at + count ≤ length now.slots → slots ≡ with_words now.slots at (take count (drop from now.slots))) → end ≡ min (at + count) 18446744073709551615 → Passes m id at now (record now { slots = slots }) end
words_passed m now id at count from end slots none counts starts puts ends = by (variable_is (defined_as m id)) none
  where
    by : (o : Option Variable) → is_some o ≡ false → IsArgumentAs m now.standing at id o → length now.slots ≤ most → at + length (argument_as m now.standing now.slots id o) ≤ length now.slots
        → (record now { slots = slots } ≡ with_slots now at (argument_as m now.standing now.slots id o)) × (end ≡ at + length (argument_as m now.standing now.slots id o))
    by (Some v) none is places room = absurd (true≢false none)
    by None none is places room =
        let below = is.1 in
        let size = row_long now.slots (stands m now.standing.slots id) (count_of m id) (omega (arith, below, room)) in
        let count_is = counts (omega (arith, below, room, places)) in
        let from_is = starts is.0 (omega (arith, below, room, places)) in (
          ap (λ l. record now { slots = l }) (puts (omega (arith, below, count_is, from_is)) (omega (arith, room, size, count_is)) ∙ ap (λ n. with_words now.slots at (take n (drop from now.slots))) count_is
              ∙ ap (λ n. with_words now.slots at (take (count_of m id) (drop n now.slots))) from_is),
          omega (arith, ends, count_is, size, room, places),
        )
