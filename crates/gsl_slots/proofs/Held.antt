-- What slots hold behind a change.
use Rattle.std.proofs.Common.{◌≡◌, refl, sym, ap, ◌∙◌, subst, ℕ, ◌+◌, ◌≤◌, Bool, true, false, List, ◌++◌, length, take, drop, Some, arith}
use Rattle.std.specs.Prelude.{◌==◌, if◌then◌else◌}
use Rattle.std.proofs.lemmas.Bool.{eqb-true}
use Rattle.std.proofs.lemmas.List.{drop-append-le, length-drop, length-take-le, take-append-le, take-append-drop}
use Rattle.gsl_machine.specs.State.{Held, Ids, give}
use Rattle.gsl_region.specs.Showing.{with_words}
use Rattle.gsl_region.proofs.Focus.{middle}
use Rattle.gsl_slots.specs.Holding.{Holds, IsHeld}

-- what is put is there
put_there : (slots new : List ℕ) (at : ℕ) → at ≤ length slots → IsHeld (with_words slots at new) (at + length new) at new
put_there slots new at inside = record { below = omega arith; is = middle (take at slots) new (drop (at + length new) slots) at (length new) (length-take-le at slots inside) refl }

-- the words in front of a place
pub front_of : (slots new : List ℕ) (place count at : ℕ) → place + count ≤ at → at ≤ length slots → take count (drop place (with_words slots at new)) ≡ take count (drop place slots)
front_of slots new place count at below inside =
    let front = take at slots in
    let long : length (take at slots) ≡ at = length-take-le at slots inside in
    let behind = new ++ drop (at + length new) slots in
    let first : (rest : List ℕ) → take count (drop place (take at slots ++ rest)) ≡ take count (drop place (take at slots)) = λ rest.
    ap (take count) (drop-append-le place (take at slots) rest (omega (arith, below, long))) ∙ take-append-le count (drop place (take at slots)) rest (omega (arith, below, long, length-drop place (take at slots))) in
    first behind ∙ sym (first (drop at slots)) ∙ ap (λ l. take count (drop place l)) (take-append-drop at slots)

-- what stands below the top stays
pub kept_below : (slots new words : List ℕ) (top at place : ℕ) → IsHeld slots top place words → top ≤ at → at ≤ length slots → IsHeld (with_words slots at new) top place words
kept_below slots new words top at place held above inside = record { below = held.below; is = front_of slots new place (length words) at (omega (arith, held.below, above)) inside ∙ held.is }

risen : (slots words : List ℕ) (top later place : ℕ) → IsHeld slots top place words → top ≤ later → IsHeld slots later place words
risen slots words top later place held above = record { below = omega (arith, held.below, above); is = held.is }

module _ (words : Held → List ℕ) (place : ℕ → ℕ) (slots : List ℕ) (top : ℕ) (ids : Ids) (holds : Holds words place slots top ids) where
  pub given : (id : ℕ) (held : Held) → place id ≡ top → top + length (words held) ≤ length slots → Holds words place (with_words slots top (words held)) (top + length (words held)) (give ids id held)
  given id held here room = record { each = λ other it e. at_each other it (other == id) refl e }
    where
      at_each : (other : ℕ) (it : Held) (b : Bool) → (other == id) ≡ b → (if b then Some held else ids other) ≡ Some it → IsHeld (with_words slots top (words held)) (top + length (words held)) (place other) (words it)
      at_each other it true same e =
          let one : held ≡ it = cc in
          let at : top ≡ place other = sym here ∙ ap place (sym (eqb-true other id same)) in
          subst (λ w. IsHeld (with_words slots top (words held)) (top + length (words held)) (place other) (words w)) one
          (subst (λ p. IsHeld (with_words slots top (words held)) (top + length (words held)) p (words held)) at (put_there slots (words held) top (omega (arith, room))))
      at_each other it false apart e =
          risen (with_words slots top (words held)) (words it) top (top + length (words held)) (place other)
          (kept_below slots (words held) (words it) top top (place other) (holds.each other it e) (omega arith) (omega (arith, room))) (omega arith)

  pub kept : (new : List ℕ) (at : ℕ) → top ≤ at → at ≤ length slots → Holds words place (with_words slots at new) top ids
  kept new at above inside = record { each = λ id held e. kept_below slots new (words held) top at (place id) (holds.each id held e) above inside }

  pub rises : (later : ℕ) → top ≤ later → Holds words place slots later ids
  rises later above = record { each = λ id held e. risen slots (words held) top later (place id) (holds.each id held e) above }
