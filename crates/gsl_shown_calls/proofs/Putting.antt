-- What is given to a function stands in its slots, one behind the other.
use Rattle.std.proofs.Common.{◌≡◌, refl, sym, ap, ◌∙◌, subst, ℕ, suc, ◌+◌, ◌≤◌, Bool, true, false, ◌||◌, if◌then◌else◌, List, [], ◌∷◌, ◌++◌, length, drop, take, Option, Some, None, arith, append_assoc, length-append}
use Rattle.std.specs.List.{AllByRecursion, cons_option, filter_map, flat_map, sum_by}
use Rattle.std.specs.Prelude.{◌==◌}
use Rattle.std.proofs.lemmas.Bool.{eqb-true, true≢false}
use Rattle.std.proofs.lemmas.List.{drop-drop, length-take-le, take-append-drop}
use Rattle.std.proofs.lemmas.List.Sums.{sum_by-cons}
use Rattle.std.proofs.lemmas.Option.{none-some}
use Rattle.gsl_words.specs.declared.module.Module.{Module}
use Rattle.gsl_valid.specs.CallRules.{takes}
use Rattle.gsl_valid.specs.Kinds.{Kind, Fixes, Holds, Variable, constant_in, kind}
use Rattle.gsl_valid.specs.LocalityRules.{gives_value}
use Rattle.gsl_valid.specs.Types.{defined_as}
use Rattle.gsl_machine.specs.Constants.{constant}
use Rattle.gsl_machine.specs.Functions.{give_each, point_each}
use Rattle.gsl_machine.specs.Interfaces.{constant_held, if_there, point_blocks}
use Rattle.gsl_machine.specs.State.{Held, Ids, InBlock, InVariable, Points, Whole, give}
use Rattle.gsl_valid.specs.DecorationRules.{pointee}
use Rattle.gsl_region.specs.Showing.{with_words}
use Rattle.gsl_slots.specs.Holding.{Holds as HoldsIds}
use Rattle.gsl_slots.proofs.Held.{given}
use Rattle.gsl_frames.specs.Frames.{held_words, place}
use Rattle.gsl_shown.specs.Shown.{in_slots}
use Rattle.gsl_shown.proofs.Giving.{give_slots, length_with}
use Rattle.gsl_shown_calls.proofs.Heads.{InRow}

-- ---- lists

-- one put behind another
two_puts : (slots new more : List ℕ) (at : ℕ) → at + length new ≤ length slots → with_words (with_words slots at new) (at + length new) more ≡ with_words slots at (new ++ more)
two_puts slots new more at room =
    let long : length (take at slots) ≡ at = length-take-le at slots (omega (arith, room)) in
    let front : take (at + length new) (with_words slots at new) ≡ take at slots ++ new =
    ap (λ n. take (n + length new) (with_words slots at new)) (sym long) ∙ ap (take (length (take at slots) + length new)) (sym (append_assoc (take at slots) new (drop (at + length new) slots)))
    ∙ ap (λ n. take n ((take at slots ++ new) ++ drop (at + length new) slots)) (sym (length-append (take at slots) new)) ∙ first_of (take at slots ++ new) (drop (at + length new) slots) in
    let behind : drop (at + length new + length more) (with_words slots at new) ≡ drop (at + length (new ++ more)) slots =
    ap (λ n. drop n (with_words slots at new)) (let e : at + length new + length more ≡ length (take at slots ++ new) + length more = omega (arith, long, length-append (take at slots) new) in e)
    ∙ ap (drop (length (take at slots ++ new) + length more)) (sym (append_assoc (take at slots) new (drop (at + length new) slots)))
    ∙ last_of (take at slots ++ new) (drop (at + length new) slots) (length more)
    ∙ drop-drop (length more) (at + length new) slots
    ∙ ap (λ n. drop n slots) (let e : at + length new + length more ≡ at + length (new ++ more) = omega (arith, length-append new more) in e) in
    ap (λ l. l ++ (more ++ drop (at + length new + length more) (with_words slots at new))) front
    ∙ ap (λ l. (take at slots ++ new) ++ (more ++ l)) behind
    ∙ append_assoc (take at slots) new (more ++ drop (at + length (new ++ more)) slots)
    ∙ ap (λ l. take at slots ++ l) (sym (append_assoc new more (drop (at + length (new ++ more)) slots)))
  where
    first_of : (xs ys : List ℕ) → take (length xs) (xs ++ ys) ≡ xs
    first_of [] ys = refl
    first_of (x ∷ xs) ys = ap (λ l. x ∷ l) (first_of xs ys)

    last_of : (xs ys : List ℕ) (n : ℕ) → drop (length xs + n) (xs ++ ys) ≡ drop n ys
    last_of [] ys n = ap (λ k. drop k ys) (omega arith)
    last_of (x ∷ xs) ys n = ap (λ k. drop k (x ∷ xs ++ ys)) (let e : suc (length xs) + n ≡ suc (length xs + n) = omega arith in e) ∙ last_of xs ys n

-- nothing that is put changes nothing
pub no_put : (slots : List ℕ) (at : ℕ) → with_words slots at [] ≡ slots
no_put slots at = ap (λ n. take at slots ++ drop n slots) (let e : at + 0 ≡ at = omega arith in e) ∙ take-append-drop at slots

pub gathered : {A : Type 0} (f : A → Option Variable) (P : Variable → Type 0) (xs : List A) → AllByRecursion (λ a. (v : Variable) → f a ≡ Some v → P v) xs → AllByRecursion P (filter_map f xs)
gathered f P [] all = tt
gathered f P (a ∷ xs) all = by_first (f a) refl (gathered f P xs all.1)
  where
    by_first : (o : Option Variable) → f a ≡ o → AllByRecursion P (filter_map f xs) → AllByRecursion P (cons_option o (filter_map f xs))
    by_first None is later = later
    by_first (Some v) is later = (all.0 v is, later)

-- ---- ids that have no slots

abbrev has_slot : Kind → Bool
has_slot k = takes k || gives_value k

-- An id is a variable's.
abbrev pub IsVariable : Module → Variable → Type 0
IsVariable m v = kind (defined_as m v.id) ≡ Holds v

module _ (m : Module) where
  -- None of the ids has a slot.
  abbrev pub NoSlots : Ids → Type 0
  NoSlots ids = (id : ℕ) (held : Held) → in_slots m ids id ≡ Some held → ⊥

  -- what a variable's id stands for has none
  variable_none : (ids : Ids) (v : Variable) (to held : Held) (id : ℕ) → IsVariable m v → in_slots m (give ids v.id to) id ≡ Some held → in_slots m ids id ≡ Some held
  variable_none ids v to held id is holds = by_slot (has_slot (kind (defined_as m id))) refl holds
    where
      by_same : (b : Bool) → (id == v.id) ≡ b → has_slot (kind (defined_as m id)) ≡ true → (if b then Some to else ids id) ≡ Some held → ids id ≡ Some held
      by_same true same slot holds = absurd (true≢false (sym slot ∙ ap (λ k. has_slot (kind (defined_as m k))) (eqb-true id v.id same) ∙ ap has_slot is))
      by_same false other slot holds = holds

      by_slot : (b : Bool) → has_slot (kind (defined_as m id)) ≡ b → (if b then (if id == v.id then Some to else ids id) else None) ≡ Some held → (if has_slot (kind (defined_as m id)) then ids id else None) ≡ Some held
      by_slot true slot holds = ap (λ b. if b then ids id else None) slot ∙ by_same (id == v.id) refl slot holds
      by_slot false slot holds = absurd (none-some held holds)

  pub no_constants : NoSlots (constant_held m)
  no_constants id held = by_kind (kind (defined_as m id))
    where
      by_kind : (k : Kind) → (if has_slot k then if_there (constant_in k) (Whole (constant m id)) else None) ≡ Some held → ⊥
      by_kind (Fixes type value) is = none-some held is
      by_kind _ is = none-some held is

  pub no_points : (ids : Ids) (number : ℕ) (vs : List Variable) → AllByRecursion (IsVariable m) vs → NoSlots ids → NoSlots (point_each ids number vs)
  no_points ids number [] all none = none
  no_points ids number (v ∷ vs) all none =
      no_points (give ids v.id (Points (InVariable number []))) (number + 1) vs all.1 (λ id held is. none id held (variable_none ids v (Points (InVariable number [])) held id all.0 is))

  pub no_blocks : (ids : Ids) (vs : List Variable) → AllByRecursion (IsVariable m) vs → NoSlots ids → NoSlots (point_blocks m ids vs)
  no_blocks ids [] all none = none
  no_blocks ids (v ∷ vs) all none =
      no_blocks (give ids v.id (Points (InBlock v.id 0 (pointee m v.type)))) vs all.1
      (λ id held is. none id held (variable_none ids v (Points (InBlock v.id 0 (pointee m v.type))) held id all.0 is))

  -- what is held stays held where variables are pointed to
  pub points_held : (words : Held → List ℕ) (at : ℕ → ℕ) (slots : List ℕ) (top : ℕ) (ids : Ids) (number : ℕ) (vs : List Variable) → AllByRecursion (IsVariable m) vs → HoldsIds words at slots top (in_slots m ids) → HoldsIds words at slots top (in_slots m (point_each ids number vs))
  points_held words at slots top ids number [] all holds = holds
  points_held words at slots top ids number (v ∷ vs) all holds =
      points_held words at slots top (give ids v.id (Points (InVariable number []))) (number + 1) vs all.1
      (record { each = λ id held is. holds.each id held (variable_none ids v (Points (InVariable number [])) held id all.0 is) })

  pub none_held : (words : Held → List ℕ) (at : ℕ → ℕ) (slots : List ℕ) (top : ℕ) (ids : Ids) → NoSlots ids → HoldsIds words at slots top (in_slots m ids)
  none_held words at slots top ids none = record { each = λ id held is. absurd (none id held is) }

  -- ---- arguments

  -- What is held has as many words as these types tell, one by one.
  abbrev pub AreCounted : (Held → List ℕ) → List ℕ → List Held → Type 0
  AreCounted words [] [] = Unit {0}
  AreCounted words [] (h ∷ held) = ⊥
  AreCounted words (type ∷ types) [] = ⊥
  AreCounted words (type ∷ types) (h ∷ held) = (length (words h) ≡ held_words m type) × AreCounted words types held

  pub counted_all : (words : Held → List ℕ) (types : List ℕ) (held : List Held) → AreCounted words types held → length (flat_map words held) ≡ sum_by (held_words m) types
  counted_all words [] [] are = refl
  counted_all words [] (h ∷ held) are = absurd are
  counted_all words (type ∷ types) [] are = absurd are
  counted_all words (type ∷ types) (h ∷ held) are =
      let later = counted_all words types held are.1 in let here = are.0 in let both = length-append (words h) (flat_map words held) in omega (arith, later, here, both, sum_by-cons (held_words m) type types)

  pub all_put : (words : Held → List ℕ) (base from : ℕ) (slots : List ℕ) (types parameters : List ℕ) (held : List Held) (ids : Ids) → InRow m from types parameters → AreCounted words types held → base + from + sum_by (held_words m) types ≤ length slots
      → HoldsIds words (λ id. base + place m id) slots (base + from) (in_slots m ids)
      → HoldsIds words (λ id. base + place m id) (with_words slots (base + from) (flat_map words held)) (base + (from + sum_by (held_words m) types)) (in_slots m (give_each ids parameters held))
  all_put words base from slots [] [] [] ids row are room holds =
      subst (λ s. HoldsIds words (λ id. base + place m id) s (base + (from + 0)) (in_slots m ids)) (sym (no_put slots (base + from)))
      (subst (λ n. HoldsIds words (λ id. base + place m id) slots n (in_slots m ids)) (omega arith) holds)
  all_put words base from slots [] [] (h ∷ held) ids row are room holds = absurd are
  all_put words base from slots [] (p ∷ parameters) held ids row are room holds = absurd row
  all_put words base from slots (type ∷ types) [] held ids row are room holds = absurd row
  all_put words base from slots (type ∷ types) (p ∷ parameters) [] ids row are room holds = absurd are
  all_put words base from slots (type ∷ types) (p ∷ parameters) (h ∷ held) ids row are room holds =
      let size = are.0 in
      let all = sum_by-cons (held_words m) type types in
      let fits : base + from + length (words h) ≤ length slots = omega (arith, size, room, all) in
      let now = with_words slots (base + from) (words h) in
      let long = length_with slots (words h) (base + from) fits in
      let top : base + from + length (words h) ≡ base + (from + held_words m type) = omega (arith, size) in
      let here : HoldsIds words (λ id. base + place m id) now (base + from + length (words h)) (in_slots m (give ids p h)) =
      give_slots m words (λ id. base + place m id) now (base + from + length (words h)) ids p h
      (given words (λ id. base + place m id) slots (base + from) (in_slots m ids) holds p h (ap (λ n. base + n) row.0) fits) in
      let later = all_put words base (from + held_words m type) now types parameters held (give ids p h) row.2 are.1 (omega (arith, long, room, all))
      (subst (λ n. HoldsIds words (λ id. base + place m id) now n (in_slots m (give ids p h))) top here) in
      let joined : with_words now (base + (from + held_words m type)) (flat_map words held) ≡ with_words slots (base + from) (words h ++ flat_map words held) =
      ap (λ n. with_words now n (flat_map words held)) (sym top) ∙ two_puts slots (words h) (flat_map words held) (base + from) fits in
      subst (λ s. HoldsIds words (λ id. base + place m id) s (base + (from + sum_by (held_words m) (type ∷ types))) (in_slots m (give_each (give ids p h) parameters held))) joined
      (subst (λ n. HoldsIds words (λ id. base + place m id) (with_words now (base + (from + held_words m type)) (flat_map words held)) n (in_slots m (give_each (give ids p h) parameters held))) (omega (arith, all)) later)
