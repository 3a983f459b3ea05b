-- Operands that serve.
use Rattle.std.proofs.Common.{◌≡◌, refl, ap, ◌∙◌, subst, ℕ, zero, suc, ◌+◌, ◌<◌, ◌≤◌, Bool, true, false, ◌||◌, List, [], ◌∷◌, map, length, take, Some, arith, inl, inr, ◌⊎◌}
use Rattle.std.specs.Prelude.{◌==◌, nat_le, slice_get}
use Rattle.std.specs.List.{AllByRecursion, list_all}
use Rattle.std.proofs.lemmas.Bool.{and_from, and_parts, eq-eqb, eqb-true, le-leb, leb-true, or_left, or_right}
use Rattle.gsl_words.specs.declared.module.Module.{Module}
use Rattle.gsl_values.specs.declared.function.Builtin.{Builtin}
use Rattle.gsl_tree.specs.Operations.{builtin_each}
use Rattle.gsl_region.specs.Showing.{with_words}
use Rattle.gsl_leaves.specs.Leaves.{leaves}
use Rattle.gsl_leaves.specs.Table.{most, told}
use Rattle.gsl_lanes.specs.Operands.{Serve, words_at}
use Rattle.gsl_lanes.specs.declared.functions.Operand.{Operand}
use Rattle.gsl_step.specs.declared.machine.Machine.{Machine}
use Rattle.gsl_step_values.specs.Values.{HasRoomFor, Part, Serves, Stands, all_words, from, operand, serves, to, words}
use Rattle.gsl_step_values.proofs.Two.{told_low}

stands_is : (o : Operand) (at count : ℕ) → serves at count o ≡ true → Stands o at count
stands_is o at count is =
    let parts = and_parts (nat_le (o.place + o.count) at) (o.count == 1 || o.count == count) is in
    (leb-true (o.place + o.count) at parts.0, by_one (o.count == 1) (eqb-true o.count 1) parts.1)
  where
    by_one : (b : Bool) → (b ≡ true → o.count ≡ 1) → (b || o.count == count) ≡ true → (o.count ≡ 1) ⊎ (o.count ≡ count)
    by_one true one is = inl (one refl)
    by_one false one is = inr (eqb-true o.count count is)

pub is_stands : (o : Operand) (at count : ℕ) → Stands o at count → serves at count o ≡ true
is_stands o at count stands = and_from (nat_le (o.place + o.count) at) (o.count == 1 || o.count == count) (le-leb (o.place + o.count) at stands.0) (elim stands.1 [
  | inl one ↦ or_left (o.count == 1) (o.count == count) (eq-eqb o.count 1 one)
  | inr all ↦ or_right (o.count == 1) (o.count == count) (eq-eqb o.count count all)
])

-- operands that pass the test serve
pub serve_each : (parts : List Operand) (at count : ℕ) → list_all (serves at count) parts ≡ true → Serve parts at count
serve_each [] at count all i o is = absurd (cc)
serve_each (part ∷ parts) at count all zero o is =
    subst (λ x. Stands x at count) (let same : part ≡ o = cc in same) (stands_is part at count (and_parts (serves at count part) (list_all (serves at count) parts) all).0)
serve_each (part ∷ parts) at count all (suc i) o is = serve_each parts at count (and_parts (serves at count part) (list_all (serves at count) parts) all).1 i o is

-- and those that serve pass it
pub all_serve : (m : Module) (now : Machine) (id count : ℕ) (parts : List Part) → AllByRecursion (Serves m now id count) parts → list_all (serves (to m now id) count) (map (operand m now) parts) ≡ true
all_serve m now id count [] all = refl
all_serve m now id count (part ∷ parts) all =
    and_from (serves (to m now id) count (operand m now part)) (list_all (serves (to m now id) count) (map (operand m now) parts)) (is_stands (operand m now part) (to m now id) count all.0.1) (all_serve m now id count parts all.1)

words_same : (m : Module) (now : Machine) (parts : List Part) → map (words_at now.slots) (map (operand m now) parts) ≡ all_words m now parts
words_same m now [] = refl
words_same m now (part ∷ parts) = ap (λ l. words m now part.0 part.1 ∷ l) (words_same m now parts)

module _ (m : Module) (now : Machine) (id type : ℕ) (parts : List Part) (fits : HasRoomFor m now id (leaves m type) parts) where
  -- what is told is so
  pub count_is : (count : ℕ) → count ≡ told (leaves m type) → count ≡ leaves m type
  count_is count told_is = let room = fits.room in let places = fits.places in told_is ∙ told_low (leaves m type) (omega (arith, room, places))

  pub place_is : (at : ℕ) → (to m now id ≤ most → at ≡ to m now id) → at ≡ to m now id
  place_is at is = let room = fits.room in let places = fits.places in is (omega (arith, room, places))

  pub operand_is : (part : Part) (o : Operand) (count : ℕ) → Serves m now id (leaves m type) part → count ≡ part.1 → (part.0 < m.bound → from m now part.0 ≤ most → o ≡ record { place = from m now part.0; count = count }) → o ≡ operand m now part
  operand_is part o count serve size is =
      let below = serve.1.0 in
      let room = fits.room in
      let places = fits.places in
      is serve.0 (omega (arith, below, room, places)) ∙ ap (λ n. record { place = from m now part.0; count = n }) size

  module _ (at count : ℕ) (counted : count ≡ leaves m type) (place : at ≡ to m now id) (os : List Operand) (are : os ≡ map (operand m now) parts) where
    pub serve_there : list_all (serves at count) os ≡ true
    serve_there =
        ap (λ l. list_all (serves at count) l) are ∙ ap (λ n. list_all (serves n count) (map (operand m now) parts)) place ∙ ap (λ n. list_all (serves (to m now id) n) (map (operand m now) parts)) counted
        ∙ all_serve m now id (leaves m type) parts fits.serve

    pub room_there : at + count ≤ length now.slots
    room_there = let room = fits.room in omega (arith, room, counted, place)

    pub given_same : (which : Builtin) (signed : Bool) (choices : List ℕ) → builtin_each which signed (map (words_at now.slots) os) count 0 choices ≡ builtin_each which signed (all_words m now parts) (leaves m type) 0 choices
    given_same which signed choices =
        ap (λ l. builtin_each which signed (map (words_at now.slots) l) count 0 choices) are ∙ ap (λ l. builtin_each which signed l count 0 choices) (words_same m now parts)
        ∙ ap (λ n. builtin_each which signed (all_words m now parts) n 0 choices) counted

    pub slots_same : (choices slots : List ℕ) (which : Builtin) (signed : Bool) → slots ≡ with_words now.slots at (builtin_each which signed (map (words_at now.slots) os) count 0 choices).0
        → slots ≡ with_words now.slots (to m now id) (builtin_each which signed (all_words m now parts) (leaves m type) 0 choices).0
    slots_same choices slots which signed is =
        is ∙ ap (λ n. with_words now.slots n (builtin_each which signed (map (words_at now.slots) os) count 0 choices).0) place ∙ ap (λ (g : List ℕ × List ℕ). with_words now.slots (to m now id) g.0) (given_same which signed choices)

-- up to three operands are those of as many ids
pub first_three : (m : Module) (now : Machine) (n : ℕ) (ids : List ℕ) (a b c : Operand) → length ids ≤ 3 → ((id : ℕ) → slice_get ids 0 ≡ Some id → a ≡ operand m now (id, n)) → ((id : ℕ) → slice_get ids 1 ≡ Some id → b ≡ operand m now (id, n))
    → ((id : ℕ) → slice_get ids 2 ≡ Some id → c ≡ operand m now (id, n)) → take (length ids) (a ∷ b ∷ c ∷ []) ≡ map (operand m now) (map (λ id. (id, n)) ids)
first_three m now n [] a b c few x y z = refl
first_three m now n (i ∷ []) a b c few x y z = ap (λ o. o ∷ []) (x i refl)
first_three m now n (i ∷ j ∷ []) a b c few x y z = ap (λ o. o ∷ b ∷ []) (x i refl) ∙ ap (λ o. operand m now (i, n) ∷ o ∷ []) (y j refl)
first_three m now n (i ∷ j ∷ k ∷ []) a b c few x y z =
    ap (λ o. o ∷ b ∷ c ∷ []) (x i refl) ∙ ap (λ o. operand m now (i, n) ∷ o ∷ c ∷ []) (y j refl) ∙ ap (λ o. operand m now (i, n) ∷ operand m now (j, n) ∷ o ∷ []) (z k refl)
first_three m now n (i ∷ j ∷ k ∷ l ∷ ids) a b c few x y z = absurd (omega (arith, few))

-- each of some operands serves
pub serve_nth : (m : Module) (now : Machine) (id count n : ℕ) (ids : List ℕ) (k other : ℕ) → AllByRecursion (Serves m now id count) (map (λ id. (id, n)) ids) → slice_get ids k ≡ Some other → Serves m now id count (other, n)
serve_nth m now id count n [] k other all is = absurd (cc)
serve_nth m now id count n (i ∷ ids) zero other all is = subst (λ x. Serves m now id count (x, n)) (let same : i ≡ other = cc in same) all.0
serve_nth m now id count n (i ∷ ids) (suc k) other all is = serve_nth m now id count n ids k other all.1 is
