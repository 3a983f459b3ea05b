-- Whose number a variable has in a function that is called.
use Rattle.std.proofs.Common.{◌≡◌, refl, sym, ap, ◌∙◌, subst, ℕ, zero, suc, ◌+◌, ◌<◌, ◌≤◌, Bool, true, false, if◌then◌else◌, List, [], ◌∷◌, length, Some, ◌⊎◌, inl, inr, arith}
use Rattle.std.specs.Prelude.{◌==◌, slice_get}
use Rattle.std.proofs.lemmas.Bool.{cond-true, eq-eqb, eqb-true}
use Rattle.std.proofs.lemmas.Option.{slice_get_within}
use Rattle.gsl_words.specs.declared.module.Module.{Module}
use Rattle.gsl_valid.specs.Kinds.{Variable}
use Rattle.gsl_valid.specs.Placed.{Placed}
use Rattle.gsl_machine.specs.Functions.{give_each, own_ids, parameters_of, variables_of}
use Rattle.gsl_machine.specs.Interfaces.{globals, value_variables}
use Rattle.gsl_machine.specs.State.{Held, Ids, InVariable, Points, give}
use Rattle.gsl_sound_ids.proofs.Globals.{PointsBelow}
use Rattle.gsl_lower_frames.specs.Calling.{ArePassed, PointsTo}
use Rattle.gsl_lower_frames.proofs.Numbers.{At, FoundAt, outer_position, points_to}

-- ---- what is passed

given_at : (ids : Ids) (parameters : List ℕ) (held : List Held) (id n : ℕ) → At (give_each ids parameters held id) n
    → At (ids id) n ⊎ ((k : ℕ) × (slice_get parameters k ≡ Some id) × PointsTo held k n)
given_at ids [] held id n is = inl is
given_at ids (p ∷ parameters) [] id n is = inl is
given_at ids (p ∷ parameters) (h ∷ held) id n is = elim (given_at (give ids p h) parameters held id n is) [
  | inl first ↦ by_same (id == p) refl first
  | inr later ↦ inr (suc later.0, later.1, later.2)
]
  where
    by_same : (b : Bool) → (id == p) ≡ b → At (if b then Some h else ids id) n → At (ids id) n ⊎ ((k : ℕ) × (slice_get (p ∷ parameters) k ≡ Some id) × PointsTo (h ∷ held) k n)
    by_same true same is = inr (0, ap Some (sym (eqb-true id p same)), is)
    by_same false differ is = inl is

abbrev AllPoint : ℕ → List Held → Type 0
AllPoint bound held = (k : ℕ) (it : Held) → slice_get held k ≡ Some it → PointsBelow bound (Some it)

pub given_stays : (ids : Ids) (parameters : List ℕ) (held : List Held) (bound id : ℕ) → AllPoint bound held → PointsBelow bound (ids id) → PointsBelow bound (give_each ids parameters held id)
given_stays ids [] held bound id all p = p
given_stays ids (q ∷ parameters) [] bound id all p = p
given_stays ids (q ∷ parameters) (h ∷ held) bound id all p = given_stays (give ids q h) parameters held bound id (λ k. all (suc k)) (by_same (id == q))
  where
    by_same : (b : Bool) → PointsBelow bound (if b then Some h else ids id)
    by_same true = all 0 h refl
    by_same false = p

pub given_points : (ids : Ids) (parameters : List ℕ) (held : List Held) (bound id k : ℕ) → AllPoint bound held → length held ≡ length parameters → slice_get parameters k ≡ Some id → PointsBelow bound (give_each ids parameters held id)
given_points ids [] held bound id zero all many is = absurd (cc)
given_points ids [] held bound id (suc k) all many is = absurd (cc)
given_points ids (q ∷ parameters) [] bound id k all many is = absurd (omega (arith, many))
given_points ids (q ∷ parameters) (h ∷ held) bound id zero all many is =
    let same : q ≡ id = cc in
    given_stays (give ids q h) parameters held bound id (λ k. all (suc k)) (subst (PointsBelow bound) (sym (cond-true (id == q) (Some h) (ids id) (eq-eqb id q (sym same)))) (all 0 h refl))
given_points ids (q ∷ parameters) (h ∷ held) bound id (suc k) all many is = given_points (give ids q h) parameters held bound id k (λ k. all (suc k)) (omega (arith, many)) is

-- ---- whose a number is

module _ (m : Module) (body : List Placed) (held : List Held) (count : ℕ) (passed : ArePassed m body held count) where
  -- An id has a number: as the module's variable, as a parameter, or as the function's variable.
  data Owner (id n : ℕ) : Type 0 where
    OfModule : (v : Variable) → slice_get (value_variables m) n ≡ Some v → v.id ≡ id → Owner id n
    OfCaller : (k : ℕ) → slice_get (parameters_of body) k ≡ Some id → PointsTo held k n → Owner id n
    OfFunction : FoundAt count (variables_of body) id n → Owner id n

  owner : (id n : ℕ) → At (own_ids (globals m) body held count id) n → Owner id n
  owner id n is = elim (points_to (give_each (globals m) (parameters_of body) held) count (variables_of body) id n is) [
    | inl before ↦ elim (given_at (globals m) (parameters_of body) held id n before) [
      | inl outside ↦ (let v = outer_position m id n outside in OfModule v.0 v.1 v.2)
      | inr given ↦ OfCaller given.0 given.1 given.2
    ]
    | inr found ↦ OfFunction found
  ]

  -- what is passed is neither the module's nor the function's
  between : (k n : ℕ) → PointsTo held k n → (length (value_variables m) ≤ n) × (n < count)
  between k n is =
      let p = passed.each k (Points (InVariable n [])) is in
      let same : n ≡ p.0 = cc in
      let low = p.2 in let high = p.3 in
      (omega (arith, same, low), omega (arith, same, high))

  owners_same : (a b n : ℕ) → Owner a n → Owner b n → a ≡ b
  owners_same a b n (OfModule v there same) (OfModule w here is) =
      let both : Some v ≡ Some w = sym there ∙ here in
      let e : v ≡ w = cc in sym same ∙ ap (λ x. x.id) e ∙ is
  owners_same a b n (OfModule v there same) (OfCaller k named points) =
      let low = slice_get_within (value_variables m) n v there in let high = (between k n points).0 in absurd (omega (arith, low, high))
  owners_same a b n (OfModule v there same) (OfFunction found) =
      let low = slice_get_within (value_variables m) n v there in let at = found.is in let room = passed.room in absurd (omega (arith, low, at, room))
  owners_same a b n (OfCaller k named points) (OfModule v there same) =
      let low = slice_get_within (value_variables m) n v there in let high = (between k n points).0 in absurd (omega (arith, low, high))
  owners_same a b n (OfCaller j first points) (OfCaller k second to) =
      let e : j ≡ k = passed.apart j k n points to in
      let both : Some a ≡ Some b = sym first ∙ ap (slice_get (parameters_of body)) e ∙ second in cc
  owners_same a b n (OfCaller k named points) (OfFunction found) = let at = found.is in let high = (between k n points).1 in absurd (omega (arith, at, high))
  owners_same a b n (OfFunction found) (OfModule v there same) =
      let low = slice_get_within (value_variables m) n v there in let at = found.is in let room = passed.room in absurd (omega (arith, low, at, room))
  owners_same a b n (OfFunction found) (OfCaller k named points) = let at = found.is in let high = (between k n points).1 in absurd (omega (arith, at, high))
  owners_same a b n (OfFunction found) (OfFunction other) =
      let first = found.is in let second = other.is in
      let e : found.place ≡ other.place = omega (arith, first, second) in
      let both : Some found.variable ≡ Some other.variable = sym found.there ∙ ap (slice_get (variables_of body)) e ∙ other.there in
      let v : found.variable ≡ other.variable = cc in sym found.same ∙ ap (λ x. x.id) v ∙ other.same

  pub same_owner : (a b n : ℕ) → At (own_ids (globals m) body held count a) n → At (own_ids (globals m) body held count b) n → a ≡ b
  same_owner a b n first second = owners_same a b n (owner a n first) (owner b n second)

  pub owned_below : (id n : ℕ) → At (own_ids (globals m) body held count id) n → n < count + length (variables_of body)
  owned_below id n is = by_owner (owner id n is)
    where
      by_owner : Owner id n → n < count + length (variables_of body)
      by_owner (OfModule v there same) = let low = slice_get_within (value_variables m) n v there in let room = passed.room in omega (arith, low, room)
      by_owner (OfCaller k named points) = let high = (between k n points).1 in omega (arith, high)
      by_owner (OfFunction found) =
          let at = found.is in let low = slice_get_within (variables_of body) found.place found.variable found.there in omega (arith, at, low)

  pub passed_point : (bound : ℕ) → count ≤ bound → AllPoint bound held
  passed_point bound room k it is =
      let p = passed.each k it is in
      let high = p.3 in record { number = p.0; is = ap Some p.1; below = omega (arith, room, high) }
