-- What chains of calls take.
use Rattle.std.proofs.Common.{◌≡◌, refl, ap, ◌∙◌, ℕ, zero, suc, ◌+◌, ◌<◌, ◌≤◌, Bool, true, false, ◌||◌, max, List, [], ◌∷◌, length, inl, inr, arith}
use Rattle.std.specs.Prelude.{◌==◌}
use Rattle.std.specs.List.{list_any}
use Rattle.std.proofs.lemmas.Bool.{cases_lt, eq-eqb, eqb-true, false≢true, or_left, or_right}
use Rattle.std.proofs.lemmas.List.Sums.{sum_by-cons}
use Rattle.gsl_words.specs.declared.module.Module.{Module}
use Rattle.gsl_valid.specs.Placed.{Placed}
use Rattle.gsl_frames.specs.declared.taken.Taken.{Taken}
use Rattle.gsl_frames.specs.Frames.{frame}
use Rattle.gsl_chains.specs.Chains.{AreChained, IsReached, body_of, calls_of, greatest, in_chains, taken_by_all}

-- what is among some is no greater than the greatest
among : (f : ℕ → ℕ) (ids : List ℕ) (id : ℕ) → list_any (λ other. other == id) ids ≡ true → f id ≤ greatest f ids
among f [] id is = absurd (false≢true is)
among f (other ∷ ids) id is = by_test (other == id) refl is (among f ids id)
  where
    by_test : (b : Bool) → (other == id) ≡ b → (b || list_any (λ other. other == id) ids) ≡ true → (list_any (λ other. other == id) ids ≡ true → f id ≤ greatest f ids) → f id ≤ max (f other) (greatest f ids)
    by_test true here is below = let same : f other ≡ f id = ap f (eqb-true other id here) in omega (arith, same)
    by_test false here is below = let later = below is in omega (arith, later)

-- The greatest is that of one of them.
record IsOne (f : ℕ → ℕ) (ids : List ℕ) : Type 0 where
  id : ℕ
  within : list_any (λ other. other == id) ids ≡ true
  is : f id ≡ greatest f ids

one_of : (f : ℕ → ℕ) (id : ℕ) (ids : List ℕ) → IsOne f (id ∷ ids)
one_of f id [] = record { id = id; within = or_left (id == id) false (eq-eqb id id refl); is = omega arith }
one_of f id (next ∷ ids) =
    let later = one_of f next ids in
    elim (cases_lt (f id) (greatest f (next ∷ ids))) [
      | inl less ↦ record { id = later.id; within = or_right (id == later.id) _ later.within; is = later.is ∙ omega (arith, less) }
      | inr more ↦ record { id = id; within = or_left (id == id) _ (eq-eqb id id refl); is = omega (arith, more) }
    ]

nothing : (m : Module) (of : Taken → ℕ) (ids : List ℕ) → greatest (λ k. in_chains m of zero (body_of m k)) ids ≡ 0
unfolding in_chains
nothing m of [] = refl
nothing m of (id ∷ ids) = let later = nothing m of ids in omega (arith, later)

module _ (m : Module) (of : Taken → ℕ) where
  pub room : (body : List Placed) (id more : ℕ) → list_any (λ other. other == id) (calls_of body) ≡ true → of (frame m body) + in_chains m of more (body_of m id) ≤ in_chains m of (suc more) body
  unfolding in_chains
  room body id more called = let one = among (λ k. in_chains m of more (body_of m k)) (calls_of body) id called in omega (arith, one)

  pub bounded : (body : List Placed) (bodies : List (List Placed)) (more : ℕ) → AreChained m body bodies → length bodies < more → taken_by_all m of bodies + of (frame m body) ≤ in_chains m of more body
  unfolding in_chains
  bounded body [] zero chained few = absurd (omega (arith, few))
  bounded body [] (suc more) chained few = omega arith
  bounded body (next ∷ bodies) zero chained few = absurd (omega (arith, few))
  bounded body (next ∷ bodies) (suc more) chained few =
      let later = bounded next bodies more chained.1 (omega (arith, few)) in
      let here = among (λ k. in_chains m of more (body_of m k)) (calls_of body) chained.0.id chained.0.called in
      let same : in_chains m of more next ≡ in_chains m of more (body_of m chained.0.id) = ap (in_chains m of more) chained.0.is in
      omega (arith, later, here, same, sum_by-cons (λ b. of (frame m b)) next bodies)

  pub reached : (body : List Placed) (more : ℕ) → IsReached m of body more
  unfolding in_chains
  reached body zero = record { bodies = []; chained = tt; few = omega arith; is = none (calls_of body) }
    where
      none : (ids : List ℕ) → 0 + of (frame m body) ≡ of (frame m body) + greatest (λ k. in_chains m of zero (body_of m k)) ids
      none ids = let no = nothing m of ids in omega (arith, no)
  reached body (suc more) = by_calls (calls_of body) refl (λ id. reached (body_of m id) more)
    where
      by_calls : (ids : List ℕ) → calls_of body ≡ ids → ((id : ℕ) → IsReached m of (body_of m id) more) → IsReached m of body (suc more)
      by_calls [] is later = record { bodies = []; chained = tt; few = omega arith; is = let no : greatest (λ k. in_chains m of (suc more) (body_of m k)) (calls_of body) ≡ 0 = ap (greatest (λ k. in_chains m of (suc more) (body_of m k))) is in omega (arith, no) }
      by_calls (id ∷ ids) is later =
          let one = one_of (λ k. in_chains m of (suc more) (body_of m k)) id ids in
          let next = later one.id in
          let most : greatest (λ k. in_chains m of (suc more) (body_of m k)) (calls_of body) ≡ greatest (λ k. in_chains m of (suc more) (body_of m k)) (id ∷ ids) = ap (greatest (λ k. in_chains m of (suc more) (body_of m k))) is in
          record {
            bodies = body_of m one.id ∷ next.bodies;
            chained = (record { id = one.id; called = ap (list_any (λ other. other == one.id)) is ∙ one.within; is = refl }, next.chained);
            few = let few = next.few in omega (arith, few);
            is = let so = next.is in let it = one.is in omega (arith, so, it, most, sum_by-cons (λ b. of (frame m b)) (body_of m one.id) next.bodies);
          }
