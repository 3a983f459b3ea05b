-- Ids that are new, one behind the other.
use Rattle.std.proofs.Common.{◌≡◌, refl, ap, ℕ, zero, suc, ◌<◌, ◌≤◌, List, [], ◌∷◌, slice_get, Some, arith}
use Rattle.gsl_lower_law_opening.specs.Opening.{AreNew}

pub none_new : (low high : ℕ) → low ≤ high → AreNew low high (slice_get [])
none_new low high less = record { rises = less; each = λ number id is. absurd (nothing number id is); apart = λ j k id is other. absurd (nothing j id is) }
  where
    nothing : (k id : ℕ) → slice_get [] k ≡ Some id → ⊥
    nothing zero id is = cc
    nothing (suc k) id is = cc

-- one more in front
pub one_new : (low between high id : ℕ) (ids : List ℕ) → low < id → id ≤ between → between ≤ high → AreNew between high (slice_get ids) → AreNew low high (slice_get (id ∷ ids))
one_new low between high id ids over under more rest = record { rises = omega (arith, over, under, more); each = each; apart = apart }
  where
    some : (a b : ℕ) → Some a ≡ Some b → a ≡ b
    some a b e = cc

    each : (number other : ℕ) → slice_get (id ∷ ids) number ≡ Some other → (low < other) × (other ≤ high)
    each zero other is = let e = some id other is in (omega (arith, over, e), omega (arith, under, more, e))
    each (suc number) other is = let w = rest.each number other is in (omega (arith, over, under, w.0), w.1)

    apart : (j k other : ℕ) → slice_get (id ∷ ids) j ≡ Some other → slice_get (id ∷ ids) k ≡ Some other → j ≡ k
    apart zero zero other a b = refl
    apart zero (suc k) other a b = absurd (let e = some id other a in let w = rest.each k other b in omega (arith, under, e, w.0))
    apart (suc j) zero other a b = absurd (let e = some id other b in let w = rest.each j other a in omega (arith, under, e, w.0))
    apart (suc j) (suc k) other a b = ap suc (rest.apart j k other a b)
