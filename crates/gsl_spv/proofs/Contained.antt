-- What stands among instructions.
use Rattle.std.proofs.Common.{◌≡◌, ℕ, zero, suc, List, [], ◌∷◌, ◌++◌, ◌⊎◌, inl, inr, sym, subst, refl, arith, slice_index_or, ◌<◌}
use Rattle.std.proofs.lemmas.List.Elements.{Contains-append_left, Contains-append_right, Contains-append_cases}
use Rattle.std.proofs.lemmas.List.Concat.{flat_map-cons}
use Rattle.std.specs.List.{flat_map, Contains}

pub nothing_in : {A : Type 0} (x : A) → Contains [] x → ⊥
nothing_in x h = omega (arith, h.1)

pub only_in : {A : Type 0} (x y : A) → Contains (x ∷ []) y → x ≡ y
only_in x y h = by h.0 h.1 h.2
  where
    by : (k : ℕ) → k < 1 → slice_index_or (x ∷ []) k y ≡ y → x ≡ y
    by zero less is = is
    by (suc k) less is = absurd (omega (arith, less))

pub first_in : {A : Type 0} (x : A) (xs : List A) → Contains (x ∷ xs) x
first_in x xs = (0, omega arith, refl)

from_flat_next : {X A : Type 0} (f : X → List A) (x : X) (xs : List X) (y : A) → (Contains (flat_map f xs) y → (z : X) × Contains xs z × Contains (f z) y)
    → Contains (f x) y ⊎ Contains (flat_map f xs) y → (z : X) × Contains (x ∷ xs) z × Contains (f z) y
from_flat_next f x xs y more (inl here) = (x, first_in x xs, here)
from_flat_next f x xs y more (inr later) = let p = more later in (p.0, Contains-append_right (x ∷ []) xs p.0 p.1, p.2)

-- what stands in one of the lists stands in all of them
pub from_flat : {X A : Type 0} (f : X → List A) (xs : List X) (y : A) → Contains (flat_map f xs) y → (x : X) × Contains xs x × Contains (f x) y
from_flat f [] y h = absurd (nothing_in y h)
from_flat f (x ∷ xs) y h =
    from_flat_next f x xs y (λ later. from_flat f xs y later) (Contains-append_cases (f x) (flat_map f xs) y (subst (λ l. Contains l y) (flat_map-cons f x xs) h))

into_flat_next : {X A : Type 0} (f : X → List A) (z : X) (xs : List X) (x : X) (y : A) → (Contains xs x → Contains (flat_map f xs) y) → Contains (f x) y
    → Contains (z ∷ []) x ⊎ Contains xs x → Contains (f z ++ flat_map f xs) y
into_flat_next f z xs x y more h (inl here) = Contains-append_left (f z) (flat_map f xs) y (subst (λ w. Contains (f w) y) (sym (only_in z x here)) h)
into_flat_next f z xs x y more h (inr later) = Contains-append_right (f z) (flat_map f xs) y (more later)

pub into_flat : {X A : Type 0} (f : X → List A) (xs : List X) (x : X) (y : A) → Contains xs x → Contains (f x) y → Contains (flat_map f xs) y
into_flat f [] x y among h = absurd (nothing_in x among)
into_flat f (z ∷ xs) x y among h =
    subst (λ l. Contains l y) (sym (flat_map-cons f z xs)) (into_flat_next f z xs x y (λ later. into_flat f xs x y later h) h (Contains-append_cases (z ∷ []) xs x among))
