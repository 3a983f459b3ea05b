-- Ids with types one by one.
use Rattle.std.proofs.Common.{◌≡◌, ◌≢◌, ℕ, Bool, true, false, ◌&&◌, List, [], ◌∷◌, length, refl, ap, ◌∙◌, arith}
use Rattle.gsl_valid.specs.ConstantRules.{have_each}

and_false : (b : Bool) → (b && false) ≡ false
and_false true = refl
and_false false = refl

-- as many ids as types
pub unequal : (has : ℕ → ℕ → Bool) (types ids : List ℕ) → length types ≢ length ids → have_each has types ids ≡ false
unequal has [] [] ne = absurd (ne refl)
unequal has [] (id ∷ ids) ne = refl
unequal has (type ∷ types) [] ne = refl
unequal has (type ∷ types) (id ∷ ids) ne =
    ap (λ b. has type id && b) (unequal has types ids (λ e. ne (let h : length (type ∷ types) ≡ length (id ∷ ids) = omega (arith, e) in h))) ∙ and_false (has type id)
