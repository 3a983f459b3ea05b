-- The words of the laws in src/laws.rt.
use Rattle.std.specs.Prelude.{ℕ, ◌+◌, ◌<◌, ◌≡◌, ◌≢◌, ◌⊎◌, ℤ, pos, ◌+ℤ◌, ◌*ℤ◌, unsigned_abs, Bool, List, [], ◌∷◌, if◌then◌else◌}
use Rattle.std.specs.Int.{is_negative}
use Rattle.gsl_values.specs.declared.op.BinaryOp.{BinaryOp}
use Rattle.gsl_values.specs.Operators.{is_free}

-- r is smaller than y, and is 0 or has the sign of y
abbrev pub IsRest : ℤ → ℤ → Type 0
IsRest r y = (unsigned_abs r < unsigned_abs y) × ((r ≡ pos 0) ⊎ (is_negative r ≡ is_negative y))

-- The quotient q of x by y and the rest r give the dividend. Where x and y differ in sign and the rest is not 0, they give x + y,
-- since the quotient is rounded toward 0 and the rest has the sign of y.
abbrev pub GiveDividend : ℤ → ℤ → ℤ → ℤ → Type 0
GiveDividend x y q r = ((r ≡ pos 0) ⊎ (is_negative x ≡ is_negative y) → q *ℤ y +ℤ r ≡ x)
    × (r ≢ pos 0 → is_negative x ≢ is_negative y → q *ℤ y +ℤ r ≡ x +ℤ y)

-- how many components of two vectors are left open
abbrev pub draws : BinaryOp → Bool → List ℕ → List ℕ → ℕ
draws op signed [] ys = 0
draws op signed (x ∷ xs) [] = 0
draws op signed (x ∷ xs) (y ∷ ys) = (if is_free op signed x y then 1 else 0) + draws op signed xs ys
