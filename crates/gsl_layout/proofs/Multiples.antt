-- The least multiple of an alignment that is not below a place.
use Rattle.std.proofs.Common.{◌≡◌, ap, ◌∙◌, sym, ℕ, ◌+◌, ◌-◌, ◌*◌, ◌/◌, ◌<◌, ◌≤◌, ◌%◌, inl, inr, arith}
use Rattle.std.proofs.lemmas.Nat.{div-add-mod'}
use Rattle.std.proofs.lemmas.Nat.Gcd.{dvd_of_mod-eq-zero}
use Rattle.std.proofs.Math.Nat.{div-lt_iff_lt-mul, mod-lt, mod-mod_of_dvd, zero-mod, mul-le-mul_right, mul-mod_left}
use Rattle.gsl_layout.specs.Rules.{IsAlignment, least_multiple}
use Rattle.gsl_layout.specs.Layout.{IsWhole}

pub alignment_small : (align : ℕ) → IsAlignment align → (4 ≤ align) × (align ≤ 16)
alignment_small align (inl is) = (omega (arith, is), omega (arith, is))
alignment_small align (inr (inl is)) = (omega (arith, is), omega (arith, is))
alignment_small align (inr (inr is)) = (omega (arith, is), omega (arith, is))

pub alignment_whole : (align : ℕ) → IsAlignment align → IsWhole align
alignment_whole align (inl is) = omega (arith, is)
alignment_whole align (inr (inl is)) = omega (arith, is)
alignment_whole align (inr (inr is)) = omega (arith, is)

pub not_below : (align place : ℕ) → 1 ≤ align → place ≤ least_multiple align place
not_below align place some = omega (arith, div-add-mod' (place + (align - 1)) align, mod-lt (place + (align - 1)) some, some)

pub near : (align place : ℕ) → 1 ≤ align → least_multiple align place < place + align
near align place some = omega (arith, div-add-mod' (place + (align - 1)) align, some)

pub multiple_of_align : (align place : ℕ) → least_multiple align place % align ≡ 0
multiple_of_align align place = mul-mod_left ((place + (align - 1)) / align) align

pub least : (align place other : ℕ) → 1 ≤ align → other % align ≡ 0 → place ≤ other → least_multiple align place ≤ other
least align place other some multiple high =
    let whole : other / align * align ≡ other = omega (arith, div-add-mod' other align, multiple) in
    let below : place + (align - 1) < (other / align + 1) * align = omega (arith, whole, high, some) in
    let quotient : (place + (align - 1)) / align < other / align + 1 = (div-lt_iff_lt-mul some).1 below in
    omega (arith, whole, mul-le-mul_right align (let le : (place + (align - 1)) / align ≤ other / align = omega (arith, quotient) in le))

-- a multiple of a multiple is one
pub through : (n a b : ℕ) → n % a ≡ 0 → a % b ≡ 0 → 1 ≤ b → n % b ≡ 0
through n a b multiple of some = sym (mod-mod_of_dvd b n (dvd_of_mod-eq-zero b of)) ∙ ap (λ k. k % b) multiple ∙ zero-mod b
