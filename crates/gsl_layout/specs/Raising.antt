-- Both rules raise alignments as rules do.
use Rattle.std.specs.Prelude.{◌≡◌, ℕ, ◌%◌, refl}
use Rattle.std.proofs.Common.{inl, inr, ap}
use Rattle.gsl_layout.specs.Rules.{IsAlignment, Raises, raise_std140, raise_std430}

multiple_of_itself : (align : ℕ) → IsAlignment align → align % align ≡ 0
multiple_of_itself align (inl is) = ap (λ n. n % n) is
multiple_of_itself align (inr (inl is)) = ap (λ n. n % n) is
multiple_of_itself align (inr (inr is)) = ap (λ n. n % n) is

divides_16 : (align : ℕ) → IsAlignment align → 16 % align ≡ 0
divides_16 align (inl is) = ap (λ n. 16 % n) is
divides_16 align (inr (inl is)) = ap (λ n. 16 % n) is
divides_16 align (inr (inr is)) = ap (λ n. 16 % n) is

pub std140_raises : (align : ℕ) → IsAlignment align → Raises raise_std140 align
std140_raises align is = record { alignment = inr (inr refl); multiple = divides_16 align is; again = refl }

pub std430_raises : (align : ℕ) → IsAlignment align → Raises raise_std430 align
std430_raises align is = record { alignment = is; multiple = multiple_of_itself align is; again = refl }
