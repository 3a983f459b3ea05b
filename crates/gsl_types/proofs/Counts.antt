-- Counts of leaves.
use Rattle.std.proofs.Common.{◌≡◌, ap, ◌∙◌, ℕ, ◌*◌, ◌≤◌, inl, inr, zero, suc, arith, min}
use Rattle.std.proofs.Math.Nat.{mul-le-mul_left, min-eq_left, min-eq_right, mul-zero, zero-mul}
use Rattle.std.proofs.lemmas.Bool.{cases_lt}
use Rattle.gsl_types.specs.Leaves.{leaves_of, counting}
use Rattle.gsl_types.specs.Structs.{numbered}
use Rattle.gsl_types.proofs.Layers.{over_array}
use Rattle.gsl_types.specs.declared.ty.Ty.{Ty}
use Rattle.gsl_types.specs.declared.ty.StructType.{StructType}
use Rattle.gsl_types.specs.declared.ty.Ty.TheVariants as ty
use Rattle.std.specs.Prelude.{List}

-- a product of a told count, told, is the product of the count, told
told_small : (c n : ℕ) → c ≤ 1099511627776 → min (min (min c 1099511627776 * n) 18446744073709551615) 1099511627776 ≡ min (n * c) 1099511627776
told_small c n small = ap (λ x. min (min (x * n) 18446744073709551615) 1099511627776) (min-eq_left small) ∙ omega arith

told_large : (c n : ℕ) → 1099511627776 ≤ c → 1 ≤ n → min (min (min c 1099511627776 * n) 18446744073709551615) 1099511627776 ≡ min (n * c) 1099511627776
told_large c n large some = ap (λ x. min (min (x * n) 18446744073709551615) 1099511627776) (min-eq_right large)
    ∙ omega (arith, mul-le-mul_left n large, some)

pub told_product : (c n : ℕ) → min (min (min c 1099511627776 * n) 18446744073709551615) 1099511627776 ≡ min (n * c) 1099511627776
told_product c zero = omega (arith, mul-zero (min c 1099511627776), zero-mul c)
told_product c (suc n) = elim (cases_lt 1099511627776 c) as (λ _. min (min (min c 1099511627776 * suc n) 18446744073709551615) 1099511627776 ≡ min (suc n * c) 1099511627776)
    [ inl large ↦ told_large c (suc n) (omega (arith, large)) (omega arith) | inr small ↦ told_small c (suc n) small ]

pub array_leaves : (structs : List StructType) (e : Ty) (n : ℕ) → leaves_of structs (ty.Array e n) ≡ n * leaves_of structs e
array_leaves structs e n = over_array counting (numbered counting structs) e n
