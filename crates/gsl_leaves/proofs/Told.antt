-- Counts as they are told.
use Rattle.std.proofs.Common.{◌≡◌, refl, sym, ap, ◌∙◌, ℕ, zero, suc, ◌+◌, ◌*◌, ◌<◌, ◌≤◌, inl, inr, List, [], ◌∷◌, length, take, get_or, arith}
use Rattle.std.specs.Prelude.{min}
use Rattle.std.specs.List.{sum_by}
use Rattle.std.proofs.lemmas.List.Sums.{sum_by-cons, sum_by_more}
use Rattle.std.proofs.lemmas.Bool.{cases_lt}
use Rattle.std.proofs.Math.Nat.{mul-le-mul_left}
use Rattle.gsl_words.specs.declared.module.Module.{Module}
use Rattle.gsl_valid.specs.Kinds.{Shape, OfVoid, OfBool, OfInt, OfVector, OfArray, OfRuntimeArray, OfStruct, OfPointer, OfFunction, NoType}
use Rattle.gsl_machine.specs.Constants.{length_by}
use Rattle.gsl_leaves.specs.Leaves.{ahead_as, leaves_as}
use Rattle.gsl_leaves.specs.Table.{most, told}

pub sum_told : (a b : ℕ) → min (min (a + b) 18446744073709551615) 2305843009213693951 ≡ told (a + b)
unfolding told
sum_told a b = omega arith

pub product_told : (each count : ℕ) → min (min (each * count) 18446744073709551615) 2305843009213693951 ≡ told (count * each)
unfolding told
product_told each count = omega arith

-- what is told of a told count is what is told of the count
told_small : (n : ℕ) → n ≤ most → told n ≡ n
unfolding told
told_small n small = omega (arith, small)

told_large : (n : ℕ) → most ≤ n → told n ≡ most
unfolding told
told_large n large = omega (arith, large)

pub told_again : (n : ℕ) → told (told n) ≡ told n
unfolding told
told_again n = omega arith

pub told_sum : (a b : ℕ) → told (told a + told b) ≡ told (a + b)
unfolding told
told_sum a b = omega arith

pub told_behind : (a b : ℕ) → told (told a + b) ≡ told (a + b)
unfolding told
told_behind a b = omega arith

pub told_times : (count n : ℕ) → told (count * told n) ≡ told (count * n)
told_times zero n = ap told (omega arith)
told_times (suc count) n = elim (cases_lt n most) [
  | inl small ↦ ap (λ k. told (suc count * k)) (told_small n (omega (arith, small)))
  | inr large ↦ ap (λ k. told (suc count * k)) (told_large n large) ∙ told_large (suc count * most) (omega arith) ∙ sym (told_large (suc count * n) (omega (arith, large, mul-le-mul_left count large)))
]

pub told_total : (f : ℕ → ℕ) (types : List ℕ) → told (sum_by (λ id. told (f id)) types) ≡ told (sum_by f types)
told_total f [] = refl
told_total f (type ∷ types) =
    ap told (sum_by-cons (λ id. told (f id)) type types)
    ∙ sym (told_sum (told (f type)) (sum_by (λ id. told (f id)) types))
    ∙ ap (λ n. told (told (told (f type)) + n)) (told_total f types)
    ∙ ap (λ n. told (n + told (sum_by f types))) (told_again (f type))
    ∙ told_sum (f type) (sum_by f types)
    ∙ ap told (sym (sum_by-cons f type types))

-- one more of a sum that is told
pub total_more : (f : ℕ → ℕ) (types : List ℕ) (k all next one : ℕ) → k < length types → all ≡ told (sum_by f (take k types)) → one ≡ f (get_or types k 0) → next ≡ told (all + one) → next ≡ told (sum_by f (take (k + 1) types))
total_more f types k all next one below is at sum =
    sum ∙ ap (λ n. told (n + one)) is ∙ told_behind (sum_by f (take k types)) one ∙ ap (λ n. told (sum_by f (take k types) + n)) at ∙ ap told (sym (sum_by_more f types k 0 below))

-- what is told by counts that are told
pub leaves_told : (m : Module) (f : ℕ → ℕ) (s : Shape) → told (leaves_as m (λ id. told (f id)) s) ≡ told (leaves_as m f s)
leaves_told m f OfVoid = refl
leaves_told m f OfBool = refl
leaves_told m f (OfInt signedness) = refl
leaves_told m f (OfVector component count) = told_times count (f component)
leaves_told m f (OfArray element length) = told_times (length_by m length) (f element)
leaves_told m f (OfRuntimeArray element) = refl
leaves_told m f (OfStruct id members) = told_total f members
leaves_told m f (OfPointer class pointee) = refl
leaves_told m f (OfFunction returned parameters) = refl
leaves_told m f NoType = refl

pub ahead_told : (f : ℕ → ℕ) (number : ℕ) (s : Shape) → told (ahead_as (λ id. told (f id)) number s) ≡ told (ahead_as f number s)
ahead_told f number OfVoid = refl
ahead_told f number OfBool = refl
ahead_told f number (OfInt signedness) = refl
ahead_told f number (OfVector component count) = told_times number (f component)
ahead_told f number (OfArray element length) = told_times number (f element)
ahead_told f number (OfRuntimeArray element) = refl
ahead_told f number (OfStruct id members) = told_total f (take number members)
ahead_told f number (OfPointer class pointee) = refl
ahead_told f number (OfFunction returned parameters) = refl
ahead_told f number NoType = refl
