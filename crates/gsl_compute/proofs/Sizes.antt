-- How many parts a value has.
use Rattle.std.proofs.Common.{◌≡◌, sym, ap, ◌∙◌, ℕ, zero, suc, ◌+◌, ◌<◌, ◌≤◌, List, [], ◌∷◌, map, slice_get, Some, Option, None, arith}
use Rattle.std.proofs.lemmas.Option.{none-some}
use Rattle.gsl_values.specs.declared.value.Value.{Value}
use Rattle.gsl_values.specs.declared.value.Value.TheVariants.{Many, rolls-Many}
use Rattle.gsl_values.specs.declared.value.Value.TheOpen.{Value-F}
use Rattle.gsl_values.specs.declared.value.Value.TheFolds.{fold-Value, fold-roll-Value}

abbrev total : List ℕ → ℕ
total [] = 0
total (n ∷ ns) = n + total ns

abbrev size_layer : Value-F ℕ → ℕ
size_layer (Value-F.Word word) = 1
size_layer (Value-F.Many sizes) = 1 + total sizes

unfoldable pub size : Value → ℕ
size = fold-Value ℕ size_layer

of_many : (xs : List Value) → size (Many xs) ≡ 1 + total (map size xs)
unfolding size
of_many xs = ap size (sym (rolls-Many xs)) ∙ fold-roll-Value ℕ size_layer (Value-F.Many xs)

abbrev value_or : Value → Option Value → Value
value_or d None = d
value_or d (Some v) = v

part_le : (xs : List Value) (k : ℕ) (x : Value) → slice_get xs k ≡ Some x → size x ≤ total (map size xs)
part_le [] k x found = let absent : ⊥ = none-some _ found in elim absent [ ]
part_le (y ∷ xs) zero x found = let e : size y ≡ size x = ap (λ z. size (value_or y z)) found in omega (arith, e)
part_le (y ∷ xs) (suc k) x found = let rest = part_le xs k x found in omega (arith, rest)

-- a part has fewer parts than the whole
pub part_smaller : (xs : List Value) (k : ℕ) (x whole : Value) → slice_get xs k ≡ Some x → whole ≡ Many xs → size x < size whole
part_smaller xs k x whole found is = let le = part_le xs k x found in let e : size whole ≡ 1 + total (map size xs) = ap size is ∙ of_many xs in omega (arith, le, e)
