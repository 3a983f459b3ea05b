-- The words of values, part by part.
use Rattle.std.specs.Prelude.{ℕ, List, [], ◌∷◌}
use Rattle.std.specs.List.{flat_map}
use Rattle.gsl_values.specs.declared.value.Value.{Value}
use Rattle.gsl_values.specs.declared.value.Value.TheOpen.{Value-F}
use Rattle.gsl_values.specs.declared.value.Value.TheFolds.{fold-Value}

abbrev pub flat_layer : Value-F (List ℕ) → List ℕ
flat_layer (Value-F.Word word) = word ∷ []
flat_layer (Value-F.Many parts) = flat_map (λ words. words) parts

-- the words of a value: its word, or those of its parts in their order
unfoldable pub flat : Value → List ℕ
flat = fold-Value (List ℕ) flat_layer

-- the words of values in their order
abbrev pub flat_all : List Value → List ℕ
flat_all values = flat_map flat values
