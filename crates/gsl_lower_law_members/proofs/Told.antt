-- What the words of scalars and vectors of a block tell.
use Rattle.std.proofs.Common.{◌≡◌, refl, sym, ap, ap₂, ◌∙◌, ℕ, suc, ◌≤◌, Bool, true, ◌&&◌, List, [], ◌∷◌, length, map, Option, Some, arith}
use Rattle.std.specs.Prelude.{nat_le, slice_index}
use Rattle.std.proofs.lemmas.Bool.{and_parts, leb-true}
use Rattle.gsl_types.specs.Known.{IsSound, sound, sound_kind}
use Rattle.gsl_types.specs.Structs.{layer, numbered}
use Rattle.gsl_types.specs.declared.ty.Scalar.{Scalar}
use Rattle.gsl_types.specs.declared.ty.StructType.{StructType}
use Rattle.gsl_types.specs.declared.ty.Ty.{Ty}
use Rattle.gsl_types.specs.declared.ty.Ty.TheFolds.{fold-roll-Ty, map-Ty}
use Rattle.gsl_types.specs.declared.ty.Ty.TheOpen.{Ty-F}
use Rattle.gsl_types.specs.declared.ty.Ty.TheViews.{out-Ty, roll-Ty, roll-out-Ty}
use Rattle.gsl_values.specs.declared.value.Value.{Value}
use Rattle.gsl_values.specs.declared.value.Value.TheVariants.{Word, Many, outs-Many, outs-Word}
use Rattle.gsl_tree.specs.Operations.{converted}
use Rattle.gsl_tree.specs.Shapes.{Shape, shape_kind, shape_of}
use Rattle.gsl_tree.specs.Values.{components_in, of_components, parts_in, parts_layer, word_layer}
use Rattle.gsl_meaning.specs.Accesses.{told, told_meaning, told_scalar}
use Rattle.gsl_lower_law.specs.Operands.{converted_value}
use Rattle.gsl_lower_law.specs.Values.{IsOf}
use Rattle.gsl_lower_law_constructors.proofs.Shares.{words_in}
use Rattle.gsl_lower_law_bytes.specs.OfLawPlaces.{chosen, picks_of}
use Rattle.gsl_lower_law_bytes.proofs.OfLawPlaces.{component_converted, mapped_length}

map_words : (s : Scalar) (ws : List ℕ) → map (told_scalar s) (map Word ws) ≡ map Word (map (converted s) ws)
map_words s [] = refl
map_words s (w ∷ ws) = ap₂ (λ a l. Word (converted s a) ∷ l) (ap word_layer (outs-Word w)) (map_words s ws)

some_shape : {a b : Shape} → Some a ≡ Some b → a ≡ b
some_shape e = cc

module _ (structs : List StructType) (t : Ty) (shape : Shape) (sound_t : IsSound (length structs) t) (of : shape_of t ≡ Some shape) where
  layer_is : (x : Ty-F Ty) → told structs (roll-Ty x) ≡ layer told_meaning (numbered told_meaning structs) (map-Ty _ _ (told structs) x)
  layer_is x = fold-roll-Ty (Value → Value) (layer told_meaning (numbered told_meaning structs)) x

  run_told : (ws : List ℕ) → length ws ≡ shape.1 → told structs t (of_components ws) ≡ of_components (map (converted shape.0) ws)
  run_told ws long = by (out-Ty t) (roll-out-Ty t) of
    where
      one_told : (s : Scalar) (ws : List ℕ) → length ws ≡ 1 → told_scalar s (of_components ws) ≡ of_components (map (converted s) ws)
      one_told s [] long = absurd (let z : 0 ≡ 1 = long in omega (arith, z))
      one_told s (w ∷ []) long = ap (λ n. Word (converted s n)) (ap word_layer (outs-Word w))
      one_told s (w ∷ next ∷ ws) long = absurd (let z : suc (suc (length ws)) ≡ 1 = long in omega (arith, z))

      many_told : (s : Scalar) (ws : List ℕ) → 2 ≤ length ws → Many (map (told_scalar s) (parts_in (of_components ws))) ≡ of_components (map (converted s) ws)
      many_told s [] many = absurd (let z : 2 ≤ 0 = many in omega (arith, z))
      many_told s (w ∷ []) many = absurd (let z : 2 ≤ 1 = many in omega (arith, z))
      many_told s (w ∷ next ∷ ws) many = ap (λ ps. Many (map (told_scalar s) ps)) (ap parts_layer (outs-Many (map Word (w ∷ next ∷ ws)))) ∙ ap Many (map_words s (w ∷ next ∷ ws))

      by : (x : Ty-F Ty) → roll-Ty x ≡ t → shape_kind x ≡ Some shape → told structs t (of_components ws) ≡ of_components (map (converted shape.0) ws)
      by Ty-F.Void e of = absurd cc
      by (Ty-F.One s) e of =
          let same : (s, 1) ≡ shape = some_shape of in
          ap (λ u. told structs u (of_components ws)) (sym e) ∙ ap (λ (f : Value → Value). f (of_components ws)) (layer_is (Ty-F.One s)) ∙ one_told s ws (long ∙ ap (λ (x : Shape). x.1) (sym same))
          ∙ ap (λ (x : Shape). of_components (map (converted x.0) ws)) same
      by (Ty-F.Vector s n) e of =
          let same : (s, n) ≡ shape = some_shape of in
          let both : (nat_le 2 n && nat_le n 4) ≡ true = sym (ap (sound (length structs)) (sym e) ∙ fold-roll-Ty Bool (sound_kind (length structs)) (Ty-F.Vector s n)) ∙ sound_t in
          let few : 2 ≤ n = leb-true 2 n (and_parts (nat_le 2 n) (nat_le n 4) both).0 in
          let many : length ws ≡ n = long ∙ ap (λ (x : Shape). x.1) (sym same) in
          ap (λ u. told structs u (of_components ws)) (sym e) ∙ ap (λ (f : Value → Value). f (of_components ws)) (layer_is (Ty-F.Vector s n)) ∙ many_told s ws (omega (arith, few, many))
          ∙ ap (λ (x : Shape). of_components (map (converted x.0) ws)) same
      by (Ty-F.Array inner n) e of = absurd cc
      by (Ty-F.Runtime inner) e of = absurd cc
      by (Ty-F.Struct number) e of = absurd cc

  pub whole_told : (s : Scalar) (v : Value) → IsOf (s, shape.1) v → told structs t v ≡ converted_value shape.0 v
  whole_told s v is = ap (told structs t) is.is ∙ run_told is.words is.count ∙ ap (λ ws. of_components (map (converted shape.0) ws)) (sym (words_in v is))

  pub picks_told : (v : Value) (by : Option ℕ) (positions : List ℕ) → length positions ≡ shape.1 → told structs t (picks_of v by positions) ≡ picks_of (converted_value shape.0 v) by positions
  picks_told v by positions long =
      run_told (map (λ position. slice_index (components_in v) (chosen by position)) positions) (mapped_length (λ position. slice_index (components_in v) (chosen by position)) positions ∙ long)
      ∙ ap of_components (each positions)
    where
      each : (positions : List ℕ) → map (converted shape.0) (map (λ position. slice_index (components_in v) (chosen by position)) positions) ≡ map (λ position. slice_index (components_in (converted_value shape.0 v)) (chosen by position)) positions
      each [] = refl
      each (position ∷ positions) = ap₂ (λ w ws. w ∷ ws) (sym (component_converted shape.0 v (chosen by position))) (each positions)
