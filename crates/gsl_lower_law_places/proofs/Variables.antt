-- Pointers into variables that hold values.
use Rattle.std.proofs.Common.{◌≡◌, refl, sym, ap, ◌∙◌, ℕ, zero, suc, ◌<◌, ◌≤◌, true, List, [], ◌∷◌, ◌++◌, length, map, Some, arith}
use Rattle.std.specs.Prelude.{nat_lt, slice_get, slice_index, slice_index_or}
use Rattle.std.proofs.lemmas.Bool.{cond-true, lt-ltb}
use Rattle.gsl_base.specs.declared.input.Input.{Input}
use Rattle.gsl_words.specs.declared.module.Module.{Module}
use Rattle.gsl_values.specs.declared.value.Value.{Value}
use Rattle.gsl_values.specs.declared.value.Value.TheVariants.{Word, outs-Many}
use Rattle.gsl_tree.specs.Operations.{member_value, value_at}
use Rattle.gsl_tree.specs.Shapes.{Shape}
use Rattle.gsl_tree.specs.Values.{components_in, of_components, parts_in, parts_layer}
use Rattle.gsl_lower_law_constructors.specs.OfMachine.{into_variable}
use Rattle.gsl_lower_law_constructors.specs.OfMachine.{InVariable, State, Strayed, on}
use Rattle.gsl_lower_law_constructors.specs.OfLaw.{IsOf}
use Rattle.gsl_lower_law_constructors.proofs.Shares.{words_in}
use Rattle.gsl_lower_law_places.specs.Components.{HoldsComponents}
use Rattle.gsl_lower_law_places.specs.Leading.{HoldsValue, LeadsTo}

-- one path behind another
pub value_on : (v : Value) (path more : List ℕ) → value_at v (path ++ more) ≡ value_at (value_at v path) more
value_on v [] more = refl
value_on v (number ∷ path) more = value_on (member_value v number) path more

-- the parts of a vector are its words
pub parts_are : (ws : List ℕ) → 2 ≤ length ws → parts_in (of_components ws) ≡ map Word ws
parts_are [] many = absurd (let z : 2 ≤ 0 = many in omega (arith, z))
parts_are (w ∷ []) many = absurd (let z : 2 ≤ 1 = many in omega (arith, z))
parts_are (w ∷ next ∷ ws) many = ap parts_layer (outs-Many (map Word (w ∷ next ∷ ws)))

pub words_long : (ws : List ℕ) → length (map Word ws) ≡ length ws
words_long [] = refl
words_long (w ∷ ws) = ap suc (words_long ws)

word_at_index : (ws : List ℕ) (k : ℕ) → k < length ws → slice_index_or (map Word ws) k (Word 0) ≡ Word (slice_index ws k)
word_at_index [] k less = absurd (let z : k < 0 = less in omega (arith, z))
word_at_index (w ∷ ws) zero less = refl
word_at_index (w ∷ ws) (suc k) less = word_at_index ws k (let z : suc k < suc (length ws) = less in omega (arith, z))

module _ (m : Module) (input : Input) (state : State) (number : ℕ) (path : List ℕ) (old v : Value) (shape : Shape) (there : slice_get state.variables number ≡ Some old) (at : value_at old path ≡ v) (is : IsOf shape v) where
  whole_held : HoldsValue m input state (InVariable number path) v
  whole_held go = ap (λ o. on o (λ v. go (value_at v path))) there ∙ ap go at

  vector_parts : 2 ≤ length (components_in v) → parts_in v ≡ map Word is.words
  vector_parts many = ap parts_in is.is ∙ parts_are is.words (omega (arith, many, ap length (words_in v is)))

  below_parts : (k : ℕ) → 2 ≤ length (components_in v) → k < length (components_in v) → nat_lt k (length (parts_in (value_at old path))) ≡ true
  below_parts k many less = lt-ltb k (length (parts_in (value_at old path))) (omega (arith, less, ap length (words_in v is), words_long is.words, ap length (vector_parts many), ap (λ w. length (parts_in w)) at))

  pub component_led : (k : ℕ) → 2 ≤ length (components_in v) → k < length (components_in v) → LeadsTo m input state (InVariable number path) (k ∷ []) (InVariable number (path ++ k ∷ []))
  component_led k many less place go =
      ap (λ o. on o (into_variable m input place number path k go)) there
      ∙ cond-true (nat_lt k (length (parts_in (value_at old path)))) (go (InVariable number (path ++ k ∷ []))) (Strayed place) (below_parts k many less)

  component_held : (k : ℕ) → 2 ≤ length (components_in v) → k < length (components_in v) → HoldsValue m input state (InVariable number (path ++ k ∷ [])) (Word (slice_index (components_in v) k))
  component_held k many less go =
      ap (λ o. on o (λ v. go (value_at v (path ++ k ∷ [])))) there
      ∙ ap go (value_on old path (k ∷ []) ∙ ap (λ w. member_value w k) at ∙ ap (λ ps. slice_index_or ps k (Word 0)) (vector_parts many)
      ∙ word_at_index is.words k (omega (arith, less, ap length (words_in v is))) ∙ ap (λ ws. Word (slice_index ws k)) (sym (words_in v is)))

  pub variable_components : HoldsComponents m input state (InVariable number path) v
  variable_components = record { all = whole_held; each = λ k many less. (InVariable number (path ++ k ∷ []), component_led k many less, component_held k many less) }
