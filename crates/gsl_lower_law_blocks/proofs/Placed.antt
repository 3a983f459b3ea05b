-- Leaves that are put into bytes, as they are seen then.
use Rattle.std.proofs.Common.{◌≡◌, refl, sym, ap, ◌∙◌, subst, ℕ, ◌+◌, ◌^◌, ◌<◌, ◌≤◌, true, List, [], ◌∷◌, length, map, arith}
use Rattle.std.specs.List.{AllByRecursion}
use Rattle.std.proofs.lemmas.Bool.{ltb-true}
use Rattle.gsl_layout.specs.Layout.{IsLayout, Layout, Leaf as Run, need}
use Rattle.gsl_types.specs.declared.ty.Scalar.{Scalar}
use Rattle.gsl_types.specs.declared.ty.Scalar.TheVariants.{Bool as Boolean, Int, Uint}
use Rattle.gsl_values.specs.declared.value.Value.{Value}
use Rattle.gsl_tree.specs.Operations.{converted, with_value_at}
use Rattle.gsl_tree.specs.Values.{components_in, is_word_of, of_components}
use Rattle.gsl_views.specs.Buffers.{put_words}
use Rattle.gsl_views.specs.Paths.{Leads}
use Rattle.gsl_views.specs.Seen.{seen}
use Rattle.gsl_meaning.specs.Blocks.{value_of}
use Rattle.gsl_lower_places.specs.Reached.{stored_shape}
use Rattle.gsl_lower_leaves.specs.declared.leaf.Leaf.{Leaf}
use Rattle.gsl_lower_law.specs.Operands.{converted_value}
use Rattle.gsl_lower_law.specs.Values.{AreWords, IsOf}
use Rattle.gsl_lower_law.proofs.Components.{components_of}
use Rattle.gsl_lower_law_constructors.proofs.Shares.{words_in}
use Rattle.gsl_lower_law_copies.specs.OfLawLeaves.{HasLeaves, leaf_in}
use Rattle.gsl_lower_law_places.proofs.Each.{converted_of}
use Rattle.gsl_lower_law_views.proofs.Stored.{all_seen}
use Rattle.gsl_lower_law_copies.specs.Copying.{Place, numbers_of, put_leaves}
use Rattle.gsl_lower_law_places.proofs.Lists.{words_length}
use Rattle.gsl_lower_law_blocks.specs.Placing.{ArePlaced, with_leaves}

word_small : (s : Scalar) (w : ℕ) → is_word_of s w ≡ true → w < 2 ^ 32
word_small Boolean w is = let less : w < 2 = ltb-true w 2 is in omega (arith, less)
word_small Int w is = ltb-true w 4294967296 is
word_small Uint w is = ltb-true w 4294967296 is

words_small : (s : Scalar) (ws : List ℕ) → AreWords s ws → AllByRecursion (λ word. word < 2 ^ 32) ws
words_small s [] fits = tt
words_small s (w ∷ ws) fits = (word_small s w fits.0, words_small s ws fits.1)

module _ (class size at : ℕ) (l : Layout) (v : Value) (is : IsLayout l) where
  -- one leaf
  leaf_seen : (one : Leaf) (place : Place) (bytes : List ℕ) → at + need l ≤ length bytes → Leads (length bytes) l at (numbers_of one) (Run one.shape.1) place.offset → 1 ≤ one.shape.1 → IsOf one.shape (leaf_in v one)
      → value_of (seen l at (put_words place.offset (components_in (converted_value (stored_shape class one.shape).0 (leaf_in v one))) bytes)) ≡ with_value_at (value_of (seen l at bytes)) (numbers_of one) (converted_value (stored_shape class one.shape).0 (leaf_in v one))
  leaf_seen one place bytes fits leads some is_leaf =
      let lies = converted_of one.shape.0 (stored_shape class one.shape).0 one.shape.1 (leaf_in v one) is_leaf in
      let words = words_in (converted_value (stored_shape class one.shape).0 (leaf_in v one)) lies in
      all_seen l at place.offset one.shape.1 (numbers_of one) is (components_in (converted_value (stored_shape class one.shape).0 (leaf_in v one))) bytes fits leads some (ap length words ∙ lies.count)
      (words_small (stored_shape class one.shape).0 (components_in (converted_value (stored_shape class one.shape).0 (leaf_in v one))) (subst (AreWords (stored_shape class one.shape).0) (sym words) lies.fits))
      ∙ ap (λ ws. with_value_at (value_of (seen l at bytes)) (numbers_of one) (of_components ws)) (components_of (map (converted (stored_shape class one.shape).0) (components_in (leaf_in v one))))

  pub leaves_seen : (leaves : List Leaf) (places : List Place) (bytes : List ℕ) → length bytes ≡ size → at + need l ≤ size → ArePlaced size l at leaves places → HasLeaves v leaves → value_of (seen l at (put_leaves class v leaves places bytes)) ≡ with_leaves class (value_of (seen l at bytes)) v leaves
  leaves_seen [] [] bytes long fits placed has = refl
  leaves_seen [] (place ∷ places) bytes long fits placed has = absurd placed
  leaves_seen (one ∷ more) [] bytes long fits placed has = absurd placed
  leaves_seen (one ∷ more) (place ∷ places) bytes long fits placed has =
      leaves_seen more places (put_words place.offset (components_in (converted_value (stored_shape class one.shape).0 (leaf_in v one))) bytes) (words_length place.offset (components_in (converted_value (stored_shape class one.shape).0 (leaf_in v one))) bytes ∙ long) fits placed.1 has.1
      ∙ ap (λ old. with_leaves class old v more)
      (leaf_seen one place bytes (omega (arith, fits, long)) (subst (λ n. Leads n l at (numbers_of one) (Run one.shape.1) place.offset) (sym long) placed.0) has.0.0 has.0.1)
