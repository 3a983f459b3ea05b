-- Leaves that lie where a layout has them.
use Rattle.std.proofs.Common.{◌≡◌, refl, sym, ap, ◌∙◌, subst, ℕ, zero, suc, ◌+◌, ◌*◌, ◌^◌, ◌<◌, true, List, [], ◌∷◌, length, map, get_or, arith}
use Rattle.std.specs.Prelude.{if◌then◌else◌}
use Rattle.std.specs.List.{AllByRecursion, range_with_len}
use Rattle.std.proofs.lemmas.Bool.{lt-ltb}
use Rattle.std.proofs.lemmas.List.FromFn.{length-map-range_with_len}
use Rattle.gsl_base.specs.declared.input.Input.{Input}
use Rattle.gsl_layout.specs.Layout.{Layout, Leaf as Run}
use Rattle.gsl_types.specs.declared.ty.Scalar.{Scalar}
use Rattle.gsl_types.specs.declared.ty.Scalar.TheVariants.{Bool as Boolean, Int, Uint}
use Rattle.gsl_words.specs.Words.{word_at}
use Rattle.gsl_words.specs.declared.module.Module.{Module}
use Rattle.gsl_words.proofs.Bytes.{byte_small}
use Rattle.gsl_tree.specs.Shapes.{Shape}
use Rattle.gsl_tree.specs.Values.{is_word_of, of_components}
use Rattle.gsl_valid.specs.Types.{lanes_of}
use Rattle.gsl_views.specs.Paths.{Leads}
use Rattle.gsl_views.specs.Seen.{seen}
use Rattle.gsl_views.proofs.Words.{word_is}
use Rattle.gsl_meaning.specs.Blocks.{value_of}
use Rattle.gsl_machine.specs.State.{InBlock, Pointer}
use Rattle.gsl_owed.specs.Types.{lies}
use Rattle.gsl_lower_places.specs.Reached.{is_block_class, stored_scalar, stored_shape}
use Rattle.gsl_lower_places.specs.Reading.{number_in}
use Rattle.gsl_lower_places.specs.declared.reached.Part.TheVariants.{Fixed}
use Rattle.gsl_lower_leaves.specs.declared.leaf.Leaf.{Leaf}
use Rattle.gsl_lower_law.specs.Values.{AreWords, IsOf}
use Rattle.gsl_lower_law_copies.specs.Copying.{AreFixed, LeadsIn, LieEach, Place, ShowEach, numbers_of}
use Rattle.gsl_lower_law_blocks.specs.Placing.{ArePlaced}
use Rattle.gsl_lower_law_blocks.proofs.Laid.{joins, paths_lead, sized}
use Rattle.gsl_lower_law_blocks.proofs.Shown.{parts_shown}

-- known numbers are fixed
fixed_all : (numbers : List ℕ) → AreFixed (map Fixed numbers)
fixed_all [] = tt
fixed_all (number ∷ numbers) = fixed_all numbers

-- ---- words in bytes

word_small : (bytes : List ℕ) (at : ℕ) → AllByRecursion (λ byte. byte < 256) bytes → word_at bytes at < 2 ^ 32
word_small bytes at small =
    let a : get_or bytes at 0 < 256 = byte_small bytes small at in
    let b : get_or bytes (at + 1) 0 < 256 = byte_small bytes small (at + 1) in
    let c : get_or bytes (at + 2) 0 < 256 = byte_small bytes small (at + 2) in
    let d : get_or bytes (at + 3) 0 < 256 = byte_small bytes small (at + 3) in
    omega (arith, word_is bytes at, a, b, c, d)

word_lies : (s : Scalar) (w : ℕ) → w < 2 ^ 32 → is_word_of (stored_scalar s) w ≡ true
word_lies Boolean w small = lt-ltb w 4294967296 small
word_lies Int w small = lt-ltb w 4294967296 small
word_lies Uint w small = lt-ltb w 4294967296 small

words_lie : (s : Scalar) (bytes : List ℕ) (at a n : ℕ) → AllByRecursion (λ byte. byte < 256) bytes → AreWords (stored_scalar s) (map (λ k. word_at bytes (at + 4 * k)) (range_with_len a n))
words_lie s bytes at a zero small = tt
words_lie s bytes at a (suc n) small = (word_lies s (word_at bytes (at + 4 * a)) (word_small bytes (at + 4 * a) small), words_lie s bytes at (a + 1) n small)

-- the words of a run are a scalar or vector as it lies in a block
pub run_lies : (class : ℕ) (shape : Shape) (bytes : List ℕ) (at : ℕ) → is_block_class class ≡ true → AllByRecursion (λ byte. byte < 256) bytes → IsOf (stored_shape class shape) (of_components (map (λ k. word_at bytes (at + 4 * k)) (range_with_len 0 shape.1)))
run_lies class shape bytes at block small =
    subst (λ b. IsOf (if b then (stored_scalar shape.0, shape.1) else shape) (of_components (map (λ k. word_at bytes (at + 4 * k)) (range_with_len 0 shape.1)))) (sym block)
    (record { words = map (λ k. word_at bytes (at + 4 * k)) (range_with_len 0 shape.1); is = refl; count = length-map-range_with_len (λ k. word_at bytes (at + 4 * k)) 0 shape.1; fits = words_lie shape.0 bytes at 0 shape.1 small })

-- ---- leaves

module _ (m : Module) (input : Input) (variable size at type : ℕ) (from : Pointer) (words : List ℕ) (l : Layout) (lie : lies m l type ≡ true) (to : LeadsIn m input variable size from words (InBlock variable at type)) where
  -- The numbers of a leaf are known, and lead to a run.
  abbrev pub IsLaid : Leaf → Type 0
  IsLaid one = (offset : ℕ) × (one.path ≡ map Fixed (map number_in one.path)) × Leads size l at (map number_in one.path) (Run one.shape.1) offset

  -- Leaves lie at places, and are seen there through the layout.
  abbrev pub LieSeen : List Leaf → Type 0
  LieSeen leaves = (places : List Place) × LieEach m input variable size from words leaves places × ArePlaced size l at leaves places
      × ((class : ℕ) (bytes : List ℕ) → is_block_class class ≡ true → length bytes ≡ size → AllByRecursion (λ byte. byte < 256) bytes → ShowEach m class bytes (value_of (seen l at bytes)) leaves places)

  pub leaves_lie : (leaves : List Leaf) → AllByRecursion IsLaid leaves → LieSeen leaves
  leaves_lie [] all = ([], tt, tt, λ class bytes block long small. tt)
  leaves_lie (one ∷ more) all =
      let later = leaves_lie more all.1 in
      let so = paths_lead m input variable size l (Run one.shape.1) at type all.0.0 (map number_in one.path) lie all.0.2 in (
        record { offset = all.0.0; pointee = so.0 } ∷ later.0,
        (record { fixed = subst AreFixed (sym all.0.1) (fixed_all (map number_in one.path)); leads = joins m input variable size from (InBlock variable at type) (InBlock variable all.0.0 so.0) words (numbers_of one) to so.2 }, later.1),
        (all.0.2, later.2),
        λ class bytes block long small.
            let value = parts_shown bytes l (Run one.shape.1) at all.0.0 (map number_in one.path) (subst (λ n. Leads n l at (map number_in one.path) (Run one.shape.1) all.0.0) (sym long) all.0.2) in (
              (
                value ∙ ap (λ n. of_components (map (λ k. word_at bytes (all.0.0 + 4 * k)) (range_with_len 0 n))) (sym (sized m one.shape.1 (lanes_of m so.0) so.1)),
                subst (IsOf (stored_shape class one.shape)) (sym value) (run_lies class one.shape bytes all.0.0 block small),
              ),
              later.3 class bytes block long small,
            ),
      )
