-- Leaves that are put into a part of a block.
use Rattle.std.proofs.Common.{◌≡◌, sym, ap, ◌∙◌, subst, ℕ, ◌+◌, ◌^◌, ◌<◌, ◌≤◌, true, List, [], ◌∷◌, ◌++◌, length, arith}
use Rattle.std.specs.List.{AllByRecursion}
use Rattle.gsl_layout.specs.Layout.{IsLayout, Layout, Leaf as Run, need}
use Rattle.gsl_values.specs.declared.value.Value.{Value}
use Rattle.gsl_tree.specs.Operations.{with_value_at}
use Rattle.gsl_tree.specs.Values.{of_components}
use Rattle.gsl_views.specs.Buffers.{put_words}
use Rattle.gsl_views.specs.Paths.{Leads}
use Rattle.gsl_views.specs.Seen.{seen}
use Rattle.gsl_meaning.specs.Blocks.{put_value, value_of}
use Rattle.gsl_lower_places.specs.Reached.{is_block_class}
use Rattle.gsl_lower_leaves.specs.declared.leaf.Leaf.{Leaf}
use Rattle.gsl_lower_law.specs.Values.{IsOf}
use Rattle.gsl_lower_law_leaves.specs.Equal.{HasLeaves, leaf_in}
use Rattle.gsl_lower_law_places.proofs.Lists.{words_length}
use Rattle.gsl_lower_law_bytes.proofs.Told.{AreSmall, bytes_told, small_words}
use Rattle.gsl_lower_law_views.proofs.Stored.{all_seen, put_twice}
use Rattle.gsl_lower_law_copies.specs.Copying.{Place, numbers_of, put_leaves}
use Rattle.gsl_lower_law_blocks.specs.Placing.{ArePlaced}
use Rattle.gsl_lower_law_blocks.proofs.Shown.{parts_shown}
use Rattle.gsl_lower_law_members.proofs.Laid.{leads_further}
use Rattle.gsl_lower_law_written.proofs.Words.{lying, lying_below, lying_many}
use Rattle.gsl_lower_law_spread.proofs.Within.{part_within, put_along}

module _ (class : ℕ) (block : is_block_class class ≡ true) (size : ℕ) (l part : Layout) (q : ℕ) (front given : List ℕ) (is : IsLayout l) (room : need l ≤ size) (as_given : length given ≡ size) (to : Leads size l 0 front part q) (v : Value) where
  -- Bytes are those that were given, with what is seen of them put.
  pub record AreTold (bytes : List ℕ) : Type 0 where
    pub long : length bytes ≡ size
    pub small : AreSmall bytes
    pub told : put_value l 0 (value_of (seen l 0 bytes)) given ≡ bytes

  abbrev Whole : List ℕ → Value
  Whole bytes = value_of (seen l 0 bytes)

  abbrev Part : List ℕ → Value
  Part bytes = value_of (seen part q bytes)

  pub inner : IsLayout part × (q + need part ≤ size)
  inner = part_within size l part 0 q front to is (omega (arith, room))

  -- ---- one leaf

  module _ (one : Leaf) (place : Place) (bytes : List ℕ) (told : AreTold bytes) (leads : Leads size part q (numbers_of one) (Run one.shape.1) place.offset) (some : 1 ≤ one.shape.1) (of : IsOf one.shape (leaf_in v one)) where
    abbrev words : List ℕ
    words = lying class block one.shape (leaf_in v one) of

    abbrev now : List ℕ
    now = put_words place.offset words bytes

    many : length words ≡ one.shape.1
    many = lying_many class block one.shape (leaf_in v one) of

    below : AllByRecursion (λ word. word < 2 ^ 32) words
    below = lying_below class block one.shape (leaf_in v one) of

    leads_here : Leads (length bytes) part q (numbers_of one) (Run one.shape.1) place.offset
    leads_here = subst (λ n. Leads n part q (numbers_of one) (Run one.shape.1) place.offset) (sym told.long) leads

    leads_there : Leads (length bytes) l 0 (front ++ numbers_of one) (Run one.shape.1) place.offset
    leads_there = subst (λ n. Leads n l 0 (front ++ numbers_of one) (Run one.shape.1) place.offset) (sym told.long) (leads_further size l part (Run one.shape.1) 0 q place.offset front (numbers_of one) to leads)

    whole_seen : Whole now ≡ with_value_at (Whole bytes) (front ++ numbers_of one) (of_components words)
    whole_seen = all_seen l 0 place.offset one.shape.1 (front ++ numbers_of one) is words bytes (let long = told.long in omega (arith, room, long)) leads_there some many below

    part_seen : Part now ≡ with_value_at (Part bytes) (numbers_of one) (of_components words)
    part_seen = all_seen part q place.offset one.shape.1 (numbers_of one) inner.0 words bytes (subst (λ n. q + need part ≤ n) (sym told.long) inner.1) leads_here some many below

    -- only the part differs
    leaf_seen : Whole now ≡ with_value_at (Whole bytes) front (Part now)
    leaf_seen =
        whole_seen ∙ put_along (Whole bytes) front (numbers_of one) (of_components words)
        ∙ ap (λ x. with_value_at (Whole bytes) front (with_value_at x (numbers_of one) (of_components words))) (parts_shown bytes l part 0 q front (subst (λ n. Leads n l 0 front part q) (sym told.long) to))
        ∙ ap (with_value_at (Whole bytes) front) (sym part_seen)

    leaf_told : AreTold now
    leaf_told = record {
      long = words_length place.offset words bytes ∙ told.long;
      small = small_words place.offset words bytes told.small;
      told = ap (λ x. put_value l 0 x given) whole_seen
          ∙ bytes_told l one.shape.1 place.offset (front ++ numbers_of one) words given bytes is (subst (λ n. need l ≤ n) (sym told.long) room) (as_given ∙ sym told.long) told.small told.told leads_there some many below;
    }

  -- ---- all

  pub leaves_told : (leaves : List Leaf) (places : List Place) (bytes : List ℕ) → AreTold bytes → ArePlaced size part q leaves places → HasLeaves v leaves → AreTold (put_leaves class v leaves places bytes)
  leaves_told [] [] bytes told placed has = told
  leaves_told [] (place ∷ places) bytes told placed has = absurd placed
  leaves_told (one ∷ more) [] bytes told placed has = absurd placed
  leaves_told (one ∷ more) (place ∷ places) bytes told placed has =
      leaves_told more places (now one place bytes told placed.0 has.0.0 has.0.1) (leaf_told one place bytes told placed.0 has.0.0 has.0.1) placed.1 has.1

  more_seen : (old : Value) (leaves : List Leaf) (places : List Place) (bytes : List ℕ) → AreTold bytes → Whole bytes ≡ with_value_at old front (Part bytes) → ArePlaced size part q leaves places → HasLeaves v leaves
      → Whole (put_leaves class v leaves places bytes) ≡ with_value_at old front (Part (put_leaves class v leaves places bytes))
  more_seen old [] [] bytes told before placed has = before
  more_seen old [] (place ∷ places) bytes told before placed has = absurd placed
  more_seen old (one ∷ more) [] bytes told before placed has = absurd placed
  more_seen old (one ∷ more) (place ∷ places) bytes told before placed has =
      more_seen old more places (now one place bytes told placed.0 has.0.0 has.0.1) (leaf_told one place bytes told placed.0 has.0.0 has.0.1)
      (leaf_seen one place bytes told placed.0 has.0.0 has.0.1
      ∙ ap (λ x. with_value_at x front (Part (now one place bytes told placed.0 has.0.0 has.0.1))) before ∙ put_twice old front (Part bytes) (Part (now one place bytes told placed.0 has.0.0 has.0.1)))
      placed.1 has.1

  -- what is seen behind at least one is the same but for the part
  pub leaves_seen : (leaves : List Leaf) (places : List Place) (bytes : List ℕ) → 1 ≤ length leaves → AreTold bytes → ArePlaced size part q leaves places → HasLeaves v leaves
      → Whole (put_leaves class v leaves places bytes) ≡ with_value_at (Whole bytes) front (Part (put_leaves class v leaves places bytes))
  leaves_seen [] places bytes some told placed has = absurd (let z : 1 ≤ 0 = some in omega (arith, z))
  leaves_seen (one ∷ more) [] bytes some told placed has = absurd placed
  leaves_seen (one ∷ more) (place ∷ places) bytes some told placed has =
      more_seen (Whole bytes) more places (now one place bytes told placed.0 has.0.0 has.0.1) (leaf_told one place bytes told placed.0 has.0.0 has.0.1) (leaf_seen one place bytes told placed.0 has.0.0 has.0.1) placed.1 has.1
