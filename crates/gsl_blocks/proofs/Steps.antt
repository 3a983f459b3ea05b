-- Reading, block by block.
use Rattle.std.proofs.Common.{◌≡◌, ℕ, ◌∷◌, Bool, true, false, max, List, [], length, Option, Some, None, refl, ap, sym, subst, ◌∙◌, IsTrue}
use Rattle.std.specs.Prelude.{◌↔◌, MatchOption}
use Rattle.gsl_blocks.specs.declared.block.Block.{Block}
use Rattle.gsl_blocks.specs.declared.around.Due.{Due}
use Rattle.gsl_blocks.specs.Reading.{asks_on, depth_on, then_reads, reads, IsShallow}
use Rattle.gsl_blocks.proofs.Shallow.{stays_shallow}

module _ (ls : List ℕ) (first : ℕ) where
  -- a block that may stand here
  pub goes_on : (b : Block) (bs : List Block) (ds new : List Due) (k : ℕ) → asks_on ls first b ds ≡ Some new → reads ls first (b ∷ bs) ds k ≡ reads ls first bs new (max k (depth_on b ds))
  unfolding reads
  goes_on b bs ds new k e = ap (λ a. then_reads a (max k (depth_on b ds)) (reads ls first bs)) e

  -- one that may not
  pub stops : (b : Block) (bs : List Block) (ds : List Due) (k : ℕ) → asks_on ls first b ds ≡ None → reads ls first (b ∷ bs) ds k ≡ None
  unfolding reads
  stops b bs ds k e = ap (λ a. then_reads a (max k (depth_on b ds)) (reads ls first bs)) e

  -- at the end nothing is due
  pub ends : (ds : List Due) (k : ℕ) → ds ≡ [] → reads ls first [] ds k ≡ Some k
  unfolding reads
  ends [] k e = refl
  ends (d ∷ ds) k e = absurd cc

  -- or something is
  pub lacks : (ds : List Due) (k : ℕ) (empty : Bool) → (IsTrue empty ↔ (ds ≡ [])) → empty ≡ false → reads ls first [] ds k ≡ None
  unfolding reads
  lacks [] k true h e = absurd cc
  lacks [] k false h e = absurd (let t : false ≡ true = h.1 refl in cc)
  lacks (d ∷ ds) k empty h e = refl

  -- what is found of a block, and what is due behind it
  abbrev pub Tells : Block → List Due → List Due → Option ℕ → Type 0
  Tells b ds new found = MatchOption found (asks_on ls first b ds ≡ None) (λ n. (asks_on ls first b ds ≡ Some new) × (n ≡ depth_on b ds))

  pub read_on : (b : Block) (blocks bs : List Block) (ds new : List Due) (k depth deeper : ℕ) (found whole : Option ℕ) →
      Tells b ds new found → found ≡ Some depth → blocks ≡ b ∷ bs → deeper ≡ max k depth → (reads ls first blocks ds k ≡ whole) × IsShallow (length blocks) ds → (reads ls first bs new deeper ≡ whole) × IsShallow (length bs) new
  read_on b blocks bs ds new k depth deeper found whole tells is front e h =
      let p = subst (Tells b ds new) is tells in (
        ap (reads ls first bs new) (e ∙ ap (max k) p.1) ∙ sym (goes_on b bs ds new k p.0) ∙ ap (λ z. reads ls first z ds k) (sym front) ∙ h.0,
        stays_shallow ls first (length bs) b ds new p.0 (subst (λ z. IsShallow (length z) ds) front h.1),
      )

  pub read_none : (b : Block) (blocks bs : List Block) (ds new : List Due) (k : ℕ) (found whole : Option ℕ) →
      Tells b ds new found → found ≡ None → blocks ≡ b ∷ bs → reads ls first blocks ds k ≡ whole → None ≡ whole
  read_none b blocks bs ds new k found whole tells is front h =
      sym (stops b bs ds k (subst (Tells b ds new) is tells)) ∙ ap (λ z. reads ls first z ds k) (sym front) ∙ h
