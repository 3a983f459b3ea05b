-- V12: the blocks of a function are structured (SPIR-V 1.0, 2.11, and narrower).
use Rattle.std.specs.Prelude.{ℕ, ◌+◌, max, Bool, not, ◌==◌, ◌||◌, if◌then◌else◌, ◌≡◌, true, false, List, [], ◌∷◌, ◌++◌}
use Rattle.gsl_blocks.specs.declared.block.Merge.{Merge}
use Rattle.gsl_blocks.specs.declared.block.Merge.TheVariants.{Nothing, Selection, Loop}
use Rattle.gsl_blocks.specs.declared.block.End.{End}
use Rattle.gsl_blocks.specs.declared.block.End.TheVariants.{Branch, Conditional, Switch, Leave}
use Rattle.gsl_blocks.specs.declared.block.Block.{Block}
use Rattle.gsl_blocks.specs.declared.around.Around.{Around}
use Rattle.gsl_blocks.specs.declared.around.Due.{Due}
use Rattle.gsl_blocks.specs.Around.{may_end, may_turn, needs_run, in_arm, in_case, in_body, in_continue, outside}
use Rattle.gsl_blocks.specs.Targets.{firsts, all_differ, mentioned, lone_default, AreArms}

-- a block by its parts
abbrev pub block : ℕ → Merge → End → Block
block label merge end = record { label = label; merge = merge; end = end }

-- a run that has to come: its label, and what is around it
abbrev pub run : ℕ → Around → Due
run label around = record { label = label; around = around }

-- the arm of a selection before the runs that have to come behind it: nothing, or a run
abbrev pub arm : Around → ℕ → ℕ → List Due → List Due
arm c m label later = if needs_run c m label then run label (in_arm c m) ∷ later else later

-- the first label, or else this one
abbrev pub first_or : ℕ → List ℕ → ℕ
first_or label [] = label
first_or label (first ∷ more) = first

-- a run for each of these targets of a switch with the merge m, with the next target as its follow, and the last with this one
abbrev pub cases : Around → ℕ → ℕ → List ℕ → List Due → List Due
cases c m last [] later = later
cases c m last (label ∷ more) later = run label (in_case c m (first_or last more)) ∷ cases c m last more later

-- the runs behind the label of a loop: its body, its continue part, and what comes behind its merge
abbrev pub parts_of_loop : Around → ℕ → ℕ → ℕ → ℕ → List Due → List Due
parts_of_loop c label m k body later = run body (in_body c m k) ∷ run k (in_continue c label m) ∷ run m c ∷ later

-- the targets of a selection differ, where their arms are not nothing
abbrev pub may_fork : Around → ℕ → ℕ → ℕ → Bool
may_fork c m on_true on_false = not (on_true == on_false) || not (needs_run c m on_true)

-- `first` is the label of the function's first block.
module _ (first : ℕ) where
  mutual
    -- These blocks are a run with a label in what is around it, and so many constructs stand within each other down to its
    -- deepest, those around it counted.
    pub data IsRun : ℕ → Around → ℕ → List Block → Type 0 where
      -- (a) to its follow or an exit
      ends : {l : ℕ} {c : Around} (t : ℕ) → may_end c t ≡ true → IsRun l c c.depth (block l Nothing (Branch t) ∷ [])
      -- (a) out of the function
      leaves : {l : ℕ} {c : Around} → c.leaves ≡ true → IsRun l c c.depth (block l Nothing Leave ∷ [])
      -- (d) the last block of a continue part, back to the loop or behind it
      turns : {l : ℕ} {c : Around} (t f : ℕ) → may_turn c t f ≡ true → IsRun l c c.depth (block l Nothing (Conditional t f) ∷ [])
      -- (b) the arms, and what comes behind the merge
      selects : {l : ℕ} {c : Around} {n : ℕ} {bs : List Block} (m t f : ℕ) → may_fork c m t f ≡ true →
          AreRuns (arm c m t (arm c m f (run m c ∷ []))) n bs → IsRun l c (max (c.depth + 1) n) (block l (Selection m) (Conditional t f) ∷ bs)
      -- (c) the targets, and what comes behind the merge
      chooses : {l : ℕ} {c : Around} {n : ℕ} {bs : List Block} (m default : ℕ) (targets arms : List ℕ) → all_differ (firsts targets) ≡ true →
          AreArms (mentioned c m targets) (lone_default c m default targets) arms →
          AreRuns (cases c m m arms (run m c ∷ [])) n bs → IsRun l c (max (c.depth + 1) n) (block l (Selection m) (Switch default targets) ∷ bs)
      -- (d) the body, the continue part, and what comes behind the merge
      loops : {l : ℕ} {c : Around} {n : ℕ} {bs : List Block} (m k b : ℕ) → (l == first) ≡ false →
          AreRuns (parts_of_loop c l m k b []) n bs → IsRun l c (max (c.depth + 1) n) (block l (Loop m k) (Branch b) ∷ bs)
      -- (e) on to the next block
      goes : {l : ℕ} {c : Around} {n : ℕ} {bs : List Block} (t : ℕ) → may_end c t ≡ false → IsRun t c n bs → IsRun l c (max c.depth n) (block l Nothing (Branch t) ∷ bs)

    -- These blocks are runs one after the other.
    pub data AreRuns : List Due → ℕ → List Block → Type 0 where
      done : AreRuns [] 0 []
      more : {d : Due} {ds : List Due} {n k : ℕ} {xs ys : List Block} → IsRun d.label d.around n xs → AreRuns ds k ys → AreRuns (d ∷ ds) (max n k) (xs ++ ys)

-- The blocks of a function are one run with its first label, no follow and no exits, and so many constructs of them stand
-- within each other.
pub data IsOrdered : List Block → ℕ → Type 0 where
  ordered : {b : Block} {bs : List Block} {n : ℕ} → IsRun b.label b.label outside n (b ∷ bs) → IsOrdered (b ∷ bs) n
