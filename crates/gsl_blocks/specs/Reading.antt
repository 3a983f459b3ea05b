-- The order of blocks, read block by block over a stack of the runs that are due: the end of a block decides its case.
use Rattle.std.specs.Prelude.{ℕ, ◌+◌, ◌^◌, ◌<◌, max, Bool, true, false, ◌==◌, nat_lt, nat_eq, if◌then◌else◌, List, [], ◌∷◌, position, Option, Some, None}
use Rattle.std.specs.List.{AllByRecursion}
use Rattle.gsl_blocks.specs.declared.block.Merge.{Merge}
use Rattle.gsl_blocks.specs.declared.block.Merge.TheVariants.{Nothing, Selection, Loop}
use Rattle.gsl_blocks.specs.declared.block.End.{End}
use Rattle.gsl_blocks.specs.declared.block.End.TheVariants.{Branch, Conditional, Switch, Leave}
use Rattle.gsl_blocks.specs.declared.block.Block.{Block}
use Rattle.gsl_blocks.specs.declared.around.Around.{Around}
use Rattle.gsl_blocks.specs.declared.around.Due.{Due}
use Rattle.gsl_blocks.specs.Around.{may_end, may_turn, outside}
use Rattle.gsl_blocks.specs.Blocks.{labels}
use Rattle.gsl_blocks.specs.Order.{run, arm, cases, parts_of_loop, may_fork}
use Rattle.gsl_blocks.specs.Targets.{firsts, all_differ, once, mentioned, lone_default}

-- whether one place is before another, where there is one
abbrev pub is_earlier : Option ℕ → Option ℕ → Bool
is_earlier None place = false
is_earlier (Some i) None = true
is_earlier (Some i) (Some j) = nat_lt i j

-- whether one label stands before another among these
abbrev pub stands_before : List ℕ → ℕ → ℕ → Bool
stands_before ls a b = is_earlier (position (nat_eq a) ls) (position (nat_eq b) ls)

-- targets with the default before the first of them that stands behind it
abbrev pub put_in : List ℕ → Option ℕ → List ℕ → List ℕ
put_in ls None targets = targets
put_in ls (Some default) [] = default ∷ []
put_in ls (Some default) (t ∷ targets) = if stands_before ls default t then default ∷ t ∷ targets else t ∷ put_in ls (Some default) targets

-- the targets of a switch that have runs, in the order of their runs, where these are the function's labels
abbrev pub arms_of : List ℕ → Around → ℕ → ℕ → List ℕ → List ℕ
arms_of ls c m default targets = put_in ls (lone_default c m default targets) (mentioned c m targets)

-- how many constructs stand within each other at a block
abbrev pub depth_at : Around → Merge → ℕ
depth_at c Nothing = c.depth
depth_at c (Selection m) = c.depth + 1
depth_at c (Loop m k) = c.depth + 1

-- how many at a block that is read at the top of the runs that are due
abbrev pub depth_on : Block → List Due → ℕ
depth_on b [] = 0
depth_on b (d ∷ ds) = depth_at d.around b.merge

-- runs that are due, if so
abbrev pub if_so : Bool → List Due → Option (List Due)
if_so true ds = Some ds
if_so false ds = None

abbrev pub then_reads : Option (List Due) → ℕ → (List Due → ℕ → Option ℕ) → Option ℕ
then_reads None k later = None
then_reads (Some ds) k later = later ds k

-- the runs that are due behind a block that has no merge, if it may be as it is, where these are due behind it
abbrev pub asks_plain : Around → End → List Due → Option (List Due)
asks_plain c (Branch t) ds = Some (if may_end c t then ds else run t c ∷ ds)
asks_plain c (Conditional t f) ds = if may_turn c t f then Some ds else None
asks_plain c (Switch default targets) ds = None
asks_plain c Leave ds = if c.leaves then Some ds else None

-- behind one that has the merge of a selection, where these are the function's labels
abbrev pub asks_selection : List ℕ → Around → ℕ → End → List Due → Option (List Due)
asks_selection ls c m (Branch t) ds = None
asks_selection ls c m (Conditional t f) ds = if may_fork c m t f then Some (arm c m t (arm c m f (run m c ∷ ds))) else None
asks_selection ls c m (Switch default targets) ds = if all_differ (firsts targets) then Some (cases c m m (arms_of ls c m default targets) (run m c ∷ ds)) else None
asks_selection ls c m Leave ds = None

-- behind one that has the merge of a loop, where the function's first block has this label
abbrev pub asks_loop : ℕ → ℕ → Around → ℕ → ℕ → End → List Due → Option (List Due)
asks_loop first l c m k (Branch b) ds = if l == first then None else Some (parts_of_loop c l m k b ds)
asks_loop first l c m k (Conditional t f) ds = None
asks_loop first l c m k (Switch default targets) ds = None
asks_loop first l c m k Leave ds = None

-- So many constructs more may stand within those around each of these runs, and their count has room in a word.
abbrev pub IsShallow : ℕ → List Due → Type 0
IsShallow n ds = AllByRecursion (λ d. d.around.depth + n < 2 ^ 32) ds

-- `ls` are the labels of a function, and `first` is that of its first block.
module _ (ls : List ℕ) (first : ℕ) where
  -- the runs that are due behind a block with this label, merge and end, if it may be as it is, where these are due behind it
  abbrev pub asks : ℕ → Around → Merge → End → List Due → Option (List Due)
  asks l c Nothing end ds = asks_plain c end ds
  asks l c (Selection m) end ds = asks_selection ls c m end ds
  asks l c (Loop m k) end ds = asks_loop first l c m k end ds

  -- the runs that are due behind a block, if it may begin the first of those that are due
  abbrev pub asks_on : Block → List Due → Option (List Due)
  asks_on b [] = None
  asks_on b (d ∷ ds) = if b.label == d.label then asks d.label d.around b.merge b.end ds else None

  -- how many constructs stand within each other at the deepest, from so many on, if these blocks are the runs that are due
  unfoldable pub reads : List Block → List Due → ℕ → Option ℕ
  reads [] [] k = Some k
  reads [] (d ∷ ds) k = None
  reads (b ∷ bs) ds k = then_reads (asks_on b ds) (max k (depth_on b ds)) (reads bs)

-- the same of the blocks of a function with these labels
abbrev pub reads_with : List ℕ → List Block → Option ℕ
reads_with [] bs = None
reads_with (first ∷ ls) bs = reads (first ∷ ls) first bs (run first outside ∷ []) 0

-- how many constructs of a function's blocks stand within each other, if its blocks are in order
abbrev pub nesting_of : List Block → Option ℕ
nesting_of bs = reads_with (once (labels bs)) bs
