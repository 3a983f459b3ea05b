-- What is in order is read.
use Rattle.std.proofs.Common.{◌≡◌, ℕ, ◌+◌, cond, max, List, [], ◌∷◌, ◌++◌, Some, None, refl, sym, ap, ◌∙◌, subst, append_assoc}
use Rattle.std.proofs.lemmas.Bool.{eq-eqb}
use Rattle.gsl_blocks.specs.declared.block.Merge.{Merge}
use Rattle.gsl_blocks.specs.declared.block.Merge.TheVariants.{Nothing, Selection, Loop}
use Rattle.gsl_blocks.specs.declared.block.End.{End}
use Rattle.gsl_blocks.specs.declared.block.End.TheVariants.{Branch, Conditional, Switch, Leave}
use Rattle.gsl_blocks.specs.declared.block.Block.{Block}
use Rattle.gsl_blocks.specs.declared.around.Around.{Around}
use Rattle.gsl_blocks.specs.declared.around.Due.{Due}
use Rattle.gsl_blocks.specs.Blocks.{labels}
use Rattle.gsl_blocks.specs.Order.{block, run, arm, cases, parts_of_loop, IsRun, ends, leaves, turns, selects, chooses, loops, goes, AreRuns, done, more}
use Rattle.gsl_blocks.specs.Reading.{asks, arms_of, depth_at, then_reads, reads}
use Rattle.gsl_blocks.specs.Targets.{mentioned, lone_default, AreArms}
use Rattle.gsl_blocks.proofs.Apart.{Apart, StandIn, nothing, this, in_longer, in_behind}
use Rattle.gsl_blocks.proofs.Arms.{found}
use Rattle.gsl_blocks.proofs.Greatest.{max_assoc, max_zero}
use Rattle.gsl_blocks.proofs.Onto.{onto, asks_onto}

pub labels_join : (xs ys : List Block) → labels (xs ++ ys) ≡ labels xs ++ labels ys
labels_join [] ys = refl
labels_join (b ∷ xs) ys = ap (λ z. b.label ∷ z) (labels_join xs ys)

module _ (first : ℕ) where
  -- A run begins with its label.
  stands_first : {l : ℕ} {c : Around} {n : ℕ} {xs : List Block} → IsRun first l c n xs → (arms : List ℕ) (ys : List Block) → StandIn arms (labels ys) → StandIn (l ∷ arms) (labels (xs ++ ys))
  stands_first (ends t h) arms ys s = this s
  stands_first (leaves h) arms ys s = this s
  stands_first (turns t f h) arms ys s = this s
  stands_first (selects {bs = bs} m t f h rs) arms ys s = this (subst (StandIn arms) (sym (labels_join bs ys)) (in_behind arms (labels bs) (labels ys) s))
  stands_first (chooses {bs = bs} m default targets which h a rs) arms ys s = this (subst (StandIn arms) (sym (labels_join bs ys)) (in_behind arms (labels bs) (labels ys) s))
  stands_first (loops {bs = bs} m k b h rs) arms ys s = this (subst (StandIn arms) (sym (labels_join bs ys)) (in_behind arms (labels bs) (labels ys) s))
  stands_first (goes {bs = bs} t h r) arms ys s = this (subst (StandIn arms) (sym (labels_join bs ys)) (in_behind arms (labels bs) (labels ys) s))

  -- The targets of a switch stand in the order of their runs.
  arms_stand : (c : Around) (m last : ℕ) (arms : List ℕ) (later : List Due) (n : ℕ) (bs : List Block) → AreRuns first (cases c m last arms later) n bs → StandIn arms (labels bs)
  arms_stand c m last [] later n bs r = nothing
  arms_stand c m last (a ∷ arms) later _ _ (more {k = k} {ys = ys} r rs) = stands_first r arms ys (arms_stand c m last arms later k ys rs)

module _ (ls : List ℕ) (first : ℕ) (differ : Apart ls) where
  -- a block that is read, and what it asks for behind it
  opens : (l : ℕ) (c : Around) (m : Merge) (e : End) (new ds : List Due) (bs : List Block) (k : ℕ) → asks ls first l c m e [] ≡ Some new →
      reads ls first (block l m e ∷ bs) (run l c ∷ ds) k ≡ reads ls first bs (new ++ ds) (max k (depth_at c m))
  unfolding reads
  opens l c m e new ds bs k h =
      ap (λ s. then_reads (cond s (asks ls first l c m e ds) None) (max k (depth_at c m)) (reads ls first bs)) (eq-eqb l l refl)
      ∙ ap (λ a. then_reads a (max k (depth_at c m)) (reads ls first bs)) (asks_onto ls first l c m e ds ∙ ap (onto ds) h)

  -- these labels stand in front of the blocks, and are with theirs all labels
  abbrev Stand : List ℕ → List Block → Type 0
  Stand seen bs = ls ≡ seen ++ labels bs

  behind_one : (seen : List ℕ) (l : ℕ) (m : Merge) (e : End) (bs : List Block) → Stand seen (block l m e ∷ bs) → Stand (seen ++ l ∷ []) bs
  behind_one seen l m e bs s = s ∙ sym (append_assoc seen (l ∷ []) (labels bs))

  behind_run : (seen : List ℕ) (xs bs : List Block) → Stand seen (xs ++ bs) → Stand (seen ++ labels xs) bs
  behind_run seen xs bs s = s ∙ ap (λ z. seen ++ z) (labels_join xs bs) ∙ sym (append_assoc seen (labels xs) (labels bs))

  -- the arms of a switch are those that are found
  arms_found : (c : Around) (m default : ℕ) (targets arms : List ℕ) (n : ℕ) (fs bs : List Block) (seen : List ℕ) → AreArms (mentioned c m targets) (lone_default c m default targets) arms →
      AreRuns first (cases c m m arms (run m c ∷ [])) n fs → Stand seen (fs ++ bs) → arms_of ls c m default targets ≡ arms
  arms_found c m default targets arms n fs bs seen a rs s =
      let inside = in_behind arms seen (labels fs ++ labels bs) (in_longer arms (labels fs) (labels bs) (arms_stand first c m m arms (run m c ∷ []) n fs rs)) in
      let stand = subst (StandIn arms) (sym (s ∙ ap (λ z. seen ++ z) (labels_join fs bs))) inside in
      found ls (mentioned c m targets) (lone_default c m default targets) arms a stand differ

  mutual
    pub run_read : {l : ℕ} {c : Around} {n : ℕ} {fs : List Block} → IsRun first l c n fs → (seen : List ℕ) (ds : List Due) (bs : List Block) (k : ℕ) → Stand seen (fs ++ bs) →
        reads ls first (fs ++ bs) (run l c ∷ ds) k ≡ reads ls first bs ds (max k n)
    run_read {l = l} {c = c} (ends t h) seen ds bs k s = opens l c Nothing (Branch t) [] ds bs k (ap (λ b. Some (cond b [] (run t c ∷ []))) h)
    run_read {l = l} {c = c} (leaves h) seen ds bs k s = opens l c Nothing Leave [] ds bs k (ap (λ b. cond b (Some []) None) h)
    run_read {l = l} {c = c} (turns t f h) seen ds bs k s = opens l c Nothing (Conditional t f) [] ds bs k (ap (λ b. cond b (Some []) None) h)
    run_read {l = l} {c = c} (selects {n = n} {bs = fs} m t f h rs) seen ds bs k s =
        let new = arm c m t (arm c m f (run m c ∷ [])) in
        opens l c (Selection m) (Conditional t f) new ds (fs ++ bs) k (ap (λ b. cond b (Some new) None) h)
        ∙ runs_read rs (seen ++ l ∷ []) ds bs (max k (c.depth + 1)) (behind_one seen l (Selection m) (Conditional t f) (fs ++ bs) s)
        ∙ ap (reads ls first bs ds) (max_assoc k (c.depth + 1) n)
    run_read {l = l} {c = c} (chooses {n = n} {bs = fs} m default targets arms h a rs) seen ds bs k s =
        let behind = behind_one seen l (Selection m) (Switch default targets) (fs ++ bs) s in
        let new = cases c m m arms (run m c ∷ []) in
        opens l c (Selection m) (Switch default targets) new ds (fs ++ bs) k
        (ap (λ b. cond b (Some (cases c m m (arms_of ls c m default targets) (run m c ∷ []))) None) h
        ∙ ap (λ z. Some (cases c m m z (run m c ∷ []))) (arms_found c m default targets arms n fs bs (seen ++ l ∷ []) a rs behind))
        ∙ runs_read rs (seen ++ l ∷ []) ds bs (max k (c.depth + 1)) behind
        ∙ ap (reads ls first bs ds) (max_assoc k (c.depth + 1) n)
    run_read {l = l} {c = c} (loops {n = n} {bs = fs} m t b h rs) seen ds bs k s =
        let new = parts_of_loop c l m t b [] in
        opens l c (Loop m t) (Branch b) new ds (fs ++ bs) k (ap (λ z. cond z None (Some new)) h)
        ∙ runs_read rs (seen ++ l ∷ []) ds bs (max k (c.depth + 1)) (behind_one seen l (Loop m t) (Branch b) (fs ++ bs) s)
        ∙ ap (reads ls first bs ds) (max_assoc k (c.depth + 1) n)
    run_read {l = l} {c = c} (goes {n = n} {bs = fs} t h r) seen ds bs k s =
        opens l c Nothing (Branch t) (run t c ∷ []) ds (fs ++ bs) k (ap (λ b. Some (cond b [] (run t c ∷ []))) h)
        ∙ run_read r (seen ++ l ∷ []) ds bs (max k c.depth) (behind_one seen l Nothing (Branch t) (fs ++ bs) s)
        ∙ ap (reads ls first bs ds) (max_assoc k c.depth n)

    runs_read : {n : ℕ} {new : List Due} {fs : List Block} → AreRuns first new n fs → (seen : List ℕ) (ds : List Due) (bs : List Block) (k : ℕ) → Stand seen (fs ++ bs) →
        reads ls first (fs ++ bs) (new ++ ds) k ≡ reads ls first bs ds (max k n)
    runs_read done seen ds bs k s = ap (reads ls first bs ds) (sym (max_zero k))
    runs_read (more {d = d} {ds = new} {n = n} {k = j} {xs = xs} {ys = ys} r rs) seen ds bs k s =
        let joined = append_assoc xs ys bs in
        let stand = s ∙ ap (λ z. seen ++ labels z) joined in
        ap (λ z. reads ls first z (d ∷ (new ++ ds)) k) joined
        ∙ run_read r seen (new ++ ds) (ys ++ bs) k stand
        ∙ runs_read rs (seen ++ labels xs) ds bs (max k n) (behind_run seen xs (ys ++ bs) stand)
        ∙ ap (reads ls first bs ds) (max_assoc k n j)
