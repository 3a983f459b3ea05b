-- What is read is in order.
use Rattle.std.proofs.Common.{◌≡◌, ℕ, Bool, true, false, cond, max, List, [], ◌∷◌, ◌++◌, Option, Some, None, refl, sym, ap, ◌∙◌, subst, append_assoc, append-nil, arith}
use Rattle.std.specs.Prelude.{nat_eq}
use Rattle.std.proofs.lemmas.Bool.{eqb-true}
use Rattle.gsl_blocks.specs.declared.block.Merge.{Merge}
use Rattle.gsl_blocks.specs.declared.block.Merge.TheVariants.{Nothing, Selection, Loop}
use Rattle.gsl_blocks.specs.declared.block.End.{End}
use Rattle.gsl_blocks.specs.declared.block.End.TheVariants.{Branch, Conditional, Switch, Leave}
use Rattle.gsl_blocks.specs.declared.block.Block.{Block}
use Rattle.gsl_blocks.specs.declared.around.Around.{Around}
use Rattle.gsl_blocks.specs.declared.around.Due.{Due}
use Rattle.gsl_blocks.specs.Around.{may_end, may_turn}
use Rattle.gsl_blocks.specs.Order.{block, run, arm, cases, parts_of_loop, may_fork, IsRun, ends, leaves, turns, selects, chooses, loops, goes, AreRuns, done, more}
use Rattle.gsl_blocks.specs.Reading.{asks, arms_of, depth_at, then_reads, reads}
use Rattle.gsl_blocks.specs.Targets.{firsts, all_differ, mentioned, lone_default}
use Rattle.gsl_blocks.proofs.Arms.{are_arms}
use Rattle.gsl_blocks.proofs.Greatest.{max_assoc, max_zero}
use Rattle.gsl_blocks.proofs.Onto.{onto, asks_onto}
use Rattle.gsl_blocks.proofs.Shallow.{asked, asked_not}

module _ (ls : List ℕ) (first : ℕ) where
  -- runs of two lists are cut between them
  record Cut (fs ds : List Due) (n : ℕ) (bs : List Block) : Type 0 where
    pub front : List Block
    pub rest : List Block
    pub high : ℕ
    pub low : ℕ
    pub is : bs ≡ front ++ rest
    pub greatest : n ≡ max high low
    pub fronts : AreRuns first fs high front
    pub rests : AreRuns first ds low rest

  cut : (fs ds : List Due) (n : ℕ) (bs : List Block) → AreRuns first (fs ++ ds) n bs → Cut fs ds n bs
  cut [] ds n bs r = record { front = []; rest = bs; high = 0; low = n; is = refl; greatest = zero_max n; fronts = done; rests = r }
    where
      zero_max : (n : ℕ) → n ≡ max 0 n
      zero_max n = omega arith
  cut (f ∷ fs) ds _ _ (more {n = n} {k = k} {xs = xs} {ys = ys} r rs) =
      let u = cut fs ds k ys rs in
      record {
        front = xs ++ u.front;
        rest = u.rest;
        high = max n u.high;
        low = u.low;
        is = ap (λ z. xs ++ z) u.is ∙ sym (append_assoc xs u.front u.rest);
        greatest = ap (max n) u.greatest ∙ sym (max_assoc n u.high u.low);
        fronts = more r u.fronts;
        rests = u.rests;
      }

  -- one run that is due
  pub one : (d : Due) (n : ℕ) (bs : List Block) → AreRuns first (d ∷ []) n bs → IsRun first d.label d.around n bs
  one d _ _ (more {n = n} {xs = xs} r done) = subst (λ k. IsRun first d.label d.around k (xs ++ [])) (sym (max_zero n)) (subst (IsRun first d.label d.around n) (sym (append-nil xs)) r)

  none : (n : ℕ) (bs : List Block) → AreRuns first [] n bs → (n ≡ 0) × (bs ≡ [])
  none _ _ done = (refl, refl)

  -- a run that is one block
  alone : (l : ℕ) (c : Around) (b : Block) (n : ℕ) (bs : List Block) → AreRuns first [] n bs → IsRun first l c c.depth (b ∷ []) → IsRun first l c (max c.depth n) (b ∷ bs)
  alone l c b n bs r is =
      let p = none n bs r in
      subst (λ z. IsRun first l c (max c.depth n) (b ∷ z)) (sym p.1) (subst (λ k. IsRun first l c k (b ∷ [])) (sym (ap (max c.depth) p.0 ∙ max_zero c.depth)) is)

  -- a block and the runs that it asks for
  begins : (l : ℕ) (c : Around) (m : Merge) (e : End) (new : List Due) (n : ℕ) (bs : List Block) → asks ls first l c m e [] ≡ Some new → AreRuns first new n bs → IsRun first l c (max (depth_at c m) n) (block l m e ∷ bs)
  begins l c Nothing (Branch t) new n bs e r = by_case (may_end c t) refl (subst (λ z. AreRuns first z n bs) (sym (asked true (cond (may_end c t) [] (run t c ∷ [])) new e).1) r)
    where
      by_case : (b : Bool) → may_end c t ≡ b → AreRuns first (cond b [] (run t c ∷ [])) n bs → IsRun first l c (max c.depth n) (block l Nothing (Branch t) ∷ bs)
      by_case true h r = alone l c (block l Nothing (Branch t)) n bs r (ends t h)
      by_case false h r = goes t h (one (run t c) n bs r)
  begins l c Nothing (Conditional t f) new n bs e r =
      let p = asked (may_turn c t f) [] new e in
      alone l c (block l Nothing (Conditional t f)) n bs (subst (λ z. AreRuns first z n bs) (sym p.1) r) (turns t f p.0)
  begins l c Nothing (Switch default targets) new n bs e r = absurd cc
  begins l c Nothing Leave new n bs e r =
      let p = asked c.leaves [] new e in
      alone l c (block l Nothing Leave) n bs (subst (λ z. AreRuns first z n bs) (sym p.1) r) (leaves p.0)
  begins l c (Selection m) (Branch t) new n bs e r = absurd cc
  begins l c (Selection m) (Conditional t f) new n bs e r =
      let p = asked (may_fork c m t f) (arm c m t (arm c m f (run m c ∷ []))) new e in
      selects m t f p.0 (subst (λ z. AreRuns first z n bs) (sym p.1) r)
  begins l c (Selection m) (Switch default targets) new n bs e r =
      let arms = arms_of ls c m default targets in
      let p = asked (all_differ (firsts targets)) (cases c m m arms (run m c ∷ [])) new e in
      chooses m default targets arms p.0 (are_arms ls (mentioned c m targets) (lone_default c m default targets)) (subst (λ z. AreRuns first z n bs) (sym p.1) r)
  begins l c (Selection m) Leave new n bs e r = absurd cc
  begins l c (Loop m k) (Branch b) new n bs e r =
      let p = asked_not (nat_eq l first) (parts_of_loop c l m k b []) new e in
      loops m k b p.0 (subst (λ z. AreRuns first z n bs) (sym p.1) r)
  begins l c (Loop m k) (Conditional t f) new n bs e r = absurd cc
  begins l c (Loop m k) (Switch default targets) new n bs e r = absurd cc
  begins l c (Loop m k) Leave new n bs e r = absurd cc

  -- blocks that were read from a depth on
  pub record Read (ds : List Due) (bs : List Block) (k deepest : ℕ) : Type 0 where
    pub high : ℕ
    pub runs : AreRuns first ds high bs
    pub is : deepest ≡ max k high

  pub sound : (bs : List Block) (ds : List Due) (k n : ℕ) → reads ls first bs ds k ≡ Some n → Read ds bs k n
  unfolding reads
  sound [] [] k n e = record { high = 0; runs = done; is = sym (ap number e) ∙ sym (max_zero k) }
    where
      number : Option ℕ → ℕ
      number None = 0
      number (Some n) = n
  sound [] (d ∷ ds) k n e = absurd cc
  sound (b ∷ bs) [] k n e = absurd cc
  sound (b ∷ bs) (d ∷ ds) k n e = by_label (nat_eq b.label d.label) refl e (sound bs)
    where
      by_ask : b.label ≡ d.label → (a : Option (List Due)) → asks ls first d.label d.around b.merge b.end [] ≡ a → then_reads (onto ds a) (max k (depth_at d.around b.merge)) (reads ls first bs) ≡ Some n →
          ((fs : List Due) (j i : ℕ) → reads ls first bs fs j ≡ Some i → Read fs bs j i) → Read (d ∷ ds) (b ∷ bs) k n
      by_ask same None h e again = absurd cc
      by_ask same (Some new) h e again =
          let deep = depth_at d.around b.merge in
          let r = again (new ++ ds) (max k deep) n e in
          let u = cut new ds r.high bs r.runs in
          let begun = begins d.label d.around b.merge b.end new u.high u.front h u.fronts in
          let named : IsRun first d.label d.around (max deep u.high) (b ∷ u.front) = subst (λ l. IsRun first d.label d.around (max deep u.high) (block l b.merge b.end ∷ u.front)) (sym same) begun in
          let whole : AreRuns first (d ∷ ds) (max (max deep u.high) u.low) (b ∷ (u.front ++ u.rest)) = more named u.rests in
          record {
            high = max (max deep u.high) u.low;
            runs = subst (λ z. AreRuns first (d ∷ ds) (max (max deep u.high) u.low) (b ∷ z)) (sym u.is) whole;
            is = r.is ∙ ap (max (max k deep)) u.greatest ∙ max_assoc k deep (max u.high u.low) ∙ ap (max k) (sym (max_assoc deep u.high u.low));
          }

      by_label : (s : Bool) → nat_eq b.label d.label ≡ s → then_reads (cond s (asks ls first d.label d.around b.merge b.end ds) None) (max k (depth_at d.around b.merge)) (reads ls first bs) ≡ Some n →
          ((fs : List Due) (j i : ℕ) → reads ls first bs fs j ≡ Some i → Read fs bs j i) → Read (d ∷ ds) (b ∷ bs) k n
      by_label true s e again =
          by_ask (eqb-true b.label d.label s) (asks ls first d.label d.around b.merge b.end []) refl
          (ap (λ a. then_reads a (max k (depth_at d.around b.merge)) (reads ls first bs)) (sym (asks_onto ls first d.label d.around b.merge b.end ds)) ∙ e) again
      by_label false s e again = absurd cc
