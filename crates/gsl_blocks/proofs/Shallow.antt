-- What a block asks for stands at most one construct deeper.
use Rattle.std.proofs.Common.{◌≡◌, ℕ, suc, ◌+◌, ◌^◌, ◌<◌, ◌≤◌, Bool, true, false, cond, List, [], ◌∷◌, Option, Some, None, refl, ap, subst, arith}
use Rattle.std.specs.Prelude.{nat_eq}
use Rattle.gsl_blocks.specs.declared.block.Merge.{Merge}
use Rattle.gsl_blocks.specs.declared.block.Merge.TheVariants.{Nothing, Selection, Loop}
use Rattle.gsl_blocks.specs.declared.block.End.{End}
use Rattle.gsl_blocks.specs.declared.block.End.TheVariants.{Branch, Conditional, Switch, Leave}
use Rattle.gsl_blocks.specs.declared.block.Block.{Block}
use Rattle.gsl_blocks.specs.declared.around.Around.{Around}
use Rattle.gsl_blocks.specs.declared.around.Due.{Due}
use Rattle.gsl_blocks.specs.Around.{may_end, may_turn, needs_run, in_arm}
use Rattle.gsl_blocks.specs.Order.{run, arm, cases, parts_of_loop, may_fork}
use Rattle.gsl_blocks.specs.Reading.{asks, asks_on, arms_of, IsShallow}
use Rattle.gsl_blocks.specs.Targets.{firsts, all_differ}

-- what is asked for under a test
pub asked : (b : Bool) (ds new : List Due) → cond b (Some ds) None ≡ Some new → (b ≡ true) × (ds ≡ new)
asked true ds new e = (refl, ap listed e)
  where
    listed : Option (List Due) → List Due
    listed None = []
    listed (Some ds) = ds
asked false ds new e = absurd cc

-- and under one that must fail
pub asked_not : (b : Bool) (ds new : List Due) → cond b None (Some ds) ≡ Some new → (b ≡ false) × (ds ≡ new)
asked_not true ds new e = absurd cc
asked_not false ds new e = (refl, (asked true ds new e).1)

pub shallow_less : (n k : ℕ) (ds : List Due) → k ≤ n → IsShallow n ds → IsShallow k ds
shallow_less n k [] le h = h
shallow_less n k (d ∷ ds) le h = (omega (arith, h.0), shallow_less n k ds le h.1)

module _ (c : Around) (n : ℕ) (low : c.depth + suc n < 2 ^ 32) where
  arm_shallow : (m l : ℕ) (ds : List Due) → IsShallow n ds → IsShallow n (arm c m l ds)
  arm_shallow m l ds h = by_case (needs_run c m l)
    where
      by_case : (b : Bool) → IsShallow n (cond b (run l (in_arm c m) ∷ ds) ds)
      by_case true = (omega (arith, low), h)
      by_case false = h

  cases_shallow : (m last : ℕ) (arms : List ℕ) (ds : List Due) → IsShallow n ds → IsShallow n (cases c m last arms ds)
  cases_shallow m last [] ds h = h
  cases_shallow m last (l ∷ arms) ds h = (omega (arith, low), cases_shallow m last arms ds h)

  by_asks : (ls : List ℕ) (first l : ℕ) (met : Merge) (end : End) (ds new : List Due) → asks ls first l c met end ds ≡ Some new → IsShallow n ds → IsShallow n new
  by_asks ls first l Nothing (Branch t) ds new e h = subst (IsShallow n) (asked true (cond (may_end c t) ds (run t c ∷ ds)) new e).1 (by_case (may_end c t))
    where
      by_case : (b : Bool) → IsShallow n (cond b ds (run t c ∷ ds))
      by_case true = h
      by_case false = (omega (arith, low), h)
  by_asks ls first l Nothing (Conditional t f) ds new e h = subst (IsShallow n) (asked (may_turn c t f) ds new e).1 h
  by_asks ls first l Nothing (Switch default targets) ds new e h = absurd cc
  by_asks ls first l Nothing Leave ds new e h = subst (IsShallow n) (asked c.leaves ds new e).1 h
  by_asks ls first l (Selection m) (Branch t) ds new e h = absurd cc
  by_asks ls first l (Selection m) (Conditional t f) ds new e h =
      let here : IsShallow n (run m c ∷ ds) = (omega (arith, low), h) in
      subst (IsShallow n) (asked (may_fork c m t f) (arm c m t (arm c m f (run m c ∷ ds))) new e).1 (arm_shallow m t (arm c m f (run m c ∷ ds)) (arm_shallow m f (run m c ∷ ds) here))
  by_asks ls first l (Selection m) (Switch default targets) ds new e h =
      let here : IsShallow n (run m c ∷ ds) = (omega (arith, low), h) in
      let arms = arms_of ls c m default targets in
      subst (IsShallow n) (asked (all_differ (firsts targets)) (cases c m m arms (run m c ∷ ds)) new e).1 (cases_shallow m m arms (run m c ∷ ds) here)
  by_asks ls first l (Selection m) Leave ds new e h = absurd cc
  by_asks ls first l (Loop m k) (Branch b) ds new e h =
      subst (IsShallow n) (asked_not (nat_eq l first) (parts_of_loop c l m k b ds) new e).1 (omega (arith, low), (omega (arith, low), (omega (arith, low), h)))
  by_asks ls first l (Loop m k) (Conditional t f) ds new e h = absurd cc
  by_asks ls first l (Loop m k) (Switch default targets) ds new e h = absurd cc
  by_asks ls first l (Loop m k) Leave ds new e h = absurd cc

pub stays_shallow : (ls : List ℕ) (first n : ℕ) (b : Block) (ds new : List Due) → asks_on ls first b ds ≡ Some new → IsShallow (suc n) ds → IsShallow n new
stays_shallow ls first n b [] new e h = absurd cc
stays_shallow ls first n b (d ∷ ds) new e h = by_case (nat_eq b.label d.label) e
  where
    by_case : (same : Bool) → cond same (asks ls first d.label d.around b.merge b.end ds) None ≡ Some new → IsShallow n new
    by_case true e = by_asks d.around n h.0 ls first d.label b.merge b.end ds new e (shallow_less (suc n) n ds (omega arith) h.1)
    by_case false e = absurd cc
