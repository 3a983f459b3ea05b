-- What a block asks for stands in front of what is due.
use Rattle.std.proofs.Common.{◌≡◌, ℕ, Bool, true, false, cond, List, [], ◌∷◌, ◌++◌, Option, Some, None, refl, ap, ◌∙◌}
use Rattle.std.specs.Prelude.{nat_eq}
use Rattle.std.specs.Option.{option_map}
use Rattle.gsl_blocks.specs.declared.block.Merge.{Merge}
use Rattle.gsl_blocks.specs.declared.block.Merge.TheVariants.{Nothing, Selection, Loop}
use Rattle.gsl_blocks.specs.declared.block.End.{End}
use Rattle.gsl_blocks.specs.declared.block.End.TheVariants.{Branch, Conditional, Switch, Leave}
use Rattle.gsl_blocks.specs.declared.around.Around.{Around}
use Rattle.gsl_blocks.specs.declared.around.Due.{Due}
use Rattle.gsl_blocks.specs.Around.{may_end, may_turn, needs_run, in_arm, in_case}
use Rattle.gsl_blocks.specs.Order.{run, arm, cases, first_or, parts_of_loop, may_fork}
use Rattle.gsl_blocks.specs.Reading.{asks, arms_of}
use Rattle.gsl_blocks.specs.Targets.{firsts, all_differ}

-- runs in front of others
abbrev pub onto : List Due → Option (List Due) → Option (List Due)
onto ds new = option_map (λ xs. xs ++ ds) new

arm_onto : (c : Around) (m l : ℕ) (xs ds : List Due) → arm c m l (xs ++ ds) ≡ arm c m l xs ++ ds
arm_onto c m l xs ds = by_case (needs_run c m l)
  where
    by_case : (b : Bool) → cond b (run l (in_arm c m) ∷ (xs ++ ds)) (xs ++ ds) ≡ cond b (run l (in_arm c m) ∷ xs) xs ++ ds
    by_case true = refl
    by_case false = refl

pub cases_onto : (c : Around) (m last : ℕ) (arms : List ℕ) (xs ds : List Due) → cases c m last arms (xs ++ ds) ≡ cases c m last arms xs ++ ds
cases_onto c m last [] xs ds = refl
cases_onto c m last (l ∷ arms) xs ds = ap (λ z. run l (in_case c m (first_or last arms)) ∷ z) (cases_onto c m last arms xs ds)

onto_if : (b : Bool) (xs ys ds : List Due) → xs ≡ ys ++ ds → cond b (Some xs) None ≡ onto ds (cond b (Some ys) None)
onto_if true xs ys ds e = ap Some e
onto_if false xs ys ds e = refl

onto_unless : (b : Bool) (xs ys ds : List Due) → xs ≡ ys ++ ds → cond b None (Some xs) ≡ onto ds (cond b None (Some ys))
onto_unless true xs ys ds e = refl
onto_unless false xs ys ds e = ap Some e

pub asks_onto : (ls : List ℕ) (first l : ℕ) (c : Around) (m : Merge) (e : End) (ds : List Due) → asks ls first l c m e ds ≡ onto ds (asks ls first l c m e [])
asks_onto ls first l c Nothing (Branch t) ds = by_case (may_end c t)
  where
    by_case : (b : Bool) → Some (cond b ds (run t c ∷ ds)) ≡ onto ds (Some (cond b [] (run t c ∷ [])))
    by_case true = refl
    by_case false = refl
asks_onto ls first l c Nothing (Conditional t f) ds = onto_if (may_turn c t f) ds [] ds refl
asks_onto ls first l c Nothing (Switch default targets) ds = refl
asks_onto ls first l c Nothing Leave ds = onto_if c.leaves ds [] ds refl
asks_onto ls first l c (Selection m) (Branch t) ds = refl
asks_onto ls first l c (Selection m) (Conditional t f) ds =
    onto_if (may_fork c m t f) (arm c m t (arm c m f (run m c ∷ ds))) (arm c m t (arm c m f (run m c ∷ []))) ds
    (ap (arm c m t) (arm_onto c m f (run m c ∷ []) ds) ∙ arm_onto c m t (arm c m f (run m c ∷ [])) ds)
asks_onto ls first l c (Selection m) (Switch default targets) ds =
    let arms = arms_of ls c m default targets in
    onto_if (all_differ (firsts targets)) (cases c m m arms (run m c ∷ ds)) (cases c m m arms (run m c ∷ [])) ds (cases_onto c m m arms (run m c ∷ []) ds)
asks_onto ls first l c (Selection m) Leave ds = refl
asks_onto ls first l c (Loop m k) (Branch b) ds = onto_unless (nat_eq l first) (parts_of_loop c l m k b ds) (parts_of_loop c l m k b []) ds refl
asks_onto ls first l c (Loop m k) (Conditional t f) ds = refl
asks_onto ls first l c (Loop m k) (Switch default targets) ds = refl
asks_onto ls first l c (Loop m k) Leave ds = refl
