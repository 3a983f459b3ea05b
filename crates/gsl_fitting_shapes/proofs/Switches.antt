-- Switches with new labels.
use Rattle.std.proofs.Common.{◌≡◌, ℕ, ◌<◌, Bool, true, false, cond, not, ◌&&◌, List, [], ◌∷◌, ◌++◌, Option, Some, None, refl, sym, ap, ◌∙◌, subst}
use Rattle.std.specs.Prelude.{filter, nat_eq}
use Rattle.std.specs.List.{list_any}
use Rattle.gsl_words.specs.declared.module.Instr.{Instr}
use Rattle.gsl_words.specs.declared.module.Module.{Module}
use Rattle.gsl_blocks.specs.declared.around.Around.{Around}
use Rattle.gsl_blocks.specs.declared.around.Due.{Due}
use Rattle.gsl_blocks.specs.Around.{needs_run}
use Rattle.gsl_blocks.specs.Order.{cases, run}
use Rattle.gsl_blocks.specs.Targets.{AreArms, lone_among, lone_default, mentioned}
use Rattle.gsl_blocks.specs.Targets.AreArms.{alone, with_default}
use Rattle.gsl_valid.specs.LimitRules.{most_constructs}
use Rattle.gsl_valid.specs.Placed.{Code}
use Rattle.gsl_fitting.specs.Fits.{Behind, Fits, Frame, In}
use Rattle.gsl_fitting_shapes.specs.Fresh.{AreNew, Chooses, Fresh}
use Rattle.gsl_fitting_shapes.proofs.Arms.{needs, needs_none}

-- each of them needs a run
all_need : (c : Around) (merge least : ℕ) (labels : List ℕ) → Fresh c least → AreNew least merge labels → filter (needs_run c merge) labels ≡ labels
all_need c merge least [] fresh new = refl
all_need c merge least (l ∷ labels) fresh new =
    ap (λ b. cond b (l ∷ filter (needs_run c merge) labels) (filter (needs_run c merge) labels)) (needs c merge l least fresh new.0.0 new.0.1) ∙ ap (λ ls. l ∷ ls) (all_need c merge least labels fresh new.1)

module _ (m : Module) (rank : ℕ → ℕ) (f : Frame) (given : List ℕ) (i j : Instr) (code : Code) (c : Around) (due : List Due) where
  -- the arms of a switch are these
  with_arms : (label merge default least : ℕ) (targets labels arms : List ℕ) (lone : Option ℕ) → Chooses m rank f given i j merge default targets labels → Fresh c least → AreNew least merge labels → lone_among c merge default labels ≡ lone
      → AreArms labels lone arms → c.depth < most_constructs → Fits m rank f code (Behind (cases c merge merge arms (run merge c ∷ due))) → Fits m rank f (i ∷ j ∷ code) (In label c given due)
  with_arms label merge default least targets labels arms lone s fresh new is named deep fits =
      let mention : mentioned c merge targets ≡ labels = ap (filter (needs_run c merge)) s.mentions ∙ all_need c merge least labels fresh new in
      let single : lone_default c merge default targets ≡ lone = ap (lone_among c merge default) s.mentions ∙ is in
      Fits.chooses merge default targets arms s.merges s.chooses s.differ (subst (λ o. AreArms (mentioned c merge targets) o arms) (sym single) (subst (λ ls. AreArms ls lone arms) (sym mention) named)) deep s.first s.second fits

abbrev lone_by : Bool → Bool → ℕ → Option ℕ
lone_by needed named default = cond (needed && not named) (Some default) None

pub switch_named : (m : Module) (rank : ℕ → ℕ) (f : Frame) (given : List ℕ) (i j : Instr) (code : Code) (c : Around) (due : List Due) (label merge default least : ℕ) (targets labels : List ℕ) → Chooses m rank f given i j merge default targets labels
    → Fresh c least → AreNew least merge labels → list_any (nat_eq default) labels ≡ true → c.depth < most_constructs → Fits m rank f code (Behind (cases c merge merge labels (run merge c ∷ due))) → Fits m rank f (i ∷ j ∷ code) (In label c given due)
switch_named m rank f given i j code c due label merge default least targets labels s fresh new named deep fits =
    with_arms m rank f given i j code c due label merge default least targets labels labels None s fresh new
    (ap (λ b. lone_by (needs_run c merge default) b default) named ∙ neither (needs_run c merge default)) alone deep fits
  where
    neither : (b : Bool) → lone_by b true default ≡ None
    neither true = refl
    neither false = refl

pub switch_none : (m : Module) (rank : ℕ → ℕ) (f : Frame) (given : List ℕ) (i j : Instr) (code : Code) (c : Around) (due : List Due) (label merge least : ℕ) (targets labels : List ℕ) → Chooses m rank f given i j merge merge targets labels
    → Fresh c least → AreNew least merge labels → c.depth < most_constructs → Fits m rank f code (Behind (cases c merge merge labels (run merge c ∷ due))) → Fits m rank f (i ∷ j ∷ code) (In label c given due)
switch_none m rank f given i j code c due label merge least targets labels s fresh new deep fits =
    with_arms m rank f given i j code c due label merge merge least targets labels labels None s fresh new (ap (λ b. lone_by b (list_any (nat_eq merge) labels) merge) (needs_none c merge)) alone deep fits

pub switch_apart : (m : Module) (rank : ℕ → ℕ) (f : Frame) (given : List ℕ) (i j : Instr) (code : Code) (c : Around) (due : List Due) (label merge default least : ℕ) (targets before behind : List ℕ)
    → Chooses m rank f given i j merge default targets (before ++ behind) → Fresh c least → AreNew least merge (default ∷ (before ++ behind)) → list_any (nat_eq default) (before ++ behind) ≡ false → c.depth < most_constructs
    → Fits m rank f code (Behind (cases c merge merge (before ++ (default ∷ behind)) (run merge c ∷ due))) → Fits m rank f (i ∷ j ∷ code) (In label c given due)
switch_apart m rank f given i j code c due label merge default least targets before behind s fresh new other deep fits =
    with_arms m rank f given i j code c due label merge default least targets (before ++ behind) (before ++ (default ∷ behind)) (Some default) s fresh new.1
    (ap (λ b. lone_by b (list_any (nat_eq default) (before ++ behind)) default) (needs c merge default least fresh new.0.0 new.0.1) ∙ ap (λ b. lone_by true b default) other) (with_default default before behind refl) deep fits
