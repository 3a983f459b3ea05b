-- Selections with new labels.
use Rattle.std.proofs.Common.{◌≡◌, ◌≢◌, ℕ, ◌<◌, ◌≤◌, true, false, cond, List, ◌∷◌, refl, sym, ap, ◌∙◌, subst}
use Rattle.std.specs.Prelude.{◌==◌}
use Rattle.std.proofs.lemmas.Bool.{eq-eqb, ne_eqb, not_from_false, not_from_true, or_from, or_left}
use Rattle.gsl_words.specs.declared.module.Instr.{Instr}
use Rattle.gsl_words.specs.declared.module.Module.{Module}
use Rattle.gsl_blocks.specs.declared.around.Around.{Around}
use Rattle.gsl_blocks.specs.declared.around.Due.{Due}
use Rattle.gsl_blocks.specs.Around.{in_arm, needs_run}
use Rattle.gsl_blocks.specs.Order.{arm, run}
use Rattle.gsl_valid.specs.LimitRules.{most_constructs}
use Rattle.gsl_valid.specs.Placed.{Code}
use Rattle.gsl_fitting.specs.Fits.{Behind, Fits, Frame, In}
use Rattle.gsl_fitting_shapes.specs.Fresh.{Fresh, Selects}
use Rattle.gsl_fitting_shapes.proofs.Labels.{no_exit}

-- a new label that is not the merge needs a run, and the merge none
pub needs : (c : Around) (merge label least : ℕ) → Fresh c least → least ≤ label → label ≢ merge → needs_run c merge label ≡ true
needs c merge label least fresh le ne = not_from_false _ (or_from (label == merge) _ (ne_eqb label merge ne) (no_exit c least label fresh le))

pub needs_none : (c : Around) (merge : ℕ) → needs_run c merge merge ≡ false
needs_none c merge = not_from_true _ (or_left (merge == merge) _ (eq-eqb merge merge refl))

arm_run : (c : Around) (merge label : ℕ) (due : List Due) → needs_run c merge label ≡ true → arm c merge label due ≡ run label (in_arm c merge) ∷ due
arm_run c merge label due h = ap (λ b. cond b (run label (in_arm c merge) ∷ due) due) h

arm_none : (c : Around) (merge : ℕ) (due : List Due) → arm c merge merge due ≡ due
arm_none c merge due = ap (λ b. cond b (run merge (in_arm c merge) ∷ due) due) (needs_none c merge)

pub two_arms : (m : Module) (rank : ℕ → ℕ) (f : Frame) (given : List ℕ) (i j : Instr) (code : Code) (c : Around) (due : List Due) (label merge on_true on_false least : ℕ) → Selects m rank f given i j merge on_true on_false
    → Fresh c least → least ≤ on_true → least ≤ on_false → on_true ≢ merge → on_false ≢ merge → on_true ≢ on_false → c.depth < most_constructs
    → Fits m rank f code (Behind (run on_true (in_arm c merge) ∷ run on_false (in_arm c merge) ∷ run merge c ∷ due)) → Fits m rank f (i ∷ j ∷ code) (In label c given due)
two_arms m rank f given i j code c due label merge on_true on_false least s fresh le le' ne ne' differ deep fits =
    let second = arm_run c merge on_false (run merge c ∷ due) (needs c merge on_false least fresh le' ne') in
    let both = arm_run c merge on_true (arm c merge on_false (run merge c ∷ due)) (needs c merge on_true least fresh le ne) ∙ ap (λ ds. run on_true (in_arm c merge) ∷ ds) second in
    Fits.selects merge on_true on_false s.merges s.forks (or_left _ _ (not_from_false _ (ne_eqb on_true on_false differ))) deep s.first s.second (subst (λ ds. Fits m rank f code (Behind ds)) (sym both) fits)

pub one_arm : (m : Module) (rank : ℕ → ℕ) (f : Frame) (given : List ℕ) (i j : Instr) (code : Code) (c : Around) (due : List Due) (label merge on_true least : ℕ) → Selects m rank f given i j merge on_true merge
    → Fresh c least → least ≤ on_true → on_true ≢ merge → c.depth < most_constructs
    → Fits m rank f code (Behind (run on_true (in_arm c merge) ∷ run merge c ∷ due)) → Fits m rank f (i ∷ j ∷ code) (In label c given due)
one_arm m rank f given i j code c due label merge on_true least s fresh le ne deep fits =
    let both = arm_run c merge on_true (arm c merge merge (run merge c ∷ due)) (needs c merge on_true least fresh le ne) ∙ ap (λ ds. run on_true (in_arm c merge) ∷ ds) (arm_none c merge (run merge c ∷ due)) in
    Fits.selects merge on_true merge s.merges s.forks (or_left _ _ (not_from_false _ (ne_eqb on_true merge ne))) deep s.first s.second (subst (λ ds. Fits m rank f code (Behind ds)) (sym both) fits)
