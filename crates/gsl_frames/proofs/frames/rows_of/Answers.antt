use Rattle.std.proofs.Common.{rules, subst, sym, ◌∙◌}
use Rattle.gsl_kinds.specs.Runtimes.{front}
use Rattle.gsl_frames.specs.Frames.{Tells}
use Rattle.gsl_frames.proofs.Noted.{nothing_noted}
use Rattle.gsl_frames.proofs.Told.{nothing_is}
use Rattle.gsl_frames.proofs.frames.rows_of.Goals as goal

pub loop-at-init : goal.loop-at-init
loop-at-init c =
    let m = c.args.leaves.now in
    (search rules, search rules, subst (λ rows. Tells rows m (front m 0)) (sym (c.in_ok-rows.ensures.items_if_clones_equal (λ y same. same))) (nothing_noted m _), c.nothing_taken-taken.ensures ∙ nothing_is)
