use Rattle.std.proofs.Common.{refl, ap, ◌∙◌}
use Rattle.gsl_valid.specs.Instruction.{read}
use Rattle.gsl_valid.specs.Kinds.{kind}
use Rattle.gsl_enact_fits.specs.Passes.{pushes_met, pushes_step}
use Rattle.gsl_enact_fits.proofs.Loops.{none_back, step_back}
use Rattle.gsl_enact_fits.proofs.blocks.pushes_back.Goals as goal

pub returns-in-None : goal.returns-in-None
returns-in-None c = λ so_far. none_back (pushes_met c.args.decorations.now c.args.input.now) c.args.decorations.now.instrs c.args.now c.args.later c.requires.some c.in-None.ensures so_far

pub returns-in-Some : goal.returns-in-Some
unfolding pushes_met
returns-in-Some c =
    λ so_far. step_back (pushes_met c.args.decorations.now c.args.input.now) c.args.decorations.now.instrs (λ i later. pushes_step c.args.decorations.now c.args.input.now (kind (read i)) later) (λ i rest. refl) c.args.now _ c.args.later _ c.requires.some c.in-Some.ensures so_far (c.pushes_step.ensures ∙ ap (λ k. pushes_step c.args.decorations.now c.args.input.now k c.args.later) c.kind_at.ensures)
