use Rattle.std.proofs.Common.{refl, ap, ◌∙◌}
use Rattle.gsl_valid.specs.Instruction.{read}
use Rattle.gsl_valid.specs.Kinds.{kind}
use Rattle.gsl_valid.specs.EntryRules.{model_in}
use Rattle.gsl_enact_fits.specs.Passes.{model_from}
use Rattle.gsl_enact_fits.proofs.Loops.{none_back, step_back}
use Rattle.gsl_enact_fits.proofs.ids.model_back.Goals as goal

pub returns-in-None : goal.returns-in-None
returns-in-None c = λ so_far. none_back model_from c.args.definitions.now.instrs c.args.now c.args.later c.requires c.in-None.ensures so_far

pub returns-in-Some : goal.returns-in-Some
unfolding model_from
returns-in-Some c =
    λ so_far. step_back model_from c.args.definitions.now.instrs (λ i later. model_in later (kind (read i))) (λ i rest. refl) c.args.now _ c.args.later _ c.requires c.in-Some.ensures so_far (c.model_in.ensures ∙ ap (λ k. model_in c.args.later k) c.kind_at.ensures)
