use Rattle.std.proofs.Common.{refl, ap, ◌∙◌}
use Rattle.std.specs.Option.{option_map}
use Rattle.gsl_valid.specs.Instruction.{read}
use Rattle.gsl_valid.specs.Kinds.{kind}
use Rattle.gsl_enact_fits.specs.Passes.{size_from, size_step}
use Rattle.gsl_enact_fits.proofs.Loops.{none_back, step_back}
use Rattle.gsl_enact_fits.proofs.ids.size_back.Goals as goal

pub returns-in-None : goal.returns-in-None
returns-in-None c = λ so_far. none_back size_from c.args.definitions.now.instrs c.args.now (option_map (λ parts. parts.now) c.args.later) c.requires c.in-None.ensures so_far

pub returns-in-Some : goal.returns-in-Some
unfolding size_from
returns-in-Some c =
    λ so_far. step_back size_from c.args.definitions.now.instrs (λ i later. size_step (kind (read i)) later) (λ i rest. refl) c.args.now _ (option_map (λ parts. parts.now) c.args.later) _ c.requires c.in-Some.ensures so_far (c.size_step.ensures ∙ ap (λ k. size_step k (option_map (λ parts. parts.now) c.args.later)) c.kind_at.ensures)
