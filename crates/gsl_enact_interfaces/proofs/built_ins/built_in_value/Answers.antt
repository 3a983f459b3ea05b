use Rattle.std.proofs.Common.{ap, ◌∙◌}
use Rattle.gsl_machine.specs.Interfaces.{built_in_value}
use Rattle.gsl_enact_fits.specs.Passes.{size_or}
use Rattle.gsl_enact_fits.proofs.Walked.{size_is}
use Rattle.gsl_enact_interfaces.proofs.built_ins.built_in_value.Goals as goal

pub returns : goal.returns
returns c =
    c.in_ok-value.ensures ∙ ap (λ s. built_in_value s c.args.input.now c.args.number) (ap size_or c.local_size.ensures ∙ size_is c.args.definitions.now)
