use Rattle.std.proofs.Common.{ap, ◌∙◌}
use Rattle.gsl_words.specs.declared.module.Module.{Module}
use Rattle.gsl_valid.specs.Placed.{placed, header_size}
use Rattle.gsl_valid_entry.specs.Reading.{interface_from}
use Rattle.gsl_valid_entry.proofs.Readings.{interface_is}
use Rattle.gsl_valid_entry.proofs.stage.interface_of.Goals as goal

pub returns : goal.returns
returns c =
    c.in_ok-interface.ensures ∙ ap interface_from (c.new.ensures ∙ ap (λ (m : Module). placed m) (c.module.ensures ∙ c.definitions.ensures))
    ∙ interface_is header_size c.args.decorations.now.instrs
