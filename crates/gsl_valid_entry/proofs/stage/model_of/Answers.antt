use Rattle.std.proofs.Common.{ap, ◌∙◌}
use Rattle.gsl_words.specs.declared.module.Module.{Module}
use Rattle.gsl_valid.specs.Placed.{placed, header_size}
use Rattle.gsl_valid_entry.specs.Reading.{model_from}
use Rattle.gsl_valid_entry.proofs.Readings.{model_is}
use Rattle.gsl_valid_entry.proofs.stage.model_of.Goals as goal

pub returns : goal.returns
returns c =
    c.first_model.ensures ∙ ap model_from (c.new.ensures ∙ ap (λ (m : Module). placed m) (c.module.ensures ∙ c.definitions.ensures))
    ∙ model_is header_size c.args.decorations.now.instrs
