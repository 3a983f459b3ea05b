use Rattle.std.proofs.Common.{ap, ◌∙◌}
use Rattle.gsl_words.specs.declared.module.Module.{Module}
use Rattle.gsl_valid.specs.Placed.{placed, header_size}
use Rattle.gsl_valid_entry.specs.Reading.{modes_from}
use Rattle.gsl_valid_entry.proofs.Readings.{modes_are}
use Rattle.gsl_valid_entry.proofs.stage.modes_of.Goals as goal

pub returns : goal.returns
returns c =
    c.in_ok-modes.ensures ∙ ap modes_from (c.new.ensures ∙ ap (λ (m : Module). placed m) (c.module.ensures ∙ c.definitions.ensures))
    ∙ modes_are header_size c.args.decorations.now.instrs
